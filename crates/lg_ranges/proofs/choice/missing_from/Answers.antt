use Rattle.std.proofs.Common.{arith}
use Rattle.std.proofs.lemmas.Int.{ints}
use Rattle.lg_ranges.proofs.RequiredLemmas.{one_missing, one_present, all_seen}
use Rattle.lg_ranges.proofs.choice.missing_from.Goals as goal
use Rattle.lg_ranges.proofs.choice.missing_from.Goals.{then-is_missing+in_ok-push, else-is_missing}

pub loop-place-preserved : goal.loop-place-preserved
loop-place-preserved c =
    elim c.if-is_missing.branch [
      | then-is_missing+in_ok-push w ↦
          rw w.numbers-is
          (one_missing _ _ _ _ _ _ _ _ c.loop-place-test.true w.if-is_missing.true c.loop-place.invariant w.in_ok-push.ensures.items (omega (arith, ints)))
      | else-is_missing w ↦ rw w.numbers-is (one_present _ _ _ _ _ _ c.loop-place-test.true w.if-is_missing.false c.loop-place.invariant)
    ]

pub returns : goal.returns
returns c = all_seen _ _ _ _ _ c.loop-place-test.false (omega (arith, ints)) c.loop-place.invariant
