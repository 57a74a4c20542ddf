use Rattle.std.proofs.Common.{◌≡◌, ℕ, List, [], ◌∷◌, ◌++◌, take, map, ap, ◌∙◌, arith}
use Rattle.std.specs.Prelude.{string_bytes}
use Rattle.lg_taskid.specs.TaskId.{safe_character}
use Rattle.lg_taskid.proofs.Summaries.{one_shown, step-first, step-later}
use Rattle.lg_taskid.proofs.summary.push_summary.Goals as goal
use Rattle.lg_taskid.proofs.summary.push_summary.Goals.{then-place-gt0+in_ok-push, else-place-gt0}

pub loop-place-preserved : goal.loop-place-preserved
loop-place-preserved c =
    let pairs : List (List ℕ × List ℕ) = take c.min.result c.args.pairs.now in
    let pair = c.index-shown-place.result in
    let start = string_bytes c.args.id.now in
    let was = string_bytes c.loop-place.id in
    let now = string_bytes c.push_beginning.new.id in
    let after : now ≡ string_bytes c.if-place-gt0.id ++ map safe_character (one_shown pair) = rw c.as_str.ensures.same at c.in_ok-push_beginning.ensures in
    elim c.if-place-gt0.branch [
      | then-place-gt0+in_ok-push w ↦
          let marked : string_bytes c.if-place-gt0.id ≡ was ++ 95 ∷ [] = rw w.id-is (w.in_ok-push.ensures.bytes ∙ ap (λ ys. was ++ ys) (w.in_ok-push.ensures.ascii (omega arith))) in
          step-later start was (string_bytes c.if-place-gt0.id) now pairs c.loop-place.place pair (omega arith) c.index-shown-place.is (omega arith) c.loop-place.invariant marked after
      | else-place-gt0 w ↦
          step-first start was now pairs c.loop-place.place pair (omega arith) c.index-shown-place.is (omega arith) c.loop-place.invariant (rw w.id-is at after)
    ]
