use Rattle.std.proofs.Common.{ℕ, ◌+◌, ◌∙◌, sym, ap, length, length-append, arith}
use Rattle.lg_json.specs.Capped.{capped}
use Rattle.lg_json.proofs.Parts.{left_from, next_part, no_part_left, length_added}
use Rattle.lg_json.proofs.escapes.parts_length.Goals as goal

pub loop-part-preserved : goal.loop-part-preserved
loop-part-preserved c =
    let next = next_part c.args.parts.now c.loop-part.part-index _ c.loop-part-test.true c.escaped_length.ensures.utf8 in
    record {
      fits = omega (arith, c.saturating_add-total.ensures);
      whole = length_added _ _ _ _ (length (left_from c.args.parts.now (c.loop-part.part-index + 1))) c.escaped_length.ensures.size c.saturating_add-total.ensures
          ∙ ap (λ (n : ℕ). capped (c.loop-part.total + n)) (sym (ap length next ∙ length-append _ _))
          ∙ c.loop-part.invariant.whole;
    }

pub returns : goal.returns
returns c =
    let none = ap length (no_part_left c.args.parts.now c.loop-part.part-index c.loop-part-test.false) in
    omega (arith, none, c.loop-part.invariant.whole, c.loop-part.invariant.fits)
