use Rattle.std.proofs.Common.{◌≡◌, ℕ, ◌≤◌, ◌-◌, length, List, ◌++◌, take, drop, arith, ◌∙◌}
use Rattle.std.proofs.lemmas.Grind.{common_steps}
use Rattle.lg_io.proofs.Writes.{Takes-append}
use Rattle.lg_io.proofs.whole.write_all.Goals as goal

-- what was taken goes to the front of the piece
front_grows : (piece front left : List ℕ) (count rest : ℕ) → piece ≡ front ++ left → count ≤ length left → rest ≡ length left - count
    → piece ≡ (front ++ take count left) ++ take rest (drop count left)
front_grows piece front left count rest split fits is = grind (arith, common_steps)

pub loop-left-preserved : goal.loop-left-preserved
loop-left-preserved g c =
    let before = c.loop-left.invariant.front in
    record {
      front = (
        before.0 ++ take c.in-Took.count c.loop-left.left.now,
        front_grows _ before.0 c.loop-left.left.now c.in-Took.count _ before.1 (omega (arith, c.in-Took.ensures.count)) (omega arith),
        Takes-append _ _ _ before.0 _ before.2 c.in-Took.ensures.told,
      );
      faults = grind (arith, common_steps);
      rest = c.write.ensures.rest ∙ c.loop-left.invariant.rest;
    }
