use Rattle.std.proofs.Common.{refl, arith}
use Rattle.std.proofs.lemmas.Grind.{common_steps}
use Rattle.lg_base.proofs.amounts.Amounts.fits.Goals as goal

pub loop-name-preserved : goal.loop-name-preserved
loop-name-preserved g c taken_of answers k d before = grind (arith, common_steps, c.loop-name.invariant taken_of answers k d, c.loop-name-item.is, answers _ _ c.taken.ensures)

pub returns : goal.returns
returns g c taken_of answers = (λ _ k d in_range. grind (arith, common_steps, c.loop-name.invariant taken_of answers k d), λ _. refl)
