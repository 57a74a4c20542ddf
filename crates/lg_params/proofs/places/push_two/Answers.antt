use Rattle.std.proofs.Common.{ℕ, [], ◌∷◌, arith, ap, ◌∙◌}
use Rattle.lg_params.specs.Places.{two_digits}
use Rattle.lg_params.proofs.PlaceLemmas.{pushed_two}
use Rattle.lg_params.proofs.places.push_two.Goals as goal

pub returns : goal.returns
unfolding two_digits
returns c =
    pushed_two _ _ _ _ _ _ _ _ c.in_ok-push.ensures.bytes c.push-2.ensures.bytes
    (c.push.ensures.ascii (omega arith) ∙ ap (λ (b : ℕ). b ∷ []) c.from.ensures)
    (c.push-2.ensures.ascii (omega arith) ∙ ap (λ (b : ℕ). b ∷ []) c.from-2.ensures)
