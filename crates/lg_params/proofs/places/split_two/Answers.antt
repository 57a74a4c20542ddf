use Rattle.std.proofs.Common.{ℕ, drop, arith, ap, ◌∙◌}
use Rattle.std.proofs.lemmas.Slice.{between_to_end}
use Rattle.lg_params.proofs.PlaceLemmas.{two_at_end}
use Rattle.lg_params.proofs.places.split_two.Goals as goal

pub returns-in_err-front : goal.returns-in_err-front
returns-in_err-front c =
    rw c.from_residual.ensures (λ front n small e.
    let at = two_at_end _ front n e in c.in_err-front.ensures (omega arith))

pub returns-in_err-n : goal.returns-in_err-n
returns-in_err-n c =
    rw c.from_residual-in_err-n.ensures (λ front n small e.
    let at = two_at_end _ front n e in
    c.in_err-n.ensures n small
    (between_to_end _ c.in_ok-front.front _ (omega arith) ∙ (ap (λ (k : ℕ). drop k c.args.bytes.now) (omega arith) ∙ at.1)))
