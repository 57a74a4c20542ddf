use Rattle.std.proofs.Common.{[], ◌∷◌, ◌++◌, sym, ap, ◌∙◌, List, ℕ}
use Rattle.std.proofs.lemmas.Slice.Eq.{strip_suffix_is}
use Rattle.std.proofs.lemmas.Bool.Decides.{Decides-eqb}
use Rattle.lg_params.specs.Places.{two_digits}
use Rattle.lg_params.proofs.PlaceLemmas.{marked_front, two_at_end_same}
use Rattle.lg_params.proofs.places.split_marked.Goals as goal

pub returns-in_err-marked : goal.returns-in_err-marked
returns-in_err-marked c =
    rw c.from_residual.ensures (λ front n small e.
    c.in_err-marked.ensures (front ++ c.args.mark ∷ []) n small (e ∙ marked_front front c.args.mark (two_digits n)))

pub returns-in_err-front : goal.returns-in_err-front
returns-in_err-front c =
    rw c.from_residual-in_err-front.ensures (λ front n small e.
    let whole = sym c.in_ok-marked.ensures.1 ∙ (e ∙ marked_front front c.args.mark (two_digits n)) in
    let same = two_at_end_same _ (front ++ c.args.mark ∷ []) _ n c.in_ok-marked.ensures.0 small whole in
    let stripped = strip_suffix_is Decides-eqb c.in_ok-marked.marked.now (c.args.mark ∷ []) c.strip_suffix.result c.strip_suffix.ensures.cases in
    let none = rw c.in_err-front.was at stripped in
    none front same.0)

pub returns : goal.returns
returns c =
    let stripped = strip_suffix_is Decides-eqb c.in_ok-marked.marked.now (c.args.mark ∷ []) c.strip_suffix.result c.strip_suffix.ensures.cases in
    let some = rw c.in_ok-front.was at stripped in (
      c.in_ok-marked.ensures.0,
      c.in_ok-marked.ensures.1 ∙ (ap (λ (t : List ℕ). t ++ two_digits c.in_ok-marked.n) some ∙ sym (marked_front c.in_ok-front.front.now c.args.mark (two_digits c.in_ok-marked.n))),
    )
