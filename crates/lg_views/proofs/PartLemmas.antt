-- Where a part stands in a text, the test finds it.
use Rattle.std.proofs.Common.{◌≡◌, ℕ, ◌==◌, Bool, true, false, ◌||◌, List, [], ◌∷◌, ◌++◌, refl, sym, ap, subst, eq-eqb}
use Rattle.std.proofs.lemmas.Bool.{eqb-true}
use Rattle.std.specs.Prelude.{◌↔◌}
use Rattle.std.specs.Cmp.{both_ways}
use Rattle.std.specs.Str.Iter.{HasSubslice}
use Rattle.lg_calls.specs.Views.TaskSearch.{begins_with, has_part}
use Rattle.lg_views.proofs.TestLemmas.{or-left, or-right, and-both, and-first, and-second}

begins-append : (part rest : List ℕ) → begins_with part (part ++ rest) ≡ true
begins-append [] rest = refl
begins-append (c ∷ part) rest = and-both (c == c) _ (eq-eqb c c refl) (begins-append part rest)

begins-split : (part text : List ℕ) → begins_with part text ≡ true → (rest : List ℕ) × (text ≡ part ++ rest)
begins-split [] text h = (text, refl)
begins-split (c ∷ part) [] h = cc
begins-split (c ∷ part) (d ∷ text) h =
    let more = begins-split part text (and-second (c == d) _ h) in
    (more.0, (λ i. sym (eqb-true c d (and-first (c == d) _ h)) i ∷ more.1 i))

begins-has : (part text : List ℕ) → begins_with part text ≡ true → has_part part text ≡ true
begins-has part [] h = h
begins-has part (c ∷ text) h = or-left (begins_with part (c ∷ text)) _ h

found-has : (part rest front text : List ℕ) → text ≡ front ++ (part ++ rest) → has_part part text ≡ true
found-has part rest [] text e = begins-has part text (subst (λ t. begins_with part t ≡ true) (sym e) (begins-append part rest))
found-has part rest (c ∷ front) text e =
    subst (λ t. has_part part t ≡ true) (sym e)
    (or-right (begins_with part (c ∷ (front ++ (part ++ rest)))) _ (found-has part rest front (front ++ (part ++ rest)) refl))

here_or_later : (part text : List ℕ) (c : ℕ) (b : Bool) → begins_with part (c ∷ text) ≡ b → (has_part part text ≡ true → HasSubslice text part) → (b || has_part part text) ≡ true → HasSubslice (c ∷ text) part
here_or_later part text c true is later h = let split = begins-split part (c ∷ text) is in ([], split.0, split.1)
here_or_later part text c false is later h = let found = later h in (c ∷ found.0, found.1, ap (λ rest. c ∷ rest) found.2)

has-found : (part text : List ℕ) → has_part part text ≡ true → HasSubslice text part
has-found part [] h = let split = begins-split part [] h in ([], split.0, split.1)
has-found part (c ∷ text) h = here_or_later part text c (begins_with part (c ∷ text)) refl (has-found part text) h

-- an answer that tells where the part stands is that of the test
pub answer-has : (part text : List ℕ) (answer : Bool) → (answer ≡ true) ↔ HasSubslice text part → answer ≡ has_part part text
answer-has part text answer tells =
    both_ways answer (has_part part text)
    (λ yes. let found = tells.0 yes in found-has part found.1 found.0 text found.2)
    (λ has. tells.1 (has-found part text has))
