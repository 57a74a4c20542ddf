-- When two texts are one, and what a list that is changed in place was before.
use Rattle.std.proofs.Common.{Ordering, Less, Equal, Greater, ◌≡◌, ℕ, ◌<◌, true, List, ◌++◌, map, take, drop, length, get_or, refl, ap, ◌∙◌, arith}
use Rattle.std.specs.Ordering.{nat_cmp, is_eq}
use Rattle.std.specs.Cmp.Lexicographic.{slice_cmp}
use Rattle.std.specs.FinMap.{nat_cmp-IsAntisymmetric, slice_cmp-IsAntisymmetric}
use Rattle.std.proofs.lemmas.List.{length-map, length-take, drop_more, get_or_at}
use Rattle.lg_calls.specs.Order.{is_same}

equal : (o : Ordering) → is_eq o ≡ true → o ≡ Equal
equal Less e = cc
equal Equal e = refl
equal Greater e = cc

-- texts of the same bytes are one text
pub same-is : (one other : List ℕ) → is_same one other ≡ true → one ≡ other
same-is one other e = slice_cmp-IsAntisymmetric nat_cmp-IsAntisymmetric one other (equal (slice_cmp nat_cmp one other) e)

-- the element of a list that is changed in place is that of the list as it was
pub read-initially : {X : Type 0} (f : X → X) (xs ys : List X) (i : ℕ) (x : X) → i < length xs → ys ≡ map f (take i xs) ++ drop i xs → x ≡ get_or ys i x → x ≡ get_or xs i x
read-initially f xs ys i x inside changed here =
    let front = map f (take i xs) in
    let long : length front ≡ i = length-map (take i xs) f ∙ omega (arith, length-take i xs) in
    here ∙ ap (λ l. get_or l i x) (changed ∙ ap (λ l. front ++ l) (drop_more xs i x inside)) ∙ get_or_at front _ _ x i long
