-- What tests of each pair of a list come to, and when two texts are the same.
use Rattle.std.proofs.Common.{Ordering, Less, Equal, Greater, ◌≡◌, ◌≢◌, refl, sym, ap, ◌∙◌, ℕ, Bool, true, false, cond, ◌&&◌, List, [], ◌∷◌, ◌++◌, map}
use Rattle.std.specs.List.{list_all, filter}
use Rattle.std.specs.Ordering.{is_eq}
use Rattle.std.specs.Cmp.{tied_itself}
use Rattle.std.specs.Cmp.Lexicographic.{nat_list_cmp_total}
use Rattle.std.specs.FinMap.{nat_cmp-IsAntisymmetric, slice_cmp-IsAntisymmetric}
use Rattle.lg_calls.specs.Order.{is_same, all_pairs}

pub both : (a b : Bool) → a ≡ true → b ≡ true → (a && b) ≡ true
both true b p q = q
both false b p q = p

pub first_of_both : (a b : Bool) → (a && b) ≡ true → a ≡ true
first_of_both true b p = refl
first_of_both false b p = p

pub second_of_both : (a b : Bool) → (a && b) ≡ true → b ≡ true
second_of_both true b p = p
second_of_both false b p = cc

equal : (o : Ordering) → is_eq o ≡ true → o ≡ Equal
equal Less p = cc
equal Equal p = refl
equal Greater p = cc

-- texts of the same bytes are one text
pub same-is : (one other : List ℕ) → is_same one other ≡ true → one ≡ other
same-is one other p = slice_cmp-IsAntisymmetric nat_cmp-IsAntisymmetric one other (equal _ p)

pub same-itself : (text : List ℕ) → is_same text text ≡ true
same-itself text = ap is_eq (tied_itself nat_list_cmp_total text)

pub same-along : (one other : List ℕ) → one ≡ other → is_same one other ≡ true
same-along one other e = ap (λ text. is_same one text) (sym e) ∙ same-itself one

differs : (one other : List ℕ) → one ≢ other → (b : Bool) → is_same one other ≡ b → b ≡ false
differs one other apart true e = absurd (apart (same-is one other e))
differs one other apart false e = refl

pub same-not : (one other : List ℕ) → one ≢ other → is_same one other ≡ false
same-not one other apart = differs one other apart (is_same one other) refl

both_same : (one other : List ℕ) (a b : Bool) → is_same one other ≡ a → is_same other one ≡ b → a ≡ b
both_same one other true true p q = refl
both_same one other true false p q = sym (same-along other one (sym (same-is one other p))) ∙ q
both_same one other false true p q = sym p ∙ same-along one other (sym (same-is other one q))
both_same one other false false p q = refl

pub same-sym : (one other : List ℕ) → is_same one other ≡ is_same other one
same-sym one other = both_same one other _ _ refl refl

module _ {X : Type 0} where
  pub list_all-filter : (p stays : X → Bool) (xs : List X) → list_all p xs ≡ true → list_all p (filter stays xs) ≡ true
  list_all-filter p stays [] h = refl
  list_all-filter p stays (x ∷ xs) h =
      let rest = list_all-filter p stays xs (second_of_both _ _ h) in
      elim (stays x) as (λ b. list_all p (cond b (x ∷ filter stays xs) (filter stays xs)) ≡ true) [ true ↦ both _ _ (first_of_both _ _ h) rest | false ↦ rest ]

  pub list_all-push : (p : X → Bool) (xs : List X) (y : X) → list_all p xs ≡ true → p y ≡ true → list_all p (xs ++ y ∷ []) ≡ true
  list_all-push p [] y h k = both _ _ k refl
  list_all-push p (x ∷ xs) y h k = both _ _ (first_of_both _ _ h) (list_all-push p xs y (second_of_both _ _ h) k)

  -- a list whose pairs pass goes on passing where elements go
  pub all_pairs-filter : (test : X → X → Bool) (stays : X → Bool) (xs : List X) → all_pairs test xs ≡ true → all_pairs test (filter stays xs) ≡ true
  all_pairs-filter test stays [] h = refl
  all_pairs-filter test stays (x ∷ xs) h =
      let rest = all_pairs-filter test stays xs (second_of_both _ _ h) in
      let kept = list_all-filter (test x) stays xs (first_of_both _ _ h) in
      elim (stays x) as (λ b. all_pairs test (cond b (x ∷ filter stays xs) (filter stays xs)) ≡ true) [ true ↦ both _ _ kept rest | false ↦ rest ]

  -- and where an element comes that passes behind each
  pub all_pairs-push : (test : X → X → Bool) (xs : List X) (y : X) → all_pairs test xs ≡ true → list_all (λ x. test x y) xs ≡ true → all_pairs test (xs ++ y ∷ []) ≡ true
  all_pairs-push test [] y h k = refl
  all_pairs-push test (x ∷ xs) y h k =
      both _ _ (list_all-push (test x) xs y (first_of_both _ _ h) (first_of_both _ _ k)) (all_pairs-push test xs y (second_of_both _ _ h) (second_of_both _ _ k))

module _ {X Y : Type 0} where
  all-map : (f : X → Y) (p : Y → Bool) (xs : List X) → list_all p (map f xs) ≡ list_all (λ x. p (f x)) xs
  all-map f p [] = refl
  all-map f p (x ∷ xs) = ap (λ rest. p (f x) && rest) (all-map f p xs)

  -- the pairs of what a function gives are the pairs of what it is given
  pub all_pairs-map : (f : X → Y) (test : Y → Y → Bool) (xs : List X) → all_pairs test (map f xs) ≡ all_pairs (λ one other. test (f one) (f other)) xs
  all_pairs-map f test [] = refl
  all_pairs-map f test (x ∷ xs) = λ i. all-map f (test (f x)) xs i && all_pairs-map f test xs i
