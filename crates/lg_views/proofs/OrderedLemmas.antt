-- What is put in the order of its keys is what a finite map of it has.
use Rattle.std.proofs.Common.{Ordering, Less, Equal, Greater, ◌≡◌, ℕ, ◌+◌, ◌<◌, Bool, true, false, cond, not, ◌&&◌, ◌||◌, T, List, [], ◌∷◌, map, length, get_or, Option, Some, None, is_some, refl, sym, ap, ◌∙◌, subst, is_lt, arith}
use Rattle.std.specs.Prelude.{All}
use Rattle.std.specs.Cmp.Lexicographic.{slice_cmp}
use Rattle.std.specs.FinMap.{entries, from_entries, from_sorted, find, is_sorted, same_map, get-from_sorted, get-from_entries, entries-from_sorted, nat_cmp-IsAntisymmetric, slice_cmp-IsAntisymmetric}
use Rattle.std.specs.FinMap.Entries.{below_all}
use Rattle.std.specs.List.{IsDistinct, AllByRecursion, list_any, list_all}
use Rattle.std.specs.List.Sorted.{IsPermutation, IsSortedBy, IsStrictlySortedBy}
use Rattle.std.specs.Ordering.{nat_cmp, is_eq, eq_by_cmp, ordering_reverse}
use Rattle.std.proofs.lemmas.Cmp.{nat_list_cmp_total, eq_by_cmp_equiv}
use Rattle.std.proofs.lemmas.List.{get_or-map, length-map}
use Rattle.std.proofs.lemmas.List.Elements.{All-cons, All-tail}
use Rattle.std.proofs.lemmas.List.Sorted.{IsPermutation-map, All-permutation, list_any-IsPermutation}
use Rattle.std.proofs.lemmas.Map.Keys.{IsDistinct-head, IsDistinct-tail, IsDistinct-cons, IsDistinct-IsPermutation, apart_from_distinct, sorted_from_all_adjacent}
use Rattle.lg_calls.specs.Order.{are_distinct, is_same}

-- the order of bytes, and its test of two texts
abbrev cmp : List ℕ → List ℕ → Ordering
cmp = slice_cmp nat_cmp

abbrev eq : List ℕ → List ℕ → Bool
eq = eq_by_cmp cmp

equal : (o : Ordering) → is_eq o ≡ true → o ≡ Equal
equal Less p = cc
equal Equal p = refl
equal Greater p = cc

one_text : (a b : List ℕ) → eq a b ≡ true → a ≡ b
one_text a b p = slice_cmp-IsAntisymmetric nat_cmp-IsAntisymmetric a b (equal _ p)

flips : (a b : List ℕ) → eq a b ≡ eq b a
flips a b = (eq_by_cmp_equiv nat_list_cmp_total).symm a b

less_left : (o : Ordering) → is_lt (ordering_reverse o) ≡ false → is_eq o ≡ false → o ≡ Less
less_left Less p q = refl
less_left Equal p q = cc
less_left Greater p q = cc

-- who isn't behind another and differs from it is before it
before : (a b : List ℕ) → is_lt (cmp b a) ≡ false → eq a b ≡ false → cmp a b ≡ Less
before a b p q = less_left (cmp a b) (sym (ap is_lt (nat_list_cmp_total.antisymm b a)) ∙ p) q

both : (a b : Bool) → T a → T b → T (a && b)
both true b p q = q
both false b p q = absurd p

either : (a b : Bool) → (a || b) ≡ true → a ≡ false → b ≡ true
either true b p q = cc
either false b p q = p

-- texts of which no two are the same
apart-cons : (text : List ℕ) (texts : List (List ℕ)) → list_all (λ other. not (is_same text other)) texts ≡ true → AllByRecursion (λ other. eq text other ≡ false) texts
apart-cons text [] h = tt
apart-cons text (other ∷ texts) h = (first_differs (is_same text other) _ h, apart-cons text texts (rest_differs (is_same text other) _ h))
  where
    first_differs : (same rest : Bool) → (not same && rest) ≡ true → same ≡ false
    first_differs true rest h = sym h
    first_differs false rest h = refl

    rest_differs : (same rest : Bool) → (not same && rest) ≡ true → rest ≡ true
    rest_differs true rest h = cc
    rest_differs false rest h = h

pub IsDistinct-texts : (texts : List (List ℕ)) → are_distinct texts ≡ true → IsDistinct eq texts
unfolding IsDistinct
IsDistinct-texts [] h = tt
IsDistinct-texts (text ∷ texts) h = IsDistinct-cons eq text texts (apart-cons text texts (first_of (list_all (λ other. not (is_same text other)) texts) _ h)) (IsDistinct-texts texts (second_of (list_all (λ other. not (is_same text other)) texts) _ h))
  where
    first_of : (a b : Bool) → (a && b) ≡ true → a ≡ true
    first_of true b p = refl
    first_of false b p = p

    second_of : (a b : Bool) → (a && b) ≡ true → b ≡ true
    second_of true b p = p
    second_of false b p = cc

module _ {X V : Type 0} (key : X → List ℕ) (value : X → V) where
  abbrev keys : List X → List (List ℕ)
  keys xs = map key xs

  abbrev pairs : List X → List (List ℕ × V)
  pairs xs = map (λ x. (key x, value x)) xs

  -- the keys of a sorted list rise where no two are the same
  keys_rise : (xs : List X) → IsSortedBy (λ x y. is_lt (cmp (key x) (key y))) xs → IsDistinct eq (keys xs) → IsStrictlySortedBy cmp (keys xs)
  unfolding IsStrictlySortedBy
  keys_rise [] sorted apart = tt
  keys_rise (x ∷ xs) sorted apart = sorted_from_all_adjacent nat_list_cmp_total (keys (x ∷ xs)) (key x) (λ k within.
      before (get_or (keys (x ∷ xs)) k (key x)) (get_or (keys (x ∷ xs)) (k + 1) (key x)) (next_not_before k within) (apart_from_distinct eq (keys (x ∷ xs)) k (k + 1) (key x) apart (omega arith) within))
    where
      next_not_before : (k : ℕ) → k + 1 < length (keys (x ∷ xs)) → is_lt (cmp (get_or (keys (x ∷ xs)) (k + 1) (key x)) (get_or (keys (x ∷ xs)) k (key x))) ≡ false
      next_not_before k within =
          let few : k + 1 < length (x ∷ xs) = subst (λ n. k + 1 < n) (length-map (x ∷ xs) key) within in
          let here : k < length (x ∷ xs) = omega (arith, few) in
          rw (get_or-map key (x ∷ xs) (k + 1) x (key x) few, get_or-map key (x ∷ xs) k x (key x) here) (sorted k x (omega arith) few)

  below : (k : List ℕ) (xs : List X) → AllByRecursion (λ y. cmp k y ≡ Less) (keys xs) → T (below_all cmp k (pairs xs))
  below k [] h = tt
  below k (x ∷ xs) h = both _ _ (subst (λ o. T (is_lt o)) (sym h.0) tt) (below k xs h.1)

  pairs_rise : (xs : List X) → IsStrictlySortedBy cmp (keys xs) → T (is_sorted cmp (pairs xs))
  unfolding IsStrictlySortedBy
  pairs_rise [] h = tt
  pairs_rise (x ∷ xs) h = both _ _ (below (key x) xs h.0) (pairs_rise xs h.1)

  -- who has the key has the value
  abbrev Gives : List ℕ → Option V → X → Type 0
  Gives q o x = eq q (key x) ≡ true → Some (value x) ≡ o

  abbrev answer : List ℕ → List X → Option V
  answer q xs = find cmp q (pairs xs)

  abbrev has : List ℕ → List X → Bool
  has q xs = list_any (λ x. eq q (key x)) xs

  none_gives : (q : List ℕ) (o : Option V) (xs : List X) → AllByRecursion (λ y. eq q y ≡ false) (keys xs) → All (Gives q o) xs
  none_gives q o [] apart = λ k d within. absurd (omega (arith, within))
  none_gives q o (x ∷ xs) apart = All-cons (Gives q o) x xs (λ h. let no = apart.0 in cc) (none_gives q o xs apart.1)

  first_gives : (o : Option V) (v : V) (b : Bool) → b ≡ true → Some v ≡ cond b (Some v) o
  first_gives o v true h = refl
  first_gives o v false h = cc

  rest_gives : (q : List ℕ) (x : X) (xs : List X) (b : Bool) → eq q (key x) ≡ b → AllByRecursion (λ y. eq (key x) y ≡ false) (keys xs) → All (Gives q (answer q xs)) xs → All (Gives q (cond b (Some (value x)) (answer q xs))) xs
  rest_gives q x xs true is apart rest = none_gives q _ xs (subst (λ k. AllByRecursion (λ y. eq k y ≡ false) (keys xs)) (sym (one_text q (key x) is)) apart)
  rest_gives q x xs false is apart rest = rest

  -- who has the key has the value that is found, where no two keys are the same
  gives : (q : List ℕ) (xs : List X) → IsDistinct eq (keys xs) → All (Gives q (answer q xs)) xs
  gives q [] apart = λ k d within. absurd (omega (arith, within))
  gives q (x ∷ xs) apart =
      All-cons (Gives q (answer q (x ∷ xs))) x xs (λ h. first_gives (answer q xs) (value x) (eq q (key x)) h)
      (rest_gives q x xs (eq q (key x)) refl (IsDistinct-head eq (key x) (keys xs) apart) (gives q xs (IsDistinct-tail eq (key x) (keys xs) apart)))

  no_answer : (o : Option V) → false ≡ is_some o → None ≡ o
  no_answer None h = refl
  no_answer (Some v) h = cc

  one_answer : (q : List ℕ) (o rest : Option V) (v : V) (b others : Bool) → (b ≡ true → Some v ≡ o) → (others ≡ is_some o → rest ≡ o) → (b || others) ≡ is_some o → cond b (Some v) rest ≡ o
  one_answer q o rest v true others here later h = here refl
  one_answer q o rest v false others here later h = later h

  answer_is : (q : List ℕ) (o : Option V) (xs : List X) → All (Gives q o) xs → has q xs ≡ is_some o → answer q xs ≡ o
  answer_is q o [] all h = no_answer o h
  answer_is q o (x ∷ xs) all h =
      one_answer q o (answer q xs) (value x) (eq q (key x)) (has q xs) (all 0 x (omega arith)) (λ k. answer_is q o xs (All-tail (Gives q o) x xs all) k) h

  is_some_first : (o : Option V) (v : V) (b others : Bool) → others ≡ is_some o → (b || others) ≡ is_some (cond b (Some v) o)
  is_some_first o v true others h = refl
  is_some_first o v false others h = h

  has_answer : (q : List ℕ) (xs : List X) → has q xs ≡ is_some (answer q xs)
  has_answer q [] = refl
  has_answer q (x ∷ xs) = is_some_first (answer q xs) (value x) (eq q (key x)) (has q xs) (has_answer q xs)

  same_answer : (xs ys : List X) → IsPermutation xs ys → IsDistinct eq (keys xs) → (q : List ℕ) → answer q ys ≡ answer q xs
  same_answer xs ys moved apart q =
      answer_is q (answer q xs) ys (All-permutation (Gives q (answer q xs)) xs ys moved (gives q xs apart))
      (sym (list_any-IsPermutation (λ x. eq q (key x)) xs ys moved) ∙ has_answer q xs)

  -- a sorted list is what the map of it has, where no two keys are the same
  pub entries_in_order : (xs ys : List X) → IsPermutation xs ys → IsSortedBy (λ x y. is_lt (cmp (key x) (key y))) ys → IsDistinct eq (keys xs) → pairs ys ≡ entries (from_entries {R = cmp} (pairs xs))
  entries_in_order xs ys moved sorted apart =
      let still : IsDistinct eq (keys ys) = IsDistinct-IsPermutation eq flips (keys xs) (keys ys) (IsPermutation-map key xs ys moved) apart in
      let rise : T (is_sorted cmp (pairs ys)) = pairs_rise ys (keys_rise ys sorted still) in
      sym (entries-from_sorted cmp (pairs ys) rise)
      ∙ ap entries (same_map nat_list_cmp_total (slice_cmp-IsAntisymmetric nat_cmp-IsAntisymmetric) (from_sorted (pairs ys)) (from_entries (pairs xs))
      (λ q. get-from_sorted cmp (pairs ys) q rise ∙ (same_answer xs ys moved apart q ∙ sym (get-from_entries nat_list_cmp_total (pairs xs) q))))
