-- Where an item is put in the order of keys.
use Rattle.std.proofs.Common.{Ordering, Less, Equal, Greater, ◌≡◌, ℕ, suc, ◌+◌, ◌<◌, Bool, true, false, cond, not, List, [], ◌∷◌, ◌++◌, length, get_or, set, Some, None, refl, sym, ap, subst, ◌∙◌, arith}
use Rattle.std.specs.List.{position, position_from, insert}
use Rattle.std.specs.BTreeSet.{replace_key}
use Rattle.std.specs.Ordering.{is_eq, is_gt, match_ordering}
use Rattle.std.proofs.lemmas.Bool.{false≢true}
use Rattle.std.proofs.lemmas.Iterator.Adapters.{position_from-zero}

none≢some : {X : Type 0} (x : X) → None ≡ Some x → ⊥
none≢some x e = cc

module _ {X : Type 0} (cmp : X → X → Ordering) (item : X) where
  -- an element isn't before the item
  abbrev not_before : X → Bool
  not_before x = not (is_gt (cmp item x))

  last-step : (x : X) (xs : List X) (j : ℕ) (o : Ordering)
      → (position_from not_before (j + 1) xs ≡ None → replace_key cmp xs item ≡ xs ++ item ∷ [])
      → cond (not (is_gt o)) (Some j) (position_from not_before (j + 1) xs) ≡ None
      → match_ordering o (item ∷ x ∷ xs) (item ∷ xs) (x ∷ replace_key cmp xs item) ≡ x ∷ (xs ++ item ∷ [])
  last-step x xs j Less behind none = absurd (none≢some j (sym none))
  last-step x xs j Equal behind none = absurd (none≢some j (sym none))
  last-step x xs j Greater behind none = ap (λ l. x ∷ l) (behind none)

  -- where all are before the item it goes behind them
  last-from : (xs : List X) (j : ℕ) → position_from not_before j xs ≡ None → replace_key cmp xs item ≡ xs ++ item ∷ []
  last-from [] j none = refl
  last-from (x ∷ xs) j none = last-step x xs j (cmp item x) (last-from xs (j + 1)) none

  -- what putting the item at a place comes to
  pub record IsPutAt (xs : List X) (place : ℕ) : Type 0 where
    pub inside : place < length xs
    pub same : is_eq (cmp item (get_or xs place item)) ≡ true → replace_key cmp xs item ≡ set xs place item
    pub apart : is_eq (cmp item (get_or xs place item)) ≡ false → replace_key cmp xs item ≡ insert xs place item

  replaced : (x : X) (xs : List X) (o : Ordering) → cmp item x ≡ o
      → replace_key cmp (x ∷ xs) item ≡ match_ordering o (item ∷ x ∷ xs) (item ∷ xs) (x ∷ replace_key cmp xs item)
  replaced x xs o e = ap (λ v. match_ordering v (item ∷ x ∷ xs) (item ∷ xs) (x ∷ replace_key cmp xs item)) e

  abbrev Placing : List X → ℕ → ℕ → Type 0
  Placing xs j i = (n : ℕ) × (i ≡ j + n) × IsPutAt xs n

  put-step : (x : X) (xs : List X) (j i : ℕ) (o : Ordering) → cmp item x ≡ o
      → (position_from not_before (j + 1) xs ≡ Some i → Placing xs (j + 1) i)
      → cond (not (is_gt o)) (Some j) (position_from not_before (j + 1) xs) ≡ Some i → Placing (x ∷ xs) j i
  put-step x xs j i Less e behind found =
      let first : j ≡ i = cc in
      let here : is_eq (cmp item x) ≡ false = ap is_eq e in (
        0,
        omega arith,
        record {
          inside = omega arith;
          same = λ same. absurd (false≢true (sym here ∙ same));
          apart = λ apart. replaced x xs Less e;
        },
      )
  put-step x xs j i Equal e behind found =
      let first : j ≡ i = cc in
      let here : is_eq (cmp item x) ≡ true = ap is_eq e in (
        0,
        omega arith,
        record {
          inside = omega arith;
          same = λ same. replaced x xs Equal e;
          apart = λ apart. absurd (false≢true (sym apart ∙ here));
        },
      )
  put-step x xs j i Greater e behind found =
      let rest = behind found in (
        suc rest.0,
        omega (arith, rest.1),
        record {
          inside = omega (arith, rest.2.inside);
          same = λ same. replaced x xs Greater e ∙ ap (λ l. x ∷ l) (rest.2.same same);
          apart = λ apart. replaced x xs Greater e ∙ ap (λ l. x ∷ l) (rest.2.apart apart);
        },
      )

  put-from : (xs : List X) (j i : ℕ) → position_from not_before j xs ≡ Some i → Placing xs j i
  put-from [] j i found = absurd (none≢some i found)
  put-from (x ∷ xs) j i found = put-step x xs j i (cmp item x) refl (put-from xs (j + 1) i) found

  pub put-last : (xs : List X) → position not_before xs ≡ None → replace_key cmp xs item ≡ xs ++ item ∷ []
  put-last xs none = last-from xs 0 (sym (position_from-zero not_before xs) ∙ none)

  pub put-at : (xs : List X) (i : ℕ) → position not_before xs ≡ Some i → IsPutAt xs i
  put-at xs i found =
      let put = put-from xs 0 i (sym (position_from-zero not_before xs) ∙ found) in
      let same : put.0 ≡ i = omega (arith, put.1) in
      subst (IsPutAt xs) same put.2
