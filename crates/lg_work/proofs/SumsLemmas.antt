-- Amounts that are added up by their names.
use Rattle.std.proofs.Common.{Ordering, Less, Equal, Greater, ◌≡◌, ℕ, zero, suc, ◌+◌, ◌-◌, ◌^◌, ◌<◌, Bool, true, false, ◌&&◌, T, List, [], ◌∷◌, ◌++◌, take, length, get_or, set, Option, Some, None, cond, refl, sym, ap, ◌∙◌, subst, is_lt, arith}
use Rattle.std.specs.Cmp.Lexicographic.{slice_cmp, nat_list_cmp_total}
use Rattle.std.specs.FinMap.{entries, entries_sorted, get-entries, is_sorted}
use Rattle.std.specs.FinMap.Entries.{below_all}
use Rattle.std.specs.FinMap.Entries as pairs
use Rattle.std.specs.List.{AllByRecursion, find, position, position_from}
use Rattle.std.specs.Option.{option_map_or}
use Rattle.std.specs.Ordering.{nat_cmp, is_eq, ordering_reverse}
use Rattle.std.specs.Prelude.{unwrap_or}
use Rattle.std.proofs.lemmas.Iterator.Adapters.{position_from-zero}
use Rattle.std.proofs.lemmas.List.Quantifiers.{position-Some}
use Rattle.std.proofs.lemmas.List.{take_more}
use Rattle.std.proofs.lemmas.Option.{none-some}
use Rattle.lg_base.specs.Amounts.{AmountsByName, amount_of}
use Rattle.lg_calls.specs.Order.{is_same}
use Rattle.lg_work.specs.Sums.{sum_in}
use Rattle.lg_work.proofs.TextLemmas.{same-is}

abbrev Pairs : Type 0
Pairs = List (List ℕ × ℕ)

abbrev added_at : List ℕ → ℕ → List ℕ → ℕ
added_at name amount other = cond (is_same other name) amount 0

-- a text that is the same as another isn't the same as what differs from that
apart_too : (name key other : List ℕ) (b : Bool) → is_same name key ≡ false → is_same other key ≡ true → is_same other name ≡ b → b ≡ false
apart_too name key other false differs same is = refl
apart_too name key other true differs same is =
    let key_is : other ≡ key = same-is other key same in
    let name_is : other ≡ name = same-is other name is in
    sym (ap (λ text. is_same text key) (sym name_is) ∙ same) ∙ differs

-- ---- one name more

sum_first : (b : Bool) (amount rest : ℕ) (key : List ℕ) (found : Option (List ℕ × ℕ)) → option_map_or (λ pair. pair.1) found 0 ≡ rest
    → option_map_or (λ pair. pair.1) (cond b (Some (key, amount)) found) 0 ≡ cond b amount rest
sum_first true amount rest key found is = refl
sum_first false amount rest key found is = is

-- what the pairs have, one pair before the others
sum-cons : (key : List ℕ) (amount : ℕ) (xs : Pairs) (other : List ℕ) → sum_in ((key, amount) ∷ xs) other ≡ cond (is_same other key) amount (sum_in xs other)
sum-cons key amount xs other = sum_first (is_same other key) amount (sum_in xs other) key (find (λ pair. is_same other pair.0) xs) refl

first_more : (b : Bool) (had more rest : ℕ) → cond b (had + more) rest ≡ cond b had rest + cond b more 0
first_more true had more rest = refl
first_more false had more rest = omega arith

rest_more : (b c : Bool) (had more rest grown : ℕ) → (b ≡ true → c ≡ false) → grown ≡ rest + cond c more 0 → cond b had grown ≡ cond b had rest + cond c more 0
rest_more true true had more rest grown apart is = let no = apart refl in cc
rest_more true false had more rest grown apart is = omega arith
rest_more false c had more rest grown apart is = is

sum-set : (name : List ℕ) (amount : ℕ) (xs : Pairs) (i : ℕ) (d : List ℕ × ℕ) → i < length xs → is_same name (get_or xs i d).0 ≡ true
    → ((k : ℕ) → k < i → is_same name (get_or xs k d).0 ≡ false)
    → (other : List ℕ) → sum_in (set xs i ((get_or xs i d).0, (get_or xs i d).1 + amount)) other ≡ sum_in xs other + added_at name amount other
sum-set name amount [] i d inside here before other = absurd (omega (arith, inside))
sum-set name amount (x ∷ xs) zero d inside here before other =
    let same : name ≡ x.0 = same-is name x.0 here in
    sum-cons x.0 (x.1 + amount) xs other
    ∙ first_more (is_same other x.0) x.1 amount (sum_in xs other)
    ∙ ap (λ sum. sum + added_at x.0 amount other) (sym (sum-cons x.0 x.1 xs other))
    ∙ ap (λ text. sum_in (x ∷ xs) other + added_at text amount other) (sym same)
sum-set name amount (x ∷ xs) (suc i) d inside here before other =
    let differs = before 0 (omega arith) in
    let rest = sum-set name amount xs i d (omega (arith, inside)) here (λ k lower. before (suc k) (omega (arith, lower))) other in
    sum-cons x.0 x.1 (set xs i ((get_or xs i d).0, (get_or xs i d).1 + amount)) other
    ∙ rest_more (is_same other x.0) (is_same other name) x.1 amount (sum_in xs other) _ (λ same. apart_too name x.0 other _ differs same refl) rest
    ∙ ap (λ sum. sum + added_at name amount other) (sym (sum-cons x.0 x.1 xs other))

-- no pair has the name
abbrev pub HasNone : List ℕ → Pairs → Type 0
HasNone name xs = AllByRecursion (λ pair. is_same name pair.0 ≡ false) xs

sum-push : (name : List ℕ) (amount : ℕ) (xs : Pairs) → HasNone name xs → (other : List ℕ)
    → sum_in (xs ++ (name, amount) ∷ []) other ≡ sum_in xs other + added_at name amount other
sum-push name amount [] none other = sum-cons name amount [] other ∙ omega arith
sum-push name amount (x ∷ xs) none other =
    sum-cons x.0 x.1 (xs ++ (name, amount) ∷ []) other
    ∙ rest_more (is_same other x.0) (is_same other name) x.1 amount (sum_in xs other) _ (λ same. apart_too name x.0 other _ none.0 same refl) (sum-push name amount xs none.1 other)
    ∙ ap (λ sum. sum + added_at name amount other) (sym (sum-cons x.0 x.1 xs other))

none_first : (b : Bool) (j : ℕ) (rest : Option ℕ) → cond b (Some j) rest ≡ None → (b ≡ false) × (rest ≡ None)
none_first true j rest e = absurd (none-some j (sym e))
none_first false j rest e = (refl, e)

none-from : (name : List ℕ) (xs : Pairs) (j : ℕ) → position_from (λ pair. is_same name pair.0) j xs ≡ None → HasNone name xs
none-from name [] j e = tt
none-from name (x ∷ xs) j e =
    let first = none_first (is_same name x.0) j (position_from (λ pair. is_same name pair.0) (j + 1) xs) e in
    (first.0, none-from name xs (j + 1) first.1)

-- an amount is added to what is there of its name
pub added_there : (name : List ℕ) (amount : ℕ) (before after : Pairs) (i : ℕ) (d : List ℕ × ℕ) → position (λ pair. is_same name pair.0) before ≡ Some i
    → after ≡ set before i ((get_or before i d).0, (get_or before i d).1 + amount)
    → (other : List ℕ) → sum_in after other ≡ sum_in before other + added_at name amount other
added_there name amount before after i d found grown other =
    let at = position-Some (λ pair. is_same name pair.0) before i d found in
    ap (λ xs. sum_in xs other) grown ∙ sum-set name amount before i d at.0 at.1 at.2 other

-- and one of a new name is put behind the others
pub added_new : (name : List ℕ) (amount : ℕ) (before after : Pairs) → position (λ pair. is_same name pair.0) before ≡ None
    → after ≡ before ++ (name, amount) ∷ []
    → (other : List ℕ) → sum_in after other ≡ sum_in before other + added_at name amount other
added_new name amount before after none grown other =
    ap (λ xs. sum_in xs other) grown
    ∙ sum-push name amount before (none-from name before 0 (sym (position_from-zero (λ pair. is_same name pair.0) before) ∙ none)) other

sum-at : (name : List ℕ) (xs : Pairs) (i : ℕ) (d : List ℕ × ℕ) → i < length xs → is_same name (get_or xs i d).0 ≡ true
    → ((k : ℕ) → k < i → is_same name (get_or xs k d).0 ≡ false) → sum_in xs name ≡ (get_or xs i d).1
sum-at name [] i d inside here before = absurd (omega (arith, inside))
sum-at name (x ∷ xs) zero d inside here before = sum-cons x.0 x.1 xs name ∙ ap (λ b. cond b x.1 (sum_in xs name)) here
sum-at name (x ∷ xs) (suc i) d inside here before =
    sum-cons x.0 x.1 xs name ∙ ap (λ b. cond b x.1 (sum_in xs name)) (before 0 (omega arith))
    ∙ sum-at name xs i d (omega (arith, inside)) here (λ k lower. before (suc k) (omega (arith, lower)))

-- what stands at the place of a name is what there is of it
pub sum_there : (name : List ℕ) (xs : Pairs) (i : ℕ) (d : List ℕ × ℕ) → position (λ pair. is_same name pair.0) xs ≡ Some i → (get_or xs i d).1 ≡ sum_in xs name
sum_there name xs i d found =
    let at = position-Some (λ pair. is_same name pair.0) xs i d found in
    sym (sum-at name xs i d at.0 at.1 at.2)

-- ---- amounts by name, one behind another

abbrev cmp : List ℕ → List ℕ → Ordering
cmp = slice_cmp nat_cmp

both_hold : (a b : Bool) → T (a && b) → T a × T b
both_hold true b h = (tt, h)
both_hold false b h = absurd h

above : (o : Ordering) → T (is_lt o) → is_eq (ordering_reverse o) ≡ false
above Less h = refl
above Equal h = absurd h
above Greater h = absurd h

-- who is behind another isn't it
behind_one : (x y : List ℕ) → T (is_lt (cmp x y)) → is_same y x ≡ false
behind_one x y lower = ap is_eq (nat_list_cmp_total.antisymm y x) ∙ above (cmp x y) lower

below_each : (x : List ℕ) (xs : Pairs) (i : ℕ) (d : List ℕ × ℕ) → T (below_all cmp x xs) → i < length xs → is_same (get_or xs i d).0 x ≡ false
below_each x [] i d below inside = absurd (omega (arith, inside))
below_each x (y ∷ xs) zero d below inside = behind_one x y.0 (both_hold _ _ below).0
below_each x (y ∷ xs) (suc i) d below inside = below_each x xs i d (both_hold _ _ below).1 (omega (arith, inside))

-- no name stands twice: none of those before one is it
none_before : (xs : Pairs) (i : ℕ) (d : List ℕ × ℕ) → T (is_sorted cmp xs) → i < length xs → HasNone (get_or xs i d).0 (take i xs)
none_before [] i d up inside = absurd (omega (arith, inside))
none_before (x ∷ xs) zero d up inside = tt
none_before (x ∷ xs) (suc i) d up inside =
    (below_each x.0 xs i d (both_hold _ _ up).0 (omega (arith, inside)), none_before xs i d (both_hold _ _ up).1 (omega (arith, inside)))

none_there : (name : List ℕ) (xs : Pairs) → HasNone name xs → sum_in xs name ≡ 0
none_there name [] none = refl
none_there name (x ∷ xs) none = sum-cons x.0 x.1 xs name ∙ ap (λ b. cond b x.1 (sum_in xs name)) none.0 ∙ none_there name xs none.1

found_or : (b : Bool) (amount : ℕ) (found : Option ℕ) → unwrap_or (cond b (Some amount) found) 0 ≡ cond b amount (unwrap_or found 0)
found_or true amount found = refl
found_or false amount found = refl

sum-found : (name : List ℕ) (xs : Pairs) → unwrap_or (pairs.find cmp name xs) 0 ≡ sum_in xs name
sum-found name [] = refl
sum-found name (x ∷ xs) =
    found_or (is_same name x.0) x.1 (pairs.find cmp name xs) ∙ ap (λ rest. cond (is_same name x.0) x.1 rest) (sum-found name xs) ∙ sym (sum-cons x.0 x.1 xs name)

-- the amount of a name is what the entries have of it
pub sum_in_entries : (amounts : AmountsByName) (name : List ℕ) → sum_in (entries amounts) name ≡ amount_of amounts name
sum_in_entries amounts name = sym (ap (λ found. unwrap_or found 0) (get-entries amounts name) ∙ sum-found name (entries amounts))

-- of the next name nothing was before, and it comes to those before it
pub record IsNextEntry (amounts : AmountsByName) (i : ℕ) (pair : List ℕ × ℕ) : Type 0 where
  pub nothing_before : sum_in (take i (entries amounts)) pair.0 ≡ 0
  pub grows : (other : List ℕ) → sum_in (take (i + 1) (entries amounts)) other ≡ sum_in (take i (entries amounts)) other + added_at pair.0 pair.1 other

pub next_entry : (amounts : AmountsByName) (i : ℕ) (pair : List ℕ × ℕ) → i < length (entries amounts) → pair ≡ get_or (entries amounts) i pair → IsNextEntry amounts i pair
next_entry amounts i pair inside here =
    let xs = entries amounts in
    let none : HasNone pair.0 (take i xs) = subst (λ (p : List ℕ × ℕ). HasNone p.0 (take i xs)) (sym here) (none_before xs i pair (entries_sorted amounts) inside) in
    record {
      nothing_before = none_there pair.0 (take i xs) none;
      grows = λ other.
          ap (λ ys. sum_in ys other) (take_more xs i pair inside ∙ ap (λ p. take i xs ++ p ∷ []) (sym here)) ∙ sum-push pair.0 pair.1 (take i xs) none other;
    }

small_more : (b : Bool) (had amount : ℕ) → (b ≡ true → had ≡ 0) → had < 2 ^ 32 → amount < 2 ^ 32 → had + cond b amount 0 < 2 ^ 32
small_more true had amount none low lower = let none_yet = none refl in omega (arith, none_yet, lower)
small_more false had amount none low lower = omega (arith, low)

-- what the entries have of each name is as small as each amount
pub small_next : (amounts : AmountsByName) (i : ℕ) (pair : List ℕ × ℕ) → IsNextEntry amounts i pair → pair.1 < 2 ^ 32
    → ((name : List ℕ) → sum_in (take i (entries amounts)) name < 2 ^ 32) → (name : List ℕ) → sum_in (take (i + 1) (entries amounts)) name < 2 ^ 32
small_next amounts i pair next lower small name =
    subst (λ n. n < 2 ^ 32) (sym (next.grows name))
    (small_more (is_same name pair.0) (sum_in (take i (entries amounts)) name) pair.1
    (λ same. ap (sum_in (take i (entries amounts))) (same-is name pair.0 same) ∙ next.nothing_before) (small name) lower)
