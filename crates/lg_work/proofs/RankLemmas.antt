-- Tasks that are sorted by rank stand as the definition has them: two lists of the same tasks in one order are one list.
use Rattle.std.proofs.Common.{Ordering, Less, Equal, Greater, ◌≡◌, ◌≢◌, ℕ, zero, suc, ◌+◌, ◌<◌, Bool, true, false, cond, ◌&&◌, ◌||◌, ltb, eqb, Option, Some, List, [], ◌∷◌, length, get_or, ◌⊎◌, inl, inr, refl, sym, ap, ◌∙◌, subst, is_lt, arith}
use Rattle.std.specs.Borrow.{Bor}
use Rattle.std.specs.Cmp.{IsTotalOrder, on_total, back_total, then_total, nat_cmp_total, int_cmp_total}
use Rattle.std.specs.List.{AllByRecursion, Contains, IsDistinct, list_all, filter, find}
use Rattle.std.specs.List.Sorted.{IsPermutation, IsSortedBy, IsStrictlySortedBy}
use Rattle.std.specs.Ordering.{ordering_reverse}
use Rattle.std.specs.Option.{option_map}
use Rattle.std.specs.Prelude.{IsTrue, slice_index_or, slice_get}
use Rattle.std.proofs.lemmas.Bool.{false≢true, ltb-true, ne_eqb, eqb-false}
use Rattle.std.proofs.lemmas.Bool.Decides.{nat_tests}
use Rattle.std.proofs.lemmas.List.{get_or-map, length-map}
use Rattle.std.proofs.lemmas.List.Elements.{All-from_recursion, All-contains, All-contains_itself, All-filter, filter_passes}
use Rattle.std.proofs.lemmas.List.Sorted.{IsPermutation-map, IsPermutation-sym, Contains-permutation}
use Rattle.std.proofs.lemmas.Map.Keys.{IsDistinct-cons, IsDistinct-IsPermutation, apart_from_distinct, sorted_from_all_adjacent}
use Rattle.lg_calls.specs.Order.{all_pairs}
use Rattle.lg_calls.specs.Task.{Task}
use Rattle.lg_calls.specs.Tasks.{numbers_of, have_rising_numbers}
use Rattle.lg_calls.specs.Work.Laws.{StandByRank}
use Rattle.lg_calls.specs.Work.Rank.{rank_cmp, outranks, by_rank}
use Rattle.lg_views.specs.Lent.{lent}

first_true : (a b : Bool) → (a && b) ≡ true → a ≡ true
first_true true b e = refl
first_true false b e = e

second_true : (a b : Bool) → (a && b) ≡ true → b ≡ true
second_true true b e = e
second_true false b e = cc

both_true : (a b : Bool) → a ≡ true → b ≡ true → (a && b) ≡ true
both_true true b p q = q
both_true false b p q = p

one_true : (a b : Bool) → (a || b) ≡ true → b ≡ false → a ≡ true
one_true true b e other_false = refl
one_true false b e other_false = sym other_false ∙ e

-- ---- two lists in one order

module _ {X : Type 0} where
  nothing : (x : X) → Contains [] x → ⊥
  nothing x there = omega (arith, there.1)

  first : (x : X) (xs : List X) → Contains (x ∷ xs) x
  first x xs = (0, omega arith, refl)

  behind : (y : X) (xs : List X) (x : X) → Contains xs x → Contains (y ∷ xs) x
  behind y xs x there = (suc there.0, omega (arith, there.1), there.2)

  at_place : (y : X) (xs : List X) (x : X) (k : ℕ) → k < length (y ∷ xs) → slice_index_or (y ∷ xs) k x ≡ x → (y ≡ x) ⊎ Contains xs x
  at_place y xs x zero inside is = inl is
  at_place y xs x (suc k) inside is = inr (k, omega arith, is)

  places : (y : X) (xs : List X) (x : X) → Contains (y ∷ xs) x → (y ≡ x) ⊎ Contains xs x
  places y xs x there = at_place y xs x there.0 there.1 there.2

  all_of : (test : X → Bool) (xs : List X) → list_all test xs ≡ true → AllByRecursion (λ x. test x ≡ true) xs
  all_of test [] all = tt
  all_of test (x ∷ xs) all = (first_true (test x) _ all, all_of test xs (second_true (test x) _ all))

  holds : (test : X → Bool) (xs : List X) (x : X) → list_all test xs ≡ true → Contains xs x → test x ≡ true
  holds test xs x all there = All-contains (λ y. test y ≡ true) xs x (All-from_recursion (λ y. test y ≡ true) xs (all_of test xs all)) there

  module _ (below : X → X → Bool) (one_way : (x y : X) → below x y ≡ true → below y x ≡ false) where
    not_itself : (x : X) → below x x ≡ true → ⊥
    not_itself x e = false≢true (sym (one_way x x e) ∙ e)

    rest_stays : (a : X) (xs : List X) (b : X) (ys : List X) → a ≡ b → list_all (below a) xs ≡ true
        → ((x : X) → Contains (a ∷ xs) x → Contains (b ∷ ys) x) → (x : X) → Contains xs x → Contains ys x
    rest_stays a xs b ys same up to x here =
        elim (places b ys x (to x (behind a xs x here))) [
          | inl is ↦ absurd (not_itself x (subst (λ y. below y x ≡ true) (same ∙ is) (holds (below a) xs x up here)))
          | inr there ↦ there
        ]

    first_same : (a : X) (xs : List X) (b : X) (ys : List X) → list_all (below a) xs ≡ true → list_all (below b) ys ≡ true
        → Contains (b ∷ ys) a → Contains (a ∷ xs) b → a ≡ b
    first_same a xs b ys up up' there here =
        elim (places b ys a there) [
          | inl is ↦ sym is
          | inr later ↦ elim (places a xs b here) [
            | inl is ↦ is
            | inr later' ↦ absurd (false≢true (sym (one_way a b (holds (below a) xs b up later')) ∙ holds (below b) ys a up' later))
          ]
        ]

    -- two lists of the same elements in one order are one list
    pub one_order : (xs ys : List X) → all_pairs below xs ≡ true → all_pairs below ys ≡ true
        → ((x : X) → Contains xs x → Contains ys x) → ((x : X) → Contains ys x → Contains xs x) → xs ≡ ys
    one_order [] [] up up' to from = refl
    one_order [] (b ∷ ys) up up' to from = absurd (nothing b (from b (first b ys)))
    one_order (a ∷ xs) [] up up' to from = absurd (nothing a (to a (first a xs)))
    one_order (a ∷ xs) (b ∷ ys) up up' to from =
        let above = first_true (list_all (below a) xs) _ up in
        let above' = first_true (list_all (below b) ys) _ up' in
        let same : a ≡ b = first_same a xs b ys above above' (to a (first a xs)) (from b (first b ys)) in
        let rest : xs ≡ ys = one_order xs ys (second_true (list_all (below a) xs) _ up) (second_true (list_all (below b) ys) _ up')
        (rest_stays a xs b ys same above to) (rest_stays b ys a xs (sym same) above' from) in
        (λ i. same i ∷ rest i)

    all-kept : (test stays : X → Bool) (xs : List X) → list_all test xs ≡ true → list_all test (filter stays xs) ≡ true
    all-kept test stays [] all = refl
    all-kept test stays (x ∷ xs) all = all-step (stays x) (all-kept test stays xs (second_true (test x) _ all))
      where
        all-step : (b : Bool) → list_all test (filter stays xs) ≡ true → list_all test (cond b (x ∷ filter stays xs) (filter stays xs)) ≡ true
        all-step true rest = both_true _ _ (first_true (test x) _ all) rest
        all-step false rest = rest

    pairs-kept : (stays : X → Bool) (xs : List X) → all_pairs below xs ≡ true → all_pairs below (filter stays xs) ≡ true
    pairs-kept stays [] up = refl
    pairs-kept stays (x ∷ xs) up = pairs-step (stays x) (pairs-kept stays xs (second_true (list_all (below x) xs) _ up))
      where
        pairs-step : (b : Bool) → all_pairs below (filter stays xs) ≡ true → all_pairs below (cond b (x ∷ filter stays xs) (filter stays xs)) ≡ true
        pairs-step true rest = both_true _ _ (all-kept (below x) stays xs (first_true (list_all (below x) xs) _ up)) rest
        pairs-step false rest = rest

  -- ---- those that pass a test

  kept-step : (p : X → Bool) (y : X) (xs : List X) (x : X) (b : Bool) → p y ≡ b → p x ≡ true → (y ≡ x) ⊎ Contains xs x → (Contains xs x → Contains (filter p xs) x)
      → Contains (cond b (y ∷ filter p xs) (filter p xs)) x
  kept-step p y xs x true is passes (inl same) rest = subst (Contains (y ∷ filter p xs)) same (first y (filter p xs))
  kept-step p y xs x true is passes (inr there) rest = behind y (filter p xs) x (rest there)
  kept-step p y xs x false is passes (inl same) rest = absurd (false≢true (sym is ∙ ap p same ∙ passes))
  kept-step p y xs x false is passes (inr there) rest = rest there

  -- who stands there and passes is kept
  pub is_kept : (p : X → Bool) (xs : List X) (x : X) → Contains xs x → p x ≡ true → Contains (filter p xs) x
  is_kept p [] x there passes = there
  is_kept p (y ∷ xs) x there passes = kept-step p y xs x (p y) refl passes (places y xs x there) (λ later. is_kept p xs x later passes)

  -- who is kept stood there and passes
  pub was_there : (p : X → Bool) (xs : List X) (x : X) → Contains (filter p xs) x → Contains xs x
  was_there p xs x there = All-contains (Contains xs) (filter p xs) x (All-filter p (Contains xs) xs (All-contains_itself xs)) there

  pub passed : (p : X → Bool) (xs : List X) (x : X) → Contains (filter p xs) x → p x ≡ true
  passed p xs x there = All-contains (λ y. p y ≡ true) (filter p xs) x (filter_passes p xs) there

  first-step : (x : X) (b : Bool) (found : Option X) (rest : List X) → slice_get rest 0 ≡ found → slice_get (cond b (x ∷ rest) rest) 0 ≡ cond b (Some x) found
  first-step x true found rest is = refl
  first-step x false found rest is = is

  -- the first that passes is the first of those that pass
  pub first_kept : (p : X → Bool) (xs : List X) → slice_get (filter p xs) 0 ≡ find p xs
  first_kept p [] = refl
  first_kept p (x ∷ xs) = first-step x (p x) (find p xs) (filter p xs) (first_kept p xs)

-- ---- the rank

pub rank_total : IsTotalOrder rank_cmp
rank_total =
    then_total (back_total (on_total (λ (task : Task). task.priority) int_cmp_total))
    (then_total (on_total (λ (task : Task). task.added.0) nat_cmp_total) (on_total (λ (task : Task). task.number) nat_cmp_total))

is_less : (o : Ordering) → is_lt o ≡ true → o ≡ Less
is_less Less e = refl
is_less Equal e = cc
is_less Greater e = cc

one_way : (one other : Task) → outranks one other ≡ true → outranks other one ≡ false
one_way one other first = ap is_lt (rank_total.antisymm other one ∙ ap ordering_reverse (is_less (rank_cmp one other) first))

pairs_up : (tasks : List Task) → IsStrictlySortedBy rank_cmp tasks → all_pairs outranks tasks ≡ true
unfolding IsStrictlySortedBy
pairs_up [] up = refl
pairs_up (task ∷ tasks) up = both_true _ _ (all_up tasks up.0) (pairs_up tasks up.1)
  where
    all_up : (others : List Task) → AllByRecursion (λ other. rank_cmp task other ≡ Less) others → list_all (outranks task) others ≡ true
    all_up [] all = refl
    all_up (other ∷ others) all = both_true _ _ (ap is_lt all.0) (all_up others all.1)

-- ---- numbers that rise differ

apart_from : (n : ℕ) (ns : List ℕ) → list_all (ltb n) ns ≡ true → AllByRecursion (λ m. eqb n m ≡ false) ns
apart_from n [] all = tt
apart_from n (m ∷ ns) all =
    let lower : n < m = ltb-true n m (first_true (ltb n m) _ all) in
    (ne_eqb n m (λ same. omega (arith, lower, same)), apart_from n ns (second_true (ltb n m) _ all))

distinct : (ns : List ℕ) → all_pairs ltb ns ≡ true → IsDistinct eqb ns
unfolding IsDistinct
distinct [] rise = tt
distinct (n ∷ ns) rise = IsDistinct-cons eqb n ns (apart_from n ns (first_true (list_all (ltb n) ns) _ rise)) (distinct ns (second_true (list_all (ltb n) ns) _ rise))

flips : (n m : ℕ) → eqb n m ≡ eqb m n
flips n m = grind (arith, nat_tests)

-- ---- what is sorted by rank

-- what the order of different numbers comes to
abbrev pub OneIsFirst : Type 0
OneIsFirst = (one other : Task) → one.number ≢ other.number → IsTrue (outranks one other || outranks other one)

next_up : OneIsFirst → (one other : Task) → outranks other one ≡ false → eqb one.number other.number ≡ false → rank_cmp one other ≡ Less
next_up either one other up apart =
    is_less (rank_cmp one other) (one_true (outranks one other) (outranks other one) (either one other (eqb-false one.number other.number apart)) up)

strictly_up : OneIsFirst → (ranked : List (Bor Task)) → IsSortedBy (λ one other. is_lt (rank_cmp one.now other.now)) ranked
    → IsDistinct eqb (numbers_of (lent ranked)) → IsStrictlySortedBy rank_cmp (lent ranked)
unfolding IsStrictlySortedBy
strictly_up either [] up apart = tt
strictly_up either (task ∷ ranked) up apart =
    sorted_from_all_adjacent rank_total (lent (task ∷ ranked)) task.now (λ k within.
    next_up either (get_or (lent (task ∷ ranked)) k task.now) (get_or (lent (task ∷ ranked)) (k + 1) task.now) (not_before k within) (differ k within))
  where
    not_before : (k : ℕ) → k + 1 < length (lent (task ∷ ranked)) → outranks (get_or (lent (task ∷ ranked)) (k + 1) task.now) (get_or (lent (task ∷ ranked)) k task.now) ≡ false
    not_before k within =
        let few : k + 1 < length (task ∷ ranked) = omega (arith, within, length-map (task ∷ ranked) (λ (t : Bor Task). t.now)) in
        let here : k < length (task ∷ ranked) = omega (arith, few) in
        rw (get_or-map (λ (t : Bor Task). t.now) (task ∷ ranked) (k + 1) task task.now few, get_or-map (λ (t : Bor Task). t.now) (task ∷ ranked) k task task.now here) (up k task (omega arith) few)

    differ : (k : ℕ) → k + 1 < length (lent (task ∷ ranked)) → eqb (get_or (lent (task ∷ ranked)) k task.now).number (get_or (lent (task ∷ ranked)) (k + 1) task.now).number ≡ false
    differ k within =
        let all = lent (task ∷ ranked) in
        let here : k < length all = omega (arith, within) in
        let inside : k + 1 < length (numbers_of all) = omega (arith, within, length-map all (λ (t : Task). t.number)) in
        let apart_here = apart_from_distinct eqb (numbers_of all) k (k + 1) task.now.number apart (omega arith) inside in
        rw (← get_or-map (λ (t : Task). t.number) all k task.now task.now.number here, ← get_or-map (λ (t : Task). t.number) all (k + 1) task.now task.now.number within) apart_here

-- sorted by rank, tasks stand as the definition has them
pub ranked_is : OneIsFirst → (tasks ranked : List (Bor Task)) → IsPermutation tasks ranked
    → IsSortedBy (λ one other. is_lt (rank_cmp one.now other.now)) ranked
    → IsTrue (have_rising_numbers (lent tasks)) → StandByRank (lent tasks) (by_rank (lent tasks)) → lent ranked ≡ by_rank (lent tasks)
ranked_is either tasks ranked moved up rise stand =
    let moved_tasks = IsPermutation-map (λ (task : Bor Task). task.now) tasks ranked moved in
    let moved_numbers = IsPermutation-map (λ (task : Task). task.number) (lent tasks) (lent ranked) moved_tasks in
    let apart = IsDistinct-IsPermutation eqb flips (numbers_of (lent tasks)) (numbers_of (lent ranked)) moved_numbers (distinct (numbers_of (lent tasks)) rise) in
    one_order outranks one_way (lent ranked) (by_rank (lent tasks))
    (pairs_up (lent ranked) (strictly_up either ranked up apart)) stand.in_order
    (λ task here. stand.all_stay task (Contains-permutation (lent ranked) (lent tasks) task (IsPermutation-sym (lent tasks) (lent ranked) moved_tasks) here))
    (λ task here. Contains-permutation (lent tasks) (lent ranked) task moved_tasks (stand.no_others task here))

-- those that pass a test by rank are those by rank that pass it
kept_by_rank : (p : Task → Bool) (tasks : List Task) → StandByRank tasks (by_rank tasks) → StandByRank (filter p tasks) (by_rank (filter p tasks))
    → by_rank (filter p tasks) ≡ filter p (by_rank tasks)
kept_by_rank p tasks stand stand_kept =
    one_order outranks one_way (by_rank (filter p tasks)) (filter p (by_rank tasks))
    stand_kept.in_order (pairs-kept outranks one_way p (by_rank tasks) stand.in_order)
    (λ task here.
    let kept = stand_kept.no_others task here in
    is_kept p (by_rank tasks) task (stand.all_stay task (was_there p tasks task kept)) (passed p tasks task kept))
    (λ task here. stand_kept.all_stay task (is_kept p tasks task (stand.no_others task (was_there p (by_rank tasks) task here)) (passed p (by_rank tasks) task here)))

-- the first in rank of those that pass a test
pub first_by_rank : (p : Task → Bool) (tasks : List Task) → StandByRank tasks (by_rank tasks) → StandByRank (filter p tasks) (by_rank (filter p tasks))
    → slice_get (by_rank (filter p tasks)) 0 ≡ find p (by_rank tasks)
first_by_rank p tasks stand stand_kept =
    ap (λ (ranked : List Task). slice_get ranked 0) (kept_by_rank p tasks stand stand_kept) ∙ first_kept p (by_rank tasks)

-- the first of tasks that are lent
pub first_lent : (tasks : List (Bor Task)) → slice_get (lent tasks) 0 ≡ option_map (λ task. task.now) (slice_get tasks 0)
first_lent [] = refl
first_lent (task ∷ tasks) = refl
