-- What the rank comes to: it is an order, and tasks are put in it.
use Rattle.std.proofs.Common.{Ordering, Less, Equal, Greater, ◌≡◌, ◌≢◌, refl, sym, ap, ◌∙◌, suc, ◌+◌, Bool, true, false, ◌||◌, ltb, IsTrue, List, [], ◌∷◌, length, arith}
use Rattle.std.specs.BTreeSet.{replace_key}
use Rattle.std.specs.Cmp.{IsTotalOrder, on_total, back_total, then_total, nat_cmp_total, int_cmp_total}
use Rattle.std.specs.FinMap.{nat_cmp-IsAntisymmetric}
use Rattle.std.specs.List.{AllByRecursion, Contains, fold, list_all}
use Rattle.std.specs.Ordering.{is_lt, match_ordering, ordering_reverse, ordering_then}
use Rattle.std.proofs.lemmas.Bool.{ltb-true}
use Rattle.std.proofs.lemmas.List.Elements.{All-contains, All-contains_itself, All-from_recursion, recursion_from_All}
use Rattle.lg_calls.specs.Order.{all_pairs}
use Rattle.lg_calls.specs.Task.{Task}
use Rattle.lg_calls.specs.Tasks.{have_rising_numbers}
use Rattle.lg_calls.specs.Work.Laws.{StandByRank}
use Rattle.lg_calls.specs.Work.Rank.{rank_cmp, outranks, by_rank}
use Rattle.lg_calls.proofs.OrderLemmas.{both, first_of_both, second_of_both, all_pairs-map}

less : (o : Ordering) → is_lt o ≡ true → o ≡ Less
less Less e = refl
less Equal e = cc
less Greater e = cc

-- ---- an order

rank_total : IsTotalOrder rank_cmp
rank_total =
    then_total (back_total (on_total (λ (task : Task). task.priority) int_cmp_total))
    (then_total (on_total (λ (task : Task). task.added.0) nat_cmp_total) (on_total (λ (task : Task). task.number) nat_cmp_total))

pub outranks-one_way : (one other : Task) → outranks one other ≡ true → outranks other one ≡ false
outranks-one_way one other first = ap is_lt (rank_total.antisymm other one ∙ ap ordering_reverse (less (rank_cmp one other) first))

pub outranks-on : (one other third : Task) → outranks one other ≡ true → outranks other third ≡ true → outranks one third ≡ true
outranks-on one other third first then = ap is_lt (rank_total.trans one other third (less (rank_cmp one other) first) (less (rank_cmp other third) then))

last_equal : (a b : Ordering) → ordering_then a b ≡ Equal → b ≡ Equal
last_equal Less b e = cc
last_equal Equal b e = e
last_equal Greater b e = cc

tied-number : (one other : Task) → rank_cmp one other ≡ Equal → one.number ≡ other.number
tied-number one other tied = nat_cmp-IsAntisymmetric one.number other.number (last_equal _ _ (last_equal _ _ tied))

either : (o : Ordering) → o ≢ Equal → (is_lt o || is_lt (ordering_reverse o)) ≡ true
either Less apart = refl
either Equal apart = absurd (apart refl)
either Greater apart = refl

pub outranks-either : (one other : Task) → one.number ≢ other.number → (outranks one other || outranks other one) ≡ true
outranks-either one other apart =
    ap (λ o. outranks one other || is_lt o) (rank_total.antisymm other one)
    ∙ either (rank_cmp one other) (λ tied. apart (tied-number one other tied))

-- ---- one is put at its place

module _ {X : Type 0} (R : X → X → Ordering) where
  module _ (P : X → Type 0) where
    all-step : (k x : X) (xs : List X) (o : Ordering) → P k → P x → AllByRecursion P xs → AllByRecursion P (replace_key R xs k)
        → AllByRecursion P (match_ordering o (k ∷ x ∷ xs) (k ∷ xs) (x ∷ replace_key R xs k))
    all-step k x xs Less here first rest put = (here, (first, rest))
    all-step k x xs Equal here first rest put = (here, rest)
    all-step k x xs Greater here first rest put = (first, put)

    all-put : (xs : List X) (k : X) → P k → AllByRecursion P xs → AllByRecursion P (replace_key R xs k)
    all-put [] k here all = (here, tt)
    all-put (x ∷ xs) k here all = all-step k x xs (R k x) here all.0 all.1 (all-put xs k here all.1)

    back-step : (k x : X) (xs : List X) (o : Ordering) → o ≢ Equal → (AllByRecursion P (replace_key R xs k) → P k × AllByRecursion P xs)
        → AllByRecursion P (match_ordering o (k ∷ x ∷ xs) (k ∷ xs) (x ∷ replace_key R xs k)) → P k × AllByRecursion P (x ∷ xs)
    back-step k x xs Less apart back all = all
    back-step k x xs Equal apart back all = absurd (apart refl)
    back-step k x xs Greater apart back all = let rest = back all.1 in (rest.0, (all.0, rest.1))

    -- nobody is replaced where none has the rank of the one that is put
    all-back : (xs : List X) (k : X) → AllByRecursion (λ x. R k x ≢ Equal) xs → AllByRecursion P (replace_key R xs k) → P k × AllByRecursion P xs
    all-back [] k apart all = all
    all-back (x ∷ xs) k apart all = back-step k x xs (R k x) apart.0 (all-back xs k apart.1) all

    -- and so on for one after another
    fold-all : (known more : List X) → AllByRecursion P known → AllByRecursion P more → AllByRecursion P (fold (replace_key R) known more)
    fold-all known [] all here = all
    fold-all known (x ∷ more) all here = fold-all (replace_key R known x) more (all-put known x here.0 all) here.1

  length-step : (k x : X) (xs : List X) (o : Ordering) → o ≢ Equal → length (replace_key R xs k) ≡ suc (length xs)
      → length (match_ordering o (k ∷ x ∷ xs) (k ∷ xs) (x ∷ replace_key R xs k)) ≡ suc (suc (length xs))
  length-step k x xs Less apart rest = refl
  length-step k x xs Equal apart rest = absurd (apart refl)
  length-step k x xs Greater apart rest = ap suc rest

  length-put : (xs : List X) (k : X) → AllByRecursion (λ x. R k x ≢ Equal) xs → length (replace_key R xs k) ≡ suc (length xs)
  length-put [] k apart = refl
  length-put (x ∷ xs) k apart = length-step k x xs (R k x) apart.0 (length-put xs k apart.1)

  -- ---- those behind one, and those of which each is apart from each later one
  abbrev Behind : List X → X → Type 0
  Behind more x = AllByRecursion (λ y. R y x ≢ Equal) more

  abbrev Apart : List X → Type 0
  Apart [] = Unit {0}
  Apart (x ∷ xs) = Behind xs x × Apart xs

  heads : (x : X) (more known : List X) → AllByRecursion (Behind (x ∷ more)) known → AllByRecursion (λ y. R x y ≢ Equal) known
  heads x more [] behind = tt
  heads x more (y ∷ known) behind = (behind.0.0, heads x more known behind.1)

  tails : (x : X) (more known : List X) → AllByRecursion (Behind (x ∷ more)) known → AllByRecursion (Behind more) known
  tails x more [] behind = tt
  tails x more (y ∷ known) behind = (behind.0.1, tails x more known behind.1)

  fold-back : (P : X → Type 0) (known more : List X) → AllByRecursion (Behind more) known → Apart more
      → AllByRecursion P (fold (replace_key R) known more) → AllByRecursion P known × AllByRecursion P more
  fold-back P known [] behind apart all = (all, tt)
  fold-back P known (x ∷ more) behind apart all =
      let put = fold-back P (replace_key R known x) more (all-put (Behind more) known x apart.0 (tails x more known behind)) apart.1 all in
      let back = all-back P known x (heads x more known behind) put.0 in
      (back.1, (back.0, put.1))

  fold-length : (known more : List X) → AllByRecursion (Behind more) known → Apart more → length (fold (replace_key R) known more) ≡ length known + length more
  fold-length known [] behind apart = omega arith
  fold-length known (x ∷ more) behind apart =
      let put = fold-length (replace_key R known x) more (all-put (Behind more) known x apart.0 (tails x more known behind)) apart.1 in
      let one = length-put known x (heads x more known behind) in
      omega (arith, put, one)

  -- ---- in order
  module _ (total : IsTotalOrder R) where
    abbrev is_below : X → X → Bool
    is_below one other = is_lt (R one other)

    all-below : (one other : X) → ((z : X) → is_below other z ≡ true → is_below one z ≡ true) → (xs : List X) → list_all (is_below other) xs ≡ true → list_all (is_below one) xs ≡ true
    all-below one other on [] all = refl
    all-below one other on (z ∷ xs) all = both _ _ (on z (first_of_both _ _ all)) (all-below one other on xs (second_of_both _ _ all))

    test-step : (test : X → Bool) (k x : X) (xs : List X) (o : Ordering) → test k ≡ true → test x ≡ true → list_all test xs ≡ true → list_all test (replace_key R xs k) ≡ true
        → list_all test (match_ordering o (k ∷ x ∷ xs) (k ∷ xs) (x ∷ replace_key R xs k)) ≡ true
    test-step test k x xs Less here first rest put = both _ _ here (both _ _ first rest)
    test-step test k x xs Equal here first rest put = both _ _ here rest
    test-step test k x xs Greater here first rest put = both _ _ first put

    test-put : (test : X → Bool) (xs : List X) (k : X) → test k ≡ true → list_all test xs ≡ true → list_all test (replace_key R xs k) ≡ true
    test-put test [] k here all = both _ _ here refl
    test-put test (x ∷ xs) k here all =
        let rest = second_of_both (test x) _ all in
        test-step test k x xs (R k x) here (first_of_both _ _ all) rest (test-put test xs k here rest)

    sorted-step : (k x : X) (xs : List X) (o : Ordering) → R k x ≡ o → list_all (is_below x) xs ≡ true → all_pairs is_below xs ≡ true → all_pairs is_below (replace_key R xs k) ≡ true
        → all_pairs is_below (match_ordering o (k ∷ x ∷ xs) (k ∷ xs) (x ∷ replace_key R xs k)) ≡ true
    sorted-step k x xs Less e first rest put =
        let on = all-below k x (λ z below. ap is_lt (total.trans k x z e (less (R x z) below))) xs first in
        both _ _ (both _ _ (ap is_lt e) on) (both _ _ first rest)
    sorted-step k x xs Equal e first rest put =
        both _ _ (all-below k x (λ z below. ap is_lt (total.congr k x z e) ∙ below) xs first) rest
    sorted-step k x xs Greater e first rest put =
        both _ _ (test-put (is_below x) xs k (ap is_lt (total.antisymm x k ∙ ap ordering_reverse e)) first) put

    sorted-put : (xs : List X) (k : X) → all_pairs is_below xs ≡ true → all_pairs is_below (replace_key R xs k) ≡ true
    sorted-put [] k sorted = refl
    sorted-put (x ∷ xs) k sorted =
        let rest = second_of_both (list_all (is_below x) xs) _ sorted in
        sorted-step k x xs (R k x) refl (first_of_both _ _ sorted) rest (sorted-put xs k rest)

    fold-sorted : (known more : List X) → all_pairs is_below known ≡ true → all_pairs is_below (fold (replace_key R) known more) ≡ true
    fold-sorted known [] sorted = sorted
    fold-sorted known (x ∷ more) sorted = fold-sorted (replace_key R known x) more (sorted-put known x sorted)

-- ---- tasks by rank

rising-behind : (task : Task) (tasks : List Task) → list_all (λ other. ltb task.number other.number) tasks ≡ true → Behind rank_cmp tasks task
rising-behind task [] rise = tt
rising-behind task (other ∷ tasks) rise = (apart, rising-behind task tasks (second_of_both _ _ rise))
  where
    apart : rank_cmp other task ≢ Equal
    apart tied =
        let same = tied-number other task tied in
        let lower = ltb-true task.number other.number (first_of_both _ _ rise) in
        omega (arith, same, lower)

rising-apart : (tasks : List Task) → all_pairs (λ (one other : Task). ltb one.number other.number) tasks ≡ true → Apart rank_cmp tasks
rising-apart [] rise = tt
rising-apart (task ∷ tasks) rise = (rising-behind task tasks (first_of_both _ _ rise), rising-apart tasks (second_of_both _ _ rise))

are_apart : (tasks : List Task) → IsTrue (have_rising_numbers tasks) → Apart rank_cmp tasks
are_apart tasks rise = rising-apart tasks (sym (all_pairs-map (λ (task : Task). task.number) ltb tasks) ∙ rise)

-- who stands by rank stood there before
pub Contains-from_by_rank : (tasks : List Task) (task : Task) → Contains (by_rank tasks) task → Contains tasks task
unfolding by_rank
Contains-from_by_rank tasks task there =
    let all = fold-all rank_cmp (Contains tasks) [] tasks tt (recursion_from_All (Contains tasks) tasks (All-contains_itself tasks)) in
    All-contains (Contains tasks) (by_rank tasks) task (All-from_recursion (Contains tasks) (by_rank tasks) all) there

-- tasks with rising numbers stand by rank
pub stand_by_rank : (tasks : List Task) → IsTrue (have_rising_numbers tasks) → StandByRank tasks (by_rank tasks)
unfolding by_rank
stand_by_rank tasks rise = record {
  all_stay = λ task here.
      let own = recursion_from_All (Contains (by_rank tasks)) (by_rank tasks) (All-contains_itself (by_rank tasks)) in
      let back = fold-back rank_cmp (Contains (by_rank tasks)) [] tasks tt (are_apart tasks rise) own in
      All-contains (Contains (by_rank tasks)) tasks task (All-from_recursion (Contains (by_rank tasks)) tasks back.1) here;
  no_others = Contains-from_by_rank tasks;
  as_many = let all = fold-length rank_cmp [] tasks tt (are_apart tasks rise) in omega (arith, all);
  in_order = fold-sorted rank_cmp rank_total [] tasks refl;
}
