-- Tasks that are lent, in the order of their ids.
use Rattle.std.proofs.Common.{◌≡◌, ◌≤◌, ℕ, List, [], ◌∷◌, map, length, refl, sym, ap, ◌∙◌, subst, is_lt, arith}
use Rattle.std.proofs.lemmas.List.{length-map, get_or-map}
use Rattle.std.proofs.lemmas.List.Sorted.{All-permutation}
use Rattle.std.specs.Borrow.{Bor}
use Rattle.std.specs.Cmp.Lexicographic.{slice_cmp}
use Rattle.std.specs.FinMap.{entries, from_entries}
use Rattle.std.specs.List.{IsDistinct}
use Rattle.std.specs.List.Sorted.{IsPermutation, IsSortedBy}
use Rattle.std.specs.Ordering.{nat_cmp, eq_by_cmp}
use Rattle.std.specs.Prelude.{IsTrue, All}
use Rattle.lg_calls.specs.Task.{Task}
use Rattle.lg_calls.specs.Tasks.{have_distinct_ids}
use Rattle.lg_calls.specs.Valid.{IsValidTask}
use Rattle.lg_views.specs.Lent.{lent, CanBeShown}
use Rattle.lg_views.specs.Listed.{last_moment}
use Rattle.lg_calls.specs.Views.Records.{by_ids, records}
use Rattle.lg_calls.specs.Views.TaskRecord.{task_record}
use Rattle.lg_calls.specs.Views.Trees.{record_of}
use Rattle.lg_views.proofs.OrderedLemmas.{IsDistinct-texts, entries_in_order}

-- one function behind another
fused : {A B C : Type 0} (f : B → C) (g : A → B) (xs : List A) → map f (map g xs) ≡ map (λ x. f (g x)) xs
fused f g [] = refl
fused f g (x ∷ xs) = ap (λ rest. f (g x) ∷ rest) (fused f g xs)

-- sorted by their ids, the tasks are those of the map of them
pub lent_in_order : (tasks sorted : List (Bor Task)) → IsPermutation tasks sorted
    → IsSortedBy (λ one other. is_lt (slice_cmp nat_cmp one.now.id other.now.id)) sorted
    → IsTrue (have_distinct_ids (lent tasks))
    → map (λ task. (task.now.id, task.now)) sorted ≡ entries (by_ids (lent tasks))
lent_in_order tasks sorted moved rise apart =
    let ids = fused (λ (task : Task). task.id) (λ (task : Bor Task). task.now) tasks in
    entries_in_order (λ (task : Bor Task). task.now.id) (λ (task : Bor Task). task.now) tasks sorted moved rise
    (subst (IsDistinct (eq_by_cmp (slice_cmp nat_cmp))) ids (IsDistinct-texts _ apart))
    ∙ ap (λ pairs. entries (from_entries {R = slice_cmp nat_cmp} pairs)) (sym (fused (λ (task : Task). (task.id, task)) (λ (task : Bor Task). task.now) tasks))

-- what is shown of them, one behind another, is the records of the tasks
pub shown_by_ids : (sorted : List (Bor Task)) (tasks : List Task) → map (λ task. (task.now.id, task.now)) sorted ≡ entries (by_ids tasks)
    → record_of (map (λ task. (task.now.id, task_record task.now)) sorted) ≡ records tasks
unfolding records
shown_by_ids sorted tasks same =
    ap record_of
    (sym (fused (λ (pair : List ℕ × Task). (pair.0, task_record pair.1)) (λ (task : Bor Task). (task.now.id, task.now)) sorted)
    ∙ ap (map (λ (pair : List ℕ × Task). (pair.0, task_record pair.1))) same)

-- as many tasks are lent as there are
pub lent_few : (found : List (Bor Task)) (tasks : List Task) → lent found ≡ tasks → CanBeShown tasks → length found ≤ 1000000
lent_few found tasks same can =
    omega (arith, can.few, ap length same, length-map found (λ (task : Bor Task). task.now))

-- the tasks that are lent are valid
lent_valid : (tasks : List (Bor Task)) → All (IsValidTask last_moment) (lent tasks) → All (λ task. IsValidTask last_moment task.now) tasks
lent_valid tasks all k d within =
    subst (IsValidTask last_moment) (get_or-map (λ (task : Bor Task). task.now) tasks k d d.now within)
    (all k d.now (omega (arith, within, length-map tasks (λ (task : Bor Task). task.now))))

-- and so they are in another order
pub sorted_valid : (tasks sorted : List (Bor Task)) → CanBeShown (lent tasks) → IsPermutation tasks sorted → All (λ task. IsValidTask last_moment task.now) sorted
sorted_valid tasks sorted can moved =
    All-permutation (λ (task : Bor Task). IsValidTask last_moment task.now) tasks sorted moved (lent_valid tasks can.valid)

-- what is picked of tasks that can be shown can be shown
pub lent_shown : (found : List (Bor Task)) (tasks : List Task) → lent found ≡ tasks → CanBeShown tasks → CanBeShown (lent found)
lent_shown found tasks same can = subst CanBeShown (sym same) can

-- what is shown of sorted tasks is the records of those that were picked
pub shown_as_records : (found sorted shown : List (Bor Task)) (tasks : List Task) → lent found ≡ tasks
    → map (λ task. (task.now.id, task.now)) sorted ≡ entries (by_ids (lent found)) → shown ≡ sorted
    → record_of (map (λ task. (task.now.id, task_record task.now)) shown) ≡ records tasks
shown_as_records found sorted shown tasks seen same is =
    ap (λ (these : List (Bor Task)). record_of (map (λ task. (task.now.id, task_record task.now)) these)) is
    ∙ shown_by_ids sorted tasks (same ∙ ap (λ these. entries (by_ids these)) seen)
