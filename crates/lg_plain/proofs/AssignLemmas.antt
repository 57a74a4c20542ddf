-- The task of an id is changed where it stands: no other has the id.
use Rattle.std.proofs.Common.{◌≡◌, ℕ, zero, suc, ◌+◌, ◌<◌, Bool, true, false, not, cond, List, [], ◌∷◌, length, get_or, set, Option, Some, None, refl, sym, ap, ◌∙◌, arith}
use Rattle.std.specs.List.{list_all, position, position_from}
use Rattle.std.proofs.lemmas.Bool.{not-true}
use Rattle.std.proofs.lemmas.Iterator.Adapters.{position_from-zero}
use Rattle.std.proofs.lemmas.List.Quantifiers.{position-Some}
use Rattle.std.proofs.lemmas.Option.{none-some}
use Rattle.lg_calls.specs.Order.{is_same}
use Rattle.lg_calls.specs.Task.{Task}
use Rattle.lg_calls.specs.Tasks.{ids_of, have_distinct_ids, has_id, change_task}
use Rattle.lg_plain.proofs.PathLemmas.{same-is, and-first, and-second}

module _ (id : List ℕ) (change : Task → Task) where
  head_kept : (task : Task) → has_id id task ≡ false → cond (has_id id task) (change task) task ≡ task
  head_kept task differs = ap (λ b. cond b (change task) task) differs

  -- where none has the id nothing changes
  unmet : (tasks : List Task) → list_all (λ other. not (is_same id other)) (ids_of tasks) ≡ true → change_task id change tasks ≡ tasks
  unmet [] none = refl
  unmet (task ∷ tasks) none =
      let head = head_kept task (not-true (has_id id task) (and-first _ _ none)) in
      let rest = unmet tasks (and-second (not (has_id id task)) _ none) in
      (λ i. head i ∷ rest i)

  none_first : (b : Bool) (j : ℕ) (rest : Option ℕ) → cond b (Some j) rest ≡ None → (b ≡ false) × (rest ≡ None)
  none_first true j rest e = absurd (none-some j (sym e))
  none_first false j rest e = (refl, e)

  unchanged-from : (tasks : List Task) (j : ℕ) → position_from (has_id id) j tasks ≡ None → change_task id change tasks ≡ tasks
  unchanged-from [] j none = refl
  unchanged-from (task ∷ tasks) j none =
      let first = none_first (has_id id task) j (position_from (has_id id) (j + 1) tasks) none in
      let head = head_kept task first.0 in
      let rest = unchanged-from tasks (j + 1) first.1 in
      (λ i. head i ∷ rest i)

  -- where no task has the id the tasks stay
  pub unchanged : (tasks : List Task) → position (has_id id) tasks ≡ None → change_task id change tasks ≡ tasks
  unchanged tasks none = unchanged-from tasks 0 (sym (position_from-zero (has_id id) tasks) ∙ none)

  change-at : (tasks : List Task) (i : ℕ) (d : Task) → have_distinct_ids tasks ≡ true → i < length tasks → has_id id (get_or tasks i d) ≡ true
      → ((k : ℕ) → k < i → has_id id (get_or tasks k d) ≡ false) → set tasks i (change (get_or tasks i d)) ≡ change_task id change tasks
  change-at [] i d distinct inside here before = absurd (omega (arith, inside))
  change-at (task ∷ tasks) zero d distinct inside here before =
      let others : list_all (λ other. not (is_same id other)) (ids_of tasks) ≡ true =
      ap (λ text. list_all (λ other. not (is_same text other)) (ids_of tasks)) (same-is id task.id here) ∙ and-first _ _ distinct in
      let head : change task ≡ cond (has_id id task) (change task) task = ap (λ b. cond b (change task) task) (sym here) in
      let rest = sym (unmet tasks others) in
      (λ i. head i ∷ rest i)
  change-at (task ∷ tasks) (suc i) d distinct inside here before =
      let head = sym (head_kept task (before 0 (omega arith))) in
      let rest = change-at tasks i d (and-second (list_all (λ other. not (is_same task.id other)) (ids_of tasks)) _ distinct) (omega (arith, inside)) here
      (λ k lower. before (suc k) (omega (arith, lower))) in
      (λ i. head i ∷ rest i)

  -- and else the one that has it is changed where it stands
  pub changed_there : (tasks after : List Task) (i : ℕ) (d changed : Task) → have_distinct_ids tasks ≡ true → position (has_id id) tasks ≡ Some i
      → changed ≡ change (get_or tasks i d) → after ≡ set tasks i changed → after ≡ change_task id change tasks
  changed_there tasks after i d changed distinct found is grown =
      let at = position-Some (has_id id) tasks i d found in
      grown ∙ ap (set tasks i) is ∙ change-at tasks i d distinct at.0 at.1 at.2
