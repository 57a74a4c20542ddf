-- The groups of tasks by status, one after another.
use Rattle.std.proofs.Common.{◌≡◌, ℕ, ◌+◌, ◌<◌, ◌==◌, true, false, List, [], ◌∷◌, ◌++◌, map, take, length, get_or, refl, sym, ap, ◌∙◌, append-nil, append_assoc, arith}
use Rattle.std.proofs.lemmas.Bool.{eqb-true}
use Rattle.std.proofs.lemmas.Grind.{flat_map-append}
use Rattle.std.proofs.lemmas.List.{take_more}
use Rattle.std.specs.Borrow.{Bor}
use Rattle.std.specs.FinMap.{entries}
use Rattle.std.specs.Prelude.{flat_map}
use Rattle.lg_calls.specs.declared.status.Status.{Status}
use Rattle.lg_calls.specs.Task.{Task}
use Rattle.lg_calls.specs.Words.{status_word}
use Rattle.lg_json.specs.Tree.{Tree}
use Rattle.lg_views.specs.Lent.{lent}
use Rattle.lg_calls.specs.Views.Records.{by_ids, records}
use Rattle.lg_calls.specs.Views.TaskRecord.{task_record}
use Rattle.lg_calls.specs.Views.TaskSearch.{group_of, group}
use Rattle.lg_calls.specs.Views.Trees.{Fields, record_of}
use Rattle.lg_views.proofs.RecordLemmas.{shown_as_records}

-- no tasks, no group
pub no_group : (status : Status) (found : List (Bor Task)) (old : Fields) → (length found == 0) ≡ true → old ≡ old ++ group_of status (lent found)
no_group status [] old none = sym (append-nil old)
no_group status (task ∷ found) old none =
    let e : length (task ∷ found) ≡ 0 = eqb-true (length (task ∷ found)) 0 none in absurd (omega (arith, e))

some_group : (status : Status) (found : List (Bor Task)) → (length found == 0) ≡ false → group_of status (lent found) ≡ (status_word status, records (lent found)) ∷ []
some_group status [] some = cc
some_group status (task ∷ found) some = refl

-- the records of some tasks are put under the word of their status
pub group_put : (status : Status) (found sorted shown : List (Bor Task)) (word : List ℕ) (old new : Fields) → (length found == 0) ≡ false → word ≡ status_word status
    → map (λ task. (task.now.id, task.now)) sorted ≡ entries (by_ids (lent found)) → shown ≡ sorted
    → new ≡ old ++ (word, record_of (map (λ task. (task.now.id, task_record task.now)) shown)) ∷ []
    → new ≡ old ++ group_of status (lent found)
group_put status found sorted shown word old new some is_word same is put =
    put
    ∙ (ap (λ (w : List ℕ). old ++ (w, record_of (map (λ task. (task.now.id, task_record task.now)) shown)) ∷ []) is_word
    ∙ (ap (λ (tree : Tree). old ++ (status_word status, tree) ∷ []) (shown_as_records found sorted shown (lent found) refl same is)
    ∙ ap (λ (fields : Fields). old ++ fields) (sym (some_group status found some))))

-- one status more
pub groups_more : (tasks : List Task) (first old new : Fields) (statuses : List Status) (i : ℕ) (d : Status) → i < length statuses
    → old ≡ first ++ flat_map (group tasks) (take i statuses)
    → new ≡ old ++ group tasks (get_or statuses i d)
    → new ≡ first ++ flat_map (group tasks) (take (i + 1) statuses)
groups_more tasks first old new statuses i d within so_far put =
    let here = get_or statuses i d in
    let one : flat_map (group tasks) (here ∷ []) ≡ group tasks here = append-nil (group tasks here) in
    let longer : flat_map (group tasks) (take (i + 1) statuses) ≡ flat_map (group tasks) (take i statuses) ++ group tasks here =
    ap (flat_map (group tasks)) (take_more statuses i d within)
    ∙ (flat_map-append (group tasks) (take i statuses) (here ∷ []) ∙ ap (λ (fields : Fields). flat_map (group tasks) (take i statuses) ++ fields) one) in
    put
    ∙ (ap (λ (fields : Fields). fields ++ group tasks here) so_far
    ∙ (append_assoc first (flat_map (group tasks) (take i statuses)) (group tasks here)
    ∙ ap (λ (fields : Fields). first ++ fields) (sym longer)))
