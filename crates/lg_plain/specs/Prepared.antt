-- What a change of status makes before it begins, so that it takes no memory behind its first change: of each task that
-- gets a failure, its failures with that one. This project's own.
use Rattle.std.specs.Prelude.{◌≡◌, ℕ, Bool, true, false, IsTrue, not, ◌&&◌, ◌||◌, if◌then◌else◌, Option, None, is_some, IsSomeAnd, List, map, filter, slice_get, drop}
use Rattle.std.specs.List.{list_any}
use Rattle.lg_base.specs.declared.moment.Moment.{Moment}
use Rattle.lg_retry.specs.Failures.{History, Kept, add_failure}
use Rattle.lg_calls.specs.declared.state.State.{State}
use Rattle.lg_calls.specs.declared.status.Status.{Status}
use Rattle.lg_calls.specs.declared.status.Status.TheVariants.{Disabled, Failed}
use Rattle.lg_calls.specs.Status.{is_status, forgiven, set_alone, is_meant, along_with}
use Rattle.lg_calls.specs.Task.{Task}
use Rattle.lg_calls.specs.Tasks.{has_id, change_meant}
use Rattle.lg_plain.specs.declared.change.Change.{Change}
use Rattle.lg_plain.specs.declared.change.Meant.{Meant}

-- a task is meant
abbrev pub is_meant_by : Meant → Task → Bool
is_meant_by meant task = is_meant meant.id.now meant.along task

-- what a change begins with: to enable a task is to forget first
abbrev pub beginning : Change → Task → Task
beginning change task = if change.forgets then forgiven task else task

-- one task by itself behind a change
abbrev pub changed_by : Change → Task → Task
changed_by change task = set_alone change.delay change.moment change.status (beginning change task)

-- a failure is added: the task is set to FAILED, and isn't disabled
abbrev pub adds_failure : Status → Task → Bool
adds_failure status task = is_status Failed status && not (is_status Disabled task.status)

abbrev pub gets_failure : Status → (Task → Bool) → Task → Bool
gets_failure status meant task = meant task && adds_failure status task

-- the failures of a task with one more
abbrev pub with_failure : Moment → Task → History
with_failure now task = add_failure task.failures now task.policy

-- where a failure is added, these are the failures with it
abbrev pub IsNext : Status → Moment → Task → Option Kept → Type 0
IsNext status now task next = IsTrue (adds_failure status task) → IsSomeAnd next (λ kept. kept.history ≡ with_failure now task)

-- the failures of a task with the one that a change adds, and those of each task that is meant and gets one, in order
abbrev pub failures_behind : Change → Task → History
failures_behind change task = with_failure change.moment (beginning change task)

abbrev pub IsPrepared : Change → Meant → List Task → List Kept → Type 0
IsPrepared change meant tasks prepared =
    map (λ kept. kept.history) prepared ≡ map (failures_behind change) (filter (gets_failure change.status (is_meant_by meant)) tasks)

-- the first is taken out where one is asked for
abbrev pub Takes : Bool → List Kept → Option Kept → List Kept → Type 0
Takes true before taken after = (taken ≡ slice_get before 0) × (after ≡ drop 1 before)
Takes false before taken after = (taken ≡ None) × (after ≡ before)

-- some task that is meant gets a failure
abbrev pub adds_some : Change → Meant → List Task → Bool
adds_some change meant tasks = list_any (gets_failure change.status (is_meant_by meant)) tasks

-- the tasks that are meant are changed, and nothing else
abbrev pub made : Change → Meant → State → State
made change meant s = record s { tasks = change_meant (is_meant_by meant) (changed_by change) s.tasks }

-- setting a task may want memory: a failure is added, or a batch goes along
abbrev pub wants_memory : Status → List ℕ → List Task → Bool
wants_memory status id tasks =
    let along = along_with status id tasks in
    is_some along || list_any (gets_failure status (is_meant id along)) tasks

-- so may enabling one that isn't disabled
abbrev pub wants_memory_to_enable : List ℕ → List Task → Bool
wants_memory_to_enable id tasks = list_any (λ task. has_id id task && not (is_status Disabled task.status)) tasks
