-- Who wants a task, and the dependencies that are made for it. This project's own, after Luigi's central scheduler.
use Rattle.std.specs.Prelude.{ℕ, Bool, not, ◌&&◌, if◌then◌else◌, List, ◌∷◌, fold}
use Rattle.std.specs.BTreeSet.{replace_key}
use Rattle.std.specs.List.{list_any}
use Rattle.std.specs.Ordering.{nat_cmp}
use Rattle.std.specs.Cmp.Lexicographic.{slice_cmp}
use Rattle.lg_calls.specs.declared.methods.add_task.AddTask.{AddTask}
use Rattle.lg_calls.specs.declared.state.State.{State}
use Rattle.lg_calls.specs.declared.status.Status.TheVariants.{Unknown}
use Rattle.lg_calls.specs.Order.{is_same}
use Rattle.lg_calls.specs.Task.{Task}
use Rattle.lg_calls.specs.Tasks.{change_meant}
use Rattle.lg_calls.specs.AddTask.Describing.{by_task}
use Rattle.lg_calls.specs.AddTask.Making.{with_task}
use Rattle.lg_calls.specs.Workers.{is_disabled}

-- the worker wants the task done: it isn't disabled, and doesn't just help others
abbrev pub wants : AddTask → State → Bool
wants ask s = not (is_disabled ask.worker s.workers) && not ask.assistant

-- the task has one of these ids
abbrev pub has_id_of : List (List ℕ) → Task → Bool
has_id_of ids task = list_any (is_same task.id) ids

-- a worker is a stakeholder of a task
abbrev pub wanted_by : List ℕ → Task → Task
wanted_by worker task = record task { stakeholders = replace_key (slice_cmp nat_cmp) task.stakeholders worker }

-- each dependency that isn't known is made, in the order of their bytes: UNKNOWN, with the priority of the call
abbrev pub deps_made : AddTask → Task → State → State
deps_made ask task s = fold (with_task Unknown ask.priority) s task.deps

-- the worker is a stakeholder of the task and of each of its dependencies
abbrev pub stakes_added : AddTask → Task → State → State
stakes_added ask task s = record s { tasks = change_meant (has_id_of (task.id ∷ task.deps)) (wanted_by ask.worker) s.tasks }

abbrev pub wanted : AddTask → State → State
wanted ask s = if wants ask s then by_task ask (λ task here. stakes_added ask task (deps_made ask task here)) s else s
