-- What `add_task` says of a task itself. This project's own, after Luigi's central scheduler.
use Rattle.std.specs.Prelude.{ℕ, Bool, true, false, not, ◌||◌, if◌then◌else◌, Option, Some, None, is_some, unwrap_or, option_and_then, List, [], ◌∷◌}
use Rattle.std.specs.Option.{option_map_or, option_or}
use Rattle.lg_calls.specs.declared.methods.add_task.AddTask.{AddTask}
use Rattle.lg_calls.specs.declared.state.State.{State}
use Rattle.lg_calls.specs.declared.status.Status.TheVariants.{Running}
use Rattle.lg_calls.specs.Status.{is_status, runs_in}
use Rattle.lg_calls.specs.Task.{Task}
use Rattle.lg_calls.specs.Tasks.{find_task, change_meant, change_task}

-- a list that is empty is filled
abbrev pub filled_list : {X : Type 0} → List X → List X → List X
filled_list [] given = given
filled_list (x ∷ xs) given = x ∷ xs

-- what is empty or absent of the task's family, module and parameters is filled
abbrev pub filled : AddTask → Task → Task
filled ask task = record task {
  family = filled_list task.family ask.family;
  «module» = option_or task.«module» ask.«module»;
  params = filled_list task.params ask.params;
}

-- the tracking URL is replaced where one is given, and by none where the task isn't RUNNING
abbrev pub replaces_url : AddTask → Task → Bool
replaces_url ask task = is_some ask.tracking_url || not (is_status Running task.status)

-- what is told of a task's work: where it can be looked at, where that is replaced, and why it failed, where that is given
abbrev pub told : AddTask → Bool → Task → Task
told ask replaces task = record task {
  tracking_url = if replaces then ask.tracking_url else task.tracking_url;
  expl = option_or ask.expl task.expl;
}

-- the fields that a call replaces
abbrev pub replaced : AddTask → Task → Task
replaced ask task = record (told ask (replaces_url ask task) task) {
  accepts_messages = ask.accepts_messages;
  batchable = unwrap_or ask.batchable task.batchable;
  remove = None;
}

-- the batch that a call is about: the one that it gives, else the task's own
abbrev pub batch_meant : AddTask → Task → Option (List ℕ)
batch_meant ask task = option_or ask.batch_id task.batch

-- the tasks that run in the batch of this task are told the same of their work
abbrev pub batch_told : AddTask → Task → State → State
batch_told ask task s = record s { tasks = change_meant (runs_in (batch_meant ask task)) (told ask (replaces_url ask task)) s.tasks }

-- what a step does that looks at the task of the call as it stands
abbrev pub by_task : AddTask → (Task → State → State) → State → State
by_task ask step s = option_map_or (λ task. step task s) (find_task ask.task_id s.tasks) s

-- the task of the call is changed
abbrev pub task_changed : AddTask → (Task → Task) → State → State
task_changed ask change s = record s { tasks = change_task ask.task_id change s.tasks }

-- the task of the call is filled and its fields are replaced, and its batch is told
abbrev pub task_described : AddTask → State → State
task_described ask s = task_changed ask (replaced ask) (by_task ask (batch_told ask) (task_changed ask (filled ask) s))
