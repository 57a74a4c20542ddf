-- The arguments of `get_work`, and what it does. This project's own, after Luigi's RPC.
use Rattle.std.specs.Prelude.{ℕ, codes, true, false, if◌then◌else◌, Option, Some, None, unwrap_or, List, [], ◌∷◌, ◌++◌}
use Rattle.std.specs.Option.{option_map_or}
use Rattle.lg_json.specs.Fields.{text_in, truth_in, texts_in}
use Rattle.lg_calls.specs.declared.methods.get_work.GetWork.{GetWork}
use Rattle.lg_json.specs.Tree.{Tree, null, str}
use Rattle.lg_calls.specs.declared.info.Info.{Info}
use Rattle.lg_calls.specs.declared.info.Info.TheVariants.{Truth}
use Rattle.lg_calls.specs.declared.state.State.{State}
use Rattle.lg_calls.specs.Methods.AddWorker.{informed}
use Rattle.lg_calls.specs.Outcome.{Outcome, replied}
use Rattle.lg_calls.specs.Task.{Task}
use Rattle.lg_calls.specs.Views.PendingCounts.{counts_of, no_counts, state_field}
use Rattle.lg_calls.specs.Views.Trees.{Fields, record_of, maybe, by_name}
use Rattle.lg_calls.specs.Work.Again.{given_again}
use Rattle.lg_calls.specs.Work.Assigning.{assigned, assigned_again}
use Rattle.lg_calls.specs.Work.Candidate.{first_candidate}
use Rattle.lg_calls.specs.Workers.{heard_worker, is_disabled, known_or_new, put_worker}
use Rattle.lg_calls.specs.Reading.{Reading, ◌>>=◌, field, needed, done}

abbrev pub get_work : Reading GetWork
get_work =
    needed text_in (codes "worker") >>= λ worker.
    field truth_in (codes "assistant") >>= λ assistant.
    field texts_in (codes "current_tasks") >>= λ tasks.
    done (record { worker = worker; assistant = unwrap_or assistant false; current_tasks = tasks })

-- ---- what it does

-- a worker is heard of, and asks for work; one that isn't known is made
abbrev pub heard_asking : GetWork → State → State
heard_asking ask s = put_worker (record (heard_worker ask.worker s.moment s.workers) { last_get_work = Some s.moment }) s

-- that a worker is an assistant is told with the rest of what is known of it
abbrev pub assistant_info : List (List ℕ × Info)
assistant_info = (codes "assistant", Truth true) ∷ []

-- who asks as an assistant is one from then on
abbrev pub assistant_marked : GetWork → State → State
assistant_marked ask s =
    if ask.assistant then put_worker (informed assistant_info (known_or_new ask.worker s.moment s.workers)) s else s

-- what is said of the task that is given, if one is
abbrev pub given_fields : Option Task → Fields
given_fields None = (codes "task_id", null) ∷ []
given_fields (Some task) =
    (codes "task_family", str task.family) ∷
    (codes "task_id", str task.id) ∷
    (codes "task_module", maybe str task.«module») ∷
    (codes "task_params", by_name str task.params) ∷ []

-- the reply: how much there is to do, and the task that is given, if one is
unfoldable pub work_reply : List ℕ → State → Option Task → Tree
work_reply worker s given = record_of (counts_of worker s ++ (given_fields given ++ state_field worker s))

-- the reply to a worker that is disabled: there is nothing to do
unfoldable pub nothing_to_do : List ℕ → State → Tree
nothing_to_do worker s = record_of (no_counts ++ (given_fields None ++ state_field worker s))

-- a task is chosen anew where nothing is given again and the scheduler isn't paused: the first that can be given
abbrev pub newly_chosen : GetWork → State → Option Task
newly_chosen ask s = if s.paused then None else first_candidate ask s

-- that task is given, if there is one
abbrev pub newly_given : GetWork → State → State × Outcome
newly_given ask s =
    let choice = newly_chosen ask s in
    (option_map_or (λ (task : Task). assigned ask.worker task.id s) choice s, replied (work_reply ask.worker s choice))

-- a task that the worker lost is given again, and else one anew
abbrev pub given_or_again : GetWork → State → Option Task → State × Outcome
given_or_again ask s (Some task) = (assigned_again task.id s, replied (work_reply ask.worker s (Some task)))
given_or_again ask s None = newly_given ask s

-- a worker that isn't disabled gets work
abbrev pub given_to : GetWork → State → State × Outcome
given_to ask s = given_or_again ask s (given_again ask s)

-- a worker asks for work
unfoldable pub work_given : GetWork → State → State × Outcome
work_given ask s =
    let here = heard_asking ask s in
    if is_disabled ask.worker here.workers then (here, replied (nothing_to_do ask.worker here))
    else given_to ask (assistant_marked ask here)
