-- Which task a worker gets. This project's own, after Luigi's central scheduler.
use Rattle.std.specs.Prelude.{Bool, ◌&&◌, ◌||◌, Option, List, find}
use Rattle.std.specs.List.{scan}
use Rattle.std.specs.Option.{option_map}
use Rattle.lg_calls.specs.declared.methods.get_work.GetWork.{GetWork}
use Rattle.lg_calls.specs.declared.state.State.{State}
use Rattle.lg_calls.specs.Task.{Task}
use Rattle.lg_calls.specs.Work.Fits.{fits}
use Rattle.lg_calls.specs.Work.Reserved.{Reserved, can_be_kept, with_next, nothing_reserved}
use Rattle.lg_calls.specs.Work.Walk.{names, walk, taken}

-- a task is allowed: it names the worker, or an assistant asks and anyone may run it
abbrev pub is_allowed : GetWork → Task → Bool
is_allowed ask task = names ask.worker task || (ask.assistant && task.runnable)

-- a task, with what those before it in the walk reserve
abbrev pub Place : Type 0
Place = Reserved × Task

-- a task can be given: it is ready, fits beside what is reserved before it, is allowed, and fits beside what is taken
abbrev pub is_candidate : GetWork → State → Place → Bool
is_candidate ask s place =
    can_be_kept s place.0 place.1 && (is_allowed ask place.1 && fits s.limits (taken ask.worker s) place.1.resources)

-- each task of a walk with what those before it reserve
abbrev pub places : GetWork → State → List Task → List Place
places ask s tasks = scan (with_next ask s) (λ before task. (before, task)) (nothing_reserved ask s) tasks

-- the first task of the walk that can be given, if there is one
unfoldable pub first_candidate : GetWork → State → Option Task
first_candidate ask s = option_map (λ place. place.1) (find (is_candidate ask s) (places ask s (walk ask.worker s)))
