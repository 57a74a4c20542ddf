-- Which task is found first along a walk, once something is reserved. This project's own.
use Rattle.std.specs.Prelude.{Option, List, find}
use Rattle.std.specs.List.{scan}
use Rattle.std.specs.Option.{option_map}
use Rattle.lg_calls.specs.declared.methods.get_work.GetWork.{GetWork}
use Rattle.lg_calls.specs.declared.state.State.{State}
use Rattle.lg_calls.specs.Task.{Task}
use Rattle.lg_calls.specs.Work.Candidate.{is_candidate}
use Rattle.lg_calls.specs.Work.Reserved.{Reserved, with_next}

-- the first of some tasks that can be given, each with what is reserved before them all and by those before it
unfoldable pub first_from : GetWork → State → Reserved → List Task → Option Task
first_from ask s before tasks =
    option_map (λ place. place.1) (find (is_candidate ask s) (scan (with_next ask s) (λ reserved task. (reserved, task)) before tasks))
