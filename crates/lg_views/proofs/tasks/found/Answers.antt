-- What stands at the place of the id is the task of the id.
use Rattle.std.proofs.Common.{ap, ◌∙◌}
use Rattle.std.specs.Option.{option_and_then}
use Rattle.lg_calls.specs.Look.{task_at}
use Rattle.lg_calls.specs.Tasks.{find_task}
use Rattle.lg_views.proofs.tasks.found.Goals as goal

pub returns-in_err-place : goal.returns-in_err-place
returns-in_err-place g c =
    let places = g.K.Look.shelf c.args.state.now in
    rw c.from_residual.ensures
    (ap (option_and_then (task_at places)) c.in_err-place.ensures
    ∙ (c.who_is_found_stands_at_its_place.ensures c.args.id.now places
    ∙ ap (find_task c.args.id.now) (g.met.K.Look.holds_the_tasks c.args.state.now)))

pub returns : goal.returns
returns g c =
    let places = g.K.Look.shelf c.args.state.now in
    c.at.ensures
    ∙ (ap (option_and_then (task_at places)) c.in_ok-place.ensures
    ∙ (c.who_is_found_stands_at_its_place.ensures c.args.id.now places
    ∙ ap (find_task c.args.id.now) (g.met.K.Look.holds_the_tasks c.args.state.now)))
