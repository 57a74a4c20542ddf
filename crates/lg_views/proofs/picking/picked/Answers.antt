use Rattle.std.proofs.Common.{◌<◌, ◌≤◌, length, sym, ap, ◌∙◌, arith}
use Rattle.std.specs.Prelude.{filter}
use Rattle.lg_views.proofs.PickLemmas.{looked_at_more}
use Rattle.lg_views.proofs.PlaceLemmas.{task_more, no_task_more, all_tasks}
use Rattle.lg_views.proofs.picking.picked.Goals as goal

pub loop-place-preserved-in-None : goal.loop-place-preserved-in-None
loop-place-preserved-in-None g c =
    let shelf = g.K.Look.shelf c.args.state.now in
    let within : c.loop-place.place < length shelf = omega (arith, c.places-place-end.ensures) in
    c.loop-place.invariant ∙ ap (filter (g.W.Wanted.wants c.args.wanted.now)) (sym (no_task_more shelf c.loop-place.place within c.in-None.ensures))

pub loop-place-preserved : goal.loop-place-preserved
loop-place-preserved g c =
    let shelf = g.K.Look.shelf c.args.state.now in
    let task = c.in-Some.task.now in
    let within : c.loop-place.place < length shelf = omega (arith, c.places-place-end.ensures) in
    looked_at_more (g.W.Wanted.wants c.args.wanted.now) _ _ _ _ task (task_more shelf c.loop-place.place task within c.in-Some.ensures) c.loop-place.invariant c.in_ok-push_wanted-in-Some.ensures

pub returns : goal.returns
returns g c =
    let shelf = g.K.Look.shelf c.args.state.now in
    let past : length shelf ≤ c.loop-place.place = omega (arith, c.places-place-end.ensures) in
    c.loop-place.invariant ∙ ap (filter (g.W.Wanted.wants c.args.wanted.now)) (all_tasks shelf c.loop-place.place past ∙ g.met.K.Look.holds_the_tasks c.args.state.now)
