use Rattle.std.proofs.Common.{◌<◌, ◌≤◌, not, ◌&&◌, false, length, sym, ap, ◌∙◌, arith}
use Rattle.std.proofs.lemmas.List.{get_or_read}
use Rattle.lg_calls.specs.Paths.{is_path_through}
use Rattle.lg_calls.specs.Upstream.{is_open, waits_for}
use Rattle.lg_views.proofs.PlaceLemmas.{task_more, no_task_more, all_tasks}
use Rattle.lg_views.proofs.UpstreamLemmas.{worst_by, worst_more}
use Rattle.lg_views.proofs.upstream.worst_waited_for.Goals as goal

pub loop-place-preserved-in-None : goal.loop-place-preserved-in-None
loop-place-preserved-in-None g c =
    let shelf = g.K.Look.shelf c.args.state.now in
    let tasks = (g.K.Look.state c.args.state.now).tasks in
    let within : c.loop-place.place < length shelf = omega (arith, c.places-place-end.ensures) in
    c.loop-place.invariant
    ∙ ap (worst_by (λ other. not (is_open other) && is_path_through waits_for tasks c.args.task.now other)) (sym (no_task_more shelf c.loop-place.place within c.in-None.ensures))

pub loop-place-preserved : goal.loop-place-preserved
loop-place-preserved g c =
    let shelf = g.K.Look.shelf c.args.state.now in
    let tasks = (g.K.Look.state c.args.state.now).tasks in
    let place = c.loop-place.place in
    let other = c.in-Some.other.now in
    let walk = c.in_ok-walk.walk in
    let within : place < length shelf = omega (arith, c.places-place-end.ensures) in
    worst_more (is_path_through waits_for tasks c.args.task.now) _ _ other _ _ c.index.result.now
    (task_more shelf place other within c.in-Some.ensures) c.loop-place.invariant
    (get_or_read walk.marks.items place c.index.result.now (omega (arith, c.in_ok-walk.ensures.count)) c.index.ensures false
    ∙ c.in_ok-walk.ensures.marks place other (sym c.in-Some.ensures))
    c.worst_with-worst.ensures

pub returns : goal.returns
returns g c =
    let shelf = g.K.Look.shelf c.args.state.now in
    let tasks = (g.K.Look.state c.args.state.now).tasks in
    let past : length shelf ≤ c.loop-place.place = omega (arith, c.places-place-end.ensures) in
    c.loop-place.invariant
    ∙ ap (worst_by (λ other. not (is_open other) && is_path_through waits_for tasks c.args.task.now other)) (all_tasks shelf c.loop-place.place past ∙ g.met.K.Look.holds_the_tasks c.args.state.now)
