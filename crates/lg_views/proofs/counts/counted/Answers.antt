use Rattle.std.proofs.Common.{◌<◌, ◌≤◌, ◌^◌, length, take, sym, ap, ◌∙◌, subst, arith}
use Rattle.lg_calls.specs.Look.{tasks_at}
use Rattle.lg_calls.specs.Task.{Task}
use Rattle.lg_views.specs.Counts.{counts_of, with_one_more, AreBelow}
use Rattle.lg_views.proofs.CountLemmas.{counts_of-push, AreBelow-few}
use Rattle.lg_views.proofs.PlaceLemmas.{task_more, no_task_more, all_tasks, few_before}
use Rattle.lg_views.proofs.counts.counted.Goals as goal

pub loop-place-preserved-in-None : goal.loop-place-preserved-in-None
loop-place-preserved-in-None g c =
    let shelf = g.K.Look.shelf c.args.state.now in
    let within : c.loop-place.place < length shelf = omega (arith, c.places-place-end.ensures) in
    c.loop-place.invariant ∙ ap counts_of (sym (no_task_more shelf c.loop-place.place within c.in-None.ensures))

pub with_one_more-counts-requires : goal.with_one_more-counts-requires
with_one_more-counts-requires g c =
    let shelf = g.K.Look.shelf c.args.state.now in
    let tasks = tasks_at (take c.loop-place.place shelf) in
    let within : c.loop-place.place ≤ length shelf = omega (arith, c.places-place-end.ensures) in
    let few : length tasks ≤ c.loop-place.place = few_before shelf c.loop-place.place within in
    let below : length tasks < 2 ^ 32 = omega (arith, few) in
    subst (AreBelow (2 ^ 32)) (sym c.loop-place.invariant) (AreBelow-few (2 ^ 32) tasks below)

pub loop-place-preserved : goal.loop-place-preserved
loop-place-preserved g c =
    let shelf = g.K.Look.shelf c.args.state.now in
    let tasks = tasks_at (take c.loop-place.place shelf) in
    let task = c.in-Some.task.now in
    let within : c.loop-place.place < length shelf = omega (arith, c.places-place-end.ensures) in
    c.with_one_more-counts.ensures
    ∙ (ap (λ counts. with_one_more counts c.task.inside.status) c.loop-place.invariant
    ∙ (ap (λ (t : Task). with_one_more (counts_of tasks) t.status) c.task.view_is
    ∙ (sym (counts_of-push tasks task) ∙ ap counts_of (sym (task_more shelf c.loop-place.place task within c.in-Some.ensures)))))

pub returns : goal.returns
returns g c =
    let shelf = g.K.Look.shelf c.args.state.now in
    let past : length shelf ≤ c.loop-place.place = omega (arith, c.places-place-end.ensures) in
    c.loop-place.invariant ∙ ap counts_of (all_tasks shelf c.loop-place.place past ∙ g.met.K.Look.holds_the_tasks c.args.state.now)
