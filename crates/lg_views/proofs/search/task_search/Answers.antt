use Rattle.std.proofs.Common.{ap, ◌∙◌}
use Rattle.std.specs.Prelude.{filter, flat_map}
use Rattle.lg_calls.specs.Task.{Task}
use Rattle.lg_calls.specs.Views.Counts.{in_order}
use Rattle.lg_views.specs.Lent.{lent}
use Rattle.lg_calls.specs.Views.TaskSearch.{group, has_part, task_search}
use Rattle.lg_calls.specs.Views.Trees.{record_of}
use Rattle.lg_views.proofs.BuildLemmas.{all_put}
use Rattle.lg_views.proofs.PickLemmas.{CanBeShown-listed, CanBeShown-filter}
use Rattle.lg_views.proofs.PlaceLemmas.{CanBeLookedAt-listed}
use Rattle.lg_views.proofs.RecordLemmas.{lent_shown}
use Rattle.lg_views.proofs.search.task_search.Goals as goal

pub picked-requires : goal.picked-requires
picked-requires g c = CanBeLookedAt-listed _ c.requires

pub put_groups-requires : goal.put_groups-requires
put_groups-requires g c =
    let tasks = (g.K.Look.state c.args.state.now).tasks in
    lent_shown c.as_slice.result.now (filter (λ (task : Task). has_part c.args.part.now task.id) tasks) (ap lent c.as_slice.ensures.value ∙ c.in_ok-found.ensures) (CanBeShown-filter _ tasks (CanBeShown-listed (g.K.Look.state c.args.state.now) c.requires))

pub returns : goal.returns
unfolding task_search
returns g c =
    c.into_out.ensures
    ∙ ap record_of
    (all_put _ _ _ c.new-object.ensures c.in_ok-put_groups.ensures
    ∙ ap (λ tasks. flat_map (group tasks) in_order) (ap lent c.as_slice.ensures.value ∙ c.in_ok-found.ensures))
