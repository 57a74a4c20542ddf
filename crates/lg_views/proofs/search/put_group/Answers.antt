use Rattle.std.proofs.Common.{◌++◌, ap, ◌∙◌}
use Rattle.std.proofs.lemmas.Result.{on_ok_weaker}
use Rattle.lg_base.specs.declared.faults.NoMemory.{NoMemory}
use Rattle.lg_views.specs.Fields.{fields_in}
use Rattle.lg_views.specs.Lent.{lent}
use Rattle.lg_calls.specs.Views.TaskSearch.{group_of}
use Rattle.lg_calls.specs.Use.{with_status}
use Rattle.lg_views.proofs.PickLemmas.{CanBeShown-filter}
use Rattle.lg_views.proofs.RecordLemmas.{lent_shown}
use Rattle.lg_views.proofs.search.put_group.Goals as goal

pub put_some-requires : goal.put_some-requires
put_some-requires c =
    let tasks = lent c.args.tasks.now in
    lent_shown c.in_ok-group.group.items (with_status c.args.status tasks) c.in_ok-group.ensures (CanBeShown-filter _ tasks c.requires)

pub returns : goal.returns
returns c =
    on_ok_weaker {T = Unit {0}} {E = NoMemory} c.put_some.result
    (λ put. put ∙ ap (λ tasks. fields_in c.args.object.now ++ group_of c.args.status tasks) c.in_ok-group.ensures)
    c.put_some.ensures
