use Rattle.std.proofs.Common.{◌≡◌, ◌++◌, take, ap, ◌∙◌, append-nil, sym, arith}
use Rattle.std.proofs.lemmas.List.{take_all}
use Rattle.std.specs.Prelude.{flat_map}
use Rattle.lg_views.specs.Fields.{fields_in}
use Rattle.lg_views.specs.Lent.{lent}
use Rattle.lg_calls.specs.Views.TaskSearch.{group}
use Rattle.lg_views.proofs.GroupLemmas.{groups_more}
use Rattle.lg_views.proofs.search.put_groups.Goals as goal

pub loop-status-init : goal.loop-status-init
loop-status-init c = sym (append-nil (fields_in c.args.object.now))

pub loop-status-preserved : goal.loop-status-preserved
loop-status-preserved c =
    groups_more (lent c.args.tasks.now) (fields_in c.args.object.now) _ _ c.args.statuses.now c.loop-status.status-index _ (omega arith) c.loop-status.invariant c.in_ok-put_group.ensures

pub returns : goal.returns
returns c =
    let l = c.loop-status in
    let whole : take l.status-index c.args.statuses.now ≡ c.args.statuses.now = take_all l.status-index c.args.statuses.now (omega arith) in
    l.invariant ∙ ap (λ statuses. fields_in c.args.object.now ++ flat_map (group (lent c.args.tasks.now)) statuses) whole
