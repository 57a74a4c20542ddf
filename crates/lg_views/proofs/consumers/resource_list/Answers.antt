use Rattle.std.proofs.Common.{◌≡◌, ap, ◌∙◌, map, take, rules, arith}
use Rattle.std.proofs.lemmas.List.{take_all}
use Rattle.std.specs.FinMap.{entries}
use Rattle.lg_calls.specs.declared.status.Status.TheVariants.{Running}
use Rattle.lg_json.specs.declared.out.Out.{the_lemmas}
use Rattle.lg_json.specs.declared.out.Out.TheVariants as O
use Rattle.lg_json.specs.Tree.{tree_of, trees_view, list, trees_of}
use Rattle.lg_views.specs.Lent.{lent}
use Rattle.lg_calls.specs.Views.ResourceList.{resource_list}
use Rattle.lg_calls.specs.Use.{with_status}
use Rattle.lg_views.proofs.BuildLemmas.{built_more, pushed}
use Rattle.lg_views.proofs.LimitLemmas.{listed_limit}
use Rattle.lg_views.proofs.PickLemmas.{CanBeShown-listed, CanBeShown-filter}
use Rattle.lg_views.proofs.PlaceLemmas.{CanBeLookedAt-listed}
use Rattle.lg_views.proofs.RecordLemmas.{lent_shown}
use Rattle.lg_views.proofs.consumers.resource_list.Goals as goal

pub picked-requires : goal.picked-requires
picked-requires g c = CanBeLookedAt-listed _ c.requires

pub limits-requires : goal.limits-requires
limits-requires g c = CanBeLookedAt-listed _ c.requires

pub limit_record-requires : goal.limit_record-requires
limit_record-requires g c =
    let tasks = (g.K.Look.state c.args.state.now).tasks in
    lent_shown c.as_slice-tasks.result.now (with_status Running tasks) (ap lent c.as_slice-tasks.ensures.value ∙ c.in_ok-running.ensures) (CanBeShown-filter _ tasks (CanBeShown-listed (g.K.Look.state c.args.state.now) c.requires))

pub loop-name-preserved : goal.loop-name-preserved
loop-name-preserved g c =
    let l = c.loop-name in
    built_more (listed_limit (lent c.as_slice-tasks.result.now)) _ _ c.entries-limits.result.now l.name-index c.loop-name-item.result (omega arith) c.loop-name-item.is l.invariant
    (pushed _ _ _ c.in_ok-out.out c.in_ok-push.ensures.items c.in_ok-out.ensures)

pub returns : goal.returns
unfolding resource_list
returns g c =
    let l = c.loop-name in
    let s = g.K.Look.state c.args.state.now in
    let limits = c.entries-limits.result.now in
    let seen : tree_of (O.List l.outs) ≡ list (trees_view l.outs.items) = search (rules, the_lemmas) in
    let whole : take l.name-index limits ≡ limits = take_all l.name-index limits (omega arith) in
    seen
    ∙ ap (λ trees. list (trees_of trees))
    (l.invariant
    ∙ (ap (map (listed_limit (lent c.as_slice-tasks.result.now))) (whole ∙ (c.entries-limits.ensures ∙ ap entries c.limits.ensures))
    ∙ ap (λ running. map (listed_limit running) (entries s.limits)) (ap lent c.as_slice-tasks.ensures.value ∙ c.in_ok-running.ensures)))
