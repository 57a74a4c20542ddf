use Rattle.std.proofs.Common.{◌≡◌, ap, ◌∙◌, map, take, arith}
use Rattle.std.proofs.lemmas.List.{take_all}
use Rattle.std.specs.FinMap.{entries}
use Rattle.lg_calls.specs.declared.status.Status.TheVariants.{Running}
use Rattle.lg_views.specs.Lent.{lent}
use Rattle.lg_calls.specs.Views.Resources.{resources}
use Rattle.lg_calls.specs.Views.Trees.{record_of}
use Rattle.lg_calls.specs.Use.{with_status}
use Rattle.lg_views.proofs.BuildLemmas.{built_more}
use Rattle.lg_views.proofs.LimitLemmas.{used_limit}
use Rattle.lg_views.proofs.PickLemmas.{CanBeShown-listed, CanBeShown-filter}
use Rattle.lg_views.proofs.PlaceLemmas.{CanBeLookedAt-listed}
use Rattle.lg_views.proofs.RecordLemmas.{lent_few}
use Rattle.lg_views.proofs.usage.resources.Goals as goal

pub picked-requires : goal.picked-requires
picked-requires g c = CanBeLookedAt-listed _ c.requires

pub limits-requires : goal.limits-requires
limits-requires g c = CanBeLookedAt-listed _ c.requires

pub used_by-used-requires : goal.used_by-used-requires
used_by-used-requires g c =
    let tasks = (g.K.Look.state c.args.state.now).tasks in
    lent_few c.as_slice-tasks.result.now (with_status Running tasks) (ap lent c.as_slice-tasks.ensures.value ∙ c.in_ok-running.ensures) (CanBeShown-filter _ tasks (CanBeShown-listed (g.K.Look.state c.args.state.now) c.requires))

pub loop-name-preserved : goal.loop-name-preserved
loop-name-preserved g c =
    let l = c.loop-name in
    built_more (used_limit (lent c.as_slice-tasks.result.now)) _ _ c.entries-limits.result.now l.name-index c.loop-name-item.result (omega arith) c.loop-name-item.is l.invariant
    (rw (c.as_str.ensures.same, c.used_by-used.ensures.sum) at c.in_ok-put.ensures)

pub returns : goal.returns
unfolding resources
returns g c =
    let l = c.loop-name in
    let s = g.K.Look.state c.args.state.now in
    let limits = c.entries-limits.result.now in
    let whole : take l.name-index limits ≡ limits = take_all l.name-index limits (omega arith) in
    c.into_out.ensures
    ∙ ap record_of
    (l.invariant
    ∙ (ap (map (used_limit (lent c.as_slice-tasks.result.now))) (whole ∙ (c.entries-limits.ensures ∙ ap entries c.limits.ensures))
    ∙ ap (λ running. map (used_limit running) (entries s.limits)) (ap lent c.as_slice-tasks.ensures.value ∙ c.in_ok-running.ensures)))
