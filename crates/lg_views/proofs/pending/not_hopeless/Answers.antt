use Rattle.std.proofs.Common.{◌≡◌, not, take, ap, ◌∙◌, arith}
use Rattle.std.proofs.lemmas.List.{take_all}
use Rattle.std.specs.Prelude.{filter}
use Rattle.lg_calls.specs.Upstream.{is_hopeless}
use Rattle.lg_views.specs.Lent.{lent}
use Rattle.lg_views.proofs.PickLemmas.{looked_at_more, lent_more}
use Rattle.lg_views.proofs.pending.not_hopeless.Goals as goal

pub loop-task-preserved : goal.loop-task-preserved
loop-task-preserved g c =
    looked_at_more (λ task. not (is_hopeless (g.K.Look.state c.args.state.now).tasks task)) _ _ _ _ _ (lent_more c.args.tasks.now c.loop-task.task-index c.task-item.result (omega arith) c.task-item.is)
    c.loop-task.invariant c.in_ok-push_hopeful.ensures

pub returns : goal.returns
returns g c =
    let l = c.loop-task in
    let whole : take l.task-index c.args.tasks.now ≡ c.args.tasks.now = take_all l.task-index c.args.tasks.now (omega arith) in
    l.invariant ∙ ap (λ tasks. filter (λ task. not (is_hopeless (g.K.Look.state c.args.state.now).tasks task)) (lent tasks)) whole
