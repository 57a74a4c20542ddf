use Rattle.std.proofs.Common.{◌≡◌, take, ap, ◌∙◌, arith}
use Rattle.std.proofs.lemmas.List.{take_all}
use Rattle.lg_views.specs.Lent.{lent}
use Rattle.lg_views.specs.Runs.{runs_of}
use Rattle.lg_views.proofs.PendingLemmas.{runs_more}
use Rattle.lg_views.proofs.PickLemmas.{lent_more}
use Rattle.lg_views.proofs.runs.runs_among.Goals as goal

pub loop-task-preserved : goal.loop-task-preserved
loop-task-preserved g c =
    runs_more (g.K.Look.state c.args.state.now) _ _ _ _ _ (lent_more c.args.tasks.now c.loop-task.task-index c.task-item.result (omega arith) c.task-item.is) c.loop-task.invariant
    c.in_ok-push_run.ensures

pub returns : goal.returns
returns g c =
    let l = c.loop-task in
    let whole : take l.task-index c.args.tasks.now ≡ c.args.tasks.now = take_all l.task-index c.args.tasks.now (omega arith) in
    l.invariant ∙ ap (λ tasks. runs_of (g.K.Look.state c.args.state.now) (lent tasks)) whole
