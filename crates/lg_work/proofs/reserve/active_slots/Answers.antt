use Rattle.std.proofs.Common.{◌++◌, ◌∷◌, [], ap, ◌∙◌, arith}
use Rattle.lg_work.specs.Reserving.{slots_active}
use Rattle.lg_work.proofs.ReserveLemmas.{active_more}
use Rattle.lg_work.proofs.reserve.active_slots.Goals as goal

pub loop-worker-preserved : goal.loop-worker-preserved
loop-worker-preserved c =
    let worker = c.worker-item.result in
    c.in_ok-push_active.ensures
    ∙ ap (λ slots. slots ++ slots_active c.args.delay c.args.now (worker ∷ [])) c.loop-worker.invariant
    ∙ active_more c.args.delay c.args.now c.args.workers.now c.loop-worker.worker-index worker (omega arith) c.worker-item.is
