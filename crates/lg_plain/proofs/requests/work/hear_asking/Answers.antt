use Rattle.std.proofs.Common.{Some, sym, ap, subst, ◌∙◌}
use Rattle.std.proofs.lemmas.Result.{on_ok_weaker}
use Rattle.lg_calls.specs.declared.worker.WorkerRec.{WorkerRec}
use Rattle.lg_calls.specs.Valid.{IsValidState}
use Rattle.lg_calls.specs.Workers.{heard_worker, put_worker}
use Rattle.lg_plain.proofs.GivenLemmas.{valid-heard}
use Rattle.lg_plain.proofs.requests.work.hear_asking.Goals as goal

pub returns-clause-valid : goal.returns-clause-valid
returns-clause-valid c =
    let s = c.args.state.now in
    let heard = c.in_ok-worker.ensures ∙ ap (heard_worker c.args.ask.now.worker s.moment) c.as_slice.ensures in
    let asking : WorkerRec → WorkerRec = λ worker. record worker { last_get_work = Some s.moment } in
    on_ok_weaker c.put_worker.result
    (λ is. subst IsValidState (sym (is ∙ ap (λ (worker : WorkerRec). put_worker (asking worker) s) heard))
    (valid-heard c.args.ask.now s c.requires))
    c.put_worker.ensures.put
