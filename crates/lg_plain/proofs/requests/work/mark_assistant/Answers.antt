use Rattle.std.proofs.Common.{sym, ap, subst, ◌∙◌}
use Rattle.std.proofs.lemmas.Result.{on_ok_weaker}
use Rattle.lg_calls.specs.declared.worker.WorkerRec.{WorkerRec}
use Rattle.lg_calls.specs.Methods.AddWorker.{informed}
use Rattle.lg_calls.specs.Methods.GetWork.{assistant_info}
use Rattle.lg_calls.specs.Valid.{IsValidState}
use Rattle.lg_calls.specs.Workers.{known_or_new, put_worker}
use Rattle.lg_plain.proofs.RequestLemmas.{valid-worker_added}
use Rattle.lg_plain.proofs.requests.work.mark_assistant.Goals as goal

pub returns-clause-valid : goal.returns-clause-valid
returns-clause-valid c =
    let s = c.args.state.now in
    let known = c.in_ok-worker.ensures ∙ ap (known_or_new c.args.ask.now.worker s.moment) c.as_slice.ensures in
    let told = c.in_ok-tell_assistant.ensures ∙ ap (informed assistant_info) known in
    on_ok_weaker c.put_worker.result
    (λ is. subst IsValidState (sym (is ∙ ap (λ (worker : WorkerRec). put_worker worker s) told))
    (valid-worker_added (record { worker = c.args.ask.now.worker; info = assistant_info }) s c.requires))
    c.put_worker.ensures.put
