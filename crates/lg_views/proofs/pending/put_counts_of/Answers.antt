use Rattle.std.proofs.Common.{◌++◌, cond, Option, ap, ◌∙◌}
use Rattle.std.proofs.lemmas.Result.{on_ok_weaker}
use Rattle.std.specs.Prelude.{is_some}
use Rattle.lg_base.specs.declared.faults.NoMemory.{NoMemory}
use Rattle.lg_calls.specs.declared.worker.WorkerRec.{WorkerRec}
use Rattle.lg_calls.specs.Views.PendingCounts.{counts_of, known_counts, left_for, no_counts}
use Rattle.lg_calls.specs.Workers.{find_worker}
use Rattle.lg_views.specs.Fields.{fields_in}
use Rattle.lg_views.proofs.PlaceLemmas.{CanBeLookedAt-listed}
use Rattle.lg_views.proofs.pending.put_counts_of.Goals as goal

pub workers-requires : goal.workers-requires
workers-requires g c = CanBeLookedAt-listed _ c.requires

pub returns-in-None : goal.returns-in-None
unfolding counts_of
returns-in-None g c =
    let s = g.K.Look.state c.args.state.now in
    let worker = c.args.worker.now in
    let old = fields_in c.args.object.now in
    on_ok_weaker {T = Unit {0}} {E = NoMemory} c.put_no_counts.result
    (λ put.
    put
    ∙ ap (λ (o : Option WorkerRec). old ++ cond (is_some o) (known_counts worker (left_for worker s.tasks) s) no_counts) (c.in-None.ensures ∙ ap (find_worker worker) c.workers.ensures))
    c.put_no_counts.ensures

pub returns-in-Some : goal.returns-in-Some
unfolding counts_of
returns-in-Some g c =
    let s = g.K.Look.state c.args.state.now in
    let worker = c.args.worker.now in
    let old = fields_in c.args.object.now in
    on_ok_weaker {T = Unit {0}} {E = NoMemory} c.put_known.result
    (λ put.
    put
    ∙ ap (λ (o : Option WorkerRec). old ++ cond (is_some o) (known_counts worker (left_for worker s.tasks) s) no_counts) (c.in-Some.ensures ∙ ap (find_worker worker) c.workers.ensures))
    c.put_known.ensures
