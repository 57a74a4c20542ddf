use Rattle.std.proofs.Common.{ap, codes, drop, subst}
use Rattle.std.specs.Prelude.{ℕ, List, All}
use Rattle.std.proofs.lemmas.Result.{on_ok_weaker}
use Rattle.lg_base.specs.declared.faults.NoMemory.{NoMemory}
use Rattle.lg_json.specs.Tree.{truth, str}
use Rattle.lg_snapshot.specs.Trees.{moment, maybe, by_name, info}
use Rattle.lg_snapshot.specs.Records.{worker_fields}
use Rattle.lg_snapshot.proofs.FieldLemmas.{record_step, more_step, more_step_as}
use Rattle.lg_snapshot.proofs.HoldingLemmas.{OnOk-anyway}
use Rattle.lg_calls.specs.declared.info.Info.{Info}
use Rattle.lg_snapshot.specs.Fitting.{IsSignedInfo}
use Rattle.lg_snapshot.specs.Holding.{IsHeld}
use Rattle.lg_snapshot.proofs.records.WorkerRecWritten.write.Goals as goal

pub returns-clause-written : goal.returns-clause-written
returns-clause-written c =
    let worker = c.args.self.now in
    on_ok_weaker {T = Unit {0}} {E = NoMemory} c.end.result
    (λ last.
    record_step _ _ _ (codes "disabled") (truth worker.disabled) (drop 1 (worker_fields worker)) c.in_ok-first.ensures.written
    (more_step _ _ _ (codes "id") (str worker.id) (drop 2 (worker_fields worker)) _ c.in_ok-next.ensures.written
    (more_step_as _ _ _ (codes "info") (by_name info c.as_slice.result.now) (by_name info worker.info) (drop 3 (worker_fields worker)) _ (ap (by_name info) c.as_slice.ensures) c.in_ok-next-2.ensures.written
    (more_step _ _ _ (codes "last_active") (moment worker.last_active) (drop 4 (worker_fields worker)) _ c.in_ok-next-3.ensures.written
    (more_step _ _ _ (codes "last_get_work") (maybe moment worker.last_get_work) (drop 5 (worker_fields worker)) _ c.in_ok-next-4.ensures.written
    (more_step _ _ _ (codes "started") (moment worker.started) (drop 6 (worker_fields worker)) _ c.in_ok-next-5.ensures.written
    last))))))
    c.end.ensures

pub returns-clause-held : goal.returns-clause-held
returns-clause-held c = OnOk-anyway c.end.result ((c.in_ok-first.ensures.held.0, c.in_ok-first.ensures.held.1, (c.in_ok-next.ensures.held.0, c.in_ok-next.ensures.held.1, (c.in_ok-next-2.ensures.held.0, subst (λ (pairs : List (List ℕ × Info)). IsHeld (by_name info pairs)) c.as_slice.ensures c.in_ok-next-2.ensures.held.1, (c.in_ok-next-3.ensures.held.0, c.in_ok-next-3.ensures.held.1, (c.in_ok-next-4.ensures.held.0, c.in_ok-next-4.ensures.held.1, (c.in_ok-next-5.ensures.held.0, c.in_ok-next-5.ensures.held.1, tt)))))), subst (All (λ (pair : List ℕ × Info). IsSignedInfo pair.1)) c.as_slice.ensures c.in_ok-next-2.ensures.held.2)
