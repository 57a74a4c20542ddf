use Rattle.std.proofs.Common.{codes, drop}
use Rattle.std.proofs.lemmas.Result.{on_ok_weaker}
use Rattle.lg_base.specs.declared.faults.NoMemory.{NoMemory}
use Rattle.lg_json.specs.Tree.{str}
use Rattle.lg_snapshot.specs.Trees.{number, maybe, listed}
use Rattle.lg_snapshot.specs.Records.{batcher_fields}
use Rattle.lg_snapshot.proofs.FieldLemmas.{record_step, more_step}
use Rattle.lg_snapshot.proofs.HoldingLemmas.{OnOk-anyway}
use Rattle.lg_snapshot.proofs.records.BatcherRecWritten.write.Goals as goal

pub returns-clause-written : goal.returns-clause-written
returns-clause-written c =
    let batcher = c.args.self.now in
    on_ok_weaker {T = Unit {0}} {E = NoMemory} c.end.result
    (λ last.
    record_step _ _ _ (codes "family") (str batcher.family) (drop 1 (batcher_fields batcher)) c.in_ok-first.ensures.written
    (more_step _ _ _ (codes "names") (listed str batcher.names) (drop 2 (batcher_fields batcher)) _ c.in_ok-next.ensures.written
    (more_step _ _ _ (codes "size") (maybe number batcher.size) (drop 3 (batcher_fields batcher)) _ c.in_ok-next-2.ensures.written
    (more_step _ _ _ (codes "worker") (str batcher.worker) (drop 4 (batcher_fields batcher)) _ c.in_ok-next-3.ensures.written
    last))))
    c.end.ensures

pub returns-clause-held : goal.returns-clause-held
returns-clause-held c = OnOk-anyway c.end.result ((c.in_ok-first.ensures.held.0, c.in_ok-first.ensures.held.1, (c.in_ok-next.ensures.held.0, c.in_ok-next.ensures.held.1, (c.in_ok-next-2.ensures.held.0, c.in_ok-next-2.ensures.held.1, (c.in_ok-next-3.ensures.held.0, c.in_ok-next-3.ensures.held.1, tt)))), tt)
