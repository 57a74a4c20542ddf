use Rattle.std.proofs.Common.{codes, drop}
use Rattle.std.proofs.lemmas.Result.{on_ok_weaker}
use Rattle.lg_base.specs.declared.faults.NoMemory.{NoMemory}
use Rattle.lg_snapshot.specs.Trees.{number}
use Rattle.lg_snapshot.specs.Records.{policy_fields}
use Rattle.lg_snapshot.proofs.FieldLemmas.{record_step, more_step}
use Rattle.lg_snapshot.proofs.HoldingLemmas.{OnOk-anyway}
use Rattle.lg_snapshot.proofs.records.PolicyWritten.write.Goals as goal

pub returns-clause-written : goal.returns-clause-written
returns-clause-written c =
    let policy = c.args.self.now in
    on_ok_weaker {T = Unit {0}} {E = NoMemory} c.end.result
    (λ last.
    record_step _ _ _ (codes "disable_hard_timeout") (number policy.disable_hard_timeout) (drop 1 (policy_fields policy)) c.in_ok-first.ensures.written
    (more_step _ _ _ (codes "disable_window") (number policy.disable_window) (drop 2 (policy_fields policy)) _ c.in_ok-next.ensures.written
    (more_step _ _ _ (codes "retry_count") (number policy.retry_count) (drop 3 (policy_fields policy)) _ c.in_ok-next-2.ensures.written
    last)))
    c.end.ensures

pub returns-clause-held : goal.returns-clause-held
returns-clause-held c = OnOk-anyway c.end.result ((c.in_ok-first.ensures.held.0, c.in_ok-first.ensures.held.1, (c.in_ok-next.ensures.held.0, c.in_ok-next.ensures.held.1, (c.in_ok-next-2.ensures.held.0, c.in_ok-next-2.ensures.held.1, tt))), tt)
