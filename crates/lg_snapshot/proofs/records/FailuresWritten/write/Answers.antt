use Rattle.std.proofs.Common.{codes, [], ◌∷◌}
use Rattle.std.proofs.lemmas.Result.{on_ok_weaker}
use Rattle.lg_base.specs.declared.faults.NoMemory.{NoMemory}
use Rattle.lg_snapshot.specs.Trees.{moment, maybe, listed}
use Rattle.lg_snapshot.proofs.FieldLemmas.{record_step, more_step}
use Rattle.lg_snapshot.proofs.HoldingLemmas.{OnOk-anyway}
use Rattle.lg_snapshot.proofs.records.FailuresWritten.write.Goals as goal

pub returns-clause-written : goal.returns-clause-written
returns-clause-written c =
    let first = maybe moment c.first.result in
    let moments = listed moment c.moments.result.now in
    on_ok_weaker {T = Unit {0}} {E = NoMemory} c.end.result
    (λ last.
    rw (← c.first.ensures, ← c.moments.ensures)
    (record_step _ _ _ (codes "first") first ((codes "moments", moments) ∷ []) c.in_ok-first.ensures.written
    (more_step _ _ _ (codes "moments") moments [] _ c.in_ok-next.ensures.written last)))
    c.end.ensures

pub returns-clause-held : goal.returns-clause-held
returns-clause-held c = OnOk-anyway c.end.result (rw (← c.first.ensures, ← c.moments.ensures) (c.in_ok-first.ensures.held.0, c.in_ok-first.ensures.held.1, (c.in_ok-next.ensures.held.0, c.in_ok-next.ensures.held.1, tt)), tt)
