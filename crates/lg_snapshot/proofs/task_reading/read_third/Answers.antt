use Rattle.std.proofs.Common.{refl, rules, w64}
use Rattle.std.proofs.lemmas.Int.{to_z-of_z}
use Rattle.lg_snapshot.specs.TaskReading.{third}
use Rattle.lg_snapshot.proofs.ReadingLemmas.{then_reads, stopped_reads, done_reads}
use Rattle.lg_snapshot.proofs.task_reading.read_third.Goals as goal

pub returns-in_err-module : goal.returns-in_err-module
unfolding third
returns-in_err-module c =
    stopped_reads _ _ _ _ _ _ _ c.in_err-module.ensures c.from_residual.ensures.1

pub returns-in_err-number : goal.returns-in_err-number
unfolding third
returns-in_err-number c =
    then_reads _ _ _ _ _ _ _ c.in_ok-module.ensures
    (stopped_reads _ _ _ _ _ _ _ c.in_err-number.ensures c.from_residual-in_err-number.ensures.1)

pub returns-in_err-params : goal.returns-in_err-params
unfolding third
returns-in_err-params c =
    then_reads _ _ _ _ _ _ _ c.in_ok-module.ensures
    (then_reads _ _ _ _ _ _ _ c.in_ok-number.ensures
    (stopped_reads _ _ _ _ _ _ _ c.in_err-params.ensures c.from_residual-in_err-params.ensures.1))

pub returns-in_err-policy : goal.returns-in_err-policy
unfolding third
returns-in_err-policy c =
    then_reads _ _ _ _ _ _ _ c.in_ok-module.ensures
    (then_reads _ _ _ _ _ _ _ c.in_ok-number.ensures
    (then_reads _ _ _ _ _ _ _ c.in_ok-params.ensures
    (stopped_reads _ _ _ _ _ _ _ c.in_err-policy.ensures c.from_residual-in_err-policy.ensures.1)))

pub returns-in_err-priority : goal.returns-in_err-priority
unfolding third
returns-in_err-priority c =
    then_reads _ _ _ _ _ _ _ c.in_ok-module.ensures
    (then_reads _ _ _ _ _ _ _ c.in_ok-number.ensures
    (then_reads _ _ _ _ _ _ _ c.in_ok-params.ensures
    (then_reads _ _ _ _ _ _ _ c.in_ok-policy.ensures
    (stopped_reads _ _ _ _ _ _ _ c.in_err-priority.ensures c.from_residual-in_err-priority.ensures.1))))

pub returns : goal.returns
unfolding third
returns c =
    then_reads _ _ _ _ _ _ _ c.in_ok-module.ensures
    (then_reads _ _ _ _ _ _ _ c.in_ok-number.ensures
    (then_reads _ _ _ _ _ _ _ c.in_ok-params.ensures
    (then_reads _ _ _ _ _ _ _ c.in_ok-policy.ensures
    (then_reads _ _ _ _ _ _ _ c.in_ok-priority.ensures
    (done_reads _ _ _ (rw (to_z-of_z w64 c.in_ok-priority.priority (search rules)) refl))))))
