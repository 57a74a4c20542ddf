use Rattle.lg_snapshot.specs.TaskReading.{task}
use Rattle.lg_snapshot.proofs.ReadingLemmas.{then_reads, stopped_reads, done_reads}
use Rattle.lg_snapshot.proofs.task_reading.read_task.Goals as goal

pub returns-in_err-first : goal.returns-in_err-first
unfolding task
returns-in_err-first c =
    stopped_reads _ _ _ _ _ _ _ c.in_err-first.ensures c.from_residual.ensures.1

pub returns-in_err-second : goal.returns-in_err-second
unfolding task
returns-in_err-second c =
    then_reads _ _ _ _ _ _ _ c.in_ok-first.ensures
    (stopped_reads _ _ _ _ _ _ _ c.in_err-second.ensures c.from_residual-in_err-second.ensures.1)

pub returns-in_err-third : goal.returns-in_err-third
unfolding task
returns-in_err-third c =
    then_reads _ _ _ _ _ _ _ c.in_ok-first.ensures
    (then_reads _ _ _ _ _ _ _ c.in_ok-second.ensures
    (stopped_reads _ _ _ _ _ _ _ c.in_err-third.ensures c.from_residual-in_err-third.ensures.1))

pub returns-in_err-fourth : goal.returns-in_err-fourth
unfolding task
returns-in_err-fourth c =
    then_reads _ _ _ _ _ _ _ c.in_ok-first.ensures
    (then_reads _ _ _ _ _ _ _ c.in_ok-second.ensures
    (then_reads _ _ _ _ _ _ _ c.in_ok-third.ensures
    (stopped_reads _ _ _ _ _ _ _ c.in_err-fourth.ensures c.from_residual-in_err-fourth.ensures.1)))

pub returns-in_err-fifth : goal.returns-in_err-fifth
unfolding task
returns-in_err-fifth c =
    then_reads _ _ _ _ _ _ _ c.in_ok-first.ensures
    (then_reads _ _ _ _ _ _ _ c.in_ok-second.ensures
    (then_reads _ _ _ _ _ _ _ c.in_ok-third.ensures
    (then_reads _ _ _ _ _ _ _ c.in_ok-fourth.ensures
    (stopped_reads _ _ _ _ _ _ _ c.in_err-fifth.ensures c.from_residual-in_err-fifth.ensures.1))))

pub returns-in_err-sixth : goal.returns-in_err-sixth
unfolding task
returns-in_err-sixth c =
    then_reads _ _ _ _ _ _ _ c.in_ok-first.ensures
    (then_reads _ _ _ _ _ _ _ c.in_ok-second.ensures
    (then_reads _ _ _ _ _ _ _ c.in_ok-third.ensures
    (then_reads _ _ _ _ _ _ _ c.in_ok-fourth.ensures
    (then_reads _ _ _ _ _ _ _ c.in_ok-fifth.ensures
    (stopped_reads _ _ _ _ _ _ _ c.in_err-sixth.ensures c.from_residual-in_err-sixth.ensures.1)))))

pub returns : goal.returns
unfolding task
returns c =
    then_reads _ _ _ _ _ _ _ c.in_ok-first.ensures
    (then_reads _ _ _ _ _ _ _ c.in_ok-second.ensures
    (then_reads _ _ _ _ _ _ _ c.in_ok-third.ensures
    (then_reads _ _ _ _ _ _ _ c.in_ok-fourth.ensures
    (then_reads _ _ _ _ _ _ _ c.in_ok-fifth.ensures
    (then_reads _ _ _ _ _ _ _ c.in_ok-sixth.ensures
    (done_reads _ _ _ c.put_together.ensures))))))
