use Rattle.std.proofs.Common.{codes, drop}
use Rattle.std.proofs.lemmas.Result.{on_ok_weaker}
use Rattle.lg_base.specs.declared.faults.NoMemory.{NoMemory}
use Rattle.lg_json.specs.Tree.{truth, str}
use Rattle.lg_calls.specs.TaskView.{task_of}
use Rattle.lg_snapshot.specs.Trees.{moment, status, maybe, listed}
use Rattle.lg_snapshot.specs.Records.{task_fields}
use Rattle.lg_snapshot.proofs.FieldLemmas.{more_step, more_last, more_only}
use Rattle.lg_snapshot.proofs.task.write_last.Goals as goal

pub returns-clause-written : goal.returns-clause-written
returns-clause-written c =
    let task = task_of c.task.inside in
    on_ok_weaker {T = Unit {0}} {E = NoMemory} c.next-10.result
    (λ last.
    rw (← c.task.view_is)
    (more_only _ _ (drop 18 (task_fields task))
    (more_step _ _ _ (codes "retry") (maybe moment task.retry) (drop 1 (drop 18 (task_fields task))) _ c.in_ok-next.ensures.written
    (more_step _ _ _ (codes "runnable") (truth task.runnable) (drop 2 (drop 18 (task_fields task))) _ c.in_ok-next-2.ensures.written
    (more_step _ _ _ (codes "stakeholders") (listed str task.stakeholders) (drop 3 (drop 18 (task_fields task))) _ c.in_ok-next-3.ensures.written
    (more_step _ _ _ (codes "status") (status task.status) (drop 4 (drop 18 (task_fields task))) _ c.in_ok-next-4.ensures.written
    (more_step _ _ _ (codes "status_message") (maybe str task.status_message) (drop 5 (drop 18 (task_fields task))) _ c.in_ok-next-5.ensures.written
    (more_step _ _ _ (codes "time_running") (maybe moment task.time_running) (drop 6 (drop 18 (task_fields task))) _ c.in_ok-next-6.ensures.written
    (more_step _ _ _ (codes "tracking_url") (maybe str task.tracking_url) (drop 7 (drop 18 (task_fields task))) _ c.in_ok-next-7.ensures.written
    (more_step _ _ _ (codes "updated") (moment task.updated) (drop 8 (drop 18 (task_fields task))) _ c.in_ok-next-8.ensures.written
    (more_step _ _ _ (codes "worker_running") (maybe str task.worker_running) (drop 9 (drop 18 (task_fields task))) _ c.in_ok-next-9.ensures.written
    (more_last _ _ (codes "workers") (listed str task.workers) last))))))))))))
    c.next-10.ensures.written

pub returns-clause-held : goal.returns-clause-held
returns-clause-held c =
    on_ok_weaker {T = Unit {0}} {E = NoMemory} c.next-10.result
    (λ last. rw (← c.task.view_is) (c.in_ok-next.ensures.held.0, c.in_ok-next.ensures.held.1, (c.in_ok-next-2.ensures.held.0, c.in_ok-next-2.ensures.held.1, (c.in_ok-next-3.ensures.held.0, c.in_ok-next-3.ensures.held.1, (c.in_ok-next-4.ensures.held.0, c.in_ok-next-4.ensures.held.1, (c.in_ok-next-5.ensures.held.0, c.in_ok-next-5.ensures.held.1, (c.in_ok-next-6.ensures.held.0, c.in_ok-next-6.ensures.held.1, (c.in_ok-next-7.ensures.held.0, c.in_ok-next-7.ensures.held.1, (c.in_ok-next-8.ensures.held.0, c.in_ok-next-8.ensures.held.1, (c.in_ok-next-9.ensures.held.0, c.in_ok-next-9.ensures.held.1, (last.0, last.1, tt)))))))))))
    c.next-10.ensures.held
