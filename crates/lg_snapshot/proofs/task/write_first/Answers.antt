use Rattle.std.proofs.Common.{codes, drop, take}
use Rattle.std.proofs.lemmas.Result.{on_ok_weaker}
use Rattle.lg_base.specs.declared.faults.NoMemory.{NoMemory}
use Rattle.lg_json.specs.Tree.{truth, str}
use Rattle.lg_calls.specs.TaskView.{task_of}
use Rattle.lg_snapshot.specs.Trees.{moment, maybe, listed}
use Rattle.lg_snapshot.specs.Records.{task_fields, tree_of_failures}
use Rattle.lg_snapshot.proofs.FieldLemmas.{more_step, more_last, more_only}
use Rattle.lg_snapshot.proofs.task.write_first.Goals as goal

pub returns-clause-written : goal.returns-clause-written
returns-clause-written c =
    let task = task_of c.task.inside in
    on_ok_weaker {T = Unit {0}} {E = NoMemory} c.next-8.result
    (λ last.
    rw (← c.task.view_is)
    (more_only _ _ (take 8 (drop 1 (task_fields task)))
    (more_step _ _ _ (codes "added") (moment task.added) (drop 1 (take 8 (drop 1 (task_fields task)))) _ c.in_ok-next.ensures.written
    (more_step _ _ _ (codes "batch") (maybe str task.batch) (drop 2 (take 8 (drop 1 (task_fields task)))) _ c.in_ok-next-2.ensures.written
    (more_step _ _ _ (codes "batchable") (truth task.batchable) (drop 3 (take 8 (drop 1 (task_fields task)))) _ c.in_ok-next-3.ensures.written
    (more_step _ _ _ (codes "deps") (listed str task.deps) (drop 4 (take 8 (drop 1 (task_fields task)))) _ c.in_ok-next-4.ensures.written
    (more_step _ _ _ (codes "disabled_at") (maybe moment task.disabled_at) (drop 5 (take 8 (drop 1 (task_fields task)))) _ c.in_ok-next-5.ensures.written
    (more_step _ _ _ (codes "expl") (maybe str task.expl) (drop 6 (take 8 (drop 1 (task_fields task)))) _ c.in_ok-next-6.ensures.written
    (more_step _ _ _ (codes "failures") (tree_of_failures task.failures) (drop 7 (take 8 (drop 1 (task_fields task)))) _ c.in_ok-next-7.ensures.written
    (more_last _ _ (codes "family") (str task.family) last))))))))))
    c.next-8.ensures.written

pub returns-clause-held : goal.returns-clause-held
returns-clause-held c =
    on_ok_weaker {T = Unit {0}} {E = NoMemory} c.next-8.result
    (λ last. rw (← c.task.view_is) (c.in_ok-next.ensures.held.0, c.in_ok-next.ensures.held.1, (c.in_ok-next-2.ensures.held.0, c.in_ok-next-2.ensures.held.1, (c.in_ok-next-3.ensures.held.0, c.in_ok-next-3.ensures.held.1, (c.in_ok-next-4.ensures.held.0, c.in_ok-next-4.ensures.held.1, (c.in_ok-next-5.ensures.held.0, c.in_ok-next-5.ensures.held.1, (c.in_ok-next-6.ensures.held.0, c.in_ok-next-6.ensures.held.1, (c.in_ok-next-7.ensures.held.0, c.in_ok-next-7.ensures.held.1, (last.0, last.1, tt)))))))))
    c.next-8.ensures.held
