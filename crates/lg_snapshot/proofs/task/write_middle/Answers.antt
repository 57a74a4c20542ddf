use Rattle.std.proofs.Common.{ap, codes, drop, take, subst}
use Rattle.std.specs.Prelude.{ℕ, List}
use Rattle.std.proofs.lemmas.Result.{on_ok_weaker}
use Rattle.lg_base.specs.declared.faults.NoMemory.{NoMemory}
use Rattle.lg_json.specs.Tree.{int, str}
use Rattle.lg_calls.specs.TaskView.{task_of}
use Rattle.lg_snapshot.specs.Trees.{number, moment, maybe, by_name, amounts}
use Rattle.lg_snapshot.specs.Records.{task_fields, tree_of_policy}
use Rattle.lg_snapshot.proofs.FieldLemmas.{more_step, more_step_as, more_last, more_only}
use Rattle.lg_snapshot.specs.Holding.{IsHeld}
use Rattle.lg_snapshot.proofs.task.write_middle.Goals as goal

pub returns-clause-written : goal.returns-clause-written
returns-clause-written c =
    let task = task_of c.task.inside in
    on_ok_weaker {T = Unit {0}} {E = NoMemory} c.next-9.result
    (λ last.
    rw (← c.task.view_is)
    (more_only _ _ (take 9 (drop 9 (task_fields task)))
    (more_step _ _ _ (codes "id") (str task.id) (drop 1 (take 9 (drop 9 (task_fields task)))) _ c.in_ok-next.ensures.written
    (more_step _ _ _ (codes "module") (maybe str task.«module») (drop 2 (take 9 (drop 9 (task_fields task)))) _ c.in_ok-next-2.ensures.written
    (more_step _ _ _ (codes "number") (number task.number) (drop 3 (take 9 (drop 9 (task_fields task)))) _ c.in_ok-next-3.ensures.written
    (more_step_as _ _ _ (codes "params") (by_name str c.as_slice.result.now) (by_name str task.params) (drop 4 (take 9 (drop 9 (task_fields task)))) _ (ap (by_name str) c.as_slice.ensures) c.in_ok-next-4.ensures.written
    (more_step _ _ _ (codes "policy") (tree_of_policy task.policy) (drop 5 (take 9 (drop 9 (task_fields task)))) _ c.in_ok-next-5.ensures.written
    (more_step _ _ _ (codes "priority") (int task.priority) (drop 6 (take 9 (drop 9 (task_fields task)))) _ c.in_ok-next-6.ensures.written
    (more_step _ _ _ (codes "progress") (maybe int task.progress) (drop 7 (take 9 (drop 9 (task_fields task)))) _ c.in_ok-next-7.ensures.written
    (more_step _ _ _ (codes "remove") (maybe moment task.remove) (drop 8 (take 9 (drop 9 (task_fields task)))) _ c.in_ok-next-8.ensures.written
    (more_last _ _ (codes "resources") (amounts task.resources) last)))))))))))
    c.next-9.ensures.written

pub returns-clause-held : goal.returns-clause-held
returns-clause-held c =
    on_ok_weaker {T = Unit {0}} {E = NoMemory} c.next-9.result
    (λ last. rw (← c.task.view_is) (c.in_ok-next.ensures.held.0, c.in_ok-next.ensures.held.1, (c.in_ok-next-2.ensures.held.0, c.in_ok-next-2.ensures.held.1, (c.in_ok-next-3.ensures.held.0, c.in_ok-next-3.ensures.held.1, (c.in_ok-next-4.ensures.held.0, subst (λ (pairs : List (List ℕ × List ℕ)). IsHeld (by_name str pairs)) c.as_slice.ensures c.in_ok-next-4.ensures.held.1, (c.in_ok-next-5.ensures.held.0, c.in_ok-next-5.ensures.held.1, (c.in_ok-next-6.ensures.held.0, c.in_ok-next-6.ensures.held.1, (c.in_ok-next-7.ensures.held.0, c.in_ok-next-7.ensures.held.1, (c.in_ok-next-8.ensures.held.0, c.in_ok-next-8.ensures.held.1, (last.0, last.1, tt))))))))))
    c.next-9.ensures.held

pub returns-clause-fits : goal.returns-clause-fits
returns-clause-fits c =
    on_ok_weaker {T = Unit {0}} {E = NoMemory} c.next-9.result
    (λ last. rw (← c.task.view_is) (record { priority = c.in_ok-next-6.ensures.held.2; progress = c.in_ok-next-7.ensures.held.2; resources = last.2 }))
    c.next-9.ensures.held
