use Rattle.std.proofs.Common.{ap, sym, ◌∙◌, subst, codes, arith}
use Rattle.std.proofs.lemmas.Result.{on_ok_weaker}
use Rattle.lg_base.specs.declared.faults.NoMemory.{NoMemory}
use Rattle.lg_json.specs.Tree.{truth, int, str}
use Rattle.lg_calls.specs.TaskView.{task_of}
use Rattle.lg_calls.specs.Valid.{IsValidTask}
use Rattle.lg_views.specs.Listed.{last_moment}
use Rattle.lg_calls.specs.Views.Trees.{moment, by_name}
use Rattle.lg_calls.specs.Views.DisplayName.{display_name}
use Rattle.lg_views.proofs.BuildLemmas.{put_step, put_step_as}
use Rattle.lg_views.proofs.task.put_about.Goals as goal

pub put-requires-3 : goal.put-requires-3
put-requires-3 c =
    let valid = subst (IsValidTask last_moment) (sym c.task.view_is) c.requires in omega (arith, valid.updated)

pub returns : goal.returns
returns c =
    let task = task_of c.task.inside in
    on_ok_weaker {T = Unit {0}} {E = NoMemory} c.put-7.result
    (λ last.
    rw (← c.task.view_is)
    (put_step _ _ _ _ (codes "accepts_messages") (truth task.accepts_messages) c.in_ok-put.ensures
    (put_step_as _ _ _ _ (codes "display_name") _ (str (display_name task)) (ap str (c.in_ok-shown_name.ensures ∙ ap display_name (sym c.task.view_is))) c.in_ok-put-2.ensures
    (put_step _ _ _ _ (codes "last_updated") (moment task.updated) c.in_ok-put-3.ensures
    (put_step _ _ _ _ (codes "name") (str task.family) c.in_ok-put-4.ensures
    (put_step_as _ _ _ _ (codes "params") (by_name str c.as_slice.result.now) (by_name str task.params) (ap (by_name str) c.as_slice.ensures) c.in_ok-put-5.ensures
    (put_step _ _ _ _ (codes "priority") (int task.priority) c.in_ok-put-6.ensures
    last)))))))
    c.put-7.ensures
