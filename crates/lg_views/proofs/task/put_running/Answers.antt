use Rattle.std.proofs.Common.{ap, sym, ◌∙◌, subst, codes, arith}
use Rattle.std.proofs.lemmas.Result.{on_ok_weaker}
use Rattle.lg_base.specs.declared.faults.NoMemory.{NoMemory}
use Rattle.lg_json.specs.Tree.{str}
use Rattle.lg_calls.specs.TaskView.{task_of}
use Rattle.lg_calls.specs.Valid.{IsValidTask}
use Rattle.lg_views.specs.Listed.{last_moment}
use Rattle.lg_calls.specs.Views.Trees.{moment, status, maybe, amounts}
use Rattle.lg_calls.specs.Views.TaskRecord.{taken_by}
use Rattle.lg_views.proofs.BuildLemmas.{put_step, put_step_as, maybe-lent, moment_fits}
use Rattle.lg_views.proofs.task.put_running.Goals as goal

pub put-requires-3 : goal.put-requires-3
put-requires-3 c =
    let valid = subst (IsValidTask last_moment) (sym c.task.view_is) c.requires in omega (arith, valid.added)

pub put-requires-6 : goal.put-requires-6
put-requires-6 c =
    let valid = subst (IsValidTask last_moment) (sym c.task.view_is) c.requires in moment_fits c.task.inside.time_running valid.running_since

pub returns : goal.returns
returns c =
    let task = task_of c.task.inside in
    on_ok_weaker {T = Unit {0}} {E = NoMemory} c.put-9.result
    (λ last.
    rw (← c.task.view_is)
    (put_step _ _ _ _ (codes "resources") (amounts task.resources) c.in_ok-put.ensures
    (put_step_as _ _ _ _ (codes "resources_running") _ (maybe amounts (taken_by task)) (maybe-lent amounts c.taken_by.result ∙ ap (maybe amounts) (c.taken_by.ensures ∙ ap taken_by (sym c.task.view_is))) c.in_ok-put-2.ensures
    (put_step _ _ _ _ (codes "start_time") (moment task.added) c.in_ok-put-3.ensures
    (put_step _ _ _ _ (codes "status") (status task.status) c.in_ok-put-4.ensures
    (put_step _ _ _ _ (codes "status_message") (maybe str task.status_message) c.in_ok-put-5.ensures
    (put_step _ _ _ _ (codes "time_running") (maybe moment task.time_running) c.in_ok-put-6.ensures
    (put_step _ _ _ _ (codes "tracking_url") (maybe str task.tracking_url) c.in_ok-put-7.ensures
    (put_step _ _ _ _ (codes "worker_running") (maybe str task.worker_running) c.in_ok-put-8.ensures
    last)))))))))
    c.put-9.ensures
