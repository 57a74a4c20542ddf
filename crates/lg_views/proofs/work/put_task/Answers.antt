use Rattle.std.proofs.Common.{◌≡◌, ◌∷◌, [], ◌++◌, ap, ◌∙◌, codes}
use Rattle.std.proofs.lemmas.Result.{on_ok_weaker}
use Rattle.lg_base.specs.declared.faults.NoMemory.{NoMemory}
use Rattle.lg_calls.specs.Task.{Task}
use Rattle.lg_calls.specs.TaskView.{task_of}
use Rattle.lg_json.specs.Tree.{Tree, str}
use Rattle.lg_calls.specs.Views.Trees.{maybe, by_name}
use Rattle.lg_views.specs.Fields.{fields_in}
use Rattle.lg_views.proofs.BuildLemmas.{put_step_as}
use Rattle.lg_views.proofs.work.put_task.Goals as goal

pub returns : goal.returns
returns c =
    let task = c.args.task.now in
    let inside : task_of c.task.inside ≡ task = c.task.view_is in
    on_ok_weaker {T = Unit {0}} {E = NoMemory} c.put-4.result
    (λ last.
    put_step_as _ _ _ _ (codes "task_family") _ (str task.family) (ap (λ (t : Task). str t.family) inside) c.in_ok-put.ensures
    (put_step_as _ _ _ _ (codes "task_id") _ (str task.id) (ap (λ (t : Task). str t.id) inside) c.in_ok-put-2.ensures
    (put_step_as _ _ _ _ (codes "task_module") _ (maybe str task.«module») (ap (λ (t : Task). maybe str t.«module») inside) c.in_ok-put-3.ensures
    (last ∙ ap (λ (tree : Tree). fields_in c.put-3.new.self ++ (codes "task_params", tree) ∷ []) (ap (by_name str) c.as_slice.ensures ∙ ap (λ (t : Task). by_name str t.params) inside)))))
    c.put-4.ensures
