use Rattle.std.proofs.Common.{◌≡◌, ap, ◌∙◌, map, take, arith}
use Rattle.std.proofs.lemmas.List.{take_all}
use Rattle.std.specs.Borrow.{Bor}
use Rattle.lg_calls.specs.Task.{Task}
use Rattle.lg_calls.specs.Valid.{IsValidTask}
use Rattle.lg_views.specs.Listed.{last_moment}
use Rattle.lg_calls.specs.Views.TaskRecord.{task_record}
use Rattle.lg_calls.specs.Views.Trees.{record_of}
use Rattle.lg_views.proofs.BuildLemmas.{holds_here, built_more}
use Rattle.lg_views.proofs.records.ByIdShown.show.Goals as goal

pub put_record-requires : goal.put_record-requires
put_record-requires c =
    holds_here (λ (task : Bor Task). IsValidTask last_moment task.now) c.args.self.now.0.now c.loop-task.task-index c.task-item.result (omega arith) c.task-item.is c.requires

pub loop-task-preserved : goal.loop-task-preserved
loop-task-preserved c =
    built_more (λ (task : Bor Task). (task.now.id, task_record task.now)) _ _ c.args.self.now.0.now c.loop-task.task-index c.task-item.result (omega arith) c.task-item.is c.loop-task.invariant
    c.in_ok-put_record.ensures

pub returns : goal.returns
returns c =
    let l = c.loop-task in
    let tasks = c.args.self.now.0.now in
    let whole : take l.task-index tasks ≡ tasks = take_all l.task-index tasks (omega arith) in
    c.into_out.ensures ∙ ap record_of (l.invariant ∙ ap (map (λ (task : Bor Task). (task.now.id, task_record task.now))) whole)
