use Rattle.std.proofs.Common.{ap, ◌∙◌, codes, drop, take, [], ◌∷◌, ◌++◌}
use Rattle.std.proofs.lemmas.Result.{on_ok_weaker}
use Rattle.lg_base.specs.declared.faults.NoMemory.{NoMemory}
use Rattle.lg_json.specs.Tree.{truth}
use Rattle.lg_calls.specs.Task.{Task}
use Rattle.lg_json.specs.Text.{member_text}
use Rattle.lg_snapshot.specs.Records.{task_fields}
use Rattle.lg_snapshot.proofs.FieldLemmas.{record_step, part_step}
use Rattle.lg_snapshot.proofs.HoldingLemmas.{OnOk-anyway, fields_held}
use Rattle.lg_snapshot.proofs.task.TaskRecWritten.write.Goals as goal

pub returns-clause-written : goal.returns-clause-written
returns-clause-written c =
    let task = c.args.self.now in
    on_ok_weaker {T = Unit {0}} {E = NoMemory} c.end.result
    (λ last.
    record_step _ _ _ (codes "accepts_messages") (truth task.accepts_messages) (drop 1 (task_fields task))
    (c.in_ok-first.ensures.written ∙ ap (λ (t : Task). c.args.output.now ++ 123 ∷ member_text (codes "accepts_messages") (truth t.accepts_messages)) c.self.view_is)
    (part_step _ _ _ (take 8 (drop 1 (task_fields task))) (drop 9 (task_fields task)) _ c.in_ok-write_first.ensures.written
    (part_step _ _ _ (take 9 (drop 9 (task_fields task))) (drop 18 (task_fields task)) _ c.in_ok-write_middle.ensures.written
    (part_step _ _ _ (drop 18 (task_fields task)) [] _ c.in_ok-write_last.ensures.written last))))
    c.end.ensures

pub returns-clause-held : goal.returns-clause-held
returns-clause-held c =
    let fields = task_fields c.args.self.now in
    let first = c.in_ok-first.ensures.held in
    let more = fields_held (take 9 (drop 9 fields)) (drop 18 fields) c.in_ok-write_middle.ensures.held c.in_ok-write_last.ensures.held in
    OnOk-anyway c.end.result
    ((first.0, tt, fields_held (take 8 (drop 1 fields)) (drop 9 fields) c.in_ok-write_first.ensures.held more), c.in_ok-write_middle.ensures.fits)
