use Rattle.std.proofs.Common.{refl}
use Rattle.lg_io.proofs.Called.{by_script, called, cause_then, failed_done, fails_by}
use Rattle.lg_io.proofs.memory.files.MemoryFilesFiles.create.Goals as goal

pub returns-clause-told : goal.returns-clause-told
returns-clause-told g c =
    called c.args.self.now c.begin-fails.new.self c.create-answer.new.self.log c.with-self.result _ _
    c.begin-fails.ensures.grown c.begin-fails.ensures.calls c.create-answer.ensures.does c.with-self.ensures.0 c.with-self.ensures.1

pub returns-clause-cause : goal.returns-clause-cause
returns-clause-cause g c = cause_then _ _ _ _ c.begin-fails.result c.begin-fails.ensures.cause c.create-answer.ensures.cause

pub returns-clause-follows : goal.returns-clause-follows
returns-clause-follows g c =
    by_script _ c.args.self.now c.begin-fails.new.self _ c.begin-fails.result _ c.create-answer.new.self.log c.begin-fails.ensures.follows
    (λ is. failed_done c.create-answer.result (fails_by c.begin-fails.result _ _ c.create-answer.ensures.cause is))
    c.with-self.ensures.0 c.with-self.ensures.2 refl refl refl refl
