use Rattle.std.proofs.Common.{refl}
use Rattle.lg_io.proofs.Called.{by_script, called, cause_same, failed_exists}
use Rattle.lg_io.proofs.memory.files.MemoryFilesFiles.exists.Goals as goal

pub returns-clause-told : goal.returns-clause-told
returns-clause-told g c =
    called c.args.self.now c.begin-fails.new.self c.begin-fails.new.self.shelf.log c.with-self.result _ _
    c.begin-fails.ensures.grown c.begin-fails.ensures.calls c.exists-answer.ensures.does c.with-self.ensures.0 c.with-self.ensures.1

pub returns-clause-cause : goal.returns-clause-cause
returns-clause-cause g c = cause_same c.begin-fails.ensures.cause c.exists-answer.ensures.fails

pub returns-clause-follows : goal.returns-clause-follows
returns-clause-follows g c =
    by_script _ c.args.self.now c.begin-fails.new.self _ c.begin-fails.result _ c.begin-fails.new.self.shelf.log c.begin-fails.ensures.follows
    (λ is. failed_exists c.exists-answer.result (c.exists-answer.ensures.fails.1 is))
    c.with-self.ensures.0 c.with-self.ensures.2 refl refl refl refl
