use Rattle.std.proofs.Common.{refl}
use Rattle.lg_io.proofs.Called.{Does-make_folder, by_script, called, cause_same, failed_done}
use Rattle.lg_io.proofs.memory.files.MemoryFilesFiles.make_folder.Goals as goal

pub returns-clause-told : goal.returns-clause-told
returns-clause-told g c =
    called c.args.self.now c.begin-fails.new.self c.begin-fails.new.self.shelf.log c.with-self.result _ _
    c.begin-fails.ensures.grown c.begin-fails.ensures.calls (Does-make_folder c.args.path.now c.leave-answer.result _ _ refl) c.with-self.ensures.0 c.with-self.ensures.1

pub returns-clause-cause : goal.returns-clause-cause
returns-clause-cause g c = cause_same c.begin-fails.ensures.cause c.leave-answer.ensures

pub returns-clause-follows : goal.returns-clause-follows
returns-clause-follows g c =
    by_script _ c.args.self.now c.begin-fails.new.self _ c.begin-fails.result _ c.begin-fails.new.self.shelf.log c.begin-fails.ensures.follows
    (λ is. failed_done c.leave-answer.result (c.leave-answer.ensures.1 is))
    c.with-self.ensures.0 c.with-self.ensures.2 refl refl refl refl
