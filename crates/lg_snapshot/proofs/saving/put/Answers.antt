use Rattle.std.proofs.Common.{subst}
use Rattle.lg_io.specs.Files.{TellsCall, remove, done_answer}
use Rattle.lg_snapshot.proofs.SavingLemmas.{given_up}
use Rattle.lg_snapshot.proofs.saving.put.Goals as goal

pub returns-in-Err-clause-asked : goal.returns-in-Err-clause-asked
returns-in-Err-clause-asked g c =
    let before = g.F.Files.files c.args.files.now in
    let between = g.F.Files.files c.publish.new.files in
    let after = g.F.Files.files c.abandon.new.files in
    given_up c.args.aside c.args.bytes.now before between after (done_answer c.abandon.result) c.in-Err.ensures.made
    (subst (λ file. TellsCall between (remove file.name) (done_answer c.abandon.result) after) c.in-Err.ensures.back c.abandon.ensures.told)
