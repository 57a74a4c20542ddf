use Rattle.std.proofs.Common.{◌∷◌, [], subst}
use Rattle.lg_io.specs.Files.{rename}
use Rattle.lg_snapshot.specs.FileCalls.{done_call, TellsCalls, AreCutShort}
use Rattle.lg_target.specs.Target.{writing}
use Rattle.lg_snapshot.proofs.FileCallLemmas.{one_behind, fails_before}
use Rattle.lg_snapshot.proofs.saving.publish.Goals as goal

pub returns-in-Ok-clause-made : goal.returns-in-Ok-clause-made
returns-in-Ok-clause-made g c =
    let bytes = c.args.bytes.now in
    let aside = c.args.aside in
    let before = g.F.Files.files c.args.files.now in
    let written = g.F.Files.files c.write.new.files in
    one_behind before (writing aside.name (bytes ∷ [])) written (rename aside.name aside.path) _ c.commit.result
    (subst (λ name. TellsCalls before (writing name (bytes ∷ [])) written) c.name.ensures.is c.in-Ok.ensures.made) c.commit.ensures.told

pub returns-in-Err-clause-made : goal.returns-in-Err-clause-made
returns-in-Err-clause-made g c =
    let bytes = c.args.bytes.now in
    let aside = c.args.aside in
    let before = g.F.Files.files c.args.files.now in
    let written = g.F.Files.files c.write.new.files in
    fails_before before (writing aside.name (bytes ∷ [])) (done_call (rename aside.name aside.path) ∷ []) written
    (subst (λ name. AreCutShort (writing name (bytes ∷ [])) before written) c.name.ensures.is c.in-Err.ensures.made)
