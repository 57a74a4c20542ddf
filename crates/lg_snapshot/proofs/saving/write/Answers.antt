use Rattle.std.proofs.Common.{◌∷◌, []}
use Rattle.lg_io.specs.Files.{create, append, close}
use Rattle.lg_snapshot.specs.FileCalls.{done_call}
use Rattle.lg_target.specs.Target.{writing}
use Rattle.lg_snapshot.proofs.FileCallLemmas.{first_cut, first_fails, first_is_made, last_call, refused_short}
use Rattle.lg_snapshot.proofs.saving.write.Goals as goal

pub returns-in_err-create-clause-made : goal.returns-in_err-create-clause-made
returns-in_err-create-clause-made g c =
    let name = c.args.name.now in
    let bytes = c.args.bytes.now in
    refused_short (writing name (bytes ∷ [])) _ _ c.from_residual.result c.from_residual.ensures.0
    (first_fails (g.F.Files.files c.args.files.now) (create name) (done_call (append name bytes) ∷ done_call (close name) ∷ []) _
    c.in_err-create.ensures.told)

pub returns-in_err-append-clause-made : goal.returns-in_err-append-clause-made
returns-in_err-append-clause-made g c =
    let name = c.args.name.now in
    let bytes = c.args.bytes.now in
    let created = g.F.Files.files c.create.new.self in
    let written = g.F.Files.files c.append.new.self in
    refused_short (writing name (bytes ∷ [])) _ _ c.from_residual-in_err-append.result c.from_residual-in_err-append.ensures.0
    (first_cut (g.F.Files.files c.args.files.now) (create name) (done_call (append name bytes) ∷ done_call (close name) ∷ []) created written
    c.in_ok-create.ensures.told (first_fails created (append name bytes) (done_call (close name) ∷ []) written c.in_err-append.ensures.told))

pub returns-clause-made : goal.returns-clause-made
returns-clause-made g c =
    let name = c.args.name.now in
    let bytes = c.args.bytes.now in
    let created = g.F.Files.files c.create.new.self in
    let written = g.F.Files.files c.append.new.self in
    let closed = g.F.Files.files c.close.new.self in
    first_is_made (g.F.Files.files c.args.files.now) (create name) (done_call (append name bytes) ∷ done_call (close name) ∷ []) created closed
    c.close.result c.in_ok-create.ensures.told
    (first_is_made created (append name bytes) (done_call (close name) ∷ []) written closed c.close.result c.in_ok-append.ensures.told
    (last_call written (close name) closed c.close.result c.close.ensures.told))
