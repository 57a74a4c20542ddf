use Rattle.std.proofs.Common.{◌≡◌, Some}
use Rattle.lg_io.specs.Sink.{Takes}
use Rattle.lg_json.specs.Canonical.{canonical_text, AreTexts}
use Rattle.lg_json.proofs.Printable.{ascii, printable-canonical_text}
use Rattle.lg_json.proofs.pairs.canonical.Goals as goal

pub gathered-requires : goal.gathered-requires
gathered-requires c =
    let texts : AreTexts c.args.pairs.now = rw c.in-Ok.is at c.emit_pairs.ensures.texts in
    let took : Takes (Some c.gathering-sink.result.bytes.items) (Some c.emit_pairs.new.sink.bytes.items) (canonical_text c.args.pairs.now) = rw c.in-Ok.is at c.emit_pairs.ensures.written.told in
    let whole : c.emit_pairs.new.sink.bytes.items ≡ canonical_text c.args.pairs.now = cc in
    rw whole (ascii (canonical_text c.args.pairs.now) (printable-canonical_text c.args.pairs.now texts))

pub returns-in-Ok : goal.returns-in-Ok
returns-in-Ok c =
    let took : Takes (Some c.gathering-sink.result.bytes.items) (Some c.emit_pairs.new.sink.bytes.items) (canonical_text c.args.pairs.now) = rw c.in-Ok.is at c.emit_pairs.ensures.written.told in
    cc
