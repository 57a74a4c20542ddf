use Rattle.std.proofs.Common.{◌≡◌, Some}
use Rattle.lg_io.specs.Sink.{Takes}
use Rattle.lg_json.specs.Text.{quoted}
use Rattle.lg_json.proofs.Printable.{ascii, printable-quoted}
use Rattle.lg_json.proofs.quoting.quote.Goals as goal

pub gathered-requires : goal.gathered-requires
gathered-requires c =
    let took : Takes (Some c.gathering-sink.result.bytes.items) (Some c.emit_quoted.new.sink.bytes.items) (quoted c.args.text.now) = rw c.in-Ok.is at c.emit_quoted.ensures.told in
    let whole : c.emit_quoted.new.sink.bytes.items ≡ quoted c.args.text.now = cc in
    rw whole (ascii (quoted c.args.text.now) (printable-quoted c.args.text.now c.utf8.text))

pub returns-in-Ok : goal.returns-in-Ok
returns-in-Ok c =
    let took : Takes (Some c.gathering-sink.result.bytes.items) (Some c.emit_quoted.new.sink.bytes.items) (quoted c.args.text.now) = rw c.in-Ok.is at c.emit_quoted.ensures.told in
    cc
