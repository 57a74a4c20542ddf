use Rattle.std.proofs.Common.{◌≡◌}
use Rattle.std.proofs.lemmas.Str.{IsUtf8-from_ascii}
use Rattle.std.specs.Str.{IsAscii}
use Rattle.lg_json.proofs.quoting.gathered.Goals as goal

pub unwrap-requires : goal.unwrap-requires
unwrap-requires c =
    let same : c.args.sink.bytes.items ≡ c.into_bytes.result.items = cc in
    let ascii : IsAscii c.args.sink.bytes.items = c.requires in
    c.from_utf8.ensures.succeeds (IsUtf8-from_ascii c.into_bytes.result.items (rw same at ascii))
