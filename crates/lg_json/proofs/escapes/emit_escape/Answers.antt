use Rattle.lg_json.proofs.Characters.{escape-other}
use Rattle.lg_json.proofs.escapes.emit_escape.Goals as goal

pub returns-in-Some : goal.returns-in-Some
returns-in-Some g c =
    let wrote = c.write_all.ensures in
    rw (escape-other c.args.c c.requires, ← c.in-Some.ensures) (record { told = wrote.told; cause = wrote.cause; rest = wrote.rest })

pub returns-in-None : goal.returns-in-None
returns-in-None g c = rw (escape-other c.args.c c.requires, ← c.in-None.ensures, ← c.encode_utf16.ensures.value) c.emit_units.ensures
