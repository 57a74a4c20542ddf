use Rattle.std.proofs.lemmas.Str.{IsUtf8-drop}
use Rattle.lg_json.proofs.Characters.{first_other_behind, escaped-plain, boundary_past_plain}
use Rattle.lg_json.proofs.escapes.split_plain.Goals as goal

pub split_at-requires : goal.split_at-requires
split_at-requires c =
    let front = rw c.as_bytes.ensures.value at c.plain_len.ensures in
    boundary_past_plain c.args.text.now c.plain_len.result c.utf8.text front.within front.plain

pub returns-clause-same : goal.returns-clause-same
returns-clause-same c =
    let front = rw c.as_bytes.ensures.value at c.plain_len.ensures in
    rw (c.split_at.ensures.front, c.split_at.ensures.back) (escaped-plain c.args.text.now c.plain_len.result front.within front.plain)

pub returns-clause-next : goal.returns-clause-next
returns-clause-next c =
    let front = rw c.as_bytes.ensures.value at c.plain_len.ensures in
    let cut = boundary_past_plain c.args.text.now c.plain_len.result c.utf8.text front.within front.plain in
    rw c.split_at.ensures.back (first_other_behind c.args.text.now c.plain_len.result (IsUtf8-drop c.args.text.now c.plain_len.result c.utf8.text cut) front.next)

pub returns-clause-utf8 : goal.returns-clause-utf8
returns-clause-utf8 c =
    let front = rw c.as_bytes.ensures.value at c.plain_len.ensures in
    let cut = boundary_past_plain c.args.text.now c.plain_len.result c.utf8.text front.within front.plain in
    rw c.split_at.ensures.back (IsUtf8-drop c.args.text.now c.plain_len.result c.utf8.text cut)
