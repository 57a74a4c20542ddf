use Rattle.std.proofs.Common.{ap, sym, ◌∙◌, is_some, length}
use Rattle.lg_json.proofs.Characters.{escape-plain, length-escape_letter, length-escape_units}
use Rattle.lg_json.proofs.escapes.escape_length.Goals as goal

pub returns-then-is_plain : goal.returns-then-is_plain
returns-then-is_plain c = ap length (sym (escape-plain c.args.c (sym c.is_plain.ensures ∙ c.if-is_plain.true)))

pub returns-then-is_some : goal.returns-then-is_some
returns-then-is_some c = length-escape_letter c.args.c (sym c.is_plain.ensures ∙ c.if-is_plain.false) (ap is_some (sym c.escape_letter.ensures) ∙ sym c.is_some.ensures ∙ c.if-is_some.true)

pub returns-else-is_some : goal.returns-else-is_some
returns-else-is_some c =
    length-escape_units c.args.c c.len_utf16.result (sym c.is_plain.ensures ∙ c.if-is_plain.false) (ap is_some (sym c.escape_letter.ensures) ∙ sym c.is_some.ensures ∙ c.if-is_some.false)
    c.len_utf16.ensures.bmp c.len_utf16.ensures.surrogate_pair
