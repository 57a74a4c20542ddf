use Rattle.std.proofs.Common.{false, sym, ◌∙◌, refl}
use Rattle.httparse.specs.Spans.{header_bytes}
use Rattle.http1.specs.declared.fields.ContentLength.TheVariants as Length
use Rattle.lg_http.proofs.FieldLemmas.{told_only}
use Rattle.lg_http.proofs.framing.only_length.Goals as goal

pub returns-in-Absent : goal.returns-in-Absent
returns-in-Absent c =
    told_only Length.Absent (header_bytes c.args.bytes.now) c.args.fields.now _ c.requires.one (sym c.in-Absent.is ∙ c.requires.told) refl

pub returns-in-Value : goal.returns-in-Value
returns-in-Value c =
    told_only (Length.Value c.in-Value.count) (header_bytes c.args.bytes.now) c.args.fields.now _ c.requires.one (sym c.in-Value.is ∙ c.requires.told) refl

pub returns-then-has_decimal_length : goal.returns-then-has_decimal_length
returns-then-has_decimal_length c =
    told_only Length.Invalid (header_bytes c.args.bytes.now) c.args.fields.now _ c.requires.one (sym c.in-Invalid.is ∙ c.requires.told)
    (sym c.if-has_decimal_length.true ∙ c.has_decimal_length.ensures)

pub returns-else-has_decimal_length : goal.returns-else-has_decimal_length
returns-else-has_decimal_length c =
    told_only Length.Invalid (header_bytes c.args.bytes.now) c.args.fields.now _ c.requires.one (sym c.in-Invalid.is ∙ c.requires.told)
    (sym c.if-has_decimal_length.false ∙ c.has_decimal_length.ensures)
