use Rattle.lg_http.proofs.FieldLemmas.{decimal_text}
use Rattle.lg_http.proofs.framing.is_decimal.Goals as goal

pub returns-then-not-is_empty : goal.returns-then-not-is_empty
returns-then-not-is_empty c =
    decimal_text c.args.text.now c.is_empty.result c.are_digits.result c.is_empty.ensures c.if-not-is_empty.true c.are_digits.ensures
