use Rattle.lg_snapshot.proofs.DecodingLemmas.{checked_found, checked_only, none_only}
use Rattle.lg_snapshot.proofs.decoding.decode.Goals as goal

pub returns-in-Ok-clause-found : goal.returns-in-Ok-clause-found
returns-in-Ok-clause-found c = checked_found _ _ _ _ c.checked.ensures c.in-Ok.ensures.set.0 c.in-Ok.ensures.set.1

pub returns-in-Ok-clause-only : goal.returns-in-Ok-clause-only
returns-in-Ok-clause-only c = checked_only c.quotes_are_printable.ensures _ _ _ _ c.in-Ok.ensures.says c.checked.ensures

pub returns-in-Err-Other-clause-only : goal.returns-in-Err-Other-clause-only
returns-in-Err-Other-clause-only c = none_only c.quotes_are_printable.ensures _ _ c.in-Err-Other.field-0 c.in-Err-Other.field-0-is c.in-Err-Other.ensures.says
