use Rattle.std.proofs.Common.{Err, ap}
use Rattle.lg_http.proofs.HopeLemmas.{unfinished_hopeful, no_more_fields}
use Rattle.lg_http.proofs.heads.decide_long.Goals as goal

pub cut_short-requires-clause-hopeful : goal.cut_short-requires-clause-hopeful
cut_short-requires-clause-hopeful c =
    unfinished_hopeful _ (let told = rw c.in-Ok-Partial.field-0-is at c.in-Ok-Partial.ensures in told.unfinished)

pub broken-requires-clause-never : goal.broken-requires-clause-never
broken-requires-clause-never c =
    c.in-Err.ensures.invalid (λ many. no_more_fields c.args.bytes.now c.requires (c.in-Err.ensures.too_many (ap Err many)))
