use Rattle.lg_http.proofs.HopeLemmas.{unfinished_hopeful}
use Rattle.lg_http.proofs.heads.decide.Goals as goal

pub cut_short-requires-clause-hopeful : goal.cut_short-requires-clause-hopeful
cut_short-requires-clause-hopeful c =
    unfinished_hopeful _ (let told = rw c.in-Ok-Partial.field-0-is at c.in-Ok-Partial.ensures in told.unfinished)
