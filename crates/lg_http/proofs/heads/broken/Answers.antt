use Rattle.lg_http.proofs.HopeLemmas.{target_hopeful}
use Rattle.lg_http.proofs.heads.broken.Goals as goal

pub cut_short-requires-clause-hopeful : goal.cut_short-requires-clause-hopeful
cut_short-requires-clause-hopeful c = target_hopeful _ (c.is_in_target.ensures.0 c.if-is_in_target.true)
