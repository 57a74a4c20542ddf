use Rattle.lg_snapshot.proofs.ReadingLemmas.{taken_reads, untaken_reads}
use Rattle.lg_snapshot.proofs.entries.Entries.pairs.Goals as goal

pub returns-in_err-value : goal.returns-in_err-value
returns-in_err-value g c = untaken_reads _ _ _ _ _ _ _ c.in_err-value.ensures c.from_residual.ensures.1

pub returns : goal.returns
returns g c = taken_reads _ _ _ _ _ _ c.in_ok-value.ensures c.read_pairs.ensures
