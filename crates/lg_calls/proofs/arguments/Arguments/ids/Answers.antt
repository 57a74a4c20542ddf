use Rattle.std.proofs.Common.{rules}
use Rattle.lg_calls.proofs.ReadingLemmas.{wanting_reads}
use Rattle.lg_calls.proofs.arguments.Arguments.ids.Goals as goal

pub returns-in_err-ids_of : goal.returns-in_err-ids_of
returns-in_err-ids_of c = search (rules, wanting_reads)
