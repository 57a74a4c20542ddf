use Rattle.std.proofs.Common.{rules}
use Rattle.lg_calls.proofs.ReadingLemmas.{then_reads, stopped_reads, present_reads}
use Rattle.lg_calls.proofs.arguments.Arguments.needed_int.Goals as goal

pub returns-in_err-int : goal.returns-in_err-int
returns-in_err-int c = search (rules, stopped_reads)

pub returns : goal.returns
returns c = search (rules, then_reads, present_reads)
