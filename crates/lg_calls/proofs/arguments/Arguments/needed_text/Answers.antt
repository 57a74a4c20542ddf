use Rattle.std.proofs.Common.{rules}
use Rattle.lg_calls.proofs.ReadingLemmas.{then_reads, stopped_reads, present_reads}
use Rattle.lg_calls.proofs.arguments.Arguments.needed_text.Goals as goal

pub returns-in_err-text : goal.returns-in_err-text
returns-in_err-text c = search (rules, stopped_reads)

pub returns : goal.returns
returns c = search (rules, then_reads, present_reads)
