use Rattle.std.specs.Prelude.{IsTrue}
use Rattle.lg_calls.specs.Tasks.{have_distinct_ids}
use Rattle.lg_plain.proofs.raising.tests.tasks_of.Given as goal

abbrev pub invariant-loop-row : goal.invariant-loop-row
invariant-loop-row l = IsTrue (have_distinct_ids l.tasks.items)
