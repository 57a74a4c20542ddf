use Rattle.std.specs.Prelude.{IsTrue}
use Rattle.lg_calls.specs.Tasks.{have_distinct_ids}
use Rattle.lg_plain.proofs.raising.tests.chain.Given as goal

abbrev pub invariant-loop-place : goal.invariant-loop-place
invariant-loop-place l = IsTrue (have_distinct_ids l.tasks.items)
