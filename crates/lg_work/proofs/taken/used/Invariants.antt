use Rattle.std.proofs.Common.{◌≡◌, ℕ, ◌*◌, ◌^◌, ◌≤◌, List, take}
use Rattle.lg_calls.specs.declared.status.Status.TheVariants.{Running}
use Rattle.lg_calls.specs.Use.{use_by, with_status}
use Rattle.lg_work.specs.Sums.{sum_of}
use Rattle.lg_work.proofs.taken.used.Given as goal

abbrev pub invariant-loop-task : goal.invariant-loop-task
invariant-loop-task l = record {
  so_far : (name : List ℕ) → sum_of l.used name ≡ use_by (with_status Running (take l.task-index l.tasks)) name;
  small : (name : List ℕ) → sum_of l.used name ≤ l.task-index * 2 ^ 32;
}
