use Rattle.std.proofs.Common.{◌≡◌, ◌++◌, take, drop}
use Rattle.lg_calls.specs.Raising.{is_raised, with_priority}
use Rattle.lg_calls.specs.Tasks.{change_meant}
use Rattle.lg_plain.proofs.raising.raise_along.Given as goal

abbrev pub invariant-loop-place : goal.invariant-loop-place
invariant-loop-place l =
    l.tasks ≡ change_meant (is_raised l.fn.priority l.id l.initial.tasks) (with_priority l.fn.priority) (take l.place l.initial.tasks) ++ drop l.place l.initial.tasks
