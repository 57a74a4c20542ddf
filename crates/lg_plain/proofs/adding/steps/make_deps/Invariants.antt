use Rattle.std.proofs.Common.{◌≡◌, take}
use Rattle.std.specs.List.{fold}
use Rattle.lg_calls.specs.declared.status.Status.TheVariants.{Unknown}
use Rattle.lg_calls.specs.AddTask.Making.{with_task}
use Rattle.lg_plain.proofs.adding.steps.make_deps.Given as goal

abbrev pub invariant-loop-dep : goal.invariant-loop-dep
invariant-loop-dep l = l.state ≡ fold (with_task Unknown l.ask.priority) l.initial.state (take l.dep-index l.deps)
