use Rattle.std.proofs.Common.{◌≡◌, take}
use Rattle.lg_calls.specs.AddTask.Reporting.{with_ids}
use Rattle.lg_plain.proofs.adding.reporting.put_all.Given as goal

abbrev pub invariant-loop-id : goal.invariant-loop-id
invariant-loop-id l = l.known.items ≡ with_ids l.initial.known.items (take l.id-index l.more)
