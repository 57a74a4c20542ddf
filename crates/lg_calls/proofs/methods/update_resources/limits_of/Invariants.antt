use Rattle.std.proofs.Common.{◌≡◌}
use Rattle.std.specs.FinMap.{empty}
use Rattle.serde_json.specs.Events.{members_len}
use Rattle.lg_calls.specs.Methods.UpdateResources.{limits_from}
use Rattle.lg_calls.specs.Reading.{left_in}
use Rattle.lg_calls.proofs.methods.update_resources.limits_of.Given as goal

abbrev pub invariant-loop-name : goal.invariant-loop-name
invariant-loop-name l = limits_from empty (left_in l.fn.arguments) ≡ limits_from l.limits (left_in l.arguments)

abbrev pub decreases-loop-name : goal.decreases-loop-name
decreases-loop-name l = members_len (left_in l.arguments)
