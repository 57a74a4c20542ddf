use Rattle.std.proofs.Common.{◌≡◌}
use Rattle.serde_json.specs.View.{members_view}
use Rattle.lg_json.specs.Fields.{each_member, amount_of, checked}
use Rattle.lg_json.proofs.lists.check_amounts.Given as goal

abbrev pub invariant-loop-value : goal.invariant-loop-value
invariant-loop-value l = checked (each_member amount_of (members_view l.members.entries)) ≡ checked (each_member amount_of (members_view l.value-iterator))
