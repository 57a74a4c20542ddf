use Rattle.std.proofs.Common.{◌≡◌}
use Rattle.std.specs.FinMap.{empty}
use Rattle.toml.specs.View.{members_view}
use Rattle.lg_declare.specs.Terms.{amounts_from}
use Rattle.lg_declare.proofs.terms.amounts_in.Given as goal

abbrev pub invariant-loop-name : goal.invariant-loop-name
invariant-loop-name l = amounts_from empty (members_view l.members.entries) ≡ amounts_from l.amounts (members_view l.name-iterator)
