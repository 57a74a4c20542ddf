use Rattle.std.proofs.Common.{◌≡◌, ◌++◌}
use Rattle.toml.specs.View.{members_view}
use Rattle.lg_declare.specs.Keys.{member_keys}
use Rattle.lg_declare.proofs.commands.key_names.Given as goal

abbrev pub invariant-loop-key : goal.invariant-loop-key
invariant-loop-key l = member_keys (members_view l.table.entries) ≡ l.names.items ++ member_keys (members_view l.key-iterator)
