use Rattle.std.proofs.Common.{◌≡◌, map}
use Rattle.toml.specs.View.{members_view}
use Rattle.lg_declare.specs.Reading.{only_keys}
use Rattle.lg_declare.proofs.values.only_keys.Given as goal

abbrev pub invariant-loop-key : goal.invariant-loop-key
invariant-loop-key l = only_keys (map (λ word. word.now) l.known) (members_view l.table.entries) ≡ only_keys (map (λ word. word.now) l.known) (members_view l.key-iterator)
