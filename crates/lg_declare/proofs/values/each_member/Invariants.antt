use Rattle.std.proofs.Common.{◌≡◌, ℕ, List}
use Rattle.toml.specs.Data.{Data}
use Rattle.toml.specs.View.{members_view}
use Rattle.lg_declare.specs.Declaring.{ReadsEachMember}
use Rattle.lg_declare.specs.Reading.{Read, each_member}
use Rattle.lg_declare.proofs.LoopLemmas.{behind}
use Rattle.lg_declare.proofs.values.each_member.Given as goal

abbrev pub invariant-loop-key : goal.invariant-loop-key
invariant-loop-key g l =
    (due : List ℕ → Data → Read _) → ReadsEachMember (goal.F-post g l.read) due
    → each_member due (members_view l.table.entries) ≡ behind l.all.items (each_member due (members_view l.key-iterator))
