use Rattle.std.proofs.Common.{◌≡◌, ℕ, ◌+◌, ◌≤◌, List, ◌++◌, Ok, length}
use Rattle.std.specs.Prelude.{vec_capacity}
use Rattle.serde_json.specs.View.{members_view}
use Rattle.lg_json.specs.Fields.{each_member, text_of}
use Rattle.lg_json.proofs.lists.move_pairs.Given as goal

abbrev pub invariant-loop-name : goal.invariant-loop-name
invariant-loop-name l =
    (left : List (List ℕ × List ℕ))
    × (each_member text_of (members_view l.name-iterator) ≡ Ok left)
    × (each_member text_of (members_view l.fn.members.entries) ≡ Ok (l.pairs.items ++ left))
    × (length l.pairs.items + length left ≤ vec_capacity l.pairs)
