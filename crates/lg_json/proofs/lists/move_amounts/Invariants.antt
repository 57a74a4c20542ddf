use Rattle.std.proofs.Common.{◌≡◌, ℕ, ◌+◌, ◌≤◌, List, ◌++◌, Ok, length}
use Rattle.std.specs.Prelude.{vec_capacity}
use Rattle.serde_json.specs.View.{members_view}
use Rattle.lg_json.specs.Fields.{each_member, amount_of}
use Rattle.lg_json.proofs.lists.move_amounts.Given as goal

abbrev pub invariant-loop-name : goal.invariant-loop-name
invariant-loop-name l =
    (left : List (List ℕ × ℕ))
    × (each_member amount_of (members_view l.name-iterator) ≡ Ok left)
    × (each_member amount_of (members_view l.fn.members.entries) ≡ Ok (l.amounts.items ++ left))
    × (length l.amounts.items + length left ≤ vec_capacity l.amounts)
