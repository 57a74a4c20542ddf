-- What a contract says of a pass and of its turn. This project's own.
use Rattle.std.specs.Prelude.{◌≡◌, ℕ, ◌*◌, ◌≤◌, nat_le, if◌then◌else◌, None, List, [], ◌∷◌, ◌++◌, length, All, Option, Some}
use Rattle.lg_turn.specs.declared.keeps.Keeps.{Ghosts}
use Rattle.lg_turn.specs.declared.pass.Pass.{Pass}
use Rattle.lg_turn.specs.declared.turn.Turn.{Turn}
use Rattle.lg_turn.specs.declared.view.Account.{Account}
use Rattle.lg_turn.specs.declared.view.Stage.TheVariants.{Idle, Holds}
use Rattle.lg_turn.specs.declared.fault.TurnFault.{TurnFault}
use Rattle.lg_turn.specs.declared.fault.TurnFault.TheVariants.{Many, Spent}
use Rattle.lg_turn.specs.Views.{drawing, base_in, seen_in, own_in, moves_in, Precedes, MayFollow, drawn_in, out_in}

-- what a split answers that finds this word of the roll: first whether any number is left, and then whether any place is
abbrev pub fault_at : ℕ → ℕ → Option TurnFault
fault_at callers word = if nat_le 4294967168 (drawn_in word) then Some Spent else (if nat_le callers (out_in word) then Some Many else None)

-- the word that was found at the last move
abbrev pub last_found : List (ℕ × ℕ) → ℕ
last_found [] = 0
last_found (move ∷ earlier) = move.0

-- the word that was found at the move before the last one
abbrev pub found_before_last : List (ℕ × ℕ) → ℕ
found_before_last [] = 0
found_before_last (move ∷ earlier) = last_found earlier

-- what a refused split takes out of the roll again: its place, and past all numbers its number too
abbrev pub excess_of : TurnFault → ℕ
excess_of Many = 1
excess_of Spent = 4294967297

module _ {V I B : Type 0} {G : Ghosts V I B} where
  -- what the pass knows, as a list of one
  abbrev pub accounts_of : Pass V I B G → List (Account I B)
  accounts_of pass = pass.seat.me.0.accounts

  abbrev pub number_of : Pass V I B G → ℕ
  number_of pass = pass.number

  -- the base of the pass's turn
  abbrev pub base_of : Pass V I B G → Option B
  base_of pass = base_in pass.seat.me.0.accounts

  -- the entries that the pass has seen
  abbrev pub seen_by : Pass V I B G → List I
  seen_by pass = seen_in pass.seat.me.0.accounts

  -- the entries that the pass made
  abbrev pub own_of : Pass V I B G → List I
  own_of pass = own_in pass.seat.me.0.accounts

  -- the moves of the pass on the roll, the last one first: the word that it found, and the one that it left
  abbrev pub moves_by : Pass V I B G → List (ℕ × ℕ)
  moves_by pass = moves_in pass.seat.me.0.accounts

  -- the word found at the last move
  abbrev pub found_by : Pass V I B G → ℕ
  found_by pass = last_found (moves_by pass)

  -- the word found at the move before: by a refused split, at its drawing
  abbrev pub found_before : Pass V I B G → ℕ
  found_before pass = found_before_last (moves_by pass)

  -- the roll may come to this word from all words that the pass found or left
  abbrev pub Follows : ℕ → Pass V I B G → Type 0
  Follows word pass = MayFollow (accounts_of pass) word

  -- the pass is away from the turn
  abbrev pub IsAway : Pass V I B G → Type 0
  IsAway pass = pass.seat.me.0.stage ≡ Idle

  -- the pass has the turn, and its caller the value
  abbrev pub HasTurn : Pass V I B G → Type 0
  HasTurn pass = (ticket : ℕ) × (pass.seat.me.0.stage ≡ Holds ticket)

  abbrev pub IsPassOf : Turn V I B → Pass V I B G → Type 0
  IsPassOf turn pass = pass.seat.table_id ≡ turn.table.shared.table_id

  -- the same pass of the same turn
  abbrev pub IsSamePass : Pass V I B G → Pass V I B G → Type 0
  IsSamePass old new = (new.seat.table_id ≡ old.seat.table_id) × (number_of new ≡ number_of old) × (base_of new ≡ base_of old)

  -- the pass knows and has made what it did before
  abbrev pub IsAsBefore : Pass V I B G → Pass V I B G → Type 0
  IsAsBefore old new = IsSamePass old new × (seen_by new ≡ seen_by old) × (own_of new ≡ own_of old) × IsAway new

  -- the pass made one move on the roll: it found a word that may follow on all that it knew, and left another
  abbrev pub HasMovedOnce : (ℕ → ℕ × ℕ) → Pass V I B G → Pass V I B G → Type 0
  HasMovedOnce move old new = (moves_by new ≡ move (found_by new) ∷ moves_by old) × Follows (found_by new) old

  -- the pass made two moves on the roll, and found at each a word that may follow on all that it knew before
  abbrev pub HasMovedTwice : (ℕ → ℕ × ℕ) → (ℕ → ℕ × ℕ) → Pass V I B G → Pass V I B G → Type 0
  HasMovedTwice move next old new =
      (moves_by new ≡ next (found_by new) ∷ move (found_before new) ∷ moves_by old)
      × Follows (found_before new) old
      × Follows (found_by new) old
      × Precedes (move (found_before new)).1 (found_by new)

  -- a pass of this number that has seen what the other one has, and has made nothing, and no move on the roll
  abbrev pub IsSplitOff : Pass V I B G → ℕ → Pass V I B G → Type 0
  IsSplitOff other n pass = (number_of pass ≡ n) × (base_of pass ≡ base_of other) × (seen_by pass ≡ seen_by other) × (moves_by pass ≡ []) × (own_of pass ≡ []) × IsAway pass

  -- a pass of the start: it has seen and made nothing, and has drawn its number when as many were out as had numbers below it
  abbrev pub IsNew : B → Pass V I B G → Type 0
  IsNew base pass = (base_of pass ≡ Some base) × (seen_by pass ≡ []) × (own_of pass ≡ []) × (moves_by pass ≡ drawing (number_of pass * 4294967297) ∷ []) × IsAway pass

module _ {I : Type 0} where
  -- the list is what was seen, with at most one entry behind it, which has this number
  abbrev pub AddsAtMostOne : (I → ℕ) → ℕ → List I → List I → Type 0
  AddsAtMostOne number n seen list = (new : List I) × (list ≡ seen ++ new) × (length new ≤ 1) × All (λ e. number e ≡ n) new

module _ {V I B : Type 0} where
  abbrev pub callers_of : Turn V I B → ℕ
  callers_of turn = turn.table.shared.key.callers

  -- how many passes the turn began with
  abbrev pub passes_at_start : Turn V I B → ℕ
  passes_at_start turn = turn.table.shared.key.passes

  -- the base that the value had at the start
  abbrev pub origin_of : (V → B) → Turn V I B → B
  origin_of base turn = base turn.table.shared.key.first.value
