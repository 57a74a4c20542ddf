-- What a contract says of a pass at its desk. This project's own.
use Rattle.std.specs.Prelude.{◌≡◌, ℕ, Some}
use Rattle.lg_calls.specs.declared.engine.Engine.{Ghosts as Engines}
use Rattle.lg_calls.specs.declared.state.State.{State}
use Rattle.lg_desk.specs.declared.desk.Desk.{Desk}
use Rattle.lg_desk.specs.declared.journal.Entry.{Entry}
use Rattle.lg_desk.specs.declared.kept.Kept.{Kept}
use Rattle.lg_desk.specs.Desk.{base_in}
use Rattle.lg_turn.specs.declared.keeps.Keeps.{Ghosts as Keepers}
use Rattle.lg_turn.specs.declared.pass.Pass.{Pass}
use Rattle.lg_turn.specs.Passes.{base_of, IsAway, IsPassOf, callers_of, passes_at_start, origin_of}

module _ {E : Type 0} {G : Engines E} where
  -- the state of the engine that the desk began with
  abbrev pub desk_base : Desk E G → State
  desk_base desk = origin_of base_in desk.turn

  -- how many passes may be out
  abbrev pub desk_callers : Desk E G → ℕ
  desk_callers desk = callers_of desk.turn

  -- how many passes the desk began with
  abbrev pub desk_passes : Desk E G → ℕ
  desk_passes desk = passes_at_start desk.turn

module _ {E : Type 0} {G : Engines E} {K : Keepers (Kept E G) Entry State} where
  -- a pass of this desk, which is away from its turn
  pub record IsAt (desk : Desk E G) (pass : Pass (Kept E G) Entry State K) : Type 0 where
    pub of_turn : IsPassOf desk.turn pass
    pub away : IsAway pass
    pub base : base_of pass ≡ Some (desk_base desk)
