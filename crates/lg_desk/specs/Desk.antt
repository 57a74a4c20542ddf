-- What a contract says of a desk and of its passes. This project's own.
use Rattle.std.specs.Prelude.{◌≡◌, ℕ, List, ◌++◌, Some, Result}
use Rattle.lg_calls.specs.declared.engine.Engine.{Ghosts as Engines}
use Rattle.lg_calls.specs.declared.engine.Reply.{Reply}
use Rattle.lg_calls.specs.declared.state.State.{State}
use Rattle.lg_desk.specs.declared.fault.DeskFault.{DeskFault}
use Rattle.lg_desk.specs.declared.journal.Entry.{Entry}
use Rattle.lg_desk.specs.declared.kept.Kept.{Kept}
use Rattle.lg_desk.specs.Answers.{entered_of, IsAnswer}
use Rattle.lg_turn.specs.declared.keeps.Keeps.{Ghosts as Keepers}
use Rattle.lg_turn.specs.declared.pass.Pass.{Pass}
use Rattle.lg_turn.specs.Passes.{number_of, base_of, seen_by, own_of, moves_by, IsAway, IsSamePass}
use Rattle.lg_turn.specs.Views.{BeginsWith}

module _ {E : Type 0} {G : Engines E} where
  -- the state from which the journal is replayed: that of the engine that was handed in
  abbrev pub base_in : Kept E G → State
  base_in kept = G.state kept.first.value

  -- the calls that were entered, in order
  abbrev pub journal_in : Kept E G → List Entry
  journal_in kept = kept.entries.items

module _ {V : Type 0} {G : Keepers V Entry State} where
  -- the same pass of the same turn, which is away from it, and made no move on its roll
  pub record IsStill (old new : Pass V Entry State G) : Type 0 where
    pub same : IsSamePass old new
    pub moves : moves_by new ≡ moves_by old
    pub away : IsAway new

  -- the pass has seen what it had, or more, and made what it had
  pub record HasLooked (old new : Pass V Entry State G) : Type 0 where
    pub begins : BeginsWith (seen_by new) (seen_by old)
    pub own : own_of new ≡ own_of old

  -- A call at a desk of this base, as its pass saw it. The journal that it found begins with what the pass had seen, and the
  -- answer is the one to this call behind it. What is entered of the call stands behind all that was found, and is the last
  -- entry that the pass made.
  pub record HasCalled (base : State) (e : Entry) (answer : Result Reply DeskFault) (old new : Pass V Entry State G) : Type 0 where
    pub found : List Entry
    pub begins : BeginsWith found (seen_by old)
    pub answered : IsAnswer base found e answer
    pub seen : seen_by new ≡ found ++ entered_of e answer
    pub own : own_of new ≡ own_of old ++ entered_of e answer
