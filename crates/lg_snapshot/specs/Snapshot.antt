-- The one text of a state. This project's own; the text is JSON (RFC 8259) in the compact form of `lg_json`.
use Rattle.std.specs.Prelude.{◌≡◌, ℕ, None, List, [], ◌∷◌, ◌++◌, All}
use Rattle.lg_calls.specs.declared.settings.Settings.{Settings}
use Rattle.lg_calls.specs.declared.state.State.{State}
use Rattle.lg_calls.specs.Valid.{IsValidState}
use Rattle.lg_json.specs.Text.{text_of}
use Rattle.lg_snapshot.specs.Fitting.{AreAmounts, TaskFits, WorkerFits}
use Rattle.lg_snapshot.specs.Holding.{IsHeld}
use Rattle.lg_snapshot.specs.Records.{tree_of_state}

-- the compact text of the state's tree, and one line feed
unfoldable pub snapshot_text : State → List ℕ
snapshot_text state = text_of (tree_of_state state) ++ 10 ∷ []

-- what memory can hold of a state: its texts are UTF-8, its numbers have 64 bits, with a sign or without as their types
-- say, and its amounts 32
pub record IsHeldState (state : State) : Type 0 where
  pub tree : IsHeld (tree_of_state state)
  pub limits : AreAmounts state.limits
  pub tasks : All TaskFits state.tasks
  pub workers : All WorkerFits state.workers

-- the bytes are the snapshot of a state: it is valid, has these settings and no moment of the last pruning, and they are its
-- text
pub record IsSnapshotOf (settings : Settings) (state : State) (bytes : List ℕ) : Type 0 where
  pub valid : IsValidState state
  pub has_settings : state.settings ≡ settings
  pub unpruned : state.pruned ≡ None
  pub text : snapshot_text state ≡ bytes
