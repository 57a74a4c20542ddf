-- What a call of `add_task` leaves is valid, whatever it comes to.
use Rattle.std.proofs.Common.{◌≡◌, Bool, true, false, cond, IsTrue, length, Result, Ok, Err, refl, sym, ap, subst}
use Rattle.lg_json.specs.Tree.{null}
use Rattle.lg_calls.specs.declared.engine.StepFault.{StepFault}
use Rattle.lg_calls.specs.declared.engine.StepFault.TheVariants.{Full, NoMemory}
use Rattle.lg_calls.specs.declared.methods.add_task.AddTask.{AddTask}
use Rattle.lg_calls.specs.declared.state.State.{State}
use Rattle.lg_calls.specs.Methods.AddTask.{add_task_in_range}
use Rattle.lg_calls.specs.Outcome.{Outcome, full, replied}
use Rattle.lg_calls.specs.Valid.{IsValidState}
use Rattle.lg_calls.specs.AddTask.Adding.{Adds, task_added, added, has_no_room}

-- a valid state stays valid where there is room: a law of this crate
abbrev pub AddingKeeps : Type 0
AddingKeeps = (ask : AddTask) (s : State) → IsValidState s → IsTrue (add_task_in_range ask) → has_no_room s (added ask s) ≡ false → IsValidState (added ask s)

valid-outcome : AddingKeeps → (ask : AddTask) (s : State) → IsTrue (add_task_in_range ask) → IsValidState s → IsValidState (task_added ask s).0
valid-outcome keeps ask s in_range valid = by_room (has_no_room s (added ask s)) refl
  where
    by_room : (b : Bool) → has_no_room s (added ask s) ≡ b → IsValidState (cond {A = State × Outcome} b (s, full (length s.tasks)) (added ask s, replied null)).0
    by_room true none = valid
    by_room false room = keeps ask s valid in_range room

pub valid-adds : AddingKeeps → (ask : AddTask) (old new : State) (r : Result (Unit {0}) StepFault) → Adds ask old new r
    → IsTrue (add_task_in_range ask) → IsValidState old → IsValidState new
valid-adds keeps ask old new (Ok u) adds in_range valid =
    subst IsValidState (ap (λ (after : State × Outcome). after.0) adds) (valid-outcome keeps ask old in_range valid)
valid-adds keeps ask old new (Err (Full tasks)) adds in_range valid =
    subst IsValidState (ap (λ (after : State × Outcome). after.0) adds) (valid-outcome keeps ask old in_range valid)
valid-adds keeps ask old new (Err NoMemory) adds in_range valid = subst IsValidState (sym adds) valid
