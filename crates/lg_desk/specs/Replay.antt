-- The one-thread scheduler: what the entries of a journal do to a state, one after another, and what each is answered.
-- This project's own.
use Rattle.std.specs.Prelude.{ℕ, Bool, ◌==◌, List, [], ◌∷◌, ◌++◌, fold, filter}
use Rattle.lg_desk.specs.declared.journal.Entry.{Entry}
use Rattle.lg_calls.specs.declared.state.State.{State}
use Rattle.lg_desk.specs.Journal.{is_over}
use Rattle.lg_calls.specs.Outcome.{Outcome}
use Rattle.lg_calls.specs.Step.{step}

-- an entry with what its step came to, and whether the journal was over right behind it
pub record Answered : Type 0 where
  pub entry : Entry
  pub outcome : Outcome
  pub over : Bool

-- the scheduler behind some entries: its state, these entries, and what each was answered
pub record Replayed : Type 0 where
  pub state : State
  pub journal : List Entry
  pub answered : List Answered

-- one entry more is one step more
abbrev pub entered : Replayed → Entry → Replayed
entered r e = record {
  state = (step r.state e.now.0 e.request).0;
  journal = r.journal ++ e ∷ [];
  answered = r.answered ++ record { entry = e; outcome = (step r.state e.now.0 e.request).1; over = is_over (r.journal ++ e ∷ []) } ∷ [];
}

-- a journal is replayed from a base, entry after entry
abbrev pub replayed : State → List Entry → Replayed
replayed base journal = fold entered (record { state = base; journal = []; answered = [] }) journal

-- the state behind the entries of a journal
abbrev pub replay : State → List Entry → State
replay base journal = (replayed base journal).state

-- the entries with their answers
abbrev pub answered : State → List Entry → List Answered
answered base journal = (replayed base journal).answered

-- those that a pass made
abbrev pub made_by : ℕ → List Answered → List Answered
made_by pass entries = filter (λ a. a.entry.pass == pass) entries
