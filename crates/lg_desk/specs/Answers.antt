-- What a call at a journal is answered, and what is entered of it. This project's own.
use Rattle.std.specs.Prelude.{◌≡◌, ℕ, true, false, List, [], ◌∷◌, length, Result, Ok, Err}
use Rattle.lg_json.specs.Tree.{tree_of}
use Rattle.lg_calls.specs.declared.engine.Reply.{Reply}
use Rattle.lg_calls.specs.declared.state.State.{State}
use Rattle.lg_calls.specs.Outcome.{Outcome, replied, full}
use Rattle.lg_calls.specs.Step.{step}
use Rattle.lg_desk.specs.declared.fault.DeskFault.{DeskFault}
use Rattle.lg_desk.specs.declared.fault.DeskFault.TheVariants.{Over, Full, NoMemory}
use Rattle.lg_desk.specs.declared.journal.Entry.{Entry}
use Rattle.lg_desk.specs.Journal.{is_over}
use Rattle.lg_desk.specs.Replay.{replay}

-- the call is entered, also where the scheduler is full; where the journal is over, or memory ran out, it isn't
abbrev pub entered_of : Entry → Result Reply DeskFault → List Entry
entered_of e (Ok reply) = e ∷ []
entered_of e (Err (Full tasks)) = e ∷ []
entered_of e (Err (Over entries)) = []
entered_of e (Err NoMemory) = []

-- what the one-thread scheduler answers to an entry behind a journal that is replayed from a base
abbrev pub outcome_behind : State → List Entry → Entry → Outcome
outcome_behind base journal e = (step (replay base journal) e.now.0 e.request).1

-- The answer to a call behind a journal: `Over` exactly where that is over, with the number of its entries; else the one of the
-- one-thread scheduler there, or memory ran out.
abbrev pub IsAnswer : State → List Entry → Entry → Result Reply DeskFault → Type 0
IsAnswer base journal e (Err (Over entries)) = (is_over journal ≡ true) × (entries ≡ length journal)
IsAnswer base journal e (Ok reply) = (is_over journal ≡ false) × (outcome_behind base journal e ≡ replied (tree_of reply.0))
IsAnswer base journal e (Err (Full tasks)) = (is_over journal ≡ false) × (outcome_behind base journal e ≡ full tasks)
IsAnswer base journal e (Err NoMemory) = is_over journal ≡ false
