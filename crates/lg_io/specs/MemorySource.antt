-- What a source in memory tells, from what it keeps, and what it is to do. This project's own.
use Rattle.std.specs.Prelude.{◌≡◌, ℕ, min, max, List, [], ◌∷◌, ◌++◌, length, take, drop, Bool, if◌then◌else◌, Option, Some}
use Rattle.lg_io.specs.declared.memory.source.MemorySource.{MemorySource}
use Rattle.lg_io.specs.declared.memory.source.Turn.{Turn}
use Rattle.lg_io.specs.declared.memory.source.Turn.TheVariants as turn
use Rattle.lg_io.specs.declared.source.ReadStep.{ReadStep}
use Rattle.lg_io.specs.declared.source.ReadStep.TheVariants.{Bytes, End, Quiet, Failed}
use Rattle.lg_io.specs.FaultPlan.{behind}
use Rattle.lg_io.specs.Source.{Received, given}

-- what it gave
abbrev pub source_received : {P : Type 0} → MemorySource P → Option Received
source_received s =
    Some (record { bytes = take s.at s.input.items; ended = s.is_ended; quiets = s.quiets })

-- whether it answered its end
abbrev pub source_over : {P : Type 0} → MemorySource P → Bool
source_over s = s.is_ended

-- how many of its reads failed, where its plan counts faults so
abbrev pub source_faults : {P : Type 0} → (P → ℕ) → MemorySource P → ℕ
source_faults faults s = faults s.plan

-- the bytes that it gives, what it does at the reads that don't fail, and which reads are to fail
pub record SourceScript : Type 0 where
  pub input : List ℕ
  pub turns : List Turn
  pub fails : ℕ → Bool

-- the whole script of a source whose plan makes these reads fail
abbrev pub source_script : {P : Type 0} → (P → ℕ → Bool) → MemorySource P → SourceScript
source_script fails s = record { input = s.input.items; turns = s.turns.items; fails = fails s.plan }

-- what is left of it
abbrev pub source_ahead : {P : Type 0} → (P → ℕ → Bool) → MemorySource P → SourceScript
source_ahead fails s =
    record { input = drop s.at s.input.items; turns = drop s.next s.turns.items; fails = fails s.plan }

-- a piece of what is left: at most so many bytes, but at least one, and no more than fit; or the end
abbrev pub piece_answer : ℕ → List ℕ → ℕ → ReadStep
piece_answer most [] room = End
piece_answer most (b ∷ left) room = Bytes (min (max most 1) (min (length (b ∷ left)) room))

-- the answer by the next turn; behind the last turn all is given that fits
abbrev pub turn_answer : List Turn → List ℕ → ℕ → ReadStep
turn_answer [] left room = piece_answer room left room
turn_answer (turn.Piece most ∷ turns) left room = piece_answer most left room
turn_answer (turn.Quiet ∷ turns) left room = Quiet

-- the answer to a read into a buffer of so many bytes
abbrev pub read_answer : SourceScript → ℕ → ReadStep
read_answer script room = if script.fails 0 then Failed else turn_answer script.turns script.input room

-- the turns that are left behind an answer; a read that fails takes none
abbrev pub turns_behind : ReadStep → List Turn → List Turn
turns_behind (Bytes count) turns = drop 1 turns
turns_behind End turns = drop 1 turns
turns_behind Quiet turns = drop 1 turns
turns_behind Failed turns = turns

-- one read of a source that isn't at its end: it answers what the script says, and gives the next bytes of its input
pub record ReadsByScript (old new : SourceScript) (buffer : List ℕ) (step : ReadStep) : Type 0 where
  pub answer : step ≡ read_answer old (length buffer)
  pub bytes : old.input ≡ given step buffer ++ new.input
  pub turns : new.turns ≡ turns_behind step old.turns
  pub fails : new.fails ≡ behind old.fails
