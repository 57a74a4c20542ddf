-- What a sink in memory tells, from what it keeps, and what it is to do. This project's own.
use Rattle.std.specs.Prelude.{◌≡◌, ℕ, ◌+◌, min, max, List, Option, Some, Bool, IsTrue, if◌then◌else◌}
use Rattle.lg_io.specs.declared.memory.sink.MemorySink.{MemorySink}
use Rattle.lg_io.specs.declared.sink.WriteStep.{WriteStep}
use Rattle.lg_io.specs.declared.sink.WriteStep.TheVariants.{Took, Failed}
use Rattle.lg_io.specs.FaultPlan.{behind}

-- the bytes that it took
abbrev pub sink_taken : {P : Type 0} → MemorySink P → Option (List ℕ)
sink_taken sink = Some sink.bytes.items

-- how many writes found no memory
abbrev pub wants_of : {P : Type 0} → MemorySink P → ℕ
wants_of sink = sink.wants.met

-- how many writes failed, where its plan counts faults so
abbrev pub sink_faults : {P : Type 0} → (P → ℕ) → MemorySink P → ℕ
sink_faults faults sink = faults sink.plan + wants_of sink

-- how many bytes it takes at most in a write, and which writes are to fail
pub record SinkScript : Type 0 where
  pub most : ℕ
  pub fails : ℕ → Bool

-- the script of a sink whose plan makes these writes fail
abbrev pub sink_script : {P : Type 0} → (P → ℕ → Bool) → MemorySink P → SinkScript
sink_script fails sink = record { most = sink.most; fails = fails sink.plan }

-- the script behind one more write
abbrev pub sink_behind : SinkScript → SinkScript
sink_behind script = record { most = script.most; fails = behind script.fails }

-- the answer to a piece of so many bytes: it fails where it is to, or else takes what it may, but at least one byte
abbrev pub write_answer : SinkScript → ℕ → WriteStep
write_answer script room = if script.fails 0 then Failed else Took (min (max script.most 1) room)

-- one write: its answer is the script's, unless it was to succeed and found no memory
pub record WritesByScript {P : Type 0} (due : P → ℕ → Bool) (old new : MemorySink P) (room : ℕ)
    (step : WriteStep) : Type 0 where
  pub answer : wants_of new ≡ wants_of old → step ≡ write_answer (sink_script due old) room
  pub wants : IsTrue (due old.plan 0) → wants_of new ≡ wants_of old
  pub goes_on : sink_script due new ≡ sink_behind (sink_script due old)
