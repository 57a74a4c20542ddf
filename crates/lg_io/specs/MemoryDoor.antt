-- What a door in memory tells, from what it keeps, and what it is to do. This project's own.
use Rattle.std.specs.Prelude.{◌≡◌, ℕ, ◌+◌, ◌↔◌, List, [], ◌∷◌, map, take, Bool, IsTrue, Option, Some, option_map}
use Rattle.lg_io.specs.declared.door.Accept.{Accept}
use Rattle.lg_io.specs.declared.door.Accept.TheVariants as accept
use Rattle.lg_io.specs.declared.memory.clock.MemoryClock.{MemoryClock}
use Rattle.lg_io.specs.declared.memory.door.Answer.{Answer}
use Rattle.lg_io.specs.declared.memory.door.Answer.TheVariants.{Conn, Quiet, Closed, Failed, NoMemory}
use Rattle.lg_io.specs.declared.memory.door.MemoryDoor.{MemoryDoor}
use Rattle.lg_io.specs.declared.memory.door.Visit.{Visit}
use Rattle.lg_io.specs.declared.memory.door.Visit.TheVariants as visit
use Rattle.lg_io.specs.declared.memory.sink.MemorySink.{MemorySink}
use Rattle.lg_io.specs.declared.memory.source.MemorySource.{MemorySource}
use Rattle.lg_io.specs.declared.pair.PairLink.{PairLink}
use Rattle.lg_io.specs.Link.{EndedLink, LinkTold}
use Rattle.lg_io.specs.Door.{AcceptKind, conn, quiet, closed, failed, no_memory, DoorTold, closed_by}
use Rattle.lg_io.specs.FaultPlan.{behind}
use Rattle.lg_io.specs.MemoryClock.{clock_calls}
use Rattle.lg_io.specs.MemorySink.{sink_taken, sink_faults, sink_script}
use Rattle.lg_io.specs.MemorySource.{source_received, source_script, source_ahead}
use Rattle.lg_io.specs.Net.{IsUnused}
use Rattle.lg_io.specs.Rest.{Rest, of_door}

-- the kind of an answer that a door keeps
abbrev pub answer_kind : Answer → AcceptKind
answer_kind Conn = conn
answer_kind Quiet = quiet
answer_kind Closed = closed
answer_kind Failed = failed
answer_kind NoMemory = no_memory

-- what a link did, where its plans count faults so
abbrev pub link_did : {P : Type 0} → (P → ℕ) → PairLink (MemorySource P) (MemorySink P) → EndedLink
link_did faults link = record {
  received = take link.source.at link.source.input.items;
  written = link.sink.bytes.items;
  ended = link.source.is_ended;
  faults = faults link.source.plan + (faults link.sink.plan + link.sink.wants.met);
  quiets = link.source.quiets;
}

-- what a link tells, where its plans count faults so
abbrev pub link_told : {P : Type 0} → (P → ℕ) → PairLink (MemorySource P) (MemorySink P) → LinkTold
link_told faults link = record {
  received = source_received link.source;
  taken = sink_taken link.sink;
  read_faults = faults link.source.plan;
  write_faults = sink_faults faults link.sink;
}

-- what a door did
abbrev pub door_told : {P : Type 0} → (P → ℕ) → MemoryDoor P → Option DoorTold
door_told faults door = Some (record {
  last = option_map answer_kind door.last;
  handed = door.handed;
  ended = map (link_did faults) door.ended.items;
})

-- whether it answered that it is closed
abbrev pub door_closed : {P : Type 0} → MemoryDoor P → Bool
door_closed door = closed_by (option_map answer_kind door.last)

-- how many of its calls of `accept` failed, where its plan counts faults so
abbrev pub door_faults : {P : Type 0} → (P → ℕ) → MemoryDoor P → ℕ
door_faults faults door = faults door.plan

-- what its clock leaves alone
abbrev pub door_rest : {P : Type 0} → (P → ℕ) → MemoryDoor P → Rest
door_rest faults door = of_door (door_told faults door) (door_faults faults door) (door_closed door)

-- the visits that it has ahead, and which calls of `accept` are to fail
pub record DoorScript (P : Type 0) : Type 0 where
  pub visits : List (Visit P)
  pub fails : ℕ → Bool

-- the script of a door whose plan makes these calls fail
abbrev pub door_script : {P : Type 0} → (P → ℕ → Bool) → MemoryDoor P → DoorScript P
door_script fails door = record { visits = door.visits.items; fails = fails door.plan }

-- its clock
abbrev pub door_clock : {P : Type 0} → MemoryDoor P → MemoryClock
door_clock door = door.clock

-- a door that nobody used
abbrev pub IsUnusedDoor : {P : Type 0} → (P → ℕ) → MemoryDoor P → Type 0
IsUnusedDoor faults door =
    IsUnused (door_told faults door) (clock_calls (door_clock door)) (door_faults faults door) (door_closed door)

-- a link with the whole script of another ahead of it, and with the same script
pub record IsBegunAnew {P : Type 0} (due script : P → ℕ → Bool)
    (old new : PairLink (MemorySource P) (MemorySink P)) : Type 0 where
  pub reads : source_ahead due new.source ≡ source_script script old.source
  pub writes : sink_script due new.sink ≡ sink_script script old.sink
  pub input : source_script script new.source ≡ source_script script old.source
  pub output : sink_script script new.sink ≡ sink_script script old.sink

-- what an answer takes of the visits: the next link, begun anew, or a visit without one; or none is left. Only a link
-- wants memory, and it stays the next where there is none.
abbrev pub TakesVisit : {P : Type 0} → (P → ℕ → Bool) → (P → ℕ → Bool) → List (Visit P) → List (Visit P)
    → Accept (PairLink (MemorySource P) (MemorySink P)) → Type 0
TakesVisit due script old new (accept.Conn link) =
    (next : _) × (old ≡ visit.Conn next ∷ new) × IsBegunAnew due script next link
TakesVisit due script old new accept.Quiet = old ≡ visit.Quiet ∷ new
TakesVisit due script old new accept.Closed = (old ≡ []) × (new ≡ [])
TakesVisit due script old new accept.Failed = new ≡ old
TakesVisit due script old new accept.NoMemory =
    (next : _) × (rest : _) × (old ≡ visit.Conn next ∷ rest) × (new ≡ old)

-- one `accept` of a door that isn't closed: it fails exactly where it is to, and else takes the next visit
pub record AcceptsByScript {P : Type 0} (due script : P → ℕ → Bool) (old new : DoorScript P)
    (answer : Accept (PairLink (MemorySource P) (MemorySink P))) : Type 0 where
  pub fails : (answer ≡ accept.Failed) ↔ IsTrue (old.fails 0)
  pub takes : TakesVisit due script old.visits new.visits answer
  pub goes_on : new.fails ≡ behind old.fails
