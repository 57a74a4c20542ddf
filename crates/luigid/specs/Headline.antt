-- The headline: what a run of the daemon is, for every list of words and every behaviour of the outside. This project's
-- own.
use Rattle.std.specs.Prelude.{◌≡◌, ℕ, ◌<◌, ◌≤◌, ◌↔◌, ◌⊎◌, true, false, List, [], ◌∷◌, ◌++◌, All, codes, Option, Some, None, IfSome, MatchOption, option_map}
use Rattle.lg_io.specs.Door.{DoorTold, conn, closed, failed, no_memory, unused_door}
use Rattle.lg_io.specs.DoorSeen.{DoorSeen}
use Rattle.lg_io.specs.Net.{BindCall}
use Rattle.lg_io.specs.Sink.{Takes, IsPrefix}
use Rattle.lg_io.specs.Tells.{TellsOn}
use Rattle.luigid.specs.declared.audit.LifeEnd.{LifeEnd}
use Rattle.luigid.specs.declared.audit.LifeEnd.TheVariants.{Stop, Full, Closed, Doors, Memory}
use Rattle.lg_desk.specs.declared.journal.Entry.{Entry}
use Rattle.luigid.specs.declared.exit.Exit.{Exit}
use Rattle.luigid.specs.declared.exit.Exit.TheVariants.{Served, BadWords, CannotListen, DoorsFailed, JournalFull, NoMemory}
use Rattle.luigid.specs.Audit.{LifeTold}
use Rattle.lg_desk.specs.Journal.{has_stop, is_full, is_over, NoneBehindEnd}
use Rattle.luigid.specs.Lane.{IsLane}
use Rattle.luigid.specs.Session.{Session}
use Rattle.lg_calls.specs.Settings.{default_settings}
use Rattle.lg_calls.specs.State.{empty_state}
use Rattle.lg_calls.specs.declared.state.State.{State}

-- nobody called the door or its clock
pub record IsUntouched (seen : DoorSeen) : Type 0 where
  pub unused : IfSome seen.door (λ told. told ≡ unused_door)
  pub unfailed : seen.faults ≡ 0
  pub uncalled : IfSome seen.calls (λ calls. calls ≡ [])

-- what a door and its clock told when the door was bound, if they tell
abbrev pub unused : DoorSeen → DoorSeen
unused seen =
    record { door = option_map (λ _. unused_door) seen.door; faults = 0; calls = option_map (λ _. []) seen.calls }

-- what the outside tells: the calls of `bind` and how many of them failed, the doors that were bound, and the lives
pub record Outside : Type 0 where
  pub binds : Option (List BindCall)
  pub bind_faults : ℕ
  pub doors : List DoorSeen
  pub lives : Option (List LifeTold)

-- the state that a life begins with: nothing is known, and nothing is set otherwise than by default
abbrev pub first_state : State
first_state = empty_state default_settings

-- the words that are accepted
abbrev pub IsLine : List (List ℕ) → Type 0
IsLine words = words ≡ codes "--stdio" ∷ []

-- the one call of `bind`
abbrev pub the_bind : BindCall
the_bind = record { address = codes "0.0.0.0"; port = 8082; doors = 1 }

-- What the journal says of each end of a life: it holds a stop; else it is full; else it isn't over.
abbrev pub EndsBy : LifeEnd → List Entry → Type 0
EndsBy Stop journal = has_stop journal ≡ true
EndsBy Full journal = (has_stop journal ≡ false) × (is_full journal ≡ true)
EndsBy Closed journal = is_over journal ≡ false
EndsBy Doors journal = is_over journal ≡ false
EndsBy Memory journal = is_over journal ≡ false

-- The door's last answer. Where the journal is over it handed out the link behind which the life ended.
abbrev pub HasLast : LifeEnd → DoorTold → Type 0
HasLast Stop door = door.last ≡ Some conn
HasLast Full door = door.last ≡ Some conn
HasLast Closed door = door.last ≡ Some closed
HasLast Doors door = door.last ≡ Some failed
HasLast Memory door = door.last ≡ Some no_memory

-- a door that tells went on telling, its connections were served as they are to be, and its last answer is the cause of
-- the end
pub record HasConnections (base : State) (lane : ℕ) (end : LifeEnd) (journal : List Entry) (old : DoorTold) (before after : DoorSeen) : Type 0 where
  pub new : DoorTold
  pub tells : after.door ≡ Some new
  pub sessions : List Session
  pub is_lane : IsLane base journal lane old new before.calls after.calls sessions
  pub last : HasLast end new

-- what a lane did with its door, where the door tells
abbrev pub HasLane : State → ℕ → LifeEnd → List Entry → DoorSeen → DoorSeen → Type 0
HasLane base lane end journal before after =
    MatchOption before.door (after.door ≡ None) (λ old. HasConnections base lane end journal old before after)

-- the program's end for a life's
abbrev pub exit_of : LifeEnd → Exit
exit_of Stop = Served
exit_of Full = JournalFull
exit_of Closed = Served
exit_of Doors = DoorsFailed
exit_of Memory = NoMemory

-- a life that was served: its journal, and how it ended
pub record ServedLife : Type 0 where
  pub journal : List Entry
  pub end : LifeEnd

-- A life was served over one door: the audit is told of it, with the empty state as its base; it ended for a cause, by its
-- door exactly where the door failed, and nothing was entered behind it; the door's one lane entered its calls, and there
-- are no others; and its connections are served as they are to be.
pub record IsServedLife (before after : Option (List LifeTold)) (door : DoorSeen) (life : ServedLife) : Type 0 where
  pub audited : TellsOn before after (record { base = first_state; end = Some (life.journal, life.end) } ∷ [])
  pub ends : EndsBy life.end life.journal
  pub door_failed : (life.end ≡ Doors) ↔ (0 < door.faults)
  pub none_behind : NoneBehindEnd life.journal
  pub no_other : All (λ e. e.pass ≡ 0) life.journal
  pub lane : HasLane first_state 0 life.end life.journal (unused door) door

-- One life was served, over the one door that was bound; and the program ended as the life did.
pub record IsOneLife (before after : Outside) (exit : Exit) (life : ServedLife) : Type 0 where
  pub bound : TellsOn before.binds after.binds (the_bind ∷ [])
  pub door : DoorSeen
  pub one_door : after.doors ≡ door ∷ []
  pub served : IsServedLife before.lives after.lives door life
  pub exit_is : exit ≡ exit_of life.end

-- No life began: the words were bad, the door wasn't bound, or memory ran out; and no door was called.
pub record IsWithoutLife (before after : Outside) (exit : Exit) : Type 0 where
  pub no_lives : after.lives ≡ before.lives
  pub untouched : All IsUntouched after.doors
  pub exit_is : (exit ≡ BadWords) ⊎ (exit ≡ CannotListen) ⊎ (exit ≡ NoMemory)

-- the lives of a run: none, or one
abbrev pub HasLives : Outside → Outside → Exit → Option ServedLife → Type 0
HasLives before after exit None = IsWithoutLife before after exit
HasLives before after exit (Some life) = IsOneLife before after exit life

-- Bad words bind nothing. Memory may run out before the call or after it.
abbrev pub HasBinding : Option (List BindCall) → Option (List BindCall) → Exit → Type 0
HasBinding old new BadWords = new ≡ old
HasBinding old new NoMemory = (new ≡ old) ⊎ TellsOn old new (the_bind ∷ [])
HasBinding old new Served = TellsOn old new (the_bind ∷ [])
HasBinding old new CannotListen = TellsOn old new (the_bind ∷ [])
HasBinding old new DoorsFailed = TellsOn old new (the_bind ∷ [])
HasBinding old new JournalFull = TellsOn old new (the_bind ∷ [])

-- A run of the daemon.
pub record IsRun (words : List (List ℕ)) (before after : Outside) (exit : Exit) : Type 0 where
  -- other words are refused, and nothing is refused but them
  pub line : (exit ≡ BadWords) ↔ (¬ IsLine words)
  -- the net is bound once, for good words alone
  pub binding : HasBinding before.binds after.binds exit
  pub cannot_listen : (exit ≡ CannotListen) ↔ (before.bind_faults < after.bind_faults)
  pub never_falls : before.bind_faults ≤ after.bind_faults
  -- its one life, if it had one
  pub life : Option ServedLife
  pub lives : HasLives before after exit life

-- the status of each end
abbrev pub status_of : Exit → ℕ
status_of Served = 0
status_of BadWords = 2
status_of CannotListen = 4
status_of DoorsFailed = 7
status_of JournalFull = 8
status_of NoMemory = 71

-- the line that each end writes
abbrev pub line_of : Exit → List ℕ
line_of Served = []
line_of BadWords = codes "luigid: bad words" ++ 10 ∷ []
line_of CannotListen = codes "luigid: cannot listen" ++ 10 ∷ []
line_of DoorsFailed = codes "luigid: doors failed" ++ 10 ∷ []
line_of JournalFull = codes "luigid: journal full" ++ 10 ∷ []
line_of NoMemory = codes "luigid: no memory" ++ 10 ∷ []

-- a sink took a text and nothing else, or a front of it where its faults rose
pub record Says (old new : Option (List ℕ)) (faults_before faults_after : ℕ) (text : List ℕ) : Type 0 where
  pub front : List ℕ
  pub is_front : IsPrefix front text
  pub took : Takes old new front
  pub all_of_it : faults_after ≡ faults_before → front ≡ text
