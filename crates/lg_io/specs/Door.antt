-- What a door did. This project's own.
use Rattle.std.specs.Prelude.{◌≡◌, ℕ, ◌+◌, ◌<◌, ◌≤◌, Bool, true, false, List, [], ◌∷◌, ◌++◌, length, Option, Some, None, option_map, option_and_then, IfSome}
use Rattle.lg_io.specs.declared.door.Accept.{Accept}
use Rattle.lg_io.specs.declared.door.Accept.TheVariants.{Conn, Quiet, Closed, Failed, NoMemory}
use Rattle.lg_io.specs.Link.{LinkTold, fresh_link, EndedLink, ended_link}
use Rattle.lg_io.specs.Source.{nothing_received}

-- the kind of an answer of `accept`
pub data AcceptKind : Type 0 where
  conn quiet closed failed no_memory : AcceptKind

abbrev pub accept_kind : {L : Type 0} → Accept L → AcceptKind
accept_kind (Conn link) = conn
accept_kind Quiet = quiet
accept_kind Closed = closed
accept_kind Failed = failed
accept_kind NoMemory = no_memory

-- the kind of its last answer, how many links it handed out, and those that were handed back, in order
pub record DoorTold : Type 0 where
  pub last : Option AcceptKind
  pub handed : ℕ
  pub ended : List EndedLink

abbrev pub unused_door : DoorTold
unused_door = record { last = None; handed = 0; ended = [] }

-- whether an answer says that the door is closed
abbrev pub is_closing : AcceptKind → Bool
is_closing conn = false
is_closing quiet = false
is_closing closed = true
is_closing failed = false
is_closing no_memory = false

-- whether a last answer, if there is one, says that the door is closed
abbrev pub closed_by : Option AcceptKind → Bool
closed_by None = false
closed_by (Some kind) = is_closing kind

-- how many links an answer hands out
abbrev pub handed_by : AcceptKind → ℕ
handed_by conn = 1
handed_by quiet = 0
handed_by closed = 0
handed_by failed = 0
handed_by no_memory = 0

-- a door after one more answer of `accept`
abbrev pub accepted : AcceptKind → DoorTold → DoorTold
accepted kind door = record { last = Some kind; handed = door.handed + handed_by kind; ended = door.ended }

-- a door after a link was handed back
abbrev pub done_with : EndedLink → DoorTold → DoorTold
done_with link door = record { last = door.last; handed = door.handed; ended = door.ended ++ link ∷ [] }

-- what a door tells after a link was handed back; it is told where the door and the link told theirs
abbrev pub told_done : LinkTold → Option DoorTold → Option DoorTold
told_done link door = option_and_then (λ told. option_map (λ ended. done_with ended told) (ended_link link)) door

-- P of the link that an answer hands out
abbrev pub IfConn : {L : Type 0} → Accept L → (L → Type 0) → Type 0
IfConn (Conn link) P = P link
IfConn Quiet P = Unit {0}
IfConn Closed P = Unit {0}
IfConn Failed P = Unit {0}
IfConn NoMemory P = Unit {0}

-- A link that nobody used. It tells what it received and took where the door tells its links.
pub record IsFresh (door : Option DoorTold) (link : LinkTold) : Type 0 where
  pub received_nothing : IfSome link.received (λ r. r ≡ nothing_received)
  pub took_nothing : IfSome link.taken (λ t. t ≡ [])
  pub read_all : link.read_faults ≡ 0
  pub wrote_all : link.write_faults ≡ 0
  pub told : IfSome door (λ d. link ≡ fresh_link)

-- each link that was handed out was handed back, where the door tells them
abbrev pub HasNoLinkOut : Option DoorTold → Type 0
HasNoLinkOut door = IfSome door (λ d. d.handed ≤ length d.ended)

-- fewer links were handed back than handed out, where the door tells them
abbrev pub HasLinkOut : Option DoorTold → Type 0
HasLinkOut door = IfSome door (λ d. length d.ended < d.handed)
