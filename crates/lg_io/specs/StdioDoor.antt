-- What a door on two streams hands out. This project's own.
use Rattle.std.specs.Prelude.{◌≡◌, false, Option, Some, None}
use Rattle.lg_io.specs.declared.adapters.reader.ReaderSource.{ReaderSource}
use Rattle.lg_io.specs.declared.adapters.stdio.StdioDoor.{StdioDoor}
use Rattle.lg_io.specs.declared.adapters.writer.WriterSink.{WriterSink}
use Rattle.lg_io.specs.declared.door.Accept.{Accept}
use Rattle.lg_io.specs.declared.door.Accept.TheVariants.{Conn, Closed}
use Rattle.lg_io.specs.declared.pair.PairLink.{PairLink}

-- a link over these streams that nobody used
pub record IsLinkOver {R W : Type 0} (streams : R × W) (link : PairLink (ReaderSource R) (WriterSink W)) : Type 0 where
  pub reader : link.source.reader ≡ streams.0
  pub writer : link.sink.writer ≡ streams.1
  pub unended : link.source.is_ended ≡ false
  pub read_all : link.source.faults.met ≡ 0
  pub wrote_all : link.sink.faults.met ≡ 0

-- a door on these streams, with this clock, that nobody used
pub record IsDoorOver {R W K : Type 0} (parts : R × W × K) (door : StdioDoor R W K) : Type 0 where
  pub streams : door.streams ≡ Some (parts.0, parts.1)
  pub clock : door.clock ≡ parts.2
  pub unclosed : door.is_closed ≡ false

-- the link over the streams, where they are there, and else that the door is closed
abbrev pub HandsOut : {R W : Type 0} → Option (R × W) → Accept (PairLink (ReaderSource R) (WriterSink W)) → Type 0
HandsOut (Some streams) (Conn link) = IsLinkOver streams link
HandsOut (Some streams) answer = ⊥
HandsOut None answer = answer ≡ Closed
