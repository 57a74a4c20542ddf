use Rattle.std.proofs.Common.{◌≡◌, false, None}
use Rattle.lg_io.specs.Link.{LinkTold, fresh_link}
use Rattle.lg_calls.specs.declared.state.State.{State}
use Rattle.lg_desk.specs.Journal.{is_over, GoesOnBy}
use Rattle.lg_desk.specs.Replay.{replay}
use Rattle.luigid.specs.Hearing.{IsQuietFor}
use Rattle.luigid.proofs.Sessions.{IsServing}
use Rattle.luigid.proofs.connection.serve_connection.Given as goal

-- the connection goes on, for a link that tells; and the life is that of its journal, which isn't over
abbrev pub invariant-loop-nth : goal.invariant-loop-nth
invariant-loop-nth g l =
    let clock = g.K.Clock in
    let source = g.L.Source in
    let sink = g.L.Sink in
    record {
      serving : (base : State) → g.E.Engine.state l.fn.life.engine ≡ replay base l.fn.life.journal
          → ◌≡◌ {A = LinkTold} (record { received = source.received l.fn.link; taken = sink.taken l.fn.link; read_faults = source.faults l.fn.link; write_faults = sink.faults l.fn.link }) fresh_link
          → IsServing base l.fn.lane l.fn.connection l.fn.life.journal l.life.journal l.nth l.reader.left (clock.calls l.fn.clock) (clock.calls l.clock)
          (record { received = source.received l.link; taken = sink.taken l.link; read_faults = source.faults l.link; write_faults = sink.faults l.link });
      over : l.reader.over ≡ None;
      quiet : IsQuietFor (source.received l.fn.link) 0 → IsQuietFor (source.received l.link) l.reader.quiets;
      not_over : is_over l.life.journal ≡ false;
      goes_on : GoesOnBy l.fn.lane l.fn.life.journal l.life.journal;
      replayed : (base : State) → g.E.Engine.state l.fn.life.engine ≡ replay base l.fn.life.journal → g.E.Engine.state l.life.engine ≡ replay base l.life.journal;
      rest : clock.rest l.clock ≡ clock.rest l.fn.clock;
    }
