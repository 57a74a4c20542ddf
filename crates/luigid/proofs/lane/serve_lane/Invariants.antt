use Rattle.std.proofs.Common.{◌≡◌, [], All}
use Rattle.lg_desk.specs.declared.journal.Entry.{Entry}
use Rattle.lg_desk.specs.Replay.{replay}
use Rattle.luigid.proofs.Lanes.{SoFar}
use Rattle.luigid.proofs.lane.serve_lane.Given as goal

-- the connections so far were served, and the life goes on by their entries
abbrev pub invariant-loop-connection : goal.invariant-loop-connection
invariant-loop-connection g l =
    record {
      begun : l.connection ≡ 0 → l.life.journal ≡ [];
      replayed : g.E.Engine.state l.life.engine ≡ replay (g.E.Engine.state l.fn.life.engine) l.life.journal;
      faults : g.D.Door.faults l.door ≡ g.D.Door.faults l.fn.door;
      alone : All (λ (e : Entry). e.pass ≡ l.lane) l.life.journal;
      so_far : SoFar (g.E.Engine.state l.fn.life.engine) l.life.journal l.lane l.connection (g.D.Door.door l.fn.door) (g.D.Door.door l.door) (g.D.Clock.calls l.fn.door) (g.D.Clock.calls l.door);
    }
