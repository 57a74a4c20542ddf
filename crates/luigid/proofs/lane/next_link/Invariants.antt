use Rattle.std.proofs.Common.{◌≡◌, option_map}
use Rattle.lg_io.specs.Door.{AcceptKind, accepted, HasNoLinkOut}
use Rattle.luigid.proofs.lane.next_link.Given as goal

-- the next answer leaves what it would have left before, no link is out, nothing failed, and the clock wasn't called
abbrev pub invariant-loop : goal.invariant-loop
invariant-loop g l =
    record {
      door : (kind : AcceptKind) → option_map (accepted kind) (g.D.Door.door l.door) ≡ option_map (accepted kind) (g.D.Door.door l.fn.door);
      all_back : HasNoLinkOut (g.D.Door.door l.door);
      faults : g.D.Door.faults l.door ≡ g.D.Door.faults l.fn.door;
      calls : g.D.Clock.calls l.door ≡ g.D.Clock.calls l.fn.door;
    }
