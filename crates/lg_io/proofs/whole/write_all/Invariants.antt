use Rattle.std.proofs.Common.{◌≡◌, ℕ, List, ◌++◌, length}
use Rattle.lg_io.specs.Sink.{Takes}
use Rattle.lg_io.proofs.whole.write_all.Given as goal

-- a front of the piece was taken, with no fault
abbrev pub invariant-loop-left : goal.invariant-loop-left
invariant-loop-left g l =
    let sink = g.S.Sink in
    record {
      front : (front : List ℕ) × (l.piece ≡ front ++ l.left) × Takes (sink.taken l.fn.sink) (sink.taken l.sink) front;
      faults : sink.faults l.sink ≡ sink.faults l.fn.sink;
      rest : sink.rest l.sink ≡ sink.rest l.fn.sink;
    }

abbrev pub decreases-loop-left : goal.decreases-loop-left
decreases-loop-left g l = length l.left
