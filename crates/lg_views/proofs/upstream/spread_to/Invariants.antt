use Rattle.std.proofs.Common.{take}
use Rattle.lg_views.specs.Walking.{Marks, has_one_of}
use Rattle.lg_views.proofs.upstream.spread_to.Given as goal

abbrev pub invariant-loop-id : goal.invariant-loop-id
invariant-loop-id g l = Marks (g.K.Look.shelf l.state) (has_one_of (take l.id-index l.ids)) l.initial.walk l.walk
