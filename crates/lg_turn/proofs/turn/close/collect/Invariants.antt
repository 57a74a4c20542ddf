use Rattle.std.proofs.Common.{◌≡◌, ◌++◌, []}
use Rattle.std.specs.List.{All, flat_map}
use Rattle.lg_turn.specs.declared.view.Stage.TheVariants.{Idle}
use Rattle.lg_turn.specs.Views.{view_of}
use Rattle.lg_turn.specs.Passes.{accounts_of, IsAway}
use Rattle.lg_turn.proofs.turn.close.collect.Given as goal

abbrev pub invariant-loop-other : goal.invariant-loop-other
invariant-loop-other g l = record {
  turn : l.seat.table_id ≡ l.shared.table_id;
  away : l.seat.me ≡ (view_of l.seat.me.0.accounts Idle, []);
  all : flat_map accounts_of l.passes.items ++ l.seat.me.0.accounts ≡ flat_map accounts_of l.fn.passes.items;
  left : All (λ p. (p.seat.table_id ≡ l.shared.table_id) × IsAway p) l.passes.items;
}

abbrev pub decreases-loop-other : goal.decreases-loop-other
decreases-loop-other g l = goal.left-loop-other g l
