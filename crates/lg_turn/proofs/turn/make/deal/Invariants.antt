use Rattle.std.proofs.Common.{◌≡◌, ◌-◌, [], map, vec_len}
use Rattle.std.specs.Prelude.{vec_capacity}
use Rattle.std.specs.List.{All, range_with_len}
use Rattle.lg_turn.specs.declared.view.Stage.TheVariants.{Idle}
use Rattle.lg_turn.specs.Views.{blank, view_of}
use Rattle.lg_turn.specs.Passes.{number_of, IsNew}
use Rattle.lg_turn.proofs.turn.make.deal.Given as goal

abbrev pub invariant-loop-number : goal.invariant-loop-number
invariant-loop-number g l =
    let over = g.V.Keeps.base l.shared.key.first.value in record {
      turn : l.seat.table_id ≡ l.shared.table_id;
      rest : l.seat.me ≡ (view_of (map (blank over) (range_with_len l.number (l.callers - l.number))) Idle, []);
      numbers : map number_of l.passes.items ≡ range_with_len 0 l.number;
      new : All (λ p. (p.seat.table_id ≡ l.shared.table_id) × IsNew over p) l.passes.items;
      room : vec_len l.passes ≡ l.number;
      capacity : vec_capacity l.passes ≡ vec_capacity l.initial.passes;
    }
