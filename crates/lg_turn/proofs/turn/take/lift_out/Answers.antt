use Rattle.std.proofs.Common.{Some, ap, sym, ◌∙◌, ◌∷◌}
use Rattle.atomic_table.specs.Table.{rest}
use Rattle.lg_turn.proofs.turn.take.lift_out.Goals as goal

pub exchange-before-requires : goal.exchange-before-requires
exchange-before-requires g c = let full = c.requires.full in (c.requires.turn, (Some full.0, full.1 ∙ ap (λ l. (0, Some full.0) ∷ rest l) (sym full.1)))
