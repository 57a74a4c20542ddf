use Rattle.std.proofs.Common.{ap, ◌∙◌}
use Rattle.std.specs.FinMap.{from_sorted}
use Rattle.lg_base.proofs.Places.{from_sorted-nil}
use Rattle.lg_base.proofs.amounts.Amounts.new.Goals as goal

pub returns : goal.returns
returns c = ap from_sorted c.new.ensures.items ∙ from_sorted-nil
