use Rattle.std.proofs.Common.{ap, sym, ◌∙◌}
use Rattle.std.specs.FinMap.{entries, entries-from_sorted}
use Rattle.lg_base.proofs.amounts.Amounts.entries.Goals as goal

pub returns : goal.returns
returns c = c.deref.ensures.value ∙ sym (entries-from_sorted _ _ c.self.invariant) ∙ ap entries c.self.view_is
