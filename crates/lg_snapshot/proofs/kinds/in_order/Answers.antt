use Rattle.std.proofs.Common.{◌≡◌, true, false, Some, sym, ap, ◌∙◌}
use Rattle.std.specs.FinMap.{from_sorted}
use Rattle.lg_calls.specs.Order.{all_pairs}
use Rattle.lg_snapshot.specs.Validity.{name_is_before}
use Rattle.lg_snapshot.proofs.AmountLemmas.{amounts_rise, amounts_fall}
use Rattle.lg_snapshot.proofs.ValidityLemmas.{lists_of}
use Rattle.lg_snapshot.proofs.kinds.in_order.Goals as goal

pub from_sorted-requires : goal.from_sorted-requires
from_sorted-requires c =
    let rises : all_pairs name_is_before c.args.pairs ≡ true = ap (all_pairs name_is_before) (sym c.as_slice.ensures) ∙ (sym c.rise.ensures ∙ c.if-rise.true) in
    rw c.into_vec.ensures (lists_of c.args.pairs rises)

pub returns-then-rise : goal.returns-then-rise
returns-then-rise c =
    let rises : all_pairs name_is_before c.args.pairs ≡ true = ap (all_pairs name_is_before) (sym c.as_slice.ensures) ∙ (sym c.rise.ensures ∙ c.if-rise.true) in
    amounts_rise c.args.pairs rises ∙ ap (λ m. Some m) (ap from_sorted (sym c.into_vec.ensures) ∙ sym c.from_sorted.ensures)

pub returns-else-rise : goal.returns-else-rise
returns-else-rise c =
    let falls : all_pairs name_is_before c.args.pairs ≡ false = ap (all_pairs name_is_before) (sym c.as_slice.ensures) ∙ (sym c.rise.ensures ∙ c.if-rise.false) in
    amounts_fall c.args.pairs falls
