-- Amounts of pairs that rise, or don't.
use Rattle.std.proofs.Common.{◌≡◌, ℕ, true, false, List, Some, None, sym, ap, ◌∙◌}
use Rattle.std.specs.Prelude.{if◌then◌else◌}
use Rattle.std.specs.FinMap.{from_sorted}
use Rattle.lg_calls.specs.Order.{all_pairs}
use Rattle.lg_snapshot.specs.Kinds.{amounts_of}
use Rattle.lg_snapshot.specs.Validity.{name_is_before}
use Rattle.lg_snapshot.proofs.OrderLemmas.{pairs_rise}

pub amounts_rise : (pairs : List (List ℕ × ℕ)) → all_pairs name_is_before pairs ≡ true → amounts_of pairs ≡ Some (from_sorted pairs)
amounts_rise pairs is = ap (λ b. if b then Some (from_sorted pairs) else None) (sym (pairs_rise pairs) ∙ is)

pub amounts_fall : (pairs : List (List ℕ × ℕ)) → all_pairs name_is_before pairs ≡ false → amounts_of pairs ≡ None
amounts_fall pairs is = ap (λ b. if b then Some (from_sorted pairs) else None) (sym (pairs_rise pairs) ∙ is)
