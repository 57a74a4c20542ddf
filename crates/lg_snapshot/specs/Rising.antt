-- Orders by which lists rise are transitive.
use Rattle.std.proofs.Common.{◌≡◌, ℕ, true, List, Ordering, Less, Equal, Greater, refl, ap, arith, lt-ltb, le-leb}
use Rattle.std.specs.Prelude.{nat_lt, nat_le}
use Rattle.std.specs.Ordering.{is_lt}
use Rattle.std.specs.Cmp.{then_total, on_total}
use Rattle.std.specs.Cmp.Lexicographic.{nat_list_cmp_total}
use Rattle.std.proofs.lemmas.Bool.{ltb-true, leb-true}
use Rattle.lg_calls.specs.declared.batcher.BatcherRec.{BatcherRec}
use Rattle.lg_calls.specs.Order.{is_before}
use Rattle.lg_calls.specs.Valid.{batcher_is_before}

less : (o : Ordering) → is_lt o ≡ true → o ≡ Less
less Less is = refl
less Equal is = cc
less Greater is = cc

-- the order of bytes
pub before-before : (a b c : List ℕ) → is_before a b ≡ true → is_before b c ≡ true → is_before a c ≡ true
before-before a b c one two = ap is_lt (nat_list_cmp_total.trans a b c (less _ one) (less _ two))

pub numbers-before : (a b c : ℕ) → nat_lt a b ≡ true → nat_lt b c ≡ true → nat_lt a c ≡ true
numbers-before a b c one two = lt-ltb a c (omega (arith, ltb-true a b one, ltb-true b c two))

pub moments-before : (a b c : ℕ) → nat_le a b ≡ true → nat_le b c ≡ true → nat_le a c ≡ true
moments-before a b c one two = le-leb a c (omega (arith, leb-true a b one, leb-true b c two))

-- by workers, and then by families
pub batchers-before : (a b c : BatcherRec) → batcher_is_before a b ≡ true → batcher_is_before b c ≡ true → batcher_is_before a c ≡ true
batchers-before a b c one two =
    ap is_lt ((then_total (on_total (λ (x : BatcherRec). x.worker) nat_list_cmp_total) (on_total (λ (x : BatcherRec). x.family) nat_list_cmp_total)).trans a b c (less _ one) (less _ two))
