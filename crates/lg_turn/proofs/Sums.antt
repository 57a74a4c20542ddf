-- Sums over a list of views of which one changes.
use Rattle.std.proofs.Common.{◌≡◌, ◌≢◌, ℕ, zero, suc, ◌+◌, ◌<◌, ◌≤◌, List, [], ◌∷◌, set, refl, sym, ap, subst, ⊎_elim, arith}
use mathlib.Core.Option.{some, some-ne-none, some-injective}
use mathlib.Core.Logic.{dite}
use native.Mathlib.Decide.{dec_le}
use lib.ListN.{get_elem?}
use Rattle.std.specs.List.{sum_by}
use Rattle.std.proofs.lemmas.List.Sums.{sum_by-cons}
use Rattle.atomic_table.proofs.Lists.{at_set}

module _ {X : Type 0} (f : X → ℕ) where
  pub sum_by_set : (xs : List X) (i : ℕ) (v w : X) → get_elem? xs i ≡ some v → sum_by f (set xs i w) + f v ≡ sum_by f xs + f w
  sum_by_set [] i v w e = absurd (some-ne-none v (sym e))
  sum_by_set (x ∷ xs) zero v w e = let same : f x ≡ f v = ap f (some-injective x v e) in omega (arith, sum_by-cons f x xs, sum_by-cons f w xs)
  sum_by_set (x ∷ xs) (suc i) v w e = omega (arith, sum_by_set xs i v w e, sum_by-cons f x xs, sum_by-cons f x (set xs i w))

  pub part-le-sum_by : (xs : List X) (i : ℕ) (v : X) → get_elem? xs i ≡ some v → f v ≤ sum_by f xs
  part-le-sum_by [] i v e = absurd (some-ne-none v (sym e))
  part-le-sum_by (x ∷ xs) zero v e = let same : f x ≡ f v = ap f (some-injective x v e) in omega (arith, sum_by-cons f x xs)
  part-le-sum_by (x ∷ xs) (suc i) v e = omega (arith, part-le-sum_by xs i v e, sum_by-cons f x xs)

  pub two_parts-le-sum_by : (xs : List X) (i j : ℕ) (v w : X) → i ≢ j → get_elem? xs i ≡ some v → get_elem? xs j ≡ some w → f v + f w ≤ sum_by f xs
  two_parts-le-sum_by [] i j v w n d e = absurd (some-ne-none v (sym d))
  two_parts-le-sum_by (x ∷ xs) zero zero v w n d e = absurd (n refl)
  two_parts-le-sum_by (x ∷ xs) zero (suc j) v w n d e = let same : f x ≡ f v = ap f (some-injective x v d) in omega (arith, part-le-sum_by xs j w e, sum_by-cons f x xs)
  two_parts-le-sum_by (x ∷ xs) (suc i) zero v w n d e = let same : f x ≡ f w = ap f (some-injective x w e) in omega (arith, part-le-sum_by xs i v d, sum_by-cons f x xs)
  two_parts-le-sum_by (x ∷ xs) (suc i) (suc j) v w n d e = omega (arith, two_parts-le-sum_by xs i j v w (λ same. n (ap suc same)) d e, sum_by-cons f x xs)

  -- where the sum is not 0, neither is some part
  pub some_part : (xs : List X) → 0 < sum_by f xs → (i : ℕ) × (v : X) × (get_elem? xs i ≡ some v) × (0 < f v)
  some_part [] h = absurd (omega arith)
  some_part (x ∷ xs) h = dite (dec_le (f x) 0)
      (λ z. let r = some_part xs (omega (arith, sum_by-cons f x xs)) in (suc r.0, r.1, r.2, r.3))
      (λ n. (zero, x, refl, omega arith))

  -- a sum of what is at most g is at most the sum of g
  pub sum_by-le-sum_by : (g : X → ℕ) (xs : List X) → ((i : ℕ) (v : X) → get_elem? xs i ≡ some v → f v ≤ g v) → sum_by f xs ≤ sum_by g xs
  sum_by-le-sum_by g [] h = omega arith
  sum_by-le-sum_by g (x ∷ xs) h = omega (arith, h zero x refl, sum_by-le-sum_by g xs (λ i v e. h (suc i) v e), sum_by-cons f x xs, sum_by-cons g x xs)

module _ {X : Type 0} where
  -- what holds of each view holds after one changes
  pub each_set : (P : ℕ → X → Type 0) (xs : List X) (i : ℕ) (w : X) → P i w → ((j : ℕ) (v : X) → j ≢ i → get_elem? xs j ≡ some v → P j v) → (j : ℕ) (v : X) → get_elem? (set xs i w) j ≡ some v → P j v
  each_set P xs i w mine others j v e = ⊎_elim
      (λ (t : (j ≡ i) × (w ≡ v)). subst (λ (z : ℕ × X). P z.0 z.1) (λ k. (sym t.0 k, t.1 k)) mine)
      (λ (t : (j ≢ i) × (get_elem? xs j ≡ some v)). others j v t.0 t.1)
      (at_set xs i j w v e)
