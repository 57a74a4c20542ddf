-- The entries of all passes, counted together; and who has the value.
use Rattle.std.proofs.Common.{◌≡◌, ℕ, zero, suc, ◌+◌, ◌<◌, ◌≤◌, List, [], ◌∷◌, length, arith, ap, refl, cond, Bool, true, false, ⊎_elim, Option}
use mathlib.Core.Option.{some}
use mathlib.Core.Logic.{dite}
use native.Mathlib.Decide.{ℕ_discrete}
use lib.ListN.{get_elem?}
use Rattle.std.specs.Prelude.{◌==◌, if◌then◌else◌}
use Rattle.std.specs.List.{sum_by, All, range_with_len}
use Rattle.std.proofs.lemmas.List.Sums.{sum_by-cons}
use Rattle.std.proofs.lemmas.List.Elements.{All-head, All-tail}
use Rattle.atomic_table.specs.Table.{State}
use Rattle.lg_turn.specs.declared.view.View.{View}
use Rattle.lg_turn.specs.declared.view.Stage.TheVariants.{Holds}
use Rattle.lg_turn.specs.Views.{of_pass}
use Rattle.lg_turn.specs.Rule.{values_of, value_count, IsKept}
use Rattle.lg_turn.proofs.Counts.{one_if_same, none_if_other}
use Rattle.lg_turn.proofs.Sums.{two_parts-le-sum_by}

sum_by-add : (f g h : ℕ → ℕ) (xs : List ℕ) → ((n : ℕ) → h n ≡ f n + g n) → sum_by h xs ≡ sum_by f xs + sum_by g xs
sum_by-add f g h [] each = refl
sum_by-add f g h (x ∷ xs) each = omega (arith, each x, sum_by-add f g h xs each, sum_by-cons f x xs, sum_by-cons g x xs, sum_by-cons h x xs)

abbrev is_one : ℕ → ℕ → ℕ
is_one m n = if m == n then 1 else 0

sum_none : (m low count : ℕ) → m < low → sum_by (is_one m) (range_with_len low count) ≡ 0
sum_none m low zero h = refl
sum_none m low (suc count) h = omega (arith, none_if_other m low (λ same. omega arith), sum_none m (low + 1) count (omega arith), sum_by-cons (is_one m) low (range_with_len (low + 1) count))

sum_once : (m low count : ℕ) → low ≤ m → m < low + count → sum_by (is_one m) (range_with_len low count) ≡ 1
sum_once m low zero h k = absurd (omega arith)
sum_once m low (suc count) h k =
    let both = sum_by-cons (is_one m) low (range_with_len (low + 1) count) in
    dite (ℕ_discrete m low)
    (λ same. omega (arith, one_if_same m low same, sum_none m (low + 1) count (omega arith), both))
    (λ other. omega (arith, none_if_other m low other, sum_once m (low + 1) count (omega arith) (omega arith), both))

sum_zero : (xs : List ℕ) → sum_by (λ n. 0) xs ≡ 0
sum_zero [] = refl
sum_zero (x ∷ xs) = omega (arith, sum_zero xs, sum_by-cons (λ (n : ℕ). 0) x xs)

module _ {I : Type 0} (number : I → ℕ) where
  length-of_pass : (n : ℕ) (e : I) (rest : List I) → length (of_pass number n (e ∷ rest)) ≡ is_one (number e) n + length (of_pass number n rest)
  length-of_pass n e rest = by_test (number e == n)
    where
      by_test : (b : Bool) → length (cond b (e ∷ of_pass number n rest) (of_pass number n rest)) ≡ cond b 1 0 + length (of_pass number n rest)
      by_test true = omega arith
      by_test false = omega arith

  pub each_entry_once : (list : List I) (callers : ℕ) → All (λ e. number e < callers) list → sum_by (λ n. length (of_pass number n list)) (range_with_len 0 callers) ≡ length list
  each_entry_once [] callers all = sum_zero (range_with_len 0 callers)
  each_entry_once (e ∷ rest) callers all =
      let P : I → Type 0 = λ x. number x < callers in
      let here : number e < callers = All-head P e rest all in
      omega (
        arith,
        sum_by-add (is_one (number e)) (λ n. length (of_pass number n rest)) (λ n. length (of_pass number n (e ∷ rest))) (range_with_len 0 callers) (λ n. length-of_pass n e rest),
        sum_once (number e) 0 callers (omega arith) (omega arith),
        each_entry_once rest callers (All-tail P e rest all),
      )

module _ {V I B : Type 0} (items : V → List I) (number : I → ℕ) (base : V → B) where
  pub one_holder : (callers : ℕ) (origin : B) (s : State (Option V) (View I B)) (i j t u : ℕ) (v w : View I B) → IsKept items number base callers origin s
      → get_elem? s.views i ≡ some v → v.stage ≡ Holds t → get_elem? s.views j ≡ some w → w.stage ≡ Holds u → i ≡ j
  one_holder callers origin s i j t u v w k at is at' is' =
      let one : values_of v ≡ 1 = ap value_count is in
      let other : values_of w ≡ 1 = ap value_count is' in
      let most : sum_by values_of s.views ≤ 1 = ⊎_elim (λ home. let z = home.4 in omega arith) (λ out. let z = out.1 in omega arith) k.slot in
      dite (ℕ_discrete i j) (λ same. same) (λ apart. let two = two_parts-le-sum_by values_of s.views i j v w apart at at' in absurd (omega arith))
