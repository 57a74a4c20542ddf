-- The rule holds of a new table: the value is at home, and the first seat answers for all passes.
use Rattle.std.proofs.Common.{◌≡◌, ℕ, zero, suc, ◌+◌, ◌*◌, ◌<◌, ◌≤◌, List, [], ◌∷◌, map, cond, arith, ap, sym, refl, subst, ◌⊎◌, inl, inr, Some}
use mathlib.Core.Option.{some, some-ne-none, some-injective}
use mathlib.Core.Logic.{dite}
use native.Mathlib.Decide.{ℕ_discrete, dec_le}
use lib.ListN.{get_elem?}
use Rattle.std.specs.Prelude.{◌==◌, nat_lt, if◌then◌else◌}
use Rattle.std.specs.List.{sum_by, range_with_len, All}
use Rattle.std.proofs.lemmas.List.FromFn.{length-map-range_with_len}
use Rattle.std.proofs.lemmas.List.Sums.{sum_by-cons}
use Rattle.std.proofs.lemmas.List.Elements.{All-nil, All-cons, All-map, All-weaker}
use Rattle.atomic_table.specs.Table.{opening}
use Rattle.lg_turn.specs.declared.view.Account.{Account}
use Rattle.lg_turn.specs.declared.view.View.{View}
use Rattle.lg_turn.specs.Views.{blank, drawing, rise_count, drawn_in, out_in, gone_in, Precedes, EachWord}
use Rattle.lg_turn.specs.Rule.{times, Told, Fits, Knows, IsKept}
use Rattle.lg_turn.specs.Steps.{beginning}
use Rattle.lg_turn.proofs.Counts.{one_if_same, none_if_other, none_low, no_rise, one_rise}
use Rattle.lg_turn.proofs.Told.{told_at_first, precedes_by}
use Rattle.lg_turn.proofs.Rolls.{upper_half, lower_half}

module _ (I : Type 0) {B : Type 0} (over : B) where
  abbrev one : ℕ → Account I B → ℕ
  one n a = if a.number == n then 1 else 0

  -- each number stands once
  blank_numbers : (n low count : ℕ) → (sum_by (one n) (map (blank over) (range_with_len low count)) ≤ 1) × (n < low → sum_by (one n) (map (blank over) (range_with_len low count)) ≡ 0) × (low + count ≤ n → sum_by (one n) (map (blank over) (range_with_len low count)) ≡ 0)
  blank_numbers n low zero = (omega arith, (λ h. refl), λ h. refl)
  blank_numbers n low (suc count) =
      let rest = blank_numbers n (low + 1) count in
      let both = sum_by-cons (one n) (blank over low) (map (blank over) (range_with_len (low + 1) count)) in
      let most = rest.0 in
      dite (ℕ_discrete low n)
      (λ same. let this : one n (blank over low) ≡ 1 = one_if_same low n same in let behind = rest.1 (omega arith) in (omega arith, (λ h. absurd (omega arith)), λ h. absurd (omega arith)))
      (λ other. let this : one n (blank over low) ≡ 0 = none_if_other low n other in (omega arith, (λ h. let behind = rest.1 (omega arith) in omega arith), λ h. let behind = rest.2 (omega arith) in omega arith))

  -- as often as it stands in the list of numbers
  blank_times : (n : ℕ) (numbers : List ℕ) → sum_by (one n) (map (blank over) numbers) ≡ times n numbers
  blank_times n [] = refl
  blank_times n (m ∷ rest) = omega (arith, blank_times n rest, sum_by-cons (one n) (blank over m) (map (blank over) rest), sum_by-cons (λ (k : ℕ). if k == n then 1 else 0) m rest)

  -- the words of the roll as the passes of the start drew their numbers
  halves : (n : ℕ) → n ≤ 66 → (drawn_in (n * 4294967297) ≡ n) × (out_in (n * 4294967297) ≡ n)
  halves n few = (upper_half (n * 4294967297) n n (omega arith) (omega arith), lower_half (n * 4294967297) n n (omega arith) (omega arith))

  in_order : (n m : ℕ) → n ≤ m → m ≤ 66 → Precedes (n * 4294967297) (m * 4294967297)
  in_order n m le few = let a = halves n (omega arith) in let b = halves m few in precedes_by (n * 4294967297) (m * 4294967297) n n m m a.0 a.1 b.0 b.1 (λ h. le) (omega arith)

  range_below : (low count : ℕ) → All (λ n. n < low + count) (range_with_len low count)
  range_below low zero = All-nil (λ n. n < low + zero)
  range_below low (suc count) = All-cons (λ n. n < low + suc count) low (range_with_len (low + 1) count) (omega arith)
      (All-weaker (λ n. n < low + 1 + count) (λ n. n < low + suc count) (λ n h. omega arith) (range_with_len (low + 1) count) (range_below (low + 1) count))

  started : (passes : ℕ) (P : ℕ → Type 0) → ((n : ℕ) → n ≤ passes → P (n * 4294967297)) → EachWord P (map (blank {I = I} over) (range_with_len 0 passes))
  started passes P each =
      let R : ℕ × ℕ → Type 0 = λ m. P m.0 × P m.1 in
      let Q : Account I B → Type 0 = λ a. All R a.moves in
      All-map Q (blank over) (range_with_len 0 passes) (All-weaker (λ n. n < 0 + passes) (λ n. Q (blank over n))
      (λ n h. All-cons R (drawing (n * 4294967297)) [] (each n (omega arith), subst P (omega arith) (each (n + 1) (omega arith))) (All-nil R)) (range_with_len 0 passes) (range_below 0 passes))

  told_started : (passes word : ℕ) → word ≡ passes * 4294967297 → passes ≤ 65 → Told word (beginning {I = I} passes over ∷ [])
  told_started passes word is few = told_at_first word (beginning passes over)
      (started passes (λ earlier. (out_in earlier ≤ drawn_in earlier) × Precedes earlier word) (λ n le.
      let a = halves n (omega arith) in (omega (arith, a.0, a.1), subst (λ (w : ℕ). Precedes (n * 4294967297) w) (sym is) (in_order n passes le (omega arith)))))
      (started passes (λ one. EachWord (λ other. Precedes one other ⊎ Precedes other one) (map (blank {I = I} over) (range_with_len 0 passes))) (λ n le.
      started passes (λ other. Precedes (n * 4294967297) other ⊎ Precedes other (n * 4294967297)) (λ m le'.
      dite (dec_le n m) (λ h. inl (in_order n m h (omega arith))) (λ h. inr (in_order m n (omega arith) (omega arith))))))

  -- each pass of the start has drawn one number
  draws_started : (n low count : ℕ) → low + count ≤ 65 → cond (nat_lt n low) 1 0 + sum_by (λ (a : Account I B). sum_by (rise_count drawn_in n) a.moves) (map (blank over) (range_with_len low count)) ≡ cond (nat_lt n (low + count)) 1 0
  draws_started n low zero few =
      let same : ◌≡◌ {A = ℕ} (cond (nat_lt n (low + 0)) 1 0) (cond (nat_lt n low) 1 0) = ap (λ (m : ℕ). cond (nat_lt n m) 1 0) (omega arith) in
      omega (arith, same)
  draws_started n low (suc count) few =
      let rise : ℕ × ℕ → ℕ = rise_count drawn_in n in
      let draws : Account I B → ℕ = λ a. sum_by rise a.moves in
      let rest = draws_started n (low + 1) count (omega arith) in
      let before = (halves low (omega arith)).0 in
      let after : drawn_in (low * 4294967297 + 4294967297) ≡ low + 1 = omega arith in
      let one : cond (nat_lt n (low + 1)) 1 0 ≡ cond (nat_lt n low) 1 0 + rise (drawing (low * 4294967297)) =
      subst (λ (z : ℕ × ℕ). cond (nat_lt n z.1) 1 0 ≡ cond (nat_lt n z.0) 1 0 + rise (drawing (low * 4294967297))) (λ i. (before i, after i)) (one_rise drawn_in n (drawing (low * 4294967297)) (omega arith)) in
      let same : ◌≡◌ {A = ℕ} (cond (nat_lt n (low + suc count)) 1 0) (cond (nat_lt n (low + 1 + count)) 1 0) = ap (λ (m : ℕ). cond (nat_lt n m) 1 0) (omega arith) in
      omega (arith, rest, one, same, sum_by-cons rise (drawing (low * 4294967297)) [], sum_by-cons draws (blank over low) (map (blank over) (range_with_len (low + 1) count)))

  -- and none has gone
  goings_started : (n low count : ℕ) → low + count ≤ 65 → sum_by (λ (a : Account I B). sum_by (rise_count gone_in n) a.moves) (map (blank over) (range_with_len low count)) ≡ 0
  goings_started n low zero few = refl
  goings_started n low (suc count) few =
      let rise : ℕ × ℕ → ℕ = rise_count gone_in n in
      let goings : Account I B → ℕ = λ a. sum_by rise a.moves in
      let rest = goings_started n (low + 1) count (omega arith) in
      let none = no_rise gone_in n (drawing (low * 4294967297)) (omega arith) in
      omega (arith, rest, none, sum_by-cons rise (drawing (low * 4294967297)) [], sum_by-cons goings (blank over low) (map (blank over) (range_with_len (low + 1) count)))

module _ {V I B : Type 0} (items : V → List I) (number : I → ℕ) (base : V → B) (callers passes : ℕ) (value : V) where
  begins_known : (i : ℕ) (v : View I B) → get_elem? (beginning passes (base value) ∷ []) i ≡ some v → Knows items number base (base value) [] 0 v
  begins_known zero v e = subst (Knows items number base (base value) [] 0) (some-injective (beginning passes (base value)) v e) record {
    fits = All-map (Fits items number base (base value) []) (blank (base value)) (range_with_len 0 passes) (λ k d inside. record { base_is = refl; begins = ([], refl); own_is = refl; own_seen = refl });
    stands = tt;
  }
  begins_known (suc i) v e = absurd (some-ne-none v (sym e))

  pub opens : (word : ℕ) → word ≡ passes * 4294967297 → passes ≤ callers → callers ≤ 65 → items value ≡ [] → IsKept items number base callers (base value) (opening (0 ∷ 0 ∷ word ∷ []) (Some value ∷ []) (beginning passes (base value)))
  opens word is fit few empty = let wide = length-map-range_with_len (blank {I = I} (base value)) 0 passes in record {
    list = [];
    serving = 0;
    ticket = 0;
    made = range_with_len 0 passes;
    next = passes;
    word = word;
    words = refl;
    slot = inl (value, refl, empty, refl, refl);
    each_pass = begins_known;
    few = few;
    roll = record {
      counted = omega (arith, wide);
      fewer = omega (arith, wide);
      drawn = λ n small. let d = draws_started I (base value) n 0 passes (omega arith) in
          let none : ◌≡◌ {A = ℕ} (cond (nat_lt n 0) 1 0) 0 = none_low n 0 (omega arith) in
          let all_drawn : ◌≡◌ {A = ℕ} (cond (nat_lt n (drawn_in word)) 1 0) (cond (nat_lt n (0 + passes)) 1 0) = ap (λ (m : ℕ). cond (nat_lt n m) 1 0) (omega (arith, is)) in
          omega (arith, d, none, all_drawn);
      gone = λ n. let g = goings_started I (base value) n 0 passes (omega arith) in let none : ◌≡◌ {A = ℕ} (cond (nat_lt n (gone_in word)) 1 0) 0 = none_low n (gone_in word) (omega (arith, is)) in omega (arith, g, none);
      told = told_started I (base value) passes word is (omega arith);
      small = omega arith;
      spent = λ h. absurd (omega arith);
      passes = omega (arith, wide);
      numbers = λ n. let once = blank_numbers I (base value) n 0 passes in (omega (arith, once.0), λ h. let none_there = once.2 (omega arith) in omega arith);
      given = λ n. let once = blank_numbers I (base value) n 0 passes in let same = blank_times I (base value) n (range_with_len 0 passes) in
          (omega (arith, same), omega (arith, same, once.0), λ h. let none_there = once.2 (omega arith) in omega (arith, same, none_there));
      entered = All-nil (λ e. times (number e) (range_with_len 0 passes) ≡ 1);
      whole = λ h n high. let once = blank_numbers I (base value) n 0 passes in let same = blank_times I (base value) n (range_with_len 0 passes) in let none_there = once.2 (omega (arith, high, fit)) in omega (arith, same, none_there);
    };
    drawn = refl;
    apart = λ t. (omega arith, (λ h. refl), λ h. refl);
  }
