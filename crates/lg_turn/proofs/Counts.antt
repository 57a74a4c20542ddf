-- Tests on numbers, as the counts of the rule make them.
use Rattle.std.proofs.Common.{◌≡◌, ◌≢◌, ℕ, ◌+◌, ◌<◌, ◌≤◌, eq-eqb, ne_eqb, ap, ◌∙◌, arith, cond, Bool}
use mathlib.Core.Logic.{dite}
use native.Mathlib.Decide.{ℕ_discrete, dec_lt}
use Rattle.std.specs.Prelude.{◌==◌, nat_lt}
use Rattle.std.proofs.lemmas.Bool.{lt-ltb, le-ltb}
use Rattle.lg_turn.specs.Views.{rise_count}

pub one_if_same : (t u : ℕ) → t ≡ u → ◌≡◌ {A = ℕ} (cond (t == u) 1 0) 1
one_if_same t u e = ap {B = ℕ} (λ (b : Bool). cond b 1 0) (eq-eqb t u e)

pub none_if_other : (t u : ℕ) → t ≢ u → ◌≡◌ {A = ℕ} (cond (t == u) 1 0) 0
none_if_other t u n = ap {B = ℕ} (λ (b : Bool). cond b 1 0) (ne_eqb t u n)

pub none_low : (n callers : ℕ) → callers ≤ n → ◌≡◌ {A = ℕ} (cond (nat_lt n callers) 1 0) 0
none_low n callers h = ap {B = ℕ} (λ (b : Bool). cond b 1 0) (le-ltb n callers h)

pub one_low : (n callers : ℕ) → n < callers → ◌≡◌ {A = ℕ} (cond (nat_lt n callers) 1 0) 1
one_low n callers h = ap {B = ℕ} (λ (b : Bool). cond b 1 0) (lt-ltb n callers h)

module _ (tally : ℕ → ℕ) (n : ℕ) (move : ℕ × ℕ) where
  -- a move by which the tally doesn't rise, or rises from another number
  pub no_rise : tally move.1 ≤ tally move.0 → rise_count tally n move ≡ 0
  no_rise h = ap {B = ℕ} (λ (b : Bool). cond b (cond (tally move.0 == n) 1 0) 0) (le-ltb (tally move.0) (tally move.1) h)

  pub no_rise_here : tally move.0 ≢ n → rise_count tally n move ≡ 0
  no_rise_here other = dite (dec_lt (tally move.0) (tally move.1))
      (λ h. ap {B = ℕ} (λ (b : Bool). cond b (cond (tally move.0 == n) 1 0) 0) (lt-ltb (tally move.0) (tally move.1) h) ∙ none_if_other (tally move.0) n other)
      (λ h. no_rise (omega (arith, h)))

  -- and one by which it rises by one
  pub one_rise : tally move.1 ≡ tally move.0 + 1 → cond (nat_lt n (tally move.1)) 1 0 ≡ cond (nat_lt n (tally move.0)) 1 0 + rise_count tally n move
  one_rise more =
      let rises : rise_count tally n move ≡ cond (tally move.0 == n) 1 0 = ap {B = ℕ} (λ (b : Bool). cond b (cond (tally move.0 == n) 1 0) 0) (lt-ltb (tally move.0) (tally move.1) (omega (arith, more))) in
      dite (ℕ_discrete (tally move.0) n)
      (λ same. omega (arith, rises, one_if_same (tally move.0) n same, none_low n (tally move.0) (omega (arith, same)), one_low n (tally move.1) (omega (arith, same, more))))
      (λ other. let no = none_if_other (tally move.0) n other in
      dite (dec_lt n (tally move.0))
      (λ h. omega (arith, rises, no, one_low n (tally move.0) h, one_low n (tally move.1) (omega (arith, h, more))))
      (λ h. omega (arith, rises, no, none_low n (tally move.0) (omega (arith, h)), none_low n (tally move.1) (omega (arith, h, more, other)))))
