-- Passes that are handed out one after another.
use Rattle.std.proofs.Common.{◌≡◌, ℕ, zero, suc, ◌+◌, ◌-◌, ◌*◌, ◌<◌, List, [], ◌∷◌, ◌++◌, map, arith, ap, sym, ◌∙◌, Option}
use Rattle.std.specs.List.{range_with_len}
use Rattle.atomic_table.specs.Table.{Me}
use Rattle.lg_turn.specs.declared.keeps.Keeps.{Ghosts}
use Rattle.lg_turn.specs.declared.pass.Pass.{Pass}
use Rattle.lg_turn.specs.declared.view.View.{View}
use Rattle.lg_turn.specs.declared.view.Stage.TheVariants.{Idle}
use Rattle.lg_turn.specs.Views.{blank, drawing, number_in, view_of, base_in, seen_in, own_in, moves_in}
use Rattle.lg_turn.specs.Passes.{number_of, IsNew}
use Rattle.std.proofs.lemmas.List.{map-append}

-- one number more
pub range_with_len-more : (a n : ℕ) → range_with_len a (suc n) ≡ range_with_len a n ++ (a + n) ∷ []
range_with_len-more a zero = ap (λ (m : ℕ). m ∷ []) (omega arith)
range_with_len-more a (suc n) = ap (λ (l : List ℕ). a ∷ l) (range_with_len-more (a + 1) n ∙ ap (λ (m : ℕ). range_with_len (a + 1) n ++ m ∷ []) (omega arith))

pub numbers_more : (n : ℕ) → range_with_len 0 n ++ n ∷ [] ≡ range_with_len 0 (n + 1)
numbers_more n =
    let a : n ≡ 0 + n = omega arith in
    let b : suc n ≡ n + 1 = omega arith in
    ap (λ (m : ℕ). range_with_len 0 n ++ m ∷ []) a ∙ sym (range_with_len-more 0 n) ∙ ap (range_with_len 0) b

module _ (I : Type 0) {B : Type 0} (over : B) where
  -- the accounts that are left begin with the next one
  pub next_blank : (n callers : ℕ) → n < callers → map (blank {I = I} over) (range_with_len n (callers - n)) ≡ blank over n ∷ map (blank over) (range_with_len (n + 1) (callers - (n + 1)))
  next_blank n callers lt = let e : callers - n ≡ suc (callers - (n + 1)) = omega arith in ap (λ (m : ℕ). map (blank {I = I} over) (range_with_len n m)) e

  pub last_blank : (n callers : ℕ) → n + 1 ≡ callers → map (blank {I = I} over) (range_with_len n (callers - n)) ≡ blank over n ∷ []
  last_blank n callers is = let e : callers - n ≡ 1 = omega arith in ap (λ (m : ℕ). map (blank {I = I} over) (range_with_len n m)) e

module _ {V I B : Type 0} {G : Ghosts V I B} where
  -- a pass with a blank account is new
  pub new_pass : (over : B) (n : ℕ) (pass : Pass V I B G) → pass.seat.me ≡ (view_of (blank over n ∷ []) Idle, []) → IsNew over pass
  new_pass over n pass is = (
    ap (λ (me : Me (Option V) (View I B)). base_in me.0.accounts) is,
    ap (λ (me : Me (Option V) (View I B)). seen_in me.0.accounts) is,
    ap (λ (me : Me (Option V) (View I B)). own_in me.0.accounts) is,
    ap (λ (me : Me (Option V) (View I B)). moves_in me.0.accounts) is
        ∙ ap (λ (m : ℕ). drawing (m * 4294967297) ∷ []) (sym (ap (λ (me : Me (Option V) (View I B)). number_in me.0.accounts) is) ∙ pass.numbered),
    ap (λ (me : Me (Option V) (View I B)). me.0.stage) is,
  )

  -- and one more of them
  pub pushed_number : (passes passes' : List (Pass V I B G)) (pass : Pass V I B G) (n : ℕ) → passes' ≡ passes ++ pass ∷ [] → pass.number ≡ n → map number_of passes ≡ range_with_len 0 n → map number_of passes' ≡ range_with_len 0 (n + 1)
  pushed_number passes passes' pass n is own before =
      ap (map number_of) is ∙ map-append number_of passes (pass ∷ []) ∙ (λ i. before i ++ own i ∷ []) ∙ numbers_more n
