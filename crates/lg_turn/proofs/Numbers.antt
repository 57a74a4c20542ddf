-- What the roll says of passes and of their numbers.
use Rattle.std.proofs.Common.{◌≡◌, ℕ, ◌+◌, ◌*◌, ◌<◌, ◌≤◌, List, [], ◌∷◌, ◌≢◌, length, refl, get_or, arith, ap, ◌∙◌, Option}
use mathlib.Core.Option.{some}
use mathlib.Core.Logic.{dite}
use native.Mathlib.Decide.{ℕ_discrete, dec_lt}
use lib.ListN.{get_elem?}
use Rattle.std.specs.List.{sum_by, All}
use Rattle.std.proofs.lemmas.List.Elements.{All-weaker}
use Rattle.atomic_table.specs.Table.{State}
use Rattle.lg_turn.specs.declared.view.Account.{Account}
use Rattle.lg_turn.specs.declared.view.View.{View}
use Rattle.lg_turn.specs.declared.view.Stage.{Stage}
use Rattle.lg_turn.specs.declared.view.Stage.TheVariants.{Idle, Waits, Holds, Enrols, Undoes, Alone}
use Rattle.lg_turn.specs.Views.{drawn_in, out_in}
use Rattle.lg_turn.specs.Rule.{passes_of, place_count, with_number, out_of, undone_of, Stands, IsKept}
use Rattle.lg_turn.proofs.Parts.{entered_below}
use Rattle.lg_turn.proofs.Sums.{part-le-sum_by, two_parts-le-sum_by, sum_by-le-sum_by}
use Rattle.lg_turn.proofs.Rolls.{upper_half, lower_half, outs_few}

module _ {V I B : Type 0} (items : V → List I) (number : I → ℕ) (base : V → B) (callers : ℕ) (origin : B) (s : State (Option V) (View I B)) where
  found_is : (k : IsKept items number base callers origin s) → get_or s.words 2 0 ≡ (k.next + sum_by undone_of s.views) * 4294967296 + sum_by out_of s.views
  found_is k = ap (λ (l : List ℕ). get_or l 2 0) k.words ∙ k.roll.counted

  pub drawn_is : (k : IsKept items number base callers origin s) → drawn_in (get_or s.words 2 0) ≡ k.next + sum_by undone_of s.views
  drawn_is k = upper_half (get_or s.words 2 0) (k.next + sum_by undone_of s.views) (sum_by out_of s.views) (found_is k) (omega (arith, outs_few items number base callers origin s k))

  pub roll_counts : IsKept items number base callers origin s → out_in (get_or s.words 2 0) ≡ sum_by out_of s.views
  roll_counts k = lower_half (get_or s.words 2 0) (k.next + sum_by undone_of s.views) (sum_by out_of s.views) (found_is k) (omega (arith, outs_few items number base callers origin s k))

  pub next_new : (i n : ℕ) (v : View I B) → IsKept items number base callers origin s → get_elem? s.views i ≡ some v → 0 < with_number n v → n < drawn_in (get_or s.words 2 0)
  next_new i n v k at has =
      let part = part-le-sum_by (with_number n) s.views i v at in
      let small : n < k.next = dite (dec_lt n k.next) (λ h. h) (λ h. let z = (k.roll.numbers n).1 (omega (arith, h)) in absurd (omega (arith, z, part, has))) in
      omega (arith, small, drawn_is k)

  pub next_unentered : (k : IsKept items number base callers origin s) → All (λ e. number e < drawn_in (get_or s.words 2 0)) k.list
  next_unentered k = All-weaker (λ e. number e < k.next) (λ e. number e < drawn_in (get_or s.words 2 0)) (λ e h. omega (arith, h, drawn_is k)) k.list (entered_below items number base callers k.list k.made k.next k.word s.views k.roll)

  pub number_once : (i j n : ℕ) (v w : View I B) → IsKept items number base callers origin s → get_elem? s.views i ≡ some v → 0 < with_number n v → get_elem? s.views j ≡ some w → 0 < with_number n w → i ≡ j
  number_once i j n v w k at has at' has' =
      let most = (k.roll.numbers n).0 in
      dite (ℕ_discrete i j) (λ same. same) (λ other. let two = two_parts-le-sum_by (with_number n) s.views i j v w other at at' in absurd (omega (arith, two, most, has, has')))

  pub passes_few : IsKept items number base callers origin s → sum_by (λ (v : View I B). length v.accounts) s.views ≤ callers
  passes_few k = let most = k.roll.passes in omega (arith, most, sum_by-le-sum_by (λ (v : View I B). length v.accounts) (passes_of callers) s.views (λ i v e. omega arith))

  empty : {X : Type 0} (xs : List X) → length xs ≡ 0 → xs ≡ []
  empty [] h = refl
  empty (x ∷ xs) h = absurd (omega arith)

  pub no_other : (i j : ℕ) (v w : View I B) → IsKept items number base callers origin s → get_elem? s.views i ≡ some v → callers ≤ passes_of callers v → get_elem? s.views j ≡ some w → i ≢ j → w.accounts ≡ []
  no_other i j v w k at all at' apart =
      let two = two_parts-le-sum_by (passes_of callers) s.views i j v w apart at at' in
      let most = k.roll.passes in
      empty w.accounts (omega (arith, two, most, all))

  lone_takes_all : (list : List I) (serving : ℕ) (accounts : List (Account I B)) (stage : Stage) → Stands items number base list serving accounts stage → stage ≡ Alone → callers ≤ length accounts + place_count callers stage
  lone_takes_all list serving accounts Idle h e = absurd (cc)
  lone_takes_all list serving accounts (Waits t) h e = absurd (cc)
  lone_takes_all list serving accounts (Holds t) h e = absurd (cc)
  lone_takes_all list serving accounts (Enrols n out) h e = absurd (cc)
  lone_takes_all list serving accounts Undoes h e = absurd (cc)
  lone_takes_all list serving accounts Alone h e = omega arith

  pub no_other_beside : (i j : ℕ) (v w : View I B) → IsKept items number base callers origin s → get_elem? s.views i ≡ some v → v.stage ≡ Alone → get_elem? s.views j ≡ some w → i ≢ j → w.accounts ≡ []
  no_other_beside i j v w k at lone at' apart = no_other i j v w k at (lone_takes_all k.list k.serving v.accounts v.stage (k.each_pass i v at).stands lone) at' apart
