-- Who has all passes tells of all moves on the roll, so no word but the roll's own may follow on them.
use Rattle.std.proofs.Common.{◌≡◌, ◌≢◌, ℕ, ◌<◌, ◌≤◌, List, [], ◌∷◌, get_or, arith, ap, sym, ◌∙◌, subst, Option}
use mathlib.Core.Option.{some, some-injective}
use mathlib.Core.Logic.{dite}
use native.Mathlib.Decide.{ℕ_discrete, dec_lt, dec_le}
use lib.ListN.{get_elem?}
use Rattle.std.specs.List.{sum_by, All}
use Rattle.std.proofs.lemmas.List.Sums.{sum_by-cons}
use Rattle.std.proofs.lemmas.List.Elements.{All-head, All-tail}
use Rattle.atomic_table.specs.Table.{State}
use Rattle.lg_turn.specs.declared.view.Account.{Account}
use Rattle.lg_turn.specs.declared.view.View.{View}
use Rattle.lg_turn.specs.Views.{drawn_in, out_in, gone_in, rise_count, Precedes, MayFollow}
use Rattle.lg_turn.specs.Rule.{moves_of, IsKept}
use Rattle.lg_turn.proofs.Sums.{some_part}
use Rattle.lg_turn.proofs.Counts.{one_low, no_rise, no_rise_here}
use Rattle.lg_turn.proofs.Numbers.{drawn_is, roll_counts}

-- where some part of a sum is not 0, what holds of each holds of one such
some_counted : {X : Type 0} (P : X → Type 0) (f : X → ℕ) (xs : List X) → All P xs → 0 < sum_by f xs → (x : X) × P x × (0 < f x)
some_counted P f [] all h = absurd (omega arith)
some_counted P f (x ∷ xs) all h = dite (dec_le (f x) 0)
    (λ z. some_counted P f xs (All-tail P x xs all) (omega (arith, sum_by-cons f x xs)))
    (λ n. (x, All-head P x xs all, omega arith))

risen : (tally : ℕ → ℕ) (n : ℕ) (move : ℕ × ℕ) → 0 < rise_count tally n move → n < tally move.1
risen tally n move h = dite (dec_lt (tally move.0) (tally move.1))
    (λ up. dite (ℕ_discrete (tally move.0) n)
    (λ same. omega (arith, up, same))
    (λ other. let none = no_rise_here tally n move other in absurd (omega (arith, none, h))))
    (λ down. let none = no_rise tally n move (omega (arith, down)) in absurd (omega (arith, none, h)))

module _ {V I B : Type 0} (items : V → List I) (number : I → ℕ) (base : V → B) (callers : ℕ) (origin : B) (s : State (Option V) (View I B)) (i word : ℕ) (v : View I B) where
  -- a move that is told of lies before the word
  told : get_elem? s.views i ≡ some v → ((j : ℕ) (w : View I B) → get_elem? s.views j ≡ some w → i ≢ j → w.accounts ≡ []) → MayFollow v.accounts word
      → (tally : ℕ → ℕ) (n : ℕ) → sum_by (moves_of (rise_count tally n)) s.views ≡ 1 → (move : ℕ × ℕ) × Precedes move.1 word × (n < tally move.1)
  told at others follows tally n one =
      let rise : ℕ × ℕ → ℕ = rise_count tally n in
      let P : ℕ × ℕ → Type 0 = λ m. Precedes m.0 word × Precedes m.1 word in
      let Q : Account I B → Type 0 = λ a. All P a.moves in
      let rises : Account I B → ℕ = λ a. sum_by rise a.moves in
      let h = some_part (moves_of rise) s.views (omega (arith, one)) in
      dite (ℕ_discrete i h.0)
      (λ same.
      let is : v ≡ h.1 = some-injective v h.1 (sym at ∙ ap (get_elem? s.views) same ∙ h.2) in
      let a = some_counted Q rises h.1.accounts (subst (λ (u : View I B). All Q u.accounts) is follows.1) h.3 in
      let m = some_counted P rise a.0.moves a.1 a.2 in
      (m.0, m.1.1, risen tally n m.0 m.2))
      (λ other.
      let none : moves_of rise h.1 ≡ 0 = ap (sum_by rises) (others h.0 h.1 h.2 other) in
      let some_rise = h.3 in absurd (omega (arith, none, some_rise)))

  pub finds_the_roll : IsKept items number base callers origin s → get_elem? s.views i ≡ some v → ((j : ℕ) (w : View I B) → get_elem? s.views j ≡ some w → i ≢ j → w.accounts ≡ [])
      → MayFollow v.accounts word → Precedes word (get_or s.words 2 0) → drawn_in (get_or s.words 2 0) < 4294967168 → out_in word ≡ out_in (get_or s.words 2 0)
  finds_the_roll k at others follows before left =
      let roll_is : get_or s.words 2 0 ≡ k.word = ap (λ (l : List ℕ). get_or l 2 0) k.words in
      let fit = follows.0 in
      let fewer = k.roll.fewer in
      let all_gone : gone_in k.word ≤ gone_in word = dite (dec_le (gone_in k.word) (gone_in word)) (λ h. h) (λ h.
      let t = told at others follows gone_in (gone_in word) (k.roll.gone (gone_in word) ∙ one_low (gone_in word) (gone_in k.word) (omega (arith, h))) in
      let behind = t.1.1 in let above = t.2 in absurd (omega (arith, behind, above))) in
      let all_drawn : drawn_in k.word ≤ drawn_in word = dite (dec_le (drawn_in k.word) (drawn_in word)) (λ h. h) (λ h.
      let small : drawn_in word < 4294967168 = omega (arith, h, left, roll_is) in
      let t = told at others follows drawn_in (drawn_in word) (k.roll.drawn (drawn_in word) small ∙ one_low (drawn_in word) (drawn_in k.word) (omega (arith, h))) in
      let behind = t.1.0 small in let above = t.2 in absurd (omega (arith, behind, above))) in
      let drawn_up = before.0 left in
      let gone_up = before.1 in
      let drawn = drawn_is items number base callers origin s k in
      let out = roll_counts items number base callers origin s k in
      omega (arith, all_gone, all_drawn, drawn_up, gone_up, fit, fewer, drawn, out, roll_is)
