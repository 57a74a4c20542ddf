-- What a pass tells of a split that is refused: the drawing, and behind it what it takes back.
use Rattle.std.proofs.Common.{◌≡◌, ℕ, List, [], ◌∷◌, map, length, ap, sym, refl, ◌∙◌, subst, Option}
use Rattle.std.specs.List.{All}
use Rattle.std.proofs.lemmas.List.Elements.{All-nil, All-cons, All-head, All-tail}
use Rattle.atomic_table.specs.Table.{Me}
use Rattle.lg_turn.specs.declared.view.Account.{Account}
use Rattle.lg_turn.specs.declared.view.View.{View}
use Rattle.lg_turn.specs.declared.view.Stage.{Stage}
use Rattle.lg_turn.specs.Views.{drawing, releasing, moves_in, Precedes, MayFollow}
use Rattle.lg_turn.specs.Steps.{moved, HasMoved, HasReleased}
use Rattle.lg_turn.specs.Passes.{last_found, found_before_last}
use Rattle.lg_turn.proofs.One.{only_account}

module _ {I B : Type 0} where
  -- two moves on the roll, the second one behind the first
  abbrev MovedTwice : ℕ → List (Account I B) → List (Account I B) → Type 0
  MovedTwice excess old new =
      (moves_in new ≡ releasing excess (last_found (moves_in new)) ∷ drawing (found_before_last (moves_in new)) ∷ moves_in old)
      × MayFollow old (found_before_last (moves_in new))
      × MayFollow old (last_found (moves_in new))
      × Precedes (drawing (found_before_last (moves_in new))).1 (last_found (moves_in new))

  moved_twice : (excess found last : ℕ) (a : Account I B) → MayFollow (a ∷ []) found → MayFollow (moved (drawing found) a ∷ []) last → MovedTwice excess (a ∷ []) (moved (releasing excess last) (moved (drawing found) a) ∷ [])
  moved_twice excess found last a first next =
      let P : ℕ × ℕ → Type 0 = λ m. Precedes m.0 last × Precedes m.1 last in
      let Q : Account I B → Type 0 = λ c. All P c.moves in
      let all = All-head Q (moved (drawing found) a) [] next.1 in
      (refl, first, (next.0, All-cons Q a [] (All-tail P (drawing found) a.moves all) (All-nil Q)), (All-head P (drawing found) a.moves all).1)

  pub refused : {V : Type 0} (excess found last : ℕ) (stage : Stage) (me me' me'' : Me (Option V) (View I B)) → length me.0.accounts ≡ 1
      → MayFollow me.0.accounts found → HasMoved me (drawing found) stage me' → HasReleased excess me' last me'' → MovedTwice excess me.0.accounts me''.0.accounts
  refused {V} excess found last stage me me' me'' one first drew released =
      let only = only_account me.0.accounts one in
      let is : me'.0.accounts ≡ moved (drawing found) only.0 ∷ [] = ap (λ (m : Me (Option V) (View I B)). m.0.accounts) drew ∙ ap (map (moved (drawing found))) only.1 in
      let is' : me''.0.accounts ≡ moved (releasing excess last) (moved (drawing found) only.0) ∷ [] = ap (λ (m : Me (Option V) (View I B)). m.0.accounts) released.0 ∙ ap (map (moved (releasing excess last))) is in
      subst (λ (z : List (Account I B) × List (Account I B)). MovedTwice excess z.0 z.1) (λ i. (sym only.1 i, sym is' i))
      (moved_twice excess found last only.0 (subst (λ (l : List (Account I B)). MayFollow l found) only.1 first) (subst (λ (l : List (Account I B)). MayFollow l last) is released.1))
