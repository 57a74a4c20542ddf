-- The end of a turn of which one pass is out.
use Rattle.std.proofs.Common.{◌≡◌, ℕ, List, [], ◌++◌, map, length, ap, sym, ◌∙◌, subst, Option}
use Rattle.std.specs.List.{All}
use Rattle.std.proofs.lemmas.List.Elements.{All-head}
use Rattle.atomic_table.specs.Table.{Me}
use Rattle.lg_turn.specs.declared.view.View.{View}
use Rattle.lg_turn.specs.declared.view.Stage.TheVariants.{Alone}
use Rattle.lg_turn.specs.Views.{looking, BeginsWith, of_pass, number_in, seen_in, own_in}
use Rattle.lg_turn.specs.Rule.{Fits}
use Rattle.lg_turn.specs.Steps.{moved, HasMoved}
use Rattle.lg_turn.specs.Closings.{Ends}
use Rattle.lg_turn.proofs.One.{only_account}

module _ {V I B : Type 0} (items : V → List I) (number : I → ℕ) (base : V → B) (callers : ℕ) (origin : B) where
  pub ended_alone : (found n : ℕ) (me me' : Me (Option V) (View I B)) (value : V) → length me.0.accounts ≡ 1 → number_in me.0.accounts ≡ n → HasMoved me (looking found) Alone me' → Ends items number base callers origin me'.0 value
      → BeginsWith (items value) (seen_in me.0.accounts) × (of_pass number n (items value) ≡ own_in me.0.accounts)
  ended_alone found n me me' value one numbered has end =
      let only = only_account me.0.accounts one in
      let F = Fits items number base origin (items value) in
      let accounts = ap (λ (m : Me (Option V) (View I B)). m.0.accounts) has ∙ ap (map (moved (looking found))) only.1 in
      let f = All-head F (moved (looking found) only.0) [] (subst (All F) accounts end.fits) in (
        (f.begins.0, f.begins.1 ∙ ap (λ (l : List I). l ++ f.begins.0) (sym (ap seen_in only.1))),
        ap (λ (m : ℕ). of_pass number m (items value)) (sym numbered ∙ ap number_in only.1) ∙ f.own_is ∙ sym (ap own_in only.1),
      )
