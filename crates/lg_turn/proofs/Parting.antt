-- A pass that is split off another keeps the rule.
use Rattle.std.proofs.Common.{◌≡◌, ℕ, ◌+◌, ◌<◌, List, [], ◌∷◌, ◌++◌, set, arith, ap, sym, refl, subst, ⊎_elim, Option, Bool, true, false, cond}
use Rattle.std.specs.Prelude.{◌==◌, nat_lt, if◌then◌else◌}
use Rattle.std.specs.List.{sum_by, All}
use Rattle.std.proofs.lemmas.List.Sums.{sum_by-cons, sum_by_push}
use Rattle.std.proofs.lemmas.List.Elements.{All-nil, All-cons, All-head}
use Rattle.atomic_table.specs.Table.{State, Splits}
use Rattle.atomic_table.proofs.Lists.{at_snoc}
use Rattle.lg_turn.specs.declared.view.Account.{Account}
use Rattle.lg_turn.specs.declared.view.View.{View}
use Rattle.lg_turn.specs.declared.view.Stage.TheVariants.{Idle, Enrols}
use Rattle.lg_turn.specs.Views.{account_of, view_of}
use Rattle.lg_turn.specs.Rule.{passes_of, with_number, out_of, undone_of, low_of, made_of, moves_of, values_of, tickets_of, with_ticket, Fits, Knows, IsKept}
use Rattle.lg_turn.specs.Steps.{kept, enrolled}
use Rattle.lg_turn.proofs.Sums.{sum_by_set, each_set}
use Rattle.lg_turn.proofs.Counts.{one_low}
use Rattle.lg_turn.proofs.Entries.{of_pass-none_before}
use Rattle.lg_turn.proofs.Told.{each_found_set, each_found_push, each_word_one}
use Rattle.lg_turn.proofs.Dealing.{with_views}

-- where there was room, the pass to come counts
given_room : (b c : Bool) → ◌≡◌ {A = ℕ} (cond c 1 0) 1 → ◌≡◌ {A = ℕ} (cond c (cond b 1 0) 0) (cond b 1 0)
given_room b true e = refl
given_room b false e = absurd (omega arith)

module _ {V I B : Type 0} (items : V → List I) (number : I → ℕ) (base : V → B) (callers : ℕ) (origin : B) where
  abbrev Rule : State (Option V) (View I B) → Type 0
  Rule = IsKept items number base callers origin

  pub parts : (id n out : ℕ) (a : Account I B) (rest : List (Account I B)) → out < callers → Splits Rule id (view_of (a ∷ rest) (Enrols n out)) (kept (view_of (a ∷ rest) (Enrols n out))) (enrolled (view_of (a ∷ rest) (Enrols n out)))
  parts id n out a rest room s k at =
      let v = view_of (a ∷ rest) (Enrols n out) in
      let l = view_of (a ∷ rest) Idle in
      let new = account_of n a.base a.seen [] [] in
      let r = view_of (new ∷ []) Idle in
      let P : View I B → Type 0 = Knows items number base origin k.list k.serving in
      let F : Account I B → Type 0 = Fits items number base origin k.list in
      let known = k.each_pass id v at in
      let mine = All-head F a rest known.fits in
      let place = one_low out callers room in
      let same : (f : View I B → ℕ) → f l + f r ≡ f v → sum_by f (set s.views id l ++ r ∷ []) ≡ sum_by f s.views = λ f e. omega (arith, sum_by_push f (set s.views id l) r, sum_by_set f s.views id v l at, e) in
      with_views items number base callers origin s k (set s.views id l ++ r ∷ [])
      (λ i u e. ⊎_elim
      (λ there. each_set (λ j x. P x) s.views id l record { fits = known.fits; stands = tt } (λ j x _ f. k.each_pass j x f) i u there)
      (λ is. subst P is record { fits = All-cons F new [] record { base_is = mine.base_is; begins = mine.begins; own_is = known.stands.1; own_seen = of_pass-none_before number n k.list a.seen mine.begins known.stands.1 } (All-nil F); stands = tt })
      (at_snoc (set s.views id l) r u i e))
      (omega (arith, same (passes_of callers) (omega (arith, place))))
      (λ m. let one : Account I B → ℕ = λ b. if b.number == m then 1 else 0 in omega (arith, same (with_number m) (omega (arith, sum_by-cons one new []))))
      (same out_of (omega arith))
      (same undone_of refl)
      (let one : Account I B → ℕ = λ b. if nat_lt b.number callers then 1 else 0 in
      let low_same : (b c : Bool) → cond c 1 0 ≡ 1 → cond b 1 0 ≡ cond b (cond c 1 0) 0 = λ b c e. ap (λ (m : ℕ). cond b m 0) (sym e) in
      omega (arith, same (low_of callers) (omega (arith, sum_by-cons one new [], low_same (nat_lt n callers) (nat_lt out callers) place))))
      (λ Q h. let M : Account I B → Type 0 = λ b. All (λ (m : ℕ × ℕ). Q m.0 × Q m.1) b.moves in
      each_found_push Q (set s.views id l) r (each_found_set Q s.views id l h (h id v at)) (each_word_one Q new (All-nil (λ (m : ℕ × ℕ). Q m.0 × Q m.1))))
      (λ m. let one : Account I B → ℕ = λ b. if b.number == m then 1 else 0 in
      omega (arith, same (made_of callers m) (omega (arith, sum_by-cons one new [], given_room (n == m) (nat_lt out callers) place))))
      (λ count. same (moves_of count) (omega (arith, sum_by-cons (λ (b : Account I B). sum_by count b.moves) new [])))
      (same values_of refl)
      (same tickets_of refl)
      (λ t. same (with_ticket t) refl)
