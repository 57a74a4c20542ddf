-- Where one seat answers for all passes, and is away, the value is at home.
use Rattle.std.proofs.Common.{◌≡◌, ℕ, ◌<◌, ◌≤◌, List, length, arith, ap, sym, ◌∙◌, subst, ⊎_elim, Option, Some}
use mathlib.Core.Option.{Option as Maybe, some, some-injective}
use mathlib.Core.Logic.{dite}
use native.Mathlib.Decide.{ℕ_discrete, dec_le}
use lib.ListN.{get_elem?}
use Rattle.std.specs.List.{sum_by, All}
use Rattle.atomic_table.specs.Table.{State, Final, Seen}
use Rattle.lg_turn.specs.declared.view.Account.{Account}
use Rattle.lg_turn.specs.declared.view.View.{View}
use Rattle.lg_turn.specs.declared.view.Stage.{Stage}
use Rattle.lg_turn.specs.declared.view.Stage.TheVariants.{Idle, Waits, Holds, Enrols, Undoes, Alone}
use Rattle.lg_turn.specs.Rule.{passes_of, low_of, values_of, value_count, Stands, Fits, IsKept}
use Rattle.lg_turn.specs.Closings.{Ends}
use Rattle.lg_turn.proofs.Parts.{entered_low}
use Rattle.lg_turn.proofs.Sums.{part-le-sum_by, two_parts-le-sum_by, some_part}

module _ {V I B : Type 0} (items : V → List I) (number : I → ℕ) (base : V → B) where
  holder_is_pass : (list : List I) (serving : ℕ) (accounts : List (Account I B)) (stage : Stage) → Stands items number base list serving accounts stage → 0 < value_count stage → 0 < length accounts
  holder_is_pass list serving accounts Idle h out = absurd (omega arith)
  holder_is_pass list serving accounts (Waits t) h out = h
  holder_is_pass list serving accounts (Holds t) h out = h.0
  holder_is_pass list serving accounts (Enrols n o) h out = h.0
  holder_is_pass list serving accounts Undoes h out = h
  holder_is_pass list serving accounts Alone h out = h

  module _ (callers : ℕ) (origin : B) (id : ℕ) (v : View I B) (all_there : callers ≤ passes_of callers v) (without : values_of v ≡ 0) where
    nobody_holds : (s : State (Option V) (View I B)) (k : IsKept items number base callers origin s) → get_elem? s.views id ≡ some v → sum_by values_of s.views ≡ 0
    nobody_holds s k at = dite (dec_le (sum_by values_of s.views) 0) (λ z. omega arith) (λ some_out.
        let h = some_part values_of s.views (omega arith) in
        let pass = holder_is_pass k.list k.serving h.1.accounts h.1.stage (k.each_pass h.0 h.1 h.2).stands h.3 in
        dite (ℕ_discrete id h.0)
        (λ same. let z : values_of h.1 ≡ 0 = ap values_of (sym (some-injective v h.1 (sym at ∙ ap (get_elem? s.views) same ∙ h.2))) ∙ without in let out = h.3 in absurd (omega arith))
        (λ other. let two = two_parts-le-sum_by (passes_of callers) s.views id h.0 v h.1 other at h.2 in let most = k.roll.passes in absurd (omega arith)))

    pub closes : (words : List ℕ) (slots : List (Option V)) → Final (Seen (IsKept items number base callers origin) id v) words slots
        → (value : V) × (get_elem? slots 0 ≡ some (Some value)) × Ends items number base callers origin v value
    closes words slots last =
        let s = last.0 in
        let k = last.1.0 in
        let at = last.1.1 in
        let quiet = nobody_holds s k at in
        ⊎_elim
        (λ home. (
          home.0,
          last.4 0 (Some home.0) (ap (λ (hs : List (Maybe (Option V))). get_elem? hs 0) home.1),
          record {
            base_is = home.3;
            fits = subst (λ (l : List I). All (Fits items number base origin l) v.accounts) (sym home.2) (k.each_pass id v at).fits;
            whole = λ h. subst (All (λ e. number e < callers)) (sym home.2) (entered_low items number base callers k.list k.made k.next k.word s.views k.roll (let part = part-le-sum_by (low_of callers) s.views id v at in omega (arith, part, h)));
          },
        ))
        (λ out. let one = out.1 in absurd (omega arith))
        k.slot

    -- the value that came out of the closed table
    pub closed : (words : List ℕ) (slots : List (Option V)) (taken : Option V) → Final (Seen (IsKept items number base callers origin) id v) words slots → get_elem? slots 0 ≡ some taken
        → (value : V) × (taken ≡ Some value) × Ends items number base callers origin v value
    closed words slots taken last there = let end = closes words slots last in (end.0, some-injective taken (Some end.0) (sym there ∙ end.1), end.2)

    pub closed_as : (words : List ℕ) (slots : List (Option V)) (taken : Option V) (value : V) → Final (Seen (IsKept items number base callers origin) id v) words slots → get_elem? slots 0 ≡ some taken
        → taken ≡ Some value → Ends items number base callers origin v value
    closed_as words slots taken value last there out =
        let end = closed words slots taken last there in
        let both : Some end.0 ≡ Some value = sym end.1 ∙ out in
        let same : end.0 ≡ value = cc in
        subst (Ends items number base callers origin v) same end.2
