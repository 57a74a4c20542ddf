-- Passes that come together at the end.
use Rattle.std.proofs.Common.{◌≡◌, ℕ, ◌<◌, ◌≤◌, List, [], ◌∷◌, ◌++◌, length, length-append, arith, ap, sym, refl, ◌∙◌, subst, Option, Some}
use Rattle.std.specs.Prelude.{nat_lt, if◌then◌else◌}
use Rattle.std.specs.List.{All, flat_map, sum_by}
use Rattle.std.proofs.lemmas.List.Sums.{sum_by-append}
use Rattle.std.proofs.lemmas.List.{append-nil}
use Rattle.std.proofs.lemmas.List.Concat.{flat_map-cons}
use Rattle.std.proofs.lemmas.Grind.{flat_map-append}
use Rattle.std.proofs.lemmas.List.Elements.{All-nil, All-cons, All-head, All-tail, All-weaker}
use Rattle.atomic_table.specs.Table.{Me, Joins}
use Rattle.lg_turn.specs.declared.keeps.Keeps.{Ghosts}
use Rattle.lg_turn.specs.declared.pass.Pass.{Pass}
use Rattle.lg_turn.specs.declared.view.Account.{Account}
use Rattle.lg_turn.specs.declared.view.View.{View}
use Rattle.lg_turn.specs.declared.view.Stage.TheVariants.{Idle}
use Rattle.lg_turn.specs.Views.{BeginsWith, of_pass, view_of, number_in, base_in, seen_in, own_in}
use Rattle.lg_turn.specs.Rule.{Fits, IsKept, passes_of, value_count}
use Rattle.lg_turn.specs.Closings.{Ends}
use Rattle.lg_turn.specs.Steps.{put_together, spent}
use Rattle.lg_turn.specs.Passes.{accounts_of, number_of, base_of, seen_by, own_of, IsAway}
use Rattle.lg_turn.proofs.One.{away_carries}
use Rattle.lg_turn.proofs.Dealing.{collects}
use Rattle.lg_turn.proofs.Counts.{one_low}

module _ {I B : Type 0} (F : Account I B → Type 0) where
  -- the one account of the first pass, and those of the others
  first_fits : (accounts rest : List (Account I B)) → length accounts ≡ 1 → All F (accounts ++ rest) → ((a : Account I B) × (accounts ≡ a ∷ []) × F a) × All F rest
  first_fits [] rest h all = absurd (omega arith)
  first_fits (a ∷ []) rest h all = ((a, refl, All-head F a rest all), All-tail F a rest all)
  first_fits (a ∷ b ∷ more) rest h all = absurd (omega arith)

module _ {I B : Type 0} (callers : ℕ) where
  abbrev low : Account I B → ℕ
  low a = if nat_lt a.number callers then 1 else 0

  low_one : (accounts : List (Account I B)) (n : ℕ) → length accounts ≡ 1 → number_in accounts ≡ n → n < callers → sum_by low accounts ≡ 1
  low_one [] n one is h = absurd (omega arith)
  low_one (a ∷ []) n one is h = omega (arith, one_low a.number callers (omega (arith, is)))
  low_one (a ∷ b ∷ more) n one is h = absurd (omega arith)

module _ {V I B : Type 0} (items : V → List I) (number : I → ℕ) (base : V → B) (callers : ℕ) (origin : B) where
  -- what one more pass asks
  pub joins : (id other : ℕ) (me me' : Me (Option V) (View I B)) (accounts accounts' : List (Account I B)) → me ≡ (view_of accounts Idle, []) → me' ≡ (view_of accounts' Idle, [])
      → Joins (IsKept items number base callers origin) id me.0 other me'.0 (put_together me.0 me'.0) spent
  joins id other me me' accounts accounts' is is' = subst
      (λ (z : Me (Option V) (View I B) × Me (Option V) (View I B)). Joins (IsKept items number base callers origin) id z.0.0 other z.1.0 (put_together z.0.0 z.1.0) spent)
      (λ i. (sym is i, sym is' i))
      (collects items number base callers origin id other accounts accounts')

module _ {V I B : Type 0} {G : Ghosts V I B} where
  -- what a pass that is away knows and carries
  pub away_me : (p : Pass V I B G) → IsAway p → p.seat.me ≡ (view_of (accounts_of p) Idle, [])
  away_me p away = let carries = away_carries p.seat.me.0.stage p.seat.me.1 p.settled away in λ i. (view_of (accounts_of p) (away i), carries i)

  -- the accounts without those of the last pass
  pub flat_map-pop : (passes rest : List (Pass V I B G)) (p : Pass V I B G) → passes ≡ rest ++ p ∷ [] → flat_map accounts_of rest ++ accounts_of p ≡ flat_map accounts_of passes
  flat_map-pop passes rest p is = sym (ap (flat_map accounts_of) is ∙ flat_map-append accounts_of rest (p ∷ []) ∙ ap (λ (l : List (Account I B)). flat_map accounts_of rest ++ l) (flat_map-cons accounts_of p [] ∙ append-nil (accounts_of p)))

  -- a pass has one account
  length-accounts : (passes : List (Pass V I B G)) → length (flat_map accounts_of passes) ≡ length passes
  length-accounts [] = refl
  length-accounts (p ∷ rest) = ap length (flat_map-cons accounts_of p rest) ∙ omega (arith, length-append (accounts_of p) (flat_map accounts_of rest), p.one, length-accounts rest)

  each_fits : (F : Account I B → Type 0) (passes : List (Pass V I B G)) → All F (flat_map accounts_of passes) → All (λ (p : Pass V I B G). (a : Account I B) × (accounts_of p ≡ a ∷ []) × F a) passes
  each_fits F [] all = All-nil (λ (p : Pass V I B G). (a : Account I B) × (accounts_of p ≡ a ∷ []) × F a)
  each_fits F (p ∷ rest) all =
      let both = first_fits F (accounts_of p) (flat_map accounts_of rest) p.one (subst (All F) (flat_map-cons accounts_of p rest) all) in
      All-cons (λ (q : Pass V I B G). (a : Account I B) × (accounts_of q ≡ a ∷ []) × F a) p rest both.0 (each_fits F rest both.1)

  -- where each pass has a number below callers, as many accounts have one as there are passes
  low-accounts : (callers : ℕ) (passes : List (Pass V I B G)) → All (λ (p : Pass V I B G). number_of p < callers) passes → sum_by (low callers) (flat_map accounts_of passes) ≡ length passes
  low-accounts callers [] all = refl
  low-accounts callers (p ∷ rest) all =
      let P : Pass V I B G → Type 0 = λ q. number_of q < callers in
      let here : p.number < callers = All-head P p rest all in
      ap (sum_by (low callers)) (flat_map-cons accounts_of p rest)
      ∙ omega (arith, sum_by-append (low callers) (accounts_of p) (flat_map accounts_of rest), low_one callers (accounts_of p) p.number p.one p.numbered here, low-accounts callers rest (All-tail P p rest all))

  module _ (items : V → List I) (number : I → ℕ) (base : V → B) (callers : ℕ) (origin : B) where
    -- what is true of the value at the end, and of each pass
    pub record Closes (passes : List (Pass V I B G)) (value : V) : Type 0 where
      pub base_is : base value ≡ origin
      pub bases : All (λ (p : Pass V I B G). base_of p ≡ Some (base value)) passes
      pub begins : All (λ (p : Pass V I B G). BeginsWith (items value) (seen_by p)) passes
      pub numbers : All (λ (p : Pass V I B G). number_of p < callers) passes → All (λ e. number e < callers) (items value)
      pub own : All (λ (p : Pass V I B G). of_pass number (number_of p) (items value) ≡ own_of p) passes

    pub ended : (passes : List (Pass V I B G)) (value : V) → length passes ≡ callers → Ends items number base callers origin (view_of (flat_map accounts_of passes) Idle) value → Closes passes value
    ended passes value all_there e =
        let Has : Pass V I B G → Type 0 = λ p. (a : Account I B) × (accounts_of p ≡ a ∷ []) × Fits items number base origin (items value) a in
        let each = each_fits (Fits items number base origin (items value)) passes e.fits in record {
          base_is = e.base_is;
          bases = All-weaker Has (λ (p : Pass V I B G). base_of p ≡ Some (base value)) (λ p f. ap base_in f.1 ∙ ap Some (f.2.base_is ∙ sym e.base_is)) passes each;
          begins = All-weaker Has (λ (p : Pass V I B G). BeginsWith (items value) (seen_by p)) (λ p f. (f.2.begins.0, f.2.begins.1 ∙ ap (λ (l : List I). l ++ f.2.begins.0) (sym (ap seen_in f.1)))) passes each;
          numbers = λ lows. e.whole (omega (arith, low-accounts callers passes lows, all_there));
          own = All-weaker Has (λ (p : Pass V I B G). of_pass number (number_of p) (items value) ≡ own_of p)
              (λ p f. ap (λ (n : ℕ). of_pass number n (items value)) (sym p.numbered ∙ ap number_in f.1) ∙ f.2.own_is ∙ sym (ap own_in f.1)) passes each;
        }

    -- the passes take up all places
    pub all_places : (me : Me (Option V) (View I B)) (passes : List (Pass V I B G)) → length passes ≡ callers → me ≡ (view_of (flat_map accounts_of passes) Idle, []) → (callers ≤ passes_of callers me.0) × (value_count me.0.stage ≡ 0)
    all_places me passes all_there is = subst
        (λ (m : Me (Option V) (View I B)). (callers ≤ passes_of callers m.0) × (value_count m.0.stage ≡ 0))
        (sym is)
        (omega (arith, length-accounts passes, all_there), refl)
