-- Passes that are cut off a seat, or put together in one, keep the rule.
use Rattle.std.proofs.Common.{◌≡◌, ◌≢◌, ℕ, ◌+◌, ◌≤◌, List, [], ◌∷◌, ◌++◌, length-append, set, arith, ap, sym, refl, ◌∙◌, subst, ⊎_elim, Option}
use mathlib.Core.Option.{some}
use lib.ListN.{get_elem?}
use Rattle.std.specs.Prelude.{◌==◌, nat_lt, if◌then◌else◌}
use Rattle.std.specs.List.{sum_by, All}
use Rattle.std.proofs.lemmas.List.Sums.{sum_by-cons, sum_by-append, sum_by_push}
use Rattle.std.proofs.lemmas.List.Elements.{All-nil, All-cons, All-head, All-tail, All-append}
use Rattle.atomic_table.specs.Table.{State, Splits, Joins}
use Rattle.atomic_table.proofs.Lists.{at_set, at_snoc}
use Rattle.lg_turn.specs.declared.view.Account.{Account}
use Rattle.lg_turn.specs.declared.view.View.{View}
use Rattle.lg_turn.specs.declared.view.Stage.TheVariants.{Idle}
use Rattle.lg_turn.specs.Views.{view_of}
use Rattle.lg_turn.specs.Rule.{passes_of, with_number, out_of, undone_of, low_of, made_of, moves_of, values_of, tickets_of, with_ticket, EachFound, Slot, Fits, Knows, IsKept}
use Rattle.lg_turn.specs.Steps.{cut_off, left_over, put_together, spent}
use Rattle.lg_turn.proofs.Sums.{sum_by_set, each_set}
use Rattle.lg_turn.proofs.Told.{each_found_set, each_found_push, each_word_one}
use Rattle.lg_turn.proofs.Parts.{roll_on}

module _ {V I B : Type 0} (items : V → List I) (number : I → ℕ) (base : V → B) (callers : ℕ) (origin : B) where
  abbrev Rule : State (Option V) (View I B) → Type 0
  Rule = IsKept items number base callers origin

  -- the rule holds of other views, where each knows what is true, as much is out, and no more passes are there
  pub with_views : (s : State (Option V) (View I B)) (k : Rule s) (views : List (View I B)) → ((i : ℕ) (v : View I B) → get_elem? views i ≡ some v → Knows items number base origin k.list k.serving v)
      → sum_by (passes_of callers) views ≤ sum_by (passes_of callers) s.views → ((n : ℕ) → sum_by (with_number n) views ≤ sum_by (with_number n) s.views)
      → sum_by out_of views ≡ sum_by out_of s.views → sum_by undone_of views ≡ sum_by undone_of s.views → sum_by (low_of callers) views ≤ sum_by (low_of callers) s.views → ((P : ℕ → Type 0) → EachFound P s.views → EachFound P views) → ((n : ℕ) → sum_by (made_of callers n) views ≤ sum_by (made_of callers n) s.views) → ((count : ℕ × ℕ → ℕ) → sum_by (moves_of count) views ≡ sum_by (moves_of count) s.views)
      → sum_by values_of views ≡ sum_by values_of s.views → sum_by tickets_of views ≡ sum_by tickets_of s.views → ((t : ℕ) → sum_by (with_ticket t) views ≡ sum_by (with_ticket t) s.views)
      → Rule record { words = s.words; homes = s.homes; views = views }
  with_views s k views known passes_less numbers_less out_same undone_same low_less found_same made_less moves_same values_same tickets_same apart_same = record {
    list = k.list;
    serving = k.serving;
    ticket = k.ticket;
    made = k.made;
    next = k.next;
    word = k.word;
    words = k.words;
    slot = subst (Slot items number base origin k.list s.homes) (sym values_same) k.slot;
    each_pass = known;
    few = k.few;
    roll = roll_on items number base callers k.list k.made k.next k.word s.views views k.roll passes_less numbers_less out_same undone_same low_less found_same made_less moves_same;
    drawn = ap (λ (n : ℕ). k.serving + n) tickets_same ∙ k.drawn;
    apart = λ t. let e = apart_same t in let once = k.apart t in (omega (arith, e, once.0), (λ h. e ∙ once.1 h), λ h. e ∙ once.2 h);
  }

  pub deals : (id : ℕ) (a : Account I B) (rest : List (Account I B)) → Splits Rule id (view_of (a ∷ rest) Idle) (left_over (view_of (a ∷ rest) Idle)) (cut_off (view_of (a ∷ rest) Idle))
  deals id a rest s k at =
      let v = view_of (a ∷ rest) Idle in
      let l = view_of rest Idle in
      let r = view_of (a ∷ []) Idle in
      let P : View I B → Type 0 = Knows items number base origin k.list k.serving in
      let F : Account I B → Type 0 = Fits items number base origin k.list in
      let fits = (k.each_pass id v at).fits in
      let same : (f : View I B → ℕ) → f l + f r ≡ f v → sum_by f (set s.views id l ++ r ∷ []) ≡ sum_by f s.views = λ f e. omega (arith, sum_by_push f (set s.views id l) r, sum_by_set f s.views id v l at, e) in
      with_views s k (set s.views id l ++ r ∷ [])
      (λ i u e. ⊎_elim
      (λ there. each_set (λ j x. P x) s.views id l record { fits = All-tail F a rest fits; stands = tt } (λ j x _ f. k.each_pass j x f) i u there)
      (λ is. subst P is record { fits = All-cons F a [] (All-head F a rest fits) (All-nil F); stands = tt })
      (at_snoc (set s.views id l) r u i e))
      (omega (arith, same (passes_of callers) (omega arith)))
      (λ n. let one : Account I B → ℕ = λ b. if b.number == n then 1 else 0 in omega (arith, same (with_number n) (omega (arith, sum_by-cons one a rest, sum_by-cons one a []))))
      (same out_of (omega arith))
      (same undone_of refl)
      (let one : Account I B → ℕ = λ b. if nat_lt b.number callers then 1 else 0 in omega (arith, same (low_of callers) (omega (arith, sum_by-cons one a rest, sum_by-cons one a []))))
      (λ Q h. let M : Account I B → Type 0 = λ b. All (λ (m : ℕ × ℕ). Q m.0 × Q m.1) b.moves in
      each_found_push Q (set s.views id l) r (each_found_set Q s.views id l h (All-tail M a rest (h id v at))) (each_word_one Q a (All-head M a rest (h id v at))))
      (λ n. let one : Account I B → ℕ = λ b. if b.number == n then 1 else 0 in omega (arith, same (made_of callers n) (omega (arith, sum_by-cons one a rest, sum_by-cons one a []))))
      (λ count. let moves : Account I B → ℕ = λ b. sum_by count b.moves in same (moves_of count) (omega (arith, sum_by-cons moves a rest, sum_by-cons moves a [])))
      (same values_of refl)
      (same tickets_of refl)
      (λ t. same (with_ticket t) refl)

  pub collects : (id other : ℕ) (accounts others : List (Account I B)) → Joins Rule id (view_of accounts Idle) other (view_of others Idle) (put_together (view_of accounts Idle) (view_of others Idle)) spent
  collects id other accounts others s k at apart there =
      let v = view_of accounts Idle in
      let w = view_of others Idle in
      let b = view_of (others ++ accounts) Idle in
      let P : View I B → Type 0 = Knows items number base origin k.list k.serving in
      let F : Account I B → Type 0 = Fits items number base origin k.list in
      let theirs : get_elem? s.views other ≡ some w = ⊎_elim (λ (t : (other ≡ id) × (b ≡ w)). absurd (apart t.0)) (λ (t : (other ≢ id) × (get_elem? s.views other ≡ some w)). t.1) (at_set s.views id other b w there) in
      let both = All-append F others accounts (k.each_pass other w theirs).fits (k.each_pass id v at).fits in
      let same : (f : View I B → ℕ) → f b + f spent ≡ f v + f w → sum_by f (set (set s.views id b) other spent) ≡ sum_by f s.views = λ f e. omega (arith, sum_by_set f (set s.views id b) other w spent there, sum_by_set f s.views id v b at, e) in
      with_views s k (set (set s.views id b) other spent)
      (each_set (λ j x. P x) (set s.views id b) other spent record { fits = All-nil F; stands = tt }
      (λ j x _ f. each_set (λ j x. P x) s.views id b record { fits = both; stands = tt } (λ j x _ f. k.each_pass j x f) j x f))
      (omega (arith, same (passes_of callers) (omega (arith, length-append others accounts))))
      (λ n. let one : Account I B → ℕ = λ a. if a.number == n then 1 else 0 in omega (arith, same (with_number n) (omega (arith, sum_by-append one others accounts))))
      (same out_of (omega (arith, length-append others accounts)))
      (same undone_of refl)
      (let one : Account I B → ℕ = λ a. if nat_lt a.number callers then 1 else 0 in omega (arith, same (low_of callers) (omega (arith, sum_by-append one others accounts))))
      (λ Q h. let M : Account I B → Type 0 = λ a. All (λ (m : ℕ × ℕ). Q m.0 × Q m.1) a.moves in
      each_found_set Q (set s.views id b) other spent (each_found_set Q s.views id b h (All-append M others accounts (h other w theirs) (h id v at))) (All-nil M))
      (λ n. let one : Account I B → ℕ = λ a. if a.number == n then 1 else 0 in omega (arith, same (made_of callers n) (omega (arith, sum_by-append one others accounts))))
      (λ count. let moves : Account I B → ℕ = λ a. sum_by count a.moves in same (moves_of count) (omega (arith, sum_by-append moves others accounts)))
      (same values_of refl)
      (same tickets_of refl)
      (λ t. same (with_ticket t) refl)
