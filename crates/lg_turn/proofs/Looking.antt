-- A look keeps the rule: where the pass's ticket is served the value is at home, and comes out to the pass.
use Rattle.std.proofs.Common.{◌≡◌, ◌≢◌, ℕ, ◌+◌, ◌%◌, ◌^◌, ◌<◌, ◌≤◌, List, [], ◌∷◌, length, set, get_or, map, arith, ap, sym, refl, ◌∙◌, subst, inr, ⊎_elim, Option, Some}
use mathlib.Core.Option.{Option as Maybe, some, none, some-injective}
use mathlib.Core.Logic.{dite}
use native.Mathlib.Decide.{ℕ_discrete, dec_lt, dec_le}
use lib.ListN.{get_elem?}
use lib.Seq.{set-get_or}
use Rattle.std.specs.List.{sum_by, All}
use Rattle.std.proofs.lemmas.List.{length-map}
use Rattle.atomic_table.specs.Table.{State, Act, step, keeps, takes, stepped, carried_after, Valid, Allows}
use Rattle.atomic_table.proofs.Lists.{one_turn, set_again}
use Rattle.lg_turn.specs.declared.view.Account.{Account}
use Rattle.lg_turn.specs.declared.view.View.{View}
use Rattle.lg_turn.specs.declared.view.Stage.{Stage}
use Rattle.lg_turn.specs.declared.view.Stage.TheVariants.{Idle, Waits, Holds, Enrols, Undoes, Alone}
use Rattle.lg_turn.specs.Views.{view_of}
use Rattle.lg_turn.specs.Rule.{passes_of, values_of, tickets_of, with_ticket, ticket_count, same_ticket, value_count, Stands, Fits, Knows, IsKept}
use Rattle.lg_turn.specs.Steps.{Looks, after_take}
use Rattle.lg_turn.proofs.Sums.{sum_by_set, each_set, part-le-sum_by, two_parts-le-sum_by, some_part, sum_by-le-sum_by}
use Rattle.lg_turn.proofs.Counts.{one_if_same}
use Rattle.lg_turn.proofs.Told.{each_word_same}
use Rattle.lg_turn.proofs.Parts.{sum_stays, roll_stays}
use Rattle.lg_turn.proofs.Accounts.{moves_map, numbers_map, lows_map, seen_in-after_take, fits_after_take}

module _ {V I B : Type 0} (items : V → List I) (number : I → ℕ) (base : V → B) where
  -- who has a ticket stands for a pass
  ticket_count-le-length : (list : List I) (serving : ℕ) (accounts : List (Account I B)) (stage : Stage) → Stands items number base list serving accounts stage → ticket_count stage ≤ length accounts
  ticket_count-le-length list serving accounts Idle h = omega arith
  ticket_count-le-length list serving accounts (Waits t) h = h
  ticket_count-le-length list serving accounts (Holds t) h = h.0
  ticket_count-le-length list serving accounts (Enrols n out) h = omega arith
  ticket_count-le-length list serving accounts Undoes h = omega arith
  ticket_count-le-length list serving accounts Alone h = omega arith

  -- who has the value has the ticket that is served
  holder_serves : (list : List I) (serving : ℕ) (accounts : List (Account I B)) (stage : Stage) → Stands items number base list serving accounts stage → 0 < value_count stage → same_ticket serving stage ≡ 1
  holder_serves list serving accounts Idle h out = absurd (omega arith)
  holder_serves list serving accounts (Waits t) h out = absurd (omega arith)
  holder_serves list serving accounts (Holds t) h out = one_if_same serving t (sym h.1)
  holder_serves list serving accounts (Enrols n o) h out = absurd (omega arith)
  holder_serves list serving accounts Undoes h out = absurd (omega arith)
  holder_serves list serving accounts Alone h out = absurd (omega arith)

  module _ (callers : ℕ) (origin : B) where
    abbrev Rule : State (Option V) (View I B) → Type 0
    Rule = IsKept items number base callers origin

    -- at most 65 tickets are out
    tickets_few : (s : State (Option V) (View I B)) (k : Rule s) → k.ticket ≤ k.serving + 65
    tickets_few s k = omega (arith, sum_by-le-sum_by tickets_of (passes_of callers) s.views (λ i v e. let some = ticket_count-le-length k.list k.serving v.accounts v.stage (k.each_pass i v e).stands in omega (arith, some)), k.roll.passes, k.few, k.drawn)

    -- the ticket of a pass that waits is served where the words agree
    is_served : (s : State (Option V) (View I B)) (k : Rule s) (id t : ℕ) (accounts : List (Account I B)) → get_elem? s.views id ≡ some (view_of accounts (Waits t)) → t % 2 ^ 64 ≡ k.serving % 2 ^ 64 → t ≡ k.serving
    is_served s k id t accounts at same =
        let one = one_if_same t t refl in
        let mine : 1 ≤ sum_by (with_ticket t) s.views = subst (λ (n : ℕ). n ≤ sum_by (with_ticket t) s.views) one (part-le-sum_by (with_ticket t) s.views id (view_of accounts (Waits t)) at) in
        let low : k.serving ≤ t = dite (dec_le k.serving t) (λ h. h) (λ n. let z = (k.apart t).1 (omega arith) in absurd (omega arith)) in
        let high : t < k.ticket = dite (dec_lt t k.ticket) (λ h. h) (λ n. let z = (k.apart t).2 (omega arith) in absurd (omega arith)) in
        sym (one_turn k.serving t (2 ^ 64) low (omega (arith, tickets_few s k)) (sym same))

    -- nobody else has the value then
    nobody_holds : (s : State (Option V) (View I B)) (k : Rule s) (id : ℕ) (accounts : List (Account I B)) → get_elem? s.views id ≡ some (view_of accounts (Waits k.serving)) → 0 < sum_by values_of s.views → ⊥
    nobody_holds s k id accounts at out =
        let h = some_part values_of s.views out in
        let v = view_of accounts (Waits k.serving) in
        let theirs = holder_serves k.list k.serving h.1.accounts h.1.stage (k.each_pass h.0 h.1 h.2).stands h.3 in
        let mine = one_if_same k.serving k.serving refl in
        dite (ℕ_discrete id h.0)
        (λ same. let z : values_of h.1 ≡ 0 = ap values_of (sym (some-injective v h.1 (sym at ∙ ap (get_elem? s.views) same ∙ h.2))) in let some_out = h.3 in omega arith)
        (λ other. let two = two_parts-le-sum_by (with_ticket k.serving) s.views id h.0 v h.1 other at h.2 in let most = (k.apart k.serving).0 in omega arith)

    -- a look that finds another ticket changes nothing
    unserved : (s : State (Option V) (View I B)) (k : Rule s) (id : ℕ) (v : View I B) → get_elem? s.views id ≡ some v → (carried : List (ℕ × Option V)) → Rule (stepped s 1 (get_or s.words 1 0) id carried v keeps)
    unserved s k id v at carried = subst (λ (z : List ℕ × List (View I B)). Rule record { words = z.0; homes = s.homes; views = z.1 }) (λ i. (sym (set-get_or s.words 1 0) i, sym (set_again s.views id v at) i)) k

    module _ (s : State (Option V) (View I B)) (k : Rule s) (id : ℕ) (accounts : List (Account I B)) (at : get_elem? s.views id ≡ some (view_of accounts (Waits k.serving))) (value : V) (home : s.homes ≡ some (Some value) ∷ []) (nobody : sum_by values_of s.views ≡ 0) where
      abbrev before : View I B
      before = view_of accounts (Waits k.serving)

      abbrev after : View I B
      after = view_of (map (after_take k.list) accounts) (Holds k.serving)

      -- the value comes out to the pass
      served : Rule (stepped s 1 (get_or s.words 1 0) id [] after (takes 0 (Some value)))
      served =
          let known = k.each_pass id before at in
          let wide : length (map (after_take k.list) accounts) ≡ length accounts = length-map accounts (after_take k.list) in record {
            list = k.list;
            serving = k.serving;
            ticket = k.ticket;
            made = k.made;
            next = k.next;
            word = k.word;
            words = set-get_or s.words 1 0 ∙ k.words;
            slot = inr (ap (λ (hs : List (Maybe (Option V))). set hs 0 none) home, (let moved : sum_by values_of (set s.views id after) + 0 ≡ sum_by values_of s.views + 1 = sum_by_set values_of s.views id before after at in omega arith));
            each_pass = each_set (λ j u. Knows items number base origin k.list k.serving u) s.views id after
                record { fits = fits_after_take items number base origin k.list accounts known.fits; stands = (omega (arith, known.stands), refl, seen_in-after_take k.list accounts known.stands) }
                (λ j u _ e. k.each_pass j u e);
            few = k.few;
            roll = roll_stays items number base callers k.list k.made k.next k.word s.views id before after at
                (ap (λ (n : ℕ). n + 0) wide)
                (λ n. ap (λ (m : ℕ). m + 0) (numbers_map (after_take k.list) (λ a. refl) n accounts))
                (ap (λ (n : ℕ). n + 0) wide)
                refl
                (ap (λ (m : ℕ). m + 0) (lows_map (after_take k.list) (λ a. refl) callers accounts))
                (λ P h. each_word_same P (after_take k.list) (λ Q a q. q) accounts h)
                (λ n. ap (λ (m : ℕ). m + 0) (numbers_map (after_take k.list) (λ a. refl) n accounts))
                (λ count. moves_map count (after_take k.list) (λ a. refl) accounts)
                k.roll;
            drawn = ap (λ (n : ℕ). k.serving + n) (sum_stays s.views id before after at tickets_of refl) ∙ k.drawn;
            apart = λ t. let e = sum_stays s.views id before after at (with_ticket t) refl in let a = k.apart t in (omega (arith, e, a.0), (λ h. e ∙ a.1 h), λ h. e ∙ a.2 h);
          }

    -- what a look asks, where the ticket is served
    looks_served : (slots id t : ℕ) (accounts : List (Account I B)) (s : State (Option V) (View I B)) (k : Rule s) → get_elem? s.views id ≡ some (view_of accounts (Waits t)) → t ≡ k.serving → get_or s.words 1 0 ≡ t % 2 ^ 64
        → (w : View I B) × (a : Act (Option V)) × Valid s.homes [] a × Rule (stepped s 1 (get_or s.words 1 0) id [] w a) × Looks items number base (step slots 1 0 0 none) (view_of accounts (Waits t), []) (get_or s.words 1 0) (w, carried_after [] a)
    looks_served slots id t accounts s k at is found =
        let at' : get_elem? s.views id ≡ some (view_of accounts (Waits k.serving)) = at ∙ ap (λ (n : ℕ). some (view_of accounts (Waits n))) is in
        let known = (k.each_pass id (view_of accounts (Waits k.serving)) at').fits in
        ⊎_elim
        (λ home. (
          after s k id accounts at' home.0 home.1 home.4,
          takes 0 (Some home.0),
          ap (λ (hs : List (Maybe (Option V))). get_elem? hs 0) home.1,
          served s k id accounts at' home.0 home.1 home.4,
          λ u waits. let tu : t ≡ u = cc in (
            (λ same. (
              home.0,
              (λ i. (view_of (map (after_take (sym home.2 i)) accounts) (Holds ((sym is ∙ tu) i)), (0, Some home.0) ∷ [])),
              subst (λ (z : B × List I). All (Fits items number base z.0 z.1) accounts) (λ i. (sym home.3 i, sym home.2 i)) known,
            )),
            (λ other. absurd (other (ap (λ (n : ℕ). n % 2 ^ 64) (sym tu) ∙ sym found))),
          ),
        ))
        (λ out. absurd (nobody_holds s k id accounts at' (let n = out.1 in omega arith)))
        k.slot

    -- what a look asks, where another ticket is served
    looks_unserved : (slots id t : ℕ) (accounts : List (Account I B)) (s : State (Option V) (View I B)) (k : Rule s) → get_elem? s.views id ≡ some (view_of accounts (Waits t)) → get_or s.words 1 0 ≢ t % 2 ^ 64
        → (w : View I B) × (a : Act (Option V)) × Valid s.homes [] a × Rule (stepped s 1 (get_or s.words 1 0) id [] w a) × Looks items number base (step slots 1 0 0 none) (view_of accounts (Waits t), []) (get_or s.words 1 0) (w, carried_after [] a)
    looks_unserved slots id t accounts s k at other = (
      view_of accounts (Waits t),
      keeps,
      tt,
      unserved s k id (view_of accounts (Waits t)) at [],
      λ u waits. let tu : t ≡ u = cc in ((λ same. absurd (other (sym same ∙ ap (λ (n : ℕ). n % 2 ^ 64) (sym tu)))), (λ _. refl)),
    )

    pub looks : (slots id t : ℕ) (accounts : List (Account I B)) → Allows Rule slots id (view_of accounts (Waits t), []) 1 (λ n. n) (Looks items number base (step slots 1 0 0 none) (view_of accounts (Waits t), []))
    looks slots id t accounts s k sized at small =
        let found : get_or s.words 1 0 ≡ k.serving % 2 ^ 64 = ap (λ (l : List ℕ). get_or l 1 0) k.words in
        dite (ℕ_discrete (get_or s.words 1 0) (t % 2 ^ 64))
        (λ same. looks_served slots id t accounts s k at (is_served s k id t accounts at (sym same ∙ found)) same)
        (λ other. looks_unserved slots id t accounts s k at other)
