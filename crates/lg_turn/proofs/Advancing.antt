-- An advance keeps the rule: the value comes home with the entries of the pass that had it, and the next ticket is served.
use Rattle.std.proofs.Common.{subst, ◌≡◌, ◌≢◌, ℕ, ◌+◌, ◌%◌, ◌^◌, ◌<◌, ◌≤◌, List, [], ◌∷◌, ◌++◌, set, get_or, arith, ap, sym, refl, ◌∙◌, inl, ⊎_elim, Option, Some}
use mathlib.Core.Option.{Option as Maybe, some, none}
use mathlib.Core.Logic.{dite}
use native.Mathlib.Decide.{ℕ_discrete}
use lib.ListN.{get_elem?}
use Rattle.std.specs.List.{sum_by, All}
use Rattle.std.proofs.Math.Nat.{mod-add-mod}
use Rattle.std.proofs.lemmas.List.Elements.{All-nil, All-cons, All-head, All-weaker}
use Rattle.atomic_table.specs.Table.{State, step, gives, stepped, Allows}
use Rattle.lg_turn.specs.declared.view.Account.{Account}
use Rattle.lg_turn.specs.declared.view.View.{View}
use Rattle.lg_turn.specs.declared.view.Stage.{Stage}
use Rattle.lg_turn.specs.declared.view.Stage.TheVariants.{Idle, Waits, Holds, Enrols, Undoes, Alone}
use Rattle.lg_turn.specs.Views.{view_of, account_of}
use Rattle.lg_turn.specs.Rule.{same_number, made_of, times, with_number, values_of, tickets_of, with_ticket, value_count, Stands, Slot, Fits, Knows, IsKept}
use Rattle.lg_turn.specs.Steps.{Advances, after_give}
use Rattle.lg_turn.proofs.Sums.{sum_by_set, each_set, part-le-sum_by, two_parts-le-sum_by}
use Rattle.lg_turn.proofs.Counts.{one_if_same, none_if_other}
use Rattle.lg_turn.proofs.Told.{each_word_one}
use Rattle.lg_turn.proofs.Parts.{roll_stays, roll_longer}
use Rattle.lg_turn.proofs.Entries.{numbers_other, others_fit, giver_fits, of_pass-still_none}

-- after an advance the words show the next ticket that is served
words_advanced : (ws : List ℕ) (ticket serving word : ℕ) → ws ≡ ticket % 2 ^ 64 ∷ serving % 2 ^ 64 ∷ word ∷ [] → set ws 1 ((get_or ws 1 0 + 1) % 2 ^ 64) ≡ ticket % 2 ^ 64 ∷ (serving + 1) % 2 ^ 64 ∷ word ∷ []
words_advanced ws ticket serving word e = ap (λ (l : List ℕ). set l 1 ((get_or l 1 0 + 1) % 2 ^ 64)) e ∙ ap (λ (n : ℕ). ticket % 2 ^ 64 ∷ n ∷ word ∷ []) (mod-add-mod serving (2 ^ 64) 1)

-- the value that a pass carries is one
same_value : {V : Type 0} (x y : V) → ◌≡◌ {A = List (ℕ × Option V)} ((0, Some x) ∷ []) ((0, Some y) ∷ []) → x ≡ y
same_value {V} x y e = let pair : ◌≡◌ {A = ℕ × Option V} (0, Some x) (0, Some y) = cc in let both : Some x ≡ Some y = ap (λ (z : ℕ × Option V). z.1) pair in cc

module _ {V I B : Type 0} (items : V → List I) (number : I → ℕ) (base : V → B) where
  -- who has no value does not mind which ticket is served, nor new entries of another number
  stands_on : (list new : List I) (n : ℕ) → All (λ e. number e ≡ n) new → (serving serving' : ℕ) (accounts : List (Account I B)) (stage : Stage) → value_count stage ≡ 0 → same_number n stage ≡ 0
      → Stands items number base list serving accounts stage → Stands items number base (list ++ new) serving' accounts stage
  stands_on list new n own_new serving serving' accounts Idle none_out other h = tt
  stands_on list new n own_new serving serving' accounts (Waits t) none_out other h = h
  stands_on list new n own_new serving serving' accounts (Holds t) none_out other h = absurd (omega arith)
  stands_on list new n own_new serving serving' accounts (Enrols m out) none_out other h = (h.0, of_pass-still_none number n m list new (λ same. let one = one_if_same m n same in omega (arith, one, other)) own_new h.1)
  stands_on list new n own_new serving serving' accounts Undoes none_out other h = h
  stands_on list new n own_new serving serving' accounts Alone none_out other h = h

  module _ (callers : ℕ) (origin : B) where
    abbrev Rule : State (Option V) (View I B) → Type 0
    Rule = IsKept items number base callers origin

    module _ (s : State (Option V) (View I B)) (k : Rule s) (id n : ℕ) (own : List I) (moves : List (ℕ × ℕ)) (new : List I) (own_new : All (λ e. number e ≡ n) new) (at : get_elem? s.views id ≡ some (view_of (account_of n origin k.list own moves ∷ []) (Holds k.serving))) where
      abbrev mine : Account I B
      mine = account_of n origin k.list own moves

      abbrev before : View I B
      before = view_of (mine ∷ []) (Holds k.serving)

      abbrev after : View I B
      after = view_of (after_give (k.list ++ new) mine ∷ []) Idle

      my_number : with_number n before ≡ 1
      my_number = omega (arith, one_if_same n n refl)

      my_ticket : with_ticket k.serving before ≡ 1
      my_ticket = one_if_same k.serving k.serving refl

      -- nobody else has the value
      others_hold_none : (j : ℕ) (u : View I B) → j ≢ id → get_elem? s.views j ≡ some u → values_of u ≡ 0
      others_hold_none j u other e =
          let two = two_parts-le-sum_by values_of s.views j id u before other e at in
          let most : sum_by values_of s.views ≤ 1 = ⊎_elim (λ home. let z = home.4 in omega arith) (λ out. let z = out.1 in omega arith) k.slot in omega arith

      -- nor its number
      others_numbered : (j : ℕ) (u : View I B) → j ≢ id → get_elem? s.views j ≡ some u → All (λ (a : Account I B). a.number ≢ n) u.accounts × (same_number n u.stage ≡ 0)
      others_numbered j u other e =
          let two = two_parts-le-sum_by (with_number n) s.views j id u before other e at in
          let most = (k.roll.numbers n).0 in let one = my_number in
          (numbers_other n u.accounts (omega arith), omega arith)

      others_know : (j : ℕ) (u : View I B) → j ≢ id → get_elem? s.views j ≡ some u → Knows items number base origin (k.list ++ new) (k.serving + 1) u
      others_know j u other e =
          let known = k.each_pass j u e in record {
            fits = others_fit items number base origin k.list new n own_new u.accounts (others_numbered j u other e).0 known.fits;
            stands = stands_on k.list new n own_new k.serving (k.serving + 1) u.accounts u.stage (others_hold_none j u other e) (others_numbered j u other e).1 known.stands;
          }

      i_know : Knows items number base origin (k.list ++ new) (k.serving + 1) after
      i_know =
          let fit = All-head (Fits items number base origin k.list) mine [] (k.each_pass id before at).fits in record {
            fits = All-cons (Fits items number base origin (k.list ++ new)) _ [] (giver_fits items number base origin k.list new n own_new own moves fit.own_is) (All-nil (Fits items number base origin (k.list ++ new)));
            stands = tt;
          }

      comes_home : (value : V) → items value ≡ k.list ++ new → base value ≡ origin → Slot items number base origin (k.list ++ new) (set s.homes 0 (some (Some value))) (sum_by values_of (set s.views id after))
      comes_home value is over =
          let held = part-le-sum_by values_of s.views id before at in
          let moved : sum_by values_of (set s.views id after) + 1 ≡ sum_by values_of s.views + 0 = sum_by_set values_of s.views id before after at in
          ⊎_elim (λ home. let z = home.4 in absurd (omega arith)) (λ out. let z = out.1 in inl (value, ap (λ (hs : List (Maybe (Option V))). set hs 0 (some (Some value))) out.0, is, over, omega arith)) k.slot

      new_made : All (λ e. times (number e) k.made ≡ 1) new
      new_made =
          let one : made_of callers n before ≡ 1 = omega (arith, one_if_same n n refl) in let part = part-le-sum_by (made_of callers n) s.views id before at in
          let g = k.roll.given n in
          let made_once : times n k.made ≡ 1 = omega (arith, one, part, g.0, g.1) in
          All-weaker (λ e. number e ≡ n) (λ e. times (number e) k.made ≡ 1) (λ e h. ap (λ (m : ℕ). times m k.made) h ∙ made_once) new own_new

      apart_advanced : (t : ℕ) → (sum_by (with_ticket t) (set s.views id after) ≤ 1) × (t < k.serving + 1 → sum_by (with_ticket t) (set s.views id after) ≡ 0) × (k.ticket ≤ t → sum_by (with_ticket t) (set s.views id after) ≡ 0)
      apart_advanced t =
          let moved : sum_by (with_ticket t) (set s.views id after) + with_ticket t before ≡ sum_by (with_ticket t) s.views + 0 = sum_by_set (with_ticket t) s.views id before after at in
          let b = k.apart t in
          dite (ℕ_discrete t k.serving)
          (λ same. let one : with_ticket t before ≡ 1 = one_if_same t k.serving same in let most = b.0 in (omega arith, (λ h. omega arith), λ h. omega arith))
          (λ other. let no : with_ticket t before ≡ 0 = none_if_other t k.serving other in let most = b.0 in (omega arith, (λ h. let z = b.1 (omega arith) in omega arith), λ h. let z = b.2 h in omega arith))

      advanced : (value : V) → items value ≡ k.list ++ new → base value ≡ origin → Rule (stepped s 1 ((get_or s.words 1 0 + 1) % 2 ^ 64) id ((0, Some value) ∷ []) after gives)
      advanced value is over = record {
        list = k.list ++ new;
        serving = k.serving + 1;
        ticket = k.ticket;
        made = k.made;
        next = k.next;
        word = k.word;
        words = words_advanced s.words k.ticket k.serving k.word k.words;
        slot = comes_home value is over;
        each_pass = each_set (λ j u. Knows items number base origin (k.list ++ new) (k.serving + 1) u) s.views id after i_know others_know;
        few = k.few;
        roll = roll_longer items number base callers k.list k.made k.next k.word (set s.views id after) new
            (roll_stays items number base callers k.list k.made k.next k.word s.views id before after at refl (λ m. refl) refl refl refl (λ P h. each_word_one P (after_give (k.list ++ new) mine) (All-head (λ (a : Account I B). All (λ (m : ℕ × ℕ). P m.0 × P m.1) a.moves) mine [] h)) (λ m. refl) (λ count. refl) k.roll)
            new_made;
        drawn = (let moved : sum_by tickets_of (set s.views id after) + 1 ≡ sum_by tickets_of s.views + 0 = sum_by_set tickets_of s.views id before after at in let d = k.drawn in omega arith);
        apart = apart_advanced;
      }

    pub advances : (slots id t n : ℕ) (over : B) (seen own : List I) (moves : List (ℕ × ℕ)) (new : List I) (value : V) → base value ≡ over → items value ≡ seen ++ new → All (λ e. number e ≡ n) new
        → Allows Rule slots id (view_of (account_of n over seen own moves ∷ []) (Holds t), (0, Some value) ∷ []) 1 (λ m. (m + 1) % 2 ^ 64) (Advances items number base (step slots 1 1 0 none) (view_of (account_of n over seen own moves ∷ []) (Holds t), (0, Some value) ∷ []))
    advances slots id t n over seen own moves new value based is own_new s k sized at small =
        let known = k.each_pass id (view_of (account_of n over seen own moves ∷ []) (Holds t)) at in
        let over_is : over ≡ origin = (All-head (Fits items number base origin k.list) (account_of n over seen own moves) [] known.fits).base_is in
        let t_is : t ≡ k.serving = known.stands.1 in
        let seen_is : seen ≡ k.list = known.stands.2 in
        let at' : get_elem? s.views id ≡ some (view_of (account_of n origin k.list own moves ∷ []) (Holds k.serving)) = at ∙ (λ i. some (view_of (account_of n (over_is i) (seen_is i) own moves ∷ []) (Holds (t_is i)))) in
        let longer : items value ≡ k.list ++ new = is ∙ ap (λ (l : List I). l ++ new) seen_is in (
          after s k id n own moves new own_new at',
          gives,
          tt,
          advanced s k id n own moves new own_new at' value longer (based ∙ over_is),
          λ value' held.
              let same = same_value value value' held in
              let back : k.list ++ new ≡ items value' = sym longer ∙ ap items same in
              let over' : origin ≡ base value' = sym (based ∙ over_is) ∙ ap base same in (
                (λ i. (view_of (after_give (back i) (account_of n (sym over_is i) (sym seen_is i) own moves) ∷ []) Idle, [])),
                subst (λ (z : B × List I). All (Fits items number base z.0 z.1) (after_give (k.list ++ new) (account_of n origin k.list own moves) ∷ [])) (λ i. (over' i, back i)) (i_know s k id n own moves new own_new at').fits,
              ),
        )
