-- A pass that enters another one in the roll, or takes out what it has too many there, keeps the rule.
use Rattle.std.proofs.Common.{◌≡◌, ◌≢◌, ℕ, ◌+◌, ◌%◌, ◌^◌, ◌<◌, ◌≤◌, List, [], ◌∷◌, ◌++◌, length, map, set, get_or, arith, ap, sym, refl, ◌∙◌, subst, Option, Bool, true, false, cond}
use mathlib.Core.Option.{some, none}
use mathlib.Core.Logic.{dite}
use native.Mathlib.Decide.{ℕ_discrete, dec_lt, dec_le}
use lib.ListN.{get_elem?}
use Rattle.std.specs.Prelude.{◌==◌, nat_lt, if◌then◌else◌}
use Rattle.std.specs.List.{sum_by, All}
use Rattle.std.proofs.lemmas.Bool.{le-ltb}
use Rattle.std.proofs.lemmas.List.{length-map}
use Rattle.std.proofs.lemmas.List.Sums.{sum_by-cons, sum_by-append}
use Rattle.std.proofs.lemmas.List.Elements.{All-head, All-map, All-weaker}
use Rattle.atomic_table.specs.Table.{State, Act, step, keeps, stepped, carried_after, Valid, Allows}
use Rattle.lg_turn.specs.declared.view.Account.{Account}
use Rattle.lg_turn.specs.declared.view.View.{View}
use Rattle.lg_turn.specs.declared.view.Stage.{Stage}
use Rattle.lg_turn.specs.declared.view.Stage.TheVariants.{Idle, Waits, Holds, Enrols, Undoes, Alone}
use Rattle.lg_turn.specs.Views.{drawing, looking, rise_count, gone_in, view_of, number_in, seen_in, drawn_in, out_in, of_pass, Precedes, MayFollow}
use Rattle.lg_turn.specs.Rule.{passes_of, with_number, low_of, out_of, undone_of, values_of, tickets_of, with_ticket, ticket_count, same_ticket, value_count, place_count, out_count, undone_count, same_number, low_count, coming_count, made_of, moves_of, times, Fits, Knows, Told, Roll, IsKept}
use Rattle.lg_turn.specs.Steps.{moved, Enrolls, Counts}
use Rattle.lg_turn.proofs.Sums.{sum_by_set, each_set, part-le-sum_by}
use Rattle.lg_turn.proofs.Counts.{one_if_same, none_if_other, one_low, none_low, no_rise, no_rise_here, one_rise}
use Rattle.lg_turn.proofs.Parts.{sum_stays, entered_below, lows-le-passes}
use Rattle.lg_turn.proofs.Accounts.{numbers_map, lows_map, moves_moved, one_moved}
use Rattle.lg_turn.proofs.Entries.{of_pass-undrawn, of_pass-none_before}
use Rattle.lg_turn.proofs.Told.{told_on, precedes_by, each_found_set, each_word_moved, each_word_weaker}
use Rattle.lg_turn.proofs.Rolls.{upper_half, lower_half, outs_few, undone_few, places-le-out}

-- the third word alone changes
words_rolled : (ws : List ℕ) (a b word new : ℕ) → ws ≡ a ∷ b ∷ word ∷ [] → set ws 2 new ≡ a ∷ b ∷ new ∷ []
words_rolled ws a b word new e = ap (λ (l : List ℕ). set l 2 new) e

-- a number more, or none
times_more : (n m : ℕ) (numbers : List ℕ) (b : Bool) → times n (cond b (numbers ++ m ∷ []) numbers) ≡ times n numbers + cond b (cond (m == n) 1 0) 0
times_more n m numbers true = let one : ℕ → ℕ = λ k. if k == n then 1 else 0 in omega (arith, sum_by-append one numbers (m ∷ []), sum_by-cons one m [])
times_more n m numbers false = omega arith

half-le-whole : (b c : Bool) → (cond b (cond c 1 0) 0 ≤ cond c 1 0) × (cond b (cond c 1 0) 0 ≤ cond b 1 0)
half-le-whole true true = (omega arith, omega arith)
half-le-whole true false = (omega arith, omega arith)
half-le-whole false c = (bit-zero c, omega arith)
  where
    bit-zero : (c : Bool) → 0 ≤ cond c 1 0
    bit-zero c = omega arith

-- a pass to come has its number and its place
coming-le-same : (callers n : ℕ) (stage : Stage) → coming_count callers n stage ≤ same_number n stage
coming-le-same callers n Idle = omega arith
coming-le-same callers n (Waits t) = omega arith
coming-le-same callers n (Holds t) = omega arith
coming-le-same callers n (Enrols m out) = (half-le-whole (nat_lt out callers) (m == n)).0
coming-le-same callers n Undoes = omega arith
coming-le-same callers n Alone = omega arith

coming-le-place : (callers n : ℕ) (stage : Stage) → coming_count callers n stage ≤ place_count callers stage
coming-le-place callers n Idle = omega arith
coming-le-place callers n (Waits t) = omega arith
coming-le-place callers n (Holds t) = omega arith
coming-le-place callers n (Enrols m out) = (half-le-whole (nat_lt out callers) (m == n)).1
coming-le-place callers n Undoes = omega arith
coming-le-place callers n Alone = omega arith

module _ {V I B : Type 0} (items : V → List I) (number : I → ℕ) (base : V → B) where
  pub fits_moved : (origin : B) (list : List I) (move : ℕ × ℕ) (accounts : List (Account I B)) → All (Fits items number base origin list) accounts → All (Fits items number base origin list) (map (moved move) accounts)
  fits_moved origin list move accounts fits = All-map (Fits items number base origin list) (moved move) accounts
      (All-weaker (Fits items number base origin list) (λ (a : Account I B). Fits items number base origin list (moved move a))
      (λ a f. record { base_is = f.base_is; begins = f.begins; own_is = f.own_is; own_seen = f.own_seen }) accounts fits)

  first_number : (callers : ℕ) (n : ℕ) (accounts : List (Account I B)) → 0 < length accounts → n ≡ number_in accounts → 0 < sum_by (λ (a : Account I B). if a.number == n then 1 else 0) accounts
  first_number callers n [] h is = absurd (omega arith)
  first_number callers n (a ∷ rest) h is = omega (arith, one_if_same a.number n (sym is), sum_by-cons (λ (x : Account I B). if x.number == n then 1 else 0) a rest)

  -- what stands not in the list was not seen
  none_seen : (n : ℕ) (list : List I) (origin : B) (accounts : List (Account I B)) → 0 < length accounts → All (Fits items number base origin list) accounts → of_pass number n list ≡ [] → of_pass number n (seen_in accounts) ≡ []
  none_seen n list origin [] some_pass fits none_there = absurd (omega arith)
  none_seen n list origin (a ∷ rest) some_pass fits none_there = of_pass-none_before number n list a.seen (All-head (Fits items number base origin list) a rest fits).begins none_there

  module _ (callers : ℕ) (origin : B) where
    abbrev Rule : State (Option V) (View I B) → Type 0
    Rule = IsKept items number base callers origin

    -- the rule after a step on the roll that changes one view, which has no ticket and no value before and after
    module _ (s : State (Option V) (View I B)) (k : Rule s) (id : ℕ) (accounts accounts' : List (Account I B)) (stage stage' : Stage) (at : get_elem? s.views id ≡ some (view_of accounts stage))
        (ticket : ticket_count stage' ≡ ticket_count stage) (same : (t : ℕ) → same_ticket t stage' ≡ same_ticket t stage) (value : value_count stage' ≡ value_count stage)
        (knows : Knows items number base origin k.list k.serving (view_of accounts' stage')) where
      abbrev views' : List (View I B)
      views' = set s.views id (view_of accounts' stage')

      pub rolled : (carried : List (ℕ × Option V)) (made : List ℕ) (next word : ℕ) → Roll items number base callers k.list made next word views' → Rule (stepped s 2 word id carried (view_of accounts' stage') keeps)
      rolled carried made next word roll =
          let v : View I B = view_of accounts stage in
          let w : View I B = view_of accounts' stage' in record {
            list = k.list;
            serving = k.serving;
            ticket = k.ticket;
            made = made;
            next = next;
            word = word;
            words = words_rolled s.words (k.ticket % 2 ^ 64) (k.serving % 2 ^ 64) k.word word k.words;
            slot = rw (sum_stays s.views id v w at values_of value) k.slot;
            each_pass = each_set (λ j u. Knows items number base origin k.list k.serving u) s.views id w knows (λ j u _ e. k.each_pass j u e);
            few = k.few;
            roll = roll;
            drawn = ap (λ (n : ℕ). k.serving + n) (sum_stays s.views id v w at tickets_of ticket) ∙ k.drawn;
            apart = λ t. let e = sum_stays s.views id v w at (with_ticket t) (same t) in let a = k.apart t in (omega (arith, e, a.0), (λ h. e ∙ a.1 h), λ h. e ∙ a.2 h);
          }

    module _ (s : State (Option V) (View I B)) (k : Rule s) (id : ℕ) (accounts : List (Account I B)) (at : get_elem? s.views id ≡ some (view_of accounts Idle)) (some_pass : 0 < length accounts) (found : ℕ) (found_is : found ≡ k.word) (move : ℕ × ℕ) where
      abbrev U : ℕ
      U = sum_by undone_of s.views

      abbrev O : ℕ
      O = sum_by out_of s.views

      abbrev v : View I B
      v = view_of accounts Idle

      abbrev at_stage : Stage → View I B
      at_stage stage = view_of (map (moved move) accounts) stage

      drawn_is : drawn_in found ≡ k.next + U
      drawn_is = upper_half found (k.next + U) O (found_is ∙ k.roll.counted) (omega (arith, outs_few items number base callers origin s k))

      out_is : out_in found ≡ O
      out_is = lower_half found (k.next + U) O (found_is ∙ k.roll.counted) (omega (arith, outs_few items number base callers origin s k))

      wide : length (map (moved move) accounts) ≡ length accounts
      wide = length-map accounts (moved move)

      -- the sums after the step
      passes_moved : (stage : Stage) → sum_by (passes_of callers) (set s.views id (at_stage stage)) ≡ sum_by (passes_of callers) s.views + place_count callers stage
      passes_moved stage = let m = sum_by_set (passes_of callers) s.views id v (at_stage stage) at in omega (arith, m, wide)

      out_moved : (stage : Stage) → sum_by out_of (set s.views id (at_stage stage)) ≡ O + out_count stage
      out_moved stage = let m = sum_by_set out_of s.views id v (at_stage stage) at in omega (arith, m, wide)

      undone_moved : (stage : Stage) → sum_by undone_of (set s.views id (at_stage stage)) ≡ U + undone_count stage
      undone_moved stage = let m = sum_by_set undone_of s.views id v (at_stage stage) at in omega (arith, m)

      numbers_moved : (stage : Stage) (n : ℕ) → sum_by (with_number n) (set s.views id (at_stage stage)) ≡ sum_by (with_number n) s.views + same_number n stage
      numbers_moved stage n = let m = sum_by_set (with_number n) s.views id v (at_stage stage) at in omega (arith, m, numbers_map (moved move) (λ a. refl) n accounts)

      low_moved : (stage : Stage) → sum_by (low_of callers) (set s.views id (at_stage stage)) ≡ sum_by (low_of callers) s.views + low_count callers stage
      low_moved stage = let m = sum_by_set (low_of callers) s.views id v (at_stage stage) at in omega (arith, m, lows_map (moved move) (λ a. refl) callers accounts)

      given_moved : (stage : Stage) (n : ℕ) → sum_by (made_of callers n) (set s.views id (at_stage stage)) ≡ sum_by (made_of callers n) s.views + coming_count callers n stage
      given_moved stage n = let m = sum_by_set (made_of callers n) s.views id v (at_stage stage) at in omega (arith, m, numbers_map (moved move) (λ a. refl) n accounts)

      -- a tally is told as before where it stays
      same_after : (tally : ℕ → ℕ) (later : ℕ) → ((P : ℕ → Type 0) → P found → P later → P move.0 × P move.1) → tally later ≡ tally found → (stage : Stage) (n : ℕ)
          → sum_by (moves_of (rise_count tally n)) s.views ≡ cond (nat_lt n (tally k.word)) 1 0 → sum_by (moves_of (rise_count tally n)) (set s.views id (at_stage stage)) ≡ cond (nat_lt n (tally later)) 1 0
      same_after tally later both same stage n before =
          let rise : ℕ × ℕ → ℕ = rise_count tally n in
          let m = sum_by_set (moves_of rise) s.views id v (at_stage stage) at in
          let as_found = both (λ word. tally word ≡ tally found) refl same in
          let none = no_rise tally n move (omega (arith, as_found)) in
          let stays : sum_by (moves_of rise) (set s.views id (at_stage stage)) ≡ sum_by (moves_of rise) s.views = omega (arith, m, moves_moved rise move none accounts) in
          stays ∙ before ∙ ap (λ (word : ℕ). cond (nat_lt n (tally word)) 1 0) (sym found_is) ∙ ap (λ (t : ℕ). cond (nat_lt n t) 1 0) (sym same)

      one_drawn : drawn_in (found + 4294967297) ≡ drawn_in found + 1
      one_drawn =
          let few = outs_few items number base callers origin s k in
          let counted = k.roll.counted in
          let up = upper_half (found + 4294967297) (k.next + U + 1) (O + 1) (omega (arith, found_is, counted)) (omega (arith, few)) in
          omega (arith, drawn_is, up)

      -- past all numbers a drawing is not told of as one
      drawn_undone : ((P : ℕ → Type 0) → P found → P (found + 4294967297) → P move.0 × P move.1) → 4294967168 ≤ drawn_in found → (n : ℕ) → n < 4294967168 → sum_by (moves_of (rise_count drawn_in n)) (set s.views id (at_stage Undoes)) ≡ cond (nat_lt n (drawn_in (found + 4294967297))) 1 0
      drawn_undone both h n small =
          let rise : ℕ × ℕ → ℕ = rise_count drawn_in n in
          let m = sum_by_set (moves_of rise) s.views id v (at_stage Undoes) at in
          let high = both (λ word. n < drawn_in word) (omega (arith, h, small)) (omega (arith, h, small, one_drawn)) in
          let none = no_rise_here drawn_in n move (λ same. let above = high.0 in omega (arith, same, above)) in
          let stays : sum_by (moves_of rise) (set s.views id (at_stage Undoes)) ≡ sum_by (moves_of rise) s.views = omega (arith, m, moves_moved rise move none accounts) in
          let before = k.roll.drawn n small in
          omega (arith, stays, before, one_low n (drawn_in k.word) (omega (arith, h, small, found_is)), one_low n (drawn_in (found + 4294967297)) (omega (arith, h, small, one_drawn)))

      drawn_enrolled : length accounts ≡ 1 → move ≡ drawing found → (n : ℕ) → n < 4294967168 → sum_by (moves_of (rise_count drawn_in n)) (set s.views id (at_stage (Enrols (drawn_in found) (out_in found)))) ≡ cond (nat_lt n (drawn_in (found + 4294967297))) 1 0
      drawn_enrolled one_pass is n small =
          let rise : ℕ × ℕ → ℕ = rise_count drawn_in n in
          let m = sum_by_set (moves_of rise) s.views id v (at_stage (Enrols (drawn_in found) (out_in found))) at in
          let more = one_rise drawn_in n (drawing found) one_drawn in
          let same : rise move ≡ rise (drawing found) = ap rise is in
          let before : sum_by (moves_of rise) s.views ≡ cond (nat_lt n (drawn_in found)) 1 0 = k.roll.drawn n small ∙ ap (λ (word : ℕ). cond (nat_lt n (drawn_in word)) 1 0) (sym found_is) in
          omega (arith, m, more, same, before, one_moved rise move accounts one_pass)

      none_gone : gone_in (found + 4294967297) ≡ gone_in found
      none_gone =
          let few = outs_few items number base callers origin s k in
          let counted = k.roll.counted in
          let up = upper_half (found + 4294967297) (k.next + U + 1) (O + 1) (omega (arith, found_is, counted)) (omega (arith, few)) in
          let low = lower_half (found + 4294967297) (k.next + U + 1) (O + 1) (omega (arith, found_is, counted)) (omega (arith, few)) in
          omega (arith, drawn_is, out_is, up, low)

      fits : All (Fits items number base origin k.list) (map (moved move) accounts)
      fits = fits_moved origin k.list move accounts (k.each_pass id v at).fits

      told_before : Told found s.views
      told_before = subst (λ (n : ℕ). Told n s.views) (sym found_is) k.roll.told

      follows : MayFollow accounts found
      follows = (
        (let fewer = k.roll.fewer in omega (arith, drawn_is, out_is, fewer)),
        each_word_weaker (λ earlier. (out_in earlier ≤ drawn_in earlier) × Precedes earlier found) (λ earlier. Precedes earlier found) (λ earlier b. b.1) accounts (told_before.behind id v at),
      )

      -- what was found stays true where the move is from this word to a later one
      told_after : (later : ℕ) → ((P : ℕ → Type 0) → P found → P later → P move.0 × P move.1) → out_in later ≤ drawn_in later → Precedes found later → (stage : Stage) → Told later (set s.views id (at_stage stage))
      told_after later both fit next stage = told_on found later s.views (set s.views id (at_stage stage)) told_before follows.0 fit next
          (λ P h p q. let m = both P p q in each_found_set P s.views id (at_stage stage) h (each_word_moved P move accounts m.0 m.1 (h id v at)))

      told_drawn : ((P : ℕ → Type 0) → P found → P (found + 4294967297) → P move.0 × P move.1) → (stage : Stage) → Told (found + 4294967297) (set s.views id (at_stage stage))
      told_drawn both stage =
          let few = outs_few items number base callers origin s k in
          let counted = k.roll.counted in
          let up = upper_half (found + 4294967297) (k.next + U + 1) (O + 1) (omega (arith, found_is, counted)) (omega (arith, few)) in
          let low = lower_half (found + 4294967297) (k.next + U + 1) (O + 1) (omega (arith, found_is, counted)) (omega (arith, few)) in
          let fewer = k.roll.fewer in
          told_after (found + 4294967297) both (omega (arith, up, low, fewer))
          (precedes_by found (found + 4294967297) (k.next + U) O (k.next + U + 1) (O + 1) drawn_is out_is up low (λ h. omega arith) (omega (arith, fewer))) stage

      told_found : ((P : ℕ → Type 0) → P found → P found → P move.0 × P move.1) → (stage : Stage) → Told found (set s.views id (at_stage stage))
      told_found both stage = told_after found both follows.0 (precedes_by found found (drawn_in found) (out_in found) (drawn_in found) (out_in found) refl refl refl refl (λ h. omega arith) (omega arith)) stage

      -- past all numbers both halves are to be undone
      roll_undoes : ((P : ℕ → Type 0) → P found → P (found + 4294967297) → P move.0 × P move.1) → 4294967168 ≤ drawn_in found → Roll items number base callers k.list k.made k.next (found + 4294967297) (set s.views id (at_stage Undoes))
      roll_undoes both h =
          let r = k.roll in
          let small = r.small in
          let all_drawn : k.next ≡ 4294967168 = dite (dec_le U 0) (λ z. omega (arith, z, h, drawn_is, small)) (λ z. r.spent (omega (arith, z))) in record {
            counted = omega (arith, r.counted, found_is, undone_moved Undoes, out_moved Undoes);
            fewer = (let fewer = r.fewer in omega (arith, fewer, undone_moved Undoes, out_moved Undoes));
            drawn = drawn_undone both h;
            gone = λ n. same_after gone_in (found + 4294967297) both none_gone Undoes n (r.gone n);
            told = told_drawn both Undoes;
            small = small;
            spent = λ _. all_drawn;
            passes = omega (arith, passes_moved Undoes, r.passes);
            numbers = λ n. let e = numbers_moved Undoes n in let o = r.numbers n in (omega (arith, e, o.0), λ l. let z = o.1 l in omega (arith, e, z));
            given = λ n. let e = given_moved Undoes n in let g = r.given n in (omega (arith, e, g.0), g.1, g.2);
            entered = r.entered;
            whole = λ l. r.whole (omega (arith, l, low_moved Undoes));
          }

      abbrev new_stage : Stage
      new_stage = Enrols (drawn_in found) (out_in found)

      none_undone : drawn_in found < 4294967168 → U ≡ 0
      none_undone h = dite (dec_le U 0) (λ z. omega (arith, z)) (λ z. let all_drawn = k.roll.spent (omega (arith, z)) in absurd (omega (arith, all_drawn, h, drawn_is)))

      next_is : drawn_in found < 4294967168 → drawn_in found ≡ k.next
      next_is h = omega (arith, drawn_is, none_undone h)

      room : place_count callers new_stage + sum_by (passes_of callers) s.views ≤ callers
      room =
          let most = k.roll.passes in
          let seen = places-le-out items number base callers origin s k id accounts at some_pass in
          dite (dec_lt (out_in found) callers)
          (λ h. omega (arith, one_low (out_in found) callers h, h, out_is, seen))
          (λ h. omega (arith, none_low (out_in found) callers (omega (arith, h)), most))

      no_low : callers ≤ drawn_in found → low_count callers new_stage ≡ 0
      no_low h = ap (λ (b : Bool). cond b (cond (nat_lt (out_in found) callers) 1 0) 0) (le-ltb (drawn_in found) callers h)

      -- the passes that were made, with the one to come where there is room
      abbrev made_after : List ℕ
      made_after = if nat_lt (out_in found) callers then k.made ++ drawn_in found ∷ [] else k.made

      times_after : (n : ℕ) → times n made_after ≡ times n k.made + coming_count callers n new_stage
      times_after n = times_more n (drawn_in found) k.made (nat_lt (out_in found) callers)

      next_above : (n : ℕ) → times n k.made ≡ 1 → n < k.next
      next_above n one = dite (dec_lt n k.next) (λ h. h) (λ h. let none_there = (k.roll.given n).2 (omega (arith, h)) in absurd (omega (arith, one, none_there)))

      roll_enrols : ((P : ℕ → Type 0) → P found → P (found + 4294967297) → P move.0 × P move.1) → length accounts ≡ 1 → move ≡ drawing found → drawn_in found < 4294967168 → Roll items number base callers k.list made_after (k.next + 1) (found + 4294967297) (set s.views id (at_stage new_stage))
      roll_enrols both one_pass is h =
          let r = k.roll in
          let z = none_undone h in
          let m = next_is h in record {
            counted = omega (arith, r.counted, found_is, undone_moved new_stage, out_moved new_stage);
            fewer = (let fewer = r.fewer in omega (arith, fewer, undone_moved new_stage, out_moved new_stage));
            drawn = drawn_enrolled one_pass is;
            gone = λ n. same_after gone_in (found + 4294967297) both none_gone new_stage n (r.gone n);
            told = told_drawn both new_stage;
            small = omega (arith, h, m);
            spent = λ l. absurd (omega (arith, l, z, undone_moved new_stage));
            passes = omega (arith, passes_moved new_stage, room);
            numbers = λ n. let e = numbers_moved new_stage n in let o = r.numbers n in
                dite (ℕ_discrete (drawn_in found) n)
                (λ same. let one = one_if_same (drawn_in found) n same in let before = o.1 (omega (arith, same, m)) in (omega (arith, e, one, before), λ l. absurd (omega (arith, l, same, m))))
                (λ other. let no = none_if_other (drawn_in found) n other in (omega (arith, e, no, o.0), λ l. let before = o.1 (omega (arith, l)) in omega (arith, e, no, before)));
            given = λ n. let e = given_moved new_stage n in let g = r.given n in let t = times_after n in let c = coming-le-same callers n new_stage in
                dite (ℕ_discrete (drawn_in found) n)
                (λ same. let one = one_if_same (drawn_in found) n same in let before = g.2 (omega (arith, same, m)) in (omega (arith, e, g.0, t), omega (arith, t, before, c, one), λ l. absurd (omega (arith, l, same, m))))
                (λ other. let no = none_if_other (drawn_in found) n other in (omega (arith, e, g.0, t), omega (arith, t, g.1, c, no), λ l. let before = g.2 (omega (arith, l)) in omega (arith, t, before, c, no)));
            entered = All-weaker (λ e. times (number e) k.made ≡ 1) (λ e. times (number e) made_after ≡ 1)
                (λ e one. let below = next_above (number e) one in let c = coming-le-same callers (number e) new_stage in let no = none_if_other (drawn_in found) (number e) (λ same. omega (arith, same, below, m)) in omega (arith, times_after (number e), one, c, no)) k.list r.entered;
            whole = λ l n high. let t = times_after n in let c = coming-le-same callers n new_stage in
                dite (dec_lt (drawn_in found) callers)
                (λ low. let no = none_if_other (drawn_in found) n (λ same. omega (arith, same, low, high)) in let before = (r.given n).2 (omega (arith, low, high, m)) in omega (arith, t, c, no, before))
                (λ late. let stays = no_low (omega (arith, late)) in
                let full : callers ≤ sum_by (low_of callers) s.views = omega (arith, l, low_moved new_stage, stays) in
                let before = r.whole full n high in
                let few = lows-le-passes callers s.views in
                let most : place_count callers new_stage ≡ 0 = omega (arith, room, full, few) in
                let c' = coming-le-place callers n new_stage in omega (arith, t, before, c', most));
          }

      -- the word after the step
      word_more : (found + 4294967297) % 2 ^ 64 ≡ found + 4294967297
      word_more =
          let small = k.roll.small in
          let few = outs_few items number base callers origin s k in
          let undone = undone_few items number base callers origin s k in
          omega (arith, k.roll.counted, found_is, small, few, undone)

      below : drawn_in found < 4294967168 → number_in accounts < drawn_in found
      below h =
          let n = number_in accounts in
          let part = part-le-sum_by (with_number n) s.views id v at in
          let mine = first_number callers n accounts some_pass refl in
          dite (dec_lt n (drawn_in found)) (λ l. l) (λ l. let none_there = (k.roll.numbers n).1 (omega (arith, l, next_is h)) in absurd (omega (arith, part, mine, none_there)))

      -- a look at the roll that finds no other pass
      roll_alone : ((P : ℕ → Type 0) → P found → P found → P move.0 × P move.1) → out_in found ≡ 1 → Roll items number base callers k.list k.made k.next found (set s.views id (at_stage Alone))
      roll_alone both h =
          let r = k.roll in
          let seen = places-le-out items number base callers origin s k id accounts at some_pass in
          let part = part-le-sum_by (passes_of callers) s.views id v at in
          let most = r.passes in record {
            counted = omega (arith, r.counted, found_is, undone_moved Alone, out_moved Alone);
            fewer = (let fewer = r.fewer in omega (arith, fewer, undone_moved Alone, out_moved Alone));
            drawn = λ n small. same_after drawn_in found both refl Alone n (r.drawn n small);
            gone = λ n. same_after gone_in found both refl Alone n (r.gone n);
            told = told_found both Alone;
            small = r.small;
            spent = λ l. r.spent (omega (arith, l, undone_moved Alone));
            passes = omega (arith, passes_moved Alone, seen, h, out_is, part, some_pass, most);
            numbers = λ n. let e = numbers_moved Alone n in let o = r.numbers n in (omega (arith, e, o.0), λ l. let z = o.1 l in omega (arith, e, z));
            given = λ n. let e = given_moved Alone n in let g = r.given n in (omega (arith, e, g.0), g.1, g.2);
            entered = r.entered;
            whole = λ l. r.whole (omega (arith, l, low_moved Alone));
          }

      roll_others : ((P : ℕ → Type 0) → P found → P found → P move.0 × P move.1) → Roll items number base callers k.list k.made k.next found (set s.views id (at_stage Idle))
      roll_others both =
          let r = k.roll in record {
            counted = omega (arith, r.counted, found_is, undone_moved Idle, out_moved Idle);
            fewer = (let fewer = r.fewer in omega (arith, fewer, undone_moved Idle, out_moved Idle));
            drawn = λ n small. same_after drawn_in found both refl Idle n (r.drawn n small);
            gone = λ n. same_after gone_in found both refl Idle n (r.gone n);
            told = told_found both Idle;
            small = r.small;
            spent = λ l. r.spent (omega (arith, l, undone_moved Idle));
            passes = omega (arith, passes_moved Idle, r.passes);
            numbers = λ n. let e = numbers_moved Idle n in let o = r.numbers n in (omega (arith, e, o.0), λ l. let z = o.1 l in omega (arith, e, z));
            given = λ n. let e = given_moved Idle n in let g = r.given n in (omega (arith, e, g.0), g.1, g.2);
            entered = r.entered;
            whole = λ l. r.whole (omega (arith, l, low_moved Idle));
          }

    module _ (s : State (Option V) (View I B)) (k : Rule s) (id : ℕ) (accounts : List (Account I B)) (at : get_elem? s.views id ≡ some (view_of accounts Idle)) (some_pass : 0 < length accounts) (found : ℕ) (found_is : found ≡ k.word) (slots : ℕ) where
      enrol_undoes : 4294967168 ≤ drawn_in found
          → (w : View I B) × (a : Act (Option V)) × Valid s.homes [] a × Rule (stepped s 2 ((found + 4294967297) % 2 ^ 64) id [] w a) × Enrolls number (step slots 2 4294967297 0 none) (view_of accounts Idle, []) found (w, carried_after [] a)
      enrol_undoes h =
          let w : View I B = view_of (map (moved (drawing found)) accounts) Undoes in (
            w,
            keeps,
            tt,
            subst (λ (n : ℕ). Rule (stepped s 2 n id [] w keeps)) (sym (word_more s k id accounts at some_pass found found_is (drawing found)))
                (rolled s k id accounts (map (moved (drawing found)) accounts) Idle Undoes at refl (λ t. refl) refl
                record { fits = fits s k id accounts at some_pass found found_is (drawing found); stands = omega (arith, wide s k id accounts at some_pass found found_is (drawing found), some_pass) }
                [] k.made k.next (found + 4294967297) (roll_undoes s k id accounts at some_pass found found_is (drawing found) (λ P p q. (p, q)) h)),
            ((λ _. refl), (λ l. absurd (omega (arith, l, h))), follows s k id accounts at some_pass found found_is (drawing found)),
          )

      enrol_draws : length accounts ≡ 1 → drawn_in found < 4294967168
          → (w : View I B) × (a : Act (Option V)) × Valid s.homes [] a × Rule (stepped s 2 ((found + 4294967297) % 2 ^ 64) id [] w a) × Enrolls number (step slots 2 4294967297 0 none) (view_of accounts Idle, []) found (w, carried_after [] a)
      enrol_draws one_pass h =
          let stage : Stage = Enrols (drawn_in found) (out_in found) in
          let w : View I B = view_of (map (moved (drawing found)) accounts) stage in
          let none_entered = ap (λ (n : ℕ). of_pass number n k.list) (next_is s k id accounts at some_pass found found_is (drawing found) h) ∙ of_pass-undrawn number k.next k.list (entered_below items number base callers k.list k.made k.next k.word s.views k.roll) in (
            w,
            keeps,
            tt,
            subst (λ (n : ℕ). Rule (stepped s 2 n id [] w keeps)) (sym (word_more s k id accounts at some_pass found found_is (drawing found)))
                (rolled s k id accounts (map (moved (drawing found)) accounts) Idle stage at refl (λ t. refl) refl
                record { fits = fits s k id accounts at some_pass found found_is (drawing found); stands = (omega (arith, wide s k id accounts at some_pass found found_is (drawing found), some_pass), none_entered) }
                [] (made_after s k id accounts at some_pass found found_is (drawing found)) (k.next + 1) (found + 4294967297) (roll_enrols s k id accounts at some_pass found found_is (drawing found) (λ P p q. (p, q)) one_pass refl h)),
            ((λ l. absurd (omega (arith, l, h))), (λ _. (refl, below s k id accounts at some_pass found found_is (drawing found) h, none_seen (drawn_in found) k.list origin accounts some_pass (k.each_pass id (view_of accounts Idle) at).fits none_entered)), follows s k id accounts at some_pass found found_is (drawing found)),
          )

      counts_alone : out_in found ≡ 1
          → (w : View I B) × (a : Act (Option V)) × Valid s.homes [] a × Rule (stepped s 2 found id [] w a) × Counts (step slots 2 0 0 none) (view_of accounts Idle, []) found (w, carried_after [] a)
      counts_alone h = (
        view_of (map (moved (looking found)) accounts) Alone,
        keeps,
        tt,
        rolled s k id accounts (map (moved (looking found)) accounts) Idle Alone at refl (λ t. refl) refl
            record { fits = fits s k id accounts at some_pass found found_is (looking found); stands = omega (arith, wide s k id accounts at some_pass found found_is (looking found), some_pass) }
            [] k.made k.next found (roll_alone s k id accounts at some_pass found found_is (looking found) (λ P p q. (p, q)) h),
        ((λ _. refl), (λ l. absurd (l h)), follows s k id accounts at some_pass found found_is (looking found)),
      )

      counts_others : out_in found ≢ 1
          → (w : View I B) × (a : Act (Option V)) × Valid s.homes [] a × Rule (stepped s 2 found id [] w a) × Counts (step slots 2 0 0 none) (view_of accounts Idle, []) found (w, carried_after [] a)
      counts_others h =
          let part = part-le-sum_by out_of s.views id (view_of accounts Idle) at in
          let out_is' = out_is s k id accounts at some_pass found found_is (looking found) in (
            view_of (map (moved (looking found)) accounts) Idle,
            keeps,
            tt,
            rolled s k id accounts (map (moved (looking found)) accounts) Idle Idle at refl (λ t. refl) refl record { fits = fits s k id accounts at some_pass found found_is (looking found); stands = tt }
                [] k.made k.next found (roll_others s k id accounts at some_pass found found_is (looking found) (λ P p q. (p, q))),
            ((λ l. absurd (h l)), (λ _. (refl, omega (arith, part, out_is', some_pass, h))), follows s k id accounts at some_pass found found_is (looking found)),
          )

    pub enrols : (slots id : ℕ) (accounts : List (Account I B)) → length accounts ≡ 1 → Allows Rule slots id (view_of accounts Idle, []) 2 (λ n. (n + 4294967297) % 2 ^ 64) (Enrolls number (step slots 2 4294967297 0 none) (view_of accounts Idle, []))
    enrols slots id accounts one_pass s k sized at small =
        let found_is : get_or s.words 2 0 ≡ k.word = ap (λ (l : List ℕ). get_or l 2 0) k.words in
        let some_pass : 0 < length accounts = omega (arith, one_pass) in
        dite (dec_lt (drawn_in (get_or s.words 2 0)) 4294967168)
        (λ h. enrol_draws s k id accounts at some_pass (get_or s.words 2 0) found_is slots one_pass h)
        (λ h. enrol_undoes s k id accounts at some_pass (get_or s.words 2 0) found_is slots (omega (arith, h)))

    pub counts : (slots id : ℕ) (accounts : List (Account I B)) → 0 < length accounts → Allows Rule slots id (view_of accounts Idle, []) 2 (λ n. n) (Counts (step slots 2 0 0 none) (view_of accounts Idle, []))
    counts slots id accounts some_pass s k sized at small =
        let found_is : get_or s.words 2 0 ≡ k.word = ap (λ (l : List ℕ). get_or l 2 0) k.words in
        dite (ℕ_discrete (out_in (get_or s.words 2 0)) 1)
        (λ h. counts_alone s k id accounts at some_pass (get_or s.words 2 0) found_is slots h)
        (λ h. counts_others s k id accounts at some_pass (get_or s.words 2 0) found_is slots h)
