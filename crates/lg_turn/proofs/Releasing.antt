-- A pass that takes out of the roll what it has too many there keeps the rule.
use Rattle.std.proofs.Common.{◌≡◌, ℕ, ◌+◌, ◌-◌, ◌*◌, ◌%◌, ◌^◌, ◌<◌, ◌≤◌, List, [], length, map, cond, ◌∙◌, set, get_or, arith, ap, sym, refl, subst, Option}
use mathlib.Core.Option.{some, none}
use mathlib.Core.Logic.{dite}
use native.Mathlib.Decide.{dec_le}
use lib.ListN.{get_elem?}
use Rattle.std.specs.Prelude.{nat_lt}
use Rattle.std.specs.List.{sum_by}
use Rattle.atomic_table.specs.Table.{State, Act, step, keeps, stepped, carried_after, Valid, Allows}
use Rattle.lg_turn.specs.declared.view.Account.{Account}
use Rattle.lg_turn.specs.declared.view.View.{View}
use Rattle.lg_turn.specs.declared.view.Stage.{Stage}
use Rattle.lg_turn.specs.declared.view.Stage.TheVariants.{Idle, Waits, Holds, Enrols, Undoes, Alone}
use Rattle.lg_turn.specs.Views.{releasing, rise_count, gone_in, view_of, drawn_in, out_in, Precedes, MayFollow}
use Rattle.lg_turn.specs.Rule.{passes_of, with_number, made_of, moves_of, low_of, out_of, undone_of, ticket_count, same_ticket, value_count, out_count, undone_count, Told, Roll, IsKept}
use Rattle.lg_turn.specs.Steps.{moved, Releases}
use Rattle.std.proofs.lemmas.List.{length-map}
use Rattle.lg_turn.proofs.Sums.{sum_by_set}
use Rattle.lg_turn.proofs.Accounts.{numbers_map, lows_map, moves_moved, one_moved}
use Rattle.lg_turn.proofs.Counts.{one_low, no_rise, one_rise}
use Rattle.lg_turn.proofs.Rolls.{outs_few, undone_few, upper_half, lower_half}
use Rattle.lg_turn.proofs.Told.{told_on, precedes_by, each_found_set, each_word_moved, each_word_weaker}
use Rattle.lg_turn.proofs.Enrolling.{fits_moved, rolled}

-- who has a place too many in the roll has no ticket and no value
quiet : (stage : Stage) → out_count stage ≡ 1 → (0 ≡ ticket_count stage) × ((t : ℕ) → 0 ≡ same_ticket t stage) × (0 ≡ value_count stage)
quiet Idle h = absurd (omega arith)
quiet (Waits t) h = absurd (omega arith)
quiet (Holds t) h = absurd (omega arith)
quiet (Enrols n out) h = (refl, (λ t. refl), refl)
quiet Undoes h = (refl, (λ t. refl), refl)
quiet Alone h = absurd (omega arith)

undone-le-one : (stage : Stage) → undone_count stage ≤ 1
undone-le-one Idle = omega arith
undone-le-one (Waits t) = omega arith
undone-le-one (Holds t) = omega arith
undone-le-one (Enrols n out) = omega arith
undone-le-one Undoes = omega arith
undone-le-one Alone = omega arith

module _ {V I B : Type 0} (items : V → List I) (number : I → ℕ) (base : V → B) (callers : ℕ) (origin : B) where
  abbrev Rule : State (Option V) (View I B) → Type 0
  Rule = IsKept items number base callers origin

  module _ (s : State (Option V) (View I B)) (k : Rule s) (id excess : ℕ) (accounts : List (Account I B)) (stage : Stage) (one_pass : length accounts ≡ 1) (one_out : out_count stage ≡ 1) (is : excess ≡ undone_count stage * 4294967296 + 1)
      (at : get_elem? s.views id ≡ some (view_of accounts stage)) where
    abbrev v : View I B
    v = view_of accounts stage

    abbrev move : ℕ × ℕ
    move = releasing excess k.word

    abbrev w : View I B
    w = view_of (map (moved move) accounts) Idle

    wide : length (map (moved move) accounts) ≡ length accounts
    wide = length-map accounts (moved move)

    out_moved : sum_by out_of (set s.views id w) + 1 ≡ sum_by out_of s.views
    out_moved = let m = sum_by_set out_of s.views id v w at in omega (arith, m, wide, one_out)

    undone_moved : sum_by undone_of (set s.views id w) + undone_count stage ≡ sum_by undone_of s.views
    undone_moved = let m = sum_by_set undone_of s.views id v w at in omega (arith, m)

    passes_moved : sum_by (passes_of callers) (set s.views id w) ≤ sum_by (passes_of callers) s.views
    passes_moved = let m = sum_by_set (passes_of callers) s.views id v w at in omega (arith, m, wide)

    numbers_moved : (n : ℕ) → sum_by (with_number n) (set s.views id w) ≤ sum_by (with_number n) s.views
    numbers_moved n = let m = sum_by_set (with_number n) s.views id v w at in omega (arith, m, numbers_map (moved move) (λ a. refl) n accounts)

    made_moved : (n : ℕ) → sum_by (made_of callers n) (set s.views id w) ≤ sum_by (made_of callers n) s.views
    made_moved n = let m = sum_by_set (made_of callers n) s.views id v w at in omega (arith, m, numbers_map (moved move) (λ a. refl) n accounts)

    low_moved : sum_by (low_of callers) (set s.views id w) ≤ sum_by (low_of callers) s.views
    low_moved = let m = sum_by_set (low_of callers) s.views id v w at in omega (arith, m, lows_map (moved move) (λ a. refl) callers accounts)

    word_less : (k.word + (2 ^ 64 - excess)) % 2 ^ 64 ≡ k.word - excess
    word_less =
        let small = k.roll.small in
        let few = outs_few items number base callers origin s k in
        let undone = undone_few items number base callers origin s k in
        omega (arith, k.roll.counted, small, few, undone, out_moved, undone_moved, is)

    abbrev numbers_now : ℕ
    numbers_now = k.next + sum_by undone_of s.views

    up : drawn_in k.word ≡ numbers_now
    up = let few = outs_few items number base callers origin s k in upper_half k.word numbers_now (sum_by out_of s.views) k.roll.counted (omega (arith, few))

    low : out_in k.word ≡ sum_by out_of s.views
    low = let few = outs_few items number base callers origin s k in lower_half k.word numbers_now (sum_by out_of s.views) k.roll.counted (omega (arith, few))

    follows : MayFollow accounts k.word
    follows = (
      (let fewer = k.roll.fewer in omega (arith, up, low, fewer)),
      each_word_weaker (λ earlier. (out_in earlier ≤ drawn_in earlier) × Precedes earlier k.word) (λ earlier. Precedes earlier k.word) (λ earlier b. b.1) accounts (k.roll.told.behind id v at),
    )

    abbrev left : ℕ
    left = k.word - excess

    left_is : left ≡ (numbers_now - undone_count stage) * 4294967296 + (sum_by out_of s.views - 1)
    left_is = let counted = k.roll.counted in omega (arith, counted, is, out_moved, undone_moved)

    up_after : drawn_in left ≡ numbers_now - undone_count stage
    up_after = let few = outs_few items number base callers origin s k in upper_half left (numbers_now - undone_count stage) (sum_by out_of s.views - 1) left_is (omega (arith, few))

    low_after : out_in left ≡ sum_by out_of s.views - 1
    low_after = let few = outs_few items number base callers origin s k in lower_half left (numbers_now - undone_count stage) (sum_by out_of s.views - 1) left_is (omega (arith, few))

    drawn_after : (n : ℕ) → n < 4294967168 → sum_by (moves_of (rise_count drawn_in n)) (set s.views id w) ≡ cond (nat_lt n (drawn_in left)) 1 0
    drawn_after n small =
        let m = sum_by_set (moves_of (rise_count drawn_in n)) s.views id v w at in
        let none = no_rise drawn_in n move (omega (arith, up, up_after)) in
        let stays : sum_by (moves_of (rise_count drawn_in n)) (set s.views id w) ≡ sum_by (moves_of (rise_count drawn_in n)) s.views = omega (arith, m, moves_moved (rise_count drawn_in n) move none accounts) in
        let before = k.roll.drawn n small in
        let one = undone-le-one stage in
        dite (dec_le (undone_count stage) 0)
        (λ z. let same : drawn_in left ≡ drawn_in k.word = omega (arith, z, up, up_after) in stays ∙ before ∙ ap (λ (d : ℕ). cond (nat_lt n d) 1 0) (sym same))
        (λ some. let all_drawn = k.roll.spent (omega (arith, some, undone_moved)) in
        omega (arith, stays, before, one_low n (drawn_in k.word) (omega (arith, up, all_drawn, small)), one_low n (drawn_in left) (omega (arith, up_after, all_drawn, small, one, undone_moved))))

    -- where the number is undone too nobody goes
    gone_after : (n : ℕ) → sum_by (moves_of (rise_count gone_in n)) (set s.views id w) ≡ cond (nat_lt n (gone_in left)) 1 0
    gone_after n =
        let fewer = k.roll.fewer in
        let one = undone-le-one stage in
        let before = k.roll.gone n in
        let m = sum_by_set (moves_of (rise_count gone_in n)) s.views id v w at in
        dite (dec_le (undone_count stage) 0)
        (λ z. let goes = one_rise gone_in n move (omega (arith, z, up, low, up_after, low_after, fewer, out_moved, undone_moved)) in omega (arith, goes, before, m, one_moved (rise_count gone_in n) move accounts one_pass))
        (λ some. let same : gone_in left ≡ gone_in k.word = omega (arith, some, one, up, low, up_after, low_after, fewer, out_moved, undone_moved) in
        let none = no_rise gone_in n move (omega (arith, same)) in
        let stays : sum_by (moves_of (rise_count gone_in n)) (set s.views id w) ≡ sum_by (moves_of (rise_count gone_in n)) s.views = omega (arith, m, moves_moved (rise_count gone_in n) move none accounts) in
        stays ∙ before ∙ ap (λ (g : ℕ). cond (nat_lt n g) 1 0) (sym same))

    told_released : Told (k.word - excess) (set s.views id w)
    told_released =
        let fewer = k.roll.fewer in
        let spent = k.roll.spent in
        let one = undone-le-one stage in
        told_on k.word (k.word - excess) s.views (set s.views id w) k.roll.told follows.0 (omega (arith, up_after, low_after, fewer, out_moved, undone_moved, one))
        (precedes_by k.word (k.word - excess) numbers_now (sum_by out_of s.views) (numbers_now - undone_count stage) (sum_by out_of s.views - 1) up low up_after low_after
        (λ h. dite (dec_le (undone_count stage) 0) (λ z. omega (arith, z)) (λ some. let all_drawn = spent (omega (arith, some, undone_moved)) in absurd (omega (arith, all_drawn, h, undone_moved))))
        (omega (arith, fewer, out_moved, undone_moved, one)))
        (λ P h p q. each_found_set P s.views id w h (each_word_moved P move accounts p q (h id v at)))

    roll_released : Roll items number base callers k.list k.made k.next (k.word - excess) (set s.views id w)
    roll_released =
        let r = k.roll in record {
          counted = omega (arith, r.counted, out_moved, undone_moved, is);
          fewer = (let fewer = r.fewer in let one = undone-le-one stage in omega (arith, fewer, out_moved, undone_moved, one));
          drawn = drawn_after;
          gone = gone_after;
          told = told_released;
          small = r.small;
          spent = λ h. r.spent (omega (arith, h, undone_moved));
          passes = omega (arith, passes_moved, r.passes);
          numbers = λ n. let less = numbers_moved n in let o = r.numbers n in (omega (arith, less, o.0), λ l. let z = o.1 l in omega (arith, less, z));
          given = λ n. let less = made_moved n in let once = r.given n in (omega (arith, less, once.0), once.1, once.2);
          entered = r.entered;
          whole = λ h. r.whole (omega (arith, h, low_moved));
        }

    released : Rule (stepped s 2 ((k.word + (2 ^ 64 - excess)) % 2 ^ 64) id [] w keeps)
    released =
        let q = quiet stage one_out in
        subst (λ (n : ℕ). Rule (stepped s 2 n id [] w keeps)) (sym word_less)
        (rolled items number base callers origin s k id accounts (map (moved move) accounts) stage Idle at q.0 q.1 q.2 record { fits = fits_moved items number base origin k.list move accounts (k.each_pass id v at).fits; stands = tt } [] k.made k.next (k.word - excess) roll_released)

  pub releases : (slots id excess : ℕ) (accounts : List (Account I B)) (stage : Stage) → length accounts ≡ 1 → out_count stage ≡ 1 → excess ≡ undone_count stage * 4294967296 + 1
      → Allows Rule slots id (view_of accounts stage, []) 2 (λ n. (n + (2 ^ 64 - excess)) % 2 ^ 64) (Releases (step slots 2 excess 0 none) (view_of accounts stage, []))
  releases slots id excess accounts stage one_pass one_out is s k sized at small =
      let found_is : get_or s.words 2 0 ≡ k.word = ap (λ (l : List ℕ). get_or l 2 0) k.words in
      let w : View I B = view_of (map (moved (releasing excess k.word)) accounts) Idle in
      subst (λ (n : ℕ). (u : View I B) × (c : Act (Option V)) × Valid s.homes [] c × Rule (stepped s 2 ((n + (2 ^ 64 - excess)) % 2 ^ 64) id [] u c) × Releases (step slots 2 excess 0 none) (view_of accounts stage, []) n (u, carried_after [] c)) (sym found_is)
      (w, keeps, tt, released s k id excess accounts stage one_pass one_out is at, (refl, follows s k id excess accounts stage one_pass one_out is at))
