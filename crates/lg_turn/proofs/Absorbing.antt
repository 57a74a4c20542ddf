-- A pass that is taken into another keeps the rule, and both have seen beginnings of one list.
use Rattle.std.proofs.Common.{◌≡◌, ℕ, ◌+◌, ◌-◌, ◌*◌, ◌%◌, ◌^◌, ◌<◌, ◌≤◌, List, [], ◌∷◌, ◌++◌, length, set, get_or, arith, ap, sym, refl, ◌∙◌, subst, Option, Bool, cond}
use mathlib.Core.Option.{some, none}
use mathlib.Core.Logic.{dite}
use native.Mathlib.Decide.{dec_lt}
use lib.ListN.{get_elem?}
use Rattle.std.specs.Prelude.{◌==◌, nat_lt, if◌then◌else◌}
use Rattle.std.specs.List.{sum_by, All}
use Rattle.std.proofs.lemmas.Bool.{lt-ltb, le-ltb}
use Rattle.std.proofs.lemmas.List.{append-nil}
use Rattle.std.proofs.lemmas.List.Sums.{sum_by-cons, sum_by-append}
use Rattle.std.proofs.lemmas.List.Elements.{All-append, All-nil, All-cons, All-head, All-tail}
use Rattle.atomic_table.specs.Table.{State, Act, Me, step, keeps, stepped, carried_after, Valid, Allows}
use Rattle.lg_turn.specs.declared.view.Account.{Account}
use Rattle.lg_turn.specs.declared.view.View.{View}
use Rattle.lg_turn.specs.declared.view.Stage.TheVariants.{Idle}
use Rattle.lg_turn.specs.Views.{leaving, rise_count, gone_in, BeginsWith, of_pass, account_of, view_of, number_in, seen_in, longer, drawn_in, out_in, Precedes, MayFollow}
use Rattle.lg_turn.specs.Rule.{passes_of, with_number, made_of, moves_of, low_of, out_of, undone_of, Told, Fits, Roll, IsKept}
use Rattle.lg_turn.specs.Steps.{Absorbs}
use Rattle.lg_turn.proofs.Sums.{sum_by_set, part-le-sum_by}
use Rattle.lg_turn.proofs.Counts.{one_if_same, no_rise, one_rise}
use Rattle.lg_turn.proofs.Entries.{of_pass-between}
use Rattle.lg_turn.proofs.Told.{told_on, precedes_by, each_found_set, each_word_one, each_word_weaker}
use Rattle.lg_turn.proofs.Rolls.{outs_few, undone_few, upper_half, lower_half}
use Rattle.lg_turn.proofs.Enrolling.{rolled}
use Rattle.lg_turn.proofs.One.{only_account}

module _ {I : Type 0} where
  -- of two beginnings of one list the longer one begins with the shorter
  shorter_begins : (xs ys r r' : List I) → xs ++ r ≡ ys ++ r' → length xs ≤ length ys → BeginsWith ys xs
  shorter_begins [] ys r r' e h = (ys, refl)
  shorter_begins (x ∷ xs) [] r r' e h = absurd (omega arith)
  shorter_begins (x ∷ xs) (y ∷ ys) r r' e h =
      let heads : x ≡ y = cc in
      let tails : xs ++ r ≡ ys ++ r' = cc in
      let more = shorter_begins xs ys r r' tails (omega arith) in
      (more.0, λ i. sym heads i ∷ more.1 i)

  begins_itself : (xs : List I) → BeginsWith xs xs
  begins_itself xs = ([], sym (append-nil xs))

  -- the longer one begins with both, and the list with it
  longer_begins : (list xs ys : List I) → BeginsWith list xs → BeginsWith list ys → BeginsWith list (longer xs ys) × BeginsWith (longer xs ys) xs × BeginsWith (longer xs ys) ys
  longer_begins list xs ys x y = dite (dec_lt (length xs) (length ys))
      (λ h. subst (λ (b : Bool). BeginsWith list (cond b ys xs) × BeginsWith (cond b ys xs) xs × BeginsWith (cond b ys xs) ys) (sym (lt-ltb (length xs) (length ys) h))
      (y, shorter_begins xs ys x.0 y.0 (sym x.1 ∙ y.1) (omega (arith, h)), begins_itself ys))
      (λ h. subst (λ (b : Bool). BeginsWith list (cond b ys xs) × BeginsWith (cond b ys xs) xs × BeginsWith (cond b ys xs) ys) (sym (le-ltb (length xs) (length ys) (omega (arith, h))))
      (x, begins_itself xs, shorter_begins ys xs y.0 x.0 (sym y.1 ∙ x.1) (omega (arith, h))))

module _ {V I B : Type 0} (items : V → List I) (number : I → ℕ) (base : V → B) (callers : ℕ) (origin : B) where
  abbrev Rule : State (Option V) (View I B) → Type 0
  Rule = IsKept items number base callers origin

  module _ (s : State (Option V) (View I B)) (k : Rule s) (id : ℕ) (b a : Account I B) (at : get_elem? s.views id ≡ some (view_of (b ∷ a ∷ []) Idle)) where
    abbrev v : View I B
    v = view_of (b ∷ a ∷ []) Idle

    abbrev one_pass : Account I B
    one_pass = account_of a.number a.base (longer a.seen b.seen) a.own (leaving k.word ∷ (a.moves ++ b.moves))

    abbrev w : View I B
    w = view_of (one_pass ∷ []) Idle

    out_moved : sum_by out_of (set s.views id w) + 1 ≡ sum_by out_of s.views
    out_moved = let m = sum_by_set out_of s.views id v w at in omega (arith, m)

    undone_moved : sum_by undone_of (set s.views id w) ≡ sum_by undone_of s.views
    undone_moved = let m = sum_by_set undone_of s.views id v w at in omega (arith, m)

    passes_moved : sum_by (passes_of callers) (set s.views id w) ≤ sum_by (passes_of callers) s.views
    passes_moved = let m = sum_by_set (passes_of callers) s.views id v w at in omega (arith, m)

    numbers_moved : (n : ℕ) → sum_by (with_number n) (set s.views id w) ≤ sum_by (with_number n) s.views
    numbers_moved n =
        let one : Account I B → ℕ = λ c. if c.number == n then 1 else 0 in
        let m = sum_by_set (with_number n) s.views id v w at in
        omega (arith, m, sum_by-cons one b (a ∷ []), sum_by-cons one a [], sum_by-cons one one_pass [])

    made_moved : (n : ℕ) → sum_by (made_of callers n) (set s.views id w) ≤ sum_by (made_of callers n) s.views
    made_moved n =
        let one : Account I B → ℕ = λ c. if c.number == n then 1 else 0 in
        let m = sum_by_set (made_of callers n) s.views id v w at in
        omega (arith, m, sum_by-cons one b (a ∷ []), sum_by-cons one a [], sum_by-cons one one_pass [])

    moves_after : (count : ℕ × ℕ → ℕ) → sum_by (moves_of count) (set s.views id w) ≡ sum_by (moves_of count) s.views + count (leaving k.word)
    moves_after count =
        let moves : Account I B → ℕ = λ c. sum_by count c.moves in
        let m = sum_by_set (moves_of count) s.views id v w at in
        omega (arith, m, sum_by-cons moves b (a ∷ []), sum_by-cons moves a [], sum_by-cons moves one_pass [], sum_by-cons count (leaving k.word) (a.moves ++ b.moves), sum_by-append count a.moves b.moves)

    low_moved : sum_by (low_of callers) (set s.views id w) ≤ sum_by (low_of callers) s.views
    low_moved =
        let one : Account I B → ℕ = λ c. if nat_lt c.number callers then 1 else 0 in
        let m = sum_by_set (low_of callers) s.views id v w at in
        omega (arith, m, sum_by-cons one b (a ∷ []), sum_by-cons one a [], sum_by-cons one one_pass [])

    word_less : (k.word + (2 ^ 64 - 1)) % 2 ^ 64 ≡ k.word - 1
    word_less =
        let small = k.roll.small in
        let few = outs_few items number base callers origin s k in
        let undone = undone_few items number base callers origin s k in
        omega (arith, k.roll.counted, small, few, undone, out_moved)

    abbrev numbers_now : ℕ
    numbers_now = k.next + sum_by undone_of s.views

    abbrev O : ℕ
    O = sum_by out_of s.views

    up : drawn_in k.word ≡ numbers_now
    up = let few = outs_few items number base callers origin s k in upper_half k.word numbers_now O k.roll.counted (omega (arith, few))

    low : out_in k.word ≡ O
    low = let few = outs_few items number base callers origin s k in lower_half k.word numbers_now O k.roll.counted (omega (arith, few))

    follows : MayFollow (b ∷ a ∷ []) k.word
    follows = (
      (let fewer = k.roll.fewer in omega (arith, up, low, fewer)),
      each_word_weaker (λ earlier. (out_in earlier ≤ drawn_in earlier) × Precedes earlier k.word) (λ earlier. Precedes earlier k.word) (λ earlier c. c.1) (b ∷ a ∷ []) (k.roll.told.behind id v at),
    )

    -- each pass that is there has a number that was drawn
    numbers_below : (n : ℕ) → 0 < with_number n v → n < drawn_in k.word
    numbers_below n mine =
        let part = part-le-sum_by (with_number n) s.views id v at in
        let small : n < k.next = dite (dec_lt n k.next) (λ h. h) (λ h. let z = (k.roll.numbers n).1 (omega (arith, h)) in absurd (omega (arith, z, part, mine))) in
        omega (arith, small, up)

    abbrev left : ℕ
    left = k.word - 1

    left_is : left ≡ numbers_now * 4294967296 + (O - 1)
    left_is = let counted = k.roll.counted in omega (arith, counted, out_moved)

    up_after : drawn_in left ≡ numbers_now
    up_after = let few = outs_few items number base callers origin s k in upper_half left numbers_now (O - 1) left_is (omega (arith, few))

    low_after : out_in left ≡ O - 1
    low_after = let few = outs_few items number base callers origin s k in lower_half left numbers_now (O - 1) left_is (omega (arith, few))

    drawn_after : (n : ℕ) → n < 4294967168 → sum_by (moves_of (rise_count drawn_in n)) (set s.views id w) ≡ cond (nat_lt n (drawn_in left)) 1 0
    drawn_after n small =
        let none = no_rise drawn_in n (leaving k.word) (omega (arith, up, up_after)) in
        let same : drawn_in left ≡ drawn_in k.word = omega (arith, up, up_after) in
        let stays : sum_by (moves_of (rise_count drawn_in n)) (set s.views id w) ≡ sum_by (moves_of (rise_count drawn_in n)) s.views = omega (arith, moves_after (rise_count drawn_in n), none) in
        stays ∙ k.roll.drawn n small ∙ ap (λ (m : ℕ). cond (nat_lt n m) 1 0) (sym same)

    gone_after : (n : ℕ) → sum_by (moves_of (rise_count gone_in n)) (set s.views id w) ≡ cond (nat_lt n (gone_in left)) 1 0
    gone_after n =
        let fewer = k.roll.fewer in
        let one = one_rise gone_in n (leaving k.word) (omega (arith, up, low, up_after, low_after, fewer, out_moved)) in
        let before = k.roll.gone n in
        omega (arith, moves_after (rise_count gone_in n), one, before)

    told_absorbed : Told (k.word - 1) (set s.views id w)
    told_absorbed =
        let fewer = k.roll.fewer in
        told_on k.word left s.views (set s.views id w) k.roll.told follows.0 (omega (arith, up_after, low_after, fewer))
        (precedes_by k.word left numbers_now O numbers_now (O - 1) up low up_after low_after (λ h. omega arith) (omega (arith, fewer, out_moved)))
        (λ P h p q. let M : Account I B → Type 0 = λ c. All (λ (m : ℕ × ℕ). P m.0 × P m.1) c.moves in
        each_found_set P s.views id w h
        (each_word_one P one_pass (All-cons (λ (m : ℕ × ℕ). P m.0 × P m.1) (leaving k.word) (a.moves ++ b.moves) (p, q)
        (All-append (λ (m : ℕ × ℕ). P m.0 × P m.1) a.moves b.moves (All-head M a [] (All-tail M b (a ∷ []) (h id v at))) (All-head M b (a ∷ []) (h id v at))))))

    roll_absorbed : Roll items number base callers k.list k.made k.next (k.word - 1) (set s.views id w)
    roll_absorbed =
        let r = k.roll in record {
          counted = omega (arith, r.counted, out_moved, undone_moved);
          fewer = (let fewer = r.fewer in omega (arith, fewer, out_moved, undone_moved));
          drawn = drawn_after;
          gone = gone_after;
          told = told_absorbed;
          small = r.small;
          spent = λ h. r.spent (omega (arith, h, undone_moved));
          passes = omega (arith, passes_moved, r.passes);
          numbers = λ n. let less = numbers_moved n in let o = r.numbers n in (omega (arith, less, o.0), λ l. let z = o.1 l in omega (arith, less, z));
          given = λ n. let less = made_moved n in let once = r.given n in (omega (arith, less, once.0), once.1, once.2);
          entered = r.entered;
          whole = λ h. r.whole (omega (arith, h, low_moved));
        }

    abbrev F : Account I B → Type 0
    F = Fits items number base origin k.list

    mine : F a
    mine = All-head F a [] (All-tail F b (a ∷ []) (k.each_pass id v at).fits)

    yours : F b
    yours = All-head F b (a ∷ []) (k.each_pass id v at).fits

    both_begin : BeginsWith k.list (longer a.seen b.seen) × BeginsWith (longer a.seen b.seen) a.seen × BeginsWith (longer a.seen b.seen) b.seen
    both_begin = longer_begins k.list a.seen b.seen mine.begins yours.begins

    own_after : of_pass number a.number (longer a.seen b.seen) ≡ a.own
    own_after = of_pass-between number a.number k.list (longer a.seen b.seen) a.seen a.own both_begin.0 both_begin.1 mine.own_is mine.own_seen

    absorbed_kept : Rule (stepped s 2 ((k.word + (2 ^ 64 - 1)) % 2 ^ 64) id [] w keeps)
    absorbed_kept =
        subst (λ (n : ℕ). Rule (stepped s 2 n id [] w keeps)) (sym word_less)
        (rolled items number base callers origin s k id (b ∷ a ∷ []) (one_pass ∷ []) Idle Idle at refl (λ t. refl) refl
        record { fits = All-cons F one_pass [] record { base_is = mine.base_is; begins = both_begin.0; own_is = mine.own_is; own_seen = own_after } (All-nil F); stands = tt }
        [] k.made k.next (k.word - 1) roll_absorbed)

  pub absorbs : (slots id : ℕ) (b a : Account I B) → Allows Rule slots id (view_of (b ∷ a ∷ []) Idle, []) 2 (λ n. (n + (2 ^ 64 - 1)) % 2 ^ 64) (Absorbs number (step slots 2 1 0 none) (view_of (b ∷ a ∷ []) Idle, []))
  absorbs slots id b a s k sized at small =
      let found_is : get_or s.words 2 0 ≡ k.word = ap (λ (l : List ℕ). get_or l 2 0) k.words in
      let begin = both_begin s k id b a at in
      let P : Account I B → Type 0 = λ c. BeginsWith (longer a.seen b.seen) c.seen × (c.number < drawn_in k.word) in
      let w : View I B = view_of (account_of a.number a.base (longer a.seen b.seen) a.own (leaving k.word ∷ (a.moves ++ b.moves)) ∷ []) Idle in
      let both : All P (b ∷ a ∷ []) = All-cons P b (a ∷ []) (begin.2, numbers_below s k id b a at b.number (omega (arith, one_if_same b.number b.number refl))) (All-cons P a [] (begin.1, numbers_below s k id b a at a.number (omega (arith, one_if_same a.number a.number refl))) (All-nil P)) in
      subst (λ (n : ℕ). (u : View I B) × (c : Act (Option V)) × Valid s.homes [] c × Rule (stepped s 2 ((n + (2 ^ 64 - 1)) % 2 ^ 64) id [] u c) × Absorbs number (step slots 2 1 0 none) (view_of (b ∷ a ∷ []) Idle, []) n (u, carried_after [] c)) (sym found_is)
      (w, keeps, tt, absorbed_kept s k id b a at, (refl, both, follows s k id b a at, own_after s k id b a at))

module _ {I B : Type 0} where
  -- what holds of all accounts of two passes holds of those of each
  both_parts : (P : Account I B → Type 0) (xs ys : List (Account I B)) → All P (xs ++ ys) → All P xs × All P ys
  both_parts P [] ys h = (All-nil P, h)
  both_parts P (x ∷ xs) ys h = let r = both_parts P xs ys (All-tail P x (xs ++ ys) h) in (All-cons P x xs (All-head P x (xs ++ ys) h) r.0, r.1)

module _ {V I B : Type 0} where
  -- what a pass that took in another knows of both
  pub both_known : (mine others : List (Account I B)) (me : Me (Option V) (View I B)) → me ≡ (view_of (others ++ mine) Idle, []) → length mine ≡ 1 → length others ≡ 1 → (list : List I) (word : ℕ)
      → All (λ (a : Account I B). BeginsWith list a.seen × (a.number < drawn_in word)) me.0.accounts → MayFollow me.0.accounts word
      → BeginsWith list (seen_in mine) × BeginsWith list (seen_in others) × (number_in others < drawn_in word) × MayFollow mine word × MayFollow others word
  both_known mine others me is one one' list word all follow =
      let a = only_account mine one in
      let b = only_account others one' in
      let P : Account I B → Type 0 = λ c. BeginsWith list c.seen × (c.number < drawn_in word) in
      let M : Account I B → Type 0 = λ c. All (λ (m : ℕ × ℕ). Precedes m.0 word × Precedes m.1 word) c.moves in
      let accounts : me.0.accounts ≡ others ++ mine = ap (λ (m : Me (Option V) (View I B)). m.0.accounts) is in
      let parts = both_parts P others mine (subst (All P) accounts all) in
      let moves = both_parts M others mine (subst (All M) accounts follow.1) in
      let first : P a.0 = All-head P a.0 [] (subst (All P) a.1 parts.1) in
      let second : P b.0 = All-head P b.0 [] (subst (All P) b.1 parts.0) in (
        subst (λ (l : List (Account I B)). BeginsWith list (seen_in l)) (sym a.1) first.0,
        subst (λ (l : List (Account I B)). BeginsWith list (seen_in l)) (sym b.1) second.0,
        subst (λ (l : List (Account I B)). number_in l < drawn_in word) (sym b.1) second.1,
        (follow.0, moves.1),
        (follow.0, moves.0),
      )
