-- The parts of the rule that a step keeps which changes one view, or which leaves the counts as they are.
use Rattle.std.proofs.Common.{◌≡◌, ℕ, ◌+◌, ◌*◌, ◌<◌, ◌≤◌, List, [], ◌∷◌, ◌++◌, length, set, arith, sym, ◌∙◌, Bool, true, false, cond}
use mathlib.Core.Option.{some}
use mathlib.Core.Logic.{dite}
use native.Mathlib.Decide.{dec_lt}
use lib.ListN.{get_elem?}
use Rattle.std.specs.Prelude.{nat_lt, if◌then◌else◌}
use Rattle.std.specs.List.{sum_by, All}
use Rattle.std.proofs.lemmas.List.Sums.{sum_by-cons}
use Rattle.std.proofs.lemmas.List.Elements.{All-append, All-weaker}
use Rattle.lg_turn.specs.declared.view.Account.{Account}
use Rattle.lg_turn.specs.declared.view.View.{View}
use Rattle.lg_turn.specs.declared.view.Stage.{Stage}
use Rattle.lg_turn.specs.declared.view.Stage.TheVariants.{Idle, Waits, Holds, Enrols, Undoes, Alone}
use Rattle.lg_turn.specs.Rule.{passes_of, with_number, out_of, undone_of, low_of, low_count, place_count, made_of, moves_of, times, EachFound, Roll}
use Rattle.lg_turn.specs.Views.{EachWord, drawn_in, gone_in, rise_count}
use Rattle.lg_turn.proofs.Told.{told_same, each_found_set}
use Rattle.lg_turn.proofs.Sums.{sum_by_set, sum_by-le-sum_by}

module _ {I B : Type 0} (views : List (View I B)) (id : ℕ) (v w : View I B) (at : get_elem? views id ≡ some v) where
  -- a sum stays where the part does
  pub sum_stays : (f : View I B → ℕ) → f w ≡ f v → sum_by f (set views id w) ≡ sum_by f views
  sum_stays f same = omega (arith, sum_by_set f views id v w at)

module _ {V I B : Type 0} (items : V → List I) (number : I → ℕ) (base : V → B) (callers : ℕ) (list : List I) (made : List ℕ) (next word : ℕ) where
  -- the roll is right of other views too, where as many are out, and no more passes are there
  pub roll_on : (views views' : List (View I B)) → Roll items number base callers list made next word views
      → sum_by (passes_of callers) views' ≤ sum_by (passes_of callers) views → ((n : ℕ) → sum_by (with_number n) views' ≤ sum_by (with_number n) views)
      → sum_by out_of views' ≡ sum_by out_of views → sum_by undone_of views' ≡ sum_by undone_of views
      → sum_by (low_of callers) views' ≤ sum_by (low_of callers) views → ((P : ℕ → Type 0) → EachFound P views → EachFound P views') → ((n : ℕ) → sum_by (made_of callers n) views' ≤ sum_by (made_of callers n) views) → ((count : ℕ × ℕ → ℕ) → sum_by (moves_of count) views' ≡ sum_by (moves_of count) views) → Roll items number base callers list made next word views'
  roll_on views views' r passes_less numbers_less out_same undone_same low_less found_same made_less moves_same = record {
    counted = r.counted ∙ (λ i. (next + sym undone_same i) * 4294967296 + sym out_same i);
    fewer = (let fewer = r.fewer in omega (arith, fewer, out_same, undone_same));
    drawn = λ n low. moves_same (rise_count drawn_in n) ∙ r.drawn n low;
    gone = λ n. moves_same (rise_count gone_in n) ∙ r.gone n;
    told = told_same word views views' r.told found_same;
    small = r.small;
    spent = λ h. r.spent (omega (arith, undone_same));
    passes = omega (arith, passes_less, r.passes);
    numbers = λ n. let less = numbers_less n in let once = r.numbers n in (omega (arith, less, once.0), λ h. let z = once.1 h in omega (arith, less, z));
    given = λ n. let less = made_less n in let once = r.given n in (omega (arith, less, once.0), once.1, once.2);
    entered = r.entered;
    whole = λ h. r.whole (omega (arith, low_less));
  }

  -- and where one view changes that answers for the same passes
  pub roll_stays : (views : List (View I B)) (id : ℕ) (v w : View I B) → get_elem? views id ≡ some v → passes_of callers w ≡ passes_of callers v → ((n : ℕ) → with_number n w ≡ with_number n v)
      → out_of w ≡ out_of v → undone_of w ≡ undone_of v → low_of callers w ≡ low_of callers v → ((P : ℕ → Type 0) → EachWord P v.accounts → EachWord P w.accounts) → ((n : ℕ) → made_of callers n w ≡ made_of callers n v) → ((count : ℕ × ℕ → ℕ) → moves_of count w ≡ moves_of count v)
      → Roll items number base callers list made next word views → Roll items number base callers list made next word (set views id w)
  roll_stays views id v w at p n o u l m g d r =
      roll_on views (set views id w) r
      (omega (arith, sum_stays views id v w at (passes_of callers) p))
      (λ i. omega (arith, sum_stays views id v w at (with_number i) (n i)))
      (sum_stays views id v w at out_of o)
      (sum_stays views id v w at undone_of u)
      (omega (arith, sum_stays views id v w at (low_of callers) l))
      (λ P h. each_found_set P views id w h (m P (h id v at)))
      (λ i. omega (arith, sum_stays views id v w at (made_of callers i) (g i)))
      (λ count. sum_stays views id v w at (moves_of count) (d count))

  -- a longer list, whose new entries have numbers of passes that were made
  pub roll_longer : (views : List (View I B)) (new : List I) → Roll items number base callers list made next word views → All (λ e. times (number e) made ≡ 1) new → Roll items number base callers (list ++ new) made next word views
  roll_longer views new r added = record {
    counted = r.counted;
    fewer = r.fewer;
    drawn = r.drawn;
    gone = r.gone;
    told = r.told;
    small = r.small;
    spent = r.spent;
    passes = r.passes;
    numbers = r.numbers;
    given = r.given;
    entered = All-append (λ e. times (number e) made ≡ 1) list new r.entered added;
    whole = r.whole;
  }

  -- entries have numbers that were drawn
  pub entered_below : (views : List (View I B)) → Roll items number base callers list made next word views → All (λ e. number e < next) list
  entered_below views r = All-weaker (λ e. times (number e) made ≡ 1) (λ e. number e < next) (λ e one. dite (dec_lt (number e) next) (λ h. h) (λ h. let none_there = (r.given (number e)).2 (omega (arith, h)) in absurd (omega (arith, one, none_there)))) list r.entered

  -- and numbers below callers, while no other pass was made
  pub entered_low : (views : List (View I B)) → Roll items number base callers list made next word views → callers ≤ sum_by (low_of callers) views → All (λ e. number e < callers) list
  entered_low views r full = All-weaker (λ e. times (number e) made ≡ 1) (λ e. number e < callers) (λ e one. dite (dec_lt (number e) callers) (λ h. h) (λ h. let none_there = r.whole full (number e) (omega (arith, h)) in absurd (omega (arith, one, none_there)))) list r.entered

pub bit-le-one : (b : Bool) → cond b 1 0 ≤ 1
bit-le-one true = omega arith
bit-le-one false = omega arith

both-le-second : (b c : Bool) → cond b (cond c 1 0) 0 ≤ cond c 1 0
both-le-second true c = omega arith
both-le-second false true = omega arith
both-le-second false false = omega arith

low-le-place : (callers : ℕ) (stage : Stage) → low_count callers stage ≤ place_count callers stage
low-le-place callers Idle = omega arith
low-le-place callers (Waits t) = omega arith
low-le-place callers (Holds t) = omega arith
low-le-place callers (Enrols n out) = both-le-second (nat_lt n callers) (nat_lt out callers)
low-le-place callers Undoes = omega arith
low-le-place callers Alone = omega arith

module _ {I B : Type 0} (callers : ℕ) where
  abbrev low : Account I B → ℕ
  low a = if nat_lt a.number callers then 1 else 0

  low-le-length : (accounts : List (Account I B)) → sum_by low accounts ≤ length accounts
  low-le-length [] = omega arith
  low-le-length (a ∷ rest) = omega (arith, low-le-length rest, sum_by-cons low a rest, bit-le-one (nat_lt a.number callers))

  low-le-passes : (v : View I B) → low_of callers v ≤ passes_of callers v
  low-le-passes v = omega (arith, low-le-length v.accounts, low-le-place callers v.stage)

  -- no more passes have a number below callers than are there
  pub lows-le-passes : (views : List (View I B)) → sum_by (low_of callers) views ≤ sum_by (passes_of callers) views
  lows-le-passes views = sum_by-le-sum_by (low_of callers) (passes_of callers) views (λ i v e. low-le-passes v)
