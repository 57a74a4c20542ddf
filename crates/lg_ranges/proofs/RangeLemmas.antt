-- The bounds in numbers, and what lies between two ends.
use Rattle.std.proofs.Common.{◌≡◌, ◌↔◌, ◌⊎◌, ℕ, ◌+◌, ℤ, pos, ◌+ℤ◌, ◌-ℤ◌, ◌≤ℤ◌, ◌<ℤ◌, Option, Some, None, refl, sym, ap, ◌∙◌, arith, ⊎_elim, inl, inr}
use Rattle.std.proofs.lemmas.Int.{ints, by_lt_z}
use Rattle.std.specs.Prelude.{IfSome, cond, int_lt, true, false, Bool, List, length}
use Rattle.std.specs.Int.{int_max}
use Rattle.lg_base.specs.declared.moment.Moment.{Moment}
use Rattle.lg_ranges.specs.declared.ask.Ask.{Ask}
use Rattle.lg_ranges.specs.declared.period.Period.{Period}
use Rattle.lg_ranges.specs.declared.period.Period.TheVariants.{Daily, Hourly}
use Rattle.lg_ranges.specs.Bounds.{IsFirstFrom, IsInside}
use Rattle.lg_ranges.specs.Points.{ArePoints, IsPoint, moment_of, span_of}
use Rattle.lg_ranges.specs.Required.{AreFrom, IsOnePerPoint}

not_before : (period : Period) (a b : ℤ) → (moment_of period a ≤ℤ moment_of period b) ↔ (a ≤ℤ b)
not_before Daily a b = (λ h. omega (arith, ints), λ h. omega (arith, ints))
not_before Hourly a b = (λ h. omega (arith, ints), λ h. omega (arith, ints))

before : (period : Period) (a b : ℤ) → (moment_of period a <ℤ moment_of period b) ↔ (a <ℤ b)
before Daily a b = (λ h. omega (arith, ints), λ h. omega (arith, ints))
before Hourly a b = (λ h. omega (arith, ints), λ h. omega (arith, ints))

from_back : (period : Period) (moment back : ℕ) (now number : ℤ) → pos moment ≤ℤ moment_of period now → moment_of period (now -ℤ pos 1) <ℤ pos moment → ((pos moment -ℤ span_of period back) ≤ℤ moment_of period number) ↔ ((now -ℤ pos back) ≤ℤ number)
from_back Daily moment back now number reached first = (λ h. omega (arith, ints), λ h. omega (arith, ints))
from_back Hourly moment back now number reached first = (λ h. omega (arith, ints), λ h. omega (arith, ints))

before_forward : (period : Period) (moment forward : ℕ) (now number : ℤ) → pos moment ≤ℤ moment_of period now → moment_of period (now -ℤ pos 1) <ℤ pos moment → (moment_of period number <ℤ (pos moment +ℤ span_of period forward)) ↔ (number <ℤ (now +ℤ pos forward))
before_forward Daily moment forward now number reached first = (λ h. omega (arith, ints), λ h. omega (arith, ints))
before_forward Hourly moment forward now number reached first = (λ h. omega (arith, ints), λ h. omega (arith, ints))

if_some_each : {X : Type 0} (o : Option X) (P Q : X → Type 0) → ((x : X) → P x → Q x) → IfSome o P → IfSome o Q
if_some_each None P Q each h = tt
if_some_each (Some x) P Q each h = each x h

pub bounds : (ask : Ask) (now number : ℤ) → IsFirstFrom ask.period ask.now now → IsPoint ask number ↔ IsInside ask now number
bounds ask now number is = (
  λ point. record {
    from_start = if_some_each ask.start (λ start. moment_of ask.period start ≤ℤ moment_of ask.period number) (λ start. start ≤ℤ number) (λ start. (not_before ask.period start number).0) point.from_start;
    from_back = (from_back ask.period ask.now.0 ask.back now number is.not_before is.first).0 point.from_back;
    before_stop = if_some_each ask.stop (λ stop. moment_of ask.period number <ℤ moment_of ask.period stop) (λ stop. number <ℤ stop) (λ stop. (before ask.period number stop).0) point.before_stop;
    before_forward = (before_forward ask.period ask.now.0 ask.forward now number is.not_before is.first).0 point.before_forward;
  },
  λ inside. record {
    from_start = if_some_each ask.start (λ start. start ≤ℤ number) (λ start. moment_of ask.period start ≤ℤ moment_of ask.period number) (λ start. (not_before ask.period start number).1) inside.from_start;
    from_back = (from_back ask.period ask.now.0 ask.back now number is.not_before is.first).1 inside.from_back;
    before_stop = if_some_each ask.stop (λ stop. number <ℤ stop) (λ stop. moment_of ask.period number <ℤ moment_of ask.period stop) (λ stop. (before ask.period number stop).1) inside.before_stop;
    before_forward = (before_forward ask.period ask.now.0 ask.forward now number is.not_before is.first).1 inside.before_forward;
  },
)

pub beginning : (period : Period) (now : Moment) (number : ℤ) → pos now.0 ≡ moment_of period number → IsFirstFrom period now number
beginning Daily now number is = record { not_before = omega (arith, ints); first = omega (arith, ints) }
beginning Hourly now number is = record { not_before = omega (arith, ints); first = omega (arith, ints) }

-- no number between two ends
nothing : (a b n : ℤ) → b ≤ℤ a → a ≤ℤ n → n <ℤ b → ⊥
nothing a b n h low high = omega (arith, ints)

max_is_one : (x y : ℤ) → (int_max x y ≡ x) ⊎ (int_max x y ≡ y)
max_is_one x y = elim (int_lt y x) as (λ b. (cond b x y ≡ x) ⊎ (cond b x y ≡ y)) [ true ↦ inl refl | false ↦ inr refl ]

-- the points, from a number that is at the lower bounds up to one that is at the upper bounds
pub are_points : (ask : Ask) (now first behind last : ℤ) → IsFirstFrom ask.period ask.now now
    → ((number : ℤ) → (first ≤ℤ number) ↔ (IfSome ask.start (λ start. start ≤ℤ number) × ((now -ℤ pos ask.back) ≤ℤ number)))
    → ((number : ℤ) → (number <ℤ behind) ↔ (IfSome ask.stop (λ stop. number <ℤ stop) × (number <ℤ (now +ℤ pos ask.forward))))
    → last ≡ int_max behind first → first ≤ℤ last → behind ≤ℤ last → ArePoints ask (first, last)
are_points ask now first behind last is low high last_is ordered reached = record {
  in_order = ordered;
  points = λ number. (
    λ lies.
        let below : number <ℤ behind =
        ⊎_elim (λ same. let e : last ≡ behind = last_is ∙ same in omega (arith, ints, lies.1))
        (λ same. let e : last ≡ first = last_is ∙ same in absurd (nothing first last number (omega (arith, ints)) lies.0 lies.1))
        (max_is_one behind first) in
        (bounds ask now number is).1 (record {
          from_start = ((low number).0 lies.0).0;
          from_back = ((low number).0 lies.0).1;
          before_stop = ((high number).0 below).0;
          before_forward = ((high number).0 below).1;
        }),
    λ point.
        let inside = (bounds ask now number is).0 point in
        let below : number <ℤ behind = (high number).1 (inside.before_stop, inside.before_forward) in
        ((low number).1 (inside.from_start, inside.from_back), omega (arith, ints)),
  );
}

-- the ends of the points are the same, where there are points
pub same_ends : (ask : Ask) (ends others : ℤ × ℤ) → ArePoints ask ends → ArePoints ask others → ends.0 <ℤ ends.1 → (ends.0 ≡ others.0) × (ends.1 ≡ others.1)
same_ends ask ends others is too some =
    let first = (too.points ends.0).1 ((is.points ends.0).0 (omega (arith, ints), some)) in
    let last = (too.points (ends.1 -ℤ pos 1)).1 ((is.points (ends.1 -ℤ pos 1)).0 (omega (arith, ints), omega (arith, ints))) in
    let others_some : others.0 <ℤ others.1 = omega (arith, ints, first.0, first.1) in
    let other_first = (is.points others.0).1 ((too.points others.0).0 (omega (arith, ints), others_some)) in
    let other_last = (is.points (others.1 -ℤ pos 1)).1 ((too.points (others.1 -ℤ pos 1)).0 (omega (arith, ints), omega (arith, ints))) in
    (omega (arith, ints, first.0, other_first.0), omega (arith, ints, last.1, other_last.1))

pub one_range : (ask : Ask) (ends others : ℤ × ℤ) → ArePoints ask ends → ArePoints ask others → ends.0 <ℤ ends.1 → ends ≡ others
one_range ask ends others is too some =
    let same = same_ends ask ends others is too some in
    let with_first : ℤ → ℤ × ℤ = λ first. (first, ends.1) in
    let with_last : ℤ → ℤ × ℤ = λ last. (others.0, last) in
    ap with_first same.0 ∙ ap with_last same.1

pub no_point : (ask : Ask) (ends : ℤ × ℤ) → ArePoints ask ends → ends.0 ≡ ends.1 → (number : ℤ) → IsPoint ask number → ⊥
no_point ask ends is same number point =
    let lies = (is.points number).1 point in
    omega (arith, ints, lies.0, lies.1)

few_between : (period : Period) (now back forward : ℕ) (a b : ℤ) → (pos now -ℤ span_of period back) ≤ℤ moment_of period a → moment_of period b <ℤ (pos now +ℤ span_of period forward) → (b -ℤ a) <ℤ pos (back + forward)
few_between Daily now back forward a b low high = omega (arith, ints)
few_between Hourly now back forward a b low high = omega (arith, ints)

-- there are no more points than are counted back and forward
pub few : (ask : Ask) (ends : ℤ × ℤ) → ArePoints ask ends → (ends.1 -ℤ ends.0) ≤ℤ pos (ask.back + ask.forward)
few ask ends is =
    by_lt_z ends.0 ends.1
    (λ some.
    let first = (is.points ends.0).0 (omega (arith, ints), some) in
    let last = (is.points (ends.1 -ℤ pos 1)).0 (omega (arith, ints), omega (arith, ints)) in
    omega (arith, ints, few_between ask.period ask.now.0 ask.back ask.forward ends.0 (ends.1 -ℤ pos 1) first.from_back last.before_forward))
    (λ none. omega (arith, ints))

-- where each point has a truth value, the points are numbered from the first of any such ends
pub from_ends : (ask : Ask) (missing : List Bool) (ends : ℤ × ℤ) → ArePoints ask ends → IsOnePerPoint ask missing → AreFrom ask missing ends.0
from_ends ask missing ends is one =
    let others : ℤ × ℤ = (one.0, one.0 +ℤ pos (length missing)) in
    by_lt_z one.0 (one.0 +ℤ pos (length missing))
    (λ some.
    let same = same_ends ask others ends one.1 is some in
    rw (← same.0) one.1)
    (λ none.
    let empty : length missing ≡ 0 = omega (arith, ints) in
    record {
      in_order = omega (arith, ints);
      points = λ number. (
        λ lies. absurd (nothing ends.0 (ends.0 +ℤ pos (length missing)) number (omega (arith, ints)) lies.0 lies.1),
        λ point. absurd (no_point ask others one.1 (omega (arith, ints)) number point),
      );
    })

-- and they end where the truth values end
pub end_of_values : (ask : Ask) (missing : List Bool) (ends : ℤ × ℤ) → ArePoints ask ends → AreFrom ask missing ends.0 → ends.0 +ℤ pos (length missing) ≡ ends.1
end_of_values ask missing ends is from =
    let others : ℤ × ℤ = (ends.0, ends.0 +ℤ pos (length missing)) in
    by_lt_z ends.0 (ends.0 +ℤ pos (length missing))
    (λ some. (same_ends ask others ends from is some).1)
    (λ none.
    by_lt_z ends.0 ends.1
    (λ points. sym (same_ends ask ends others is from points).1)
    (λ nothing. omega (arith, ints, is.in_order)))
