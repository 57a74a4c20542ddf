use Rattle.std.proofs.Common.{ℕ, List, arith, sym, ◌∙◌, subst}
use Rattle.std.proofs.lemmas.Int.{ints}
use Rattle.lg_params.specs.Dates.{SpellsDateHour}
use Rattle.lg_params.proofs.PlaceLemmas.{two_at_end_same}
use Rattle.lg_params.proofs.dates.read_date_minute.Goals as goal

pub returns-then-minute-ge60 : goal.returns-then-minute-ge60
returns-then-minute-ge60 c = λ n is.
    let same = two_at_end_same c.in_ok-date.date.now is.date _ is.minute c.in_ok-date.ensures.0 (omega arith) (sym c.in_ok-date.ensures.1 ∙ is.spelled) in
    omega (arith, same.1)

pub returns-in_err-read_date_hour : goal.returns-in_err-read_date_hour
returns-in_err-read_date_hour c =
    rw c.from_residual-in_err-read_date_hour.ensures (λ n is.
    let same = two_at_end_same c.in_ok-date.date.now is.date _ is.minute c.in_ok-date.ensures.0 (omega arith) (sym c.in_ok-date.ensures.1 ∙ is.spelled) in
    c.in_err-read_date_hour.ensures.found is.hours (subst (λ (t : List ℕ). SpellsDateHour t is.hours) (sym same.0) is.of_date))

pub returns : goal.returns
returns c =
    record {
      date = c.in_ok-date.date.now;
      hours = c.in_ok-read_date_hour.field-0;
      minute = c.in_ok-date.minute;
      of_date = c.in_ok-read_date_hour.ensures.found;
      minute_in = omega arith;
      spelled = c.in_ok-date.ensures.1;
      number = omega (arith, ints, c.in_ok-read_date_hour.ensures.in_range);
    }
