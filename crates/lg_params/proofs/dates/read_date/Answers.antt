use Rattle.std.proofs.Common.{sym, ◌∙◌}
use Rattle.lg_params.specs.Dates.{month_text}
use Rattle.lg_params.proofs.DateLemmas.{day_below}
use Rattle.lg_params.proofs.PlaceLemmas.{marked_at_end_same}
use Rattle.lg_params.proofs.ReadingLemmas.{date_found}
use Rattle.lg_params.proofs.dates.read_date.Goals as goal

pub returns-in_err-year-clause-found : goal.returns-in_err-year-clause-found
returns-in_err-year-clause-found c =
    rw c.from_residual-in_err-year.ensures (λ n is.
    let text = is.of_text in
    let same = marked_at_end_same c.in_ok-front.front.now (month_text is.year is.month) 45 _ is.day c.in_ok-front.ensures.0 (day_below _ _ _ text.exists) (sym c.in_ok-front.ensures.1 ∙ text.spelled) in
    c.in_err-year.ensures is.year is.month (record { year_in = text.year_in; month_in = text.exists.1; spelled = same.0 }))

pub returns-clause-found : goal.returns-clause-found
returns-clause-found c =
    date_found _ _ _ _ _ _ c.in_ok-year.ensures c.in_ok-front.ensures.0 c.in_ok-front.ensures.1 c.day_number.ensures.found
