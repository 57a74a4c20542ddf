use Rattle.std.proofs.Common.{arith, sym, ◌∙◌}
use Rattle.lg_params.specs.Dates.{year_text}
use Rattle.lg_params.proofs.PlaceLemmas.{marked_at_end_same}
use Rattle.lg_params.proofs.dates.year_and_month.Goals as goal

pub returns-then-month-lt1 : goal.returns-then-month-lt1
returns-then-month-lt1 c = λ year month is.
    let same = marked_at_end_same c.in_ok-front.front.now (year_text year) 45 _ month c.in_ok-front.ensures.0 (omega arith) (sym c.in_ok-front.ensures.1 ∙ is.spelled) in
    omega (arith, same.1)

pub returns-in_err-year : goal.returns-in_err-year
returns-in_err-year c =
    rw c.from_residual-in_err-year.ensures (λ year month is.
    let same = marked_at_end_same c.in_ok-front.front.now (year_text year) 45 _ month c.in_ok-front.ensures.0 (omega arith) (sym c.in_ok-front.ensures.1 ∙ is.spelled) in
    c.in_err-year.ensures year (record { year_in = is.year_in; spelled = same.0 }))
