use Rattle.std.proofs.Common.{ℕ, List, arith, sym, ◌∙◌, subst}
use Rattle.lg_params.specs.Dates.{SpellsDate}
use Rattle.lg_params.proofs.PlaceLemmas.{marked_at_end_same}
use Rattle.lg_params.proofs.dates.read_date_hour.Goals as goal

pub returns-then-hour-ge24-clause-found : goal.returns-then-hour-ge24-clause-found
returns-then-hour-ge24-clause-found c = λ n is.
    let same = marked_at_end_same c.in_ok-date.date.now is.date 84 _ is.hour c.in_ok-date.ensures.0 (omega arith) (sym c.in_ok-date.ensures.1 ∙ is.spelled) in
    omega (arith, same.1)

pub returns-in_err-read_date-clause-found : goal.returns-in_err-read_date-clause-found
returns-in_err-read_date-clause-found c =
    rw c.from_residual-in_err-read_date.ensures (λ n is.
    let same = marked_at_end_same c.in_ok-date.date.now is.date 84 _ is.hour c.in_ok-date.ensures.0 (omega arith) (sym c.in_ok-date.ensures.1 ∙ is.spelled) in
    c.in_err-read_date.ensures.found is.day (subst (λ (t : List ℕ). SpellsDate t is.day) (sym same.0) is.of_date))
