use Rattle.std.proofs.Common.{arith, sym, ◌∙◌}
use Rattle.lg_params.proofs.PlaceLemmas.{four_digits_same}
use Rattle.lg_params.proofs.dates.year_in.Goals as goal

pub returns-then-year-eq0 : goal.returns-then-year-eq0
returns-then-year-eq0 c = λ year is.
    let same = four_digits_same _ year c.in_ok-year.ensures.0 (omega arith) (sym c.in_ok-year.ensures.1 ∙ is.spelled) in
    omega arith
