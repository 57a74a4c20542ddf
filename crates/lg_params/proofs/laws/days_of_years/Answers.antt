use Rattle.lg_params.proofs.DateLemmas.{year_of_day, day_of_year}
use Rattle.lg_params.proofs.laws.days_of_years.Goals as goal

pub returns : goal.returns
returns c = λ date. (year_of_day date, day_of_year date)
