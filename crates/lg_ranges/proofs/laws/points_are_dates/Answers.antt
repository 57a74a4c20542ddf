use Rattle.lg_ranges.proofs.laws.points_are_dates.Goals as goal

pub returns-clause-days : goal.returns-clause-days
returns-clause-days c = λ number text is. is

pub returns-clause-hours : goal.returns-clause-hours
returns-clause-hours c = λ number text is. is
