use Rattle.std.proofs.Common.{arith}
use Rattle.std.proofs.lemmas.Int.{ints}
use Rattle.lg_params.proofs.laws.hours_of_days.Goals as goal

pub returns-clause-hours : goal.returns-clause-hours
returns-clause-hours c = λ day hour small.
    (λ is. (omega (arith, ints), omega (arith, ints)), λ is. (omega (arith, ints), omega (arith, ints)))

pub returns-clause-minutes : goal.returns-clause-minutes
returns-clause-minutes c = λ hours minute small.
    (λ is. (omega (arith, ints), omega (arith, ints)), λ is. (omega (arith, ints), omega (arith, ints)))

pub returns-clause-months : goal.returns-clause-months
returns-clause-months c = λ year month small.
    (λ is. (omega (arith, ints), omega (arith, ints)), λ is. (omega (arith, ints), omega (arith, ints)))
