use Rattle.std.proofs.Common.{◌≡◌, pos, arith, w8, w16}
use Rattle.std.proofs.lemmas.Int.{ints, to_z_pos}
use Rattle.std.proofs.lemmas.Bool.{false≢true}
use Rattle.lg_params.proofs.DateLemmas.{date_from_civil, day_in_range, same_day}
use Rattle.lg_params.proofs.dates.day_number.Goals as goal

pub returns-in-Ok-clause-found : goal.returns-in-Ok-clause-found
returns-in-Ok-clause-found c =
    let year : c.in-Ok.date.year ≡ pos c.args.year = omega (arith, ints, c.in-Ok.ensures.value) in
    let same = same_day c.in-Ok.date c.args.year c.args.month c.args.day year (omega (arith, ints, c.in-Ok.ensures.value)) (omega (arith, ints, c.in-Ok.ensures.value)) in
    (same.0, omega (arith, ints, same.1))

pub returns-in-Ok-clause-in_range : goal.returns-in-Ok-clause-in_range
returns-in-Ok-clause-in_range c =
    let year : c.in-Ok.date.year ≡ pos c.args.year = omega (arith, ints, c.in-Ok.ensures.value) in
    let same = same_day c.in-Ok.date c.args.year c.args.month c.args.day year (omega (arith, ints, c.in-Ok.ensures.value)) (omega (arith, ints, c.in-Ok.ensures.value)) in
    let range = day_in_range c.args.year c.args.month c.args.day c.requires.year_in same.0 in
    (omega (arith, ints, same.1, range), omega (arith, ints, same.1, range))

pub returns-in-Err-clause-found : goal.returns-in-Err-clause-found
returns-in-Err-clause-found c = λ is.
    let date = date_from_civil c.args.year c.args.month c.args.day is in
    let year = to_z_pos w16 c.args.year (omega arith) in
    let month = to_z_pos w8 c.args.month (omega arith) in
    let day = to_z_pos w8 c.args.day (omega arith) in
    false≢true (c.in-Err.ensures.succeeds.1 (rw (year, month, day) date))
