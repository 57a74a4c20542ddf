use Rattle.std.proofs.Common.{FitsSigned, w64, arith}
use Rattle.std.proofs.lemmas.Int.{ints, to_z-of_z}
use Rattle.jiff_core.proofs.SignedLemmas.{int_div_euclid-parts, int_rem_euclid-parts}
use Rattle.lg_params.proofs.ReadingLemmas.{date_minute_whole}
use Rattle.lg_params.proofs.date_texts.date_minute_text.Goals as goal

pub returns : goal.returns
returns c =
    let fits : FitsSigned w64 c.args.minutes = c.ranges.minutes in
    let quotient = simp to_z-of_z at c.div_euclid.ensures in
    let rest = simp to_z-of_z at c.rem_euclid.ensures.value in
    date_minute_whole _ _ _ _ _ c.in_ok-text.ensures (omega (arith, ints)) c.in_ok-push_two.ensures
    (omega (arith, ints, quotient, rest, int_div_euclid-parts c.args.minutes 60 (omega arith), int_rem_euclid-parts c.args.minutes 60 (omega arith)))
