use Rattle.std.proofs.Common.{sym, ◌∙◌, arith}
use Rattle.std.proofs.lemmas.Bool.Decides.{nat_tests}
use Rattle.lg_params.proofs.KindLemmas.{all_digits_told, all_digits_tell}
use Rattle.lg_params.proofs.reading.is_whole_number.Goals as goal

pub returns-then-not-is_empty : goal.returns-then-not-is_empty
returns-then-not-is_empty c =
    let same = rw c.without_sign-digits.ensures at c.are_digits.ensures in
    let empty = rw c.without_sign-digits.ensures at c.is_empty.ensures in (
      λ told. (grind (arith, nat_tests), all_digits_told _ (sym same ∙ told)),
      λ numeral. same ∙ all_digits_tell _ numeral.1,
    )
