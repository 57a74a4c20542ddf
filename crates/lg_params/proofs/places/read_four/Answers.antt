use Rattle.std.proofs.Common.{◌/◌, ◌%◌, arith, sym, ◌∙◌}
use Rattle.lg_params.specs.Places.{two_digits}
use Rattle.lg_params.proofs.PlaceLemmas.{two_at_end_same}
use Rattle.lg_params.proofs.places.read_four.Goals as goal

pub returns-in_err-read_two : goal.returns-in_err-read_two
returns-in_err-read_two c =
    rw c.from_residual-in_err-read_two.ensures (λ n small e.
    let same = two_at_end_same _ (two_digits (n / 100)) _ (n % 100) c.in_ok-hundreds.ensures.0 (omega arith) (sym c.in_ok-hundreds.ensures.1 ∙ e) in
    c.in_err-read_two.ensures (n / 100) (omega arith) same.0)
