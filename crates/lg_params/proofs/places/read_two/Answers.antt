use Rattle.std.proofs.Common.{◌/◌, ◌%◌, arith}
use Rattle.lg_params.proofs.PlaceLemmas.{two_digits_at, two_digits_of}
use Rattle.lg_params.proofs.places.read_two.Goals as goal

pub returns-in_default : goal.returns-in_default
returns-in_default c = λ n small e. let at = two_digits_at _ n e in omega arith

pub returns-in_default-2 : goal.returns-in_default-2
returns-in_default-2 c = λ n small e. let at = two_digits_at _ n e in omega arith

pub returns-in_err-read_one : goal.returns-in_err-read_one
returns-in_err-read_one c =
    rw c.from_residual.ensures (λ n small e.
    let at = two_digits_at _ n e in c.in_err-read_one.ensures (n / 10) (omega arith) at.1)

pub returns-in_err-read_one-2 : goal.returns-in_err-read_one-2
returns-in_err-read_one-2 c =
    rw c.from_residual-in_err-read_one-2.ensures (λ n small e.
    let at = two_digits_at _ n e in c.in_err-read_one-2.ensures (n % 10) (omega arith) at.2)

pub returns : goal.returns
returns c = (omega arith, two_digits_of _ _ _ (omega arith) c.in_ok-read_one.ensures.1 c.in_ok-read_one-2.ensures.1 (omega arith) (omega arith))
