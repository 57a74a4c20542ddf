-- What a caller may cite.
use Rattle.std.proofs.Common.{◌≡◌, ℤ, pos, ◌+ℤ◌, ◌-ℤ◌, Bool, List, length, arith, subst, sym}
use Rattle.std.proofs.lemmas.Int.{ints}
use Rattle.lg_ranges.specs.declared.ask.Ask.{Ask}
use Rattle.lg_ranges.specs.Points.{ArePoints}
use Rattle.lg_ranges.specs.Required.{IsOnePerPoint}

-- as many truth values as numbers between the ends that `points` gave
pub one_per_point : (ask : Ask) (missing : List Bool) (first behind : ℤ) → ArePoints ask (first, behind) → pos (length missing) ≡ behind -ℤ first → IsOnePerPoint ask missing
one_per_point ask missing first behind is as_many =
    let end : first +ℤ pos (length missing) ≡ behind = omega (arith, ints) in
    (first, subst (λ (n : ℤ). ArePoints ask (first, n)) (sym end) is)
