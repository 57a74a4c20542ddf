use Rattle.std.proofs.Common.{ℕ, ◌+◌, ◌<◌, ◌≤◌, List, get_or}
use Rattle.lg_base.specs.Amounts.{AnswersAs, limit_of}
use Rattle.lg_base.proofs.amounts.Amounts.fits.Given as goal

-- each name so far is within its limit
abbrev pub invariant-loop-name : goal.invariant-loop-name
invariant-loop-name g l =
    (taken_of : List ℕ → ℕ) → AnswersAs (goal.F-post g l.taken) taken_of → (k : ℕ) (d : List ℕ × ℕ) → k < l.name-index
    → taken_of (get_or l.name-items k d).0 + (get_or l.name-items k d).1 ≤ limit_of l.limits (get_or l.name-items k d).0
