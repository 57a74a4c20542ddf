-- When a task has failed too often. This project's own, after the retry policy of Luigi 3's scheduler (`retry_count`,
-- `disable_window`, `disable_hard_timeout`).
use Rattle.std.specs.Prelude.{ℕ, ◌+◌, ◌-◌, ◌<◌, ◌==◌, ◌||◌, Bool, nat_le, Option, Some, None, unwrap_or, List, [], ◌∷◌, ◌++◌, filter, count_by, length}
use Rattle.std.specs.List.Sorted.{IsNonDecreasingBy}
use Rattle.lg_base.specs.declared.moment.Moment.{Moment}
use Rattle.lg_retry.specs.declared.policy.Policy.{Policy}

-- what is remembered of a task's failures: the first, and the moments that may still count
pub record History : Type 0 where
  pub first : Option Moment
  pub moments : List Moment

-- a history with the number of moments that it holds before it takes more memory
pub record Kept : Type 0 where
  pub history : History
  pub capacity : ℕ

-- moments that don't fall along their list
abbrev pub DoNotFall : List Moment → Type 0
DoNotFall moments = IsNonDecreasingBy (λ moment. moment.0) moments

-- one moment more takes no memory
abbrev pub HasRoom : Kept → Type 0
HasRoom kept = length kept.history.moments < kept.capacity

-- the task never failed, or all was forgotten
abbrev pub no_failures : History
no_failures = record { first = None; moments = [] }

-- a moment isn't before now less the window, where the subtraction stops at 0
abbrev pub is_inside_window : Moment → Policy → Moment → Bool
is_inside_window now policy moment = nat_le (now.0 - policy.disable_window) moment.0

-- how many moments are inside the window
abbrev pub failure_count : List Moment → Moment → Policy → ℕ
failure_count moments now policy = count_by (is_inside_window now policy) moments

-- one failure more: the first stays, or is this one, and what is outside the window is dropped
abbrev pub add_failure : History → Moment → Policy → History
add_failure history now policy = record {
  first = Some (unwrap_or history.first now);
  moments = filter (is_inside_window now policy) history.moments ++ now ∷ [];
}

-- the first failure is at least the hard timeout ago, or the window has as many as the policy counts to; with no first
-- failure it needs a policy that counts to 0
abbrev pub is_excessive_since : Option Moment → ℕ → Moment → Policy → Bool
is_excessive_since None count now policy = policy.retry_count == 0
is_excessive_since (Some first) count now policy =
    nat_le (first.0 + policy.disable_hard_timeout) now.0 || nat_le policy.retry_count count

-- the task has failed too often
abbrev pub is_excessive : History → Moment → Policy → Bool
is_excessive history now policy = is_excessive_since history.first (failure_count history.moments now policy) now policy
