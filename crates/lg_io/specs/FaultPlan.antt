-- Which calls are to fail, as a test of their numbers, counted from 0. This project's own.
use Rattle.std.specs.Prelude.{ℕ, ◌+◌, ◌-◌, ◌^◌, Bool, ◌&&◌, nat_lt, nat_eq, List}
use Rattle.std.specs.List.{list_any}

-- the same calls, counted from the second one on
abbrev pub behind : (ℕ → Bool) → ℕ → Bool
behind due = λ call. due (call + 1)

-- the calls with these numbers, but none from number 2^64 - 1 on
abbrev pub listed : List ℕ → ℕ → Bool
listed numbers = λ call. nat_lt call (2 ^ 64 - 1) && list_any (λ number. nat_eq number call) numbers
