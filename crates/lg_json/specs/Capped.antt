-- A number that stands still at the end of 64 bits. This project's own.
use Rattle.std.specs.Prelude.{ℕ, ◌-◌, ◌^◌, min}

abbrev pub capped : ℕ → ℕ
capped n = min n (2 ^ 64 - 1)
