-- What a clock was asked. This project's own.
use Rattle.std.specs.Prelude.{ℕ, List, [], ◌∷◌}

-- a reading with its answer, or a pause, both in milliseconds
pub data ClockCall : Type 0 where
  reading : ℕ → ClockCall
  pause : ℕ → ClockCall

-- the moments that were read
abbrev pub readings : List ClockCall → List ℕ
readings [] = []
readings (reading moment ∷ calls) = moment ∷ readings calls
readings (pause ms ∷ calls) = readings calls
