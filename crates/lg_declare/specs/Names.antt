-- The names that a template may use, by its place. This project's own.
use Rattle.std.specs.Prelude.{ℕ, zero, suc, Bool, if◌then◌else◌, List, [], ◌∷◌, ◌++◌, codes, map, Option, Some, None}
use Rattle.std.specs.Fmt.{decimal}
use Rattle.std.specs.List.{filter_map, enumerate_from, range_with_len}

-- `output.K` for the output at place K, counted from 0; `input.K` for the requirement at place K
abbrev pub output_name : ℕ → List ℕ
output_name place = codes "output." ++ decimal place

abbrev pub input_name : ℕ → List ℕ
input_name place = codes "input." ++ decimal place

-- `output`, where there is an output
abbrev pub first_output : ℕ → List (List ℕ)
first_output zero = []
first_output (suc more) = codes "output" ∷ []

abbrev pub output_names : ℕ → List (List ℕ)
output_names outputs = map output_name (range_with_len 0 outputs)

-- the name of a requirement whose family has outputs
abbrev pub input_named : ℕ × Bool → Option (List ℕ)
input_named input = if input.1 then Some (input_name input.0) else None

abbrev pub input_names : List Bool → List (List ℕ)
input_names inputs = filter_map input_named (enumerate_from 0 inputs)

-- In a command: those of its outputs, so many, and of its requirements, told for each whether its family has outputs; and
-- those of the parameters. A name that stands twice means what stands first.
abbrev pub command_names : List (List ℕ) → ℕ → List Bool → List (List ℕ)
command_names parameters outputs inputs =
    first_output outputs ++ (output_names outputs ++ (input_names inputs ++ parameters))
