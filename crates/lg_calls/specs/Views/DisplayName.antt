-- The name under which a task is shown. This project's own, after Luigi's `pretty_id`.
use Rattle.std.specs.Prelude.{ℕ, Bool, true, false, List, [], ◌∷◌, ◌++◌, codes}
use Rattle.std.specs.List.{join_by}
use Rattle.lg_calls.specs.Task.{Task}

-- a parameter: its name, `=` and its value
abbrev pub param_text : List ℕ × List ℕ → List ℕ
param_text param = param.0 ++ 61 ∷ param.1

-- a comma and a blank, where something stands before
abbrev pub separator_if : Bool → List ℕ
separator_if true = codes ", "
separator_if false = []

-- parameters, with a comma and a blank between each two
abbrev pub params_text : List (List ℕ × List ℕ) → List ℕ
params_text params = join_by param_text (codes ", ") params

-- the family, and between parentheses the parameters
unfoldable pub display_name : Task → List ℕ
display_name task = task.family ++ 40 ∷ (params_text task.params ++ 41 ∷ [])
