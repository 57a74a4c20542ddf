-- What has to be done before a family's tasks. This project's own.
use Rattle.std.specs.Prelude.{ℕ, List, [], codes, Option, Some, None, Ok, Err}
use Rattle.toml.specs.Data.{Data, get, as_array, as_table}
use Rattle.lg_declare.specs.Commands.{template_at}
use Rattle.lg_declare.specs.Keys.{requirement_keys, parameter_names, has_parameter, text_in}
use Rattle.lg_declare.specs.Reading.{Read, ◌>>=◌, right_kind, ensured, read_or, each_item, each_member, only_keys}
use Rattle.lg_declare.specs.Template.{Part}
use Rattle.lg_declare.specs.declared.family.Requirement.{Requirement}
use Rattle.lg_declare.specs.declared.declare_fault.DeclareFault.TheVariants.{UnknownFamily}

-- a parameter that the required family has, and what is given for it
unfoldable pub given_of : Data → List (List ℕ) → List ℕ → Data → Read (List ℕ × List Part)
given_of required names parameter d =
    ensured parameter (has_parameter required parameter) >>= λ _.
    template_at parameter names d >>= λ parts. Ok (parameter, parts)

unfoldable pub givens_of : Data → List (List ℕ) → Data → Read (List (List ℕ × List Part))
givens_of required names d = right_kind (codes "params") (as_table d) >>= λ members. each_member (given_of required names) members

unfoldable pub givens_in : Data → List (List ℕ) → Data → Read (List (List ℕ × List Part))
givens_in required names tree = read_or [] (givens_of required names) (get (codes "params") tree)

-- a family that is declared
abbrev pub declared_family : List ℕ → Option Data → Read Data
declared_family task (Some family) = Ok family
declared_family task None = Err (UnknownFamily task)

unfoldable pub requirement_in : Data → List (List ℕ) → Data → Read Requirement
requirement_in families names tree =
    right_kind (codes "task") (text_in (codes "task") tree) >>= λ task.
    declared_family task (get task families) >>= λ required.
    givens_in required names tree >>= λ givens.
    Ok (record { task = task; params = givens })

unfoldable pub requirement_of : Data → List (List ℕ) → Data → Read Requirement
requirement_of families names d =
    right_kind (codes "requires") (as_table d) >>= λ members.
    only_keys requirement_keys members >>= λ _.
    requirement_in families names d

unfoldable pub requirements_of : Data → List (List ℕ) → Data → Read (List Requirement)
requirements_of families names d =
    right_kind (codes "requires") (as_array d) >>= λ items. each_item (requirement_of families names) items

unfoldable pub requires_in : Data → Data → Read (List Requirement)
requires_in families tree = read_or [] (requirements_of families (parameter_names tree)) (get (codes "requires") tree)
