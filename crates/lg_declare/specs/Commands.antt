-- What a family's tasks run and make: templates. This project's own.
use Rattle.std.specs.Prelude.{ℕ, ◌&&◌, not, is_some, Bool, false, List, [], map, codes, Option, Some, None, Ok, Err}
use Rattle.toml.specs.Data.{Data, get, as_str, as_bool, as_array}
use Rattle.toml.specs.Text.{has_items}
use Rattle.lg_declare.specs.Keys.{parameter_names, output_count, gives_input, list_at}
use Rattle.lg_declare.specs.Names.{command_names}
use Rattle.lg_declare.specs.Reading.{Read, ◌>>=◌, right_kind, ensured, read_or, each_item}
use Rattle.lg_declare.specs.Template.{Part, template_of}
use Rattle.lg_declare.specs.declared.declare_fault.DeclareFault.TheVariants.{BadTemplate}

abbrev pub or_bad_template : List ℕ → Option (List Part) → Read (List Part)
or_bad_template text (Some parts) = Ok parts
or_bad_template text None = Err (BadTemplate text)

-- a text at a key, as a template with these names
unfoldable pub template_at : List ℕ → List (List ℕ) → Data → Read (List Part)
template_at key names d = right_kind key (as_str d) >>= λ text. or_bad_template text (template_of names text)

unfoldable pub templates_at : List ℕ → List (List ℕ) → Data → Read (List (List Part))
templates_at key names d = right_kind key (as_array d) >>= λ items. each_item (template_at key names) items

-- the names that a command of the family may use
unfoldable pub names_in_command : Data → Data → List (List ℕ)
names_in_command families tree =
    command_names (parameter_names tree) (output_count tree) (map (gives_input families) (list_at (codes "requires") tree))

-- one word at least
unfoldable pub command_of : List (List ℕ) → Data → Read (Option (List (List Part)))
command_of names d =
    right_kind (codes "command") (as_array d) >>= λ items.
    ensured (codes "command") (has_items items) >>= λ _.
    each_item (template_at (codes "command") names) items >>= λ words. Ok (Some words)

unfoldable pub command_in : Data → Data → Read (Option (List (List Part)))
command_in families tree = read_or None (command_of (names_in_command families tree)) (get (codes "command") tree)

unfoldable pub outputs_in : Data → Read (List (List Part))
outputs_in tree = read_or [] (templates_at (codes "outputs") (parameter_names tree)) (get (codes "outputs") tree)

-- an external family has no command
unfoldable pub external_of : Bool → Data → Read Bool
external_of has_command d =
    right_kind (codes "external") (as_bool d) >>= λ external.
    ensured (codes "external") (not (external && has_command)) >>= λ _. Ok external

unfoldable pub external_in : Data → Read Bool
external_in tree = read_or false (external_of (is_some (get (codes "command") tree))) (get (codes "external") tree)
