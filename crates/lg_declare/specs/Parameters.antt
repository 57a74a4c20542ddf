-- The parameters of a family. This project's own.
use Rattle.std.specs.Prelude.{ℕ, if◌then◌else◌, not, Bool, true, false, List, [], ◌∷◌, ◌++◌, codes, is_some, Option, Some, None, Ok, Err}
use Rattle.std.specs.Map.{lookup}
use Rattle.std.specs.Str.{bytes_eq}
use Rattle.toml.specs.Data.{Data, Items, no_items, item, get, as_str, as_bool, as_array, as_table}
use Rattle.lg_params.specs.declared.kinds.Kind.{Kind}
use Rattle.lg_declare.specs.Keys.{parameter_keys, is_name}
use Rattle.lg_declare.specs.Kinds.{reads}
use Rattle.lg_declare.specs.Reading.{Read, ◌>>=◌, right_kind, ensured, read_or, each_member, only_keys}
use Rattle.lg_declare.specs.Template.{is_among}
use Rattle.lg_declare.specs.declared.family.Parameter.{Parameter}
use Rattle.lg_declare.specs.declared.family.Batch.{Batch}
use Rattle.lg_declare.specs.declared.family.Batch.TheVariants.{Max, Min, Csv}
use Rattle.lg_declare.specs.declared.declare_fault.DeclareFault.TheVariants.{UnknownKind, DoubleName, BadValue}

-- the word of each kind; of a choice the choices come later
abbrev pub kind_words : List (List ℕ × Kind)
kind_words =
    (codes "text", Kind.Text) ∷ (codes "int", Kind.Int) ∷ (codes "bool", Kind.Truth) ∷ (codes "date", Kind.Date)
    ∷ (codes "date_hour", Kind.DateHour) ∷ (codes "date_minute", Kind.DateMinute) ∷ (codes "month", Kind.Month)
    ∷ (codes "year", Kind.Year) ∷ (codes "choice", Kind.Choice []) ∷ (codes "list", Kind.Texts) ∷ []

abbrev pub batch_words : List (List ℕ × Batch)
batch_words = (codes "max", Max) ∷ (codes "min", Min) ∷ (codes "csv", Csv) ∷ []

-- a word of a table of words
abbrev pub meant : {A : Type 0} → List ℕ → Option A → Read A
meant word (Some x) = Ok x
meant word None = Err (UnknownKind word)

abbrev pub word_in : {A : Type 0} → List (List ℕ × A) → List ℕ → Read A
word_in words word = meant word (lookup (bytes_eq word) words)

abbrev pub is_choice : Kind → Bool
is_choice (Kind.Choice choices) = true
is_choice _ = false

abbrev pub is_text : Kind → Bool
is_text Kind.Text = true
is_text _ = false

unfoldable pub kind_of : Data → Read Kind
kind_of d = right_kind (codes "kind") (as_str d) >>= λ word. word_in kind_words word

unfoldable pub kind_in : Data → Read Kind
kind_in tree = read_or Kind.Text kind_of (get (codes "kind") tree)

unfoldable pub significant_in : Data → Read Bool
significant_in tree = read_or true (λ d. right_kind (codes "significant") (as_bool d)) (get (codes "significant") tree)

-- the texts of a list behind those found, each once
unfoldable pub new_choice : List (List ℕ) → List ℕ → Read (List ℕ)
new_choice found text = if is_among found text then Err (DoubleName text) else Ok text

unfoldable pub choice_of : List (List ℕ) → Data → Read (List ℕ)
choice_of found d = right_kind (codes "choices") (as_str d) >>= λ text. new_choice found text

unfoldable pub choices_from : List (List ℕ) → Items → Read (List (List ℕ))
choices_from found no_items = Ok found
choices_from found (item d ds) = choice_of found d >>= λ text. choices_from (found ++ text ∷ []) ds

unfoldable pub choices_of : Data → Read Kind
choices_of d =
    right_kind (codes "choices") (as_array d) >>= λ items.
    choices_from [] items >>= λ choices. Ok (Kind.Choice choices)

-- a choice needs choices, and no other kind has any
abbrev pub needed_choices : Option Data → Read Kind
needed_choices None = Err (BadValue (codes "choices"))
needed_choices (Some d) = choices_of d

unfoldable pub no_choices : Kind → Data → Read Kind
no_choices kind tree = ensured (codes "choices") (not (is_some (get (codes "choices") tree))) >>= λ _. Ok kind

unfoldable pub with_choices : Kind → Data → Read Kind
with_choices kind tree =
    if is_choice kind then needed_choices (get (codes "choices") tree) else no_choices kind tree

-- texts alone are joined
abbrev pub is_joinable : Kind → Batch → Bool
is_joinable kind Csv = is_text kind
is_joinable kind batch = true

unfoldable pub joinable : List ℕ → Kind → Batch → Read (Unit {0})
joinable word kind batch = if is_joinable kind batch then Ok tt else Err (UnknownKind word)

unfoldable pub batch_of : Kind → Data → Read (Option Batch)
batch_of kind d =
    right_kind (codes "batch") (as_str d) >>= λ word.
    word_in batch_words word >>= λ batch.
    joinable word kind batch >>= λ _. Ok (Some batch)

unfoldable pub batch_in : Kind → Data → Read (Option Batch)
batch_in kind tree = read_or None (batch_of kind) (get (codes "batch") tree)

-- a text that the kind reads
unfoldable pub default_of : Kind → Data → Read (Option (List ℕ))
default_of kind d =
    right_kind (codes "default") (as_str d) >>= λ text.
    ensured (codes "default") (reads kind text) >>= λ _. Ok (Some text)

unfoldable pub default_in : Kind → Data → Read (Option (List ℕ))
default_in kind tree = read_or None (default_of kind) (get (codes "default") tree)

-- the default where it stands, and that of a choice, which is looked at behind its choices
unfoldable pub early_default : Kind → Data → Read (Option (List ℕ))
early_default kind tree = if is_choice kind then Ok None else default_in kind tree

unfoldable pub late_default : Kind → Data → Read (Option (List ℕ))
late_default kind tree = if is_choice kind then default_in kind tree else Ok None

abbrev pub first_of : {A : Type 0} → Option A → Option A → Option A
first_of (Some x) later = Some x
first_of None later = later

-- the keys of a parameter in their order
unfoldable pub parameter_in : List ℕ → Data → Read Parameter
parameter_in name tree =
    kind_in tree >>= λ kind.
    early_default kind tree >>= λ default.
    significant_in tree >>= λ significant.
    with_choices kind tree >>= λ whole.
    late_default whole tree >>= λ chosen.
    batch_in whole tree >>= λ batch.
    Ok (record { name = name; kind = whole; default = first_of default chosen; significant = significant; batch = batch })

unfoldable pub parameter_of : List ℕ → Data → Read Parameter
parameter_of name d =
    ensured name (is_name name) >>= λ _.
    right_kind name (as_table d) >>= λ members.
    only_keys parameter_keys members >>= λ _.
    parameter_in name d

unfoldable pub parameters_of : Data → Read (List Parameter)
parameters_of d = right_kind (codes "params") (as_table d) >>= λ members. each_member parameter_of members

unfoldable pub parameters_in : Data → Read (List Parameter)
parameters_in tree = read_or [] parameters_of (get (codes "params") tree)
