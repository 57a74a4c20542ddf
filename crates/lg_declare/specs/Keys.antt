-- The keys of a declaration, and what stands at them whatever its faults. This project's own.
use Rattle.std.specs.Prelude.{ℕ, ◌==◌, ◌&&◌, ◌||◌, nat_lt, Bool, false, List, [], ◌∷◌, length, codes, Option, Some, None, option_and_then, is_some}
use Rattle.std.specs.Char.{is_ascii_alphabetic, is_ascii_alphanumeric}
use Rattle.std.specs.List.{list_all}
use Rattle.toml.specs.Data.{Data, Items, no_items, item, Members, no_members, member, get, as_str, as_array, as_table}

abbrev pub family_keys : List (List ℕ)
family_keys =
    codes "command" ∷ codes "outputs" ∷ codes "external" ∷ codes "requires" ∷ codes "resources" ∷ codes "priority"
    ∷ codes "retry_count" ∷ codes "disable_window" ∷ codes "disable_hard_timeout" ∷ codes "max_batch_size" ∷ codes "params" ∷ []

abbrev pub parameter_keys : List (List ℕ)
parameter_keys = codes "kind" ∷ codes "default" ∷ codes "significant" ∷ codes "choices" ∷ codes "batch" ∷ []

abbrev pub requirement_keys : List (List ℕ)
requirement_keys = codes "task" ∷ codes "params" ∷ []

abbrev pub top_keys : List (List ℕ)
top_keys = codes "task" ∷ []

-- a letter followed by letters, digits or `_`, all ASCII
abbrev pub is_name_byte : ℕ → Bool
is_name_byte b = is_ascii_alphanumeric b || b == 95

unfoldable pub is_name : List ℕ → Bool
is_name [] = false
is_name (b ∷ bytes) = is_ascii_alphabetic b && list_all is_name_byte bytes

-- the keys of a table, and the items of an array, of which anything else has none
abbrev pub member_keys : Members → List (List ℕ)
member_keys no_members = []
member_keys (member key d ms) = key ∷ member_keys ms

abbrev pub keys_of : Option Members → List (List ℕ)
keys_of None = []
keys_of (Some ms) = member_keys ms

abbrev pub item_list : Items → List Data
item_list no_items = []
item_list (item d ds) = d ∷ item_list ds

abbrev pub list_of : Option Items → List Data
list_of None = []
list_of (Some ds) = item_list ds

-- what stands at a key of a table, as a list: none where the key is absent or its value is no array
unfoldable pub list_at : List ℕ → Data → List Data
list_at key d = list_of (option_and_then as_array (get key d))

-- what a family's parameters are called, and how many outputs it has, also where these are faulty
unfoldable pub parameter_names : Data → List (List ℕ)
parameter_names family = keys_of (option_and_then as_table (get (codes "params") family))

abbrev pub output_count : Data → ℕ
output_count family = length (list_at (codes "outputs") family)

-- the text at a key, where one is there
unfoldable pub text_in : List ℕ → Data → Option (List ℕ)
text_in key d = option_and_then as_str (get key d)

-- whether an entry of `requires` names a family that has outputs
abbrev pub has_outputs : Option Data → Bool
has_outputs None = false
has_outputs (Some family) = nat_lt 0 (output_count family)

unfoldable pub gives_input : Data → Data → Bool
gives_input families d = has_outputs (option_and_then (λ task. get task families) (text_in (codes "task") d))

-- whether a family has a parameter of this name
unfoldable pub has_parameter : Data → List ℕ → Bool
has_parameter family name = is_some (option_and_then (get name) (get (codes "params") family))
