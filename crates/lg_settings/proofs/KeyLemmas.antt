-- What a key has, by what the map of its table finds.
use Rattle.std.proofs.Common.{◌≡◌, ℕ, List, Option, Some, None, Bor, option_map, string_bytes, nat_cmp, refl, sym, ap, ◌∙◌}
use Rattle.std.specs.BTreeMap.{is_at}
use Rattle.std.specs.Cmp.Lexicographic.{slice_cmp}
use Rattle.std.specs.Map.{lookup}
use Rattle.toml.proofs.Views.{Entry, table_get}
use Rattle.toml.specs.Data.{Data, as_str, get_member}
use Rattle.toml.specs.View.{view, members_view}
use Rattle.toml.specs.declared.value.Value.{Value}
use Rattle.lg_settings.specs.Reading.{set_or, key, some_text}

-- what the map finds at a name
abbrev pub Finds : Option (Bor Value) → List ℕ → List Entry → Type 0
Finds found name entries = option_map (λ value. value.now) found ≡ lookup (is_at (λ other. slice_cmp nat_cmp name (string_bytes other))) entries

pub absent_member : (found : Option (Bor Value)) (name : List ℕ) (entries : List Entry) → Finds found name entries
    → found ≡ None → get_member name (members_view entries) ≡ None
absent_member found name entries finds none =
    sym (table_get found name entries finds) ∙ ap (option_map (λ value. view value.now)) none

pub present_member : (found : Option (Bor Value)) (name : List ℕ) (entries : List Entry) (value : Bor Value) → Finds found name entries
    → found ≡ Some value → get_member name (members_view entries) ≡ Some (view value.now)
present_member found name entries value finds is =
    sym (table_get found name entries finds) ∙ ap (option_map (λ value. view value.now)) is

-- an absent key has what stands for it
pub absent_key : {A : Type 0} (kind : Data → Option A) (unset : A) (found : Option (Bor Value)) (name : List ℕ) (entries : List Entry)
    → Finds found name entries → found ≡ None → key name kind unset (members_view entries) ≡ Some unset
unfolding key
absent_key kind unset found name entries finds none =
    ap (set_or kind unset) (absent_member found name entries finds none)

-- a key that is there has its value, as its kind
pub present_key : {A : Type 0} (kind : Data → Option A) (unset : A) (found : Option (Bor Value)) (name : List ℕ) (entries : List Entry)
    (value : Bor Value) → Finds found name entries → found ≡ Some value → key name kind unset (members_view entries) ≡ kind (view value.now)
unfolding key
present_key kind unset found name entries value finds is =
    ap (set_or kind unset) (present_member found name entries value finds is)

pub text_is : (value : Data) (text : List ℕ) → as_str value ≡ Some text → some_text value ≡ Some (Some text)
text_is value text is = rw is refl

pub no_text : (value : Data) → as_str value ≡ None → some_text value ≡ None
no_text value none = rw none refl
