-- What a text says as a value of a kind. This project's own, after Luigi's parameters; a whole number is what Rust's
-- `parse` reads, a date is that of ISO 8601 with each digit place filled, and a list is JSON (RFC 8259).
use Rattle.std.specs.Prelude.{◌≡◌, ℕ, List, Bool, true, false, codes, map, Some, ℤ, Contains, FitsSigned}
use Rattle.std.specs.Int.{w64}
use Rattle.std.specs.Str.{str_to_ascii_lowercase}
use Rattle.std.specs.Str.Parse.{IsNumeral, without_leading_sign, signed_digits_value}
use Rattle.serde_json.specs.Data.{string, array}
use Rattle.serde_json.specs.Read.{read}
use Rattle.serde_json.specs.View.{items_of}
use Rattle.lg_params.specs.Dates.{SpellsYear, SpellsMonth, SpellsDate, SpellsDateHour, SpellsDateMinute}
use Rattle.lg_params.specs.declared.kinds.Kind.{Kind}
use Rattle.lg_params.specs.declared.params.Param.{Param}

-- an optional sign and one or more decimal digits spell this number
pub record SpellsInt (text : List ℕ) (n : ℤ) : Type 0 where
  pub digits : IsNumeral 10 (without_leading_sign text)
  pub number : n ≡ signed_digits_value 10 text

abbrev pub truth_text : Bool → List ℕ
truth_text true = codes "true"
truth_text false = codes "false"

-- in any ASCII case
abbrev pub SpellsTruth : List ℕ → Bool → Type 0
SpellsTruth text b = str_to_ascii_lowercase text ≡ truth_text b

-- the text is JSON (RFC 8259), and its value is the array of these strings
abbrev pub SpellsTexts : List ℕ → List (List ℕ) → Type 0
SpellsTexts text texts = read text ≡ Some (array (items_of (map string texts)))

-- the text is read as this value of the kind
abbrev pub Spells : Kind → List ℕ → Param → Type 0
Spells Kind.Text text p = p ≡ Param.Text text
Spells Kind.Int text p = (n : ℤ) × SpellsInt text n × FitsSigned w64 n × (p ≡ Param.Int n)
Spells Kind.Truth text p = (b : Bool) × SpellsTruth text b × (p ≡ Param.Truth b)
Spells Kind.Date text p = (n : ℤ) × SpellsDate text n × (p ≡ Param.Date n)
Spells Kind.DateHour text p = (n : ℤ) × SpellsDateHour text n × (p ≡ Param.DateHour n)
Spells Kind.DateMinute text p = (n : ℤ) × SpellsDateMinute text n × (p ≡ Param.DateMinute n)
Spells Kind.Month text p = (n : ℤ) × SpellsMonth text n × (p ≡ Param.Month n)
Spells Kind.Year text p = (n : ℤ) × SpellsYear text n × (p ≡ Param.Year n)
Spells (Kind.Choice choices) text p = Contains choices text × (p ≡ Param.Choice text)
Spells Kind.Texts text p = (texts : List (List ℕ)) × SpellsTexts text texts × (p ≡ Param.Texts texts)
