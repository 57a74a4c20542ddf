-- The one text that is written for a value. This project's own, after Luigi's parameters.
use Rattle.std.specs.Prelude.{◌≡◌, ℕ, List, [], ◌∷◌, ◌++◌, Bool, true, false, codes}
use Rattle.std.specs.Fmt.{signed_decimal}
use Rattle.std.specs.List.{join_by}
use Rattle.lg_json.specs.Text.{quoted}
use Rattle.lg_params.specs.Dates.{SpellsYear, SpellsMonth, SpellsDate, SpellsDateHour, SpellsDateMinute}
use Rattle.lg_params.specs.declared.params.Param.{Param}

abbrev pub written_truth : Bool → List ℕ
written_truth true = codes "True"
written_truth false = codes "False"

-- each text between quotes with its escapes, a comma and a blank between each two, brackets around
abbrev pub list_text : List (List ℕ) → List ℕ
list_text texts = 91 ∷ (join_by quoted (44 ∷ 32 ∷ []) texts ++ 93 ∷ [])

-- this is the written text: a date has one text alone, and so that is it
abbrev pub IsWritten : Param → List ℕ → Type 0
IsWritten (Param.Text value) text = text ≡ value
IsWritten (Param.Int n) text = text ≡ signed_decimal n
IsWritten (Param.Truth b) text = text ≡ written_truth b
IsWritten (Param.Date n) text = SpellsDate text n
IsWritten (Param.DateHour n) text = SpellsDateHour text n
IsWritten (Param.DateMinute n) text = SpellsDateMinute text n
IsWritten (Param.Month n) text = SpellsMonth text n
IsWritten (Param.Year n) text = SpellsYear text n
IsWritten (Param.Choice value) text = text ≡ value
IsWritten (Param.Texts texts) text = text ≡ list_text texts
