-- The values of a kind. This project's own.
use Rattle.std.specs.Prelude.{◌≡◌, ℕ, List, Bool, ℤ, All, Contains, IsUtf8, FitsSigned}
use Rattle.std.specs.Int.{w64}
use Rattle.lg_params.specs.declared.kinds.Kind.{Kind}
use Rattle.lg_params.specs.declared.params.Param.{Param}

-- a value of the kind
abbrev pub IsOfKind : Kind → Param → Type 0
IsOfKind Kind.Text p = (text : List ℕ) × (p ≡ Param.Text text)
IsOfKind Kind.Int p = (n : ℤ) × FitsSigned w64 n × (p ≡ Param.Int n)
IsOfKind Kind.Truth p = (b : Bool) × (p ≡ Param.Truth b)
IsOfKind Kind.Date p = (days : ℤ) × (p ≡ Param.Date days)
IsOfKind Kind.DateHour p = (hours : ℤ) × (p ≡ Param.DateHour hours)
IsOfKind Kind.DateMinute p = (minutes : ℤ) × (p ≡ Param.DateMinute minutes)
IsOfKind Kind.Month p = (months : ℤ) × (p ≡ Param.Month months)
IsOfKind Kind.Year p = (year : ℤ) × (p ≡ Param.Year year)
IsOfKind (Kind.Choice choices) p = (text : List ℕ) × Contains choices text × (p ≡ Param.Choice text)
IsOfKind Kind.Texts p = (texts : List (List ℕ)) × (p ≡ Param.Texts texts)

-- the texts of a list are UTF-8, as each `Text` is
abbrev pub HoldsUtf8 : Param → Type 0
HoldsUtf8 (Param.Texts texts) = All IsUtf8 texts
HoldsUtf8 _ = Unit {0}
