-- When a text gives no value of a kind. This project's own.
use Rattle.std.specs.Prelude.{ℕ, List, ℤ, Contains, FitsSigned, Result, IfOk, IsErrOf, IsOkUnless, ◌↔◌, ◌⊎◌}
use Rattle.std.specs.Int.{w64}
use Rattle.lg_params.specs.Spelling.{Spells, SpellsInt}
use Rattle.lg_params.specs.declared.fault.ReadFault.{ReadFault}
use Rattle.lg_params.specs.declared.kinds.Kind.{Kind}
use Rattle.lg_params.specs.declared.params.Param.{Param}

-- no value of the kind has this text
abbrev pub SpellsNothing : Kind → List ℕ → Type 0
SpellsNothing kind text = (p : Param) → ¬ Spells kind text p

-- the text isn't of the kind's shape, or the day that it names is not in the calendar
abbrev pub IsBadText : Kind → List ℕ → Type 0
IsBadText Kind.Text text = ⊥
IsBadText Kind.Int text = (n : ℤ) → ¬ SpellsInt text n
IsBadText Kind.Truth text = SpellsNothing Kind.Truth text
IsBadText Kind.Date text = SpellsNothing Kind.Date text
IsBadText Kind.DateHour text = SpellsNothing Kind.DateHour text
IsBadText Kind.DateMinute text = SpellsNothing Kind.DateMinute text
IsBadText Kind.Month text = SpellsNothing Kind.Month text
IsBadText Kind.Year text = SpellsNothing Kind.Year text
IsBadText (Kind.Choice choices) text = ⊥
IsBadText Kind.Texts text = SpellsNothing Kind.Texts text

-- the kind declares texts, and this is none of them
abbrev pub IsNoChoice : Kind → List ℕ → Type 0
IsNoChoice (Kind.Choice choices) text = ¬ Contains choices text
IsNoChoice _ text = ⊥

-- a whole number outside the 64 bits of the kind
abbrev pub IsPast64Bits : Kind → List ℕ → Type 0
IsPast64Bits Kind.Int text = (n : ℤ) × SpellsInt text n × (¬ FitsSigned w64 n)
IsPast64Bits _ text = ⊥

-- a value of the kind holds a text, which takes memory
abbrev pub HoldsText : Kind → Type 0
HoldsText Kind.Text = Unit {0}
HoldsText (Kind.Choice choices) = Unit {0}
HoldsText Kind.Texts = Unit {0}
HoldsText _ = ⊥

-- each answer exactly where it is due, but that memory may run out before
pub record Answers (kind : Kind) (text : List ℕ) (outcome : Result Param ReadFault) : Type 0 where
  pub value : IfOk outcome (Spells kind text)
  pub spelled : (p : Param) → Spells kind text p → IsOkUnless outcome ReadFault.NoMemory
  pub bad_text : IsErrOf outcome ReadFault.BadText → IsBadText kind text
  pub bad_text_told : IsBadText kind text → IsErrOf outcome ReadFault.BadText ⊎ IsErrOf outcome ReadFault.NoMemory
  pub no_choice : IsErrOf outcome ReadFault.NotAChoice ↔ IsNoChoice kind text
  pub out_of_range : IsErrOf outcome ReadFault.OutOfRange ↔ IsPast64Bits kind text
  pub memory : IsErrOf outcome ReadFault.NoMemory → HoldsText kind
