-- The table that bytes write.
use Rattle.std.proofs.Common.{◌≡◌, ◌∙◌, sym, ℕ, Bool, false, List, Some, None, Result, Ok, Err, refl, inl, inr}
use Rattle.std.proofs.lemmas.Bool.{cases_Bool, false≢true}
use Rattle.std.proofs.lemmas.Str.{IsUtf8-from_is_utf8, is_utf8-from_IsUtf8}
use Rattle.std.specs.Prelude.{IsTrue, ◌↔◌}
use Rattle.std.specs.FinMap.{entries, entries_sorted}
use Rattle.std.specs.Result.{IfOk}
use Rattle.std.specs.Str.{IsUtf8, is_utf8}
use Rattle.toml.specs.Data.{Members}
use Rattle.toml.specs.Parse.{parse_document}
use Rattle.lg_base.specs.Amounts.{AmountsByName}
use Rattle.lg_base.specs.Names.{AreInOrder}
use Rattle.lg_calls.specs.declared.settings.Settings.{Settings}
use Rattle.lg_settings.specs.Settings.{document_of}
use Rattle.lg_settings.specs.declared.fault.SettingsFault.{SettingsFault}

pub some_document : (bytes : List ℕ) (table : Members) → IsUtf8 bytes × (parse_document bytes ≡ Some table) → document_of bytes ≡ Some table
unfolding document_of
some_document bytes table is = rw (is_utf8-from_IsUtf8 bytes is.0, is.1) refl

pub no_document : (bytes : List ℕ) → (IsUtf8 bytes → parse_document bytes ≡ None) → document_of bytes ≡ None
unfolding document_of
no_document bytes refused =
    elim (cases_Bool (is_utf8 bytes)) [
      | inl utf8 ↦ rw utf8 (refused (IsUtf8-from_is_utf8 bytes utf8))
      | inr other ↦ rw other refl
    ]

-- no want of memory was told
pub not_told : {P : Type 0} (b : Bool) → b ≡ false → (IsTrue b ↔ P) → ¬ P
not_told b fails same holds = false≢true (sym fails ∙ same.1 holds)

-- limits stand in the order of their names
pub limits_in_order : (result : Result (Settings × AmountsByName) SettingsFault) → IfOk result (λ read. AreInOrder (entries read.1))
limits_in_order (Ok read) = entries_sorted read.1
limits_in_order (Err fault) = tt
