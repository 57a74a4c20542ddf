-- The table that bytes write.
use Rattle.std.proofs.Common.{◌≡◌, ◌∙◌, sym, ℕ, Bool, false, codes, subst, List, [], Some, None, Ok, Err, refl, inl, inr}
use Rattle.std.proofs.lemmas.Bool.{cases_Bool, false≢true}
use Rattle.std.proofs.lemmas.Str.{IsUtf8-from_is_utf8, is_utf8-from_IsUtf8}
use Rattle.std.specs.Prelude.{IsTrue, ◌↔◌}
use Rattle.std.specs.Str.{IsUtf8, is_utf8}
use Rattle.toml.specs.Data.{Data, Members, get, table}
use Rattle.toml.specs.View.{view}
use Rattle.toml.specs.declared.value.Value.{Value}
use Rattle.toml.specs.Parse.{parse_document}
use Rattle.lg_declare.specs.Families.{document_of, families_of}
use Rattle.lg_declare.specs.Declaring.{Answers}
use Rattle.lg_declare.specs.Reading.{Read, read_or}
use Rattle.lg_declare.specs.declared.family.Family.{Family}
use Rattle.lg_declare.specs.declared.declare_fault.DeclareFault.TheVariants.{NotToml}

pub some_document : (bytes : List ℕ) (members : Members) → IsUtf8 bytes × (parse_document bytes ≡ Some members) → document_of bytes ≡ Ok members
unfolding document_of
some_document bytes members is = rw (is_utf8-from_IsUtf8 bytes is.0, is.1) refl

pub no_document : (bytes : List ℕ) → (IsUtf8 bytes → parse_document bytes ≡ None) → document_of bytes ≡ Err NotToml
unfolding document_of
no_document bytes refused =
    elim (cases_Bool (is_utf8 bytes)) [
      | inl utf8 ↦ rw (utf8, refused (IsUtf8-from_is_utf8 bytes utf8)) refl
      | inr other ↦ rw other refl
    ]

-- what a table says is what its members say
pub in_table : (result : Read (List Family)) (value : Value) (members : Members) → view value ≡ table members
    → Answers result (read_or [] families_of (get (codes "task") (view value))) → Answers result (read_or [] families_of (get (codes "task") (table members)))
in_table result value members is answers = subst (λ (d : Data). Answers result (read_or [] families_of (get (codes "task") d))) is answers

-- no want of memory was told
pub not_told : {P : Type 0} (b : Bool) → b ≡ false → (IsTrue b ↔ P) → ¬ P
not_told b fails same holds = false≢true (sym fails ∙ same.1 holds)
