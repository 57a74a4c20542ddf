-- The fields of a record, written one behind another.
use Rattle.std.proofs.Common.{◌≡◌, ℕ, List, [], ◌∷◌, ◌++◌, refl, sym, ap, ◌∙◌, append_assoc, append-nil}
use Rattle.lg_json.specs.Text.{text_of, member_text}
use Rattle.lg_json.specs.Tree.{Tree}
use Rattle.lg_snapshot.specs.Records.{Fields, record_of, more_text}
use Rattle.lg_snapshot.proofs.Commas.{fields_after}

then_more : (old mid new a b : List ℕ) → mid ≡ old ++ a → new ≡ mid ++ b → new ≡ old ++ (a ++ b)
then_more old mid new a b first next = next ∙ (ap (λ (text : List ℕ). text ++ b) first ∙ append_assoc old a b)

-- a field, and others behind it
pub more_step : (old mid new : List ℕ) (name : List ℕ) (t : Tree) (fields : Fields) (end : List ℕ)
    → mid ≡ old ++ 44 ∷ member_text name t → new ≡ mid ++ (more_text fields ++ end) → new ≡ old ++ (more_text ((name, t) ∷ fields) ++ end)
more_step old mid new name t fields end first next =
    then_more old mid new (44 ∷ member_text name t) (more_text fields ++ end) first next
    ∙ ap (λ (text : List ℕ). old ++ text) (sym (append_assoc (44 ∷ member_text name t) (more_text fields) end))

-- the same of a field whose tree has another name
pub more_step_as : (old mid new : List ℕ) (name : List ℕ) (s t : Tree) (fields : Fields) (end : List ℕ) → s ≡ t
    → mid ≡ old ++ 44 ∷ member_text name s → new ≡ mid ++ (more_text fields ++ end) → new ≡ old ++ (more_text ((name, t) ∷ fields) ++ end)
more_step_as old mid new name s t fields end same first next =
    more_step old mid new name t fields end (first ∙ ap (λ (tree : Tree). old ++ 44 ∷ member_text name tree) same) next

-- the last field of a part
pub more_last : (mid new : List ℕ) (name : List ℕ) (t : Tree) → new ≡ mid ++ 44 ∷ member_text name t → new ≡ mid ++ (more_text ((name, t) ∷ []) ++ [])
more_last mid new name t is =
    is ∙ ap (λ (text : List ℕ). mid ++ text) (sym (append-nil (44 ∷ member_text name t)) ∙ sym (append-nil ((44 ∷ member_text name t) ++ [])))

pub more_only : (old new : List ℕ) (fields : Fields) → new ≡ old ++ (more_text fields ++ []) → new ≡ old ++ more_text fields
more_only old new fields is = is ∙ ap (λ (text : List ℕ). old ++ text) (append-nil (more_text fields))

-- an object's first field, the others and its end
pub record_step : (old mid new : List ℕ) (name : List ℕ) (t : Tree) (fields : Fields)
    → mid ≡ old ++ 123 ∷ member_text name t → new ≡ mid ++ (more_text fields ++ 125 ∷ []) → new ≡ old ++ text_of (record_of ((name, t) ∷ fields))
record_step old mid new name t fields first next =
    then_more old mid new (123 ∷ member_text name t) (more_text fields ++ 125 ∷ []) first next
    ∙ ap (λ (text : List ℕ). old ++ 123 ∷ text)
    (sym (append_assoc (member_text name t) (more_text fields) (125 ∷ []))
    ∙ ap (λ (text : List ℕ). (member_text name t ++ text) ++ 125 ∷ []) (sym (fields_after fields)))

-- a part of the fields, and others behind it
more_text-append : (fields others : Fields) → more_text (fields ++ others) ≡ more_text fields ++ more_text others
more_text-append [] others = refl
more_text-append (field ∷ fields) others =
    let first = 44 ∷ member_text field.0 field.1 in
    ap (λ (text : List ℕ). first ++ text) (more_text-append fields others) ∙ sym (append_assoc first (more_text fields) (more_text others))

pub part_step : (old mid new : List ℕ) (fields others : Fields) (end : List ℕ)
    → mid ≡ old ++ more_text fields → new ≡ mid ++ (more_text others ++ end) → new ≡ old ++ (more_text (fields ++ others) ++ end)
part_step old mid new fields others end first next =
    then_more old mid new (more_text fields) (more_text others ++ end) first next
    ∙ ap (λ (text : List ℕ). old ++ text)
    (sym (append_assoc (more_text fields) (more_text others) end) ∙ ap (λ (text : List ℕ). text ++ end) (sym (more_text-append fields others)))
