-- Pieces with commas between them, one behind another.
use Rattle.std.proofs.Common.{◌≡◌, ℕ, Bool, true, false, ◌<◌, ◌+◌, List, [], ◌∷◌, ◌++◌, flat_map, map, length, get_or, drop, refl, sym, ap, ◌∙◌, append_assoc}
use Rattle.std.proofs.lemmas.List.{drop_more}
use Rattle.lg_json.specs.Text.{with_commas, text_of, texts_of, member_text, member_texts_of}
use Rattle.lg_json.specs.Tree.{Tree, trees_of, members_of}
use Rattle.lg_snapshot.specs.Commas.{comma_if}
use Rattle.lg_snapshot.specs.Records.{Fields, more_text}

-- what these pieces still add, with a comma before the first of them where something stands before
abbrev pub pieces : Bool → List (List ℕ) → List ℕ
pieces later [] = []
pieces later (text ∷ texts) = comma_if later ++ (text ++ pieces true texts)

each_after_comma : (texts : List (List ℕ)) → flat_map (λ text. (44 ∷ []) ++ text) texts ≡ pieces true texts
each_after_comma [] = refl
each_after_comma (text ∷ texts) = ap (λ (rest : List ℕ). 44 ∷ (text ++ rest)) (each_after_comma texts)

pub with_commas-pieces : (texts : List (List ℕ)) → with_commas texts ≡ pieces false texts
with_commas-pieces [] = refl
with_commas-pieces (text ∷ texts) = ap (λ (rest : List ℕ). text ++ rest) (each_after_comma texts)

-- the opening bracket is written
pub begun : (old : List ℕ) (first last : ℕ) (texts : List (List ℕ))
    → old ++ first ∷ (with_commas texts ++ last ∷ []) ≡ (old ++ first ∷ []) ++ (pieces false texts ++ last ∷ [])
begun old first last texts =
    ap (λ (rest : List ℕ). old ++ first ∷ (rest ++ last ∷ [])) (with_commas-pieces texts) ∙ sym (append_assoc old (first ∷ []) (pieces false texts ++ last ∷ []))

-- a separator and a piece more are written
one_more : (done separator text rest end : List ℕ) → done ++ ((separator ++ (text ++ rest)) ++ end) ≡ ((done ++ separator) ++ text) ++ (rest ++ end)
one_more done separator text rest end = simp append_assoc

-- the element at hand comes next
pub drop_next : {A : Type 0} (items : List A) (i : ℕ) (item : A) → i < length items → item ≡ get_or items i item → drop i items ≡ item ∷ drop (i + 1) items
drop_next items i item within is = drop_more items i item within ∙ ap (λ y. y ∷ drop (i + 1) items) (sym is)

-- what is left of a list, and of an object
abbrev pub items_left : {A : Type 0} → (A → Tree) → List A → List (List ℕ)
items_left tree items = texts_of (trees_of (map tree items))

abbrev pub members_left : {A : Type 0} → (A → Tree) → List (List ℕ × A) → List (List ℕ)
members_left tree pairs = member_texts_of (members_of (map (λ pair. (pair.0, tree pair.1)) pairs))

pub next_item : {A : Type 0} (tree : A → Tree) (whole done : List ℕ) (later : Bool) (last : ℕ) (items : List A) (i : ℕ) (item : A) → i < length items → item ≡ get_or items i item
    → whole ≡ done ++ (pieces later (items_left tree (drop i items)) ++ last ∷ [])
    → whole ≡ ((done ++ comma_if later) ++ text_of (tree item)) ++ (pieces true (items_left tree (drop (i + 1) items)) ++ last ∷ [])
next_item tree whole done later last items i item within is so_far =
    so_far
    ∙ (ap (λ rest. done ++ (pieces later (items_left tree rest) ++ last ∷ [])) (drop_next items i item within is)
    ∙ one_more done (comma_if later) (text_of (tree item)) _ (last ∷ []))

pub next_member : {A : Type 0} (tree : A → Tree) (whole done : List ℕ) (later : Bool) (last : ℕ) (pairs : List (List ℕ × A)) (i : ℕ) (pair : List ℕ × A) → i < length pairs → pair ≡ get_or pairs i pair
    → whole ≡ done ++ (pieces later (members_left tree (drop i pairs)) ++ last ∷ [])
    → whole ≡ ((done ++ comma_if later) ++ member_text pair.0 (tree pair.1)) ++ (pieces true (members_left tree (drop (i + 1) pairs)) ++ last ∷ [])
next_member tree whole done later last pairs i pair within is so_far =
    so_far
    ∙ (ap (λ rest. done ++ (pieces later (members_left tree rest) ++ last ∷ [])) (drop_next pairs i pair within is)
    ∙ one_more done (comma_if later) (member_text pair.0 (tree pair.1)) _ (last ∷ []))

-- the fields behind the first of an object
pub fields_after : (fields : Fields) → flat_map (λ text. (44 ∷ []) ++ text) (member_texts_of (members_of fields)) ≡ more_text fields
fields_after [] = refl
fields_after (field ∷ fields) = ap (λ (rest : List ℕ). 44 ∷ (member_text field.0 field.1 ++ rest)) (fields_after fields)
