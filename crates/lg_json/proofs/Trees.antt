-- The tree of an `Out`, level by level, and the texts of its parts.
use Rattle.std.proofs.Common.{ℕ, ◌<◌, ◌+◌, length, get_or, drop, sym, ◌≡◌, List, [], ◌∷◌, ◌++◌, ap, ◌∙◌, append_assoc}
use Rattle.std.proofs.lemmas.List.{drop_more}
use Rattle.lg_json.specs.declared.out.Out.{Out}
use Rattle.lg_json.specs.Text.{text_of, texts_of, member_text, member_texts_of}
use Rattle.lg_json.specs.Tree.{tree_of, trees_view, members_view}
use Rattle.lg_json.proofs.Commas.{after_separator}

-- the element at hand comes next
drop_next : {A : Type 0} (items : List A) (i : ℕ) (item : A) → i < length items → item ≡ get_or items i item → drop i items ≡ item ∷ drop (i + 1) items
drop_next items i item within is = drop_more items i item within ∙ ap (λ y. y ∷ drop (i + 1) items) (sym is)

-- the text of the tree at hand comes next, behind the separator
pub next_text : (separator end : List ℕ) (items : List Out) (i : ℕ) (item : Out) → i < length items → item ≡ get_or items i item
    → after_separator separator (texts_of (trees_view (drop i items))) ++ end ≡ separator ++ (text_of (tree_of item) ++ (after_separator (44 ∷ []) (texts_of (trees_view (drop (i + 1) items))) ++ end))
next_text separator end items i item within is =
    rw (drop_next items i item within is) (append_assoc separator _ end ∙ ap (λ ys. separator ++ ys) (append_assoc (text_of (tree_of item)) _ end))

-- the same of the member at hand
pub next_member : (separator end : List ℕ) (members : List (List ℕ × Out)) (i : ℕ) (m : List ℕ × Out) → i < length members → m ≡ get_or members i m
    → after_separator separator (member_texts_of (members_view (drop i members))) ++ end
    ≡ separator ++ (member_text m.0 (tree_of m.1) ++ (after_separator (44 ∷ []) (member_texts_of (members_view (drop (i + 1) members))) ++ end))
next_member separator end members i m within is =
    rw (drop_next members i m within is) (append_assoc separator _ end ∙ ap (λ ys. separator ++ ys) (append_assoc (member_text m.0 (tree_of m.1)) _ end))
