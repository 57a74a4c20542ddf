-- The one compact text of a tree (RFC 8259, with no blanks).
use Rattle.std.specs.Prelude.{ℕ, List, [], ◌∷◌, ◌++◌, true, false, codes, chars}
use Rattle.std.specs.Fmt.{signed_decimal}
use Rattle.std.specs.List.{join_by}
use Rattle.lg_json.specs.Escapes.{escaped}
use Rattle.lg_json.specs.Tree.{Tree, null, truth, int, str, list, object, Trees, no_trees, tree, Members, no_members, member}

-- the bytes of a text between quotes, with the escapes of its characters
abbrev pub quoted : List ℕ → List ℕ
quoted text = 34 ∷ (escaped (chars text) ++ 34 ∷ [])

-- with a comma between each two
abbrev pub with_commas : List (List ℕ) → List ℕ
with_commas = join_by (λ text. text) (44 ∷ [])

-- between brackets
abbrev pub bracketed : List (List ℕ) → List ℕ
bracketed texts = 91 ∷ (with_commas texts ++ 93 ∷ [])

-- between braces
abbrev pub braced : List (List ℕ) → List ℕ
braced texts = 123 ∷ (with_commas texts ++ 125 ∷ [])

abbrev mutual
  pub text_of : Tree → List ℕ
  text_of null = codes "null"
  text_of (truth true) = codes "true"
  text_of (truth false) = codes "false"
  text_of (int n) = signed_decimal n
  text_of (str text) = quoted text
  text_of (list ts) = bracketed (texts_of ts)
  text_of (object ms) = braced (member_texts_of ms)

  -- of each
  pub texts_of : Trees → List (List ℕ)
  texts_of no_trees = []
  texts_of (tree t ts) = text_of t ∷ texts_of ts

  -- of each, the name, a colon and the tree
  pub member_texts_of : Members → List (List ℕ)
  member_texts_of no_members = []
  member_texts_of (member name t ms) = (quoted name ++ 58 ∷ text_of t) ∷ member_texts_of ms

abbrev pub member_text : List ℕ → Tree → List ℕ
member_text name t = quoted name ++ 58 ∷ text_of t

abbrev pub list_text : Trees → List ℕ
list_text ts = text_of (list ts)

abbrev pub object_text : Members → List ℕ
object_text ms = text_of (object ms)
