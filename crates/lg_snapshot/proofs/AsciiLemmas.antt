-- The text of a tree is ASCII.
use Rattle.std.proofs.Common.{ℕ, ℤ, pos, negsuc, ◌<◌, Bool, true, false, List, [], ◌∷◌, ◌++◌, sym, subst, arith}
use Rattle.std.specs.Prelude.{All, IsUtf8}
use Rattle.std.specs.Fmt.{signed_decimal}
use Rattle.std.specs.Str.{IsAscii}
use Rattle.std.proofs.lemmas.Fmt.{IsAscii-decimal_wide, IsAscii-signed}
use Rattle.std.proofs.lemmas.Str.{IsAscii-append, IsUtf8-from_ascii}
use Rattle.std.proofs.lemmas.Str.Ascii.{IsAscii-nil, IsAscii-cons, IsAscii-from_all}
use Rattle.lg_json.specs.Canonical.{IsPrintable}
use Rattle.lg_json.specs.Text.{quoted, with_commas, text_of, texts_of, member_texts_of}
use Rattle.lg_json.specs.Tree.{Tree, null, truth, int, str, list, object, Trees, no_trees, tree, Members, no_members, member}
use Rattle.lg_snapshot.specs.Commas.{comma_if}
use Rattle.lg_snapshot.specs.Holding.{IsHeldNumber, IsHeld, AreHeld, MembersAreHeld}
use Rattle.lg_snapshot.proofs.Commas.{pieces, with_commas-pieces}

-- what `lg_json` says of quoted texts
abbrev pub QuotesArePrintable : Type 0
QuotesArePrintable = (text : List ℕ) → IsUtf8 text → All IsPrintable (quoted text)

quoted-ascii : QuotesArePrintable → (text : List ℕ) → IsUtf8 text → IsAscii (quoted text)
quoted-ascii printable text utf8 = IsAscii-from_all (quoted text) (λ k d below. let byte = printable text utf8 k d below in omega (arith, byte.1))

number-ascii : (n : ℤ) → IsHeldNumber n → IsAscii (signed_decimal n)
number-ascii (pos n) held = IsAscii-decimal_wide n (omega arith)
number-ascii (negsuc n) held = IsAscii-signed (negsuc n) held

comma-ascii : (later : Bool) → IsAscii (comma_if later)
comma-ascii true = IsAscii-cons 44 [] (omega arith) IsAscii-nil
comma-ascii false = IsAscii-nil

enclosed : (first last : ℕ) (texts : List (List ℕ)) → first < 128 → last < 128 → IsAscii (pieces false texts) → IsAscii (first ∷ (with_commas texts ++ last ∷ []))
enclosed first last texts low also inside =
    IsAscii-cons first (with_commas texts ++ last ∷ []) low
    (IsAscii-append (with_commas texts) (last ∷ []) (subst IsAscii (sym (with_commas-pieces texts)) inside) (IsAscii-cons last [] also IsAscii-nil))

word-ascii : (a b c d : ℕ) (rest : List ℕ) → a < 128 → b < 128 → c < 128 → d < 128 → IsAscii rest → IsAscii (a ∷ b ∷ c ∷ d ∷ rest)
word-ascii a b c d rest one two three four others =
    IsAscii-cons a (b ∷ c ∷ d ∷ rest) one (IsAscii-cons b (c ∷ d ∷ rest) two (IsAscii-cons c (d ∷ rest) three (IsAscii-cons d rest four others)))

module _ (printable : QuotesArePrintable) where
  mutual
    pub text_of-ascii : (t : Tree) → IsHeld t → IsAscii (text_of t)
    text_of-ascii null held = word-ascii 110 117 108 108 [] (omega arith) (omega arith) (omega arith) (omega arith) IsAscii-nil
    text_of-ascii (truth true) held = word-ascii 116 114 117 101 [] (omega arith) (omega arith) (omega arith) (omega arith) IsAscii-nil
    text_of-ascii (truth false) held = word-ascii 102 97 108 115 (101 ∷ []) (omega arith) (omega arith) (omega arith) (omega arith) (IsAscii-cons 101 [] (omega arith) IsAscii-nil)
    text_of-ascii (int n) held = number-ascii n held
    text_of-ascii (str text) held = quoted-ascii printable text held
    text_of-ascii (list ts) held = enclosed 91 93 (texts_of ts) (omega arith) (omega arith) (pieces-ascii false ts held)
    text_of-ascii (object ms) held = enclosed 123 125 (member_texts_of ms) (omega arith) (omega arith) (members-ascii false ms held)

    pieces-ascii : (later : Bool) (ts : Trees) → AreHeld ts → IsAscii (pieces later (texts_of ts))
    pieces-ascii later no_trees held = IsAscii-nil
    pieces-ascii later (tree t ts) held =
        IsAscii-append (comma_if later) (text_of t ++ pieces true (texts_of ts)) (comma-ascii later)
        (IsAscii-append (text_of t) (pieces true (texts_of ts)) (text_of-ascii t held.0) (pieces-ascii true ts held.1))

    members-ascii : (later : Bool) (ms : Members) → MembersAreHeld ms → IsAscii (pieces later (member_texts_of ms))
    members-ascii later no_members held = IsAscii-nil
    members-ascii later (member name t ms) held =
        IsAscii-append (comma_if later) ((quoted name ++ 58 ∷ text_of t) ++ pieces true (member_texts_of ms)) (comma-ascii later)
        (IsAscii-append (quoted name ++ 58 ∷ text_of t) (pieces true (member_texts_of ms))
        (IsAscii-append (quoted name) (58 ∷ text_of t) (quoted-ascii printable name held.0) (IsAscii-cons 58 (text_of t) (omega arith) (text_of-ascii t held.1)))
        (members-ascii true ms held.2))

  pub line-utf8 : (t : Tree) → IsHeld t → IsUtf8 (text_of t ++ 10 ∷ [])
  line-utf8 t held = IsUtf8-from_ascii (text_of t ++ 10 ∷ []) (IsAscii-append (text_of t) (10 ∷ []) (text_of-ascii t held) (IsAscii-cons 10 [] (omega arith) IsAscii-nil))
