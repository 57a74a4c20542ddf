-- Canonical texts that are the same are of the same pairs.
use Rattle.std.proofs.Common.{◌≡◌, ℕ, ◌+◌, ◌-◌, ◌/◌, ◌%◌, ◌<◌, Bool, true, false, nat_lt, List, [], ◌∷◌, ◌++◌, map, flat_map, Option, Some, None, refl, sym, ap, ap₂, ◌∙◌, append_assoc, ⊎_elim, suc, true≢false, arith}
use Rattle.std.proofs.Math.Utf8.{scalar, scalars, scalar_cases, encodes}
use Rattle.std.proofs.lemmas.Bool.Decides.{nat_tests}
use Rattle.std.proofs.lemmas.Bool.{and_parts}
use Rattle.std.proofs.lemmas.Str.{encodes-chars, scalars-chars, digit_value-digit_char}
use Rattle.std.specs.Char.{digit_char, digit_value}
use Rattle.std.specs.Char.Escape.{encode_utf16}
use Rattle.std.specs.Prelude.{IsUtf8, chars, if◌then◌else◌}
use Rattle.lg_json.specs.Canonical.{AreTexts, pair_text, canonical_text}
use Rattle.lg_json.specs.Escapes.{is_plain, letter_of, unit_escape, escape_by, escape, escaped}
use Rattle.lg_json.specs.Text.{quoted}

both : {A : Type 0} (x y : A) (xs ys : List A) → x ∷ xs ≡ y ∷ ys → (x ≡ y) × (xs ≡ ys)
both x y xs ys same = (cc, cc)

-- ---- characters

digit_same : (d e : ℕ) → d < 16 → e < 16 → digit_char d ≡ digit_char e → d ≡ e
digit_same d e small other same =
    sym (digit_value-digit_char d (omega (arith, small))) ∙ (ap digit_value same ∙ digit_value-digit_char e (omega (arith, other)))

unit_same : (u v : ℕ) (xs ys : List ℕ) → u < 0x1_0000 → v < 0x1_0000 → unit_escape u ++ xs ≡ unit_escape v ++ ys → (u ≡ v) × (xs ≡ ys)
unit_same u v xs ys small other same =
    let first : digit_char (u / 4096) ≡ digit_char (v / 4096) = cc in
    let second : digit_char (u / 256 % 16) ≡ digit_char (v / 256 % 16) = cc in
    let third : digit_char (u / 16 % 16) ≡ digit_char (v / 16 % 16) = cc in
    let fourth : digit_char (u % 16) ≡ digit_char (v % 16) = cc in
    let a = digit_same (u / 4096) (v / 4096) (omega (arith, small)) (omega (arith, other)) first in
    let b = digit_same (u / 256 % 16) (v / 256 % 16) (omega arith) (omega arith) second in
    let c = digit_same (u / 16 % 16) (v / 16 % 16) (omega arith) (omega arith) third in
    let d = digit_same (u % 16) (v % 16) (omega arith) (omega arith) fourth in
    (omega (arith, a, b, c, d), cc)

letter_same : (c d letter : ℕ) → letter_of c ≡ Some letter → letter_of d ≡ Some letter → c ≡ d
letter_same c d letter first second = grind (arith, nat_tests)

-- `u` is the letter of no character
letter_other : (c : ℕ) → letter_of c ≡ Some 117 → ⊥
letter_other c is = grind (arith, nat_tests)

below : (c : ℕ) → scalar c ≡ true → c < 0x11_0000
below c is = grind (arith, nat_tests)

-- the first of two units is no character
surrogate : (c n : ℕ) → scalar c ≡ true → n < 0x400 → c ≡ 0xD800 + n → ⊥
surrogate c n is small same = ⊎_elim (λ low. omega (arith, low, small, same)) (λ high. omega (arith, high.0, small, same)) (scalar_cases c is)

units_at : (b b' : Bool) (c d : ℕ) (xs ys : List ℕ) → nat_lt c 0x1_0000 ≡ b → nat_lt d 0x1_0000 ≡ b' → scalar c ≡ true → scalar d ≡ true
    → flat_map unit_escape (encode_utf16 c) ++ xs ≡ flat_map unit_escape (encode_utf16 d) ++ ys → (c ≡ d) × (xs ≡ ys)
units_at true true c d xs ys one one' is is' same =
    unit_same c d xs ys (grind (arith, nat_tests)) (grind (arith, nat_tests)) (rw (one, one') at same)
units_at true false c d xs ys one two is is' same =
    let high = 0xD800 + (d - 0x1_0000) / 0x400 in
    let first = unit_same c high xs (unit_escape (0xDC00 + (d - 0x1_0000) % 0x400) ++ ys) (grind (arith, nat_tests)) (omega (arith, below d is')) (rw (one, two) at same) in
    absurd (surrogate c ((d - 0x1_0000) / 0x400) is (omega (arith, below d is')) first.0)
units_at false true c d xs ys two one is is' same =
    let high = 0xD800 + (c - 0x1_0000) / 0x400 in
    let first = unit_same high d (unit_escape (0xDC00 + (c - 0x1_0000) % 0x400) ++ xs) ys (omega (arith, below c is)) (grind (arith, nat_tests)) (rw (two, one) at same) in
    absurd (surrogate d ((c - 0x1_0000) / 0x400) is' (omega (arith, below c is)) (sym first.0))
units_at false false c d xs ys two two' is is' same =
    let high = 0xD800 + (c - 0x1_0000) / 0x400 in
    let high' = 0xD800 + (d - 0x1_0000) / 0x400 in
    let low = 0xDC00 + (c - 0x1_0000) % 0x400 in
    let low' = 0xDC00 + (d - 0x1_0000) % 0x400 in
    let above : 0x1_0000 < c + 1 = grind (arith, nat_tests) in
    let above' : 0x1_0000 < d + 1 = grind (arith, nat_tests) in
    let first = unit_same high high' (unit_escape low ++ xs) (unit_escape low' ++ ys) (omega (arith, below c is)) (omega (arith, below d is')) (rw (two, two') at same) in
    let second = unit_same low low' xs ys (omega (arith, below c is)) (omega (arith, below d is')) first.1 in
    (omega (arith, above, above', first.0, second.0), second.1)

letter_then_unit : (b : Bool) (letter c d : ℕ) (xs ys : List ℕ) → nat_lt d 0x1_0000 ≡ b → letter_of c ≡ Some letter → 92 ∷ letter ∷ xs ≡ flat_map unit_escape (encode_utf16 d) ++ ys → ⊥
letter_then_unit true letter c d xs ys one is same =
    let opened : 92 ∷ letter ∷ xs ≡ unit_escape d ++ ys = rw one at same in
    let u : letter ≡ 117 = cc in
    letter_other c (is ∙ ap (λ x. Some x) u)
letter_then_unit false letter c d xs ys two is same =
    let opened : 92 ∷ letter ∷ xs ≡ unit_escape (0xD800 + (d - 0x1_0000) / 0x400) ++ (unit_escape (0xDC00 + (d - 0x1_0000) % 0x400) ++ ys) = rw two at same in
    let u : letter ≡ 117 = cc in
    letter_other c (is ∙ ap (λ x. Some x) u)

by_letter : (o o' : Option ℕ) (c d : ℕ) (xs ys : List ℕ) → letter_of c ≡ o → letter_of d ≡ o' → scalar c ≡ true → scalar d ≡ true
    → escape_by o c ++ xs ≡ escape_by o' d ++ ys → (c ≡ d) × (xs ≡ ys)
by_letter (Some l) (Some l') c d xs ys letter letter' is is' same =
    let one : l ≡ l' = cc in
    (letter_same c d l letter (letter' ∙ ap (λ x. Some x) (sym one)), cc)
by_letter (Some l) None c d xs ys letter none is is' same = absurd (letter_then_unit _ l c d xs ys refl letter same)
by_letter None (Some l) c d xs ys none letter is is' same = absurd (letter_then_unit _ l d c ys xs refl letter (sym same))
by_letter None None c d xs ys none none' is is' same = units_at _ _ c d xs ys refl refl is is' same

-- an escape begins with a backslash
begins : (b : Bool) (o : Option ℕ) (c : ℕ) (xs : List ℕ) → nat_lt c 0x1_0000 ≡ b → (rest : List ℕ) × (escape_by o c ++ xs ≡ 92 ∷ rest)
begins b (Some l) c xs is = (l ∷ xs, refl)
begins true None c xs one =
    (117 ∷ digit_char (c / 4096) ∷ digit_char (c / 256 % 16) ∷ digit_char (c / 16 % 16) ∷ digit_char (c % 16) ∷ xs, rw one refl)
begins false None c xs two =
    let high = 0xD800 + (c - 0x1_0000) / 0x400 in
    let low = 0xDC00 + (c - 0x1_0000) % 0x400 in
    (117 ∷ digit_char (high / 4096) ∷ digit_char (high / 256 % 16) ∷ digit_char (high / 16 % 16) ∷ digit_char (high % 16) ∷ (unit_escape low ++ xs), rw two refl)

escape-is : (c : ℕ) (p : Bool) → is_plain c ≡ p → escape c ≡ (if p then c ∷ [] else escape_by (letter_of c) c)
unfolding escape
escape-is c p is = rw is refl

plain_other : (c n : ℕ) → is_plain c ≡ true → is_plain n ≡ false → c ≡ n → ⊥
plain_other c n plain other same = true≢false (sym plain ∙ (ap is_plain same ∙ other))

char_at : (p q : Bool) (c d : ℕ) (xs ys : List ℕ) → is_plain c ≡ p → is_plain d ≡ q → scalar c ≡ true → scalar d ≡ true → escape c ++ xs ≡ escape d ++ ys → (c ≡ d) × (xs ≡ ys)
char_at true true c d xs ys plain plain' is is' same = both c d xs ys (rw (escape-is c true plain, escape-is d true plain') at same)
char_at true false c d xs ys plain other is is' same =
    let rest = begins _ (letter_of d) d ys refl in
    let opened : c ∷ xs ≡ 92 ∷ rest.0 = (rw (escape-is c true plain, escape-is d false other) at same) ∙ rest.1 in
    absurd (plain_other c 92 plain refl (both c 92 xs rest.0 opened).0)
char_at false true c d xs ys other plain is is' same =
    let rest = begins _ (letter_of c) c xs refl in
    let opened : d ∷ ys ≡ 92 ∷ rest.0 = sym (rw (escape-is c false other, escape-is d true plain) at same) ∙ rest.1 in
    absurd (plain_other d 92 plain refl (both d 92 ys rest.0 opened).0)
char_at false false c d xs ys other other' is is' same = by_letter _ _ c d xs ys refl refl is is' (rw (escape-is c false other, escape-is d false other') at same)

-- no escape begins with a quote
other_mark : (xs ys : List ℕ) → 34 ∷ xs ≡ 92 ∷ ys → ⊥
other_mark xs ys same = let mark : 34 ≡ 92 = (both 34 92 xs ys same).0 in omega (arith, mark)

no_quote : (p : Bool) (c : ℕ) (xs ys : List ℕ) → is_plain c ≡ p → 34 ∷ xs ≡ escape c ++ ys → ⊥
no_quote true c xs ys plain same =
    let opened : 34 ∷ xs ≡ c ∷ ys = rw (escape-is c true plain) at same in
    plain_other c 34 plain refl (sym (both 34 c xs ys opened).0)
no_quote false c xs ys other same =
    let rest = begins (nat_lt c 0x1_0000) (letter_of c) c ys refl in
    let opened : 34 ∷ xs ≡ escape_by (letter_of c) c ++ ys = rw (escape-is c false other) at same in
    other_mark xs rest.0 (opened ∙ rest.1)

-- ---- texts, pairs and lists of pairs

escaped_same : (cs ds xs ys : List ℕ) → scalars cs ≡ true → scalars ds ≡ true → escaped cs ++ 34 ∷ xs ≡ escaped ds ++ 34 ∷ ys → (cs ≡ ds) × (xs ≡ ys)
escaped_same [] [] xs ys are are' same = (refl, (both 34 34 xs ys same).1)
escaped_same [] (d ∷ ds) xs ys are are' same = absurd (no_quote _ d xs (escaped ds ++ 34 ∷ ys) refl (same ∙ append_assoc (escape d) (escaped ds) (34 ∷ ys)))
escaped_same (c ∷ cs) [] xs ys are are' same = absurd (no_quote _ c ys (escaped cs ++ 34 ∷ xs) refl (sym same ∙ append_assoc (escape c) (escaped cs) (34 ∷ xs)))
escaped_same (c ∷ cs) (d ∷ ds) xs ys are are' same =
    let parts = and_parts (scalar c) (scalars cs) are in
    let parts' = and_parts (scalar d) (scalars ds) are' in
    let apart = sym (append_assoc (escape c) (escaped cs) (34 ∷ xs)) ∙ (same ∙ append_assoc (escape d) (escaped ds) (34 ∷ ys)) in
    let first = char_at _ _ c d (escaped cs ++ 34 ∷ xs) (escaped ds ++ 34 ∷ ys) refl refl parts.0 parts'.0 apart in
    let later = escaped_same cs ds xs ys parts.1 parts'.1 first.1 in
    (ap₂ (λ x xs. x ∷ xs) first.0 later.0, later.1)

quoted-then : (text xs : List ℕ) → quoted text ++ xs ≡ 34 ∷ (escaped (chars text) ++ 34 ∷ xs)
quoted-then text xs = ap (λ ys. 34 ∷ ys) (append_assoc (escaped (chars text)) (34 ∷ []) xs)

quoted_same : (t u xs ys : List ℕ) → IsUtf8 t → IsUtf8 u → quoted t ++ xs ≡ quoted u ++ ys → (t ≡ u) × (xs ≡ ys)
quoted_same t u xs ys utf8 utf8' same =
    let opened = (both 34 34 _ _ (sym (quoted-then t xs) ∙ (same ∙ quoted-then u ys))).1 in
    let found = escaped_same (chars t) (chars u) xs ys (scalars-chars t utf8) (scalars-chars u utf8') opened in
    (sym (encodes-chars t utf8) ∙ (ap encodes found.0 ∙ encodes-chars u utf8'), found.1)

pair_same : (p q : List ℕ × List ℕ) (xs ys : List ℕ) → IsUtf8 p.0 × IsUtf8 p.1 → IsUtf8 q.0 × IsUtf8 q.1 → pair_text p ++ xs ≡ pair_text q ++ ys → (p ≡ q) × (xs ≡ ys)
pair_same p q xs ys texts texts' same =
    let apart = sym (append_assoc (quoted p.0) (58 ∷ quoted p.1) xs) ∙ (same ∙ append_assoc (quoted q.0) (58 ∷ quoted q.1) ys) in
    let name = quoted_same p.0 q.0 _ _ texts.0 texts'.0 apart in
    let value = quoted_same p.1 q.1 xs ys texts.1 texts'.1 (both 58 58 _ _ name.1).1 in
    (ap₂ (λ n v. (n, v)) name.0 value.0, value.1)

abbrev Pairs : Type 0
Pairs = List (List ℕ × List ℕ)

-- what stands behind the first pair
abbrev behind : Pairs → List ℕ
behind pairs = flat_map (λ text. 44 ∷ text) (map pair_text pairs) ++ 125 ∷ []

first_texts : (p : List ℕ × List ℕ) (ps : Pairs) → AreTexts (p ∷ ps) → IsUtf8 p.0 × IsUtf8 p.1
first_texts p ps texts = texts 0 p (omega arith)

later_texts : (p : List ℕ × List ℕ) (ps : Pairs) → AreTexts (p ∷ ps) → AreTexts ps
later_texts p ps texts = λ k d within. texts (suc k) d (omega (arith, within))

comma_or_brace : (xs ys : List ℕ) → 125 ∷ xs ≡ 44 ∷ ys → ⊥
comma_or_brace xs ys same = let mark : 125 ≡ 44 = (both 125 44 xs ys same).0 in omega (arith, mark)

quote_or_brace : (xs ys : List ℕ) → 125 ∷ xs ≡ 34 ∷ ys → ⊥
quote_or_brace xs ys same = let mark : 125 ≡ 34 = (both 125 34 xs ys same).0 in omega (arith, mark)

behind_same : (ps qs : Pairs) → AreTexts ps → AreTexts qs → behind ps ≡ behind qs → ps ≡ qs
behind_same [] [] texts texts' same = refl
behind_same [] (q ∷ qs) texts texts' same = absurd (comma_or_brace [] _ same)
behind_same (p ∷ ps) [] texts texts' same = absurd (comma_or_brace [] _ (sym same))
behind_same (p ∷ ps) (q ∷ qs) texts texts' same =
    let apart = sym (append_assoc (44 ∷ pair_text p) (flat_map (λ text. 44 ∷ text) (map pair_text ps)) (125 ∷ [])) ∙ (same ∙ append_assoc (44 ∷ pair_text q) (flat_map (λ text. 44 ∷ text) (map pair_text qs)) (125 ∷ [])) in
    let first = pair_same p q (behind ps) (behind qs) (first_texts p ps texts) (first_texts q qs texts') (both 44 44 _ _ apart).1 in
    ap₂ (λ x xs. x ∷ xs) first.0 (behind_same ps qs (later_texts p ps texts) (later_texts q qs texts') first.1)

pub pairs_same : (ps qs : Pairs) → AreTexts ps → AreTexts qs → canonical_text ps ≡ canonical_text qs → ps ≡ qs
pairs_same [] [] texts texts' same = refl
pairs_same [] (q ∷ qs) texts texts' same = absurd (quote_or_brace [] _ (both 123 123 _ _ same).1)
pairs_same (p ∷ ps) [] texts texts' same = absurd (quote_or_brace [] _ (both 123 123 _ _ (sym same)).1)
pairs_same (p ∷ ps) (q ∷ qs) texts texts' same =
    let opened = (both 123 123 _ _ same).1 in
    let apart = sym (append_assoc (pair_text p) (flat_map (λ text. 44 ∷ text) (map pair_text ps)) (125 ∷ [])) ∙ (opened ∙ append_assoc (pair_text q) (flat_map (λ text. 44 ∷ text) (map pair_text qs)) (125 ∷ [])) in
    let first = pair_same p q (behind ps) (behind qs) (first_texts p ps texts) (first_texts q qs texts') apart in
    ap₂ (λ x xs. x ∷ xs) first.0 (behind_same ps qs (later_texts p ps texts) (later_texts q qs texts') first.1)
