-- JSON reads back each character that stands between quotes with its escape.
use Rattle.std.proofs.Common.{◌≡◌, ◌≢◌, ℕ, ◌+◌, ◌-◌, ◌*◌, ◌/◌, ◌%◌, ◌<◌, ◌≤◌, ◌⊎◌, inl, inr, ⊎_elim, Bool, true, false, cond, List, [], ◌∷◌, ◌++◌, Some, None, option_and_then, encode_utf8, refl, sym, ap, ◌∙◌, subst, arith, append_assoc}
use Rattle.std.specs.Char.{digit_char}
use Rattle.std.proofs.lemmas.Bool.{cases_eq, cases_lt, ne_eqb, le-ltb, lt-ltb}
use Rattle.std.proofs.lemmas.Bool.Decides.{nat_tests}
use Rattle.std.proofs.lemmas.Str.{digit_value-digit_char, encode_ascii}
use lib.Utf8.{scalar, scalar_cases, encode}
use Rattle.json.specs.Text.{content, plain, after_high, prepend, code_unit, short_escape, is_high_surrogate, is_low_surrogate, surrogate_pair}
use Rattle.json.specs.Word.{is_operator, is_space}
use Rattle.json.specs.Lex.{Lexeme, Mode, lex, lex_byte, in_string, operator, space, other}
use Rattle.lg_json.specs.Escapes.{is_plain, unit_escape, escape_by, escape}

-- what both readers make of the escape of c, before any text
pub record Passes (c : ℕ) : Type 0 where
  pub read : (r : List ℕ) → content plain (escape c ++ r) ≡ prepend (encode_utf8 c) (content plain r)
  pub lexed : (r : List ℕ) → lex in_string (escape c ++ r) ≡ lex in_string r

stays_inside : (o s : Bool) (x : ℕ) (r : List ℕ) (k : Mode → List Lexeme) → lex_byte in_string (cond o operator (cond s space other)) x r k ≡ k in_string
stays_inside true s x r k = refl
stays_inside false true x r k = refl
stays_inside false false x r k = refl

-- a byte that ends no text and begins no escape
inside : (x : ℕ) (r : List ℕ) → x ≢ 34 → x ≢ 92 → lex in_string (x ∷ r) ≡ lex in_string r
unfolding lex
inside x r quote backslash =
    rw (ne_eqb x 34 quote, ne_eqb x 92 backslash) (stays_inside (is_operator x) (is_space x) x r (λ m. lex m r))

-- ---- four hexadecimal digits

digit_is : (d : ℕ) → d < 16 → (digit_char d ≢ 34) × (digit_char d ≢ 92)
digit_is d small = (grind (arith, nat_tests), grind (arith, nat_tests))

code_unit_by : (a b c d : ℕ) → a < 16 → b < 16 → c < 16 → d < 16 → code_unit (digit_char a) (digit_char b) (digit_char c) (digit_char d) ≡ Some (a * 4096 + b * 256 + c * 16 + d)
unfolding code_unit
code_unit_by a b c d fa fb fc fd =
    rw (digit_value-digit_char a (omega arith), digit_value-digit_char b (omega arith), digit_value-digit_char c (omega arith), digit_value-digit_char d (omega arith))
    (rw (lt-ltb a 16 fa, lt-ltb b 16 fb, lt-ltb c 16 fc, lt-ltb d 16 fd))

code_unit_of : (u : ℕ) → u < 65536 → code_unit (digit_char (u / 4096)) (digit_char (u / 256 % 16)) (digit_char (u / 16 % 16)) (digit_char (u % 16)) ≡ Some u
code_unit_of u small =
    code_unit_by (u / 4096) (u / 256 % 16) (u / 16 % 16) (u % 16) (omega arith) (omega arith) (omega arith) (omega arith)
    ∙ ap (λ (n : ℕ). Some n) (omega arith)

unit_read : (u : ℕ) (r : List ℕ) → u < 65536 → content plain (unit_escape u ++ r) ≡ cond (is_high_surrogate u) (content (after_high u) r) (cond (is_low_surrogate u) None (prepend (encode_utf8 u) (content plain r)))
unfolding content
unit_read u r small =
    ap (option_and_then (λ (v : ℕ). cond (is_high_surrogate v) (content (after_high v) r) (cond (is_low_surrogate v) None (prepend (encode_utf8 v) (content plain r))))) (code_unit_of u small)

second_read : (high u : ℕ) (r : List ℕ) → u < 65536 → content (after_high high) (unit_escape u ++ r) ≡ cond (is_low_surrogate u) (prepend (encode_utf8 (surrogate_pair high u)) (content plain r)) None
unfolding content
second_read high u r small =
    ap (option_and_then (λ (v : ℕ). cond (is_low_surrogate v) (prepend (encode_utf8 (surrogate_pair high v)) (content plain r)) None)) (code_unit_of u small)

unit_begun : (r : List ℕ) → lex in_string (92 ∷ 117 ∷ r) ≡ lex in_string r
unfolding lex
unit_begun r = refl

unit_lexed : (u : ℕ) (r : List ℕ) → u < 65536 → lex in_string (unit_escape u ++ r) ≡ lex in_string r
unit_lexed u r small =
    let a = digit_is (u / 4096) (omega arith) in
    let b = digit_is (u / 256 % 16) (omega arith) in
    let c = digit_is (u / 16 % 16) (omega arith) in
    let d = digit_is (u % 16) (omega arith) in
    unit_begun _ ∙ (inside _ _ a.0 a.1 ∙ (inside _ _ b.0 b.1 ∙ (inside _ _ c.0 c.1 ∙ inside _ _ d.0 d.1)))

-- ---- one character

quote_passes : Passes 34
unfolding escape content lex short_escape encode
quote_passes = record { read = λ r. refl; lexed = λ r. refl }

backslash_passes : Passes 92
unfolding escape content lex short_escape encode
backslash_passes = record { read = λ r. refl; lexed = λ r. refl }

backspace_passes : Passes 8
unfolding escape content lex short_escape encode
backspace_passes = record { read = λ r. refl; lexed = λ r. refl }

form_feed_passes : Passes 12
unfolding escape content lex short_escape encode
form_feed_passes = record { read = λ r. refl; lexed = λ r. refl }

line_feed_passes : Passes 10
unfolding escape content lex short_escape encode
line_feed_passes = record { read = λ r. refl; lexed = λ r. refl }

return_passes : Passes 13
unfolding escape content lex short_escape encode
return_passes = record { read = λ r. refl; lexed = λ r. refl }

tab_passes : Passes 9
unfolding escape content lex short_escape encode
tab_passes = record { read = λ r. refl; lexed = λ r. refl }

plain_read : (c : ℕ) (r : List ℕ) → c ≢ 34 → c ≢ 92 → 32 ≤ c → content plain (c ∷ r) ≡ prepend (c ∷ []) (content plain r)
unfolding content
plain_read c r quote backslash low = rw (ne_eqb c 34 quote, ne_eqb c 92 backslash, le-ltb c 32 low)

plain_escape : (c : ℕ) → c ≢ 34 → c ≢ 92 → 32 ≤ c → c ≤ 126 → escape c ≡ c ∷ []
unfolding escape
plain_escape c quote backslash low high =
    let is : is_plain c ≡ true = grind (arith, nat_tests) in rw is

plain_passes : (c : ℕ) → c ≢ 34 → c ≢ 92 → 32 ≤ c → c ≤ 126 → Passes c
plain_passes c quote backslash low high =
    let alone = plain_escape c quote backslash low high in
    record {
      read = λ r. rw (alone, encode_ascii c (omega arith)) (plain_read c r quote backslash low);
      lexed = λ r. rw alone (inside c r quote backslash);
    }

-- a character with no letter, and that doesn't stand for itself
pub record IsSpelledOut (c : ℕ) : Type 0 where
  pub quote : c ≢ 34
  pub backslash : c ≢ 92
  pub backspace : c ≢ 8
  pub form_feed : c ≢ 12
  pub line_feed : c ≢ 10
  pub return : c ≢ 13
  pub tab : c ≢ 9
  pub unprintable : (c < 32) ⊎ (126 < c)

units_escape : (c : ℕ) → IsSpelledOut c → escape c ≡ escape_by None c
unfolding escape
units_escape c is =
    let shown : is_plain c ≡ false = grind (arith, nat_tests) in
    rw (shown, ne_eqb c 34 is.quote, ne_eqb c 92 is.backslash, ne_eqb c 8 is.backspace, ne_eqb c 12 is.form_feed, ne_eqb c 10 is.line_feed, ne_eqb c 13 is.return, ne_eqb c 9 is.tab)

one_unit : (c : ℕ) → c < 65536 → escape_by None c ≡ unit_escape c
one_unit c small = rw (lt-ltb c 65536 small)

two_units : (c : ℕ) → 65536 ≤ c → escape_by None c ≡ unit_escape (55296 + (c - 65536) / 1024) ++ unit_escape (56320 + (c - 65536) % 1024)
two_units c big = rw (le-ltb c 65536 big)

no_surrogate : (u : ℕ) → (u < 55296) ⊎ (57344 ≤ u) → (is_high_surrogate u ≡ false) × (is_low_surrogate u ≡ false)
no_surrogate u is = (grind (arith, nat_tests), grind (arith, nat_tests))

one_unit_passes : (c : ℕ) → IsSpelledOut c → c < 65536 → (c < 55296) ⊎ (57344 ≤ c) → Passes c
one_unit_passes c is small scalar =
    let alone = units_escape c is ∙ one_unit c small in
    let none = no_surrogate c scalar in
    record {
      read = λ r. rw alone (unit_read c r small ∙ rw (none.0, none.1));
      lexed = λ r. rw alone (unit_lexed c r small);
    }

high_is : (c : ℕ) → 65536 ≤ c → c < 1114112 → is_high_surrogate (55296 + (c - 65536) / 1024) ≡ true
high_is c big small =
    let low : 55296 ≤ 55296 + (c - 65536) / 1024 = omega arith in
    let high : 55296 + (c - 65536) / 1024 < 56320 = omega arith in
    grind (arith, nat_tests)

low_is : (c : ℕ) → is_low_surrogate (56320 + (c - 65536) % 1024) ≡ true
low_is c =
    let low : 56320 ≤ 56320 + (c - 65536) % 1024 = omega arith in
    let high : 56320 + (c - 65536) % 1024 < 57344 = omega arith in
    grind (arith, nat_tests)

two_units_passes : (c : ℕ) → IsSpelledOut c → 65536 ≤ c → c < 1114112 → Passes c
two_units_passes c is big small =
    let high = 55296 + (c - 65536) / 1024 in
    let low = 56320 + (c - 65536) % 1024 in
    let both = units_escape c is ∙ two_units c big in
    let pair : surrogate_pair high low ≡ c = omega arith in
    record {
      read = λ r.
          rw (both, append_assoc (unit_escape high) (unit_escape low) r)
          (unit_read high (unit_escape low ++ r) (omega arith)
          ∙ (ap (λ (b : Bool). cond b (content (after_high high) (unit_escape low ++ r)) (cond (is_low_surrogate high) None (prepend (encode_utf8 high) (content plain (unit_escape low ++ r))))) (high_is c big small)
          ∙ (second_read high low r (omega arith)
          ∙ (ap (λ (b : Bool). cond b (prepend (encode_utf8 (surrogate_pair high low)) (content plain r)) None) (low_is c)
          ∙ ap (λ (n : ℕ). prepend (encode_utf8 n) (content plain r)) pair))));
      lexed = λ r.
          rw (both, append_assoc (unit_escape high) (unit_escape low) r)
          (unit_lexed high (unit_escape low ++ r) (omega arith) ∙ unit_lexed low r (omega arith));
    }

spelled_out_passes : (c : ℕ) → IsSpelledOut c → scalar c ≡ true → Passes c
spelled_out_passes c is real =
    ⊎_elim
    (λ small. ⊎_elim (λ below. one_unit_passes c is small (inl below)) (λ above. one_unit_passes c is small (inr above.0)) (scalar_cases c real))
    (λ big. ⊎_elim (λ below. absurd (omega arith)) (λ above. two_units_passes c is big above.1) (scalar_cases c real))
    (cases_lt c 65536)

pub passes : (c : ℕ) → scalar c ≡ true → Passes c
passes c real = go (cases_eq c 34) (cases_eq c 92) (cases_eq c 8) (cases_eq c 12) (cases_eq c 10) (cases_eq c 13) (cases_eq c 9) (cases_lt c 32) (cases_lt 126 c)
  where
    go : (c ≡ 34) ⊎ (c ≡ 34 → ⊥) → (c ≡ 92) ⊎ (c ≡ 92 → ⊥) → (c ≡ 8) ⊎ (c ≡ 8 → ⊥) → (c ≡ 12) ⊎ (c ≡ 12 → ⊥) → (c ≡ 10) ⊎ (c ≡ 10 → ⊥) → (c ≡ 13) ⊎ (c ≡ 13 → ⊥) → (c ≡ 9) ⊎ (c ≡ 9 → ⊥) → (c < 32) ⊎ (32 ≤ c) → (126 < c) ⊎ (c ≤ 126) → Passes c
    go (inl e) a b d f g h i j = subst Passes (sym e) quote_passes
    go (inr q) (inl e) b d f g h i j = subst Passes (sym e) backslash_passes
    go (inr q) (inr a) (inl e) d f g h i j = subst Passes (sym e) backspace_passes
    go (inr q) (inr a) (inr b) (inl e) f g h i j = subst Passes (sym e) form_feed_passes
    go (inr q) (inr a) (inr b) (inr d) (inl e) g h i j = subst Passes (sym e) line_feed_passes
    go (inr q) (inr a) (inr b) (inr d) (inr f) (inl e) h i j = subst Passes (sym e) return_passes
    go (inr q) (inr a) (inr b) (inr d) (inr f) (inr g) (inl e) i j = subst Passes (sym e) tab_passes
    go (inr q) (inr a) (inr b) (inr d) (inr f) (inr g) (inr h) (inl low) j =
        spelled_out_passes c (record { quote = q; backslash = a; backspace = b; form_feed = d; line_feed = f; return = g; tab = h; unprintable = inl low }) real
    go (inr q) (inr a) (inr b) (inr d) (inr f) (inr g) (inr h) (inr low) (inl high) =
        spelled_out_passes c (record { quote = q; backslash = a; backspace = b; form_feed = d; line_feed = f; return = g; tab = h; unprintable = inr high }) real
    go (inr q) (inr a) (inr b) (inr d) (inr f) (inr g) (inr h) (inr low) (inr high) = plain_passes c q a low high
