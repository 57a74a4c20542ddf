-- Templates, one byte and one character after another.
use Rattle.std.proofs.Common.{◌≡◌, ◌≢◌, ℕ, ◌+◌, ◌/◌, ◌%◌, ◌<◌, ◌≤◌, Bool, true, false, not, cond, List, [], ◌∷◌, ◌++◌, map, Option, Some, None, ◌⊎◌, inl, inr, refl, sym, ap, ◌∙◌, append_assoc, arith}
use lib.Utf8.{encode}
use Rattle.std.specs.Prelude.{◌==◌, ◌||◌, ◌&&◌, nat_lt}
use Rattle.std.proofs.lemmas.List.{append-nil}
use Rattle.std.proofs.lemmas.Bool.Decides.{nat_tests}
use Rattle.lg_declare.specs.Template.{Part, byte, outside, opened, inside, is_brace, has_no_brace, behind, parts_from}

-- ---- parts before others

pub behind-append : (xs ys : List Part) (due : Option (List Part)) → behind (xs ++ ys) due ≡ behind xs (behind ys due)
behind-append xs ys None = refl
behind-append xs ys (Some zs) = ap Some (append_assoc xs ys zs)

pub behind-nil : (due : Option (List Part)) → behind [] due ≡ due
behind-nil None = refl
behind-nil (Some zs) = refl

-- ---- tests

pub or-false : (x y : Bool) → (x || y) ≡ false → (x ≡ false) × (y ≡ false)
or-false true y is = absurd (cc)
or-false false y is = (refl, is)

pub and-true : (x y : Bool) → (x && y) ≡ true → (x ≡ true) × (y ≡ true)
and-true true y is = (refl, is)
and-true false y is = absurd (cc)

pub not-true : (x : Bool) → not x ≡ true → x ≡ false
not-true true is = absurd (cc)
not-true false is = refl

pub other_number : (b x : ℕ) → b ≢ x → b == x ≡ false
other_number b x other = grind (arith, nat_tests)

-- ---- bytes that are no braces

pub outside-plain : (bytes rest : List ℕ) → has_no_brace bytes ≡ true
    → parts_from outside (bytes ++ rest) ≡ behind (map byte bytes) (parts_from outside rest)
unfolding parts_from
outside-plain [] rest plain = sym (behind-nil (parts_from outside rest))
outside-plain (b ∷ bytes) rest plain =
    let here = and-true (not (is_brace b)) (has_no_brace bytes) plain in
    let none = or-false (b == 123) (b == 125) (not-true (is_brace b) here.0) in
    rw (none.0, none.1) (ap (behind (byte b ∷ [])) (outside-plain bytes rest here.1) ∙ sym (behind-append (byte b ∷ []) (map byte bytes) (parts_from outside rest)))

pub inside-plain : (read bytes rest : List ℕ) → has_no_brace bytes ≡ true
    → parts_from (inside read) (bytes ++ rest) ≡ parts_from (inside (read ++ bytes)) rest
unfolding parts_from
inside-plain read [] rest plain = ap (λ r. parts_from (inside r) rest) (sym (append-nil read))
inside-plain read (b ∷ bytes) rest plain =
    let here = and-true (not (is_brace b)) (has_no_brace bytes) plain in
    let none = or-false (b == 123) (b == 125) (not-true (is_brace b) here.0) in
    rw (none.0, none.1)
    (behind-nil (parts_from (inside (read ++ b ∷ [])) (bytes ++ rest)) ∙ inside-plain (read ++ b ∷ []) bytes rest here.1
    ∙ ap (λ r. parts_from (inside r) rest) (append_assoc read (b ∷ []) bytes))

-- a word begins behind a brace that isn't doubled
pub opened-plain : (b : ℕ) (rest : List ℕ) → b == 123 ≡ false → parts_from opened (b ∷ rest) ≡ parts_from (inside []) (b ∷ rest)
unfolding parts_from
opened-plain b rest other = rw other refl

-- ---- the bytes of a character

high : (b : ℕ) → 126 ≤ b → not (is_brace b) ≡ true
high b above = rw (other_number b 123 (omega arith), other_number b 125 (omega arith)) refl

encode-plain-by : (c : ℕ) (ascii two three : Bool) → is_brace c ≡ false
    → has_no_brace (cond ascii (c ∷ []) (cond two ((192 + c / 64) ∷ (128 + c % 64) ∷ []) (cond three ((224 + c / 4096) ∷ (128 + c / 64 % 64) ∷ (128 + c % 64) ∷ []) ((240 + c / 262144) ∷ (128 + c / 4096 % 64) ∷ (128 + c / 64 % 64) ∷ (128 + c % 64) ∷ [])))) ≡ true
encode-plain-by c true two three plain = rw plain refl
encode-plain-by c false true three plain = rw (high (192 + c / 64) (omega arith), high (128 + c % 64) (omega arith)) refl
encode-plain-by c false false true plain =
    rw (high (224 + c / 4096) (omega arith), high (128 + c / 64 % 64) (omega arith), high (128 + c % 64) (omega arith)) refl
encode-plain-by c false false false plain =
    rw (high (240 + c / 262144) (omega arith), high (128 + c / 4096 % 64) (omega arith), high (128 + c / 64 % 64) (omega arith), high (128 + c % 64) (omega arith)) refl

-- a character that is no brace has no byte that is one
pub encode-plain : (c : ℕ) → c ≢ 123 → c ≢ 125 → has_no_brace (encode c) ≡ true
unfolding encode
encode-plain c no_open no_close =
    let plain : is_brace c ≡ false = rw (other_number c 123 no_open, other_number c 125 no_close) refl in
    encode-plain-by c (nat_lt c 128) (nat_lt c 2048) (nat_lt c 65536) plain

-- a character has a first byte: itself, or one that is no ASCII
pub record Begins (c : ℕ) (bytes : List ℕ) : Type 0 where
  pub first : ℕ
  pub others : List ℕ
  pub are : bytes ≡ first ∷ others
  pub is : (first ≡ c) ⊎ (128 ≤ first)

begins-by : (c : ℕ) (ascii two three : Bool)
    → Begins c (cond ascii (c ∷ []) (cond two ((192 + c / 64) ∷ (128 + c % 64) ∷ []) (cond three ((224 + c / 4096) ∷ (128 + c / 64 % 64) ∷ (128 + c % 64) ∷ []) ((240 + c / 262144) ∷ (128 + c / 4096 % 64) ∷ (128 + c / 64 % 64) ∷ (128 + c % 64) ∷ []))))
begins-by c true two three = record { first = c; others = []; are = refl; is = inl refl }
begins-by c false true three = record { first = 192 + c / 64; others = _; are = refl; is = inr (omega arith) }
begins-by c false false true = record { first = 224 + c / 4096; others = _; are = refl; is = inr (omega arith) }
begins-by c false false false = record { first = 240 + c / 262144; others = _; are = refl; is = inr (omega arith) }

pub encode-begins : (c : ℕ) → Begins c (encode c)
unfolding encode
encode-begins c = begins-by c (nat_lt c 128) (nat_lt c 2048) (nat_lt c 65536)

-- it is no byte of ASCII that the character isn't
pub first-other : (c first x : ℕ) → (first ≡ c) ⊎ (128 ≤ first) → c ≢ x → x < 128 → first == x ≡ false
first-other c first x (inl same) other ascii = other_number first x (λ is. other (sym same ∙ is))
first-other c first x (inr high) other ascii = other_number first x (λ is. omega arith)
