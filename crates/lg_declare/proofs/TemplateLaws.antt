-- A text is read as the parts that say it, and as no others.
use Rattle.std.proofs.Common.{◌≡◌, ℕ, Bool, true, false, not, List, [], ◌∷◌, ◌++◌, map, Option, Some, None, refl, sym, ap, subst, ◌∙◌, append_assoc}
use Rattle.std.specs.Prelude.{◌==◌, ◌||◌, if◌then◌else◌, option_and_then}
use Rattle.std.specs.List.{list_all}
use Rattle.std.proofs.lemmas.Bool.{eqb-true}
use Rattle.std.proofs.lemmas.List.{append-nil}
use Rattle.std.proofs.lemmas.List.Concat.{flat_map-append}
use Rattle.std.proofs.lemmas.List.Folds.{list_all-append}
use Rattle.lg_declare.specs.Template.{Part, byte, word, Standing, outside, opened, inside, closed, is_brace, has_no_brace, part_text, text_of, after, after_inside, behind, parts_from, parts_of, is_part, usable_parts, template_of, Says}
use Rattle.lg_declare.proofs.TemplateLemmas.{behind-nil, and-true, or-false, not-true, inside-plain, opened-plain}
use Rattle.lg_declare.proofs.PieceLemmas.{usable-bytes}

-- ---- what is read says the text

-- what of the text behind the last part was read
abbrev pending : Standing → List ℕ
pending outside = []
pending opened = 123 ∷ []
pending (inside read) = 123 ∷ read
pending closed = 125 ∷ []

-- what was read of a word has no braces
abbrev is_standing : Standing → Bool
is_standing outside = true
is_standing opened = true
is_standing (inside read) = has_no_brace read
is_standing closed = true

record Good (front : List ℕ) (b : ℕ) (parts : List Part) (to : Standing) : Type 0 where
  text : front ++ b ∷ [] ≡ text_of parts ++ pending to
  words : list_all is_part parts ≡ true
  stands : is_standing to ≡ true

abbrev IsGood : List ℕ → ℕ → Option (List Part × Standing) → Type 0
IsGood front b None = Unit {0}
IsGood front b (Some next) = Good front b next.0 next.1

outside-good : (b : ℕ) (x y : Bool) → b == 123 ≡ x → b == 125 ≡ y
    → IsGood [] b (if x then Some ([], opened) else if y then Some ([], closed) else Some (byte b ∷ [], outside))
outside-good b true y isx isy = record { text = ap (λ n. n ∷ []) (eqb-true b 123 isx); words = refl; stands = refl }
outside-good b false true isx isy = record { text = ap (λ n. n ∷ []) (eqb-true b 125 isy); words = refl; stands = refl }
outside-good b false false isx isy = record { text = rw (isx, isy) refl; words = refl; stands = refl }

inside-good : (read : List ℕ) (b : ℕ) (x y : Bool) → b == 125 ≡ x → b == 123 ≡ y → has_no_brace read ≡ true
    → IsGood (123 ∷ read) b (if x then Some (word read ∷ [], outside) else if y then None else Some ([], inside (read ++ b ∷ [])))
inside-good read b true y isx isy plain = record {
  text = ap (λ n. (123 ∷ read) ++ n ∷ []) (eqb-true b 125 isx) ∙ sym (append-nil (text_of (word read ∷ [])) ∙ append-nil ((123 ∷ read) ++ 125 ∷ []));
  words = rw plain refl;
  stands = refl;
}
inside-good read b false true isx isy plain = tt
inside-good read b false false isx isy plain = record {
  text = refl;
  words = refl;
  stands = list_all-append (λ n. not (is_brace n)) read (b ∷ []) ∙ rw (plain, isx, isy) refl;
}

opened-good : (b : ℕ) (x : Bool) → b == 123 ≡ x → IsGood (123 ∷ []) b (if x then Some (byte b ∷ [], outside) else after_inside [] b)
opened-good b true isx = record { text = rw (eqb-true b 123 isx) refl; words = refl; stands = refl }
opened-good b false isx = inside-good [] b (b == 125) (b == 123) refl refl refl

closed-good : (b : ℕ) (x : Bool) → b == 125 ≡ x → IsGood (125 ∷ []) b (if x then Some (byte b ∷ [], outside) else None)
closed-good b true isx = record { text = rw (eqb-true b 125 isx) refl; words = refl; stands = refl }
closed-good b false isx = tt

after-good : (from : Standing) (b : ℕ) → is_standing from ≡ true → IsGood (pending from) b (after from b)
after-good outside b ok = outside-good b (b == 123) (b == 125) refl refl
after-good opened b ok = opened-good b (b == 123) refl
after-good (inside read) b ok = inside-good read b (b == 125) (b == 123) refl refl ok
after-good closed b ok = closed-good b (b == 125) refl

abbrev Sound : List ℕ → Option (List Part) → Type 0
Sound text None = Unit {0}
Sound text (Some parts) = Says text parts

joined : (front : List ℕ) (b : ℕ) (bytes : List ℕ) (parts : List Part) (to : Standing) (more : Option (List Part)) → Good front b parts to
    → Sound (pending to ++ bytes) more → Sound (front ++ b ∷ bytes) (behind parts more)
joined front b bytes parts to None good sound = tt
joined front b bytes parts to (Some later) good sound = record {
  words = list_all-append is_part parts later ∙ rw (good.words, sound.words) refl;
  said = sym (append_assoc front (b ∷ []) bytes) ∙ ap (λ t. t ++ bytes) good.text ∙ append_assoc (text_of parts) (pending to) bytes
      ∙ ap (λ t. text_of parts ++ t) sound.said ∙ sym (flat_map-append part_text parts later);
}

stepped : (front : List ℕ) (b : ℕ) (bytes : List ℕ) (next : Option (List Part × Standing)) → IsGood front b next
    → ((to : Standing) → is_standing to ≡ true → Sound (pending to ++ bytes) (parts_from to bytes))
    → Sound (front ++ b ∷ bytes) (option_and_then (λ next. behind next.0 (parts_from next.1 bytes)) next)
stepped front b bytes None good on = tt
stepped front b bytes (Some next) good on = joined front b bytes next.0 next.1 (parts_from next.1 bytes) good (on next.1 good.stands)

sound : (from : Standing) (bytes : List ℕ) → is_standing from ≡ true → Sound (pending from ++ bytes) (parts_from from bytes)
unfolding parts_from
sound outside [] ok = record { words = refl; said = refl }
sound opened [] ok = tt
sound (inside read) [] ok = tt
sound closed [] ok = tt
sound from (b ∷ bytes) ok = stepped (pending from) b bytes (after from b) (after-good from b ok) (λ to stands. sound to bytes stands)

pub parts_say : (text : List ℕ) (parts : List Part) → parts_of text ≡ Some parts → Says text parts
parts_say text parts is = subst (Sound text) is (sound outside text refl)

-- ---- what says the text is read

opened-word : (name rest : List ℕ) → has_no_brace name ≡ true → parts_from opened (name ++ 125 ∷ rest) ≡ parts_from (inside []) (name ++ 125 ∷ rest)
unfolding parts_from
opened-word [] rest plain = refl
opened-word (b ∷ name) rest plain =
    let here = and-true (not (is_brace b)) (has_no_brace name) plain in
    opened-plain b (name ++ 125 ∷ rest) (or-false (b == 123) (b == 125) (not-true (is_brace b) here.0)).0

read-byte : (b : ℕ) (x y : Bool) (rest : List ℕ) → b == 123 ≡ x → b == 125 ≡ y
    → parts_from outside ((if x || y then b ∷ b ∷ [] else b ∷ []) ++ rest) ≡ behind (byte b ∷ []) (parts_from outside rest)
unfolding parts_from
read-byte b true y rest isx isy =
    let P : ℕ → Type 0 = λ n. parts_from outside (n ∷ n ∷ rest) ≡ behind (byte n ∷ []) (parts_from outside rest) in
    subst P (sym (eqb-true b 123 isx)) (behind-nil (behind (byte 123 ∷ []) (parts_from outside rest)))
read-byte b false true rest isx isy =
    let P : ℕ → Type 0 = λ n. parts_from outside (n ∷ n ∷ rest) ≡ behind (byte n ∷ []) (parts_from outside rest) in
    subst P (sym (eqb-true b 125 isy)) (behind-nil (behind (byte 125 ∷ []) (parts_from outside rest)))
read-byte b false false rest isx isy = rw (isx, isy) refl

word-over : (name rest : List ℕ) → parts_from (inside name) (125 ∷ rest) ≡ behind (word name ∷ []) (parts_from outside rest)
unfolding parts_from
word-over name rest = refl

word-opens : (rest : List ℕ) → parts_from outside (123 ∷ rest) ≡ parts_from opened rest
unfolding parts_from
word-opens rest = behind-nil (parts_from opened rest)

read-part : (part : Part) (rest : List ℕ) → is_part part ≡ true → parts_from outside (part_text part ++ rest) ≡ behind (part ∷ []) (parts_from outside rest)
read-part (byte b) rest ok = read-byte b (b == 123) (b == 125) rest refl refl
read-part (word name) rest ok =
    ap (parts_from outside) (append_assoc (123 ∷ name) (125 ∷ []) rest)
    ∙ word-opens (name ++ 125 ∷ rest) ∙ opened-word name rest ok ∙ inside-plain [] name (125 ∷ rest) ok ∙ word-over name rest

nothing-read : parts_from outside [] ≡ Some []
unfolding parts_from
nothing-read = refl

pub said_is_read : (parts : List Part) → list_all is_part parts ≡ true → parts_from outside (text_of parts) ≡ Some parts
said_is_read [] ok = nothing-read
said_is_read (part ∷ parts) ok =
    let here = and-true (is_part part) (list_all is_part parts) ok in
    read-part part (text_of parts) here.0 ∙ ap (behind (part ∷ [])) (said_is_read parts here.1)

pub said_parts : (text : List ℕ) (parts : List Part) → Says text parts → parts_of text ≡ Some parts
said_parts text parts says = ap (parts_from outside) says.said ∙ said_is_read parts says.words

-- ---- doubled braces

bytes-are-parts : (text : List ℕ) → list_all is_part (map byte text) ≡ true
bytes-are-parts [] = refl
bytes-are-parts (b ∷ text) = bytes-are-parts text

pub doubled : (names : List (List ℕ)) (text : List ℕ) → template_of names (text_of (map byte text)) ≡ Some (map byte text)
doubled names text =
    ap (option_and_then (usable_parts names)) (said_is_read (map byte text) (bytes-are-parts text))
    ∙ ap (λ b. if b then Some (map byte text) else None) (usable-bytes names text)
