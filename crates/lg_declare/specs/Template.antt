-- Templates: texts in which words stand between braces, and braces of the text are doubled. This project's own.
use Rattle.std.specs.Prelude.{◌≡◌, IsTrue, ℕ, ◌==◌, ◌||◌, Bool, true, not, if◌then◌else◌, List, [], ◌∷◌, ◌++◌, flat_map, find, Option, Some, None, option_map, option_and_then}
use Rattle.std.specs.List.{list_all, list_any}
use Rattle.std.specs.Option.{option_map_or}
use Rattle.std.specs.Str.{bytes_eq}

-- a part of a template: a byte that stands for itself, or a word that stands for a value
pub data Part : Type 0 where
  byte : ℕ → Part
  word : List ℕ → Part

-- `{` or `}`
abbrev pub is_brace : ℕ → Bool
is_brace b = b == 123 || b == 125

abbrev pub has_no_brace : List ℕ → Bool
has_no_brace bytes = list_all (λ b. not (is_brace b)) bytes

-- how a template says a part: a brace is doubled, and a word stands between braces
abbrev pub part_text : Part → List ℕ
part_text (byte b) = if is_brace b then b ∷ b ∷ [] else b ∷ []
part_text (word name) = 123 ∷ name ++ 125 ∷ []

-- how it says parts: one behind another
abbrev pub text_of : List Part → List ℕ
text_of parts = flat_map part_text parts

-- where in a template a byte stands: outside of words, behind a first brace, or in a word of which this was read
pub data Standing : Type 0 where
  outside : Standing
  opened : Standing
  inside : List ℕ → Standing
  closed : Standing

-- the parts that a byte ends, and where the next one stands; none where a brace has no partner
abbrev pub after_inside : List ℕ → ℕ → Option (List Part × Standing)
after_inside read b =
    if b == 125 then Some (word read ∷ [], outside) else if b == 123 then None else Some ([], inside (read ++ b ∷ []))

abbrev pub after : Standing → ℕ → Option (List Part × Standing)
after outside b = if b == 123 then Some ([], opened) else if b == 125 then Some ([], closed) else Some (byte b ∷ [], outside)
after opened b = if b == 123 then Some (byte b ∷ [], outside) else after_inside [] b
after (inside read) b = after_inside read b
after closed b = if b == 125 then Some (byte b ∷ [], outside) else None

abbrev pub at_end : Standing → Option (List Part)
at_end outside = Some []
at_end opened = None
at_end (inside read) = None
at_end closed = None

abbrev pub behind : List Part → Option (List Part) → Option (List Part)
behind front parts = option_map (λ more. front ++ more) parts

-- the parts of what follows
unfoldable pub parts_from : Standing → List ℕ → Option (List Part)
parts_from standing [] = at_end standing
parts_from standing (b ∷ bytes) = option_and_then (λ next. behind next.0 (parts_from next.1 bytes)) (after standing b)

-- The parts of a text, if it has any. They are those that say the text: the laws are in `src/laws.rt`.
abbrev pub parts_of : List ℕ → Option (List Part)
parts_of text = parts_from outside text

-- a part as a template has it: a word has no braces
abbrev pub is_part : Part → Bool
is_part (byte b) = true
is_part (word name) = has_no_brace name

-- the text says these parts
pub record Says (text : List ℕ) (parts : List Part) : Type 0 where
  pub words : IsTrue (list_all is_part parts)
  pub said : text ≡ text_of parts

-- the word is one of the names that a template may use
abbrev pub is_among : List (List ℕ) → List ℕ → Bool
is_among names text = list_any (λ name. bytes_eq name text) names

abbrev pub is_usable : List (List ℕ) → Part → Bool
is_usable names (byte b) = true
is_usable names (word name) = is_among names name

abbrev pub usable_parts : List (List ℕ) → List Part → Option (List Part)
usable_parts names parts = if list_all (is_usable names) parts then Some parts else None

-- what a text is as a template that may use these names: none where it is no template, or a word is no such name
abbrev pub template_of : List (List ℕ) → List ℕ → Option (List Part)
template_of names text = option_and_then (usable_parts names) (parts_of text)

-- the first value of a name; nothing where it has none
abbrev pub value_of : List (List ℕ × List ℕ) → List ℕ → List ℕ
value_of values name = option_map_or (λ pair. pair.1) (find (λ pair. bytes_eq pair.0 name) values) []

-- what is put for a part
abbrev pub spelled_part : List (List ℕ × List ℕ) → Part → List ℕ
spelled_part values (byte b) = b ∷ []
spelled_part values (word name) = value_of values name

-- what a template spells for values: each byte itself, and for each word its value
abbrev pub spelled : List (List ℕ × List ℕ) → List Part → List ℕ
spelled values parts = flat_map (spelled_part values) parts
