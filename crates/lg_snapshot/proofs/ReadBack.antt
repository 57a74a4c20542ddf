-- What is written of a tree, JSON reads as that tree.
use Rattle.std.proofs.Common.{◌≡◌, ℕ, ℤ, pos, negsuc, zero, suc, ◌≤◌, Bool, true, false, cond, List, [], ◌∷◌, ◌++◌, Some, option_and_then, option_map, refl, sym, ap, ap₂, ◌∙◌, arith, append_assoc, append-nil, codes, flat_map, subst}
use Rattle.std.specs.Prelude.{IsUtf8, encode_utf8_all}
use Rattle.std.specs.Ordering.{nat_cmp, ordering_reverse}
use Rattle.std.specs.declared.cmp.Ordering.TheVariants.{Less, Greater}
use Rattle.std.specs.Cmp.Lexicographic.{slice_cmp}
use Rattle.std.specs.Str.{chars}
use Rattle.std.specs.Fmt.{signed_decimal}
use Rattle.std.proofs.lemmas.Bool.{and_parts}
use Rattle.std.proofs.lemmas.Str.{chars-encodes}
use Rattle.std.proofs.lemmas.Cmp.{nat_list_cmp_total}
use lib.Utf8.{scalar, scalars}
use Rattle.json.specs.Json as json
use Rattle.json.specs.Lex.{token, comma, colon, lex, between, in_string, string_token, fresh, punctuate, tokens}
use Rattle.json.specs.Print as print
use Rattle.json.specs.Text.{content, plain, prepend}
use Rattle.json.specs.Token as tok
use Rattle.json.specs.Tree as shape
use Rattle.json.specs.Word.{ends_word, word}
use Rattle.json.proofs.Printed.Decimals.{IsNumber-decimal, IsNumber-signed_decimal}
use Rattle.json.proofs.Printed.Numbers.{lex-number, in_word-ended}
use Rattle.json.proofs.Printed.Strings.{content-escape, lex-escape}
use Rattle.json.proofs.Printed.Tokens.{tokens-print}
use Rattle.json.proofs.Printed.Trees.{value-json_tokens, ArePrintable-json_tokens}
use Rattle.serde_json.specs.Data as value
use Rattle.serde_json.specs.Data.{Data, put}
use Rattle.serde_json.specs.Find.{of_integer}
use Rattle.serde_json.specs.Read.{of_json, of_items, of_members, number_of, max_depth, read}
use Rattle.serde_json.specs.Written.{outline, items_outline, members_outline, number_text, compact_text, items_text, members_text, comma_if}
use Rattle.serde_json.proofs.Numbers.{number_of-decimal, number_of-negative}
use Rattle.serde_json.proofs.Texts.{print-outline}
use Rattle.lg_json.specs.Escapes.{escape, escaped}
use Rattle.lg_json.specs.Text.{quoted, with_commas, text_of, texts_of, member_texts_of}
use Rattle.lg_json.specs.Tree.{Tree, null, truth, int, str, list, object, Trees, no_trees, tree, Members, no_members, member}
use Rattle.lg_snapshot.specs.Holding.{IsHeldNumber, IsHeld, AreHeld, MembersAreHeld}
use Rattle.lg_snapshot.proofs.QuoteReading.{passes}

-- ---- the value that a tree is

abbrev mutual
  pub data_of : Tree → Data
  data_of null = value.null
  data_of (truth b) = value.boolean b
  data_of (int n) = value.number (of_integer n)
  data_of (str text) = value.string text
  data_of (list ts) = value.array (items_of ts)
  data_of (object ms) = value.object (members_of ms)

  pub items_of : Trees → value.Items
  items_of no_trees = value.no_items
  items_of (tree t ts) = value.item (data_of t) (items_of ts)

  pub members_of : Members → value.Members
  members_of no_members = value.no_members
  members_of (member name t ms) = value.member name (data_of t) (members_of ms)

-- ---- where names rise, and the tree is flat enough to be read

-- the name is before the first of these
abbrev pub ComesBefore : List ℕ → Members → Type 0
ComesBefore name no_members = Unit {0}
ComesBefore name (member other t ms) = slice_cmp nat_cmp name other ≡ Less

-- the names of each object rise, and lists and objects nest so deep at most
abbrev mutual
  pub IsInOrder : ℕ → Tree → Type 0
  IsInOrder n null = Unit {0}
  IsInOrder n (truth b) = Unit {0}
  IsInOrder n (int z) = Unit {0}
  IsInOrder n (str text) = Unit {0}
  IsInOrder zero (list ts) = ⊥
  IsInOrder (suc n) (list ts) = AreInOrder n ts
  IsInOrder zero (object ms) = ⊥
  IsInOrder (suc n) (object ms) = MembersAreInOrder n ms

  pub AreInOrder : ℕ → Trees → Type 0
  AreInOrder n no_trees = Unit {0}
  AreInOrder n (tree t ts) = IsInOrder n t × AreInOrder n ts

  pub MembersAreInOrder : ℕ → Members → Type 0
  MembersAreInOrder n no_members = Unit {0}
  MembersAreInOrder n (member name t ms) = ComesBefore name ms × IsInOrder n t × MembersAreInOrder n ms

-- ---- a quoted text is one lexeme

content_escaped : (cs r : List ℕ) → scalars cs ≡ true → content plain (escaped cs ++ 34 ∷ r) ≡ Some (encode_utf8_all cs)
unfolding content
content_escaped [] r real = refl
content_escaped (c ∷ cs) r real =
    let parts = and_parts (scalar c) (scalars cs) real in
    ap (content plain) (append_assoc (escape c) (escaped cs) (34 ∷ r)) ∙ ((passes c parts.0).read _ ∙ ap (prepend _) (content_escaped cs r parts.1))

lex_escaped : (cs r : List ℕ) → scalars cs ≡ true → lex in_string (escaped cs ++ 34 ∷ r) ≡ lex between r
unfolding lex
lex_escaped [] r real = refl
lex_escaped (c ∷ cs) r real =
    let parts = and_parts (scalar c) (scalars cs) real in
    ap (lex in_string) (append_assoc (escape c) (escaped cs) (34 ∷ r)) ∙ ((passes c parts.0).lexed _ ∙ lex_escaped cs r parts.1)

lex_quote : (xs : List ℕ) → lex between (34 ∷ xs) ≡ token (string_token (content plain xs)) ∷ lex in_string xs
unfolding lex
lex_quote xs = refl

lex_quoted : (t r : List ℕ) → IsUtf8 t → lex between (quoted t ++ r) ≡ token (tok.string t) ∷ lex between r
lex_quoted t r (cs, (real, spelled)) =
    let same : chars t ≡ cs = ap chars (sym spelled) ∙ chars-encodes cs real in
    let end : (escaped (chars t) ++ 34 ∷ []) ++ r ≡ escaped cs ++ 34 ∷ r = append_assoc (escaped (chars t)) (34 ∷ []) r ∙ ap (λ (ds : List ℕ). escaped ds ++ 34 ∷ r) same in
    lex_quote _
    ∙ (ap (λ (xs : List ℕ). token (string_token (content plain xs)) ∷ lex in_string xs) end
    ∙ (ap (λ o. token (string_token o) ∷ lex in_string (escaped cs ++ 34 ∷ r)) (content_escaped cs r real ∙ ap (λ (s : List ℕ). Some s) spelled)
    ∙ ap (λ ls. token (tok.string t) ∷ ls) (lex_escaped cs r real)))

lex_printed : (s r : List ℕ) → lex between (print.quoted s ++ r) ≡ token (tok.string s) ∷ lex between r
lex_printed s r =
    ap (λ (xs : List ℕ). lex between (34 ∷ xs)) (append_assoc (print.escape s) (34 ∷ []) r)
    ∙ (lex_quote _ ∙ ap₂ (λ o ls. token (string_token o) ∷ ls) (content-escape s r) (lex-escape s r))

-- ---- the text of a tree has the lexemes of what serde_json writes of its value

-- both go on with the same lexemes, where a word ends
pub record GoOn (r s : List ℕ) : Type 0 where
  pub same : lex between r ≡ lex between s
  pub ended : ends_word r ≡ true
  pub also_ended : ends_word s ≡ true

lex_null : (r : List ℕ) → ends_word r ≡ true → lex between (codes "null" ++ r) ≡ token tok.null ∷ lex between r
unfolding lex word
lex_null r ended = ap₂ (λ b ls. token (cond b tok.null tok.bad) ∷ ls) ended (in_word-ended r ended)

lex_true : (r : List ℕ) → ends_word r ≡ true → lex between (codes "true" ++ r) ≡ token (tok.boolean true) ∷ lex between r
unfolding lex word
lex_true r ended = ap₂ (λ b ls. token (cond b (tok.boolean true) tok.bad) ∷ ls) ended (in_word-ended r ended)

lex_false : (r : List ℕ) → ends_word r ≡ true → lex between (codes "false" ++ r) ≡ token (tok.boolean false) ∷ lex between r
unfolding lex word
lex_false r ended = ap₂ (λ b ls. token (cond b (tok.boolean false) tok.bad) ∷ ls) ended (in_word-ended r ended)

number_spelled : (n : ℤ) → IsHeldNumber n → print.IsNumber (signed_decimal n)
number_spelled (pos n) held = IsNumber-decimal n held
number_spelled (negsuc n) held = IsNumber-signed_decimal (negsuc n) held

lex_int : (n : ℤ) (r : List ℕ) → IsHeldNumber n → ends_word r ≡ true → lex between (signed_decimal n ++ r) ≡ token (tok.number (signed_decimal n)) ∷ lex between r
lex_int n r held ended = lex-number (signed_decimal n) r (number_spelled n held) ended

same_number : (n : ℤ) → number_text (of_integer n) ≡ signed_decimal n
same_number (pos n) = refl
same_number (negsuc n) = refl

-- pieces with a comma before each but the first
abbrev pieces : Bool → List (List ℕ) → List ℕ
pieces later [] = []
pieces later (x ∷ xs) = comma_if later ++ (x ++ pieces true xs)

each_after_comma : (xs : List (List ℕ)) → flat_map (λ y. (44 ∷ []) ++ y) xs ≡ pieces true xs
each_after_comma [] = refl
each_after_comma (x ∷ xs) = ap (λ (ys : List ℕ). 44 ∷ (x ++ ys)) (each_after_comma xs)

with_commas-pieces : (xs : List (List ℕ)) → with_commas xs ≡ pieces false xs
with_commas-pieces [] = refl
with_commas-pieces (x ∷ xs) = ap (λ (ys : List ℕ). x ++ ys) (each_after_comma xs)

regroup_item : (q a b c : List ℕ) → (q ++ (a ++ b)) ++ c ≡ q ++ (a ++ (b ++ c))
regroup_item q a b c = simp append_assoc

regroup_member : (q n t p c : List ℕ) → (q ++ ((n ++ 58 ∷ t) ++ p)) ++ c ≡ q ++ (n ++ 58 ∷ (t ++ (p ++ c)))
regroup_member q n t p c = simp append_assoc

regroup_printed : (q n t p c : List ℕ) → (q ++ (n ++ 58 ∷ (t ++ p))) ++ c ≡ q ++ (n ++ 58 ∷ (t ++ (p ++ c)))
regroup_printed q n t p c = simp append_assoc

lex_after : (later : Bool) (x y : List ℕ) → lex between x ≡ lex between y → lex between (comma_if later ++ x) ≡ lex between (comma_if later ++ y)
unfolding lex
lex_after true x y is = ap (λ ls. comma ∷ ls) is
lex_after false x y is = is

lex_colon : (x y : List ℕ) → lex between x ≡ lex between y → lex between (58 ∷ x) ≡ lex between (58 ∷ y)
unfolding lex
lex_colon x y is = ap (λ ls. colon ∷ ls) is

lex_brackets : (x y : List ℕ) → lex between x ≡ lex between y → lex between (91 ∷ x) ≡ lex between (91 ∷ y)
unfolding lex
lex_brackets x y is = ap (λ ls. token tok.begin_array ∷ ls) is

lex_braces : (x y : List ℕ) → lex between x ≡ lex between y → lex between (123 ∷ x) ≡ lex between (123 ∷ y)
unfolding lex
lex_braces x y is = ap (λ ls. token tok.begin_object ∷ ls) is

lex_end : (x y : List ℕ) → lex between x ≡ lex between y → lex between (93 ∷ x) ≡ lex between (93 ∷ y)
unfolding lex
lex_end x y is = ap (λ ls. token tok.end_array ∷ ls) is

lex_last : (x y : List ℕ) → lex between x ≡ lex between y → lex between (125 ∷ x) ≡ lex between (125 ∷ y)
unfolding lex
lex_last x y is = ap (λ ls. token tok.end_object ∷ ls) is

-- what goes on behind an item, and behind a member
more_ends : (xs : List (List ℕ)) (r : List ℕ) → ends_word (pieces true xs ++ 93 ∷ r) ≡ true
more_ends [] r = refl
more_ends (x ∷ xs) r = refl

more_members_end : (xs : List (List ℕ)) (r : List ℕ) → ends_word (pieces true xs ++ 125 ∷ r) ≡ true
more_members_end [] r = refl
more_members_end (x ∷ xs) r = refl

items_end : (ds : value.Items) (s : List ℕ) → ends_word (items_text true ds ++ s) ≡ true
items_end value.no_items s = refl
items_end (value.item d ds) s = refl

members_end : (ds : value.Members) (s : List ℕ) → ends_word (members_text true ds ++ s) ≡ true
members_end value.no_members s = refl
members_end (value.member k d ds) s = refl

enclosed : (first last : ℕ) (xs : List (List ℕ)) (r : List ℕ) → (first ∷ (with_commas xs ++ last ∷ [])) ++ r ≡ first ∷ (pieces false xs ++ last ∷ r)
enclosed first last xs r = ap (λ (ys : List ℕ). first ∷ ys) (append_assoc (with_commas xs) (last ∷ []) r ∙ ap (λ (ys : List ℕ). ys ++ last ∷ r) (with_commas-pieces xs))

mutual
  same_tree : (t : Tree) (r s : List ℕ) → IsHeld t → GoOn r s → lex between (text_of t ++ r) ≡ lex between (compact_text (data_of t) ++ s)
  same_tree null r s held on = lex_null r on.ended ∙ (ap (λ ls. token tok.null ∷ ls) on.same ∙ sym (lex_null s on.also_ended))
  same_tree (truth true) r s held on = lex_true r on.ended ∙ (ap (λ ls. token (tok.boolean true) ∷ ls) on.same ∙ sym (lex_true s on.also_ended))
  same_tree (truth false) r s held on = lex_false r on.ended ∙ (ap (λ ls. token (tok.boolean false) ∷ ls) on.same ∙ sym (lex_false s on.also_ended))
  same_tree (int n) r s held on =
      lex_int n r held on.ended
      ∙ (ap (λ ls. token (tok.number (signed_decimal n)) ∷ ls) on.same
      ∙ (sym (lex_int n s held on.also_ended) ∙ ap (λ (xs : List ℕ). lex between (xs ++ s)) (sym (same_number n))))
  same_tree (str text) r s held on = lex_quoted text r held ∙ (ap (λ ls. token (tok.string text) ∷ ls) on.same ∙ sym (lex_printed text s))
  same_tree (list ts) r s held on =
      ap (lex between) (enclosed 91 93 (texts_of ts) r) ∙ lex_brackets _ _ (same_trees false ts r s held on)
  same_tree (object ms) r s held on =
      ap (lex between) (enclosed 123 125 (member_texts_of ms) r) ∙ lex_braces _ _ (same_members false ms r s held on)

  same_trees : (later : Bool) (ts : Trees) (r s : List ℕ) → AreHeld ts → GoOn r s → lex between (pieces later (texts_of ts) ++ 93 ∷ r) ≡ lex between (items_text later (items_of ts) ++ s)
  same_trees later no_trees r s held on = lex_end r s on.same
  same_trees later (tree t ts) r s held on =
      let more = pieces true (texts_of ts) in
      let rest = items_text true (items_of ts) in
      ap (lex between) (regroup_item (comma_if later) (text_of t) more (93 ∷ r))
      ∙ (lex_after later _ _
      (same_tree t (more ++ 93 ∷ r) (rest ++ s) held.0 (record { same = same_trees true ts r s held.1 on; ended = more_ends (texts_of ts) r; also_ended = items_end (items_of ts) s }))
      ∙ ap (lex between) (sym (regroup_item (comma_if later) (compact_text (data_of t)) rest s)))

  same_members : (later : Bool) (ms : Members) (r s : List ℕ) → MembersAreHeld ms → GoOn r s
      → lex between (pieces later (member_texts_of ms) ++ 125 ∷ r) ≡ lex between (members_text later (members_of ms) ++ s)
  same_members later no_members r s held on = lex_last r s on.same
  same_members later (member name t ms) r s held on =
      let more = pieces true (member_texts_of ms) in
      let rest = members_text true (members_of ms) in
      let inside = same_tree t (more ++ 125 ∷ r) (rest ++ s) held.1 (record { same = same_members true ms r s held.2 on; ended = more_members_end (member_texts_of ms) r; also_ended = members_end (members_of ms) s }) in
      ap (lex between) (regroup_member (comma_if later) (quoted name) (text_of t) more (125 ∷ r))
      ∙ (lex_after later _ _
      (lex_quoted name _ held.0
      ∙ (ap (λ ls. token (tok.string name) ∷ ls) (lex_colon _ _ inside) ∙ sym (lex_printed name _)))
      ∙ ap (lex between) (sym (regroup_printed (comma_if later) (print.quoted name) (compact_text (data_of t)) rest s)))

-- ---- its tokens are those of its value

mutual
  numbers_in : (t : Tree) → IsHeld t → shape.HasNumbers (outline (data_of t))
  numbers_in null held = tt
  numbers_in (truth b) held = tt
  numbers_in (int n) held = subst print.IsNumber (sym (same_number n)) (number_spelled n held)
  numbers_in (str text) held = tt
  numbers_in (list ts) held = numbers_in_items ts held
  numbers_in (object ms) held = numbers_in_members ms held

  numbers_in_items : (ts : Trees) → AreHeld ts → shape.ItemsHaveNumbers (items_outline (items_of ts))
  numbers_in_items no_trees held = tt
  numbers_in_items (tree t ts) held = (numbers_in t held.0, numbers_in_items ts held.1)

  numbers_in_members : (ms : Members) → MembersAreHeld ms → shape.MembersHaveNumbers (members_outline (members_of ms))
  numbers_in_members no_members held = tt
  numbers_in_members (member name t ms) held = (numbers_in t held.1, numbers_in_members ms held.2)

line_feed : GoOn (10 ∷ []) []
unfolding lex
line_feed = record { same = refl; ended = refl; also_ended = refl }

tokens_of : (t : Tree) → IsHeld t → tokens (text_of t ++ 10 ∷ []) ≡ shape.json_tokens (outline (data_of t))
tokens_of t held =
    let d = data_of t in
    ap (punctuate fresh) (same_tree t (10 ∷ []) [] held line_feed ∙ ap (lex between) (append-nil (compact_text d)))
    ∙ (ap tokens (sym (print-outline d)) ∙ tokens-print (shape.json_tokens (outline d)) (ArePrintable-json_tokens (outline d) (numbers_in t held)))

mutual
  flat : (n : ℕ) (t : Tree) → IsInOrder n t → shape.depth (outline (data_of t)) ≤ n
  flat n null order = omega arith
  flat n (truth b) order = omega arith
  flat n (int z) order = omega arith
  flat n (str text) order = omega arith
  flat zero (list ts) order = absurd order
  flat (suc n) (list ts) order = omega (arith, flat_items n ts order)
  flat zero (object ms) order = absurd order
  flat (suc n) (object ms) order = omega (arith, flat_members n ms order)

  flat_items : (n : ℕ) (ts : Trees) → AreInOrder n ts → shape.items_depth (items_outline (items_of ts)) ≤ n
  flat_items n no_trees order = omega arith
  flat_items n (tree t ts) order = omega (arith, flat n t order.0, flat_items n ts order.1)

  flat_members : (n : ℕ) (ms : Members) → MembersAreInOrder n ms → shape.members_depth (members_outline (members_of ms)) ≤ n
  flat_members n no_members order = omega arith
  flat_members n (member name t ms) order = omega (arith, flat n t order.1, flat_members n ms order.2)

-- ---- names that rise stay in their order

-- members behind others
abbrev joined : value.Members → value.Members → value.Members
joined value.no_members later = later
joined (value.member k d ms) later = value.member k d (joined ms later)

joined_twice : (found ms : value.Members) (k : List ℕ) (d : Data) → joined (joined found (value.member k d value.no_members)) ms ≡ joined found (value.member k d ms)
joined_twice value.no_members ms k d = refl
joined_twice (value.member l e found) ms k d = ap (value.member l e) (joined_twice found ms k d)

-- the name is behind each of these
abbrev IsBehind : List ℕ → value.Members → Type 0
IsBehind name value.no_members = Unit {0}
IsBehind name (value.member k d ms) = (slice_cmp nat_cmp k name ≡ Less) × IsBehind name ms

greater : (a b : List ℕ) → slice_cmp nat_cmp a b ≡ Less → slice_cmp nat_cmp b a ≡ Greater
greater a b less = nat_list_cmp_total.antisymm b a ∙ ap ordering_reverse less

put_last : (name : List ℕ) (d : Data) (found : value.Members) → IsBehind name found → put name d found ≡ joined found (value.member name d value.no_members)
put_last name d value.no_members behind = refl
put_last name d (value.member k e ms) behind = rw (greater k name behind.0) (ap (value.member k e) (put_last name d ms behind.1))

one_more_behind : (name other : List ℕ) (d : Data) (found : value.Members) → slice_cmp nat_cmp name other ≡ Less → IsBehind name found → IsBehind other (joined found (value.member name d value.no_members))
one_more_behind name other d value.no_members less behind = (less, tt)
one_more_behind name other d (value.member k e ms) less behind = (nat_list_cmp_total.trans k name other behind.0 less, one_more_behind name other d ms less behind.1)

-- the first of these is behind each that was found
abbrev GoesOn : value.Members → Members → Type 0
GoesOn found no_members = Unit {0}
GoesOn found (member name t ms) = IsBehind name found

goes_on : (name : List ℕ) (d : Data) (found : value.Members) (ms : Members) → ComesBefore name ms → IsBehind name found → GoesOn (joined found (value.member name d value.no_members)) ms
goes_on name d found no_members before behind = tt
goes_on name d found (member other t ms) before behind = one_more_behind name other d found before behind

number_read : (n : ℤ) → IsHeldNumber n → number_of (number_text (of_integer n)) ≡ Some (of_integer n)
number_read (pos n) held = number_of-decimal n held
number_read (negsuc n) held = number_of-negative n held

none_before : (ms : Members) → GoesOn value.no_members ms
none_before no_members = tt
none_before (member name t ms) = tt

joined_none : (found : value.Members) → joined found value.no_members ≡ found
joined_none value.no_members = refl
joined_none (value.member k d ms) = ap (value.member k d) (joined_none ms)

mutual
  told : (n : ℕ) (t : Tree) → IsHeld t → IsInOrder n t → of_json (outline (data_of t)) ≡ Some (data_of t)
  told n null held order = refl
  told n (truth b) held order = refl
  told n (int z) held order = ap (option_map value.number) (number_read z held)
  told n (str text) held order = refl
  told zero (list ts) held order = absurd order
  told (suc n) (list ts) held order = ap (option_map value.array) (told_items n ts held order)
  told zero (object ms) held order = absurd order
  told (suc n) (object ms) held order = ap (option_map value.object) (told_members n ms value.no_members held order (none_before ms))

  told_items : (n : ℕ) (ts : Trees) → AreHeld ts → AreInOrder n ts → of_items (items_outline (items_of ts)) ≡ Some (items_of ts)
  told_items n no_trees held order = refl
  told_items n (tree t ts) held order =
      ap (option_and_then (λ d. option_map (value.item d) (of_items (items_outline (items_of ts))))) (told n t held.0 order.0)
      ∙ ap (option_map (value.item (data_of t))) (told_items n ts held.1 order.1)

  told_members : (n : ℕ) (ms : Members) (found : value.Members) → MembersAreHeld ms → MembersAreInOrder n ms → GoesOn found ms
      → of_members (members_outline (members_of ms)) found ≡ Some (joined found (members_of ms))
  told_members n no_members found held order on = ap (λ (x : value.Members). Some x) (sym (joined_none found))
  told_members n (member name t ms) found held order on =
      let d = data_of t in
      let more = joined found (value.member name d value.no_members) in
      ap (option_and_then (λ e. of_members (members_outline (members_of ms)) (put name e found))) (told n t held.1 order.1)
      ∙ (ap (of_members (members_outline (members_of ms))) (put_last name d found on)
      ∙ (told_members n ms more held.2 order.2 (goes_on name d found ms order.0 on)
      ∙ ap (λ (x : value.Members). Some x) (joined_twice found (members_of ms) name d)))

-- ---- the law

-- the text of a tree, with a line feed behind it, is read as the tree's value
pub read-text_of : (t : Tree) → IsHeld t → IsInOrder max_depth t → read (text_of t ++ 10 ∷ []) ≡ Some (data_of t)
read-text_of t held order =
    let j = outline (data_of t) in
    ap (λ us. option_and_then of_json (option_and_then (λ p. json.if_last p.0 p.1) (json.value max_depth us))) (tokens_of t held ∙ sym (append-nil (shape.json_tokens j)))
    ∙ (ap (λ o. option_and_then of_json (option_and_then (λ p. json.if_last p.0 p.1) o)) (value-json_tokens j max_depth [] (flat max_depth t order))
    ∙ told max_depth t held order)
