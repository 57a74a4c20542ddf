-- JSON reads back a written list of texts.
use Rattle.std.proofs.Common.{◌≡◌, ℕ, ◌≤◌, true, false, List, [], ◌∷◌, ◌++◌, flat_map, map, Some, option_map, option_and_then, refl, sym, ap, ◌∙◌, arith, append_assoc, append-nil}
use Rattle.std.specs.Prelude.{IsUtf8, encode_utf8_all}
use Rattle.std.specs.Str.{chars}
use Rattle.std.proofs.lemmas.Bool.{and_parts}
use Rattle.std.proofs.lemmas.Str.{chars-encodes}
use lib.Utf8.{scalar, scalars}
use Rattle.json.specs.Json as json
use Rattle.json.specs.Lex.{Lexeme, token, comma, lex, between, in_string, string_token, fresh, after_value, begins_colon, punctuate, tokens}
use Rattle.json.specs.Text.{content, plain, prepend}
use Rattle.json.specs.Token.{Token, begin_array, end_array, string}
use Rattle.json.specs.Tree.{json_tokens, items_tokens, depth, items_depth}
use Rattle.json.proofs.Printed.Trees.{value-json_tokens}
use Rattle.serde_json.specs.Data as tree
use Rattle.serde_json.specs.Read.{of_json, of_items, max_depth}
use Rattle.serde_json.specs.View.{items_of}
use Rattle.lg_json.specs.Escapes.{escape, escaped}
use Rattle.lg_json.specs.Text.{quoted}
use Rattle.lg_params.specs.Spelling.{SpellsTexts}
use Rattle.lg_params.specs.Writing.{list_text}
use Rattle.lg_params.proofs.QuoteLemmas.{passes}

content_escaped : (cs r : List ℕ) → scalars cs ≡ true → content plain (escaped cs ++ 34 ∷ r) ≡ Some (encode_utf8_all cs)
unfolding content
content_escaped [] r real = refl
content_escaped (c ∷ cs) r real =
    let parts = and_parts (scalar c) (scalars cs) real in
    ap (content plain) (append_assoc (escape c) (escaped cs) (34 ∷ r)) ∙ ((passes c parts.0).read _ ∙ ap (prepend _) (content_escaped cs r parts.1))

lex_escaped : (cs r : List ℕ) → scalars cs ≡ true → lex in_string (escaped cs ++ 34 ∷ r) ≡ lex between r
unfolding lex
lex_escaped [] r real = refl
lex_escaped (c ∷ cs) r real =
    let parts = and_parts (scalar c) (scalars cs) real in
    ap (lex in_string) (append_assoc (escape c) (escaped cs) (34 ∷ r)) ∙ ((passes c parts.0).lexed _ ∙ lex_escaped cs r parts.1)

lex_quote : (xs : List ℕ) → lex between (34 ∷ xs) ≡ token (string_token (content plain xs)) ∷ lex in_string xs
unfolding lex
lex_quote xs = refl

-- a quoted text is one lexeme
pub lex_quoted : (t r : List ℕ) → IsUtf8 t → lex between (quoted t ++ r) ≡ token (string t) ∷ lex between r
lex_quoted t r (cs, (real, spelled)) =
    let same : chars t ≡ cs = ap chars (sym spelled) ∙ chars-encodes cs real in
    let end : (escaped (chars t) ++ 34 ∷ []) ++ r ≡ escaped cs ++ 34 ∷ r = append_assoc (escaped (chars t)) (34 ∷ []) r ∙ ap (λ (ds : List ℕ). escaped ds ++ 34 ∷ r) same in
    lex_quote _
    ∙ (ap (λ (xs : List ℕ). token (string_token (content plain xs)) ∷ lex in_string xs) end
    ∙ (ap (λ o. token (string_token o) ∷ lex in_string (escaped cs ++ 34 ∷ r)) (content_escaped cs r real ∙ ap (λ (s : List ℕ). Some s) spelled)
    ∙ ap (λ ls. token (string t) ∷ ls) (lex_escaped cs r real)))

-- ---- the lexemes of a list

abbrev pub EachUtf8 : List (List ℕ) → Type 0
EachUtf8 [] = Unit {0}
EachUtf8 (t ∷ ts) = IsUtf8 t × EachUtf8 ts

abbrev others_lexed : List (List ℕ) → List Lexeme
others_lexed [] = token end_array ∷ []
others_lexed (t ∷ ts) = comma ∷ token (string t) ∷ others_lexed ts

lex_separator : (xs : List ℕ) → lex between (44 ∷ 32 ∷ xs) ≡ comma ∷ lex between xs
unfolding lex
lex_separator xs = refl

lex_open : (xs : List ℕ) → lex between (91 ∷ xs) ≡ token begin_array ∷ lex between xs
unfolding lex
lex_open xs = refl

lex_close : lex between (93 ∷ []) ≡ token end_array ∷ []
unfolding lex
lex_close = refl

lex_others : (ts : List (List ℕ)) → EachUtf8 ts → lex between (flat_map (λ t. (44 ∷ 32 ∷ []) ++ quoted t) ts ++ 93 ∷ []) ≡ others_lexed ts
lex_others [] utf8 = lex_close
lex_others (t ∷ ts) utf8 =
    let more = flat_map (λ t. (44 ∷ 32 ∷ []) ++ quoted t) ts in
    ap (lex between) (append_assoc (44 ∷ 32 ∷ quoted t) more (93 ∷ []))
    ∙ (lex_separator (quoted t ++ (more ++ 93 ∷ []))
    ∙ ap (λ ls. comma ∷ ls) (lex_quoted t (more ++ 93 ∷ []) utf8.0 ∙ ap (λ ls. token (string t) ∷ ls) (lex_others ts utf8.1)))

no_colon : (ts : List (List ℕ)) → begins_colon (others_lexed ts) ≡ false
no_colon [] = refl
no_colon (t ∷ ts) = refl

-- ---- its tokens

abbrev strings : List (List ℕ) → json.Items
strings [] = json.no_items
strings (t ∷ ts) = json.item (json.string t) (strings ts)

others_placed : (ts : List (List ℕ)) → punctuate after_value (others_lexed ts) ≡ items_tokens (strings ts)
unfolding punctuate
others_placed [] = refl
others_placed (t ∷ ts) = rw (no_colon ts) (ap (λ us. Token.string t ∷ us) (others_placed ts))

list_placed : (ts : List (List ℕ)) (ls : List Lexeme) → punctuate fresh (token begin_array ∷ ls) ≡ begin_array ∷ punctuate fresh ls
unfolding punctuate
list_placed ts ls = refl

first_placed : (t : List ℕ) (ts : List (List ℕ)) → punctuate fresh (token (string t) ∷ others_lexed ts) ≡ Token.string t ∷ punctuate after_value (others_lexed ts)
unfolding punctuate
first_placed t ts = rw (no_colon ts)

end_placed : punctuate fresh (token end_array ∷ []) ≡ end_array ∷ []
unfolding punctuate
end_placed = refl

list_tokens : (ts : List (List ℕ)) → EachUtf8 ts → tokens (list_text ts) ≡ json_tokens (json.array (strings ts))
list_tokens [] utf8 =
    ap (punctuate fresh) (lex_open (93 ∷ []) ∙ ap (λ ls. token begin_array ∷ ls) lex_close) ∙ (list_placed [] _ ∙ ap (λ us. begin_array ∷ us) end_placed)
list_tokens (t ∷ ts) utf8 =
    let more = flat_map (λ t. (44 ∷ 32 ∷ []) ++ quoted t) ts in
    ap (punctuate fresh)
    (lex_open ((quoted t ++ more) ++ 93 ∷ [])
    ∙ ap (λ ls. token begin_array ∷ ls)
    (ap (lex between) (append_assoc (quoted t) more (93 ∷ []))
    ∙ (lex_quoted t (more ++ 93 ∷ []) utf8.0 ∙ ap (λ ls. token (string t) ∷ ls) (lex_others ts utf8.1))))
    ∙ (list_placed ts _ ∙ ap (λ us. begin_array ∷ us) (first_placed t ts ∙ ap (λ us. Token.string t ∷ us) (others_placed ts)))

-- ---- its value

flat : (ts : List (List ℕ)) → items_depth (strings ts) ≡ 0
flat [] = refl
flat (t ∷ ts) = rw (flat ts)

strings_read : (ts : List (List ℕ)) → of_items (strings ts) ≡ Some (items_of (map tree.string ts))
strings_read [] = refl
strings_read (t ∷ ts) = ap (option_map (tree.item (tree.string t))) (strings_read ts)

pub list_read : (ts : List (List ℕ)) → EachUtf8 ts → SpellsTexts (list_text ts) ts
list_read ts utf8 =
    let j = json.array (strings ts) in
    let shallow : depth j ≤ max_depth = omega (arith, flat ts) in
    ap (λ us. option_and_then of_json (option_and_then (λ p. json.if_last p.0 p.1) (json.value max_depth us))) (list_tokens ts utf8 ∙ sym (append-nil (json_tokens j)))
    ∙ (ap (λ o. option_and_then of_json (option_and_then (λ p. json.if_last p.0 p.1) o)) (value-json_tokens j max_depth [] shallow)
    ∙ ap (option_map tree.array) (strings_read ts))
