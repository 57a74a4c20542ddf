-- The reader of templates, one character after another.
use Rattle.std.proofs.Common.{◌≡◌, ◌≢◌, ℕ, false, List, [], ◌∷◌, ◌++◌, map, Option, Some, None, Result, Ok, Err, Vec, Global, refl, sym, ap, ◌∙◌, append_assoc, lit<}
use Rattle.std.specs.Prelude.{encode_utf8, ◌==◌}
use Rattle.std.specs.Result.{IsErrAnd}
use Rattle.std.proofs.lemmas.List.{map-append, append-nil}
use Rattle.std.proofs.lemmas.List.Concat.{flat_map-append}
use Rattle.std.proofs.lemmas.Result.{err_from_is_err_and}
use Rattle.std.proofs.lemmas.Str.{encode_ascii}
use Rattle.lg_declare.specs.Answers.{Gives}
use Rattle.lg_declare.specs.Template.{Part, byte, word, Standing, outside, opened, inside, closed, behind, parts_from}
use Rattle.lg_declare.specs.Pieces.{parts_of_piece, parts_of_pieces}
use Rattle.lg_declare.specs.Reader.{standing_at, resumed, Takes, pieces_of}
use Rattle.lg_declare.specs.declared.fault.TemplateFault.{TemplateFault}
use Rattle.lg_declare.specs.declared.fault.TemplateFault.TheVariants.{BadTemplate, NoMemory}
use Rattle.lg_declare.specs.declared.piece.Piece.{Piece}
use Rattle.lg_declare.specs.declared.piece.Piece.TheVariants.{Literal, Word}
use Rattle.lg_declare.specs.declared.reader.Reader.{Reader}
use Rattle.lg_declare.specs.declared.reader.Place as code
use Rattle.lg_declare.specs.declared.reader.Place.TheVariants.{Outside, Opened, Inside, Closed}
use Rattle.lg_declare.proofs.TemplateLemmas.{behind-append, behind-nil, outside-plain, inside-plain, opened-plain, encode-plain, encode-begins, first-other}

open_is : encode_utf8 123 ≡ 123 ∷ []
open_is = encode_ascii 123 (lit< tt)

close_is : encode_utf8 125 ≡ 125 ∷ []
close_is = encode_ascii 125 (lit< tt)

-- ---- a brace

pub opens : (front : List Part) (read : List ℕ) (place : code.Place) (c : ℕ) (rest : List ℕ) → place ≡ Outside → c ≡ 123
    → behind front (parts_from opened rest) ≡ behind front (parts_from (standing_at place read) (encode_utf8 c ++ rest))
unfolding parts_from
opens front read place c rest at is = rw (at, is, open_is) (ap (behind front) (sym (behind-nil (parts_from opened rest))))

pub closes : (front : List Part) (read : List ℕ) (place : code.Place) (c : ℕ) (rest : List ℕ) → place ≡ Outside → c ≡ 125
    → behind front (parts_from closed rest) ≡ behind front (parts_from (standing_at place read) (encode_utf8 c ++ rest))
unfolding parts_from
closes front read place c rest at is = rw (at, is, close_is) (ap (behind front) (sym (behind-nil (parts_from closed rest))))

-- ---- a character that stands for itself

text_taken : (front : List Part) (was now bytes rest : List ℕ) (from : Standing) → now ≡ was ++ bytes
    → parts_from from (bytes ++ rest) ≡ behind (map byte bytes) (parts_from outside rest)
    → behind (front ++ map byte now) (parts_from outside rest) ≡ behind (front ++ map byte was) (parts_from from (bytes ++ rest))
text_taken front was now bytes rest from is due =
    ap (λ xs. behind (front ++ map byte xs) (parts_from outside rest)) is
    ∙ ap (λ ys. behind (front ++ ys) (parts_from outside rest)) (map-append byte was bytes)
    ∙ ap (λ xs. behind xs (parts_from outside rest)) (sym (append_assoc front (map byte was) (map byte bytes)))
    ∙ behind-append (front ++ map byte was) (map byte bytes) (parts_from outside rest)
    ∙ ap (behind (front ++ map byte was)) (sym due)

pub text_outside : (front : List Part) (was now read : List ℕ) (place : code.Place) (c : ℕ) (rest : List ℕ) → place ≡ Outside
    → c ≢ 123 → c ≢ 125 → now ≡ was ++ encode_utf8 c
    → behind (front ++ map byte now) (parts_from (standing_at place read) rest) ≡ behind (front ++ map byte was) (parts_from (standing_at place read) (encode_utf8 c ++ rest))
text_outside front was now read place c rest at no_open no_close is =
    rw at (text_taken front was now (encode_utf8 c) rest outside is (outside-plain (encode_utf8 c) rest (encode-plain c no_open no_close)))

doubled_open : (rest : List ℕ) → parts_from opened (123 ∷ rest) ≡ behind (byte 123 ∷ []) (parts_from outside rest)
unfolding parts_from
doubled_open rest = refl

doubled_close : (rest : List ℕ) → parts_from closed (125 ∷ rest) ≡ behind (byte 125 ∷ []) (parts_from outside rest)
unfolding parts_from
doubled_close rest = refl

pub open_doubled : (front : List Part) (was now read : List ℕ) (place : code.Place) (c : ℕ) (rest : List ℕ) → place ≡ Opened
    → c ≡ 123 → now ≡ was ++ encode_utf8 c
    → behind (front ++ map byte now) (parts_from outside rest) ≡ behind (front ++ map byte was) (parts_from (standing_at place read) (encode_utf8 c ++ rest))
open_doubled front was now read place c rest at brace is =
    rw (at, brace, open_is) (text_taken front was now (123 ∷ []) rest opened (is ∙ ap (λ x. was ++ encode_utf8 x) brace ∙ ap (λ bs. was ++ bs) open_is) (doubled_open rest))

pub close_doubled : (front : List Part) (was now read : List ℕ) (place : code.Place) (c : ℕ) (rest : List ℕ) → place ≡ Closed
    → c ≡ 125 → now ≡ was ++ encode_utf8 c
    → behind (front ++ map byte now) (parts_from outside rest) ≡ behind (front ++ map byte was) (parts_from (standing_at place read) (encode_utf8 c ++ rest))
close_doubled front was now read place c rest at close is =
    rw (at, close, close_is) (text_taken front was now (125 ∷ []) rest closed (is ∙ ap (λ x. was ++ encode_utf8 x) close ∙ ap (λ bs. was ++ bs) close_is) (doubled_close rest))

-- ---- a brace without its partner

lone_by : (front : List Part) (first : ℕ) (rest : List ℕ) → first == 125 ≡ false → behind front (parts_from closed (first ∷ rest)) ≡ None
unfolding parts_from
lone_by front first rest other = rw other refl

pub lone_close : (front : List Part) (read : List ℕ) (place : code.Place) (c : ℕ) (rest : List ℕ) → place ≡ Closed → c ≢ 125
    → behind front (parts_from (standing_at place read) (encode_utf8 c ++ rest)) ≡ None
lone_close front read place c rest at other =
    let b = encode-begins c in
    rw (at, b.are) (lone_by front b.first (b.others ++ rest) (first-other c b.first 125 b.is other (lit< tt)))

pub lone_open : (front : List Part) (read : List ℕ) (place : code.Place) (c : ℕ) (rest : List ℕ) → place ≡ Inside → c ≡ 123
    → behind front (parts_from (standing_at place read) (encode_utf8 c ++ rest)) ≡ None
unfolding parts_from
lone_open front read place c rest at is = rw (at, is, open_is) refl

-- ---- a word

pub word_grows : (front : List Part) (was now : List ℕ) (place : code.Place) (c : ℕ) (rest : List ℕ) → place ≡ Inside
    → c ≢ 123 → c ≢ 125 → now ≡ was ++ encode_utf8 c
    → behind front (parts_from (standing_at place now) rest) ≡ behind front (parts_from (standing_at place was) (encode_utf8 c ++ rest))
word_grows front was now place c rest at no_open no_close is =
    rw (at, is) (ap (behind front) (sym (inside-plain was (encode_utf8 c) rest (encode-plain c no_open no_close))))

-- a word begins behind a brace that isn't doubled
pub word_begins : (front : List Part) (read fresh : List ℕ) (place : code.Place) (c : ℕ) (rest : List ℕ) → place ≡ Opened → c ≢ 123 → fresh ≡ []
    → behind front (parts_from (inside fresh) (encode_utf8 c ++ rest)) ≡ behind front (parts_from (standing_at place read) (encode_utf8 c ++ rest))
word_begins front read fresh place c rest at other empty =
    let b = encode-begins c in
    rw (at, empty, b.are) (ap (behind front) (sym (opened-plain b.first (b.others ++ rest) (first-other c b.first 123 b.is other (lit< tt)))))

-- what is taken from there on is taken from before
pub takes_from : (before mid behind_it : Reader) (c : ℕ) (result : Result (Unit {0}) TemplateFault)
    → ((rest : List ℕ) → resumed mid (encode_utf8 c ++ rest) ≡ resumed before (encode_utf8 c ++ rest))
    → Takes mid c behind_it result → Takes before c behind_it result
takes_from before mid behind_it c (Ok x) same takes = λ rest. takes rest ∙ same rest
takes_from before mid behind_it c (Err BadTemplate) same takes = λ rest. sym (same rest) ∙ takes rest
takes_from before mid behind_it c (Err NoMemory) same takes = tt

two_more : (pieces : List Piece) (literal name : List ℕ)
    → parts_of_pieces ((pieces ++ Literal literal ∷ []) ++ Word name ∷ []) ++ [] ≡ (parts_of_pieces pieces ++ map byte literal) ++ word name ∷ []
two_more pieces literal name =
    append-nil (parts_of_pieces ((pieces ++ Literal literal ∷ []) ++ Word name ∷ []))
    ∙ flat_map-append parts_of_piece (pieces ++ Literal literal ∷ []) (Word name ∷ [])
    ∙ ap (λ xs. xs ++ word name ∷ []) (flat_map-append parts_of_piece pieces (Literal literal ∷ []) ∙ ap (λ ys. parts_of_pieces pieces ++ ys) (append-nil (map byte literal)))

ended : (front : List Part) (read rest : List ℕ)
    → behind (front ++ word read ∷ []) (parts_from outside rest) ≡ behind front (parts_from (inside read) (125 ∷ rest))
unfolding parts_from
ended front read rest = behind-append front (word read ∷ []) (parts_from outside rest)

pub word_ends : (pieces more whole : List Piece) (literal text read name fresh : List ℕ) (place : code.Place) (rest : List ℕ)
    → place ≡ Inside → more ≡ pieces ++ Literal text ∷ [] → whole ≡ more ++ Word name ∷ [] → text ≡ literal → name ≡ read → fresh ≡ []
    → behind (parts_of_pieces whole ++ map byte fresh) (parts_from outside rest)
    ≡ behind (parts_of_pieces pieces ++ map byte literal) (parts_from (standing_at place read) (encode_utf8 125 ++ rest))
word_ends pieces more whole literal text read name fresh place rest at first second same_text same_name empty =
    rw (at, second, first, same_text, same_name, empty, close_is)
    (ap (λ xs. behind xs (parts_from outside rest)) (two_more pieces literal read) ∙ ended (parts_of_pieces pieces ++ map byte literal) read rest)

-- ---- the end

pub ends_outside : (pieces whole : List Piece) (literal text read : List ℕ) (place : code.Place)
    → place ≡ Outside → whole ≡ pieces ++ Literal text ∷ [] → text ≡ literal
    → behind (parts_of_pieces pieces ++ map byte literal) (parts_from (standing_at place read) []) ≡ Some (parts_of_pieces whole)
unfolding parts_from
ends_outside pieces whole literal text read place at is same =
    rw (at, is, same)
    (ap Some (append-nil (parts_of_pieces pieces ++ map byte literal)
    ∙ sym (flat_map-append parts_of_piece pieces (Literal literal ∷ []) ∙ ap (λ ys. parts_of_pieces pieces ++ ys) (append-nil (map byte literal)))))

pub ends_early : (front : List Part) (read : List ℕ) (place : code.Place) → (place ≡ Outside → ⊥)
    → behind front (parts_from (standing_at place read) []) ≡ None
unfolding parts_from
ends_early front read Outside other = absurd (other refl)
ends_early front read Opened other = refl
ends_early front read Inside other = refl
ends_early front read Closed other = refl

-- ---- the whole text

-- one character more
pub goes_on : (was now : Reader) (c : ℕ) (rest more : List ℕ) (due : Option (List Part))
    → resumed was rest ≡ due → rest ≡ encode_utf8 c ++ more → Takes was c now (Ok tt) → resumed now more ≡ due
goes_on was now c rest more due before is takes = takes more ∙ ap (resumed was) (sym is) ∙ before

-- the exit where a character isn't taken
stopped_by : (was now : Reader) (c : ℕ) (rest more : List ℕ) (due : Option (List Part)) (fault : TemplateFault)
    → resumed was rest ≡ due → rest ≡ encode_utf8 c ++ more → Takes was c now (Err fault) → Gives (Err fault) due
stopped_by was now c rest more due BadTemplate before is takes = sym before ∙ ap (resumed was) is ∙ takes more
stopped_by was now c rest more due NoMemory before is takes = tt

pub stopped : (was now : Reader) (c : ℕ) (rest more : List ℕ) (due : Option (List Part)) (fault : TemplateFault) (result : Result (Vec Piece Global) TemplateFault)
    → resumed was rest ≡ due → rest ≡ encode_utf8 c ++ more → Takes was c now (Err fault) → IsErrAnd result (λ told. told ≡ fault) → Gives (pieces_of result) due
stopped was now c rest more due fault result before is takes told =
    let p = err_from_is_err_and result told in rw (p.1, p.2) (stopped_by was now c rest more due fault before is takes)
