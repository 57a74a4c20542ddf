-- Pieces of templates, one after another.
use Rattle.std.proofs.Common.{◌≡◌, ℕ, ◌+◌, ◌<◌, true, false, List, [], ◌∷◌, ◌++◌, length, take, get_or, map, refl, sym, ap, ◌∙◌}
use Rattle.std.specs.Prelude.{◌&&◌, if◌then◌else◌, Some, None, option_and_then, Err, Result}
use Rattle.std.specs.Result.{IsErrAnd}
use Rattle.std.proofs.lemmas.Result.{err_from_is_err_and}
use Rattle.std.specs.List.{list_all}
use Rattle.std.proofs.lemmas.List.{append-nil, take_more}
use Rattle.std.proofs.lemmas.List.Concat.{flat_map-append}
use Rattle.std.proofs.lemmas.List.Folds.{list_all-append}
use Rattle.lg_declare.specs.Answers.{Gives}
use Rattle.lg_declare.specs.Template.{Part, byte, parts_of, is_usable, usable_parts, template_of, spelled, spelled_part}
use Rattle.lg_declare.specs.declared.fault.TemplateFault.{TemplateFault}
use Rattle.lg_declare.specs.declared.fault.TemplateFault.TheVariants.{BadTemplate, NoMemory}
use Rattle.lg_declare.specs.Pieces.{parts_of_piece, parts_of_pieces}
use Rattle.lg_declare.specs.declared.piece.Piece.{Piece}

pub usable-bytes : (names : List (List ℕ)) (text : List ℕ) → list_all (is_usable names) (map byte text) ≡ true
usable-bytes names [] = refl
usable-bytes names (b ∷ text) = usable-bytes names text

pub usable-pieces : (names : List (List ℕ)) (pieces : List Piece)
    → list_all (λ piece. list_all (is_usable names) (parts_of_piece piece)) pieces ≡ list_all (is_usable names) (parts_of_pieces pieces)
usable-pieces names [] = refl
usable-pieces names (piece ∷ pieces) =
    ap (λ b. list_all (is_usable names) (parts_of_piece piece) && b) (usable-pieces names pieces)
    ∙ sym (list_all-append (is_usable names) (parts_of_piece piece) (parts_of_pieces pieces))

pub spelled-bytes : (values : List (List ℕ × List ℕ)) (text : List ℕ) → spelled values (map byte text) ≡ text
spelled-bytes values [] = refl
spelled-bytes values (b ∷ text) = ap (λ bs. b ∷ bs) (spelled-bytes values text)

pub spelled-more : (values : List (List ℕ × List ℕ)) (pieces : List Piece) (i : ℕ) (piece : Piece) → i < length pieces → piece ≡ get_or pieces i piece
    → spelled values (parts_of_pieces (take (i + 1) pieces)) ≡ spelled values (parts_of_pieces (take i pieces)) ++ spelled values (parts_of_piece piece)
spelled-more values pieces i piece within is =
    ap (λ ps. spelled values (parts_of_pieces ps)) (take_more pieces i piece within)
    ∙ ap (λ p. spelled values (parts_of_pieces (take i pieces ++ p ∷ []))) (sym is)
    ∙ ap (spelled values) (flat_map-append parts_of_piece (take i pieces) (piece ∷ []) ∙ ap (λ ys. parts_of_pieces (take i pieces) ++ ys) (append-nil (parts_of_piece piece)))
    ∙ flat_map-append (spelled_part values) (parts_of_pieces (take i pieces)) (parts_of_piece piece)

-- a text with parts is a template exactly where each of its words is a name
pub template-is : (names : List (List ℕ)) (text : List ℕ) (parts : List Part) → parts_of text ≡ Some parts
    → list_all (is_usable names) parts ≡ true → template_of names text ≡ Some parts
template-is names text parts read usable = ap (option_and_then (usable_parts names)) read ∙ ap (λ b. if b then Some parts else None) usable

pub template-none : (names : List (List ℕ)) (text : List ℕ) (parts : List Part) → parts_of text ≡ Some parts
    → list_all (is_usable names) parts ≡ false → template_of names text ≡ None
template-none names text parts read usable = ap (option_and_then (usable_parts names)) read ∙ ap (λ b. if b then Some parts else None) usable

-- what stops the reading of the parts stops that of the template
unread_by : (names : List (List ℕ)) (text : List ℕ) (fault : TemplateFault) → Gives (Err fault) (parts_of text) → Gives (Err fault) (template_of names text)
unread_by names text BadTemplate none = ap (option_and_then (usable_parts names)) none
unread_by names text NoMemory none = tt

pub unread : (names : List (List ℕ)) (text : List ℕ) (fault : TemplateFault) (result : Result (List Part) TemplateFault)
    → Gives (Err fault) (parts_of text) → IsErrAnd result (λ told. told ≡ fault) → Gives result (template_of names text)
unread names text fault result none told = let p = err_from_is_err_and result told in rw (p.1, p.2) (unread_by names text fault none)
