-- Pieces that are written one after another.
use Rattle.std.proofs.Common.{◌≡◌, ℕ, suc, ◌+◌, ◌<◌, List, [], ◌∷◌, ◌++◌, length, get_or, take, drop, sym, ◌∙◌, ap, drop-cons, length-append, append_assoc, arith}
use Rattle.std.specs.List.{flat_map}
use Rattle.std.proofs.lemmas.Grind.{flat_map-append}
use Rattle.std.proofs.lemmas.List.{take-append-drop}
use Rattle.std.specs.Borrow.{Bor}
use Rattle.std.specs.Fmt.{decimal}
use Rattle.std.specs.Prelude.{Bool, codes, unwrap_or}
use Rattle.lg_json.specs.Capped.{capped}
use Rattle.lg_json.specs.Text.{text_of}
use Rattle.lg_json.specs.Tree.{Tree}
use Rattle.lg_http.specs.Response.{head_of, body_of, reason_of, opening, closing, front_of, response_bytes}

abbrev pub bytes_in : Bor (List ℕ) → List ℕ
bytes_in piece = piece.now

-- the pieces before a place, the one there, and those behind it
pub pieces_at : (pieces : List (Bor (List ℕ))) (i : ℕ) (d : Bor (List ℕ)) → i < length pieces
    → flat_map bytes_in (take i pieces) ++ ((get_or pieces i d).now ++ flat_map bytes_in (drop (suc i) pieces)) ≡ flat_map bytes_in pieces
pieces_at pieces i d inside =
    ap (λ t. flat_map bytes_in (take i pieces) ++ t) (ap (flat_map bytes_in) (sym (drop-cons pieces i d inside)))
    ∙ sym (flat_map-append bytes_in (take i pieces) (drop i pieces))
    ∙ ap (flat_map bytes_in) (take-append-drop i pieces)

-- the pieces of a head
pub head_pieces : (status size : ℕ) (last : Bool) (s r z l : List ℕ) → s ≡ decimal status → r ≡ unwrap_or (reason_of status) []
    → z ≡ decimal size → l ≡ closing last
    → codes "HTTP/1.1 " ++ (s ++ (codes " " ++ (r ++ (codes "\r\nContent-Type: application/json\r\nContent-Length: "
    ++ (z ++ (codes "\r\n" ++ (l ++ (codes "\r\n" ++ [])))))))) ≡ head_of status size last
unfolding head_of
head_pieces status size last s r z l e f h k = rw (e, f, h, k) (regroup (decimal status) (unwrap_or (reason_of status) []) (decimal size) (closing last))
  where
    regroup : (s r z l : List ℕ)
        → codes "HTTP/1.1 " ++ (s ++ (codes " " ++ (r ++ (codes "\r\nContent-Type: application/json\r\nContent-Length: "
        ++ (z ++ (codes "\r\n" ++ (l ++ (codes "\r\n" ++ []))))))))
        ≡ codes "HTTP/1.1 " ++ s ++ codes " " ++ r ++ codes "\r\n" ++ codes "Content-Type: application/json\r\n"
        ++ codes "Content-Length: " ++ z ++ codes "\r\n" ++ l ++ codes "\r\n"
    regroup s r z l = simp append_assoc

-- the size of a body that is told before it is written
size_told : (opened text : List ℕ) (size : ℕ) → size ≡ capped (length text)
    → capped (size + (length opened + 1)) ≡ capped (length (opened ++ (text ++ 125 ∷ [])))
size_told opened text size is =
    omega (arith, is, length-append opened (text ++ 125 ∷ []), length-append text (125 ∷ []))

-- what stands before a tree, its text and the brace are the response
pub response_parts : (status : ℕ) (tree : Tree) (last : Bool) (size : ℕ) → size ≡ capped (length (text_of tree))
    → front_of status size last ++ (text_of tree ++ 125 ∷ []) ≡ response_bytes status tree last
response_parts status tree last size is =
    append_assoc (head_of status (capped (size + (length (opening status) + 1))) last) (opening status) (text_of tree ++ 125 ∷ [])
    ∙ ap (λ (n : ℕ). head_of status n last ++ body_of status tree) (size_told (opening status) (text_of tree) size is)
