-- What is written aside is what a rename moves.
use Rattle.std.proofs.Common.{◌≡◌, ℕ, ◌≢◌, List, [], ◌∷◌, ◌++◌, Some, map, unwrap_or, sym, ap, ◌∙◌, append_assoc}
use Rattle.std.specs.FinMap.{get, insert}
use Rattle.std.specs.List.{concat}
use Rattle.std.proofs.lemmas.List.{append-nil}
use Rattle.std.proofs.lemmas.List.Elements.{All-nil, All-cons}
use Rattle.std.proofs.lemmas.Option.{none-some}
use Rattle.lg_io.specs.Files.{FileMap, FileCall, create, append, close, rename, FileAnswer, done, AnsweredCall, FilesTold, IsCalled, IsTemporary, AppearInTurn, present}
use Rattle.lg_target.specs.Target.{IsMovedTo, IsReplaced, AreCalled, maps_between, StayAside, StaysAside, writing}
use Rattle.lg_target.proofs.TargetLemmas.{present-append, get-insert_other, get-insert_same, called_in_two, calls_aside, replaced}

-- a file that is there stays as it is while others appear
appear_keeps : (before : FileMap) (more : List FileMap) (path bytes : List ℕ) → get before path ≡ Some bytes → AppearInTurn before more
    → get (present (before ∷ more)) path ≡ Some bytes
appear_keeps before [] path bytes held appear = held
appear_keeps before (m ∷ ms) path bytes held appear =
    let differ : path ≢ appear.0.path = λ same. none-some bytes (sym (ap (get before) same ∙ appear.0.held_none) ∙ held) in
    appear_keeps m ms path bytes (ap (λ n. get n path) appear.0.is ∙ get-insert_other before appear.0.path appear.0.bytes path differ ∙ held) appear.1

-- so it stands where a call does its work
at_work : {before after : FilesTold} {call : FileCall} {answer : FileAnswer} (called : IsCalled before call answer after) (path bytes : List ℕ)
    → get (present before.maps) path ≡ Some bytes → get (present (before.maps ++ called.appeared)) path ≡ Some bytes
at_work {before} called path bytes held =
    ap (λ m. get m path) (present-append before.maps called.appeared) ∙ appear_keeps (present before.maps) called.appeared path bytes held called.appear

-- what a call leaves is the present map
leaves : {before after : FilesTold} {call : FileCall} {answer : FileAnswer} (called : IsCalled before call answer after) → present after.maps ≡ called.left
leaves {before} called = ap present called.maps ∙ present-append (before.maps ++ called.appeared) (called.left ∷ [])

same_bytes : (files : FileMap) (path xs ys : List ℕ) → get files path ≡ Some xs → get files path ≡ Some ys → xs ≡ ys
same_bytes files path xs ys one other = ap (λ held. unwrap_or held []) (sym one ∙ other)

-- pieces are put behind the bytes of a file aside, which is then closed
pieces_behind : (aside : List ℕ) (pieces : List (List ℕ)) (before : FilesTold) (bytes : List ℕ) (after : FilesTold) → get (present before.maps) aside ≡ Some bytes
    → AreCalled before (map (λ piece. record { call = append aside piece; answer = done }) pieces ++ record { call = close aside; answer = done } ∷ []) after
    → get (present after.maps) aside ≡ Some (bytes ++ concat pieces)
pieces_behind aside [] before bytes after held called =
    ap (λ told. get (present told.maps) aside) called.2 ∙ ap (λ m. get m aside) (leaves called.1) ∙ ap (λ m. get m aside) called.1.does
    ∙ at_work called.1 aside bytes held ∙ ap Some (sym (append-nil bytes))
pieces_behind aside (piece ∷ pieces) before bytes after held called =
    let was = same_bytes _ aside _ _ called.1.does.1 (at_work called.1 aside bytes held) in
    pieces_behind aside pieces called.0 (bytes ++ piece) after
    (ap (λ m. get m aside) (leaves called.1 ∙ called.1.does.2) ∙ get-insert_same _ aside _ ∙ ap (λ bs. Some (bs ++ piece)) was) called.2
    ∙ ap Some (append_assoc bytes piece (concat pieces))

written : (aside : List ℕ) (pieces : List (List ℕ)) (before after : FilesTold) → AreCalled before (writing aside pieces) after
    → get (present after.maps) aside ≡ Some (concat pieces)
written aside pieces before after called =
    pieces_behind aside pieces called.0 [] after (ap (λ m. get m aside) (leaves called.1 ∙ called.1.does) ∙ get-insert_same _ aside []) called.2

-- the calls of writing stay aside
pieces_stay : (aside : List ℕ) (pieces : List (List ℕ)) → IsTemporary aside
    → StayAside (map (λ piece. record { call = append aside piece; answer = done }) pieces ++ record { call = close aside; answer = done } ∷ [])
pieces_stay aside [] temporary =
    All-cons (λ made. StaysAside made.call made.answer) (record { call = close aside; answer = done }) [] temporary (All-nil (λ made. StaysAside made.call made.answer))
pieces_stay aside (piece ∷ pieces) temporary =
    All-cons (λ made. StaysAside made.call made.answer) (record { call = append aside piece; answer = done })
    (map (λ p. record { call = append aside p; answer = done }) pieces ++ record { call = close aside; answer = done } ∷ []) temporary
    (pieces_stay aside pieces temporary)

writing_stays : (aside : List ℕ) (pieces : List (List ℕ)) → IsTemporary aside → StayAside (writing aside pieces)
writing_stays aside pieces temporary =
    All-cons (λ made. StaysAside made.call made.answer) (record { call = create aside; answer = done })
    (map (λ p. record { call = append aside p; answer = done }) pieces ++ record { call = close aside; answer = done } ∷ []) temporary
    (pieces_stay aside pieces temporary)

pub whole_once_renamed : (path aside : List ℕ) (pieces : List (List ℕ)) (before : FilesTold) (later : List AnsweredCall) (after : FilesTold)
    → (IsTemporary path → ⊥) → IsTemporary aside → StayAside later
    → AreCalled before (writing aside pieces ++ record { call = rename aside path; answer = done } ∷ later) after
    → IsReplaced path (concat pieces) (maps_between before after)
whole_once_renamed path aside pieces before later after plain temporary stay called =
    let parts = called_in_two before (writing aside pieces) (record { call = rename aside path; answer = done } ∷ later) after called in
    let first = calls_aside path before (writing aside pieces) parts.0 plain
    (writing_stays aside pieces temporary) parts.1 in
    let rest = calls_aside path parts.2.0 later after plain stay parts.2.2 in
    let does = parts.2.1.does in
    let held = at_work parts.2.1 aside (concat pieces) (written aside pieces before parts.0 parts.1) in
    let moved : IsMovedTo path (concat pieces) (present (parts.0.maps ++ parts.2.1.appeared)) parts.2.1.left = record {
      aside = aside;
      temporary = temporary;
      held = held;
      is = does.2 ∙ ap (insert _ path) (same_bytes _ aside _ _ does.1 held);
    } in
    replaced path (concat pieces) before parts.0 _ _ parts.2.0 after plain first parts.2.1 moved rest
