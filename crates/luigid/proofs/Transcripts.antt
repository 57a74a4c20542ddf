-- What a connection's end says of the transcript.
use Rattle.std.proofs.Common.{◌≡◌, ℕ, List, [], ◌++◌, sym, ◌∙◌, ap, append_assoc, arith, inl, inr}
use Rattle.std.proofs.lemmas.List.{append-nil}
use Rattle.std.specs.Prelude.{◌⊎◌}
use Rattle.std.specs.List.{concat}
use Rattle.lg_io.specs.Link.{EndedLink}
use Rattle.lg_io.specs.Sink.{IsPrefix}
use Rattle.luigid.specs.Session.{Session, LinkEnd, closed, at_end, idle, unread, unwritten, without_memory, bad, HasEnd, IsWhole, IsCutShort, responses, transcript}
use Rattle.luigid.proofs.Responses.{concat-push}

-- all of a text is a front of it
all_of : (written text : List ℕ) → written ≡ text → IsPrefix written text
all_of written text is = ([], sym is ∙ sym (append-nil written))

-- the front of a text that was cut short
cut_front : (rs : List (List ℕ)) (link : EndedLink) → IsCutShort rs link → IsPrefix link.written (concat rs)
cut_front rs link cut = (
  cut.is_part.0,
  ap concat cut.are ∙ concat-push cut.front cut.last ∙ ap (λ last. concat cut.front ++ last) cut.is_part.1
      ∙ sym (append_assoc (concat cut.front) cut.part cut.is_part.0) ∙ ap (λ front. front ++ cut.is_part.0) (sym cut.written),
)

either_front : (rs : List (List ℕ)) (link : EndedLink) → IsWhole rs link ⊎ IsCutShort rs link → IsPrefix link.written (concat rs)
either_front rs link (inl whole) = all_of _ _ whole.written
either_front rs link (inr cut) = cut_front rs link cut

pub front_written : (end : LinkEnd) (s : Session) → HasEnd end s → IsPrefix s.link.written (transcript s)
front_written closed s has_end = all_of _ _ has_end.1.written
front_written at_end s has_end = all_of _ _ has_end.2.written
front_written idle s has_end = all_of _ _ has_end.2.written
front_written unread s has_end = all_of _ _ has_end.2.written
front_written unwritten s has_end = cut_front (responses s) s.link has_end.1
front_written without_memory s has_end = all_of _ _ has_end.2.written
front_written (bad status) s has_end = either_front (responses s) s.link has_end.2

either_whole : (rs : List (List ℕ)) (link : EndedLink) → IsWhole rs link ⊎ IsCutShort rs link → link.faults ≡ 0 → link.written ≡ concat rs
either_whole rs link (inl whole) fine = whole.written
either_whole rs link (inr cut) fine = absurd (omega (arith, cut.failed))

pub whole_written : (end : LinkEnd) (s : Session) → HasEnd end s → s.link.faults ≡ 0 → s.link.written ≡ transcript s
whole_written closed s has_end fine = has_end.1.written
whole_written at_end s has_end fine = has_end.2.written
whole_written idle s has_end fine = has_end.2.written
whole_written unread s has_end fine = has_end.2.written
whole_written unwritten s has_end fine = absurd (omega (arith, has_end.1.failed))
whole_written without_memory s has_end fine = has_end.2.written
whole_written (bad status) s has_end fine = either_whole (responses s) s.link has_end.2 fine
