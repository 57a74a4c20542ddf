-- The responses of a connection, and a last one that was written whole or cut short.
use Rattle.std.proofs.Common.{◌≡◌, ℕ, zero, suc, ◌+◌, ◌<◌, Bool, true, false, List, [], ◌∷◌, ◌++◌, map, refl, sym, ◌∙◌, ap, arith, Option, Some, None}
use Rattle.std.proofs.lemmas.List.{append-nil, map-append}
use Rattle.std.proofs.lemmas.List.Folds.{concat-append}
use Rattle.std.specs.Prelude.{Result, Ok, Err, IsErr, is_err}
use Rattle.std.specs.List.{concat}
use Rattle.lg_io.specs.Link.{EndedLink}
use Rattle.lg_io.specs.Cause.{HasCause}
use Rattle.lg_io.specs.Sink.{WritesAll}
use Rattle.luigid.specs.Session.{Handled, ends_connection, IsWhole, IsCutShort}
use Rattle.luigid.specs.Transcript.{response_of}

-- the responses to what was handled
abbrev pub spoken : List Handled → List (List ℕ)
spoken handled = map (λ (h : Handled). response_of h.answer (ends_connection h)) handled

-- a call that didn't fail leaves the count of faults at 0
pub still_fine : (before after : ℕ) (failed : Type 0) → HasCause before after failed → (failed → ⊥) → before ≡ 0 → after ≡ 0
still_fine before zero failed cause calm none = refl
still_fine before (suc n) failed cause calm none =
    let rose : before < suc n = omega arith in
    absurd (calm (cause.rises.1 rose))

-- one more text behind others
pub concat-push : (front : List (List ℕ)) (last : List ℕ) → concat (front ++ last ∷ []) ≡ concat front ++ last
concat-push front last = concat-append front (last ∷ []) ∙ ap (λ text. concat front ++ text) (append-nil last)

-- all of them were written, or the last was cut short
abbrev pub Written : {T E : Type 0} → Result T E → List (List ℕ) → EndedLink → Type 0
Written (Ok x) responses link = IsWhole responses link
Written (Err e) responses link = IsCutShort responses link

pub whole_of : {T E : Type 0} (result : Result T E) (responses : List (List ℕ)) (link : EndedLink) → is_err result ≡ false → Written result responses link → IsWhole responses link
whole_of (Ok x) responses link fine written = written
whole_of (Err e) responses link fine written = absurd (cc)

pub cut_of : {T E : Type 0} (result : Result T E) (responses : List (List ℕ)) (link : EndedLink) → is_err result ≡ true → Written result responses link → IsCutShort responses link
cut_of (Ok x) responses link failed written = absurd (cc)
cut_of (Err e) responses link failed written = written

-- what a write of one more response did to a link that tells
pub record Wrote {T E : Type 0} (front : List (List ℕ)) (text : List ℕ) (result : Result T E) (new : Option (List ℕ)) (received : List ℕ) (ended : Bool) (faults quiets : ℕ) : Type 0 where
  pub written : List ℕ
  pub took : new ≡ Some written
  pub outcome : Written result (front ++ text ∷ []) (record { received = received; written = written; ended = ended; faults = faults; quiets = quiets })

pub wrote : {T E : Type 0} (old new : Option (List ℕ)) (front : List (List ℕ)) (text : List ℕ) (result : Result T E) (received : List ℕ) (ended : Bool) (reads before after quiets : ℕ)
    → old ≡ Some (concat front) → WritesAll old new text result → HasCause before after (IsErr result) → before ≡ 0 → reads ≡ 0
    → Wrote front text result new received ended (reads + after) quiets
wrote None new front text result received ended reads before after quiets told writes cause none still = absurd (cc)
wrote (Some bytes) new front text (Ok x) received ended reads before after quiets told writes cause none still =
    let same : bytes ≡ concat front = cc in
    let fine : after ≡ 0 = still_fine before after _ cause (λ err. absurd (cc)) none in
    record {
      written = bytes ++ text;
      took = writes;
      outcome = record { written = ap (λ b. b ++ text) same ∙ sym (concat-push front text); fine = omega arith };
    }
wrote (Some bytes) new front text (Err e) received ended reads before after quiets told writes cause none still =
    let same : bytes ≡ concat front = cc in
    let rose : before < after = cause.rises.0 refl in
    record {
      written = bytes ++ writes.0;
      took = writes.2;
      outcome = record {
        front = front;
        last = text;
        part = writes.0;
        are = refl;
        is_part = writes.1;
        written = ap (λ b. b ++ writes.0) same;
        failed = omega arith;
      };
    }

-- the responses with one more
pub spoken-push : (handled : List Handled) (h : Handled) → spoken (handled ++ h ∷ []) ≡ spoken handled ++ response_of h.answer (ends_connection h) ∷ []
spoken-push handled h = map-append (λ (h : Handled). response_of h.answer (ends_connection h)) handled (h ∷ [])
