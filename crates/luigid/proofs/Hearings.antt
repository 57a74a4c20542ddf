-- What a source gave over several calls of a reader.
use Rattle.std.proofs.Common.{◌≡◌, ℕ, ◌+◌, Bool, true, false, ◌||◌, List, [], ◌∷◌, ◌++◌, refl, sym, ◌∙◌, ap, append_assoc, Option, Some, None}
use Rattle.std.proofs.lemmas.List.{append-nil}
use Rattle.lg_http.specs.declared.message.Next.{Next}
use Rattle.lg_http.specs.declared.message.Next.TheVariants as Answer
use Rattle.lg_http.specs.Answers.{after_bytes, after_answer, quiets_after, Counts, Hears}
use Rattle.lg_io.specs.Source.{Received}
use Rattle.luigid.specs.Hearing.{ends_input, Heard, HearsOn, IsQuietFor, quiets_behind}

or_false : (b : Bool) → b || false ≡ b
or_false true = refl
or_false false = refl

or_true : (b : Bool) → b || true ≡ true
or_true true = refl
or_true false = refl

-- nothing was given yet
pub hears_nothing : (told : Option Received) → HearsOn told told Answer.Quiet []
hears_nothing None = refl
hears_nothing (Some r) = record { bytes = sym (append-nil r.bytes); ended = sym (or_false r.ended) }

bytes-after : (got : List ℕ) (r : Received) → (after_bytes got r).bytes ≡ r.bytes ++ got
bytes-after [] r = sym (append-nil r.bytes)
bytes-after (b ∷ got) r = refl

ended-after : (got : List ℕ) (r : Received) → (after_bytes got r).ended ≡ r.ended
ended-after [] r = refl
ended-after (b ∷ got) r = refl

-- what one call of a reader says of its source
heard_once : (answer : Next) (got : List ℕ) (r : Received) → Heard r (after_answer answer (after_bytes got r)) answer got
heard_once (Answer.Message message) got r = record { bytes = bytes-after got r; ended = ended-after got r ∙ sym (or_false r.ended) }
heard_once Answer.End got r = record { bytes = bytes-after got r; ended = sym (or_true r.ended) }
heard_once (Answer.Bad status) got r = record { bytes = bytes-after got r; ended = ended-after got r ∙ sym (or_false r.ended) }
heard_once Answer.Torn got r = record { bytes = bytes-after got r; ended = sym (or_true r.ended) }
heard_once Answer.Quiet got r = record { bytes = bytes-after got r; ended = ended-after got r ∙ sym (or_false r.ended) }
heard_once Answer.Idle got r = record { bytes = bytes-after got r; ended = ended-after got r ∙ sym (or_false r.ended) }
heard_once Answer.Failed got r = record { bytes = bytes-after got r; ended = ended-after got r ∙ sym (or_false r.ended) }
heard_once Answer.NoMemory got r = record { bytes = bytes-after got r; ended = ended-after got r ∙ sym (or_false r.ended) }

-- behind quiet answers one more call
heard_more : (answer : Next) (x y : List ℕ) (old middle new : Received) → Heard old middle Answer.Quiet x → Heard middle new answer y → Heard old new answer (x ++ y)
heard_more answer x y old middle new first second = record {
  bytes = second.bytes ∙ ap (λ front. front ++ y) first.bytes ∙ append_assoc old.bytes x y;
  ended = second.ended ∙ ap (λ ended. ended || ends_input answer) (first.ended ∙ or_false old.ended);
}

pub hears_more : (answer : Next) (x y : List ℕ) (old middle new : Option Received) → HearsOn old middle Answer.Quiet x → Hears middle answer y new → HearsOn old new answer (x ++ y)
hears_more answer x y None middle new first second = rw first at second
hears_more answer x y (Some old) None new first second = absurd first
hears_more answer x y (Some old) (Some r) None first second = absurd (cc)
hears_more answer x y (Some old) (Some r) (Some new) first second =
    let same : new ≡ after_answer answer (after_bytes y r) = cc in
    heard_more answer x y old r new first (rw same (heard_once answer y r))

quiets-after : (got : List ℕ) (r : Received) (quiets : ℕ) → r.quiets ≡ quiets → (after_bytes got r).quiets ≡ quiets_after got quiets
quiets-after [] r quiets is = is
quiets-after (b ∷ got) r quiets is = refl

counts_answer : (answer : Next) (r : Received) (quiets new : ℕ) → r.quiets ≡ quiets → Counts quiets answer new
    → (after_answer answer r).quiets ≡ quiets_behind answer new
counts_answer (Answer.Message message) r quiets new is counts = is ∙ sym counts
counts_answer Answer.End r quiets new is counts = is ∙ sym counts
counts_answer (Answer.Bad status) r quiets new is counts = is ∙ sym counts
counts_answer Answer.Torn r quiets new is counts = is ∙ sym counts
counts_answer Answer.Quiet r quiets new is counts = ap (λ n. n + 1) is ∙ sym counts.0
counts_answer Answer.Idle r quiets new is counts = ap (λ n. n + 1) is ∙ counts
counts_answer Answer.Failed r quiets new is counts = is ∙ sym counts
counts_answer Answer.NoMemory r quiets new is counts = is ∙ sym counts

-- what a reader counts is how often its source was quiet
pub counts_once : (answer : Next) (got : List ℕ) (told now : Option Received) (quiets new : ℕ) → IsQuietFor told quiets → Hears told answer got now
    → Counts (quiets_after got quiets) answer new → IsQuietFor now (quiets_behind answer new)
counts_once answer got None now quiets new quiet hears counts = rw hears tt
counts_once answer got (Some r) now quiets new quiet hears counts =
    rw hears (counts_answer answer (after_bytes got r) (quiets_after got quiets) new (quiets-after got r quiets quiet) counts)

-- a source that tells goes on telling
pub hears_some : (old : Received) (told new : Option Received) (answer : Next) (got : List ℕ) → told ≡ Some old → HearsOn told new answer got
    → (r : Received) × (new ≡ Some r) × Heard old r answer got
hears_some old None new answer got is hears = absurd (cc)
hears_some old (Some first) None answer got is hears = absurd hears
hears_some old (Some first) (Some r) answer got is hears =
    let same : first ≡ old = cc in
    (r, refl, rw same at hears)
