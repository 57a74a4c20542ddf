-- What a source tells over the reads of one call, and what an answer says of all that was seen.
use Rattle.std.proofs.Common.{◌≡◌, ◌⊎◌, inl, inr, ℕ, List, [], ◌∷◌, ◌++◌, length, ◌<◌, take, refl, sym, ◌∙◌, ap, append_assoc, append-nil, subst, arith, Option, Some, None}
use Rattle.std.specs.Prelude.{option_map}
use Rattle.std.proofs.lemmas.Grind.{common_steps}
use Rattle.lg_io.specs.declared.source.ReadStep.{ReadStep}
use Rattle.lg_io.specs.declared.source.ReadStep.TheVariants.{Bytes}
use Rattle.lg_io.specs.Source.{Received, received_after}
use Rattle.lg_http.specs.declared.incoming.Incoming.{Incoming}
use Rattle.lg_http.specs.declared.message.Next.{Next}
use Rattle.lg_http.specs.declared.message.Next.TheVariants as Answer
use Rattle.lg_http.proofs.WindowLemmas.{nothing_given}
use Rattle.lg_http.specs.Answers.{after_bytes, after_answer, quiets_after, Counts, Hears, Reads}
use Rattle.lg_http.specs.Given.{IsGiven}
use Rattle.lg_http.specs.Incoming.{bytes_of, Finds}
use Rattle.lg_http.specs.Messages.{IsBad, IsUndecided, WantsMemory}

-- nothing was read yet
pub heard_nothing : (told : Option Received) → told ≡ option_map (after_bytes []) told
heard_nothing None = refl
heard_nothing (Some r) = refl

-- one answer more, behind the reads that gave bytes
pub heard_then : (next : Received → Received) (told mid now : Option Received) (before : List ℕ)
    → mid ≡ option_map (after_bytes before) told → now ≡ option_map next mid
    → now ≡ option_map (λ r. next (after_bytes before r)) told
heard_then next told mid now before first second = second ∙ ap (option_map next) first ∙ twice told
  where
    twice : (o : Option Received) → option_map next (option_map (after_bytes before) o) ≡ option_map (λ r. next (after_bytes before r)) o
    twice None = refl
    twice (Some r) = refl

with_bytes : Received → List ℕ → Received
with_bytes r bytes = record { bytes = bytes; ended = r.ended; quiets = 0 }

take_all : (count : ℕ) (got : List ℕ) → length got ≡ count → take count got ≡ got
take_all count got is = grind (arith, common_steps)

after_more : (before : List ℕ) (b : ℕ) (bytes : List ℕ) (r : Received)
    → after_bytes (b ∷ bytes) (after_bytes before r) ≡ after_bytes (before ++ b ∷ bytes) r
unfolding with_bytes
after_more [] b bytes r = refl
after_more (x ∷ before) b bytes r = ap (with_bytes r) (append_assoc r.bytes (x ∷ before) (b ∷ bytes))

after_read : (count b : ℕ) (bytes : List ℕ) (r : Received) → length (b ∷ bytes) ≡ count
    → received_after (Bytes count) (b ∷ bytes) r ≡ after_bytes (b ∷ bytes) r
unfolding with_bytes
after_read count b bytes r is = ap (λ got. with_bytes r (r.bytes ++ got)) (take_all count (b ∷ bytes) is)

-- the bytes of one read
pub read_bytes : (count : ℕ) (got : List ℕ) (told now : Option Received) → IsGiven (Bytes count) got
    → now ≡ option_map (received_after (Bytes count) got) told → now ≡ option_map (after_bytes got) told
read_bytes count [] told now (len, some) is = absurd (omega (arith, len, some))
read_bytes count (b ∷ bytes) None now (len, some) is = is
read_bytes count (b ∷ bytes) (Some r) now (len, some) is = is ∙ ap Some (after_read count b bytes r len)

after_join : (before got : List ℕ) (r : Received) → after_bytes got (after_bytes before r) ≡ after_bytes (before ++ got) r
after_join before [] r = ap (λ bytes. after_bytes bytes r) (sym (append-nil before))
after_join before (b ∷ got) r = after_more before b got r

-- more bytes behind those that came before
pub heard_more : (told mid now : Option Received) (before got : List ℕ)
    → mid ≡ option_map (after_bytes before) told → now ≡ option_map (after_bytes got) mid
    → now ≡ option_map (after_bytes (before ++ got)) told
heard_more told mid now before got first second = heard_then (after_bytes got) told mid now before first second ∙ each told
  where
    each : (o : Option Received) → option_map (λ r. after_bytes got (after_bytes before r)) o ≡ option_map (after_bytes (before ++ got)) o
    each None = refl
    each (Some r) = ap Some (after_join before got r)

-- a byte ends a row of quiet answers
pub quiets_more : (before got : List ℕ) (quiets : ℕ) → 0 < length got → quiets_after (before ++ got) quiets ≡ 0
quiets_more [] [] quiets some = absurd (omega (arith, some))
quiets_more [] (b ∷ got) quiets some = refl
quiets_more (b ∷ before) got quiets some = refl

-- what was found in the bytes at hand is said of all that was seen
pub found_reads : (old new : Incoming) (answer : Next) (told now : Option Received) (before got : List ℕ) (quiets : ℕ)
    → Finds old (Some answer) new → now ≡ option_map (after_bytes got) told → bytes_of old ≡ before ++ got → new.quiets ≡ quiets
    → Hears told answer got now × Reads (before ++ got) answer (bytes_of new) × Counts quiets answer new.quiets
found_reads old new (Answer.Message message) told now before got quiets (whole, is, shows, split) heard same counted =
    (heard, (whole, is, shows, sym same ∙ split), counted)
found_reads old new Answer.End told now before got quiets found heard same counted = absurd found
found_reads old new (Answer.Bad status) told now before got quiets (left, bad) heard same counted =
    (heard, (left ∙ same, subst (IsBad status) same bad), counted)
found_reads old new Answer.Torn told now before got quiets found heard same counted = absurd found
found_reads old new Answer.Quiet told now before got quiets found heard same counted = absurd found
found_reads old new Answer.Idle told now before got quiets found heard same counted = absurd found
found_reads old new Answer.Failed told now before got quiets found heard same counted = absurd found
found_reads old new Answer.NoMemory told now before got quiets (left, wants) heard same counted =
    (heard, (left ∙ same, subst WantsMemory same wants), counted)

-- what a read answered is said of all that was seen
pub read_reads : (answer : Next) (told mid now : Option Received) (got bytes seen left : List ℕ) (count quiets new : ℕ)
    → mid ≡ option_map (after_bytes got) told → bytes ≡ seen → count ≡ quiets
    → Hears mid answer [] now × Reads bytes answer left × Counts count answer new
    → Hears told answer got now × Reads seen answer left × Counts quiets answer new
read_reads answer told mid now got bytes seen left count quiets new heard same counted (hears, reads, counts) = (
  heard_then (after_answer answer) told mid now got heard hears,
  subst (λ (b : List ℕ). Reads b answer left) same reads,
  subst (λ (n : ℕ). Counts n answer new) counted counts,
)

-- a read that gave nothing
pub nothing_read : (step : ReadStep) (got bytes left : List ℕ) → IsGiven step got → left ≡ bytes ++ got
    → ((count : ℕ) → step ≡ Bytes count → ⊥) → left ≡ bytes
nothing_read step got bytes left given grows other =
    grows ∙ ap (λ more. bytes ++ more) (nothing_given step got other given) ∙ append-nil bytes

-- the first bytes were undecided, if those at a later read were
pub asked_first : {Same : Type 0} (first now : List ℕ) → IsUndecided now → IsUndecided first ⊎ (Same × (now ≡ first)) → IsUndecided first
asked_first first now undecided (inl asked) = asked
asked_first first now undecided (inr (same, is)) = subst IsUndecided is undecided
