-- What the bytes between two places are after a read, a skip or a move to the front.
use Rattle.std.proofs.Common.{◌≡◌, ℕ, ◌+◌, ◌-◌, ◌<◌, ◌≤◌, List, [], ◌++◌, min, length, take, drop, slice_range, refl, sym, ◌∙◌, ap, append-nil, length-take, arith, Option}
use Rattle.std.specs.Prelude.{option_map}
use Rattle.std.proofs.Math.Seq.{take-add}
use Rattle.std.proofs.lemmas.List.{take-append-le, drop-append-le, drop-drop, drop-take, take-take, take_at, drop_at}
use Rattle.std.proofs.lemmas.Grind.{common_steps}
use Rattle.lg_io.specs.declared.source.ReadStep.{ReadStep}
use Rattle.lg_io.specs.declared.source.ReadStep.TheVariants.{Bytes, End, Quiet, Failed}
use Rattle.lg_io.specs.Source.{Received, received_after, FitsBuffer}
use Rattle.lg_http.specs.Given.{IsGiven}

-- fewer bytes in front
pub skipped : (xs : List ℕ) (start end count : ℕ) → count ≤ end - start
    → slice_range xs (start + count) end ≡ drop count (slice_range xs start end)
skipped xs start end count fits =
    let rest = end - (start + count) in
    let all : end - start ≡ count + rest = omega arith in
    sym (ap (λ n. drop count (take n (drop start xs))) all ∙ drop-take count rest (drop start xs)
    ∙ ap (take rest) (drop-drop count start xs))

-- more bytes behind
pub grown : (old new got : List ℕ) (start end : ℕ) → start ≤ end → end ≤ length old
    → take (end + length got) new ≡ take end old ++ got
    → slice_range new start (end + length got) ≡ slice_range old start end ++ got
grown old new got start end ordered fits same =
    let more = end + length got - start in
    let all : start + more ≡ end + length got = omega arith in
    let before : start + (end - start) ≡ end = omega arith in
    let inside : start ≤ length (take end old) = omega (arith, length-take end old) in
    sym (drop-take start more new) ∙ ap (λ n. drop start (take n new)) all ∙ ap (drop start) same
    ∙ drop-append-le start (take end old) got inside
    ∙ ap (λ t. t ++ got) (sym (ap (λ n. drop start (take n old)) before) ∙ drop-take start (end - start) old)

-- a front of what was written behind a front
put_taken : (front ys post : List ℕ) (at count : ℕ) → length front ≡ at → count ≤ length ys
    → take (at + count) (front ++ (ys ++ post)) ≡ front ++ take count ys
put_taken front ys post at count is fits =
    take-add at count (front ++ (ys ++ post))
    ∙ ap (λ t. t ++ take count (drop at (front ++ (ys ++ post)))) (take_at front (ys ++ post) at is)
    ∙ ap (λ t. front ++ take count t) (drop_at front (ys ++ post) at is)
    ∙ ap (λ t. front ++ t) (take-append-le count ys post fits)

nothing : (at : ℕ) (xs ys post : List ℕ) → at ≤ length xs
    → take (at + length {A = ℕ} []) (take at xs ++ (ys ++ post)) ≡ take at xs ++ []
nothing at xs ys post fits =
    let none : at + 0 ≡ at = omega arith in
    ap (λ n. take n (take at xs ++ (ys ++ post))) none
    ∙ take_at (take at xs) (ys ++ post) at (omega (arith, length-take at xs)) ∙ sym (append-nil (take at xs))

pub record Fills (step : ReadStep) (at : ℕ) (xs all got : List ℕ) (old new : Option Received) : Type 0 where
  pub given : IsGiven step got
  pub inside : at + length got ≤ length xs
  pub bytes : take (at + length got) all ≡ take at xs ++ got
  pub told : new ≡ option_map (received_after step got) old

-- a read behind the first bytes
pub filled : (step : ReadStep) (at : ℕ) (xs ys post : List ℕ) (old new : Option Received)
    → FitsBuffer step (length ys) → 0 < length ys → at + length ys ≡ length xs
    → new ≡ option_map (received_after step ys) old
    → (got : List ℕ) × Fills step at xs (take at xs ++ (ys ++ post)) got old new
filled (Bytes count) at xs ys post old new fits some all told =
    let len : length (take count ys) ≡ count = omega (arith, length-take count ys, fits.0) in (
      take count ys,
      record {
        given = (len, fits.1 some);
        inside = omega (arith, fits.0, len);
        bytes = ap (λ n. take (at + n) (take at xs ++ (ys ++ post))) len
            ∙ put_taken (take at xs) ys post at count (omega (arith, length-take at xs)) fits.0;
        told = told ∙ ap (λ bytes. option_map (gives bytes) old) (sym (take-take count count ys (omega arith)));
      },
    )
  where
    gives : List ℕ → Received → Received
    gives bytes r = record { bytes = r.bytes ++ bytes; ended = r.ended; quiets = 0 }
filled End at xs ys post old new fits some all told = ([], record { given = refl; inside = omega arith; bytes = nothing at xs ys post (omega arith); told = told })
filled Quiet at xs ys post old new fits some all told = ([], record { given = refl; inside = omega arith; bytes = nothing at xs ys post (omega arith); told = told })
filled Failed at xs ys post old new fits some all told = ([], record { given = refl; inside = omega arith; bytes = nothing at xs ys post (omega arith); told = told })

-- what was read is nothing where the answer is no count
pub nothing_given : (step : ReadStep) (got : List ℕ) → ((count : ℕ) → step ≡ Bytes count → ⊥) → IsGiven step got → got ≡ []
nothing_given (Bytes count) got other given = absurd (other count refl)
nothing_given End got other given = given
nothing_given Quiet got other given = given
nothing_given Failed got other given = given

-- what stands between two places after a read
pub filled_between : (before after got : List ℕ) (start end to : ℕ) → start ≤ end → end ≤ length before
    → to ≡ end + length got → take (end + length got) after ≡ take end before ++ got
    → slice_range after start to ≡ slice_range before start end ++ got
filled_between before after got start end to ordered fits is same =
    ap (slice_range after start) is ∙ grown before after got start end ordered fits same

-- so many bytes, or all where there are fewer
take_min : (bytes : List ℕ) (filled size : ℕ) → filled ≡ min (length bytes) size → take filled bytes ≡ take size bytes
take_min bytes filled size is = grind (arith, common_steps)

pub taken_min : (room bytes : List ℕ) (filled size : ℕ) → filled ≡ min (length bytes) size
    → take (length (take filled bytes)) room ≡ take filled bytes → take filled room ≡ take size bytes
taken_min room bytes filled size is same =
    let all : length (take filled bytes) ≡ filled = omega (arith, length-take filled bytes) in
    ap (λ n. take n room) (sym all) ∙ same ∙ take_min bytes filled size is
