-- A summary, one pair after another.
use Rattle.std.proofs.Common.{◌≡◌, ℕ, ◌+◌, ◌<◌, List, [], ◌∷◌, ◌++◌, flat_map, map, take, get_or, length, sym, ap, ◌∙◌, append_assoc, add-one, arith}
use Rattle.std.proofs.Math.Seq.{take-suc}
use Rattle.std.proofs.lemmas.List.{map-append, append-nil, length-take-le}
use Rattle.std.proofs.lemmas.List.Concat.{flat_map-append}
use Rattle.std.proofs.lemmas.Str.{encodes-IsAscii}
use Rattle.std.proofs.lemmas.Str.Ascii.{IsAscii-nil, IsAscii-cons}
use Rattle.std.proofs.lemmas.Bool.Decides.{nat_tests}
use Rattle.std.specs.Prelude.{encode_utf8_all}
use Rattle.std.specs.List.{join_by}
use Rattle.std.specs.Str.{IsAscii}
use Rattle.lg_taskid.specs.TaskId.{safe_character, beginning_of}

-- what is shown of one pair
abbrev pub one_shown : List ℕ × List ℕ → List ℕ
one_shown pair = beginning_of pair.1

-- what is shown of these pairs
abbrev pub all_shown : List (List ℕ × List ℕ) → List ℕ
all_shown pairs = map safe_character (join_by one_shown (95 ∷ []) pairs)

ascii-safe_character : (c : ℕ) → safe_character c < 128
ascii-safe_character c = grind (arith, nat_tests)

ascii-safe : (cs : List ℕ) → IsAscii (map safe_character cs)
ascii-safe [] = IsAscii-nil
ascii-safe (c ∷ cs) = IsAscii-cons (safe_character c) (map safe_character cs) (ascii-safe_character c) (ascii-safe cs)

-- safe characters are one byte each
pub encodes-safe : (cs : List ℕ) → encode_utf8_all (map safe_character cs) ≡ map safe_character cs
encodes-safe cs = encodes-IsAscii (map safe_character cs) (ascii-safe cs)

join_by-push : {X A : Type 0} (f : X → List A) (separator : List A) (xs : List X) (x : X) → 0 < length xs → join_by f separator (xs ++ x ∷ []) ≡ join_by f separator xs ++ (separator ++ f x)
join_by-push f separator [] x some = absurd (omega arith)
join_by-push f separator (y ∷ ys) x some =
    ap (λ zs. f y ++ zs) (flat_map-append (λ z. separator ++ f z) ys (x ∷ []) ∙ ap (λ zs. flat_map (λ z. separator ++ f z) ys ++ zs) (append-nil (separator ++ f x)))
    ∙ sym (append_assoc (f y) (flat_map (λ z. separator ++ f z) ys) (separator ++ f x))

take-one-more : (pairs : List (List ℕ × List ℕ)) (i : ℕ) (pair : List ℕ × List ℕ) → i < length pairs → pair ≡ get_or pairs i pair → take (i + 1) pairs ≡ take i pairs ++ pair ∷ []
take-one-more pairs i pair within is = rw (add-one i) (take-suc pairs i pair within ∙ ap (λ p. take i pairs ++ p ∷ []) (sym is))

-- the first pair stands alone
pub all_shown-first : (pairs : List (List ℕ × List ℕ)) (i : ℕ) (pair : List ℕ × List ℕ) → i < length pairs → pair ≡ get_or pairs i pair → i ≡ 0
    → all_shown (take (i + 1) pairs) ≡ all_shown (take i pairs) ++ map safe_character (one_shown pair)
all_shown-first pairs i pair within is first = rw (take-one-more pairs i pair within is, first) (ap (map safe_character) (append-nil (one_shown pair)))

-- each later one stands behind a `_`
pub all_shown-later : (pairs : List (List ℕ × List ℕ)) (i : ℕ) (pair : List ℕ × List ℕ) → i < length pairs → pair ≡ get_or pairs i pair → 0 < i
    → all_shown (take (i + 1) pairs) ≡ all_shown (take i pairs) ++ (95 ∷ map safe_character (one_shown pair))
all_shown-later pairs i pair within is later =
    ap all_shown (take-one-more pairs i pair within is)
    ∙ ap (map safe_character) (join_by-push one_shown (95 ∷ []) (take i pairs) pair (omega (arith, length-take-le i pairs (omega arith))))
    ∙ map-append safe_character (join_by one_shown (95 ∷ []) (take i pairs)) (95 ∷ one_shown pair)

-- one pair more, where nothing stands between
pub step-first : (start was now : List ℕ) (pairs : List (List ℕ × List ℕ)) (i : ℕ) (pair : List ℕ × List ℕ) → i < length pairs → pair ≡ get_or pairs i pair → i ≡ 0
    → was ≡ start ++ all_shown (take i pairs) → now ≡ was ++ map safe_character (one_shown pair) → now ≡ start ++ all_shown (take (i + 1) pairs)
step-first start was now pairs i pair within is first before after =
    after ∙ ap (λ ys. ys ++ map safe_character (one_shown pair)) before
    ∙ append_assoc start (all_shown (take i pairs)) (map safe_character (one_shown pair))
    ∙ ap (λ ys. start ++ ys) (sym (all_shown-first pairs i pair within is first))

-- one pair more behind a `_`
pub step-later : (start was between now : List ℕ) (pairs : List (List ℕ × List ℕ)) (i : ℕ) (pair : List ℕ × List ℕ) → i < length pairs → pair ≡ get_or pairs i pair → 0 < i
    → was ≡ start ++ all_shown (take i pairs) → between ≡ was ++ 95 ∷ [] → now ≡ between ++ map safe_character (one_shown pair) → now ≡ start ++ all_shown (take (i + 1) pairs)
step-later start was between now pairs i pair within is later before marked after =
    after ∙ ap (λ ys. ys ++ map safe_character (one_shown pair)) (marked ∙ ap (λ ys. ys ++ 95 ∷ []) before)
    ∙ append_assoc (start ++ all_shown (take i pairs)) (95 ∷ []) (map safe_character (one_shown pair))
    ∙ append_assoc start (all_shown (take i pairs)) (95 ∷ map safe_character (one_shown pair))
    ∙ ap (λ ys. start ++ ys) (sym (all_shown-later pairs i pair within is later))
