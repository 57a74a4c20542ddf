-- Numbers of two and of four digits.
use Rattle.std.proofs.Common.{◌≡◌, ℕ, ◌+◌, ◌-◌, ◌*◌, ◌/◌, ◌%◌, ◌<◌, List, [], ◌∷◌, ◌++◌, length, get_or, drop, cond, Result, Ok, Err, is_ok, OnOk, arith, refl, ap, sym, ◌∙◌, subst}
use Rattle.std.proofs.lemmas.List.Prefix.{end_rest}
use Rattle.std.proofs.lemmas.List.{length-append, append_cancel_right}
use mathlib.Core.List.{append_assoc}
use Rattle.lg_params.specs.Places.{two_digits, four_digits}

pub length-two_digits : (n : ℕ) → length (two_digits n) ≡ 2
unfolding two_digits
length-two_digits n = refl

-- what two digits are at each place
pub two_digits_at : (bs : List ℕ) (n : ℕ) → bs ≡ two_digits n → (length bs ≡ 2) × (get_or bs 0 0 ≡ 48 + n / 10) × (get_or bs 1 0 ≡ 48 + n % 10)
unfolding two_digits
two_digits_at bs n e = rw e (refl, refl, refl)

pub two_digits_of : (bs : List ℕ) (tens ones : ℕ) → length bs ≡ 2 → get_or bs 0 0 ≡ 48 + tens → get_or bs 1 0 ≡ 48 + ones → tens < 10 → ones < 10 → bs ≡ two_digits (tens * 10 + ones)
unfolding two_digits
two_digits_of [] tens ones two first second small less = absurd (omega arith)
two_digits_of (a ∷ []) tens ones two first second small less = absurd (omega arith)
two_digits_of (a ∷ b ∷ []) tens ones two first second small less =
    let left : a ≡ 48 + (tens * 10 + ones) / 10 = omega arith in
    let right : b ≡ 48 + (tens * 10 + ones) % 10 = omega arith in
    rw (left, right)
two_digits_of (a ∷ b ∷ c ∷ bs) tens ones two first second small less = absurd (omega arith)

-- what two digits at the end are, and that a text with them has two bytes at least
pub two_at_end : (bs front : List ℕ) (n : ℕ) → bs ≡ front ++ two_digits n → (length bs ≡ length front + 2) × (drop (length bs - 2) bs ≡ two_digits n)
two_at_end bs front n e = (
  ap length e ∙ length-append front (two_digits n) ∙ ap (λ k. length front + k) (length-two_digits n),
  subst (λ (k : ℕ). drop (length bs - k) bs ≡ two_digits n) (length-two_digits n) (end_rest bs (two_digits n) front e),
)

-- two bytes behind a text, the second where it could be written
pub pushed_two : {E : Type 0} (r : Result (Unit {0}) E) (old between after first second : List ℕ) (a b : ℕ) → between ≡ old ++ first → after ≡ cond (is_ok r) (between ++ second) between → first ≡ a ∷ [] → second ≡ b ∷ [] → OnOk r (after ≡ old ++ a ∷ b ∷ [])
pushed_two (Ok u) old between after first second a b one two byte other = let whole = append_assoc old (a ∷ []) (b ∷ []) in cc
pushed_two (Err e) old between after first second a b one two byte other = tt

-- two texts that are the same, with ends of one length
pub ends_same : (xs us ys vs : List ℕ) → xs ++ ys ≡ us ++ vs → length ys ≡ length vs → (xs ≡ us) × (ys ≡ vs)
ends_same xs us ys vs e same =
    let left = end_rest (xs ++ ys) ys xs refl in
    let right = end_rest (xs ++ ys) vs us e in
    let ends : ys ≡ vs = sym left ∙ (ap (λ (k : ℕ). drop (length (xs ++ ys) - k) (xs ++ ys)) same ∙ right) in
    (append_cancel_right xs us vs (ap (λ (t : List ℕ). xs ++ t) (sym ends) ∙ e), ends)

pub two_digits_same : (m n : ℕ) → m < 100 → n < 100 → two_digits m ≡ two_digits n → m ≡ n
unfolding two_digits
two_digits_same m n small less e =
    let tens : 48 + m / 10 ≡ 48 + n / 10 = ap (λ (t : List ℕ). get_or t 0 0) e in
    let ones : 48 + m % 10 ≡ 48 + n % 10 = ap (λ (t : List ℕ). get_or t 1 0) e in
    omega arith

-- two digits at the end, and what stands in front of them
pub two_at_end_same : (front other : List ℕ) (m n : ℕ) → m < 100 → n < 100 → front ++ two_digits m ≡ other ++ two_digits n → (front ≡ other) × (m ≡ n)
two_at_end_same front other m n small less e =
    let same = ends_same front other (two_digits m) (two_digits n) e (length-two_digits m ∙ sym (length-two_digits n)) in
    (same.0, two_digits_same m n small less same.1)

pub marked_front : (front : List ℕ) (mark : ℕ) (end : List ℕ) → front ++ mark ∷ end ≡ (front ++ mark ∷ []) ++ end
marked_front front mark end = sym (append_assoc front (mark ∷ []) end)

-- the same behind a mark
pub marked_at_end_same : (front other : List ℕ) (mark m n : ℕ) → m < 100 → n < 100 → front ++ mark ∷ two_digits m ≡ other ++ mark ∷ two_digits n → (front ≡ other) × (m ≡ n)
marked_at_end_same front other mark m n small less e =
    let whole : (front ++ mark ∷ []) ++ two_digits m ≡ (other ++ mark ∷ []) ++ two_digits n = sym (marked_front front mark (two_digits m)) ∙ (e ∙ marked_front other mark (two_digits n)) in
    let same = two_at_end_same (front ++ mark ∷ []) (other ++ mark ∷ []) m n small less whole in
    (append_cancel_right front other (mark ∷ []) same.0, same.1)

pub four_digits_same : (m n : ℕ) → m < 10000 → n < 10000 → four_digits m ≡ four_digits n → m ≡ n
four_digits_same m n small less e =
    let same = two_at_end_same (two_digits (m / 100)) (two_digits (n / 100)) (m % 100) (n % 100) (omega arith) (omega arith) e in
    let hundreds = two_digits_same (m / 100) (n / 100) (omega arith) (omega arith) same.0 in
    omega (arith, same.1)
