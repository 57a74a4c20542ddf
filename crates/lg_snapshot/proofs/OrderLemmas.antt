-- Lists that rise.
use Rattle.std.proofs.Common.{◌≡◌, ℕ, zero, suc, ◌+◌, ◌<◌, ◌≤◌, Bool, true, false, ◌&&◌, List, [], ◌∷◌, ◌-◌, length, take, drop, get_or, refl, sym, ap, ◌∙◌, arith, drop-cons}
use Rattle.std.specs.List.{list_all}
use Rattle.std.specs.Ordering.{nat_cmp}
use Rattle.std.specs.FinMap.{is_sorted}
use Rattle.std.specs.FinMap.Entries.{below_all}
use Rattle.std.specs.Cmp.Lexicographic.{slice_cmp}
use Rattle.lg_calls.specs.Order.{is_before, all_pairs}

pub both : (a b : Bool) → a ≡ true → b ≡ true → (a && b) ≡ true
both true b p q = q
both false b p q = p

pub first_of : (a b : Bool) → (a && b) ≡ true → a ≡ true
first_of true b p = refl
first_of false b p = p

pub second_of : (a b : Bool) → (a && b) ≡ true → b ≡ true
second_of true b p = p
second_of false b p = cc

-- what is left of a list begins with the element that is next
pub front : {X : Type 0} (xs : List X) (i : ℕ) (x : X) → i < length xs → x ≡ get_or xs i x → drop i xs ≡ x ∷ drop (i + 1) xs
front xs i x within at =
    let next : suc i ≡ i + 1 = omega arith in
    drop-cons xs i x within ∙ (ap (λ y. y ∷ drop (suc i) xs) (sym at) ∙ ap (λ n. x ∷ drop n xs) next)

all_taken : {X : Type 0} (xs : List X) (n : ℕ) → n ≡ length xs → take n xs ≡ xs
all_taken [] zero all = refl
all_taken [] (suc n) all = refl
all_taken (x ∷ xs) zero all = absurd (omega arith)
all_taken (x ∷ xs) (suc n) all = ap (λ ys. x ∷ ys) (all_taken xs n (omega arith))

-- a list is its first element and the others
pub whole : {X : Type 0} (xs : List X) (x : X) → 1 ≤ length xs → x ≡ get_or xs 0 x → x ∷ take (length xs - 1) (drop 1 xs) ≡ xs
whole [] x some at = absurd (omega arith)
whole (y ∷ ys) x some at = ap (λ z. z ∷ take (length (y ∷ ys) - 1) ys) at ∙ ap (λ zs. y ∷ zs) (all_taken ys (length (y ∷ ys) - 1) (omega arith))

-- nothing is left at the end
pub at_end : {X : Type 0} (xs : List X) (i : ℕ) → length xs ≤ i → drop i xs ≡ []
at_end [] zero over = refl
at_end [] (suc i) over = refl
at_end (x ∷ xs) zero over = absurd (omega arith)
at_end (x ∷ xs) (suc i) over = at_end xs i (omega arith)

module _ {X : Type 0} (R : X → X → Bool) (trans : (a b c : X) → R a b ≡ true → R b c ≡ true → R a c ≡ true) where
  all_behind : (a b : X) (rest : List X) → R a b ≡ true → list_all (R b) rest ≡ true → list_all (R a) rest ≡ true
  all_behind a b [] first others = refl
  all_behind a b (x ∷ rest) first others = both _ _ (trans a b x first (first_of _ _ others)) (all_behind a b rest first (second_of _ _ others))

  adjacent_by : (a b : X) (rest : List X) (p : Bool) → R a b ≡ true → all_pairs R (b ∷ rest) ≡ p → ((R a b && list_all (R a) rest) && p) ≡ p
  adjacent_by a b rest true first is = both _ _ (both _ _ first (all_behind a b rest first (first_of _ _ is))) refl
  adjacent_by a b rest false first is = none _
    where
      none : (q : Bool) → (q && false) ≡ false
      none true = refl
      none false = refl

  -- the first two are in order, and the others decide
  pub adjacent : (a b : X) (rest : List X) → R a b ≡ true → all_pairs R (a ∷ b ∷ rest) ≡ all_pairs R (b ∷ rest)
  adjacent a b rest first = adjacent_by a b rest (all_pairs R (b ∷ rest)) first refl

  -- the first two are not
  pub apart : (a b : X) (rest : List X) → R a b ≡ false → all_pairs R (a ∷ b ∷ rest) ≡ false
  apart a b rest is = ap (λ (p : Bool). (p && list_all (R a) rest) && all_pairs R (b ∷ rest)) is

  -- the next element may stand behind the last
  pub stepped : (items others : List X) (i : ℕ) (last x : X) → i < length others → x ≡ get_or others i x → R last x ≡ true
      → all_pairs R (last ∷ drop i others) ≡ all_pairs R items → all_pairs R (x ∷ drop (i + 1) others) ≡ all_pairs R items
  stepped items others i last x within at may so_far =
      sym (adjacent last x (drop (i + 1) others) may) ∙ (ap (λ xs. all_pairs R (last ∷ xs)) (sym (front others i x within at)) ∙ so_far)

  -- it may not
  pub fallen : (items others : List X) (i : ℕ) (last x : X) → i < length others → x ≡ get_or others i x → R last x ≡ false
      → all_pairs R (last ∷ drop i others) ≡ all_pairs R items → false ≡ all_pairs R items
  fallen items others i last x within at not so_far =
      sym (apart last x (drop (i + 1) others) not) ∙ (ap (λ xs. all_pairs R (last ∷ xs)) (sym (front others i x within at)) ∙ so_far)

  -- there is no further element
  pub risen : (items others : List X) (i : ℕ) (last : X) → length others ≤ i
      → all_pairs R (last ∷ drop i others) ≡ all_pairs R items → true ≡ all_pairs R items
  risen items others i last over so_far = ap (λ xs. all_pairs R (last ∷ xs)) (sym (at_end others i over)) ∙ so_far

-- one alone is in order
pub alone : {X : Type 0} (R : X → X → Bool) (a : X) → all_pairs R (a ∷ []) ≡ true
alone R a = refl

-- pairs by their names are in order exactly where a finite map has them so
pub pairs_rise : {X : Type 0} (pairs : List (List ℕ × X)) → all_pairs (λ (one other : List ℕ × X). is_before one.0 other.0) pairs ≡ is_sorted (slice_cmp nat_cmp) pairs
pairs_rise [] = refl
pairs_rise (p ∷ ps) = λ i. below p ps i && pairs_rise ps i
  where
    below : {X : Type 0} (p : List ℕ × X) (ps : List (List ℕ × X)) → list_all (λ (other : List ℕ × X). is_before p.0 other.0) ps ≡ below_all (slice_cmp nat_cmp) p.0 ps
    below p [] = refl
    below p (q ∷ qs) = ap (λ (b : Bool). is_before p.0 q.0 && b) (below p qs)
