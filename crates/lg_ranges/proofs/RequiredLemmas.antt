-- The list of what is required, and what it is made of.
use Rattle.std.proofs.Common.{◌≡◌, ◌⊎◌, ◌∙◌, ℕ, ◌+◌, ◌-◌, ◌<◌, ◌≤◌, zero, suc, ℤ, pos, ◌+ℤ◌, ◌<ℤ◌, Bool, true, false, Some, Result, Ok, Err, IfOk, List, [], ◌∷◌, ◌++◌, length, get_or, slice_get, map, filter, take, drop, reverse, refl, sym, ap, subst, append_assoc, drop-cons, arith, ⊎_elim, inl, inr}
use Rattle.std.specs.List.{All, AllPairs, Contains, enumerate_from}
use Rattle.std.proofs.lemmas.Bool.{cases_lt}
use Rattle.std.proofs.lemmas.Int.{ints, by_lt_z}
use Rattle.std.proofs.lemmas.List.{append-nil, drop_all, get_or-take, get_or-reverse, get_or_default, length-take, length-reverse, take-append-drop, reverse-append, reverse-reverse}
use Rattle.std.proofs.lemmas.List.Elements.{All-cons, All-nil, All-take}
use Rattle.std.proofs.lemmas.List.Kept.{AllPairs-cons}
use Rattle.std.proofs.lemmas.Option.{slice_get_within}
use Rattle.lg_ranges.specs.declared.ask.Ask.{Ask}
use Rattle.lg_ranges.specs.Points.{IsPoint}
use Rattle.lg_ranges.specs.Required.{AreFrom, AreRequired, ComesBefore, IsEndOf, IsMissing, LeavesNoneOut, in_order, missing_points}
use Rattle.lg_ranges.proofs.RangeLemmas.{same_ends}

-- the missing ones of the numbers from `first` on, where the values from place i on are left
abbrev pub due : ℤ → ℕ → List Bool → List ℤ
due first i missing = map (λ (p : ℕ × Bool). first +ℤ pos p.0) (filter (λ (p : ℕ × Bool). p.1) (enumerate_from i missing))

due_true : (first : ℤ) (i : ℕ) (missing : List Bool) (d : Bool) → i < length missing → get_or missing i d ≡ true → due first i (drop i missing) ≡ (first +ℤ pos i) ∷ due first (i + 1) (drop (i + 1) missing)
due_true first i missing d below is =
    let next : suc i ≡ i + 1 = omega arith in
    let here : drop i missing ≡ true ∷ drop (i + 1) missing =
    drop-cons missing i d below ∙ (ap (λ (b : Bool). b ∷ drop (suc i) missing) is ∙ ap (λ (n : ℕ). true ∷ drop n missing) next) in
    ap (due first i) here

due_false : (first : ℤ) (i : ℕ) (missing : List Bool) (d : Bool) → i < length missing → get_or missing i d ≡ false → due first i (drop i missing) ≡ due first (i + 1) (drop (i + 1) missing)
due_false first i missing d below is =
    let next : suc i ≡ i + 1 = omega arith in
    let here : drop i missing ≡ false ∷ drop (i + 1) missing =
    drop-cons missing i d below ∙ (ap (λ (b : Bool). b ∷ drop (suc i) missing) is ∙ ap (λ (n : ℕ). false ∷ drop n missing) next) in
    ap (due first i) here

-- a missing number is put behind those before it
pub one_missing : (first : ℤ) (i : ℕ) (missing : List Bool) (d : Bool) (numbers after all : List ℤ) (x : ℤ) → i < length missing → get_or missing i d ≡ true
    → numbers ++ due first i (drop i missing) ≡ all → after ≡ numbers ++ x ∷ [] → x ≡ first +ℤ pos i → after ++ due first (i + 1) (drop (i + 1) missing) ≡ all
one_missing first i missing d numbers after all x below is before put number =
    let rest : List ℤ = due first (i + 1) (drop (i + 1) missing) in
    ap (λ (xs : List ℤ). xs ++ rest) (put ∙ ap (λ (n : ℤ). numbers ++ n ∷ []) number)
    ∙ (append_assoc numbers ((first +ℤ pos i) ∷ []) rest ∙ (ap (λ (xs : List ℤ). numbers ++ xs) (sym (due_true first i missing d below is)) ∙ before))

pub one_present : (first : ℤ) (i : ℕ) (missing : List Bool) (d : Bool) (numbers all : List ℤ) → i < length missing → get_or missing i d ≡ false
    → numbers ++ due first i (drop i missing) ≡ all → numbers ++ due first (i + 1) (drop (i + 1) missing) ≡ all
one_present first i missing d numbers all below is before =
    ap (λ (xs : List ℤ). numbers ++ xs) (sym (due_false first i missing d below is)) ∙ before

-- none is left behind the last place
pub all_seen : (first other : ℤ) (i : ℕ) (missing : List Bool) (numbers : List ℤ) → length missing ≤ i → first ≡ other
    → numbers ++ due first i (drop i missing) ≡ missing_points first missing → numbers ≡ missing_points other missing
all_seen first other i missing numbers past same is =
    let none : due first i (drop i missing) ≡ [] = ap (due first i) (drop_all i missing past) in
    sym (append-nil numbers) ∙ (ap (λ (xs : List ℤ). numbers ++ xs) (sym none) ∙ (is ∙ ap (λ (n : ℤ). missing_points n missing) same))

-- the number of a place behind i whose value is true
IsTold : ℤ → ℕ → List Bool → ℤ → Type 0
IsTold first i missing number = (k : ℕ) × (number ≡ first +ℤ pos (i + k)) × (slice_get missing k ≡ Some true)

told_later : (first : ℤ) (i : ℕ) (b : Bool) (missing : List Bool) (number : ℤ) → IsTold first (i + 1) missing number → IsTold first i (b ∷ missing) number
unfolding IsTold
told_later first i b missing number told = (suc told.0, omega (arith, ints, told.1), told.2)

all_told : (first : ℤ) (i : ℕ) (missing : List Bool) → All (IsTold first i missing) (due first i missing)
unfolding IsTold
all_told first i [] = All-nil (IsTold first i [])
all_told first i (true ∷ missing) =
    All-cons (IsTold first i (true ∷ missing)) (first +ℤ pos i) (due first (i + 1) missing) (0, omega (arith, ints), refl)
    (λ k d below. told_later first i true missing _ (all_told first (i + 1) missing k d below))
all_told first i (false ∷ missing) = λ k d below. told_later first i false missing _ (all_told first (i + 1) missing k d below)

rising : (first : ℤ) (i : ℕ) (missing : List Bool) → AllPairs (λ a b. a <ℤ b) (due first i missing)
unfolding IsTold
rising first i [] = λ j k d before below. absurd (omega arith)
rising first i (true ∷ missing) =
    AllPairs-cons (λ a b. a <ℤ b) (first +ℤ pos i) (due first (i + 1) missing)
    (λ k d below. let told = all_told first (i + 1) missing k d below in omega (arith, ints, told.1)) (rising first (i + 1) missing)
rising first i (false ∷ missing) = rising first (i + 1) missing

contains_behind : (x y : ℤ) (xs : List ℤ) → Contains xs x → Contains (y ∷ xs) x
contains_behind x y xs is = (suc is.0, omega (arith, is.1), is.2)

contains_same : (xs : List ℤ) (x y : ℤ) → x ≡ y → Contains xs x → Contains xs y
contains_same xs x y e is = let P : ℤ → Type 0 = λ n. Contains xs n in subst P e is

all_due : (first : ℤ) (i : ℕ) (missing : List Bool) (k : ℕ) → slice_get missing k ≡ Some true → Contains (due first i missing) (first +ℤ pos (i + k))
all_due first i [] k told = absurd (cc)
all_due first i (true ∷ missing) zero told = (0, omega arith, omega (arith, ints))
all_due first i (true ∷ missing) (suc k) told =
    contains_behind (first +ℤ pos (i + suc k)) (first +ℤ pos i) (due first (i + 1) missing)
    (contains_same (due first (i + 1) missing) (first +ℤ pos (i + 1 + k)) (first +ℤ pos (i + suc k)) (omega (arith, ints)) (all_due first (i + 1) missing k told))
all_due first i (false ∷ missing) zero told = absurd (cc)
all_due first i (false ∷ missing) (suc k) told =
    contains_same (due first (i + 1) missing) (first +ℤ pos (i + 1 + k)) (first +ℤ pos (i + suc k)) (omega (arith, ints)) (all_due first (i + 1) missing k told)

-- the order asked for

ordered : (backwards : Bool) (xs : List ℤ) → AllPairs (λ a b. a <ℤ b) xs → AllPairs (ComesBefore backwards) (in_order backwards xs)
ordered false xs rises = rises
ordered true xs rises = λ i j d before below.
    let inside : j < length xs = omega (arith, below, length-reverse xs) in
    let low : i < length xs = omega arith in
    rw (get_or-reverse xs i d low, get_or-reverse xs j d inside) (rises (length xs - 1 - j) (length xs - 1 - i) d (omega arith) (omega arith))

all_ordered : (backwards : Bool) (P : ℤ → Type 0) (xs : List ℤ) → All P xs → All P (in_order backwards xs)
all_ordered false P xs all = all
all_ordered true P xs all = λ i d below.
    let inside : i < length xs = omega (arith, below, length-reverse xs) in
    rw (get_or-reverse xs i d inside) (all (length xs - 1 - i) d (omega arith))

contains_ordered : (backwards : Bool) (xs : List ℤ) (x : ℤ) → Contains xs x → Contains (in_order backwards xs) x
contains_ordered false xs x is = is
contains_ordered true xs x is =
    let inside : length xs - 1 - is.0 < length xs = omega (arith, is.1) in
    let place : length xs - 1 - (length xs - 1 - is.0) ≡ is.0 = omega (arith, is.1) in
    (length xs - 1 - is.0, omega (arith, is.1, length-reverse xs), get_or-reverse xs (length xs - 1 - is.0) x inside ∙ (ap (λ k. get_or xs k x) place ∙ is.2))

-- the first of them

first_pairs : (R : ℤ → ℤ → Type 0) (n : ℕ) (xs : List ℤ) → AllPairs R xs → AllPairs R (take n xs)
first_pairs R n xs pairs = λ i j d before below.
    let inside : j < n = omega (arith, below, length-take n xs) in
    let low : i < n = omega arith in
    rw (get_or-take n xs i d low, get_or-take n xs j d inside) (pairs i j d before (omega (arith, below, length-take n xs)))

none_out : (R : ℤ → ℤ → Type 0) (n : ℕ) (xs : List ℤ) (x : ℤ) → AllPairs R xs → Contains xs x → Contains (take n xs) x ⊎ ((length (take n xs) ≡ n) × All (λ y. R y x) (take n xs))
none_out R n xs x pairs is =
    ⊎_elim
    (λ here. inl (is.0, omega (arith, is.1, length-take n xs), get_or-take n xs is.0 x here ∙ is.2))
    (λ behind. inr (
      omega (arith, is.1, length-take n xs),
      λ i d below.
          let low : i < n = omega (arith, below, length-take n xs) in
          let same : get_or xs is.0 d ≡ x = get_or_default xs is.0 d x is.1 ∙ is.2 in
          rw (get_or-take n xs i d low) (subst (λ (y : ℤ). R (get_or xs i d) y) same (pairs i is.0 d (omega arith) is.1)),
    ))
    (cases_lt is.0 n)

-- what is required

abbrev listed : Ask → ℤ → List Bool → List ℤ
listed ask first missing = take ask.limit (in_order ask.reverse (missing_points first missing))

pub all_missing : (ask : Ask) (missing : List Bool) (required : List ℤ) → AreRequired ask missing required → All (IsMissing ask missing) required
unfolding IsTold
all_missing ask missing required is =
    let P : List ℤ → Type 0 = All (IsMissing ask missing) in
    subst P (sym is.listed)
    (All-take (IsMissing ask missing) ask.limit (in_order ask.reverse (missing_points is.first missing))
    (all_ordered ask.reverse (IsMissing ask missing) (missing_points is.first missing)
    (λ i d below.
    let told = all_told is.first 0 missing i d below in
    record { first = is.first; place = told.0; are_points = is.are_points; numbered = omega (arith, ints, told.1); told = told.2 })))

pub in_their_order : (ask : Ask) (missing : List Bool) (required : List ℤ) → AreRequired ask missing required → AllPairs (ComesBefore ask.reverse) required
in_their_order ask missing required is =
    let P : List ℤ → Type 0 = AllPairs (ComesBefore ask.reverse) in
    subst P (sym is.listed)
    (first_pairs (ComesBefore ask.reverse) ask.limit (in_order ask.reverse (missing_points is.first missing))
    (ordered ask.reverse (missing_points is.first missing) (rising is.first 0 missing)))

-- a point that is missing is one of the missing points
contains_missing : (ask : Ask) (missing : List Bool) (first number : ℤ) → AreFrom ask missing first → IsMissing ask missing number → Contains (missing_points first missing) number
contains_missing ask missing first number from is =
    let inside : is.place < length missing = slice_get_within missing is.place true is.told in
    let same = same_ends ask (is.first, is.first +ℤ pos (length missing)) (first, first +ℤ pos (length missing)) is.are_points from (omega (arith, ints)) in
    contains_same (missing_points first missing) (first +ℤ pos (0 + is.place)) number (omega (arith, ints, same.0, is.numbered)) (all_due first 0 missing is.place is.told)

pub leaves_none_out : (ask : Ask) (missing : List Bool) (required : List ℤ) → AreRequired ask missing required → LeavesNoneOut ask missing required
leaves_none_out ask missing required is = λ number point.
    let P : List ℤ → Type 0 = λ xs. Contains xs number ⊎ ((length xs ≡ ask.limit) × All (λ other. ComesBefore ask.reverse other number) xs) in
    let all : List ℤ = missing_points is.first missing in
    subst P (sym is.listed)
    (none_out (ComesBefore ask.reverse) ask.limit (in_order ask.reverse all) number (ordered ask.reverse all (rising is.first 0 missing))
    (contains_ordered ask.reverse all number (contains_missing ask missing is.first number is.are_points point)))

pub missing_is_point : (ask : Ask) (missing : List Bool) (number : ℤ) → IsMissing ask missing number → IsPoint ask number
missing_is_point ask missing number is =
    let inside : is.place < length missing = slice_get_within missing is.place true is.told in
    (is.are_points.points number).0 (omega (arith, ints, is.numbered), omega (arith, ints, is.numbered))

none_missing : (first other : ℤ) (missing : List Bool) → length missing ≡ 0 → missing_points first missing ≡ missing_points other missing
none_missing first other [] is = refl
none_missing first other (x ∷ missing) is = absurd (omega (arith, is))

pub one_list : (ask : Ask) (missing : List Bool) (required others : List ℤ) → AreRequired ask missing required → AreRequired ask missing others → required ≡ others
one_list ask missing required others is too =
    let same : missing_points is.first missing ≡ missing_points too.first missing =
    by_lt_z is.first (is.first +ℤ pos (length missing))
    (λ some. ap (λ first. missing_points first missing) (same_ends ask (is.first, is.first +ℤ pos (length missing)) (too.first, too.first +ℤ pos (length missing)) is.are_points too.are_points some).0)
    (λ none. none_missing is.first too.first missing (omega (arith, ints))) in
    is.listed ∙ (ap (λ all. take ask.limit (in_order ask.reverse all)) same ∙ sym too.listed)

pub within_limit : (ask : Ask) (missing : List Bool) (required : List ℤ) → AreRequired ask missing required → length required ≤ ask.limit
within_limit ask missing required is =
    omega (arith, ap length is.listed, length-take ask.limit (in_order ask.reverse (missing_points is.first missing)))

end_of : (backwards : Bool) (n : ℕ) (xs : List ℤ) → IsEndOf backwards (take n (in_order backwards xs)) xs
end_of false n xs = (drop n xs, sym (take-append-drop n xs))
end_of true n xs = (
  reverse (drop n (reverse xs)),
  sym (reverse-reverse xs) ∙ (sym (ap reverse (take-append-drop n (reverse xs))) ∙ reverse-append (take n (reverse xs)) (drop n (reverse xs))),
)

pub first_or_last : (ask : Ask) (missing : List Bool) (required : List ℤ) (is : AreRequired ask missing required) → IsEndOf ask.reverse required (missing_points is.first missing)
first_or_last ask missing required is =
    let P : List ℤ → Type 0 = λ xs. IsEndOf ask.reverse xs (missing_points is.first missing) in
    subst P (sym is.listed) (end_of ask.reverse ask.limit (missing_points is.first missing))

-- what holds of a value in Ok and brings something else
pub brings : {T E : Type 0} (P Q : T → Type 0) (result : Result T E) → ((x : T) → P x → Q x) → IfOk result P → IfOk result Q
brings P Q (Ok x) each is = each x is
brings P Q (Err e) each is = tt
