-- Texts in order, and lists without doubles. This project's own.
use Rattle.std.specs.Prelude.{ℕ, Bool, true, not, ◌&&◌, List, [], ◌∷◌}
use Rattle.std.specs.Ordering.{nat_cmp, is_lt, is_eq}
use Rattle.std.specs.Cmp.Lexicographic.{slice_cmp}
use Rattle.std.specs.List.{list_all}

-- two texts have the same bytes
abbrev pub is_same : List ℕ → List ℕ → Bool
is_same one other = is_eq (slice_cmp nat_cmp one other)

-- one text stands before another in the order of their bytes
abbrev pub is_before : List ℕ → List ℕ → Bool
is_before one other = is_lt (slice_cmp nat_cmp one other)

-- the test holds of each element with each later one
abbrev pub all_pairs : {X : Type 0} → (X → X → Bool) → List X → Bool
all_pairs test [] = true
all_pairs test (x ∷ xs) = list_all (test x) xs && all_pairs test xs

-- the texts rise in the order of their bytes, so that each stands once
abbrev pub are_sorted : List (List ℕ) → Bool
are_sorted texts = all_pairs is_before texts

-- each text stands once
abbrev pub are_distinct : List (List ℕ) → Bool
are_distinct texts = all_pairs (λ one other. not (is_same one other)) texts
