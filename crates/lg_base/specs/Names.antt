-- Values by name, in the order of the names' bytes. This project's own.
use Rattle.std.specs.Prelude.{ℕ, T, List}
use Rattle.std.specs.Ordering.{nat_cmp}
use Rattle.std.specs.Cmp.Lexicographic.{slice_cmp}
use Rattle.std.specs.FinMap.{is_sorted}

-- the names rise strictly, so that each stands once
abbrev pub AreInOrder : {X : Type 0} → List (List ℕ × X) → Type 0
AreInOrder pairs = T (is_sorted (slice_cmp nat_cmp) pairs)
