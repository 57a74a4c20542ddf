-- What memory holds of a whole, from what it holds of its parts.
use Rattle.std.proofs.Common.{◌≡◌, ℕ, ◌+◌, ◌<◌, ◌≤◌, ℤ, pos, negsuc, List, [], ◌∷◌, ◌++◌, length, get_or, drop, Result, Ok, Err, sym, subst, arith}
use Rattle.std.specs.Int.{w64}
use Rattle.std.specs.Prelude.{All, FitsSigned, IsUtf8, OnOk}
use Rattle.std.proofs.lemmas.List.{drop_all}
use Rattle.std.proofs.lemmas.List.Elements.{All-nil, All-cons}
use Rattle.lg_json.specs.Tree.{Tree}
use Rattle.lg_snapshot.specs.Fitting.{FieldsAreHeld}
use Rattle.lg_snapshot.specs.Holding.{IsHeldNumber, IsHeld}
use Rattle.lg_snapshot.specs.Records.{Fields}
use Rattle.lg_snapshot.specs.Trees.{listed, by_name}
use Rattle.lg_snapshot.proofs.Commas.{drop_next}

-- what holds anyway holds where there is a value
pub OnOk-anyway : {T E A : Type 0} (result : Result T E) → A → OnOk result A
OnOk-anyway (Ok x) a = a
OnOk-anyway (Err e) a = tt

-- a number with a sign is one that memory holds
pub signed_held : (n : ℤ) → FitsSigned w64 n → IsHeldNumber n
signed_held (pos n) fits = let small = fits.sfits in omega arith
signed_held (negsuc n) fits = fits.sfits

-- fields, and others behind them
pub fields_held : (fields others : Fields) → FieldsAreHeld fields → FieldsAreHeld others → FieldsAreHeld (fields ++ others)
fields_held [] others held more = more
fields_held (field ∷ fields) others held more = (held.0, held.1, fields_held fields others held.2 more)

module _ {A : Type 0} (tree : A → Tree) (fits : A → Type 0) where
  -- memory holds the items, and they fit
  abbrev pub ItemsAreHeld : List A → Type 0
  ItemsAreHeld items = IsHeld (listed tree items) × All fits items

  pub item_held : (items : List A) (i : ℕ) (item : A) → i < length items → item ≡ get_or items i item → IsHeld (tree item) × fits item
      → (ItemsAreHeld (drop i items) → ItemsAreHeld items) → ItemsAreHeld (drop (i + 1) items) → ItemsAreHeld items
  item_held items i item within is held whole rest =
      whole (subst ItemsAreHeld (sym (drop_next items i item within is)) ((held.0, rest.0), All-cons fits item (drop (i + 1) items) held.1 rest.1))

  pub items_held : (items : List A) (i : ℕ) → length items ≤ i → (ItemsAreHeld (drop i items) → ItemsAreHeld items) → ItemsAreHeld items
  items_held items i over whole = whole (subst ItemsAreHeld (sym (drop_all i items over)) (tt, All-nil fits))

  -- memory holds the values by name, and they fit
  abbrev pub PairsAreHeld : List (List ℕ × A) → Type 0
  PairsAreHeld pairs = IsHeld (by_name tree pairs) × All (λ pair. fits pair.1) pairs

  pub pair_held : (pairs : List (List ℕ × A)) (i : ℕ) (pair : List ℕ × A) → i < length pairs → pair ≡ get_or pairs i pair
      → IsUtf8 pair.0 × IsHeld (tree pair.1) × fits pair.1
      → (PairsAreHeld (drop i pairs) → PairsAreHeld pairs) → PairsAreHeld (drop (i + 1) pairs) → PairsAreHeld pairs
  pair_held pairs i pair within is held whole rest =
      whole (subst PairsAreHeld (sym (drop_next pairs i pair within is)) ((held.0, held.1, rest.0), All-cons (λ (p : List ℕ × A). fits p.1) pair (drop (i + 1) pairs) held.2 rest.1))

  pub pairs_held : (pairs : List (List ℕ × A)) (i : ℕ) → length pairs ≤ i → (PairsAreHeld (drop i pairs) → PairsAreHeld pairs) → PairsAreHeld pairs
  pairs_held pairs i over whole = whole (subst PairsAreHeld (sym (drop_all i pairs over)) (tt, All-nil (λ (p : List ℕ × A). fits p.1)))
