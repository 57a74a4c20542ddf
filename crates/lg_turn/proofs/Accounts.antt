-- Accounts of passes that see more.
use Rattle.std.proofs.Common.{◌≡◌, ℕ, ◌+◌, ◌<◌, List, [], ◌∷◌, map, length, arith, ap, sym, refl}
use Rattle.std.specs.Prelude.{◌==◌, nat_lt, if◌then◌else◌}
use Rattle.std.specs.List.{sum_by, All}
use Rattle.std.proofs.lemmas.List.{append-nil}
use Rattle.std.proofs.lemmas.List.Sums.{sum_by-cons}
use Rattle.std.proofs.lemmas.List.Elements.{All-map, All-weaker}
use Rattle.lg_turn.specs.declared.view.Account.{Account}
use Rattle.lg_turn.specs.Views.{seen_in}
use Rattle.lg_turn.specs.Rule.{Fits}
use Rattle.lg_turn.specs.Steps.{after_take, moved}

module _ {I B : Type 0} where
  -- the numbers stay where each account keeps its own
  pub numbers_map : (f : Account I B → Account I B) → ((a : Account I B) → (f a).number ≡ a.number) → (n : ℕ) (accounts : List (Account I B))
      → sum_by (λ (a : Account I B). if a.number == n then 1 else 0) (map f accounts) ≡ sum_by (λ (a : Account I B). if a.number == n then 1 else 0) accounts
  numbers_map f same n [] = refl
  numbers_map f same n (a ∷ rest) =
      let one : Account I B → ℕ = λ a. if a.number == n then 1 else 0 in
      let here : one (f a) ≡ one a = ap (λ (m : ℕ). if m == n then 1 else 0) (same a) in
      omega (arith, sum_by-cons one (f a) (map f rest), sum_by-cons one a rest, numbers_map f same n rest)

  pub lows_map : (f : Account I B → Account I B) → ((a : Account I B) → (f a).number ≡ a.number) → (n : ℕ) (accounts : List (Account I B))
      → sum_by (λ (a : Account I B). if nat_lt a.number n then 1 else 0) (map f accounts) ≡ sum_by (λ (a : Account I B). if nat_lt a.number n then 1 else 0) accounts
  lows_map f same n [] = refl
  lows_map f same n (a ∷ rest) =
      let one : Account I B → ℕ = λ a. if nat_lt a.number n then 1 else 0 in
      let here : one (f a) ≡ one a = ap (λ (m : ℕ). if nat_lt m n then 1 else 0) (same a) in
      omega (arith, sum_by-cons one (f a) (map f rest), sum_by-cons one a rest, lows_map f same n rest)

  -- a count of moves stays where each account keeps its own, and where one more move doesn't count
  pub moves_map : (count : ℕ × ℕ → ℕ) (f : Account I B → Account I B) → ((a : Account I B) → sum_by count (f a).moves ≡ sum_by count a.moves) → (accounts : List (Account I B))
      → sum_by (λ (a : Account I B). sum_by count a.moves) (map f accounts) ≡ sum_by (λ (a : Account I B). sum_by count a.moves) accounts
  moves_map count f same [] = refl
  moves_map count f same (a ∷ rest) =
      let moves : Account I B → ℕ = λ b. sum_by count b.moves in
      omega (arith, same a, sum_by-cons moves (f a) (map f rest), sum_by-cons moves a rest, moves_map count f same rest)

  pub moves_moved : (count : ℕ × ℕ → ℕ) (move : ℕ × ℕ) → count move ≡ 0 → (accounts : List (Account I B))
      → sum_by (λ (a : Account I B). sum_by count a.moves) (map (moved move) accounts) ≡ sum_by (λ (a : Account I B). sum_by count a.moves) accounts
  moves_moved count move none = moves_map count (moved move) (λ a. omega (arith, none, sum_by-cons count move a.moves))

  -- one move more of one pass
  pub one_moved : (count : ℕ × ℕ → ℕ) (move : ℕ × ℕ) (accounts : List (Account I B)) → length accounts ≡ 1
      → sum_by (λ (a : Account I B). sum_by count a.moves) (map (moved move) accounts) ≡ sum_by (λ (a : Account I B). sum_by count a.moves) accounts + count move
  one_moved count move [] h = absurd (omega arith)
  one_moved count move (a ∷ []) h =
      let moves : Account I B → ℕ = λ c. sum_by count c.moves in
      omega (arith, sum_by-cons moves (moved move a) [], sum_by-cons moves a [], sum_by-cons count move a.moves)
  one_moved count move (a ∷ b ∷ rest) h = absurd (omega arith)

  pub seen_in-after_take : (list : List I) (accounts : List (Account I B)) → 0 < length accounts → seen_in (map (after_take list) accounts) ≡ list
  seen_in-after_take list [] h = absurd (omega arith)
  seen_in-after_take list (a ∷ rest) h = refl

module _ {V I B : Type 0} (items : V → List I) (number : I → ℕ) (base : V → B) where
  -- who has seen the whole list fits it
  pub fits_after_take : (origin : B) (list : List I) (accounts : List (Account I B)) → All (Fits items number base origin list) accounts → All (Fits items number base origin list) (map (after_take list) accounts)
  fits_after_take origin list accounts fits = All-map (Fits items number base origin list) (after_take list) accounts
      (All-weaker (Fits items number base origin list) (λ (a : Account I B). Fits items number base origin list (after_take list a))
      (λ a f. record { base_is = f.base_is; begins = ([], sym (append-nil list)); own_is = f.own_is; own_seen = f.own_is }) accounts fits)
