-- Looking up in a table.
use Rattle.std.proofs.Common.{◌≡◌, ℕ, zero, suc, ◌<◌, Bool, true, false, cond, List, [], ◌∷◌, length, get_or, map, Option, Some, None, option_map, refl, arith}
use Rattle.std.specs.Str.{bytes_eq}
use Rattle.std.specs.List.{find, list_any, Contains}
use Rattle.std.proofs.lemmas.List.Folds.{list_any_at}
use Rattle.std.proofs.lemmas.Slice.Eq.{bytes_eq-Decides}

find_turn : {X Y : Type 0} (v : X → Y) (b : Bool) (x : X) (rest : Option X) (found : Option Y) → option_map v rest ≡ found
    → option_map v (cond b (Some x) rest) ≡ cond b (Some (v x)) found
find_turn v true x rest found is = refl
find_turn v false x rest found is = is

-- to look up, and to look up where the values are seen otherwise
pub find-map : {X Y : Type 0} (v : X → Y) (test : Y → Bool) (xs : List X) → option_map v (find (λ x. test (v x)) xs) ≡ find test (map v xs)
find-map v test [] = refl
find-map v test (x ∷ xs) = find_turn v (test (v x)) x (find (λ x. test (v x)) xs) (find test (map v xs)) (find-map v test xs)

pub option_map-option_map : {X Y Z : Type 0} (f : Y → Z) (g : X → Y) (o : Option X) → option_map (λ x. f (g x)) o ≡ option_map f (option_map g o)
option_map-option_map f g None = refl
option_map-option_map f g (Some x) = refl

-- no two have the same name
abbrev pub apart : {X : Type 0} → (X → List ℕ) → List X → Bool
apart name [] = true
apart name (x ∷ xs) = cond (list_any (λ y. bytes_eq (name x) (name y)) xs) false (apart name xs)

apart_head : (any rest : Bool) → cond any false rest ≡ true → (any ≡ false) × (rest ≡ true)
apart_head false rest is = (refl, is)
apart_head true rest is = absurd cc

not_true : (b : Bool) → (b ≡ true → ⊥) → b ≡ false
not_true false never = refl
not_true true never = absurd (never refl)

-- each is found by its own name
pub own_name : {X : Type 0} (name : X → List ℕ) (xs : List X) → apart name xs ≡ true → (k : ℕ) (d : X) → k < length xs
    → find (λ x. bytes_eq (name x) (name (get_or xs k d))) xs ≡ Some (get_or xs k d)
own_name name [] ok k d in_list = absurd (omega arith)
own_name name (x ∷ xs) ok zero d in_list = let same = (bytes_eq-Decides (name x) (name x)).1 refl in rw same refl
own_name name (x ∷ xs) ok (suc k) d in_list =
    let parts = apart_head (list_any (λ y. bytes_eq (name x) (name y)) xs) (apart name xs) ok in
    let within : k < length xs = omega arith in
    let other : bytes_eq (name x) (name (get_or xs k d)) ≡ false = not_true _ (λ same. let any = list_any_at (λ y. bytes_eq (name x) (name y)) xs k d within same in absurd cc) in
    rw other (own_name name xs parts.1 k d within)

-- a name that none has
pub no_name : {X : Type 0} (name : X → List ℕ) (xs : List X) (text : List ℕ) → (Contains (map name xs) text → ⊥) → find (λ x. bytes_eq (name x) text) xs ≡ None
no_name name [] text none = refl
no_name name (x ∷ xs) text none =
    let other : bytes_eq (name x) text ≡ false = not_true _ (λ same. none (0, omega arith, (bytes_eq-Decides (name x) text).0 same)) in
    rw other (no_name name xs text (λ found. none (suc found.0, omega (arith, found.1), found.2)))
