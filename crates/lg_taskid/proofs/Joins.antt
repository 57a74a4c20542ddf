-- Texts joined.
use Rattle.std.proofs.Common.{◌≡◌, List, [], ◌∷◌, ◌++◌, flat_map, map, refl, ap}
use Rattle.std.specs.List.{join_by}

flat_map-map : {X A : Type 0} (f : X → List A) (separator : List A) (xs : List X) → flat_map (λ x. separator ++ f x) xs ≡ flat_map (λ ys. separator ++ ys) (map f xs)
flat_map-map f separator [] = refl
flat_map-map f separator (x ∷ xs) = ap (λ ys. (separator ++ f x) ++ ys) (flat_map-map f separator xs)

-- joining what f makes of each is joining these
pub join_by-map : {X A : Type 0} (f : X → List A) (separator : List A) (xs : List X) → join_by f separator xs ≡ join_by (λ ys. ys) separator (map f xs)
join_by-map f separator [] = refl
join_by-map f separator (x ∷ xs) = ap (λ ys. f x ++ ys) (flat_map-map f separator xs)
