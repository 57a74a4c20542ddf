-- The payload of a form in two parts.
use Rattle.std.proofs.Common.{◌≡◌, ℕ, List, ◌++◌, refl, ◌∙◌, ap, find, option_map, codes, Option, Some, None}
use Rattle.std.proofs.lemmas.List.{reverse-append}
use Rattle.std.proofs.lemmas.List.Folds.{find-append}
use Rattle.std.specs.Option.{option_or}
use Rattle.std.specs.Prelude.{reverse}
use Rattle.std.specs.Str.{bytes_eq}
use Rattle.luigid.specs.Payload.{decoded, last_data}

mapped_or : {A B : Type 0} (f : A → B) (o p : Option A) → option_map f (option_or o p) ≡ option_or (option_map f o) (option_map f p)
mapped_or f None p = refl
mapped_or f (Some x) p = refl

-- the last of both is the last of the second, or else of the first
pub last_of_both : (xs ys : List (List ℕ × List ℕ)) → last_data (xs ++ ys) ≡ option_or (last_data ys) (last_data xs)
last_of_both xs ys =
    let named = λ (p : List ℕ × List ℕ). bytes_eq (decoded p.0) (codes "data") in
    let turned : find named (reverse (xs ++ ys)) ≡ option_or (find named (reverse ys)) (find named (reverse xs)) = rw reverse-append (find-append named (reverse ys) (reverse xs)) in
    ap (option_map (λ p. p.1)) turned ∙ mapped_or _ _ _
