-- What holds of each item of a list at its place.
use Rattle.std.proofs.Common.{ℕ, zero, suc, List, [], ◌∷◌, ◌++◌, length, subst}
use Rattle.luigid.specs.Session.{Each}

-- one more item, at the end
pub Each-push : {A : Type 0} (P : ℕ → A → Type 0) (xs : List A) (x : A) → Each P xs → P (length xs) x → Each P (xs ++ x ∷ [])
Each-push P [] x each here zero item is = subst (P 0) (cc) here
Each-push P [] x each here (suc place) item is = absurd (cc)
Each-push P (first ∷ xs) x each here zero item is = each zero item is
Each-push P (first ∷ xs) x each here (suc place) item is = Each-push (λ k. P (suc k)) xs x (λ k y got. each (suc k) y got) here place item is

-- what follows of each item
pub Each-map : {A : Type 0} (P Q : ℕ → A → Type 0) (xs : List A) → ((place : ℕ) (x : A) → P place x → Q place x) → Each P xs → Each Q xs
Each-map P Q xs follows each place x is = follows place x (each place x is)
