-- A seat that answers for one pass.
use Rattle.std.proofs.Common.{◌≡◌, ℕ, ◌<◌, List, [], ◌∷◌, length, arith, refl, Option, Some, None}
use Rattle.std.specs.Prelude.{IsTrue}
use Rattle.std.proofs.lemmas.Bool.Decides.{nat_tests}
use Rattle.lg_turn.specs.declared.view.Account.{Account}
use Rattle.lg_turn.specs.declared.view.Stage.{Stage}
use Rattle.lg_turn.specs.declared.view.Stage.TheVariants.{Idle, Waits, Holds, Enrols, Undoes, Alone}
use Rattle.lg_turn.specs.Views.{account_of, number_in, base_in, seen_in, own_in, moves_in, has_empty_slot, is_settled_at}

module _ {I B : Type 0} where
  pub one_account : (accounts : List (Account I B)) → length accounts ≡ 1
      → (base : B) × (base_in accounts ≡ Some base) × (accounts ≡ account_of (number_in accounts) base (seen_in accounts) (own_in accounts) (moves_in accounts) ∷ [])
  one_account [] h = absurd (omega arith)
  one_account (a ∷ []) h = (a.base, refl, refl)
  one_account (a ∷ b ∷ rest) h = absurd (omega arith)

-- a pass that is away carries no slot
pub away_carries : {V : Type 0} (stage : Stage) (carried : List (ℕ × Option V)) → IsTrue (is_settled_at stage carried) → stage ≡ Idle → carried ≡ []
away_carries Idle [] h e = refl
away_carries Idle (x ∷ rest) h e = absurd (cc)
away_carries (Waits t) carried h e = absurd (cc)
away_carries (Holds t) carried h e = absurd (cc)
away_carries (Enrols n out) carried h e = absurd (cc)
away_carries Undoes carried h e = absurd (cc)
away_carries Alone carried h e = absurd (cc)

empty_slot : {V : Type 0} (k : ℕ) (o : Option V) → IsTrue (has_empty_slot ((k, o) ∷ [])) → (k ≡ 0) × (o ≡ None)
empty_slot k None h = (grind (arith, nat_tests), refl)
empty_slot k (Some x) h = absurd (grind (arith, nat_tests))

-- a pass that has the turn carries the slot, which is empty
pub turn_carries : {V : Type 0} (stage : Stage) (carried : List (ℕ × Option V)) (t : ℕ) → IsTrue (is_settled_at stage carried) → stage ≡ Holds t → carried ≡ (0, None) ∷ []
turn_carries Idle carried t h e = absurd (cc)
turn_carries (Waits u) carried t h e = absurd (cc)
turn_carries (Enrols n out) carried t h e = absurd (cc)
turn_carries Undoes carried t h e = absurd (cc)
turn_carries Alone carried t h e = absurd (cc)
turn_carries (Holds u) [] t h e = absurd (cc)
turn_carries (Holds u) (x ∷ []) t h e = let empty = empty_slot x.0 x.1 h in λ i. (empty.0 i, empty.1 i) ∷ []
turn_carries (Holds u) (x ∷ y ∷ rest) t h e = absurd (cc)

module _ {I B : Type 0} where
  pub first_account : (accounts : List (Account I B)) → 0 < length accounts → (a : Account I B) × (rest : List (Account I B)) × (accounts ≡ a ∷ rest)
  first_account [] h = absurd (omega arith)
  first_account (a ∷ rest) h = (a, rest, refl)

  pub only_account : (accounts : List (Account I B)) → length accounts ≡ 1 → (a : Account I B) × (accounts ≡ a ∷ [])
  only_account [] h = absurd (omega arith)
  only_account (a ∷ []) h = (a, refl)
  only_account (a ∷ b ∷ rest) h = absurd (omega arith)

  pub two_accounts : (accounts : List (Account I B)) → length accounts ≡ 2 → (b : Account I B) × (a : Account I B) × (accounts ≡ b ∷ a ∷ [])
  two_accounts [] h = absurd (omega arith)
  two_accounts (b ∷ []) h = absurd (omega arith)
  two_accounts (b ∷ a ∷ []) h = (b, a, refl)
  two_accounts (c ∷ b ∷ a ∷ rest) h = absurd (omega arith)
