-- What is true of the value when a turn ends. This project's own.
use Rattle.std.specs.Prelude.{◌≡◌, ℕ, ◌<◌, ◌≤◌, List, All}
use Rattle.lg_turn.specs.declared.view.View.{View}
use Rattle.lg_turn.specs.Rule.{Fits, low_of}

module _ {V I B : Type 0} (items : V → List I) (number : I → ℕ) (base : V → B) where
  -- the value fits what the last seat knows, and where that has all numbers below callers, each entry has one of them
  pub record Ends (callers : ℕ) (origin : B) (v : View I B) (value : V) : Type 0 where
    pub base_is : base value ≡ origin
    pub fits : All (Fits items number base origin (items value)) v.accounts
    pub whole : callers ≤ low_of callers v → All (λ e. number e < callers) (items value)
