-- What fits beside what is taken. This project's own, after Luigi's resources.
use Rattle.std.specs.FinMap.{entries}
use Rattle.std.specs.Prelude.{ℕ, ◌+◌, nat_le, Bool, List}
use Rattle.std.specs.List.{list_all}
use Rattle.lg_base.specs.Amounts.{AmountsByName, limit_of}

-- of each resource that is needed, what is taken and what is needed are together within its limit, which is 1 where none is set
unfoldable pub fits : AmountsByName → (List ℕ → ℕ) → AmountsByName → Bool
fits limits taken needs = list_all (λ need. nat_le (taken need.0 + need.1) (limit_of limits need.0)) (entries needs)
