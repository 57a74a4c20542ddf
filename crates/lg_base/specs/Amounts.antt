-- Amounts by name. This project's own, after Luigi's resources.
use Rattle.std.specs.Prelude.{◌≡◌, ℕ, ◌+◌, ◌≤◌, List, All, unwrap_or}
use Rattle.std.specs.Borrow.{Bor}
use Rattle.std.specs.Coded.{Coded, coded_ℕ, coded_list}
use Rattle.std.specs.Ordering.{nat_cmp}
use Rattle.std.specs.Cmp.Lexicographic.{slice_cmp}
use Rattle.std.specs.FinMap.{FinMap, get, entries, code}

-- a finite map from the bytes of a name to an amount, in the order of bytes
abbrev pub AmountsByName : Type 0
AmountsByName = FinMap (slice_cmp nat_cmp) ℕ

-- amounts are told apart as finite maps are
abbrev pub amounts_code : Coded AmountsByName
amounts_code = code {R = slice_cmp nat_cmp} (coded_list coded_ℕ) coded_ℕ

-- how much a map has of a name: nothing where the name is absent
abbrev pub amount_of : AmountsByName → List ℕ → ℕ
amount_of amounts name = unwrap_or (get amounts name) 0

-- what a map of limits allows of a name: 1 where the name is absent
abbrev pub limit_of : AmountsByName → List ℕ → ℕ
limit_of limits name = unwrap_or (get limits name) 1

-- each answer about a name is what the function gives of its bytes
abbrev pub AnswersAs : (Bor (List ℕ) → ℕ → Type 0) → (List ℕ → ℕ) → Type 0
AnswersAs answers f = (name : Bor (List ℕ)) (amount : ℕ) → answers name amount → amount ≡ f name.now

-- of each needed name, what is taken and what is needed are together within the limit
abbrev pub Fits : AmountsByName → (List ℕ → ℕ) → AmountsByName → Type 0
Fits needs taken limits = All (λ need. taken need.0 + need.1 ≤ limit_of limits need.0) (entries needs)
