-- The limits of resources, one key after another.
use Rattle.std.proofs.Common.{◌≡◌, ℕ, List, [], ◌∷◌, Some, None, String, Global, string_bytes, refl}
use Rattle.std.specs.FinMap.{insert}
use Rattle.toml.proofs.Views.{Entry}
use Rattle.toml.specs.Data.{Data, Members, member}
use Rattle.toml.specs.View.{view, members_view}
use Rattle.toml.specs.declared.value.Value.{Value}
use Rattle.lg_base.specs.Amounts.{AmountsByName}
use Rattle.lg_settings.specs.Limits.{limits_from}
use Rattle.lg_settings.specs.Numbers.{amount, number_of}

one_limit_more : (limits : AmountsByName) (name : List ℕ) (value : Data) (later : Members) (limit : ℕ) → number_of amount value ≡ Some limit
    → limits_from limits (member name value later) ≡ limits_from (insert limits name limit) later
one_limit_more limits name value later limit is = rw is refl

no_limit : (limits : AmountsByName) (name : List ℕ) (value : Data) (later : Members) → number_of amount value ≡ None
    → limits_from limits (member name value later) ≡ None
no_limit limits name value later none = rw none refl

-- the limit of the next key
pub limit_at : (limits : AmountsByName) (name : String Global) (value : Value) (all later : List Entry) (limit : ℕ) → all ≡ (name, value) ∷ later
    → number_of amount (view value) ≡ Some limit
    → limits_from limits (members_view all) ≡ limits_from (insert limits (string_bytes name) limit) (members_view later)
limit_at limits name value all later limit steps is = rw steps (one_limit_more limits (string_bytes name) (view value) (members_view later) limit is)

-- the next key has none
pub no_limit_at : (limits : AmountsByName) (name : String Global) (value : Value) (all later : List Entry) → all ≡ (name, value) ∷ later
    → number_of amount (view value) ≡ None → limits_from limits (members_view all) ≡ None
no_limit_at limits name value all later steps none = rw steps (no_limit limits (string_bytes name) (view value) (members_view later) none)

-- no key is left
pub all_limits : (limits : AmountsByName) (all : List Entry) → all ≡ [] → limits_from limits (members_view all) ≡ Some limits
all_limits limits all none = rw none refl
