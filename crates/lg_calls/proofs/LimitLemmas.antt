-- Reading the limits of resources, one field after another.
use Rattle.std.proofs.Common.{◌≡◌, ℕ, List, Ok, Err, refl}
use Rattle.std.specs.FinMap.{empty}
use Rattle.serde_json.specs.Data.{Data, Members, no_members, member}
use Rattle.lg_base.specs.Amounts.{AmountsByName}
use Rattle.lg_json.specs.Fields.{amount_of}
use Rattle.lg_json.specs.declared.fields.TakeFault.{TakeFault}
use Rattle.lg_json.specs.declared.fields.TakeFault.TheVariants as Take
use Rattle.lg_calls.specs.Methods.UpdateResources.{limits_from}
use Rattle.lg_calls.specs.Ranges.{fault_of}
use Rattle.lg_calls.specs.Reading.{Reads, left_in}
use Rattle.lg_calls.specs.declared.arguments.Arguments.{Arguments}

-- a field that is no amount
pub refused_limit : (limits : AmountsByName) (name : List ℕ) (value : Data) (later : Members) (fault : TakeFault) (before after : Arguments)
    → limits_from empty (left_in before) ≡ limits_from limits (member name value later) → amount_of value ≡ Err fault
    → Reads (limits_from empty) before after (Err (fault_of name fault))
unfolding Reads
refused_limit limits name value later Take.WrongKind before after so_far is = rw (so_far, is) refl
refused_limit limits name value later Take.OutOfRange before after so_far is = rw (so_far, is) refl
refused_limit limits name value later Take.NoMemory before after so_far is = tt

-- no field is left
pub all_limits : (limits : AmountsByName) (before last after : Arguments)
    → limits_from empty (left_in before) ≡ limits_from limits (left_in last) → left_in last ≡ no_members → left_in after ≡ no_members
    → Reads (limits_from empty) before after (Ok limits)
unfolding Reads
all_limits limits before last after so_far none left = rw (so_far, none, left) refl
