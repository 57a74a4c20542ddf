-- The arguments of `update_resources`, and what it does. This project's own, after Luigi's RPC.
use Rattle.std.specs.Prelude.{ℕ, List, Result, Ok, Err, fold}
use Rattle.std.specs.FinMap.{empty, insert, entries}
use Rattle.serde_json.specs.Data.{no_members, member}
use Rattle.lg_base.specs.Amounts.{AmountsByName}
use Rattle.lg_json.specs.Fields.{Read, amount_of}
use Rattle.lg_calls.specs.declared.methods.update_resources.UpdateResources.{UpdateResources}
use Rattle.lg_calls.specs.declared.refusal.Refusal.{Refusal}
use Rattle.lg_calls.specs.Reading.{Reading, ◌>>=◌, refusal_of, done}
use Rattle.lg_calls.specs.declared.state.State.{State}

-- an amount that was read goes on, and another value is a refusal of the field of this name
abbrev pub with_amount : {A : Type 0} → List ℕ → Read ℕ → (ℕ → Result A Refusal) → Result A Refusal
with_amount name (Ok amount) next = next amount
with_amount name (Err fault) next = Err (refusal_of name fault)

-- each field, in the order of the names' bytes, is put into the limits
abbrev pub limits_from : AmountsByName → Reading AmountsByName
limits_from limits no_members = Ok (limits, no_members)
limits_from limits (member name value later) =
    with_amount name (amount_of value) (λ amount. limits_from (insert limits name amount) later)

abbrev pub update_resources : Reading UpdateResources
update_resources = limits_from empty >>= λ limits. done (record { limits = limits })

-- each limit is set, and the others stay
abbrev pub limits_set : AmountsByName → State → State
limits_set limits s = record s { limits = fold (λ known limit. insert known limit.0 limit.1) s.limits (entries limits) }
