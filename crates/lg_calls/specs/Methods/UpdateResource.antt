-- The arguments of `update_resource`, and what it does. This project's own, after Luigi's RPC.
use Rattle.std.specs.Prelude.{codes, ℕ, ℤ, pos, negsuc, nat_le, Bool, true, false, List}
use Rattle.std.specs.FinMap.{insert}
use Rattle.lg_json.specs.Fields.{text_in, int_in}
use Rattle.lg_json.specs.Tree.{truth}
use Rattle.lg_calls.specs.declared.methods.update_resource.UpdateResource.{UpdateResource}
use Rattle.lg_calls.specs.declared.state.State.{State}
use Rattle.lg_calls.specs.Outcome.{Outcome, replied}
use Rattle.lg_calls.specs.Reading.{Reading, ◌>>=◌, needed, ranged, done}

-- the largest amount
abbrev pub max_amount : ℕ
max_amount = 4294967295

abbrev pub int_at_most : ℕ → ℤ → Bool
int_at_most most (pos n) = nat_le n most
int_at_most most (negsuc n) = true

abbrev pub is_amount : ℤ → Bool
is_amount = int_at_most max_amount

abbrev pub update_resource : Reading UpdateResource
update_resource =
    needed text_in (codes "resource") >>= λ resource.
    needed int_in (codes "amount") >>= λ asked.
    ranged (codes "amount") (is_amount asked) asked >>= λ amount.
    done (record { resource = resource; amount = amount })

abbrev pub update_resource_in_range : UpdateResource → Bool
update_resource_in_range ask = is_amount ask.amount

-- a limit below 0 isn't set
abbrev pub limit_set : State → List ℕ → ℤ → State × Outcome
limit_set state resource (pos amount) = (record state { limits = insert state.limits resource amount }, replied (truth true))
limit_set state resource (negsuc amount) = (state, replied (truth false))
