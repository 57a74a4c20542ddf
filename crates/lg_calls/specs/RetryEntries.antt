-- What a call says of a task's retry policy. This project's own, after Luigi's RPC.
use Rattle.std.specs.Prelude.{ℕ, ℤ, pos, negsuc, ◌^◌, ◌&&◌, nat_le, Bool, true, if◌then◌else◌, List, codes, Option, Some, None, Ok, Err}
use Rattle.serde_json.specs.Data.{Data, Members}
use Rattle.serde_json.specs.Find.{as_object, get_member}
use Rattle.lg_json.specs.declared.fields.TakeFault.TheVariants.{OutOfRange}
use Rattle.lg_json.specs.Fields.{Read, ◌>>=◌, of_kind, optional, value_in, int_in}
use Rattle.lg_calls.specs.declared.retry_policy.RetryPolicy.{RetryPolicy}

-- the largest number of a retry policy
abbrev pub max_entry : ℕ
max_entry = 10 ^ 12

abbrev pub entry_of : Option ℤ → Read (Option ℕ)
entry_of None = Ok None
entry_of (Some (pos n)) = if nat_le n max_entry then Ok (Some n) else Err OutOfRange
entry_of (Some (negsuc n)) = Err OutOfRange

-- an entry of a retry policy that may be absent or null
abbrev pub entry_in : List ℕ → Members → Read (Option ℕ)
entry_in name members = int_in (get_member name members) >>= entry_of

abbrev pub entries_in : Members → Read RetryPolicy
entries_in members =
    entry_in (codes "retry_count") members >>= λ count.
    entry_in (codes "disable_hard_timeout") members >>= λ timeout.
    entry_in (codes "disable_window") members >>= λ window.
    Ok (record { retry_count = count; disable_hard_timeout = timeout; disable_window = window })

-- an object with the entries of a retry policy
abbrev pub policy_read : Data → Read RetryPolicy
policy_read d = of_kind (as_object d) entries_in

abbrev pub policy_in : Option Data → Read (Option RetryPolicy)
policy_in field = optional policy_read (value_in field)

-- nothing is said of the policy
abbrev pub no_policy : RetryPolicy
no_policy = record { retry_count = None; disable_hard_timeout = None; disable_window = None }

-- what is said is in range
abbrev pub is_entry : Option ℕ → Bool
is_entry None = true
is_entry (Some n) = nat_le n max_entry

abbrev pub is_policy : RetryPolicy → Bool
is_policy policy =
    is_entry policy.retry_count && is_entry policy.disable_hard_timeout && is_entry policy.disable_window
