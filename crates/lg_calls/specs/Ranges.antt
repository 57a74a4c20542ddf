-- Arguments of which not every value is in range. This project's own, after Luigi's RPC.
use Rattle.std.specs.Prelude.{ℕ, ℤ, pos, negsuc, ◌^◌, ◌&&◌, nat_le, nat_lt, Bool, true, if◌then◌else◌, List, Option, Some, None, Result, Ok, Err}
use Rattle.lg_json.specs.Fields.{int_in}
use Rattle.lg_json.specs.declared.fields.TakeFault.{TakeFault}
use Rattle.lg_json.specs.declared.fields.TakeFault.TheVariants as Take
use Rattle.lg_calls.specs.declared.refusal.Refusal.TheVariants.{WrongKind, OutOfRange}
use Rattle.lg_calls.specs.declared.refusal.PayloadFault.{PayloadFault}
use Rattle.lg_calls.specs.declared.refusal.PayloadFault.TheVariants.{Refused, NoMemory}
use Rattle.lg_calls.specs.Reading.{Reading, ◌>>=◌, field}

-- what was read has to stand for something
unfoldable pub known : {A : Type 0} → List ℕ → Option A → Reading A
known name (Some x) fields = Ok (x, fields)
known name None fields = Err (OutOfRange name)

abbrev pub known_as : {A : Type 0} → List ℕ → Option A → Result A PayloadFault
known_as name (Some x) = Ok x
known_as name None = Err (Refused (OutOfRange name))

-- the refusal of an argument that couldn't be taken
abbrev pub fault_of : List ℕ → TakeFault → PayloadFault
fault_of name Take.WrongKind = Refused (WrongKind name)
fault_of name Take.OutOfRange = Refused (OutOfRange name)
fault_of name Take.NoMemory = NoMemory

-- a count that may be absent: nothing where it is less than the least
abbrev pub count_from : ℕ → Option ℤ → Option (Option ℕ)
count_from least None = Some None
count_from least (Some (pos n)) = if nat_le least n then Some (Some n) else None
count_from least (Some (negsuc n)) = None

-- an argument that is a count, the least or more, or absent
abbrev pub count : ℕ → List ℕ → Reading (Option ℕ)
count least name = field int_in name >>= λ asked. known name (count_from least asked)

-- a count is the least or more, and below 2^63
abbrev pub is_count : ℕ → Option ℕ → Bool
is_count least None = true
is_count least (Some n) = nat_le least n && nat_lt n (2 ^ 63)
