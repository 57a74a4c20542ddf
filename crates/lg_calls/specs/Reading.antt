-- Reading the arguments of a call, one after another: each reading takes its field out of the object, and the next has the
-- fields that are left. This project's own, after Luigi's RPC.
use Rattle.std.specs.Prelude.{ℕ, Bool, if◌then◌else◌, List, Option, Some, None, Result, Ok, Err, ◌≡◌}
use Rattle.serde_json.specs.Data.{Data, Members}
use Rattle.serde_json.specs.Find.{get_member}
use Rattle.lg_json.specs.declared.fields.TakeFault.{TakeFault}
use Rattle.lg_json.specs.declared.fields.TakeFault.TheVariants as Take
use Rattle.lg_json.specs.Fields.{Read, fields_view, without}
use Rattle.lg_calls.specs.declared.arguments.Arguments.{Arguments}
use Rattle.lg_calls.specs.declared.refusal.Refusal.{Refusal}
use Rattle.lg_calls.specs.declared.refusal.Refusal.TheVariants.{MissingArgument, WrongKind, OutOfRange}
use Rattle.lg_calls.specs.declared.refusal.PayloadFault.{PayloadFault}
use Rattle.lg_calls.specs.declared.refusal.PayloadFault.TheVariants.{Refused, NoMemory}

-- what is made of the fields of an object, and the fields that are left; or the first refusal
abbrev pub Reading : Type 0 → Type 0
Reading A = Members → Result (A × Members) Refusal

abbrev pub read_on : {A B : Type 0} → Result (A × Members) Refusal → (A → Reading B) → Result (B × Members) Refusal
read_on (Ok read) next = next read.0 read.1
read_on (Err refusal) next = Err refusal

-- one reading, and behind it another
infixl 10 ◌>>=◌
unfoldable pub ◌>>=◌ : {A B : Type 0} → Reading A → (A → Reading B) → Reading B
(first >>= next) fields = read_on (first fields) next

-- nothing more is read
unfoldable pub done : {A : Type 0} → A → Reading A
done x fields = Ok (x, fields)

-- a refusal of the argument of this name
abbrev pub refusal_of : List ℕ → TakeFault → Refusal
refusal_of name Take.WrongKind = WrongKind name
refusal_of name Take.OutOfRange = OutOfRange name
refusal_of name Take.NoMemory = WrongKind name

abbrev pub taken : {A : Type 0} → List ℕ → Members → Read A → Result (A × Members) Refusal
taken name left (Ok x) = Ok (x, left)
taken name left (Err fault) = Err (refusal_of name fault)

-- an argument that may be absent: the field of this name, read as its kind
unfoldable pub field : {A : Type 0} → (Option Data → Read (Option A)) → List ℕ → Reading (Option A)
field kind name fields = taken name (without name fields) (kind (get_member name fields))

-- what has to be there
unfoldable pub present : {A : Type 0} → List ℕ → Option A → Reading A
present name (Some x) fields = Ok (x, fields)
present name None fields = Err (MissingArgument name)

-- an argument that has to be there
abbrev pub needed : {A : Type 0} → (Option Data → Read (Option A)) → List ℕ → Reading A
needed kind name = field kind name >>= present name

-- what was read has to be in its range
unfoldable pub ranged : {A : Type 0} → List ℕ → Bool → A → Reading A
ranged name in_range x fields = if in_range then Ok (x, fields) else Err (OutOfRange name)

-- the fields of a call that aren't read yet
abbrev pub left_in : Arguments → Members
left_in arguments = fields_view arguments.fields

-- The answer of a function that reads arguments is what the reading makes of the fields before, and the fields behind are
-- those that are left; or the reading's refusal; or memory ran out.
unfoldable pub Reads : {A : Type 0} → Reading A → Arguments → Arguments → Result A PayloadFault → Type 0
Reads reading before after (Ok x) = reading (left_in before) ≡ Ok (x, left_in after)
Reads reading before after (Err (Refused refusal)) = reading (left_in before) ≡ Err refusal
Reads reading before after (Err NoMemory) = Unit {0}

-- what a field gave, as the answer of a function: a refusal has the argument's name
abbrev pub taken_as : {A : Type 0} → List ℕ → Read A → Result A PayloadFault
taken_as name (Ok x) = Ok x
taken_as name (Err Take.WrongKind) = Err (Refused (WrongKind name))
taken_as name (Err Take.OutOfRange) = Err (Refused (OutOfRange name))
taken_as name (Err Take.NoMemory) = Err NoMemory

abbrev pub present_as : {A : Type 0} → List ℕ → Option A → Result A PayloadFault
present_as name (Some x) = Ok x
present_as name None = Err (Refused (MissingArgument name))
