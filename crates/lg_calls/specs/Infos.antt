-- What a worker tells of itself. This project's own, after Luigi's RPC.
use Rattle.std.specs.Prelude.{◌≡◌, ℕ, List, Option, Some, None, Ok, Err}
use Rattle.serde_json.specs.Data.{Data, null, boolean, number, string, array, object, Items, no_items, item}
use Rattle.serde_json.specs.Find.{as_array}
use Rattle.lg_json.specs.declared.fields.TakeFault.TheVariants.{WrongKind, OutOfRange, NoMemory}
use Rattle.lg_json.specs.Fields.{Read, ◌>>=◌, of_kind, optional, value_in, text_of, whole_in, each_item, each_member}
use Rattle.lg_calls.specs.declared.info.Info.{Info}
use Rattle.lg_calls.specs.declared.info.Info.TheVariants.{Text, Number, Truth, Null}

-- one thing that is told
abbrev pub told : Data → Read Info
told null = Ok Null
told (boolean truth) = Ok (Truth truth)
told (number n) = whole_in n >>= λ z. Ok (Number z)
told (string text) = Ok (Text text)
told (array items) = Err WrongKind
told (object fields) = Err WrongKind

-- exactly two items
abbrev pub two_in : Items → Option (Data × Data)
two_in no_items = None
two_in (item first no_items) = None
two_in (item first (item second no_items)) = Some (first, second)
two_in (item first (item second (item third later))) = None

-- a name, and what is told under it
abbrev pub named_info : Data × Data → Read (List ℕ × Info)
named_info pair = text_of pair.0 >>= λ name. told pair.1 >>= λ info. Ok (name, info)

-- a list of a name and what is told
abbrev pub pair_of : Data → Read (List ℕ × Info)
pair_of d = of_kind (as_array d) (λ items. of_kind (two_in items) named_info)

-- an object of what is told, or a list of pairs
abbrev pub infos_of : Data → Read (List (List ℕ × Info))
infos_of (object fields) = each_member told fields
infos_of (array items) = each_item pair_of items
infos_of null = Err WrongKind
infos_of (boolean truth) = Err WrongKind
infos_of (number n) = Err WrongKind
infos_of (string text) = Err WrongKind

abbrev pub infos_in : Option Data → Read (Option (List (List ℕ × Info)))
infos_in field = optional infos_of (value_in field)

-- the answer is the one that is due, or memory ran out
abbrev pub Meets : {A : Type 0} → Read A → Read A → Type 0
Meets (Ok x) due = due ≡ Ok x
Meets (Err WrongKind) due = due ≡ Err WrongKind
Meets (Err OutOfRange) due = due ≡ Err OutOfRange
Meets (Err NoMemory) due = Unit {0}
