-- Taking a field out of an object. This project's own, over the members of RFC 8259.
use Rattle.std.specs.Prelude.{◌≡◌, ◌≢◌, ℕ, ℤ, pos, ◌^◌, nat_lt, if◌then◌else◌, Bool, List, [], ◌∷◌, Option, Some, None, option_map, length, ◌≤◌, codes, Result, Ok, Err, IsOk, IsOkAnd, Vec, vec_capacity}
use Rattle.std.specs.FinMap.{from_sorted}
use Rattle.std.specs.declared.alloc.Global.{Global}
use Rattle.std.specs.Ordering.{nat_cmp, match_ordering}
use Rattle.std.specs.Cmp.Lexicographic.{slice_cmp}
use Rattle.serde_json.specs.Data.{Num, unsigned, negative, float, Data, null, boolean, number, string, array, object, Items, no_items, item, Members, no_members, member}
use Rattle.serde_json.specs.Find.{get_member, as_bool, as_number, as_str, as_array, as_object}
use Rattle.serde_json.specs.View.{members_view}
use Rattle.lg_base.specs.Amounts.{AmountsByName}
use Rattle.lg_json.specs.declared.fields.Fields.{Fields}
use Rattle.lg_json.specs.declared.fields.TakeFault.{TakeFault}
use Rattle.lg_json.specs.declared.fields.TakeFault.TheVariants.{WrongKind, OutOfRange, NoMemory}

-- the members that are left
abbrev pub fields_view : Fields → Members
fields_view fields = members_view fields.members.entries

-- a field as it stands: none where it is null, as where it is absent
abbrev pub value_in : Option Data → Option Data
value_in None = None
value_in (Some null) = None
value_in (Some (boolean b)) = Some (boolean b)
value_in (Some (number n)) = Some (number n)
value_in (Some (string text)) = Some (string text)
value_in (Some (array items)) = Some (array items)
value_in (Some (object ms)) = Some (object ms)

abbrev pub Read : Type 0 → Type 0
Read A = Result A TakeFault

-- what was read goes on, and a refusal stays
infixl 10 ◌>>=◌
abbrev pub ◌>>=◌ : {A B : Type 0} → Read A → (A → Read B) → Read B
(Ok x) >>= f = f x
(Err fault) >>= f = Err fault

-- a value of the kind, read further
abbrev pub of_kind : {A B : Type 0} → Option A → (A → Read B) → Read B
of_kind None read = Err WrongKind
of_kind (Some x) read = read x

-- each item read, or the first refusal
abbrev pub each_item : {A : Type 0} → (Data → Read A) → Items → Read (List A)
each_item read no_items = Ok []
each_item read (item d ds) = read d >>= λ x. each_item read ds >>= λ xs. Ok (x ∷ xs)

-- each member read, with its name, or the first refusal
abbrev pub each_member : {A : Type 0} → (Data → Read A) → Members → Read (List (List ℕ × A))
each_member read no_members = Ok []
each_member read (member name d ms) = read d >>= λ x. each_member read ms >>= λ xs. Ok ((name, x) ∷ xs)

-- a whole number of 64 bits with a sign; a float is none, and 2^63 or more is too large
abbrev pub whole_in : Num → Read ℤ
whole_in (unsigned n) = if nat_lt n (2 ^ 63) then Ok (pos n) else Err OutOfRange
whole_in (negative z) = Ok z
whole_in (float x) = Err WrongKind

-- a whole number from 0 to 2^32 - 1
abbrev pub within : Num → Read ℕ
within (unsigned n) = if nat_lt n (2 ^ 32) then Ok n else Err OutOfRange
within (negative z) = Err OutOfRange
within (float x) = Err WrongKind

-- what a value is, read as each kind
abbrev pub text_of : Data → Read (List ℕ)
text_of d = of_kind (as_str d) Ok

abbrev pub truth_of : Data → Read Bool
truth_of d = of_kind (as_bool d) Ok

abbrev pub int_of : Data → Read ℤ
int_of d = of_kind (as_number d) whole_in

abbrev pub amount_of : Data → Read ℕ
amount_of d = of_kind (as_number d) within

abbrev pub texts_of : Data → Read (List (List ℕ))
texts_of d = of_kind (as_array d) (each_item text_of)

abbrev pub pairs_of : Data → Read (List (List ℕ × List ℕ))
pairs_of d = of_kind (as_object d) (each_member text_of)

abbrev pub entries_of : Data → Read (List (List ℕ × ℕ))
entries_of d = of_kind (as_object d) (each_member amount_of)

abbrev pub amounts_of : Data → Read AmountsByName
amounts_of d = entries_of d >>= λ amounts. Ok (from_sorted amounts)

-- the answer to asking for a field of a kind: none where it is absent or null
abbrev pub optional : {A : Type 0} → (Data → Read A) → Option Data → Read (Option A)
optional read None = Ok None
optional read (Some d) = read d >>= λ x. Ok (Some x)

abbrev pub text_in : Option Data → Read (Option (List ℕ))
text_in field = optional text_of (value_in field)

abbrev pub truth_in : Option Data → Read (Option Bool)
truth_in field = optional truth_of (value_in field)

abbrev pub int_in : Option Data → Read (Option ℤ)
int_in field = optional int_of (value_in field)

abbrev pub texts_in : Option Data → Read (Option (List (List ℕ)))
texts_in field = optional texts_of (value_in field)

abbrev pub pairs_in : Option Data → Read (Option (List (List ℕ × List ℕ)))
pairs_in field = optional pairs_of (value_in field)

abbrev pub amounts_in : Option Data → Read (Option AmountsByName)
amounts_in field = optional amounts_of (value_in field)

-- the answer is the one that is due, or memory was wanted for a field of the right kind
abbrev pub Gives : {A : Type 0} → Read A → Read A → Type 0
Gives (Ok x) due = due ≡ Ok x
Gives (Err WrongKind) due = due ≡ Err WrongKind
Gives (Err OutOfRange) due = due ≡ Err OutOfRange
Gives (Err NoMemory) due = IsOk due

-- there is room for all that a value of the kind has
abbrev pub HasRoomFor : {A B : Type 0} → Read (Vec A Global) → Read (List B) → Type 0
HasRoomFor (Ok room) due = IsOkAnd due (λ xs. (room.items ≡ []) × (length xs ≤ vec_capacity room))
HasRoomFor (Err fault) due = Gives (Err fault) due

-- whether all was read, or the first refusal
abbrev pub checked : {A : Type 0} → Read A → Read (Unit {0})
checked (Ok x) = Ok tt
checked (Err fault) = Err fault

-- an answer with the items of its list
abbrev pub items_of : {A : Type 0} → Read (Option (Vec A Global)) → Read (Option (List A))
items_of (Ok answer) = Ok (option_map (λ list. list.items) answer)
items_of (Err fault) = Err fault

-- the members without that of this name
abbrev pub without : List ℕ → Members → Members
without name no_members = no_members
without name (member k d ms) = match_ordering (slice_cmp nat_cmp name k) (member k d (without name ms)) (without name ms) (member k d (without name ms))

-- the member of this name is gone, and the others stay
pub record IsTakenOut (name : List ℕ) (old new : Members) : Type 0 where
  pub same : new ≡ without name old
  pub gone : get_member name new ≡ None
  pub others : (other : List ℕ) → other ≢ name → get_member other new ≡ get_member other old

-- a refusal in words
abbrev pub fault_text : TakeFault → List ℕ
fault_text WrongKind = codes "a field of another kind"
fault_text OutOfRange = codes "a number out of range"
fault_text NoMemory = codes "no memory"
