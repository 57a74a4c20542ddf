-- What a value of JSON (RFC 8259) is, read as each kind that a snapshot has. This project's own.
use Rattle.std.specs.FinMap.{from_sorted, is_sorted}
use Rattle.std.specs.Ordering.{nat_cmp}
use Rattle.std.specs.Cmp.Lexicographic.{slice_cmp}
use Rattle.std.specs.Prelude.{ℕ, ℤ, ◌^◌, nat_lt, if◌then◌else◌, List, [], ◌∷◌, Option, Some, None, option_map, option_and_then}
use Rattle.serde_json.specs.Data.{Data, null, boolean, number, string, array, object, Items, no_items, item, Members, no_members, member}
use Rattle.serde_json.specs.Find.{as_number, as_str, as_array, as_object, as_u64, as_i64}
use Rattle.lg_base.specs.Amounts.{AmountsByName}
use Rattle.lg_base.specs.declared.moment.Moment.{Moment}
use Rattle.lg_calls.specs.declared.info.Info.{Info}
use Rattle.lg_calls.specs.declared.info.Info.TheVariants as I
use Rattle.lg_calls.specs.declared.status.Status.{Status}
use Rattle.lg_calls.specs.Words.{status_word, statuses, named}

-- a whole number from 0 to 2^64 - 1, and one of 64 bits with a sign
abbrev pub number_in : Data → Option ℕ
number_in d = option_and_then as_u64 (as_number d)

abbrev pub int_in : Data → Option ℤ
int_in d = option_and_then as_i64 (as_number d)

abbrev pub small : ℕ → Option ℕ
small n = if nat_lt n (2 ^ 32) then Some n else None

-- a whole number from 0 to 2^32 - 1
abbrev pub amount_in : Data → Option ℕ
amount_in d = option_and_then small (number_in d)

abbrev pub moment_in : Data → Option Moment
moment_in d = option_map (λ n. record { 0 = n }) (number_in d)

-- the status of a word
abbrev pub status_in : Data → Option Status
status_in d = option_and_then (named status_word statuses) (as_str d)

-- null is an absent value
abbrev pub maybe_in : {A : Type 0} → (Data → Option A) → Data → Option (Option A)
maybe_in kind null = Some None
maybe_in kind (boolean b) = option_map Some (kind (boolean b))
maybe_in kind (number n) = option_map Some (kind (number n))
maybe_in kind (string s) = option_map Some (kind (string s))
maybe_in kind (array ds) = option_map Some (kind (array ds))
maybe_in kind (object ms) = option_map Some (kind (object ms))

-- each item, or none where one is of another kind
abbrev pub each_item : {A : Type 0} → (Data → Option A) → Items → Option (List A)
each_item kind no_items = Some []
each_item kind (item d ds) = option_and_then (λ x. option_map (λ xs. x ∷ xs) (each_item kind ds)) (kind d)

abbrev pub list_in : {A : Type 0} → (Data → Option A) → Data → Option (List A)
list_in kind d = option_and_then (each_item kind) (as_array d)

-- each member with its name, or none where one is of another kind
abbrev pub each_member : {A : Type 0} → (Data → Option A) → Members → Option (List (List ℕ × A))
each_member kind no_members = Some []
each_member kind (member name d ms) = option_and_then (λ x. option_map (λ xs. (name, x) ∷ xs) (each_member kind ms)) (kind d)

abbrev pub pairs_in : {A : Type 0} → (Data → Option A) → Data → Option (List (List ℕ × A))
pairs_in kind d = option_and_then (each_member kind) (as_object d)

-- amounts are pairs in the order of the names' bytes
abbrev pub amounts_of : List (List ℕ × ℕ) → Option AmountsByName
amounts_of pairs = if is_sorted (slice_cmp nat_cmp) pairs then Some (from_sorted pairs) else None

abbrev pub amounts_in : Data → Option AmountsByName
amounts_in d = option_and_then amounts_of (pairs_in amount_in d)

-- what a worker tells of itself
abbrev pub info_in : Data → Option Info
info_in null = Some I.Null
info_in (boolean b) = Some (I.Truth b)
info_in (number n) = option_map I.Number (as_i64 n)
info_in (string text) = Some (I.Text text)
info_in (array ds) = None
info_in (object ms) = None
