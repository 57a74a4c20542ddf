-- Reading a record out of the members of an object, one after another: each reading takes the first member, which has to
-- have the name of the field. This project's own.
use Rattle.std.specs.Prelude.{ℕ, Bool, true, false, List, Option, Some, None, option_map, option_and_then, Result, Ok, Err, ◌≡◌}
use Rattle.std.specs.Str.{bytes_eq}
use Rattle.serde_json.specs.Data.{Data, Members, no_members, member}
use Rattle.serde_json.specs.Find.{as_object}
use Rattle.serde_json.specs.View.{view}
use Rattle.serde_json.specs.declared.value.Value.{Value}
use Rattle.lg_json.specs.Fields.{fields_view}
use Rattle.lg_snapshot.specs.declared.entries.Entries.{Entries}
use Rattle.lg_snapshot.specs.declared.entries.Unread.{Unread}
use Rattle.lg_snapshot.specs.declared.entries.Unread.TheVariants.{Other, NoMemory}

-- what is made of the first members, and the members that are left; none where they are of another kind
abbrev pub Reading : Type 0 → Type 0
Reading A = Members → Option (A × Members)

abbrev pub read_on : {A B : Type 0} → Option (A × Members) → (A → Reading B) → Option (B × Members)
read_on (Some read) next = next read.0 read.1
read_on None next = None

-- one reading, and behind it another
infixl 10 ◌>>=◌
unfoldable pub ◌>>=◌ : {A B : Type 0} → Reading A → (A → Reading B) → Reading B
(first >>= next) members = read_on (first members) next

-- nothing more is read
unfoldable pub done : {A : Type 0} → A → Reading A
done x members = Some (x, members)

abbrev pub where_named : {A : Type 0} → Bool → Option A → Members → Option (A × Members)
where_named true (Some x) left = Some (x, left)
where_named true None left = None
where_named false found left = None

-- the first member, where it has this name and is of the kind
unfoldable pub entry : {A : Type 0} → List ℕ → (Data → Option A) → Reading A
entry name kind no_members = None
entry name kind (member other d left) = where_named (bytes_eq other name) (kind d) left

-- an object's first members, as a record
abbrev pub record_in : {A : Type 0} → Reading A → Data → Option A
record_in reading d = option_map (λ read. read.0) (option_and_then reading (as_object d))

-- the members that aren't read yet
abbrev pub left_in : Entries → Members
left_in entries = fields_view entries.fields

-- the answer is what is due; none where a value is of another kind; or memory ran out
abbrev pub Answers : {A : Type 0} → Result A Unread → Option A → Type 0
Answers (Ok x) due = due ≡ Some x
Answers (Err Other) due = due ≡ None
Answers (Err NoMemory) due = Unit {0}

-- the answer of a function that reads members is what the reading makes of those before, and those behind are left; or none
-- where they are of another kind; or memory ran out
unfoldable pub Reads : {A : Type 0} → Reading A → Entries → Entries → Result A Unread → Type 0
Reads reading before after (Ok x) = reading (left_in before) ≡ Some (x, left_in after)
Reads reading before after (Err Other) = reading (left_in before) ≡ None
Reads reading before after (Err NoMemory) = Unit {0}

-- the value of the first member, which has this name; or there is none, or it has another name
unfoldable pub Takes : List ℕ → Entries → Entries → Result Value Unread → Type 0
Takes name before after (Ok value) = left_in before ≡ member name (view value) (left_in after)
Takes name before after (Err Other) = entry name Some (left_in before) ≡ None
Takes name before after (Err NoMemory) = Unit {0}
