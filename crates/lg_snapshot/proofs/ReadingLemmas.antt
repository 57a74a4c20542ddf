-- Readings that follow one another, and what a function that makes them answers.
use Rattle.std.proofs.Common.{◌≡◌, ℕ, Bool, true, false, List, Option, Some, None, Result, Ok, Err, option_map, option_and_then, refl, sym, ap, ◌∙◌}
use Rattle.std.specs.Result.{IsErrAnd}
use Rattle.std.specs.Str.{bytes_eq}
use Rattle.std.proofs.lemmas.Result.{err_from_is_err_and}
use Rattle.serde_json.specs.Data.{Data, Members, no_members, member}
use Rattle.serde_json.specs.Find.{as_object}
use Rattle.serde_json.specs.View.{view}
use Rattle.serde_json.specs.declared.value.Value.{Value}
use Rattle.lg_snapshot.specs.declared.entries.Entries.{Entries}
use Rattle.lg_snapshot.specs.declared.entries.Unread.{Unread}
use Rattle.lg_snapshot.specs.declared.entries.Unread.TheVariants.{Other, NoMemory}
use Rattle.lg_snapshot.specs.Reading.{Reading, ◌>>=◌, read_on, done, where_named, entry, record_in, left_in, Answers, Reads, Takes}
use Rattle.lg_snapshot.proofs.Names.{same_bytes, name_is}

-- what is read first, and behind it the rest
pub then_reads : {A B : Type 0} (first : Reading A) (next : A → Reading B) (before mid after : Entries) (x : A) (result : Result B Unread)
    → Reads first before mid (Ok x) → Reads (next x) mid after result → Reads (first >>= next) before after result
unfolding ◌>>=◌ Reads
then_reads first next before mid after x (Ok y) is rest = ap (λ r. read_on r next) is ∙ rest
then_reads first next before mid after x (Err Other) is rest = ap (λ r. read_on r next) is ∙ rest
then_reads first next before mid after x (Err NoMemory) is rest = tt

-- a refusal of the first is one of the whole
refused_reads : {A B : Type 0} (first : Reading A) (next : A → Reading B) (before mid after : Entries) (fault : Unread)
    → Reads first before mid (Err fault) → Reads (first >>= next) before after (Err fault)
unfolding ◌>>=◌ Reads
refused_reads first next before mid after Other is = ap (λ r. read_on r next) is
refused_reads first next before mid after NoMemory is = tt

-- the exit of a `?`
pub stopped_reads : {A B : Type 0} (first : Reading A) (next : A → Reading B) (before mid after : Entries) (fault : Unread) (result : Result B Unread)
    → Reads first before mid (Err fault) → IsErrAnd result (λ told. told ≡ fault) → Reads (first >>= next) before after result
stopped_reads first next before mid after fault result is told =
    let p = err_from_is_err_and result told in
    rw (p.1, p.2) (refused_reads first next before mid after fault is)

-- memory ran out
pub no_memory_reads : {A : Type 0} (reading : Reading A) (before after : Entries) (result : Result A Unread)
    → IsErrAnd result (λ told. told ≡ NoMemory) → Reads reading before after result
unfolding Reads
no_memory_reads reading before after result told =
    let p = err_from_is_err_and result told in
    rw (p.1, p.2) tt

-- nothing more is read
pub done_reads : {A : Type 0} (x y : A) (before : Entries) → y ≡ x → Reads (done x) before before (Ok y)
unfolding done Reads
done_reads x y before is = ap (λ z. Some (z, left_in before)) (sym is)

-- ---- one member

-- no member is left
pub none_taken : (name : List ℕ) (before after : Entries) → left_in before ≡ no_members → Takes name before after (Err Other)
unfolding Takes entry
none_taken name before after is = ap (entry name Some) is

-- the first member has the name
pub named_taken : (name found : List ℕ) (before after : Entries) (value : Value) → left_in before ≡ member found (view value) (left_in after) → bytes_eq found name ≡ true → Takes name before after (Ok value)
unfolding Takes
named_taken name found before after value is same = is ∙ ap (λ n. member n (view value) (left_in after)) (name_is found name same)

-- it has another
pub other_taken : (name found : List ℕ) (before after : Entries) (value : Value) → left_in before ≡ member found (view value) (left_in after) → bytes_eq found name ≡ false → Takes name before after (Err Other)
unfolding Takes entry
other_taken name found before after value is differs = ap (entry name Some) is ∙ ap (λ b. where_named b (Some (view value)) (left_in after)) differs

pub member_entry : {A : Type 0} (name : List ℕ) (kind : Data → Option A) (d : Data) (left : Members) → entry name kind (member name d left) ≡ where_named true (kind d) left
unfolding entry
member_entry name kind d left = ap (λ b. where_named b (kind d) left) (same_bytes name)

-- the member was taken, and its value read
pub taken_reads : {A : Type 0} (name : List ℕ) (kind : Data → Option A) (before after : Entries) (value : Value) (result : Result A Unread)
    → Takes name before after (Ok value) → Answers result (kind (view value)) → Reads (entry name kind) before after result
unfolding Takes Reads
taken_reads name kind before after value (Ok x) taken is = ap (entry name kind) taken ∙ (member_entry name kind (view value) (left_in after) ∙ ap (λ o. where_named true o (left_in after)) is)
taken_reads name kind before after value (Err Other) taken is = ap (entry name kind) taken ∙ (member_entry name kind (view value) (left_in after) ∙ ap (λ o. where_named true o (left_in after)) is)
taken_reads name kind before after value (Err NoMemory) taken is = tt

none_named : {A : Type 0} (b : Bool) (found : Option A) (d : Data) (left : Members) → where_named b (Some d) left ≡ None → where_named b found left ≡ None
none_named true found d left is = absurd cc
none_named false found d left is = refl

no_entry : {A : Type 0} (name : List ℕ) (kind : Data → Option A) (members : Members) → entry name Some members ≡ None → entry name kind members ≡ None
unfolding entry
no_entry name kind no_members is = refl
no_entry name kind (member other d left) is = none_named (bytes_eq other name) (kind d) d left is

-- the member was not taken
untaken : {A : Type 0} (name : List ℕ) (kind : Data → Option A) (before mid after : Entries) (fault : Unread) → Takes name before mid (Err fault) → Reads (entry name kind) before after (Err fault)
unfolding Takes Reads
untaken name kind before mid after Other is = no_entry name kind (left_in before) is
untaken name kind before mid after NoMemory is = tt

pub untaken_reads : {A : Type 0} (name : List ℕ) (kind : Data → Option A) (before mid after : Entries) (fault : Unread) (result : Result A Unread)
    → Takes name before mid (Err fault) → IsErrAnd result (λ told. told ≡ fault) → Reads (entry name kind) before after result
untaken_reads name kind before mid after fault result is told =
    let p = err_from_is_err_and result told in
    rw (p.1, p.2) (untaken name kind before mid after fault is)

-- ---- a whole object

-- the members of an object were read
read_of : {A : Type 0} (reading : Reading A) (d : Data) (before after : Entries) (result : Result A Unread)
    → as_object d ≡ Some (left_in before) → Reads reading before after result → Answers result (record_in reading d)
unfolding Reads
read_of reading d before after (Ok x) is read = ap (λ o. option_map (λ p. p.0) (option_and_then reading o)) is ∙ ap (option_map (λ p. p.0)) read
read_of reading d before after (Err Other) is read = ap (λ o. option_map (λ p. p.0) (option_and_then reading o)) is ∙ ap (option_map (λ p. p.0)) read
read_of reading d before after (Err NoMemory) is read = tt

pub object_reads : {A : Type 0} (reading : Reading A) (d : Data) (before after : Entries) (result : Result A Unread)
    → as_object d ≡ Some (left_in before) → Reads reading before after result → Answers result (record_in reading d)
object_reads reading d before after result is read = read_of reading d before after result is read

-- the value is no object
pub no_object : {A : Type 0} (reading : Reading A) (d : Data) (fault : Unread) (result : Result A Unread)
    → (fault ≡ Other) × (as_object d ≡ None) → IsErrAnd result (λ told. told ≡ fault) → Answers result (record_in reading d)
no_object reading d fault result is told =
    let p = err_from_is_err_and result told in
    rw (p.1, p.2, is.0) (ap (λ o. option_map (λ q. q.0) (option_and_then reading o)) is.1)
