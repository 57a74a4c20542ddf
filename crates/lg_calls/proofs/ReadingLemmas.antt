-- Readings that follow one another, and what a function that makes them answers.
use Rattle.std.proofs.Common.{◌≡◌, ℕ, Bool, true, false, List, Option, Some, None, Result, Ok, Err, OnOk, Vec, Global, refl, sym, ap, ◌∙◌}
use Rattle.std.specs.Result.{IsErrAnd}
use Rattle.std.proofs.lemmas.Result.{err_from_is_err_and}
use Rattle.serde_json.specs.Data.{Data, Members}
use Rattle.serde_json.specs.Find.{get_member}
use Rattle.lg_json.specs.Fields.{Read, Gives, IsTakenOut, items_of}
use Rattle.lg_json.specs.declared.fields.TakeFault.TheVariants as Take
use Rattle.lg_calls.specs.Reading.{Reading, ◌>>=◌, read_on, done, field, present, ranged, left_in, taken_as, present_as, Reads}
use Rattle.lg_calls.specs.declared.arguments.Arguments.{Arguments}
use Rattle.lg_calls.specs.declared.refusal.PayloadFault.{PayloadFault}
use Rattle.lg_calls.specs.declared.refusal.Refusal.{Refusal}
use Rattle.lg_calls.specs.declared.refusal.Refusal.TheVariants.{OutOfRange}
use Rattle.lg_calls.specs.declared.refusal.PayloadFault.TheVariants.{Refused, NoMemory}

-- what is read first, and behind it the rest
pub then_reads : {A B : Type 0} (first : Reading A) (next : A → Reading B) (before mid after : Arguments) (x : A) (result : Result B PayloadFault)
    → Reads first before mid (Ok x) → Reads (next x) mid after result → Reads (first >>= next) before after result
unfolding ◌>>=◌ Reads
then_reads first next before mid after x (Ok y) is rest = ap (λ r. read_on r next) is ∙ rest
then_reads first next before mid after x (Err (Refused refusal)) is rest = ap (λ r. read_on r next) is ∙ rest
then_reads first next before mid after x (Err NoMemory) is rest = tt

-- a refusal of the first is one of the whole
pub refused_reads : {A B : Type 0} (first : Reading A) (next : A → Reading B) (before mid after : Arguments) (fault : PayloadFault)
    → Reads first before mid (Err fault) → Reads (first >>= next) before after (Err fault)
unfolding ◌>>=◌ Reads
refused_reads first next before mid after (Refused refusal) is = ap (λ r. read_on r next) is
refused_reads first next before mid after NoMemory is = tt

-- where the first refuses, its refusal is that of the whole
pub first_refused : {A B : Type 0} (first : Reading A) (next : A → Reading B) (fields : Members) (refusal : Refusal)
    → first fields ≡ Err refusal → (first >>= next) fields ≡ Err refusal
unfolding ◌>>=◌
first_refused first next fields refusal is = ap (λ r. read_on r next) is

-- the exit of a `?`
pub stopped_reads : {A B : Type 0} (first : Reading A) (next : A → Reading B) (before mid after : Arguments) (fault : PayloadFault) (result : Result B PayloadFault)
    → Reads first before mid (Err fault) → IsErrAnd result (λ told. told ≡ fault) → Reads (first >>= next) before after result
stopped_reads first next before mid after fault result is told =
    let p = err_from_is_err_and result told in
    rw (p.1, p.2) (refused_reads first next before mid after fault is)

-- the exit of a `?` behind which nothing more is read
pub failed_reads : {A : Type 0} (reading : Reading A) (before after : Arguments) (fault : PayloadFault) (result : Result A PayloadFault)
    → Reads reading before after (Err fault) → IsErrAnd result (λ told. told ≡ fault) → Reads reading before after result
failed_reads reading before after fault result is told = let p = err_from_is_err_and result told in rw (p.1, p.2) is

-- want of memory
pub wanting_reads : {A : Type 0} (reading : Reading A) (before after : Arguments) (result : Result A PayloadFault)
    → IsErrAnd result (λ told. told ≡ NoMemory) → Reads reading before after result
unfolding Reads
wanting_reads reading before after result told = let p = err_from_is_err_and result told in rw (p.1, p.2) tt

-- another name of what was read
pub same_reads : {A : Type 0} (reading : Reading A) (before after : Arguments) (x y : A)
    → Reads reading before after (Ok x) → y ≡ x → Reads reading before after (Ok y)
same_reads reading before after x y is same = rw same is

-- nothing more is read
pub done_reads : {A : Type 0} (x y : A) (before : Arguments) → y ≡ x → Reads (done x) before before (Ok y)
unfolding done Reads
done_reads x y before is = ap (λ z. Ok (z, left_in before)) (sym is)

-- what has to be there
present_is : {A : Type 0} (name : List ℕ) (answer : Option A) (before : Arguments) → Reads (present name answer) before before (present_as name answer)
unfolding present Reads
present_is name (Some x) before = refl
present_is name None before = refl

pub present_reads : {A : Type 0} (name : List ℕ) (answer : Option A) (before : Arguments) (result : Result A PayloadFault)
    → result ≡ present_as name answer → Reads (present name answer) before before result
present_reads name answer before result is = rw is (present_is name answer before)

-- what was read is in its range
pub in_range_reads : {A : Type 0} (name : List ℕ) (in_range : Bool) (x y : A) (before : Arguments)
    → in_range ≡ true → y ≡ x → Reads (ranged name in_range x) before before (Ok y)
unfolding ranged Reads
in_range_reads name in_range x y before holds is = rw (holds, is) refl

-- what was read is not in its range
pub out_of_range_reads : {A : Type 0} (name : List ℕ) (in_range : Bool) (x : A) (before : Arguments) (fault : PayloadFault)
    → in_range ≡ false → fault ≡ Refused (OutOfRange name) → Reads (ranged name in_range x) before before (Err fault)
unfolding ranged Reads
out_of_range_reads name in_range x before fault fails is = rw (is, fails) refl

-- a field that was taken
field_is : {A : Type 0} (kind : Option Data → Read (Option A)) (name : List ℕ) (before after : Arguments) (answer : Read (Option A))
    → Gives answer (kind (get_member name (left_in before))) → OnOk answer (IsTakenOut name (left_in before) (left_in after))
    → Reads (field kind name) before after (taken_as name answer)
unfolding field Reads
field_is kind name before after (Ok x) due out = rw (due, out.same) refl
field_is kind name before after (Err Take.WrongKind) due out = rw due refl
field_is kind name before after (Err Take.OutOfRange) due out = rw due refl
field_is kind name before after (Err Take.NoMemory) due out = tt

pub field_reads : {A : Type 0} (kind : Option Data → Read (Option A)) (name : List ℕ) (before after : Arguments) (answer : Read (Option A))
    (result : Result (Option A) PayloadFault)
    → Gives answer (kind (get_member name (left_in before))) → OnOk answer (IsTakenOut name (left_in before) (left_in after))
    → result ≡ taken_as name answer → Reads (field kind name) before after result
field_reads kind name before after answer result due out is = rw is (field_is kind name before after answer due out)

-- a field that was taken, where no memory is wanted
field_due : {A : Type 0} (kind : Option Data → Read (Option A)) (name : List ℕ) (before after : Arguments) (answer : Read (Option A))
    → answer ≡ kind (get_member name (left_in before)) → OnOk answer (IsTakenOut name (left_in before) (left_in after))
    → Reads (field kind name) before after (taken_as name answer)
unfolding field Reads
field_due kind name before after (Ok x) due out = rw (← due, out.same) refl
field_due kind name before after (Err Take.WrongKind) due out = rw (← due) refl
field_due kind name before after (Err Take.OutOfRange) due out = rw (← due) refl
field_due kind name before after (Err Take.NoMemory) due out = tt

pub due_field_reads : {A : Type 0} (kind : Option Data → Read (Option A)) (name : List ℕ) (before after : Arguments) (answer : Read (Option A))
    (result : Result (Option A) PayloadFault)
    → answer ≡ kind (get_member name (left_in before)) → OnOk answer (IsTakenOut name (left_in before) (left_in after))
    → result ≡ taken_as name answer → Reads (field kind name) before after result
due_field_reads kind name before after answer result due out is = rw is (field_due kind name before after answer due out)

-- a list that was taken, by its items
OnOk-items_of : {T : Type 0} (answer : Read (Option (Vec T Global))) (P : Type 0) → OnOk answer P → OnOk (items_of answer) P
OnOk-items_of (Ok x) P holds = holds
OnOk-items_of (Err fault) P holds = tt

pub list_field_reads : {T : Type 0} (kind : Option Data → Read (Option (List T))) (name : List ℕ) (before after : Arguments) (answer : Read (Option (Vec T Global)))
    (result : Result (Option (List T)) PayloadFault)
    → Gives (items_of answer) (kind (get_member name (left_in before))) → OnOk answer (IsTakenOut name (left_in before) (left_in after))
    → result ≡ taken_as name (items_of answer) → Reads (field kind name) before after result
list_field_reads kind name before after answer result due out is = field_reads kind name before after (items_of answer) result due (OnOk-items_of answer _ out) is

-- what a function that reads arguments answers, by its calls
pub ruleset readings = (then_reads, stopped_reads, failed_reads, wanting_reads, same_reads, done_reads, present_reads, in_range_reads, out_of_range_reads)
