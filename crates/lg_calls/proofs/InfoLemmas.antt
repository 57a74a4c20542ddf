-- Reading what a worker tells, one after another.
use Rattle.std.proofs.Common.{◌≡◌, ℕ, List, [], ◌∷◌, ◌++◌, Option, None, Result, Ok, Err, length, refl, sym, ap, append_assoc}
use Rattle.serde_json.specs.Data.{Data, Members, member}
use Rattle.serde_json.specs.Find.{get_member}
use Rattle.serde_json.specs.View.{items_view}
use Rattle.serde_json.specs.declared.value.Value.{Value}
use Rattle.lg_json.specs.declared.fields.TakeFault.TheVariants as Take
use Rattle.lg_json.specs.Fields.{Read, ◌>>=◌, each_member, IsTakenOut}
use Rattle.lg_calls.specs.Infos.{two_in, Meets}
use Rattle.lg_calls.specs.Reading.{Reads, field, left_in, taken_as}
use Rattle.lg_calls.specs.declared.arguments.Arguments.{Arguments}
use Rattle.lg_calls.specs.declared.refusal.PayloadFault.{PayloadFault}

-- what was read so far, and what is read behind it
abbrev pub joined : {A : Type 0} → List A → Read (List A) → Read (List A)
joined read (Ok later) = Ok (read ++ later)
joined read (Err fault) = Err fault

joined-first : {A : Type 0} (read : List A) (x : A) (later : Read (List A))
    → joined read (later >>= λ xs. Ok (x ∷ xs)) ≡ joined (read ++ x ∷ []) later
joined-first read x (Ok later) = ap Ok (sym (append_assoc read (x ∷ []) later))
joined-first read x (Err fault) = refl

-- one more member
pub joined-member : {A : Type 0} (kind : Data → Read A) (read : List (List ℕ × A)) (name : List ℕ) (d : Data) (later : Members) (x : A) → kind d ≡ Ok x
    → joined read (each_member kind (member name d later)) ≡ joined (read ++ (name, x) ∷ []) (each_member kind later)
joined-member kind read name d later x is = rw is (joined-first read (name, x) (each_member kind later))

-- another number of items than two
pub two_in-other : (items : List Value) → (length items ≡ 2 → ⊥) → None ≡ two_in (items_view items)
two_in-other [] other = refl
two_in-other (first ∷ []) other = refl
two_in-other (first ∷ second ∷ []) other = absurd (other refl)
two_in-other (first ∷ second ∷ third ∷ later) other = refl

-- a field whose answer may want memory
field_meets : {A : Type 0} (kind : Option Data → Read (Option A)) (name : List ℕ) (before after : Arguments) (answer : Read (Option A))
    → Meets answer (kind (get_member name (left_in before))) → IsTakenOut name (left_in before) (left_in after)
    → Reads (field kind name) before after (taken_as name answer)
unfolding field Reads
field_meets kind name before after (Ok x) due out = rw (due, out.same) refl
field_meets kind name before after (Err Take.WrongKind) due out = rw due refl
field_meets kind name before after (Err Take.OutOfRange) due out = rw due refl
field_meets kind name before after (Err Take.NoMemory) due out = tt

pub met_field_reads : {A : Type 0} (kind : Option Data → Read (Option A)) (name : List ℕ) (before after : Arguments) (answer : Read (Option A))
    (result : Result (Option A) PayloadFault)
    → Meets answer (kind (get_member name (left_in before))) → IsTakenOut name (left_in before) (left_in after)
    → result ≡ taken_as name answer → Reads (field kind name) before after result
met_field_reads kind name before after answer result due out is = rw is (field_meets kind name before after answer due out)
