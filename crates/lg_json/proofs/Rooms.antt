-- Room for what is read: how much there is, and why it is refused.
use Rattle.std.proofs.Common.{◌≡◌, ℕ, List, [], ◌∷◌, length, Bool, true, false, nat_lt, cond, Option, Some, None, Ok, Err, refl, ap, arith}
use Rattle.std.specs.Prelude.{◌^◌}
use Rattle.serde_json.specs.Data.{Num, unsigned, negative, float, Data, Items, no_items, item, Members, no_members, member}
use Rattle.serde_json.specs.Find.{as_str, as_number}
use Rattle.serde_json.specs.View.{view, members_view}
use Rattle.serde_json.proofs.Views.{Entry}
use Rattle.lg_json.specs.declared.fields.TakeFault.{TakeFault}
use Rattle.lg_json.specs.declared.fields.TakeFault.TheVariants.{WrongKind, OutOfRange, NoMemory}
use Rattle.lg_json.specs.Fields.{Read, ◌>>=◌, of_kind, within, text_of, amount_of, each_item, each_member, checked, Gives}
use Rattle.lg_json.proofs.Reading.{member_first, none_read}

err_is : {A : Type 0} (f g : TakeFault) → ◌≡◌ {A = Read A} (Err f) (Err g) → f ≡ g
err_is f g is = cc

-- reading wants no memory
abbrev pub WantsNone : {A : Type 0} → Read A → Type 0
WantsNone answer = answer ≡ Err NoMemory → ⊥

wants_none-then : {A B : Type 0} (first : Read A) (next : A → Read B) → WantsNone first → ((x : A) → WantsNone (next x)) → WantsNone (first >>= next)
wants_none-then (Ok x) next never later is = later x is
wants_none-then (Err fault) next never later is = never (ap (λ f. Err f) (err_is fault NoMemory is))

wants_none-ok : {A : Type 0} (x : A) → WantsNone (Ok x)
wants_none-ok x is = cc

pub wants_none-items : {A : Type 0} (read : Data → Read A) → ((d : Data) → WantsNone (read d)) → (ds : Items) → WantsNone (each_item read ds)
wants_none-items read never no_items = wants_none-ok []
wants_none-items read never (item d ds) = wants_none-then (read d) _ (never d) (λ x. wants_none-then (each_item read ds) _ (wants_none-items read never ds) (λ xs. wants_none-ok (x ∷ xs)))

pub wants_none-members : {A : Type 0} (read : Data → Read A) → ((d : Data) → WantsNone (read d)) → (ms : Members) → WantsNone (each_member read ms)
wants_none-members read never no_members = wants_none-ok []
wants_none-members read never (member name d ms) = wants_none-then (read d) _ (never d) (λ x. wants_none-then (each_member read ms) _ (wants_none-members read never ms) (λ xs. wants_none-ok ((name, x) ∷ xs)))

of_text : (text : Option (List ℕ)) → WantsNone (of_kind text Ok)
of_text (Some text) is = cc
of_text None is = cc

pub wants_none-text : (d : Data) → WantsNone (text_of d)
wants_none-text d = of_text (as_str d)

small : (b : Bool) (n : ℕ) → WantsNone (cond b (Ok n) (Err OutOfRange))
small true n is = cc
small false n is = cc

of_number : (n : Option Num) → WantsNone (of_kind n within)
of_number None = λ is. cc
of_number (Some (unsigned n)) = small (nat_lt n (2 ^ 32)) n
of_number (Some (negative z)) = λ is. cc
of_number (Some (float x)) = λ is. cc

pub wants_none-amount : (d : Data) → WantsNone (amount_of d)
wants_none-amount d = of_number (as_number d)

-- a refusal that is due
pub Gives-fault : {A : Type 0} (fault : TakeFault) (due : Read A) → checked due ≡ Err fault → WantsNone due → Gives (Err fault) due
Gives-fault fault (Ok x) is never = absurd cc
Gives-fault WrongKind (Err f) is never = ap (λ y. Err y) (err_is f WrongKind is)
Gives-fault OutOfRange (Err f) is never = ap (λ y. Err y) (err_is f OutOfRange is)
Gives-fault NoMemory (Err f) is never = absurd (never (ap (λ y. Err y) (err_is f NoMemory is)))

-- what was checked is read
pub checked_ok : {A : Type 0} (due : Read A) → checked due ≡ Ok tt → (x : A) × (due ≡ Ok x)
checked_ok (Ok x) is = (x, refl)
checked_ok (Err fault) is = absurd cc

-- as many are read as there are members
pub length-each_member : {A : Type 0} (read : Data → Read A) (es : List Entry) (all : List (List ℕ × A)) → each_member read (members_view es) ≡ Ok all → length all ≡ length es
length-each_member read [] all is = ap length (none_read all is)
length-each_member read (e ∷ es) all is =
    let first = member_first read _ (view e.1) (members_view es) all is in
    omega (arith, ap length first.joined, length-each_member read es first.later first.reads_on)
