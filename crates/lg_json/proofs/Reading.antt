-- Items and members that are read one after another.
use Rattle.std.proofs.Common.{◌≡◌, ℕ, ◌+◌, ◌<◌, List, [], ◌∷◌, ◌++◌, length, get_or, drop, append_assoc, Some, Ok, Err, refl, sym, ap, ◌∙◌, arith}
use Rattle.std.proofs.lemmas.List.{drop_more}
use Rattle.std.specs.Result.{result_ok}
use Rattle.serde_json.specs.Data.{Data, Items, item, Members, member}
use Rattle.serde_json.specs.View.{view, items_view}
use Rattle.serde_json.specs.declared.value.Value.{Value}
use Rattle.lg_json.specs.declared.fields.TakeFault.{TakeFault}
use Rattle.serde_json.specs.Find.{as_str}
use Rattle.lg_json.specs.Fields.{Read, ◌>>=◌, of_kind, text_of, amount_of, each_item, each_member, checked}

-- what is read of the first, and of those behind it
pub record Read_first {A B : Type 0} (first : Read A) (behind : Read (List B)) (join : A → List B → List B) (all : List B) : Type 0 where
  pub x : A
  pub later : List B
  pub reads : first ≡ Ok x
  pub reads_on : behind ≡ Ok later
  pub joined : all ≡ join x later

some_is : {A : Type 0} (x y : A) → Some x ≡ Some y → x ≡ y
some_is x y is = cc

pub ok_is : {A : Type 0} (x y : A) → ◌≡◌ {A = Read A} (Ok x) (Ok y) → x ≡ y
ok_is x y is = cc

both : {A B : Type 0} (first : Read A) (behind : Read (List B)) (join : A → List B → List B) (all : List B)
    → (first >>= λ x. behind >>= λ xs. Ok (join x xs)) ≡ Ok all → Read_first first behind join all
both (Ok x) (Ok xs) join all is = record { x = x; later = xs; reads = refl; reads_on = refl; joined = sym (ok_is (join x xs) all is) }
both (Ok x) (Err fault) join all is = absurd cc
both (Err fault) behind join all is = absurd cc

pub item_first : {A : Type 0} (read : Data → Read A) (d : Data) (ds : Items) (all : List A) → each_item read (item d ds) ≡ Ok all → Read_first (read d) (each_item read ds) (λ x xs. x ∷ xs) all
item_first read d ds all is = both (read d) (each_item read ds) (λ x xs. x ∷ xs) all is

pub member_first : {A : Type 0} (read : Data → Read A) (name : List ℕ) (d : Data) (ms : Members) (all : List (List ℕ × A))
    → each_member read (member name d ms) ≡ Ok all → Read_first (read d) (each_member read ms) (λ x xs. (name, x) ∷ xs) all
member_first read name d ms all is = both (read d) (each_member read ms) (λ x xs. (name, x) ∷ xs) all is

-- what is checked behind a first that was read
checked_on : {A B : Type 0} (first : Read A) (behind : Read (List B)) (join : A → List B → List B) → checked first ≡ Ok tt
    → checked (first >>= λ x. behind >>= λ xs. Ok (join x xs)) ≡ checked behind
checked_on (Ok x) (Ok xs) join is = refl
checked_on (Ok x) (Err fault) join is = refl
checked_on (Err fault) behind join is = absurd cc

checked_first : {A B : Type 0} (first : Read A) (fault : TakeFault) (next : A → Read B) → checked first ≡ Err fault → checked (first >>= next) ≡ Err fault
checked_first (Ok x) fault next is = absurd cc
checked_first (Err f) fault next is = is

pub checked_item : {A : Type 0} (read : Data → Read A) (d : Data) (ds : Items) → checked (read d) ≡ Ok tt → checked (each_item read (item d ds)) ≡ checked (each_item read ds)
checked_item read d ds is = checked_on (read d) (each_item read ds) (λ x xs. x ∷ xs) is

pub refused_item : {A : Type 0} (read : Data → Read A) (d : Data) (ds : Items) (fault : TakeFault) → checked (read d) ≡ Err fault → checked (each_item read (item d ds)) ≡ Err fault
refused_item read d ds fault is = checked_first (read d) fault _ is

pub checked_member : {A : Type 0} (read : Data → Read A) (name : List ℕ) (d : Data) (ms : Members) → checked (read d) ≡ Ok tt → checked (each_member read (member name d ms)) ≡ checked (each_member read ms)
checked_member read name d ms is = checked_on (read d) (each_member read ms) (λ x xs. (name, x) ∷ xs) is

pub refused_member : {A : Type 0} (read : Data → Read A) (name : List ℕ) (d : Data) (ms : Members) (fault : TakeFault) → checked (read d) ≡ Err fault → checked (each_member read (member name d ms)) ≡ Err fault
refused_member read name d ms fault is = checked_first (read d) fault _ is

-- as many are read as there are items
pub length-each_item : {A : Type 0} (read : Data → Read A) (vs : List Value) (all : List A) → each_item read (items_view vs) ≡ Ok all → length all ≡ length vs
length-each_item read [] all is = ap length (sym (ok_is [] all is))
length-each_item read (v ∷ vs) all is =
    let first = item_first read (view v) (items_view vs) all is in
    omega (arith, ap length first.joined, length-each_item read vs first.later first.reads_on)

-- the item at hand is the first of those that are left
pub items_left : (vs : List Value) (i : ℕ) (v : Value) → i < length vs → v ≡ get_or vs i v → items_view (drop i vs) ≡ item (view v) (items_view (drop (i + 1) vs))
items_left vs i v within is = ap items_view (drop_more vs i v within ∙ ap (λ y. y ∷ drop (i + 1) vs) (sym is))

-- one more is moved
pub moved : {A : Type 0} (done : List A) (x : A) (later left : List A) → left ≡ x ∷ later → done ++ left ≡ (done ++ x ∷ []) ++ later
moved done x later left is = ap (λ ys. done ++ ys) is ∙ sym (append_assoc done (x ∷ []) later)

-- a text that was moved is the one that was read
pub read_text : (d : Data) (text x : List ℕ) → as_str d ≡ Some text → text_of d ≡ Ok x → x ≡ text
read_text d text x is reads = ok_is x text (sym reads ∙ ap (λ o. of_kind o Ok) is)

pub read_amount : (d : Data) (amount x : ℕ) → result_ok (amount_of d) ≡ Some amount → amount_of d ≡ Ok x → x ≡ amount
read_amount d amount x is reads = some_is x amount (sym (ap (λ r. result_ok r) reads) ∙ is)

pub none_read : {A : Type 0} (all : List A) → ◌≡◌ {A = Read (List A)} (Ok []) (Ok all) → all ≡ []
none_read all is = sym (ok_is [] all is)
