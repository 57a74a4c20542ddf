-- Items and members, one after another.
use Rattle.std.proofs.Common.{◌≡◌, ℕ, suc, ◌+◌, ◌<◌, ◌≤◌, ◌||◌, List, [], ◌∷◌, ◌++◌, codes, length, get_or, drop, map, Ok, Err, String, Global, Bor, string_bytes, refl, sym, ap, ◌∙◌, append_assoc, append-nil}
use Rattle.std.proofs.lemmas.List.{drop_all}
use Rattle.std.specs.FinMap.{insert}
use Rattle.std.specs.List.{list_any}
use Rattle.std.specs.Str.{bytes_eq}
use Rattle.lg_declare.specs.Template.{is_among}
use Rattle.toml.proofs.Views.{Entry, items_view-drop}
use Rattle.toml.specs.Data.{Data, Items, item, Members, member}
use Rattle.toml.specs.View.{view, items_view, members_view}
use Rattle.toml.specs.declared.value.Value.{Value}
use Rattle.lg_base.specs.Amounts.{AmountsByName}
use Rattle.lg_declare.specs.Declaring.{Answers}
use Rattle.lg_declare.specs.Keys.{member_keys, item_list}
use Rattle.lg_declare.specs.Parameters.{choice_of, choices_from}
use Rattle.lg_declare.specs.Reading.{Read, ◌>>=◌, each_item, each_member, known_key, only_keys}
use Rattle.lg_declare.specs.Terms.{amounts_from, count_at}
use Rattle.lg_declare.specs.declared.declare_fault.DeclareFault.{DeclareFault}
use Rattle.lg_declare.proofs.DeclaringLemmas.{gives, given, stays}

-- what was read, and what is read behind it
abbrev pub behind : {A : Type 0} → List A → Read (List A) → Read (List A)
behind xs later = later >>= λ ys. Ok (xs ++ ys)

one_more : {A : Type 0} (xs : List A) (x : A) (later : Read (List A)) → behind xs (later >>= λ ys. Ok (x ∷ ys)) ≡ behind (xs ++ x ∷ []) later
unfolding ◌>>=◌
one_more xs x (Ok ys) = ap Ok (sym (append_assoc xs (x ∷ []) ys))
one_more xs x (Err fault) = refl

all_read : {A : Type 0} (xs : List A) (due : Read (List A)) → due ≡ behind xs (Ok []) → Answers (Ok xs) due
unfolding ◌>>=◌
all_read xs due is = gives xs due (is ∙ ap Ok (append-nil xs))

-- ---- items

next_item : {A : Type 0} (due : Data → Read A) (xs : List A) (d : Data) (ds : Items) (x : A) → Answers (Ok x) (due d)
    → behind xs (each_item due (item d ds)) ≡ behind (xs ++ x ∷ []) (each_item due ds)
unfolding each_item ◌>>=◌
next_item due xs d ds x is = rw (given x (due d) is) (one_more xs x (each_item due ds))

faulty_item : {A : Type 0} (due : Data → Read A) (xs : List A) (d : Data) (ds : Items) (fault : DeclareFault) → Answers (Err fault) (due d)
    → Answers (Err fault) (behind xs (each_item due (item d ds)))
unfolding each_item
faulty_item due xs d ds fault is = stays _ _ fault (stays (due d) _ fault is)

pub item_read : {A : Type 0} (due : Data → Read A) (all : Read (List A)) (xs : List A) (vs : List Value) (i : ℕ) (v : Value) (x : A)
    → i < length vs → v ≡ get_or vs i v → Answers (Ok x) (due (view v))
    → all ≡ behind xs (each_item due (items_view (drop i vs))) → all ≡ behind (xs ++ x ∷ []) (each_item due (items_view (drop (i + 1) vs)))
item_read due all xs vs i v x lt here is before =
    before ∙ ap (λ ds. behind xs (each_item due ds)) (items_view-drop vs i v lt)
    ∙ next_item due xs (view (get_or vs i v)) (items_view (drop (i + 1) vs)) x (rw (← here) is)

pub item_refused : {A : Type 0} (due : Data → Read A) (all : Read (List A)) (xs : List A) (vs : List Value) (i : ℕ) (v : Value) (fault : DeclareFault)
    → i < length vs → v ≡ get_or vs i v → Answers (Err fault) (due (view v))
    → all ≡ behind xs (each_item due (items_view (drop i vs))) → Answers (Err fault) all
item_refused due all xs vs i v fault lt here is before =
    rw (before ∙ ap (λ ds. behind xs (each_item due ds)) (items_view-drop vs i v lt))
    (faulty_item due xs (view (get_or vs i v)) (items_view (drop (i + 1) vs)) fault (rw (← here) is))

no_item : {A : Type 0} (due : Data → Read A) (vs : List Value) → vs ≡ [] → each_item due (items_view vs) ≡ Ok []
unfolding each_item
no_item due vs is = rw is refl

pub items_read : {A : Type 0} (due : Data → Read A) (all : Read (List A)) (xs : List A) (vs : List Value) (i : ℕ)
    → length vs ≤ i → all ≡ behind xs (each_item due (items_view (drop i vs))) → Answers (Ok xs) all
items_read due all xs vs i over before = all_read xs all (before ∙ ap (behind xs) (no_item due (drop i vs) (drop_all i vs over)))

pub first_items : {A : Type 0} (all : Read (List A)) → all ≡ behind [] all
unfolding ◌>>=◌
first_items (Ok xs) = refl
first_items (Err fault) = refl

-- ---- members

next_member : {A : Type 0} (due : List ℕ → Data → Read A) (xs : List A) (key : List ℕ) (d : Data) (ms : Members) (x : A) → Answers (Ok x) (due key d)
    → behind xs (each_member due (member key d ms)) ≡ behind (xs ++ x ∷ []) (each_member due ms)
unfolding each_member ◌>>=◌
next_member due xs key d ms x is = rw (given x (due key d) is) (one_more xs x (each_member due ms))

faulty_member : {A : Type 0} (due : List ℕ → Data → Read A) (xs : List A) (key : List ℕ) (d : Data) (ms : Members) (fault : DeclareFault)
    → Answers (Err fault) (due key d) → Answers (Err fault) (behind xs (each_member due (member key d ms)))
unfolding each_member
faulty_member due xs key d ms fault is = stays _ _ fault (stays (due key d) _ fault is)

pub member_read : {A : Type 0} (due : List ℕ → Data → Read A) (all : Read (List A)) (xs : List A) (key : String Global) (v : Value) (es later : List Entry) (name : List ℕ) (x : A)
    → es ≡ (key, v) ∷ later → name ≡ string_bytes key → Answers (Ok x) (due name (view v))
    → all ≡ behind xs (each_member due (members_view es)) → all ≡ behind (xs ++ x ∷ []) (each_member due (members_view later))
member_read due all xs key v es later name x steps same is before =
    before ∙ ap (λ (es : List Entry). behind xs (each_member due (members_view es))) steps
    ∙ next_member due xs (string_bytes key) (view v) (members_view later) x (rw (← same) is)

pub member_refused : {A : Type 0} (due : List ℕ → Data → Read A) (all : Read (List A)) (xs : List A) (key : String Global) (v : Value) (es later : List Entry) (name : List ℕ) (fault : DeclareFault)
    → es ≡ (key, v) ∷ later → name ≡ string_bytes key → Answers (Err fault) (due name (view v))
    → all ≡ behind xs (each_member due (members_view es)) → Answers (Err fault) all
member_refused due all xs key v es later name fault steps same is before =
    rw (before ∙ ap (λ (es : List Entry). behind xs (each_member due (members_view es))) steps)
    (faulty_member due xs (string_bytes key) (view v) (members_view later) fault (rw (← same) is))

no_member : {A : Type 0} (due : List ℕ → Data → Read A) (es : List Entry) → es ≡ [] → each_member due (members_view es) ≡ Ok []
unfolding each_member
no_member due es is = rw is refl

pub members_read : {A : Type 0} (due : List ℕ → Data → Read A) (all : Read (List A)) (xs : List A) (es : List Entry)
    → es ≡ [] → all ≡ behind xs (each_member due (members_view es)) → Answers (Ok xs) all
members_read due all xs es over before = all_read xs all (before ∙ ap (behind xs) (no_member due es over))

-- ---- keys

passed_key : (known : List (List ℕ)) (key : List ℕ) (d : Data) (ms : Members) → Answers (Ok tt) (known_key known key)
    → only_keys known (member key d ms) ≡ only_keys known ms
unfolding only_keys ◌>>=◌
passed_key known key d ms is = rw (given tt (known_key known key) is) refl

other_key : (known : List (List ℕ)) (key : List ℕ) (d : Data) (ms : Members) (fault : DeclareFault) → Answers (Err fault) (known_key known key)
    → Answers (Err fault) (only_keys known (member key d ms))
unfolding only_keys
other_key known key d ms fault is = stays (known_key known key) _ fault is

pub key_passed : (known : List (List ℕ)) (all : Read (Unit {0})) (key : String Global) (v : Value) (es later : List Entry) (name : List ℕ)
    → es ≡ (key, v) ∷ later → name ≡ string_bytes key → Answers (Ok tt) (known_key known name)
    → all ≡ only_keys known (members_view es) → all ≡ only_keys known (members_view later)
key_passed known all key v es later name steps same is before =
    before ∙ ap (λ (es : List Entry). only_keys known (members_view es)) steps
    ∙ passed_key known (string_bytes key) (view v) (members_view later) (rw (← same) is)

pub key_refused : (known : List (List ℕ)) (all : Read (Unit {0})) (key : String Global) (v : Value) (es later : List Entry) (name : List ℕ) (fault : DeclareFault)
    → es ≡ (key, v) ∷ later → name ≡ string_bytes key → Answers (Err fault) (known_key known name)
    → all ≡ only_keys known (members_view es) → Answers (Err fault) all
key_refused known all key v es later name fault steps same is before =
    rw (before ∙ ap (λ (es : List Entry). only_keys known (members_view es)) steps)
    (other_key known (string_bytes key) (view v) (members_view later) fault (rw (← same) is))

no_key : (known : List (List ℕ)) (es : List Entry) → es ≡ [] → only_keys known (members_view es) ≡ Ok tt
unfolding only_keys
no_key known es is = rw is refl

pub keys_passed : (known : List (List ℕ)) (all : Read (Unit {0})) (es : List Entry) → es ≡ [] → all ≡ only_keys known (members_view es) → Answers (Ok tt) all
keys_passed known all es over before = gives tt all (before ∙ no_key known es over)

-- ---- names of keys

pub key_named : (all names : List (List ℕ)) (key : String Global) (v : Value) (es later : List Entry) (name : List ℕ) (after : List (List ℕ))
    → es ≡ (key, v) ∷ later → name ≡ string_bytes key → after ≡ names ++ name ∷ []
    → all ≡ names ++ member_keys (members_view es) → all ≡ after ++ member_keys (members_view later)
key_named all names key v es later name after steps same pushed before =
    rw (pushed, same) (before ∙ ap (λ (es : List Entry). names ++ member_keys (members_view es)) steps
    ∙ sym (append_assoc names (string_bytes key ∷ []) (member_keys (members_view later))))

pub keys_named : (all names : List (List ℕ)) (es : List Entry) → es ≡ [] → all ≡ names ++ member_keys (members_view es) → names ≡ all
keys_named all names es over before = sym (before ∙ ap (λ (es : List Entry). names ++ member_keys (members_view es)) over ∙ append-nil names)

-- ---- amounts

amount_found : (found : AmountsByName) (name : List ℕ) (d : Data) (ms : Members) (amount : ℕ)
    → Answers (Ok amount) (count_at (codes "resources") 0 4294967295 d) → amounts_from found (member name d ms) ≡ amounts_from (insert found name amount) ms
unfolding amounts_from ◌>>=◌
amount_found found name d ms amount is = rw (given amount (count_at (codes "resources") 0 4294967295 d) is) refl

amount_wrong : (found : AmountsByName) (name : List ℕ) (d : Data) (ms : Members) (fault : DeclareFault)
    → Answers (Err fault) (count_at (codes "resources") 0 4294967295 d) → Answers (Err fault) (amounts_from found (member name d ms))
unfolding amounts_from
amount_wrong found name d ms fault is = stays (count_at (codes "resources") 0 4294967295 d) _ fault is

pub amount_read : (all : Read AmountsByName) (found after : AmountsByName) (key : String Global) (v : Value) (es later : List Entry) (name : List ℕ) (amount : ℕ)
    → es ≡ (key, v) ∷ later → name ≡ string_bytes key → Answers (Ok amount) (count_at (codes "resources") 0 4294967295 (view v)) → after ≡ insert found name amount
    → all ≡ amounts_from found (members_view es) → all ≡ amounts_from after (members_view later)
amount_read all found after key v es later name amount steps same is put before =
    rw (put, same) (before ∙ ap (λ (es : List Entry). amounts_from found (members_view es)) steps
    ∙ amount_found found (string_bytes key) (view v) (members_view later) amount is)

pub amount_refused : (all : Read AmountsByName) (found : AmountsByName) (key : String Global) (v : Value) (es later : List Entry) (fault : DeclareFault)
    → es ≡ (key, v) ∷ later → Answers (Err fault) (count_at (codes "resources") 0 4294967295 (view v))
    → all ≡ amounts_from found (members_view es) → Answers (Err fault) all
amount_refused all found key v es later fault steps is before =
    rw (before ∙ ap (λ (es : List Entry). amounts_from found (members_view es)) steps)
    (amount_wrong found (string_bytes key) (view v) (members_view later) fault is)

no_amount : (found : AmountsByName) (es : List Entry) → es ≡ [] → amounts_from found (members_view es) ≡ Ok found
unfolding amounts_from
no_amount found es is = rw is refl

pub amounts_read : (all : Read AmountsByName) (found : AmountsByName) (es : List Entry) → es ≡ [] → all ≡ amounts_from found (members_view es) → Answers (Ok found) all
amounts_read all found es over before = gives found all (before ∙ no_amount found es over)

-- ---- choices

choice_found : (found : List (List ℕ)) (d : Data) (ds : Items) (text : List ℕ) → Answers (Ok text) (choice_of found d)
    → choices_from found (item d ds) ≡ choices_from (found ++ text ∷ []) ds
unfolding choices_from ◌>>=◌
choice_found found d ds text is = rw (given text (choice_of found d) is) refl

choice_wrong : (found : List (List ℕ)) (d : Data) (ds : Items) (fault : DeclareFault) → Answers (Err fault) (choice_of found d)
    → Answers (Err fault) (choices_from found (item d ds))
unfolding choices_from
choice_wrong found d ds fault is = stays (choice_of found d) _ fault is

at_item : {A : Type 0} (f : Items → A) (all : A) (vs : List Value) (i : ℕ) (v : Value) → i < length vs → v ≡ get_or vs i v → all ≡ f (items_view (drop i vs))
    → all ≡ f (item (view v) (items_view (drop (i + 1) vs)))
at_item f all vs i v lt here before =
    before ∙ ap f (items_view-drop vs i v lt) ∙ ap (λ (v : Value). f (item (view v) (items_view (drop (i + 1) vs)))) (sym here)

pub choice_read : (all : Read (List (List ℕ))) (found after : List (List ℕ)) (vs : List Value) (i : ℕ) (v : Value) (text : List ℕ)
    → i < length vs → v ≡ get_or vs i v → Answers (Ok text) (choice_of found (view v)) → after ≡ found ++ text ∷ []
    → all ≡ choices_from found (items_view (drop i vs)) → all ≡ choices_from after (items_view (drop (i + 1) vs))
choice_read all found after vs i v text lt here is pushed before =
    rw pushed (at_item (choices_from found) all vs i v lt here before
    ∙ choice_found found (view v) (items_view (drop (i + 1) vs)) text is)

pub choice_refused : (all : Read (List (List ℕ))) (found : List (List ℕ)) (vs : List Value) (i : ℕ) (v : Value) (fault : DeclareFault)
    → i < length vs → v ≡ get_or vs i v → Answers (Err fault) (choice_of found (view v))
    → all ≡ choices_from found (items_view (drop i vs)) → Answers (Err fault) all
choice_refused all found vs i v fault lt here is before =
    rw (at_item (choices_from found) all vs i v lt here before) (choice_wrong found (view v) (items_view (drop (i + 1) vs)) fault is)

no_choice : (found : List (List ℕ)) (vs : List Value) → vs ≡ [] → choices_from found (items_view vs) ≡ Ok found
unfolding choices_from
no_choice found vs is = rw is refl

pub choices_read : (all : Read (List (List ℕ))) (found : List (List ℕ)) (vs : List Value) (i : ℕ) → length vs ≤ i
    → all ≡ choices_from found (items_view (drop i vs)) → Answers (Ok found) all
choices_read all found vs i over before = gives found all (before ∙ no_choice found (drop i vs) (drop_all i vs over))

-- ---- lists

pub length_seen : (vs : List Value) → length vs ≡ length (map view vs)
length_seen [] = refl
length_seen (v ∷ vs) = ap suc (length_seen vs)

pub seen_twice : {A : Type 0} (f : Data → A) (vs : List Value) → map (λ v. f (view v)) vs ≡ map f (map view vs)
seen_twice f [] = refl
seen_twice f (v ∷ vs) = ap (λ ys. f (view v) ∷ ys) (seen_twice f vs)

pub is_among_words : (words : List (Bor (List ℕ))) (text : List ℕ) → list_any (λ word. bytes_eq word.now text) words ≡ is_among (map (λ word. word.now) words) text
is_among_words [] text = refl
is_among_words (word ∷ words) text = ap (λ b. bytes_eq word.now text || b) (is_among_words words text)

pub list_seen : (vs : List Value) → map view vs ≡ item_list (items_view vs)
list_seen [] = refl
list_seen (v ∷ vs) = ap (λ ds. view v ∷ ds) (list_seen vs)
