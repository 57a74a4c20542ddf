-- Reading the keys of a declaration, one after another: the first fault stays. This project's own, over the tables of TOML.
use Rattle.std.specs.Prelude.{ℕ, if◌then◌else◌, Bool, List, [], ◌∷◌, Option, Some, None, Result, Ok, Err}
use Rattle.toml.specs.Data.{Data, Items, no_items, item, Members, no_members, member}
use Rattle.lg_declare.specs.Template.{is_among}
use Rattle.lg_declare.specs.declared.declare_fault.DeclareFault.{DeclareFault}
use Rattle.lg_declare.specs.declared.declare_fault.DeclareFault.TheVariants.{UnknownKey, BadValue}

abbrev pub Read : Type 0 → Type 0
Read A = Result A DeclareFault

-- what was read goes on, and a fault stays
infixl 10 ◌>>=◌
unfoldable pub ◌>>=◌ : {A B : Type 0} → Read A → (A → Read B) → Read B
(Ok x) >>= next = next x
(Err fault) >>= next = Err fault

-- what is of the kind that the key has
unfoldable pub right_kind : {A : Type 0} → List ℕ → Option A → Read A
right_kind key (Some x) = Ok x
right_kind key None = Err (BadValue key)

-- what has to hold of the value of a key
abbrev pub ensured : List ℕ → Bool → Read (Unit {0})
ensured key holds = if holds then Ok tt else Err (BadValue key)

-- the value of a key, and the default where the key is absent
unfoldable pub read_or : {A : Type 0} → A → (Data → Read A) → Option Data → Read A
read_or default read None = Ok default
read_or default read (Some d) = read d

-- each item in its order, and each member in the order of the keys' bytes, which is the order of the table
unfoldable pub each_item : {A : Type 0} → (Data → Read A) → Items → Read (List A)
each_item read no_items = Ok []
each_item read (item d ds) = read d >>= λ x. each_item read ds >>= λ xs. Ok (x ∷ xs)

unfoldable pub each_member : {A : Type 0} → (List ℕ → Data → Read A) → Members → Read (List A)
each_member read no_members = Ok []
each_member read (member key d ms) = read key d >>= λ x. each_member read ms >>= λ xs. Ok (x ∷ xs)

-- there is no other key
unfoldable pub known_key : List (List ℕ) → List ℕ → Read (Unit {0})
known_key known key = if is_among known key then Ok tt else Err (UnknownKey key)

unfoldable pub only_keys : List (List ℕ) → Members → Read (Unit {0})
only_keys known no_members = Ok tt
only_keys known (member key d ms) = known_key known key >>= λ _. only_keys known ms
