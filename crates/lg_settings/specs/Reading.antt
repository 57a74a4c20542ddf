-- Reading the keys of a table, one after another. This project's own, over the tables of TOML 1.1.
use Rattle.std.specs.Prelude.{◌≡◌, ℕ, Bool, List, Option, Some, None, option_and_then, Result, Ok, Err}
use Rattle.toml.specs.Data.{Data, Members, as_bool, as_str, get_member}
use Rattle.lg_settings.specs.declared.fault.SettingsFault.{SettingsFault}
use Rattle.lg_settings.specs.declared.fault.SettingsFault.TheVariants.{NotSettings, NoMemory}

-- what is made of the keys of a table; none where one of them is faulty
abbrev pub Reading : Type 0 → Type 0
Reading A = Members → Option A

-- one reading, and behind it another
infixl 10 ◌>>=◌
unfoldable pub ◌>>=◌ : {A B : Type 0} → Reading A → (A → Reading B) → Reading B
(first >>= next) table = option_and_then (λ x. next x table) (first table)

-- nothing more is read
unfoldable pub done : {A : Type 0} → A → Reading A
done x table = Some x

-- a value of its kind, or what stands for it where there is none
abbrev pub set_or : {A : Type 0} → (Data → Option A) → A → Option Data → Option A
set_or kind unset None = Some unset
set_or kind unset (Some value) = kind value

-- the value of a key: of its kind, or what stands for it where the key is absent
unfoldable pub key : {A : Type 0} → List ℕ → (Data → Option A) → A → Reading A
key name kind unset table = set_or kind unset (get_member name table)

-- a key that is true or false
abbrev pub truth : List ℕ → Bool → Reading Bool
truth name unset = key name as_bool unset

-- a text
abbrev pub some_text : Data → Option (Option (List ℕ))
some_text value = option_and_then (λ text. Some (Some text)) (as_str value)

-- a key that is a text and may be absent
abbrev pub text : List ℕ → Reading (Option (List ℕ))
text name = key name some_text None

-- the fault is due, as nothing is there to be answered; want of memory alone is free
abbrev pub IsDue : {A : Type 0} → Option A → SettingsFault → Type 0
IsDue due NotSettings = due ≡ None
IsDue due NoMemory = Unit {0}

-- what a function answers that reads: what is due, or a fault that is due
unfoldable pub Answers : {A : Type 0} → Option A → Result A SettingsFault → Type 0
Answers due (Ok x) = due ≡ Some x
Answers due (Err fault) = IsDue due fault
