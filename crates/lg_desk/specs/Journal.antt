-- The journal of a life: the calls that were entered, in order. This project's own.
use Rattle.std.specs.Prelude.{◌≡◌, ℕ, Bool, false, ◌||◌, nat_le, List, ◌∷◌, ◌++◌, length, sum_by, All}
use Rattle.std.specs.List.{list_any}
use Rattle.lg_desk.specs.declared.journal.Entry.{Entry}
use Rattle.lg_calls.specs.Request.{is_stop}

-- the most entries of a journal, and the most bytes of payload in sum
abbrev pub max_entries : ℕ
max_entries = 200000

abbrev pub max_bytes : ℕ
max_bytes = 268435456

abbrev pub has_stop : List Entry → Bool
has_stop journal = list_any (λ e. is_stop e.request) journal

-- the bytes of its payloads in sum
abbrev pub payload_bytes : List Entry → ℕ
payload_bytes journal = sum_by (λ e. e.who.size) journal

-- the journal has its most entries or its most bytes, or more
abbrev pub is_full : List Entry → Bool
is_full journal = nat_le max_entries (length journal) || nat_le max_bytes (payload_bytes journal)

-- a journal is over where it holds a stop or is full
abbrev pub is_over : List Entry → Bool
is_over journal = has_stop journal || is_full journal

-- no entry stands behind a place at which the journal is over
abbrev pub NoneBehindEnd : List Entry → Type 0
NoneBehindEnd journal =
    (front : List Entry) (e : Entry) (back : List Entry) → journal ≡ front ++ e ∷ back → is_over front ≡ false

-- a journal goes on by entries of that pass alone
pub record GoesOnBy (pass : ℕ) (old new : List Entry) : Type 0 where
  pub entries : List Entry
  pub goes_on : new ≡ old ++ entries
  pub of_pass : All (λ e. e.pass ≡ pass) entries
