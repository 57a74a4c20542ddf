-- What a pass knows of the one list, and where it stands. This project's own.
use Rattle.std.specs.Prelude.{◌≡◌, ℕ, ◌+◌, ◌-◌, ◌*◌, ◌/◌, ◌%◌, ◌<◌, ◌≤◌, ◌==◌, All, nat_lt, if◌then◌else◌, List, [], ◌∷◌, ◌++◌, length, filter, Option, Some, None, Bool, true, false, ◌&&◌, is_none}
use Rattle.atomic_table.specs.Table.{Me}
use Rattle.lg_turn.specs.declared.view.Account.{Account}
use Rattle.lg_turn.specs.declared.view.View.{View}
use Rattle.lg_turn.specs.declared.view.Stage.{Stage}
use Rattle.lg_turn.specs.declared.view.Stage.TheVariants.{Idle, Waits, Holds, Enrols, Undoes, Alone}

-- how many numbers were drawn before, in a word of the roll
abbrev pub drawn_in : ℕ → ℕ
drawn_in word = word / 4294967296

-- how many passes were out, in a word of the roll
abbrev pub out_in : ℕ → ℕ
out_in word = word % 4294967296

-- how many had gone again of those for which a number was drawn, in a word of the roll
abbrev pub gone_in : ℕ → ℕ
gone_in word = drawn_in word - out_in word

-- the roll may come from one word to another: while numbers are left no number is drawn again, and who has gone stays gone
abbrev pub Precedes : ℕ → ℕ → Type 0
Precedes word later = (drawn_in later < 4294967168 → drawn_in word ≤ drawn_in later) × (gone_in word ≤ gone_in later)

-- the moves on the roll, each with the word that it found and the one that it left: a number is drawn for a pass to come
abbrev pub drawing : ℕ → ℕ × ℕ
drawing found = (found, found + 4294967297)

-- a pass is taken out
abbrev pub leaving : ℕ → ℕ × ℕ
leaving found = (found, found - 1)

-- what a refused split put in too much is taken out
abbrev pub releasing : ℕ → ℕ → ℕ × ℕ
releasing excess found = (found, found - excess)

-- nothing changes
abbrev pub looking : ℕ → ℕ × ℕ
looking found = (found, found)

-- 1 for a move by which what is tallied in a word, as the numbers drawn or the passes gone, rises from n
abbrev pub rise_count : (ℕ → ℕ) → ℕ → ℕ × ℕ → ℕ
rise_count tally n move = if nat_lt (tally move.0) (tally move.1) then (if tally move.0 == n then 1 else 0) else 0

module _ {I : Type 0} where
  -- of two beginnings of one list the longer one
  abbrev pub longer : List I → List I → List I
  longer xs ys = if nat_lt (length xs) (length ys) then ys else xs

  -- the list begins with these entries
  abbrev pub BeginsWith : List I → List I → Type 0
  BeginsWith list front = (rest : List I) × (list ≡ front ++ rest)

  -- the entries that the pass of this number made
  abbrev pub of_pass : (I → ℕ) → ℕ → List I → List I
  of_pass number n list = filter (λ e. number e == n) list

module _ {I B : Type 0} where
  abbrev pub account_of : ℕ → B → List I → List I → List (ℕ × ℕ) → Account I B
  account_of n base seen own moves = record { number = n; base = base; seen = seen; own = own; moves = moves }

  -- the account of a pass of the start, which has seen and made nothing: it drew its number when as many were out as had numbers below it
  abbrev pub blank : B → ℕ → Account I B
  blank base n = account_of n base [] [] (drawing (n * 4294967297) ∷ [])

  abbrev pub first_of : List (Account I B) → List (Account I B)
  first_of [] = []
  first_of (a ∷ rest) = a ∷ []

  abbrev pub others_of : List (Account I B) → List (Account I B)
  others_of [] = []
  others_of (a ∷ rest) = rest

  -- what the first account says
  abbrev pub number_in : List (Account I B) → ℕ
  number_in [] = 0
  number_in (a ∷ rest) = a.number

  abbrev pub base_in : List (Account I B) → Option B
  base_in [] = None
  base_in (a ∷ rest) = Some a.base

  abbrev pub seen_in : List (Account I B) → List I
  seen_in [] = []
  seen_in (a ∷ rest) = a.seen

  abbrev pub own_in : List (Account I B) → List I
  own_in [] = []
  own_in (a ∷ rest) = a.own

  abbrev pub moves_in : List (Account I B) → List (ℕ × ℕ)
  moves_in [] = []
  moves_in (a ∷ rest) = a.moves

  -- what P says holds of each word that the passes found or left
  abbrev pub EachWord : (ℕ → Type 0) → List (Account I B) → Type 0
  EachWord P accounts = All (λ (a : Account I B). All (λ m. P m.0 × P m.1) a.moves) accounts

  -- the roll may come to this word from all words that the passes found or left
  abbrev pub MayFollow : List (Account I B) → ℕ → Type 0
  MayFollow accounts word = (out_in word ≤ drawn_in word) × EachWord (λ earlier. Precedes earlier word) accounts

  abbrev pub view_of : List (Account I B) → Stage → View I B
  view_of accounts stage = record { accounts = accounts; stage = stage }

abbrev pub has_no_slot : {V : Type 0} → List (ℕ × Option V) → Bool
has_no_slot [] = true
has_no_slot (x ∷ rest) = false

-- the one slot is carried, and nothing lies in it
abbrev pub has_empty_slot : {V : Type 0} → List (ℕ × Option V) → Bool
has_empty_slot [] = false
has_empty_slot (x ∷ []) = x.0 == 0 && is_none x.1
has_empty_slot (x ∷ y ∷ rest) = false

abbrev pub is_settled_at : {V : Type 0} → Stage → List (ℕ × Option V) → Bool
is_settled_at Idle carried = has_no_slot carried
is_settled_at (Waits t) carried = false
is_settled_at (Holds t) carried = has_empty_slot carried
is_settled_at (Enrols n out) carried = false
is_settled_at Undoes carried = false
is_settled_at Alone carried = false

-- between two calls a pass is away, or it has the turn and its caller the value
abbrev pub is_settled : {V I B : Type 0} → Me (Option V) (View I B) → Bool
is_settled me = is_settled_at me.0.stage me.1
