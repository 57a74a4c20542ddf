-- The rule of a turn: what is true of the table between any two steps. This project's own.
-- Word 0 is the next ticket and word 1 the ticket that is served, both modulo 2 ^ 64. Word 2 is the roll: 2 ^ 32 times
-- the count of the numbers that were drawn, and the count of the passes that are out. The one slot has the value.
use Rattle.std.specs.Prelude.{◌≡◌, ℕ, ◌+◌, ◌-◌, ◌*◌, ◌%◌, ◌^◌, ◌<◌, ◌≤◌, ◌==◌, nat_lt, if◌then◌else◌, ◌⊎◌, List, [], ◌∷◌, length, Option, Some, All, sum_by}
use mathlib.Core.Option.{Option as Maybe, some, none}
use lib.ListN.{get_elem?}
use Rattle.atomic_table.specs.Table.{State}
use Rattle.lg_turn.specs.declared.view.Account.{Account}
use Rattle.lg_turn.specs.declared.view.View.{View}
use Rattle.lg_turn.specs.declared.view.Stage.{Stage}
use Rattle.lg_turn.specs.declared.view.Stage.TheVariants.{Idle, Waits, Holds, Enrols, Undoes, Alone}
use Rattle.lg_turn.specs.Views.{BeginsWith, of_pass, seen_in, drawn_in, out_in, gone_in, rise_count, Precedes, EachWord}

-- 1 for a stage with a ticket out
abbrev pub ticket_count : Stage → ℕ
ticket_count Idle = 0
ticket_count (Waits t) = 1
ticket_count (Holds t) = 1
ticket_count (Enrols n out) = 0
ticket_count Undoes = 0
ticket_count Alone = 0

-- 1 for a stage with this very ticket
abbrev pub same_ticket : ℕ → Stage → ℕ
same_ticket t Idle = 0
same_ticket t (Waits u) = (if t == u then 1 else 0)
same_ticket t (Holds u) = (if t == u then 1 else 0)
same_ticket t (Enrols n out) = 0
same_ticket t Undoes = 0
same_ticket t Alone = 0

-- 1 for a stage with the value out
abbrev pub value_count : Stage → ℕ
value_count Idle = 0
value_count (Waits t) = 0
value_count (Holds t) = 1
value_count (Enrols n out) = 0
value_count Undoes = 0
value_count Alone = 0

-- 1 for a stage that counts as one pass more in the roll
abbrev pub out_count : Stage → ℕ
out_count Idle = 0
out_count (Waits t) = 0
out_count (Holds t) = 0
out_count (Enrols n out) = 1
out_count Undoes = 1
out_count Alone = 0

-- 1 for a stage that counts as one number more in the roll
abbrev pub undone_count : Stage → ℕ
undone_count Idle = 0
undone_count (Waits t) = 0
undone_count (Holds t) = 0
undone_count (Enrols n out) = 0
undone_count Undoes = 1
undone_count Alone = 0

-- how many of the callers' places a stage takes up: one for a pass to come, where there was room, and all others for a pass that is alone
abbrev pub place_count : ℕ → Stage → ℕ
place_count callers Idle = 0
place_count callers (Waits t) = 0
place_count callers (Holds t) = 0
place_count callers (Enrols n out) = (if nat_lt out callers then 1 else 0)
place_count callers Undoes = 0
place_count callers Alone = callers - 1

-- 1 for a stage that has drawn this number
abbrev pub same_number : ℕ → Stage → ℕ
same_number n Idle = 0
same_number n (Waits t) = 0
same_number n (Holds t) = 0
same_number n (Enrols m out) = (if m == n then 1 else 0)
same_number n Undoes = 0
same_number n Alone = 0

-- 1 for a stage with a place for a pass whose number is below callers
abbrev pub low_count : ℕ → Stage → ℕ
low_count callers Idle = 0
low_count callers (Waits t) = 0
low_count callers (Holds t) = 0
low_count callers (Enrols n out) = (if nat_lt n callers then (if nat_lt out callers then 1 else 0) else 0)
low_count callers Undoes = 0
low_count callers Alone = 0

-- how many of the passes to come have this number: one that has drawn it, where there was room
abbrev pub coming_count : ℕ → ℕ → Stage → ℕ
coming_count callers n Idle = 0
coming_count callers n (Waits t) = 0
coming_count callers n (Holds t) = 0
coming_count callers n (Enrols m out) = (if nat_lt out callers then (if m == n then 1 else 0) else 0)
coming_count callers n Undoes = 0
coming_count callers n Alone = 0

-- how often a number stands in a list
abbrev pub times : ℕ → List ℕ → ℕ
times n numbers = sum_by (λ m. if m == n then 1 else 0) numbers

module _ {I B : Type 0} where
  -- how many passes a seat answers for, with those to come
  abbrev pub passes_of : ℕ → View I B → ℕ
  passes_of callers v = length v.accounts + place_count callers v.stage

  -- how many of them are a pass of this number
  abbrev pub made_of : ℕ → ℕ → View I B → ℕ
  made_of callers n v = sum_by (λ (a : Account I B). (if a.number == n then 1 else 0)) v.accounts + coming_count callers n v.stage

  -- how many have this number, also one that is drawn in vain
  abbrev pub with_number : ℕ → View I B → ℕ
  with_number n v = sum_by (λ (a : Account I B). (if a.number == n then 1 else 0)) v.accounts + same_number n v.stage

  -- how many of them have a number below callers
  abbrev pub low_of : ℕ → View I B → ℕ
  low_of callers v = sum_by (λ (a : Account I B). (if nat_lt a.number callers then 1 else 0)) v.accounts + low_count callers v.stage

  -- for how many passes a seat counts in the roll
  abbrev pub out_of : View I B → ℕ
  out_of v = length v.accounts + out_count v.stage

  abbrev pub undone_of : View I B → ℕ
  undone_of v = undone_count v.stage

  abbrev pub tickets_of : View I B → ℕ
  tickets_of v = ticket_count v.stage

  abbrev pub with_ticket : ℕ → View I B → ℕ
  with_ticket t v = same_ticket t v.stage

  abbrev pub values_of : View I B → ℕ
  values_of v = value_count v.stage

  -- how many moves its passes tell of, as counted
  abbrev pub moves_of : (ℕ × ℕ → ℕ) → View I B → ℕ
  moves_of count v = sum_by (λ (a : Account I B). sum_by count a.moves) v.accounts

  -- what P says holds of each word that a pass of these seats found or left
  abbrev pub EachFound : (ℕ → Type 0) → List (View I B) → Type 0
  EachFound P views = (i : ℕ) (v : View I B) → get_elem? views i ≡ some v → EachWord P v.accounts

  -- What passes found of the roll, and what they left, is true of it.
  pub record Told (word : ℕ) (views : List (View I B)) : Type 0 where
    -- the roll came behind all of it, and never more passes were out than numbers drawn
    pub behind : EachFound (λ earlier. (out_in earlier ≤ drawn_in earlier) × Precedes earlier word) views
    -- of two words one came before the other
    pub ordered : EachFound (λ one. EachFound (λ other. Precedes one other ⊎ Precedes other one) views) views

module _ {V I B : Type 0} (items : V → List I) (number : I → ℕ) (base : V → B) where
  -- the pass has this base, the list begins with what it has seen, and the entries of its number are its own, and seen by it
  pub record Fits (origin : B) (list : List I) (a : Account I B) : Type 0 where
    pub base_is : a.base ≡ origin
    pub begins : BeginsWith list a.seen
    pub own_is : of_pass number a.number list ≡ a.own
    pub own_seen : of_pass number a.number a.seen ≡ a.own

  -- a ticket is out for a pass, and the value is out under the ticket that is served, with a pass that has seen the list
  abbrev pub Stands : List I → ℕ → List (Account I B) → Stage → Type 0
  Stands list serving accounts Idle = Unit {0}
  Stands list serving accounts (Waits t) = 0 < length accounts
  Stands list serving accounts (Holds t) = (0 < length accounts) × (t ≡ serving) × (seen_in accounts ≡ list)
  Stands list serving accounts (Enrols n out) = (0 < length accounts) × (of_pass number n list ≡ [])
  Stands list serving accounts Undoes = 0 < length accounts
  Stands list serving accounts Alone = 0 < length accounts

  pub record Knows (origin : B) (list : List I) (serving : ℕ) (v : View I B) : Type 0 where
    pub fits : All (Fits origin list) v.accounts
    pub stands : Stands list serving v.accounts v.stage

  -- the slot has the value, which stands for the list over the base, or it is out with one pass
  abbrev pub Slot : B → List I → List (Maybe (Option V)) → ℕ → Type 0
  Slot origin list homes out =
      ((value : V) × (homes ≡ some (Some value) ∷ []) × (items value ≡ list) × (base value ≡ origin) × (out ≡ 0))
      ⊎ ((homes ≡ none ∷ []) × (out ≡ 1))

  -- What the roll has counted, over the views of all seats: the next number, and the numbers of the passes that were made.
  pub record Roll (callers : ℕ) (list : List I) (made : List ℕ) (next word : ℕ) (views : List (View I B)) : Type 0 where
    -- the numbers that were drawn, with those to be undone, and the passes that are out, with those to come or to go
    pub counted : word ≡ (next + sum_by undone_of views) * 4294967296 + sum_by out_of views
    -- there are never more out than numbers drawn
    pub fewer : sum_by out_of views ≤ next + sum_by undone_of views
    -- each number that was drawn while any was left is told of once, and none that was not
    pub drawn : (n : ℕ) → n < 4294967168 → sum_by (moves_of (rise_count drawn_in n)) views ≡ (if nat_lt n (drawn_in word) then 1 else 0)
    -- and so is each pass that has gone
    pub gone : (n : ℕ) → sum_by (moves_of (rise_count gone_in n)) views ≡ (if nat_lt n (gone_in word) then 1 else 0)
    -- what was found of the roll is true
    pub told : Told word views
    -- past so many numbers each one that is drawn is undone
    pub small : next ≤ 4294967168
    pub spent : 0 < sum_by undone_of views → next ≡ 4294967168
    -- there are never more passes than callers
    pub passes : sum_by (passes_of callers) views ≤ callers
    -- no two seats have drawn one number, and the next one was not drawn yet, nor any above it
    pub numbers : (n : ℕ) → (sum_by (with_number n) views ≤ 1) × (next ≤ n → sum_by (with_number n) views ≡ 0)
    -- each pass was made, no two with one number, and none with the next one or any above it
    pub given : (n : ℕ) → (sum_by (made_of callers n) views ≤ times n made) × (times n made ≤ 1) × (next ≤ n → times n made ≡ 0)
    -- each entry has the number of a pass that was made
    pub entered : All (λ e. times (number e) made ≡ 1) list
    -- while as many passes have numbers below callers as there are callers, no other pass was made
    pub whole : callers ≤ sum_by (low_of callers) views → (n : ℕ) → callers ≤ n → times n made ≡ 0

  -- there is one list, of which all views tell the truth
  pub record IsKept (callers : ℕ) (origin : B) (s : State (Option V) (View I B)) : Type 0 where
    pub list : List I
    pub serving : ℕ
    pub ticket : ℕ
    pub made : List ℕ
    pub next : ℕ
    pub word : ℕ
    pub words : s.words ≡ ticket % 2 ^ 64 ∷ serving % 2 ^ 64 ∷ word ∷ []
    pub slot : Slot origin list s.homes (sum_by values_of s.views)
    pub each_pass : (i : ℕ) (v : View I B) → get_elem? s.views i ≡ some v → Knows origin list serving v
    -- there are few callers, and the third word counts their passes
    pub few : callers ≤ 65
    pub roll : Roll callers list made next word s.views
    -- as many tickets are out as were drawn and not yet served
    pub drawn : serving + sum_by tickets_of s.views ≡ ticket
    -- they differ, and lie from the one that is served up to the next one
    pub apart : (t : ℕ) → (sum_by (with_ticket t) s.views ≤ 1) × (t < serving → sum_by (with_ticket t) s.views ≡ 0) × (ticket ≤ t → sum_by (with_ticket t) s.views ≡ 0)
