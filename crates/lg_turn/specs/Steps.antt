-- What each step on the table tells the pass that makes it, and how views are cut and put together. This project's own.
use Rattle.std.specs.Prelude.{◌≡◌, ◌≢◌, ℕ, ◌%◌, ◌^◌, ◌<◌, ◌≤◌, List, [], ◌∷◌, ◌++◌, Option, Some, drop, length, map, All}
use Rattle.std.specs.List.{range_with_len}
use Rattle.atomic_table.specs.Table.{Me, Step}
use Rattle.lg_turn.specs.declared.view.Account.{Account}
use Rattle.lg_turn.specs.declared.view.View.{View}
use Rattle.lg_turn.specs.declared.view.Stage.TheVariants.{Idle, Waits, Holds, Enrols, Undoes, Alone}
use Rattle.lg_turn.specs.declared.view.Stage.{Stage}
use Rattle.lg_turn.specs.Views.{account_of, blank, drawing, leaving, looking, releasing, MayFollow, first_of, others_of, number_in, seen_in, own_in, of_pass, BeginsWith, view_of, drawn_in, out_in, longer}
use Rattle.lg_turn.specs.Rule.{Fits}

module _ {I B : Type 0} where
  -- the first seat answers for all passes, which have seen nothing
  abbrev pub beginning : ℕ → B → View I B
  beginning callers base = view_of (map (blank base) (range_with_len 0 callers)) Idle

  -- one pass is cut off
  abbrev pub cut_off : View I B → View I B
  cut_off v = view_of (first_of v.accounts) Idle

  abbrev pub left_over : View I B → View I B
  left_over v = view_of (others_of v.accounts) v.stage

  -- a seat answers for the passes of another too
  abbrev pub put_together : View I B → View I B → View I B
  put_together v w = view_of (w.accounts ++ v.accounts) v.stage

  abbrev pub spent : View I B
  spent = view_of [] Idle

  -- the account after the whole list was seen
  abbrev pub after_take : List I → Account I B → Account I B
  after_take list a = account_of a.number a.base list a.own a.moves

  -- the account after the list was given back, with what stands behind the entries that were seen
  abbrev pub after_give : List I → Account I B → Account I B
  after_give list a = account_of a.number a.base list (a.own ++ drop (length a.seen) list) a.moves

  -- the account after a move on the roll
  abbrev pub moved : ℕ × ℕ → Account I B → Account I B
  moved move a = account_of a.number a.base a.seen a.own (move ∷ a.moves)

  -- the account of a new pass, which has the number that was drawn, has seen what the first pass has, and made no move
  abbrev pub newcomer : List (Account I B) → Stage → List (Account I B)
  newcomer [] stage = []
  newcomer (a ∷ rest) Idle = []
  newcomer (a ∷ rest) (Waits t) = []
  newcomer (a ∷ rest) (Holds t) = []
  newcomer (a ∷ rest) (Enrols n out) = account_of n a.base a.seen [] [] ∷ []
  newcomer (a ∷ rest) Undoes = []
  newcomer (a ∷ rest) Alone = []

  -- the view without a place to keep, and that of the pass which is cut off
  abbrev pub kept : View I B → View I B
  kept v = view_of v.accounts Idle

  abbrev pub enrolled : View I B → View I B
  enrolled v = view_of (newcomer v.accounts v.stage) Idle

  -- the account of a pass that has seen what another has too, and keeps the moves of both
  abbrev pub merged : List (Account I B) → List (Account I B) → List (Account I B)
  merged [] others = []
  merged (a ∷ rest) [] = a ∷ rest
  merged (a ∷ rest) (b ∷ more) = account_of a.number a.base (longer a.seen b.seen) a.own (a.moves ++ b.moves) ∷ rest

  -- of the accounts of two passes, the second one's with what both have seen
  abbrev pub absorbed : List (Account I B) → List (Account I B)
  absorbed [] = []
  absorbed (b ∷ rest) = merged rest (b ∷ [])

module _ {V I B : Type 0} where
  -- a ticket was drawn, of which these are the lower bits
  abbrev pub HasDrawn : Me (Option V) (View I B) → ℕ → Me (Option V) (View I B) → Type 0
  HasDrawn me found me' = (t : ℕ) × (found ≡ t % 2 ^ 64) × (me' ≡ (view_of me.0.accounts (Waits t), me.1))

  -- the seat has a ticket with these lower bits, and carries nothing
  abbrev pub HasTicket : ℕ → Me (Option V) (View I B) → Type 0
  HasTicket found me = (t : ℕ) × (found ≡ t % 2 ^ 64) × (me ≡ (view_of me.0.accounts (Waits t), []))

  -- after a move on the roll the seat is at this stage
  abbrev pub HasMoved : Me (Option V) (View I B) → ℕ × ℕ → Stage → Me (Option V) (View I B) → Type 0
  HasMoved me move stage me' = me' ≡ (view_of (map (moved move) me.0.accounts) stage, me.1)

  -- what was too much was taken out, and the roll is right again
  abbrev pub HasReleased : ℕ → Me (Option V) (View I B) → ℕ → Me (Option V) (View I B) → Type 0
  HasReleased excess me found me' = HasMoved me (releasing excess found) Idle me' × MayFollow me.0.accounts found

  abbrev pub Releases : Step (Option V) → Me (Option V) (View I B) → ℕ → Me (Option V) (View I B) → Type 0
  Releases st me found me' = HasReleased st.first me found me'

  -- one pass is out, which is this one, or more
  abbrev pub HasCounted : Me (Option V) (View I B) → ℕ → Me (Option V) (View I B) → Type 0
  HasCounted me found me' =
      (out_in found ≡ 1 → HasMoved me (looking found) Alone me')
      × (out_in found ≢ 1 → HasMoved me (looking found) Idle me' × (1 < out_in found))
      × MayFollow me.0.accounts found

  abbrev pub Counts : Step (Option V) → Me (Option V) (View I B) → ℕ → Me (Option V) (View I B) → Type 0
  Counts st me found me' = HasCounted me found me'

  abbrev pub Draws : Step (Option V) → Me (Option V) (View I B) → ℕ → Me (Option V) (View I B) → Type 0
  Draws st me found me' = HasDrawn me found me'

module _ {V I B : Type 0} (number : I → ℕ) where
  -- a number was drawn, above that of the first pass, and no pass has seen an entry of it
  abbrev pub HasDrawnNumber : Me (Option V) (View I B) → ℕ → Me (Option V) (View I B) → Type 0
  HasDrawnNumber me found me' =
      HasMoved me (drawing found) (Enrols (drawn_in found) (out_in found)) me'
      × (number_in me.0.accounts < drawn_in found)
      × (of_pass number (drawn_in found) (seen_in me.0.accounts) ≡ [])

  -- a number was drawn and a place taken, or, past all numbers, both are to be undone
  abbrev pub HasEnrolled : Me (Option V) (View I B) → ℕ → Me (Option V) (View I B) → Type 0
  HasEnrolled me found me' =
      (4294967168 ≤ drawn_in found → HasMoved me (drawing found) Undoes me')
      × (drawn_in found < 4294967168 → HasDrawnNumber me found me')
      × MayFollow me.0.accounts found

  abbrev pub Enrolls : Step (Option V) → Me (Option V) (View I B) → ℕ → Me (Option V) (View I B) → Type 0
  Enrolls st me found me' = HasEnrolled me found me'

  -- the one of two passes is gone, and the other has seen the longer of what they had, which begins with both
  abbrev pub HasAbsorbed : Me (Option V) (View I B) → ℕ → Me (Option V) (View I B) → Type 0
  HasAbsorbed me found me' =
      (me' ≡ (view_of (map (moved (leaving found)) (absorbed me.0.accounts)) Idle, me.1))
      × All (λ (a : Account I B). BeginsWith (seen_in me'.0.accounts) a.seen × (a.number < drawn_in found)) me.0.accounts
      × MayFollow me.0.accounts found
      × (of_pass number (number_in me'.0.accounts) (seen_in me'.0.accounts) ≡ own_in me'.0.accounts)

  abbrev pub Absorbs : Step (Option V) → Me (Option V) (View I B) → ℕ → Me (Option V) (View I B) → Type 0
  Absorbs st me found me' = HasAbsorbed me found me'

module _ {V I B : Type 0} (items : V → List I) (number : I → ℕ) (base : V → B) where
  -- the value came out under this ticket, and it fits what was known before
  abbrev pub Takes : ℕ → List (Account I B) → Me (Option V) (View I B) → Type 0
  Takes t accounts me' =
      (value : V) × (me' ≡ (view_of (map (after_take (items value)) accounts) (Holds t), (0, Some value) ∷ []))
      × All (Fits items number base (base value) (items value)) accounts

  abbrev pub HasTaken : List (Account I B) → Me (Option V) (View I B) → Type 0
  HasTaken accounts me' = (t : ℕ) × Takes t accounts me'

  -- where the ticket is served the value comes out, and else nothing changes
  abbrev pub Looks : Step (Option V) → Me (Option V) (View I B) → ℕ → Me (Option V) (View I B) → Type 0
  Looks st me found me' = (t : ℕ) → me.0.stage ≡ Waits t → (t % 2 ^ 64 ≡ found → Takes t me.0.accounts me') × (t % 2 ^ 64 ≢ found → me' ≡ me)

  -- one pass has the turn, and may give this value back
  abbrev pub MayGive : View I B → V → Type 0
  MayGive v value =
      (t : ℕ) × (n : ℕ) × (seen : List I) × (own : List I) × (moves : List (ℕ × ℕ)) × (new : List I) × (v ≡ view_of (account_of n (base value) seen own moves ∷ []) (Holds t))
      × (items value ≡ seen ++ new) × All (λ e. number e ≡ n) new

  -- the value went home, and what the pass knows now fits it
  abbrev pub Advances : Step (Option V) → Me (Option V) (View I B) → ℕ → Me (Option V) (View I B) → Type 0
  Advances st me found me' =
      (value : V) → me.1 ≡ (0, Some value) ∷ [] → (me' ≡ (view_of (map (after_give (items value)) me.0.accounts) Idle, []))
      × All (Fits items number base (base value) (items value)) me'.0.accounts
