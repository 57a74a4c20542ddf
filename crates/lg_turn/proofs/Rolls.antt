-- How the roll is read: its two halves, and how many places are taken.
use Rattle.std.proofs.Common.{◌≡◌, ℕ, ◌+◌, ◌*◌, ◌<◌, ◌≤◌, List, [], ◌∷◌, length, arith, ap, sym, ◌∙◌, Option}
use mathlib.Core.Option.{some, some-injective}
use mathlib.Core.Logic.{dite}
use native.Mathlib.Decide.{ℕ_discrete, dec_le}
use lib.ListN.{get_elem?}
use Rattle.std.specs.Prelude.{nat_lt}
use Rattle.std.specs.List.{sum_by}
use Rattle.std.proofs.lemmas.List.Sums.{sum_by-cons}
use Rattle.atomic_table.specs.Table.{State}
use Rattle.lg_turn.specs.declared.view.Account.{Account}
use Rattle.lg_turn.specs.declared.view.View.{View}
use Rattle.lg_turn.specs.declared.view.Stage.{Stage}
use Rattle.lg_turn.specs.declared.view.Stage.TheVariants.{Idle, Waits, Holds, Enrols, Undoes, Alone}
use Rattle.lg_turn.specs.Views.{view_of, drawn_in, out_in}
use Rattle.lg_turn.specs.Rule.{passes_of, out_of, undone_of, out_count, undone_count, place_count, Stands, IsKept}
use Rattle.lg_turn.proofs.Sums.{part-le-sum_by, two_parts-le-sum_by, some_part, sum_by-le-sum_by}
use Rattle.lg_turn.proofs.Parts.{bit-le-one}

sum_by_twice : {X : Type 0} (f : X → ℕ) (xs : List X) → sum_by (λ x. f x + f x) xs ≡ sum_by f xs + sum_by f xs
sum_by_twice f [] = omega arith
sum_by_twice f (x ∷ xs) = omega (arith, sum_by_twice f xs, sum_by-cons f x xs, sum_by-cons (λ y. f y + f y) x xs)

-- the halves of a word
pub upper_half : (word up low : ℕ) → word ≡ up * 4294967296 + low → low < 4294967296 → drawn_in word ≡ up
upper_half word up low is small = omega arith

pub lower_half : (word up low : ℕ) → word ≡ up * 4294967296 + low → low < 4294967296 → out_in word ≡ low
lower_half word up low is small = omega arith

abbrev alone_count : Stage → ℕ
alone_count Idle = 0
alone_count (Waits t) = 0
alone_count (Holds t) = 0
alone_count (Enrols n out) = 0
alone_count Undoes = 0
alone_count Alone = 1

abbrev alone_of : {I B : Type 0} → View I B → ℕ
alone_of v = alone_count v.stage

-- who is not alone takes up no more places than it counts for
place-le-out : (callers : ℕ) (stage : Stage) → alone_count stage ≡ 0 → place_count callers stage ≤ out_count stage
place-le-out callers Idle h = omega arith
place-le-out callers (Waits t) h = omega arith
place-le-out callers (Holds t) h = omega arith
place-le-out callers (Enrols n out) h = bit-le-one (nat_lt out callers)
place-le-out callers Undoes h = omega arith
place-le-out callers Alone h = absurd (omega arith)

module _ {V I B : Type 0} (items : V → List I) (number : I → ℕ) (base : V → B) where
  -- what is out of the roll for a while is so with a pass
  out-le-length : (list : List I) (serving : ℕ) (accounts : List (Account I B)) (stage : Stage) → Stands items number base list serving accounts stage → (out_count stage ≤ length accounts) × (undone_count stage ≤ length accounts)
  out-le-length list serving accounts Idle h = (omega arith, omega arith)
  out-le-length list serving accounts (Waits t) h = (omega arith, omega arith)
  out-le-length list serving accounts (Holds t) h = (omega arith, omega arith)
  out-le-length list serving accounts (Enrols n out) h = let some = h.0 in (omega arith, omega arith)
  out-le-length list serving accounts Undoes h = (omega arith, omega arith)
  out-le-length list serving accounts Alone h = (omega arith, omega arith)

  -- who is alone takes up all places
  alone_is_full : (callers : ℕ) (list : List I) (serving : ℕ) (accounts : List (Account I B)) (stage : Stage) → Stands items number base list serving accounts stage → 0 < alone_count stage → callers ≤ length accounts + place_count callers stage
  alone_is_full callers list serving accounts Idle h is = absurd (omega arith)
  alone_is_full callers list serving accounts (Waits t) h is = absurd (omega arith)
  alone_is_full callers list serving accounts (Holds t) h is = absurd (omega arith)
  alone_is_full callers list serving accounts (Enrols n out) h is = absurd (omega arith)
  alone_is_full callers list serving accounts Undoes h is = absurd (omega arith)
  alone_is_full callers list serving accounts Alone h is = omega arith

  module _ (callers : ℕ) (origin : B) (s : State (Option V) (View I B)) (k : IsKept items number base callers origin s) where
    pub outs_few : sum_by out_of s.views ≤ 130
    outs_few =
        let le = sum_by-le-sum_by out_of (λ (v : View I B). passes_of callers v + passes_of callers v) s.views (λ i v e. let o = (out-le-length k.list k.serving v.accounts v.stage (k.each_pass i v e).stands).0 in omega (arith, o)) in
        let twice = sum_by_twice (passes_of {I = I} {B = B} callers) s.views in
        let most = k.roll.passes in let few = k.few in
        omega (arith, le, twice, most, few)

    pub undone_few : sum_by undone_of s.views ≤ 65
    undone_few =
        let le = sum_by-le-sum_by undone_of (passes_of callers) s.views (λ i v e. let o = (out-le-length k.list k.serving v.accounts v.stage (k.each_pass i v e).stands).1 in omega (arith, o)) in
        let most = k.roll.passes in let few = k.few in
        omega (arith, le, most, few)

    -- a pass that is away sees in the roll at least as many as there are
    pub places-le-out : (id : ℕ) (accounts : List (Account I B)) → get_elem? s.views id ≡ some (view_of accounts Idle) → 0 < length accounts → sum_by (passes_of callers) s.views ≤ sum_by out_of s.views
    places-le-out id accounts at some_pass =
        let v : View I B = view_of accounts Idle in
        dite (dec_le (sum_by (alone_of {I = I} {B = B}) s.views) 0)
        (λ none. sum_by-le-sum_by (passes_of callers) out_of s.views (λ i u e.
        let part = part-le-sum_by (alone_of {I = I} {B = B}) s.views i u e in
        let no : alone_count u.stage ≡ 0 = omega (arith, part, none) in
        let place = place-le-out callers u.stage no in omega (arith, place)))
        (λ is. let h = some_part (alone_of {I = I} {B = B}) s.views (omega (arith, is)) in
        let full = alone_is_full callers k.list k.serving h.1.accounts h.1.stage (k.each_pass h.0 h.1 h.2).stands h.3 in
        let out = h.3 in
        dite (ℕ_discrete id h.0)
        (λ same. let z : alone_of h.1 ≡ 0 = ap (alone_of {I = I} {B = B}) (sym (some-injective v h.1 (sym at ∙ ap (get_elem? s.views) same ∙ h.2))) in absurd (omega (arith, z, out)))
        (λ other. let two = two_parts-le-sum_by (passes_of callers) s.views id h.0 v h.1 other at h.2 in let most = k.roll.passes in absurd (omega (arith, two, most, full, some_pass))))
