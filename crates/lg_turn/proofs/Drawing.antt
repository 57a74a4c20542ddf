-- A draw keeps the rule: the next ticket is out, and nobody has it yet.
use Rattle.std.proofs.Common.{◌≡◌, ℕ, ◌+◌, ◌%◌, ◌^◌, ◌<◌, ◌≤◌, List, [], ◌∷◌, length, set, get_or, arith, ap, refl, ◌∙◌, Option, cond}
use mathlib.Core.Option.{some, none}
use mathlib.Core.Logic.{dite}
use native.Mathlib.Decide.{ℕ_discrete}
use lib.ListN.{get_elem?}
use Rattle.std.specs.List.{sum_by}
use Rattle.std.specs.Prelude.{◌==◌}
use Rattle.std.proofs.Math.Nat.{mod-add-mod}
use Rattle.atomic_table.specs.Table.{step, keeps, Allows}
use Rattle.lg_turn.specs.declared.view.Account.{Account}
use Rattle.lg_turn.specs.declared.view.View.{View}
use Rattle.lg_turn.specs.declared.view.Stage.TheVariants.{Idle, Waits}
use Rattle.lg_turn.specs.Views.{view_of}
use Rattle.lg_turn.specs.Rule.{values_of, tickets_of, with_ticket, Knows, IsKept}
use Rattle.lg_turn.specs.Steps.{Draws}
use Rattle.lg_turn.proofs.Sums.{sum_by_set, each_set}
use Rattle.lg_turn.proofs.Counts.{one_if_same, none_if_other}
use Rattle.lg_turn.proofs.Parts.{sum_stays, roll_stays}

module _ {V I B : Type 0} (items : V → List I) (number : I → ℕ) (base : V → B) (callers : ℕ) (origin : B) where
  -- after a draw the words show the next ticket
  words_drawn : (ws : List ℕ) (ticket serving word : ℕ) → ws ≡ ticket % 2 ^ 64 ∷ serving % 2 ^ 64 ∷ word ∷ [] → set ws 0 ((get_or ws 0 0 + 1) % 2 ^ 64) ≡ (ticket + 1) % 2 ^ 64 ∷ serving % 2 ^ 64 ∷ word ∷ []
  words_drawn ws ticket serving word e = ap (λ (l : List ℕ). set l 0 ((get_or l 0 0 + 1) % 2 ^ 64)) e ∙ ap (λ (n : ℕ). n ∷ serving % 2 ^ 64 ∷ word ∷ []) (mod-add-mod ticket (2 ^ 64) 1)

  -- the new ticket is the one that nobody had
  apart_drawn : (views : List (View I B)) (id serving ticket t : ℕ) (accounts : List (Account I B)) → get_elem? views id ≡ some (view_of accounts Idle) → serving ≤ ticket
      → (sum_by (with_ticket t) views ≤ 1) × (t < serving → sum_by (with_ticket t) views ≡ 0) × (ticket ≤ t → sum_by (with_ticket t) views ≡ 0)
      → (sum_by (with_ticket t) (set views id (view_of accounts (Waits ticket))) ≤ 1) × (t < serving → sum_by (with_ticket t) (set views id (view_of accounts (Waits ticket))) ≡ 0) × (ticket + 1 ≤ t → sum_by (with_ticket t) (set views id (view_of accounts (Waits ticket))) ≡ 0)
  apart_drawn views id serving ticket t accounts at order before =
      let w = view_of accounts (Waits ticket) in
      let moved : sum_by (with_ticket t) (set views id w) + 0 ≡ sum_by (with_ticket t) views + cond (t == ticket) 1 0 = sum_by_set (with_ticket t) views id (view_of accounts Idle) w at in
      dite (ℕ_discrete t ticket)
      (λ same. let one = one_if_same t ticket same in let none_before = before.2 (omega arith) in (omega arith, (λ h. absurd (omega arith)), λ h. absurd (omega arith)))
      (λ other. let no = none_if_other t ticket other in let b = before.0 in (omega arith, (λ h. let z = before.1 h in omega arith), λ h. let z = before.2 (omega arith) in omega arith))

  pub draws : (slots id : ℕ) (accounts : List (Account I B)) (carried : List (ℕ × Option V)) → 0 < length accounts
      → Allows (IsKept items number base callers origin) slots id (view_of accounts Idle, carried) 0 (λ n. (n + 1) % 2 ^ 64) (Draws (step slots 0 1 0 none) (view_of accounts Idle, carried))
  draws slots id accounts carried some_pass s k sized at small =
      let v = view_of accounts Idle in
      let w = view_of accounts (Waits k.ticket) in
      let out = k.drawn in (
        w,
        keeps,
        tt,
        record {
          list = k.list;
          serving = k.serving;
          ticket = k.ticket + 1;
          made = k.made;
          next = k.next;
          word = k.word;
          words = words_drawn s.words k.ticket k.serving k.word k.words;
          slot = rw (sum_stays s.views id v w at values_of refl) k.slot;
          each_pass = each_set (λ j u. Knows items number base origin k.list k.serving u) s.views id w record { fits = (k.each_pass id v at).fits; stands = some_pass } (λ j u _ e. k.each_pass j u e);
          few = k.few;
          roll = roll_stays items number base callers k.list k.made k.next k.word s.views id v w at refl (λ n. refl) refl refl refl (λ P h. h) (λ n. refl) (λ count. refl) k.roll;
          drawn = (let moved : sum_by tickets_of (set s.views id w) + 0 ≡ sum_by tickets_of s.views + 1 = sum_by_set tickets_of s.views id v w at in omega arith);
          apart = λ t. apart_drawn s.views id k.serving k.ticket t accounts at (omega arith) (k.apart t);
        },
        (k.ticket, ap (λ (l : List ℕ). get_or l 0 0) k.words, refl),
      )
