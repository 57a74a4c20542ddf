-- The answers of one pass, in a journal of several.
use Rattle.std.proofs.Common.{◌≡◌, ℕ, ◌+◌, Bool, true, false, List, [], ◌∷◌, ◌++◌, filter, length, refl, sym, ◌∙◌, ap, append_assoc, arith, length-append}
use Rattle.std.specs.Prelude.{◌==◌}
use Rattle.std.proofs.lemmas.List.{append-nil}
use Rattle.std.proofs.lemmas.List.Elements.{filter-append}
use Rattle.lg_calls.specs.declared.state.State.{State}
use Rattle.lg_desk.specs.declared.journal.Entry.{Entry}
use Rattle.lg_desk.specs.Replay.{Answered, answered, made_by}
use Rattle.lg_desk.proofs.Replays.{answer_to, answered-push, made-push}
use Rattle.lg_turn.specs.Views.{BeginsWith, of_pass}

-- what is put behind a list and leaves it as it is, is nothing
nothing_behind : {A : Type 0} (xs ys : List A) → xs ++ ys ≡ xs → ys ≡ []
nothing_behind xs [] is = refl
nothing_behind xs (y ∷ ys) is = absurd (omega (arith, ap length is, length-append xs (y ∷ ys)))

-- an entry of another pass is none of its answers
other-push : (base : State) (n : ℕ) (seen : List Entry) (x : Entry) → (x.pass == n) ≡ false → made_by n (answered base (seen ++ x ∷ [])) ≡ made_by n (answered base seen)
other-push base n seen x other =
    ap (made_by n) (answered-push base seen x) ∙ filter-append (λ (a : Answered). a.entry.pass == n) (answered base seen) (answer_to base seen x ∷ [])
    ∙ rw other (append-nil (made_by n (answered base seen)))

-- and nor are several
others_between : (base : State) (n : ℕ) (seen rest : List Entry) → of_pass (λ (x : Entry). x.pass) n rest ≡ [] → made_by n (answered base (seen ++ rest)) ≡ made_by n (answered base seen)
others_between base n seen [] none = ap (λ entries. made_by n (answered base entries)) (append-nil seen)
others_between base n seen (x ∷ rest) none = by_cases (x.pass == n) refl (others_between base n (seen ++ x ∷ []) rest) where
  by_cases : (b : Bool) → (x.pass == n) ≡ b
      → (of_pass (λ (x : Entry). x.pass) n rest ≡ [] → made_by n (answered base ((seen ++ x ∷ []) ++ rest)) ≡ made_by n (answered base (seen ++ x ∷ [])))
      → made_by n (answered base (seen ++ x ∷ rest)) ≡ made_by n (answered base seen)
  by_cases true is further = let some : x ∷ of_pass (λ (x : Entry). x.pass) n rest ≡ [] = rw is at none in absurd (omega (arith, ap length some))
  by_cases false is further =
      let left : of_pass (λ (x : Entry). x.pass) n rest ≡ [] = rw is at none in
      ap (λ entries. made_by n (answered base entries)) (sym (append_assoc seen (x ∷ []) rest)) ∙ further left ∙ other-push base n seen x is

-- the answers of a pass go on by the one to its call
pub answers_go_on : (base : State) (n : ℕ) (seen found : List Entry) (e : Entry) → BeginsWith found seen
    → of_pass (λ (x : Entry). x.pass) n found ≡ of_pass (λ (x : Entry). x.pass) n seen → e.pass ≡ n
    → made_by n (answered base (found ++ e ∷ [])) ≡ made_by n (answered base seen) ++ answer_to base found e ∷ []
answers_go_on base n seen found e begins same of =
    let rest = begins.0 in
    let both : of_pass (λ (x : Entry). x.pass) n seen ++ of_pass (λ (x : Entry). x.pass) n rest ≡ of_pass (λ (x : Entry). x.pass) n seen =
    sym (filter-append (λ (x : Entry). x.pass == n) seen rest) ∙ ap (of_pass (λ (x : Entry). x.pass) n) (sym begins.1) ∙ same
    in
    let none = nothing_behind (of_pass (λ (x : Entry). x.pass) n seen) (of_pass (λ (x : Entry). x.pass) n rest) both in
    made-push base n found e of
    ∙ ap (λ front. front ++ answer_to base found e ∷ []) (ap (λ entries. made_by n (answered base entries)) begins.1 ∙ others_between base n seen rest none)
