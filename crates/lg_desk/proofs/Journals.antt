-- Journals that go on, and what stands behind their end.
use Rattle.std.proofs.Common.{◌≡◌, ℕ, Bool, true, false, List, [], ◌∷◌, ◌++◌, length, refl, sym, ◌∙◌, ap, subst, append_assoc, arith, All, length-append}
use Rattle.std.proofs.lemmas.List.{append-nil}
use Rattle.std.proofs.lemmas.List.Elements.{All-append, All-nil, All-push}
use Rattle.lg_desk.specs.declared.journal.Entry.{Entry}
use Rattle.lg_desk.specs.Journal.{has_stop, is_over, NoneBehindEnd, GoesOnBy}
use Rattle.lg_desk.proofs.Ends.{over_for_good}

-- a journal goes on by entries of a pass, and then by more of them
pub goes_on_more : (pass : ℕ) (old middle new : List Entry) → GoesOnBy pass old middle → GoesOnBy pass middle new → GoesOnBy pass old new
goes_on_more pass old middle new first second = record {
  entries = first.entries ++ second.entries;
  goes_on = rw first.goes_on at second.goes_on ∙ append_assoc old first.entries second.entries;
  of_pass = All-append (λ (e : Entry). e.pass ≡ pass) first.entries second.entries first.of_pass second.of_pass;
}

-- a journal that stays as it is goes on by no entries
pub goes_on_nothing : (pass : ℕ) (journal : List Entry) → GoesOnBy pass journal journal
goes_on_nothing pass journal = record { entries = []; goes_on = sym (append-nil journal); of_pass = All-nil (λ (e : Entry). e.pass ≡ pass) }

-- and by one entry of the pass
pub goes_on_once : (pass : ℕ) (old new : List Entry) (e : Entry) → new ≡ old ++ e ∷ [] → e.pass ≡ pass → GoesOnBy pass old new
goes_on_once pass old new e is of_pass = record {
  entries = e ∷ [];
  goes_on = is;
  of_pass = All-push (λ (e : Entry). e.pass ≡ pass) [] e (All-nil (λ (e : Entry). e.pass ≡ pass)) of_pass;
}

-- a journal of one pass stays so where it goes on by its entries
pub alone_more : (pass : ℕ) (old new : List Entry) → All (λ (e : Entry). e.pass ≡ pass) old → GoesOnBy pass old new → All (λ (e : Entry). e.pass ≡ pass) new
alone_more pass old new alone goes =
    let P = λ (e : Entry). e.pass ≡ pass in
    subst (All P) (sym goes.goes_on) (All-append P old goes.entries alone goes.of_pass)

-- a journal that holds a stop is over
pub stop_is_over : (journal : List Entry) → has_stop journal ≡ true → is_over journal ≡ true
stop_is_over journal stop = rw stop refl

-- a front of a journal that ends before its last item is a front of the journal without it
pub front_of_front : {A : Type 0} (xs front back : List A) (last x : A) → xs ++ last ∷ [] ≡ front ++ x ∷ back → (more : List A) × (xs ≡ front ++ more)
front_of_front xs [] back last x is = (xs, refl)
front_of_front [] (first ∷ front) back last x is = absurd (omega (arith, ap length is, length-append front (x ∷ back)))
front_of_front (y ∷ xs) (first ∷ front) back last x is =
    let heads : y ≡ first = cc in
    let tails : xs ++ last ∷ [] ≡ front ++ x ∷ back = cc in
    let rest = front_of_front xs front back last x tails in
    (rest.0, ap (λ zs. y ∷ zs) rest.1 ∙ ap (λ z. z ∷ (front ++ rest.0)) heads)

-- a front of a journal that isn't over isn't over
pub open_front : (front more : List Entry) → is_over (front ++ more) ≡ false → is_over front ≡ false
open_front front more still = by_cases (is_over front) refl where
  by_cases : (b : Bool) → is_over front ≡ b → is_over front ≡ false
  by_cases false is = is
  by_cases true is = let over : is_over (front ++ more) ≡ true = over_for_good front more is in absurd (cc)

-- one more entry stands behind no end, where the journal wasn't over
pub none_behind-push : (journal : List Entry) (e : Entry) → is_over journal ≡ false → NoneBehindEnd (journal ++ e ∷ [])
none_behind-push journal e still front x back is =
    let more = front_of_front journal front back e x is in
    open_front front more.0 (rw (← more.1) still)

-- an empty journal has none
pub none_behind-nil : NoneBehindEnd []
none_behind-nil front x back is = absurd (omega (arith, ap length is, length-append front (x ∷ back)))
