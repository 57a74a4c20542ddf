-- A journal that is over stays over.
use Rattle.std.proofs.Common.{◌≡◌, ℕ, ◌≤◌, Bool, true, false, List, [], ◌∷◌, ◌++◌, ◌||◌, length, length-append, nat_le, refl, arith}
use Rattle.std.proofs.lemmas.Bool.Decides.{nat_tests}
use Rattle.std.proofs.lemmas.List.Sums.{sum_by-append}
use Rattle.lg_calls.specs.Request.{is_stop}
use Rattle.lg_desk.specs.declared.journal.Entry.{Entry}
use Rattle.lg_desk.specs.Journal.{has_stop, is_full, is_over, max_bytes, max_entries, payload_bytes}

-- of two tests one holds still
either_stays : (first second first' second' : Bool) → first || second ≡ true → (first ≡ true → first' ≡ true) → (second ≡ true → second' ≡ true) → first' || second' ≡ true
either_stays true second first' second' holds one other = rw (one refl) refl
either_stays false second true second' holds one other = refl
either_stays false second false second' holds one other = other holds

stop_stays : (journal more : List Entry) → has_stop journal ≡ true → has_stop (journal ++ more) ≡ true
stop_stays [] more holds = absurd (cc)
stop_stays (e ∷ journal) more holds = either_stays (is_stop e.request) (has_stop journal) (is_stop e.request) (has_stop (journal ++ more)) holds (λ stop. stop) (stop_stays journal more)

reached_stays : (bound here there : ℕ) → here ≤ there → nat_le bound here ≡ true → nat_le bound there ≡ true
reached_stays bound here there rises holds = grind (arith, nat_tests)

pub over_for_good : (journal more : List Entry) → is_over journal ≡ true → is_over (journal ++ more) ≡ true
over_for_good journal more over =
    let longer : length journal ≤ length (journal ++ more) = omega (arith, length-append journal more) in
    let larger : payload_bytes journal ≤ payload_bytes (journal ++ more) = omega (arith, sum_by-append (λ (e : Entry). e.who.size) journal more) in
    either_stays (has_stop journal) (is_full journal) (has_stop (journal ++ more)) (is_full (journal ++ more)) over (stop_stays journal more)
    (λ full. either_stays (nat_le max_entries (length journal)) (nat_le max_bytes (payload_bytes journal)) _ _ full
    (reached_stays max_entries _ _ longer) (reached_stays max_bytes _ _ larger))
