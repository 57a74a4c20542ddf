-- What a journal is behind one more entry.
use Rattle.std.proofs.Common.{◌≡◌, ℕ, ◌+◌, ◌-◌, ◌^◌, min, Bool, true, false, ◌||◌, List, [], ◌∷◌, ◌++◌, refl, sym, ◌∙◌, ap, arith, All}
use Rattle.std.proofs.lemmas.List.Elements.{All-push}
use Rattle.std.proofs.lemmas.List.Folds.{list_any-append}
use Rattle.std.proofs.lemmas.List.Sums.{sum_by-append}
use Rattle.lg_desk.specs.declared.journal.Entry.{Entry}
use Rattle.lg_desk.specs.GoodEntry.{IsGoodEntry}
use Rattle.lg_desk.specs.Journal.{has_stop, is_over, payload_bytes, NoneBehindEnd}
use Rattle.lg_calls.specs.Request.{is_stop}
use Rattle.lg_desk.proofs.Journals.{none_behind-push}

or_false : (b : Bool) → b || false ≡ b
or_false true = refl
or_false false = refl

stop-push : (journal : List Entry) (e : Entry) → has_stop (journal ++ e ∷ []) ≡ has_stop journal || is_stop e.request
stop-push journal e = list_any-append (λ (e : Entry). is_stop e.request) journal (e ∷ []) ∙ ap (λ last. has_stop journal || last) (or_false (is_stop e.request))

bytes-push : (journal : List Entry) (e : Entry) → payload_bytes (journal ++ e ∷ []) ≡ payload_bytes journal + e.who.size
bytes-push journal e = omega (arith, sum_by-append (λ (e : Entry). e.who.size) journal (e ∷ []))

-- whether there is a stop, behind one more entry
pub marked-push : (journal entered : List Entry) (e : Entry) (stopped : Bool) → stopped ≡ has_stop journal → entered ≡ journal ++ e ∷ []
    → stopped || is_stop e.request ≡ has_stop entered
marked-push journal entered e stopped marked is = rw (is, marked) (sym (stop-push journal e))

-- the bytes in sum, behind one more entry
pub counted-push : (journal entered : List Entry) (e : Entry) (bytes : ℕ) → bytes ≡ min (payload_bytes journal) (2 ^ 64 - 1) → entered ≡ journal ++ e ∷ []
    → min (bytes + e.who.size) (2 ^ 64 - 1) ≡ min (payload_bytes entered) (2 ^ 64 - 1)
counted-push journal entered e bytes counted is = rw is (omega (arith, counted, bytes-push journal e))

-- each is good, behind one more entry
pub good-push : (journal entered : List Entry) (e : Entry) → All IsGoodEntry journal → entered ≡ journal ++ e ∷ [] → IsGoodEntry e → All IsGoodEntry entered
good-push journal entered e good is one = rw is (All-push IsGoodEntry journal e good one)

-- none stands behind an end, behind one more entry
pub open-push : (journal entered : List Entry) (e : Entry) → is_over journal ≡ false → entered ≡ journal ++ e ∷ [] → NoneBehindEnd entered
open-push journal entered e still is = rw is (none_behind-push journal e still)
