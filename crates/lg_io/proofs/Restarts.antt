-- A list of which each item is changed in turn.
use Rattle.std.proofs.Common.{◌≡◌, ℕ, ◌+◌, ◌<◌, ◌≤◌, List, [], ◌∷◌, ◌++◌, length, get_or, take, drop, set, map, refl, append_assoc, add-one, arith}
use Rattle.std.proofs.lemmas.List.{map-append, append-nil, take_all, drop_all, take_more_set, drop-set-lt}
use Rattle.std.proofs.Math.Seq.{drop-cons}

-- the items before a place are seen as they are now, and those from there on as they are to be
abbrev pub seen : {A B : Type 0} → (A → B) → (A → B) → ℕ → List A → List B
seen now later place items = map now (take place items) ++ map later (drop place items)

-- the item at the place is changed to what it was to be
pub seen-set : {A B : Type 0} (now later : A → B) (items : List A) (place : ℕ) (other new : A) → place < length items
    → now new ≡ later (get_or items place other) → seen now later (place + 1) (set items place new) ≡ seen now later place items
seen-set now later items place other new fits same =
    let old = get_or items place other in
    let front = take_more_set items place new fits in
    let behind : drop (place + 1) (set items place new) ≡ drop (place + 1) items = drop-set-lt (place + 1) items place new (omega arith) in
    let cut : drop place items ≡ old ∷ drop (place + 1) items = rw (add-one, drop-cons items place other fits) refl in
    rw (front, behind, cut, map-append now (take place items) (new ∷ [])) (rw same (append_assoc (map now (take place items)) (later old ∷ []) (map later (drop (place + 1) items))))

-- behind the last place all are as they are now
pub seen-all : {A B : Type 0} (now later : A → B) (items : List A) (place : ℕ) → length items ≤ place → seen now later place items ≡ map now items
seen-all now later items place past = rw (take_all place items past, drop_all place items past) (append-nil (map now items))
