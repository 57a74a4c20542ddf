-- Texts that were seen, in the order of their bytes.
use Rattle.std.proofs.Common.{◌≡◌, ℕ, ◌+◌, ◌<◌, Bool, true, false, not, ◌&&◌, ◌||◌, List, [], ◌∷◌, map, length, drop, get_or, Ordering, Less, Equal, Greater, refl, sym, ap, ◌∙◌}
use Rattle.std.specs.Borrow.{Bor}
use Rattle.std.specs.BTreeSet.{insert_key}
use Rattle.std.specs.List.{list_all, list_any}
use Rattle.std.specs.Ordering.{nat_cmp, is_eq, match_ordering, ordering_reverse}
use Rattle.std.specs.FinMap.{nat_cmp-IsAntisymmetric, slice_cmp-IsAntisymmetric}
use Rattle.std.specs.Cmp.Lexicographic.{slice_cmp, nat_list_cmp_total}
use Rattle.std.proofs.lemmas.Bool.{not-true}
use Rattle.lg_calls.specs.Order.{is_same, are_distinct}
use Rattle.lg_snapshot.proofs.OrderLemmas.{front}

-- whether a text is among those that were seen
abbrev pub has : List (Bor (List ℕ)) → List ℕ → Bool
has keys id = list_any (λ key. is_same id key.now) keys

abbrev by_bytes : Bor (List ℕ) → Bor (List ℕ) → Ordering
by_bytes one other = slice_cmp nat_cmp one.now other.now

eq_back : (o : Ordering) → is_eq (ordering_reverse o) ≡ is_eq o
eq_back Less = refl
eq_back Equal = refl
eq_back Greater = refl

same_back : (a b : List ℕ) → is_same a b ≡ is_same b a
same_back a b = ap is_eq (nat_list_cmp_total.antisymm a b) ∙ eq_back (slice_cmp nat_cmp b a)

twice : (a r : Bool) → (a || r) ≡ (a || (a || r))
twice true r = refl
twice false r = refl

swap : (a b r : Bool) → (a || (b || r)) ≡ (b || (a || r))
swap true true r = refl
swap true false r = refl
swap false b r = refl

more_by : (o : Ordering) (k x : Bor (List ℕ)) (xs put : List (Bor (List ℕ))) (id : List ℕ) → by_bytes k x ≡ o → has put id ≡ (is_same id k.now || has xs id)
    → has (match_ordering o (k ∷ x ∷ xs) (x ∷ xs) (x ∷ put)) id ≡ (is_same id k.now || (is_same id x.now || has xs id))
more_by Less k x xs put id is rest = refl
more_by Equal k x xs put id is rest =
    let same : k.now ≡ x.now = slice_cmp-IsAntisymmetric nat_cmp-IsAntisymmetric k.now x.now is in
    twice (is_same id x.now) (has xs id) ∙ ap (λ (t : List ℕ). is_same id t || (is_same id x.now || has xs id)) (sym same)
more_by Greater k x xs put id is rest = ap (λ (b : Bool). is_same id x.now || b) rest ∙ swap (is_same id x.now) (is_same id k.now) (has xs id)

-- one text more was seen
has_more : (keys : List (Bor (List ℕ))) (key : Bor (List ℕ)) (id : List ℕ) → has (insert_key by_bytes keys key) id ≡ (is_same id key.now || has keys id)
has_more [] key id = refl
has_more (x ∷ xs) key id = more_by (by_bytes key x) key x xs (insert_key by_bytes xs key) id refl (has_more xs key id)

neither : (a b : Bool) → not (a || b) ≡ (not b && not a)
neither true true = refl
neither true false = refl
neither false true = refl
neither false false = refl

four : (a b p q : Bool) → ((a && b) && (p && q)) ≡ ((a && p) && (b && q))
four true true p q = refl
four true false true q = refl
four true false false q = refl
four false b p q = refl

three : (a b d : Bool) → (a && (b && d)) ≡ ((a && b) && d)
three true b d = refl
three false b d = refl

-- none was seen, and none is this
apart_too : (keys : List (Bor (List ℕ))) (key : Bor (List ℕ)) (rest : List (List ℕ))
    → (list_all (λ id. not (has keys id)) rest && list_all (λ other. not (is_same key.now other)) rest) ≡ list_all (λ id. not (has (insert_key by_bytes keys key) id)) rest
apart_too keys key [] = refl
apart_too keys key (x ∷ rest) =
    let here : (not (has keys x) && not (is_same key.now x)) ≡ not (has (insert_key by_bytes keys key) x) =
    ap (λ (b : Bool). not (has keys x) && not b) (same_back key.now x) ∙ (sym (neither (is_same x key.now) (has keys x)) ∙ ap not (sym (has_more keys key x))) in
    four (not (has keys x)) (list_all (λ id. not (has keys id)) rest) (not (is_same key.now x)) (list_all (λ other. not (is_same key.now other)) rest)
    ∙ (λ i. here i && apart_too keys key rest i)

-- a text that was not seen
pub new_one : (keys : List (Bor (List ℕ))) (key : Bor (List ℕ)) (rest : List (List ℕ)) → has keys key.now ≡ false
    → (list_all (λ id. not (has keys id)) (key.now ∷ rest) && are_distinct (key.now ∷ rest)) ≡ (list_all (λ id. not (has (insert_key by_bytes keys key) id)) rest && are_distinct rest)
new_one keys key rest new =
    ap (λ (b : Bool). (not b && list_all (λ id. not (has keys id)) rest) && are_distinct (key.now ∷ rest)) new
    ∙ (three (list_all (λ id. not (has keys id)) rest) (list_all (λ other. not (is_same key.now other)) rest) (are_distinct rest)
    ∙ ap (λ (b : Bool). b && are_distinct rest) (apart_too keys key rest))

-- nothing was seen
pub none_seen : (ids : List (List ℕ)) → list_all (λ id. not (has [] id)) ids ≡ true
none_seen [] = refl
none_seen (id ∷ ids) = none_seen ids

-- before the first
pub begun : (keys : List (Bor (List ℕ))) (ids : List (List ℕ)) → keys ≡ [] → are_distinct ids ≡ (list_all (λ id. not (has keys id)) ids && are_distinct ids)
begun keys ids is =
    sym (ap (λ (ks : List (Bor (List ℕ))). list_all (λ id. not (has ks id)) ids && are_distinct ids) is ∙ ap (λ (b : Bool). b && are_distinct ids) (none_seen ids))

module _ {X : Type 0} (f : X → List ℕ) where
  front_id : (items : List X) (i : ℕ) (x : X) (key : Bor (List ℕ)) → i < length items → x ≡ get_or items i x → key.now ≡ f x
      → map f (drop i items) ≡ key.now ∷ map f (drop (i + 1) items)
  front_id items i x key within at is = ap (map f) (front items i x within at) ∙ ap (λ (t : List ℕ). t ∷ map f (drop (i + 1) items)) (sym is)

  -- one element more was seen, for the first time
  pub seen_more : (items : List X) (i : ℕ) (x : X) (keys new : List (Bor (List ℕ))) (key : Bor (List ℕ)) → i < length items → x ≡ get_or items i x → key.now ≡ f x
      → not (has keys key.now) ≡ true → new ≡ insert_key by_bytes keys key
      → are_distinct (map f items) ≡ (list_all (λ id. not (has keys id)) (map f (drop i items)) && are_distinct (map f (drop i items)))
      → are_distinct (map f items) ≡ (list_all (λ id. not (has new id)) (map f (drop (i + 1) items)) && are_distinct (map f (drop (i + 1) items)))
  seen_more items i x keys new key within at is first grown so_far =
      let rest = map f (drop (i + 1) items) in
      so_far
      ∙ (ap (λ (ids : List (List ℕ)). list_all (λ id. not (has keys id)) ids && are_distinct ids) (front_id items i x key within at is)
      ∙ (new_one keys key rest (not-true _ first)
      ∙ ap (λ (ks : List (Bor (List ℕ))). list_all (λ id. not (has ks id)) rest && are_distinct rest) (sym grown)))
