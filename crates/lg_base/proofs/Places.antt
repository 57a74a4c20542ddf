-- What a search finds among sorted entries, and what an edit at that place makes of the map.
use Rattle.std.proofs.Common.{Ordering, Less, Equal, Greater, ◌≡◌, ℕ, ◌+◌, zero, suc, ◌<◌, ◌≤◌, Bool, true, false, ◌&&◌, cond, T, List, [], ◌∷◌, length, get_or, set, Some, None, Ok, Err, Result, refl, sym, ap, subst, ◌∙◌, arith}
use Rattle.std.specs.List.{insert, AllPairs, All, HoldsAt}
use Rattle.std.specs.List.Sorted.{IsBinarySearchResult, IsSearchInRange, IsNonDecreasingBy}
use Rattle.std.specs.Ordering.{is_lt, is_eq, ordering_reverse, ordering_index}
use Rattle.std.specs.Cmp.{IsTotalOrder, alike_right, tied_back}
use Rattle.std.specs.FinMap.{get, from_sorted, find, put, is_sorted, same_entries_map, empty_of_len, len-entries, entries-from_sorted, entries-insert, get-from_sorted}
use Rattle.std.specs.FinMap as map
use Rattle.std.specs.FinMap.Entries.{by_order, below_all, is_sorted-put}
use Rattle.std.proofs.lemmas.List.Sorted.{searchable_from_sorted}

both_hold : (a b : Bool) → T (a && b) → T a × T b
both_hold true b h = (tt, h)
both_hold false b h = absurd h

is_less : (r : Ordering) → T (is_lt r) → r ≡ Less
is_less Less h = refl
is_less Equal h = absurd h
is_less Greater h = absurd h

-- new is the sorted entries es after a put of v at k
pub record IsPut {K X : Type 0} (R : K → K → Ordering) (es : List (K × X)) (k : K) (v : X) (new : List (K × X)) : Type 0 where
  pub sorted : T (is_sorted R es)
  pub is : new ≡ put R k v es

module _ {K : Type 0} {R : K → K → Ordering} (o : IsTotalOrder R) where
  -- turned round, a smaller key is greater, and a greater one smaller
  turned_less : (x y : K) → R x y ≡ Less → R y x ≡ Greater
  turned_less x y e = o.antisymm y x ∙ ap ordering_reverse e

  turned_greater : (x y : K) → R x y ≡ Greater → R y x ≡ Less
  turned_greater x y e = o.antisymm y x ∙ ap ordering_reverse e

module _ {K X : Type 0} {R : K → K → Ordering} (o : IsTotalOrder R) where
  -- a key below all entries is below each
  above_key : (x : K) (es : List (K × X)) → T (below_all R x es) → All (λ e. R x e.0 ≡ Less) es
  above_key x [] h k d in_range = absurd (omega (arith, in_range))
  above_key x (e ∷ es) h zero d in_range = is_less _ (both_hold _ _ h).0
  above_key x (e ∷ es) h (suc k) d in_range = above_key x es (both_hold _ _ h).1 k d (omega (arith, in_range))

  -- of two entries the earlier has the smaller key
  keys_rise : (es : List (K × X)) → T (is_sorted R es) → AllPairs (λ a b. R a.0 b.0 ≡ Less) es
  keys_rise [] h i j d before in_range = absurd (omega (arith, in_range))
  keys_rise (e ∷ es) h zero zero d before in_range = absurd (omega (arith, before))
  keys_rise (e ∷ es) h zero (suc j) d before in_range = above_key e.0 es (both_hold _ _ h).0 j d (omega (arith, in_range))
  keys_rise (e ∷ es) h (suc i) zero d before in_range = absurd (omega (arith, before))
  keys_rise (e ∷ es) h (suc i) (suc j) d before in_range = keys_rise es (both_hold _ _ h).1 i j d (omega (arith, before)) (omega (arith, in_range))

  -- what a binary search for q asks of the entries
  searchable : (es : List (K × X)) → T (is_sorted R es) → (q : K) → IsNonDecreasingBy (λ e. ordering_index (R e.0 q)) es
  searchable es h q = searchable_from_sorted o (λ e. e.0) es q (λ k d low high. ap is_lt (turned_less o _ _ (keys_rise es h k (k + 1) d (omega arith) (omega (arith, high)))))

  module _ (q : K) where
    -- each key before the place is below q
    abbrev BelowBefore : List (K × X) → ℕ → Type 0
    BelowBefore es at = (k : ℕ) (d : K × X) → k < at → R (get_or es k d).0 q ≡ Less

    -- each key from the place on is above q
    abbrev AboveFrom : List (K × X) → ℕ → Type 0
    AboveFrom es at = (k : ℕ) (d : K × X) → at ≤ k → k < length es → R (get_or es k d).0 q ≡ Greater

    -- the key at the place is q
    abbrev TiedAt : List (K × X) → ℕ → Type 0
    TiedAt es at = HoldsAt (λ e. R e.0 q ≡ Equal) es at

    below_before_tied : (es : List (K × X)) (at : ℕ) → T (is_sorted R es) → at < length es → TiedAt es at → BelowBefore es at
    below_before_tied es at h in_range tied k d before =
        sym (alike_right o _ q (get_or es k d).0 (tied d)) ∙ keys_rise es h k at d before in_range

    below_tail : (e : K × X) (es : List (K × X)) (at : ℕ) → BelowBefore (e ∷ es) (suc at) → BelowBefore es at
    below_tail e es at below k d before = below (suc k) d (omega (arith, before))

    above_tail : (e : K × X) (es : List (K × X)) (at : ℕ) → AboveFrom (e ∷ es) (suc at) → AboveFrom es at
    above_tail e es at above k d from in_range = above (suc k) d (omega (arith, from)) (omega (arith, in_range))

    -- what a look-up and a put do at the first entry, by how q compares with its key
    find_by : (r : Ordering) (e : K × X) (es : List (K × X)) → R q e.0 ≡ r → find R q (e ∷ es) ≡ cond (is_eq r) (Some e.1) (find R q es)
    find_by r e es compared = ap (λ answer. cond (is_eq answer) (Some e.1) (find R q es)) compared

    put_by : (r : Ordering) (v : X) (e : K × X) (es : List (K × X)) → R q e.0 ≡ r → put R q v (e ∷ es) ≡ by_order r ((q, v) ∷ e ∷ es) ((e.0, v) ∷ es) (e ∷ put R q v es)
    put_by r v e es compared = ap (λ answer. by_order answer ((q, v) ∷ e ∷ es) ((e.0, v) ∷ es) (e ∷ put R q v es)) compared

    find_at : (es : List (K × X)) (at : ℕ) → at < length es → BelowBefore es at → TiedAt es at → (d : K × X) → find R q es ≡ Some (get_or es at d).1
    find_at [] at in_range below tied d = absurd (omega (arith, in_range))
    find_at (e ∷ es) zero in_range below tied d = find_by Equal e es (tied_back o e.0 q (tied d))
    find_at (e ∷ es) (suc at) in_range below tied d =
        find_by Greater e es (turned_less o e.0 q (below 0 d (omega arith)))
        ∙ find_at es at (omega (arith, in_range)) (below_tail e es at below) tied d

    put_at : (es : List (K × X)) (at : ℕ) → at < length es → BelowBefore es at → TiedAt es at → (v : X) (d : K × X) → put R q v es ≡ set es at ((get_or es at d).0, v)
    put_at [] at in_range below tied v d = absurd (omega (arith, in_range))
    put_at (e ∷ es) zero in_range below tied v d = put_by Equal v e es (tied_back o e.0 q (tied d))
    put_at (e ∷ es) (suc at) in_range below tied v d =
        put_by Greater v e es (turned_less o e.0 q (below 0 d (omega arith)))
        ∙ ap (λ rest. e ∷ rest) (put_at es at (omega (arith, in_range)) (below_tail e es at below) tied v d)

    find_above : (es : List (K × X)) → AboveFrom es 0 → find R q es ≡ None
    find_above [] above = refl
    find_above (e ∷ es) above =
        find_by Less e es (turned_greater o e.0 q (above 0 e (omega arith) (omega arith)))
        ∙ find_above es (above_tail e es 0 (λ k d from in_range. above k d (omega arith) in_range))

    find_in_gap : (es : List (K × X)) (at : ℕ) → BelowBefore es at → AboveFrom es at → find R q es ≡ None
    find_in_gap es zero below above = find_above es above
    find_in_gap [] (suc at) below above = refl
    find_in_gap (e ∷ es) (suc at) below above =
        find_by Greater e es (turned_less o e.0 q (below 0 e (omega arith)))
        ∙ find_in_gap es at (below_tail e es at below) (above_tail e es at above)

    put_in_gap : (es : List (K × X)) (at : ℕ) → at ≤ length es → BelowBefore es at → AboveFrom es at → (v : X) → put R q v es ≡ insert es at (q, v)
    put_in_gap [] zero in_range below above v = refl
    put_in_gap [] (suc at) in_range below above v = absurd (omega (arith, in_range))
    put_in_gap (e ∷ es) zero in_range below above v = put_by Less v e es (turned_greater o e.0 q (above 0 e (omega arith) (omega arith)))
    put_in_gap (e ∷ es) (suc at) in_range below above v =
        put_by Greater v e es (turned_less o e.0 q (below 0 e (omega arith)))
        ∙ ap (λ rest. e ∷ rest) (put_in_gap es at (omega (arith, in_range)) (below_tail e es at below) (above_tail e es at above) v)

    -- where a search for q ended, among sorted entries
    abbrev pub Place : List (K × X) → Result ℕ ℕ → Type 0
    Place es r = IsSearchInRange r (length es) × IsBinarySearchResult (λ e. R e.0 q) es r

    -- a key that was found has the value of its entry, and to put a value there is to write over it
    pub get_found : (es : List (K × X)) (at : ℕ) → T (is_sorted R es) → Place es (Ok at) → (d : K × X) → get (from_sorted {R = R} es) q ≡ Some (get_or es at d).1
    get_found es at h place d = get-from_sorted R es q h ∙ find_at es at place.0 (below_before_tied es at h place.0 place.1) place.1 d

    pub put_found : (es : List (K × X)) (at : ℕ) → T (is_sorted R es) → Place es (Ok at) → (v : X) (e : K × X) → e ≡ get_or es at e → IsPut R es q v (set es at (e.0, v))
    put_found es at h place v e is = record {
      sorted = h;
      is = ap (λ x. set es at (x.0, v)) is ∙ sym (put_at es at place.0 (below_before_tied es at h place.0 place.1) place.1 v e);
    }

    -- a key that was not found is not there, and to put it is to insert its entry at the gap
    pub get_absent : (es : List (K × X)) (at : ℕ) → T (is_sorted R es) → Place es (Err at) → get (from_sorted {R = R} es) q ≡ None
    get_absent es at h place =
        let sides = place.1 (searchable es h q) in
        get-from_sorted R es q h ∙ find_in_gap es at (λ k d before. sides.0 k d (omega arith) before) sides.1

    pub put_absent : (es : List (K × X)) (at : ℕ) → T (is_sorted R es) → Place es (Err at) → (v : X) → (new : List (K × X)) → new ≡ insert es at (q, v) → IsPut R es q v new
    put_absent es at h place v new is =
        let sides = place.1 (searchable es h q) in
        record { sorted = h; is = is ∙ sym (put_in_gap es at place.0 (λ k d before. sides.0 k d (omega arith) before) sides.1 v) }

  -- entries after a put are sorted
  pub is_sorted-after_put : {es new : List (K × X)} {k : K} {v : X} → IsPut R es k v new → T (is_sorted R new)
  is_sorted-after_put {es} {k = k} {v = v} p = subst (λ entries. T (is_sorted R entries)) (sym p.is) (is_sorted-put R o k v es p.sorted)

  -- and are those of the map after an insert
  pub from_sorted-after_put : {es new : List (K × X)} {k : K} {v : X} → IsPut R es k v new → from_sorted {R = R} new ≡ map.insert (from_sorted es) k v
  from_sorted-after_put {es} {new} {k} {v} p =
      let same_entries =
      entries-from_sorted R new (is_sorted-after_put p)
      ∙ p.is
      ∙ ap (put R k v) (sym (entries-from_sorted R es p.sorted))
      ∙ sym (entries-insert o (from_sorted es) k v)
      in
      same_entries_map _ _ same_entries

pub from_sorted-nil : {K X : Type 0} {R : K → K → Ordering} → from_sorted {R = R} [] ≡ map.empty {X = X}
from_sorted-nil {X = X} {R = R} = empty_of_len _ (len-entries _ ∙ ap length (entries-from_sorted {X = X} R [] tt))
