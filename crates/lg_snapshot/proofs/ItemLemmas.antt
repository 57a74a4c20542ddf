-- Items and members that are read one after another.
use Rattle.std.proofs.Common.{◌≡◌, ℕ, zero, suc, ◌<◌, List, [], ◌∷◌, ◌++◌, length, get_or, Option, Some, None, option_map, option_and_then, Result, Err, refl, sym, ap, ◌∙◌, arith, append_assoc, append-nil}
use Rattle.std.specs.Result.{IsErrAnd}
use Rattle.std.proofs.lemmas.Result.{err_from_is_err_and}
use Rattle.serde_json.specs.Data.{Data, Items, item, Members, no_members, member}
use Rattle.serde_json.specs.View.{view, items_view}
use Rattle.serde_json.specs.declared.value.Value.{Value}
use Rattle.lg_snapshot.specs.declared.entries.Unread.{Unread}
use Rattle.lg_snapshot.specs.declared.entries.Unread.TheVariants.{Other, NoMemory}
use Rattle.lg_snapshot.specs.Kinds.{each_item, each_member}
use Rattle.lg_snapshot.specs.Reading.{Answers}

some_is : {A : Type 0} (x y : A) → Some x ≡ Some y → x ≡ y
some_is x y is = cc

-- the parts of a list that was read
parts_of : {A : Type 0} (first : Option A) (behind : Option (List A)) (all : List A) → option_and_then (λ x. option_map (λ xs. x ∷ xs) behind) first ≡ Some all
    → (x : A) × (xs : List A) × (first ≡ Some x) × (behind ≡ Some xs) × (all ≡ x ∷ xs)
parts_of None behind all is = absurd cc
parts_of (Some x) None all is = absurd cc
parts_of (Some x) (Some xs) all is = (x, xs, refl, refl, sym (some_is (x ∷ xs) all is))

module _ {A : Type 0} (kind : Data → Option A) where
  -- one item more is read
  pub item_more : (vs : List Value) (v : Value) (read : List A) (x : A) → each_item kind (items_view vs) ≡ Some read → kind (view v) ≡ Some x → each_item kind (items_view (vs ++ v ∷ [])) ≡ Some (read ++ x ∷ [])
  item_more [] v read x is here =
      ap (option_and_then (λ y. option_map (λ ys. y ∷ ys) (Some []))) here ∙ ap (λ (xs : List A). Some (xs ++ x ∷ [])) (some_is [] read is)
  item_more (w ∷ vs) v read x is here =
      let p = parts_of (kind (view w)) (each_item kind (items_view vs)) read is in
      ap (option_and_then (λ y. option_map (λ ys. y ∷ ys) (each_item kind (items_view (vs ++ v ∷ []))))) p.2
      ∙ (ap (option_map (λ ys. p.0 ∷ ys)) (item_more vs v p.1 x p.3 here) ∙ ap (λ (xs : List A). Some (xs ++ x ∷ [])) (sym p.4))

  none_first : (d : Data) (ds : Items) → kind d ≡ None → each_item kind (item d ds) ≡ None
  none_first d ds is = ap (option_and_then (λ x. option_map (λ xs. x ∷ xs) (each_item kind ds))) is

  none_behind : (o : Option A) → option_and_then (λ (x : A). option_map (λ xs. x ∷ xs) None) o ≡ None
  none_behind None = refl
  none_behind (Some x) = refl

  -- one item is of another kind
  pub item_other : (vs : List Value) (i : ℕ) (v : Value) → i < length vs → v ≡ get_or vs i v → kind (view v) ≡ None → each_item kind (items_view vs) ≡ None
  item_other [] i v within at other = absurd (omega arith)
  item_other (w ∷ vs) zero v within at other = none_first (view w) (items_view vs) (ap (λ y. kind (view y)) (sym at) ∙ other)
  item_other (w ∷ vs) (suc i) v within at other =
      ap (λ behind. option_and_then (λ x. option_map (λ xs. x ∷ xs) behind) (kind (view w))) (item_other vs i v (omega arith) at other) ∙ none_behind (kind (view w))

  refused_by : (vs : List Value) (i : ℕ) (v : Value) (fault : Unread) → Answers (Err fault) (kind (view v)) → i < length vs → v ≡ get_or vs i v
      → Answers (Err fault) (each_item kind (items_view vs))
  refused_by vs i v Other is within at = item_other vs i v within at is
  refused_by vs i v NoMemory is within at = tt

  -- one item is refused
  pub item_refused : (vs : List Value) (i : ℕ) (v : Value) (fault : Unread) (result : Result (List A) Unread) → Answers (Err fault) (kind (view v)) → i < length vs → v ≡ get_or vs i v
      → IsErrAnd result (λ told. told ≡ fault) → Answers result (each_item kind (items_view vs))
  item_refused vs i v fault result is within at told =
      let p = err_from_is_err_and result told in
      rw (p.1, p.2) (refused_by vs i v fault is within at)

-- ---- members, of which some are left

pub gathered_none : {A : Type 0} (o : Option (List A)) → o ≡ option_map (λ rest. [] ++ rest) o
gathered_none None = refl
gathered_none (Some xs) = refl

pub gathered_more : {A : Type 0} (done : List A) (x : A) (o : Option (List A)) → option_map (λ rest. done ++ rest) (option_map (λ xs. x ∷ xs) o) ≡ option_map (λ rest. (done ++ x ∷ []) ++ rest) o
gathered_more done x None = refl
gathered_more done x (Some xs) = ap (λ ys. Some ys) (sym (append_assoc done (x ∷ []) xs))

module _ {A : Type 0} (kind : Data → Option A) where
  -- one member more is read
  pub member_more : (whole : Option (List (List ℕ × A))) (done : List (List ℕ × A)) (name : List ℕ) (d : Data) (x : A) (before left : Members)
      → before ≡ member name d left → kind d ≡ Some x
      → whole ≡ option_map (λ rest. done ++ rest) (each_member kind before)
      → whole ≡ option_map (λ rest. (done ++ (name, x) ∷ []) ++ rest) (each_member kind left)
  member_more whole done name d x before left is here so_far =
      so_far
      ∙ (ap (λ ms. option_map (λ rest. done ++ rest) (each_member kind ms)) is
      ∙ (ap (λ o. option_map (λ rest. done ++ rest) (option_and_then (λ y. option_map (λ ys. (name, y) ∷ ys) (each_member kind left)) o)) here
      ∙ gathered_more done (name, x) (each_member kind left)))

  -- one member is of another kind
  pub member_other : (whole : Option (List (List ℕ × A))) (done : List (List ℕ × A)) (name : List ℕ) (d : Data) (before left : Members)
      → before ≡ member name d left → kind d ≡ None → whole ≡ option_map (λ rest. done ++ rest) (each_member kind before) → whole ≡ None
  member_other whole done name d before left is other so_far =
      so_far
      ∙ (ap (λ ms. option_map (λ rest. done ++ rest) (each_member kind ms)) is
      ∙ ap (λ o. option_map (λ rest. done ++ rest) (option_and_then (λ y. option_map (λ ys. (name, y) ∷ ys) (each_member kind left)) o)) other)

  -- no member is left
  pub members_over : (whole : Option (List (List ℕ × A))) (done : List (List ℕ × A)) (left : Members)
      → left ≡ no_members → whole ≡ option_map (λ rest. done ++ rest) (each_member kind left) → whole ≡ Some done
  members_over whole done left is so_far =
      so_far ∙ (ap (λ ms. option_map (λ rest. done ++ rest) (each_member kind ms)) is ∙ ap (λ xs. Some xs) (append-nil done))

  left_refused : (whole : Option (List (List ℕ × A))) (done : List (List ℕ × A)) (name : List ℕ) (d : Data) (before left : Members) (fault : Unread)
      → before ≡ member name d left → Answers (Err fault) (kind d) → whole ≡ option_map (λ rest. done ++ rest) (each_member kind before) → Answers (Err fault) whole
  left_refused whole done name d before left Other is other so_far = member_other whole done name d before left is other so_far
  left_refused whole done name d before left NoMemory is other so_far = tt

  -- one member is refused
  pub member_refused : (whole : Option (List (List ℕ × A))) (done : List (List ℕ × A)) (name : List ℕ) (d : Data) (before left : Members) (fault : Unread) (result : Result (List (List ℕ × A)) Unread)
      → before ≡ member name d left → Answers (Err fault) (kind d) → whole ≡ option_map (λ rest. done ++ rest) (each_member kind before)
      → IsErrAnd result (λ told. told ≡ fault) → Answers result whole
  member_refused whole done name d before left fault result is other so_far told =
      let p = err_from_is_err_and result told in
      rw (p.1, p.2) (left_refused whole done name d before left fault is other so_far)
