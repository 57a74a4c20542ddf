-- What is written of a value, its kind reads as that value.
use Rattle.std.proofs.Common.{◌≡◌, ℕ, ℤ, pos, negsuc, ◌<◌, ◌^◌, Bool, true, false, cond, ◌&&◌, T, List, [], ◌∷◌, map, Option, Some, None, option_map, option_and_then, Ordering, Less, Equal, Greater, refl, ap, ◌∙◌, lt-ltb}
use Rattle.std.specs.Prelude.{All, FitsSigned, IfSome}
use Rattle.std.specs.Int.{w64}
use Rattle.std.specs.FinMap.{entries, from_sorted, is_sorted, entries-from_sorted, entries_sorted, same_entries_map}
use Rattle.std.specs.Ordering.{nat_cmp, is_lt}
use Rattle.std.specs.Cmp.Lexicographic.{slice_cmp}
use Rattle.std.proofs.lemmas.List.Elements.{All-head, All-tail}
use Rattle.lg_base.specs.Amounts.{AmountsByName}
use Rattle.lg_base.specs.declared.moment.Moment.{Moment}
use Rattle.lg_calls.specs.declared.info.Info.{Info}
use Rattle.lg_calls.specs.declared.info.Info.TheVariants as I
use Rattle.lg_calls.specs.declared.status.Status.{Status}
use Rattle.lg_calls.specs.declared.status.Status.TheVariants.{Pending, Running, BatchRunning, Done, Failed, Disabled, Unknown}
use Rattle.lg_json.specs.Tree.{Tree, int, str, trees_of, Members, members_of as tree_members}
use Rattle.serde_json.specs.Data.{Data}
use Rattle.serde_json.specs.Find.{as_str}
use Rattle.lg_snapshot.specs.Fitting.{AreAmounts, IsSignedInfo}
use Rattle.lg_snapshot.specs.Holding.{IsHeld, AreHeld, MembersAreHeld}
use Rattle.lg_snapshot.specs.Kinds.{number_in, int_in, amount_in, moment_in, status_in, maybe_in, each_item, list_in, each_member, pairs_in, amounts_of, amounts_in, info_in}
use Rattle.lg_snapshot.specs.Trees.{number, moment, status, maybe, listed, by_name, amounts, info}
use Rattle.lg_snapshot.proofs.ReadBack.{data_of, items_of, members_of, ComesBefore, IsInOrder, AreInOrder, MembersAreInOrder}

pub int_back : (z : ℤ) → FitsSigned w64 z → int_in (data_of (int z)) ≡ Some z
int_back (pos n) fits = ap (λ b. cond b (Some (pos n)) None) (lt-ltb n (2 ^ 63) fits.sfits)
int_back (negsuc n) fits = refl

pub status_back : (s : Status) → status_in (data_of (status s)) ≡ Some s
status_back Pending = refl
status_back Running = refl
status_back BatchRunning = refl
status_back Done = refl
status_back Failed = refl
status_back Disabled = refl
status_back Unknown = refl

pub info_back : (i : Info) → IsSignedInfo i → info_in (data_of (info i)) ≡ Some i
info_back (I.Text text) fits = refl
info_back (I.Number (pos n)) fits = ap (λ b. option_map I.Number (cond b (Some (pos n)) None)) (lt-ltb n (2 ^ 63) fits.sfits)
info_back (I.Number (negsuc n)) fits = refl
info_back (I.Truth b) fits = refl
info_back I.Null fits = refl

pub maybe_text : (o : Option (List ℕ)) → maybe_in as_str (data_of (maybe str o)) ≡ Some o
maybe_text None = refl
maybe_text (Some text) = refl

pub maybe_moment : (o : Option Moment) → maybe_in moment_in (data_of (maybe moment o)) ≡ Some o
maybe_moment None = refl
maybe_moment (Some when) = refl

pub maybe_number : (o : Option ℕ) → maybe_in number_in (data_of (maybe number o)) ≡ Some o
maybe_number None = refl
maybe_number (Some n) = refl

pub maybe_int : (o : Option ℤ) → IfSome o (FitsSigned w64) → maybe_in int_in (data_of (maybe int o)) ≡ Some o
maybe_int None fits = refl
maybe_int (Some z) fits = ap (option_map (λ (y : ℤ). Some y)) (int_back z fits)

-- ---- lists and objects

pub Holds : {A : Type 0} → A → Type 0
Holds x = Unit {0}

pub no_more : {A : Type 0} (xs : List A) → All Holds xs
unfolding Holds
no_more xs = λ k d below. tt

module _ {A : Type 0} (tree : A → Tree) (kind : Data → Option A) (Q : A → Type 0) (back : (x : A) → IsHeld (tree x) → Q x → kind (data_of (tree x)) ≡ Some x) where
  items_back : (xs : List A) → AreHeld (trees_of (map tree xs)) → All Q xs → each_item kind (items_of (trees_of (map tree xs))) ≡ Some xs
  items_back [] held all = refl
  items_back (x ∷ xs) held all =
      ap (option_and_then (λ y. option_map (λ ys. y ∷ ys) (each_item kind (items_of (trees_of (map tree xs)))))) (back x held.0 (All-head Q x xs all))
      ∙ ap (option_map (λ ys. x ∷ ys)) (items_back xs held.1 (All-tail Q x xs all))

  pub list_back : (xs : List A) → IsHeld (listed tree xs) → All Q xs → list_in kind (data_of (listed tree xs)) ≡ Some xs
  list_back xs held all = items_back xs held all

pub texts_back : (texts : List (List ℕ)) → IsHeld (listed str texts) → list_in as_str (data_of (listed str texts)) ≡ Some texts
texts_back texts held = list_back str as_str Holds (λ text held _. refl) texts held (no_more texts)

pub moments_back : (moments : List Moment) → IsHeld (listed moment moments) → list_in moment_in (data_of (listed moment moments)) ≡ Some moments
moments_back moments held = list_back moment moment_in Holds (λ when held _. refl) moments held (no_more moments)

module _ {A : Type 0} (tree : A → Tree) (kind : Data → Option A) (Q : List ℕ × A → Type 0) (back : (p : List ℕ × A) → IsHeld (tree p.1) → Q p → kind (data_of (tree p.1)) ≡ Some p.1) where
  abbrev named : List (List ℕ × A) → Members
  named pairs = tree_members (map (λ pair. (pair.0, tree pair.1)) pairs)

  named_back : (pairs : List (List ℕ × A)) → MembersAreHeld (named pairs) → All Q pairs → each_member kind (members_of (named pairs)) ≡ Some pairs
  named_back [] held all = refl
  named_back (p ∷ ps) held all =
      ap (option_and_then (λ y. option_map (λ ys. (p.0, y) ∷ ys) (each_member kind (members_of (named ps))))) (back p held.1 (All-head Q p ps all))
      ∙ ap (option_map (λ ys. p ∷ ys)) (named_back ps held.2 (All-tail Q p ps all))

  pub pairs_back : (pairs : List (List ℕ × A)) → IsHeld (by_name tree pairs) → All Q pairs → pairs_in kind (data_of (by_name tree pairs)) ≡ Some pairs
  pairs_back pairs held all = named_back pairs held all

pub params_back : (pairs : List (List ℕ × List ℕ)) → IsHeld (by_name str pairs) → pairs_in as_str (data_of (by_name str pairs)) ≡ Some pairs
params_back pairs held = pairs_back str as_str Holds (λ p held _. refl) pairs held (no_more pairs)

pub infos_back : (pairs : List (List ℕ × Info)) → IsHeld (by_name info pairs) → All (λ (pair : List ℕ × Info). IsSignedInfo pair.1) pairs → pairs_in info_in (data_of (by_name info pairs)) ≡ Some pairs
infos_back pairs held fit = pairs_back info info_in (λ (pair : List ℕ × Info). IsSignedInfo pair.1) (λ p held fits. info_back p.1 fits) pairs held fit

true_of : (b : Bool) → T b → b ≡ true
true_of true holds = refl
true_of false holds = absurd holds

sorted_amounts : (m : AmountsByName) → amounts_of (entries m) ≡ Some m
sorted_amounts m =
    let order = entries_sorted m in
    ap (λ b. cond b (Some (from_sorted (entries m))) None) (true_of (is_sorted (slice_cmp nat_cmp) (entries m)) order)
    ∙ ap (λ (n : AmountsByName). Some n) (same_entries_map (from_sorted (entries m)) m (entries-from_sorted (slice_cmp nat_cmp) (entries m) order))

pub amounts_back : (m : AmountsByName) → IsHeld (amounts m) → AreAmounts m → amounts_in (data_of (amounts m)) ≡ Some m
amounts_back m held all =
    ap (option_and_then amounts_of)
    (pairs_back number amount_in (λ (entry : List ℕ × ℕ). entry.1 < 2 ^ 32) (λ p held is. ap (λ b. cond b (Some p.1) None) (lt-ltb p.1 (2 ^ 32) is)) (entries m) held all)
    ∙ sorted_amounts m

-- ---- the order of names

pub maybe_order : {A : Type 0} (n : ℕ) (tree : A → Tree) (o : Option A) → ((x : A) → IsInOrder n (tree x)) → IsInOrder n (maybe tree o)
maybe_order n tree None each = tt
maybe_order n tree (Some x) each = each x

pub list_order : {A : Type 0} (n : ℕ) (tree : A → Tree) (Q : A → Type 0) → ((x : A) → Q x → IsInOrder n (tree x)) → (xs : List A) → All Q xs → AreInOrder n (trees_of (map tree xs))
list_order n tree Q each [] all = tt
list_order n tree Q each (x ∷ xs) all = (each x (All-head Q x xs all), list_order n tree Q each xs (All-tail Q x xs all))

first_of : (a b : Bool) → T (a && b) → T a
first_of true b holds = tt
first_of false b holds = absurd holds

second_of : (a b : Bool) → T (a && b) → T b
second_of true b holds = holds
second_of false b holds = absurd holds

less : (o : Ordering) → T (is_lt o) → o ≡ Less
less Less holds = refl
less Equal holds = absurd holds
less Greater holds = absurd holds

module _ {A : Type 0} (n : ℕ) (tree : A → Tree) (each : (x : A) → IsInOrder n (tree x)) where
  abbrev rest_of : List (List ℕ × A) → Members
  rest_of pairs = tree_members (map (λ pair. (pair.0, tree pair.1)) pairs)

  comes_before : (p : List ℕ × A) (ps : List (List ℕ × A)) → T (is_sorted (slice_cmp nat_cmp) (p ∷ ps)) → ComesBefore p.0 (rest_of ps)
  comes_before p [] order = tt
  comes_before p (q ∷ qs) order = less _ (first_of _ _ (first_of _ _ order))

  pub named_order : (pairs : List (List ℕ × A)) → T (is_sorted (slice_cmp nat_cmp) pairs) → MembersAreInOrder n (rest_of pairs)
  named_order [] order = tt
  named_order (p ∷ ps) order = (comes_before p ps order, each p.1, named_order ps (second_of _ _ order))

pub info_order : (n : ℕ) (i : Info) → IsInOrder n (info i)
info_order n (I.Text text) = tt
info_order n (I.Number z) = tt
info_order n (I.Truth b) = tt
info_order n I.Null = tt
