-- Members of an object after one is taken out.
use Rattle.std.proofs.Common.{◌≡◌, ◌≢◌, ℕ, suc, List, [], ◌∷◌, Some, None, Ordering, Less, Equal, Greater, String, Global, string_cmp, is_eq, cond, refl, sym, ap, ◌∙◌, arith}
use Rattle.std.proofs.lemmas.Cmp.{nat_list_cmp_total, tied_itself}
use Rattle.std.proofs.lemmas.Map.Text.{is_eq-slice_cmp}
use Rattle.std.proofs.lemmas.Slice.Eq.{bytes_eq-Decides}
use Rattle.std.specs.BTreeMap.{is_at}
use Rattle.std.specs.Cmp.Lexicographic.{slice_cmp}
use Rattle.std.specs.List.{All}
use Rattle.std.specs.Map.{keys_of, remove_entry}
use Rattle.std.specs.Ordering.{nat_cmp, match_ordering}
use Rattle.std.specs.String.{string_bytes}
use Rattle.serde_json.specs.Data.{Data, Members, no_members, member}
use Rattle.serde_json.specs.Find.{get_member}
use Rattle.serde_json.specs.View.{view, members_view}
use Rattle.serde_json.proofs.Views.{Entry}
use Rattle.lg_json.specs.Fields.{without, IsTakenOut}

-- the same text compares as equal, and no other one does
same_name : (a b : List ℕ) → slice_cmp nat_cmp a b ≡ Equal → a ≡ b
same_name a b is = (bytes_eq-Decides a b).0 (sym (is_eq-slice_cmp a b) ∙ ap is_eq is)

-- another name passes over a member
passes_over : (o : Ordering) (other k : List ℕ) (d : Data) (ms : Members) → slice_cmp nat_cmp other k ≡ o → (other ≡ k → ⊥) → get_member other (member k d ms) ≡ get_member other ms
passes_over Less other k d ms is apart = rw is
passes_over Equal other k d ms is apart = absurd (apart (same_name other k is))
passes_over Greater other k d ms is apart = rw is

other_at : (o : Ordering) (name other k : List ℕ) (d : Data) (ms : Members) → slice_cmp nat_cmp name k ≡ o → (other ≡ name → ⊥) → get_member other (without name ms) ≡ get_member other ms
    → get_member other (match_ordering o (member k d (without name ms)) (without name ms) (member k d (without name ms))) ≡ get_member other (member k d ms)
other_at Less name other k d ms is apart later = ap (λ r. match_ordering (slice_cmp nat_cmp other k) r (Some d) r) later
other_at Equal name other k d ms is apart later =
    let elsewhere = λ (here : other ≡ k). apart (here ∙ sym (same_name name k is)) in
    later ∙ sym (passes_over _ other k d ms refl elsewhere)
other_at Greater name other k d ms is apart later = ap (λ r. match_ordering (slice_cmp nat_cmp other k) r (Some d) r) later

pub get_member-without_other : (name other : List ℕ) (ms : Members) → (other ≡ name → ⊥) → get_member other (without name ms) ≡ get_member other ms
get_member-without_other name other no_members apart = refl
get_member-without_other name other (member k d ms) apart = other_at _ name other k d ms refl apart (get_member-without_other name other ms apart)

-- nothing is taken out where the name has no member
absent_at : (o : Ordering) (name k : List ℕ) (d : Data) (ms : Members) → match_ordering o (get_member name ms) (Some d) (get_member name ms) ≡ None → (get_member name ms ≡ None → without name ms ≡ ms)
    → match_ordering o (member k d (without name ms)) (without name ms) (member k d (without name ms)) ≡ member k d ms
absent_at Less name k d ms none later = ap (member k d) (later none)
absent_at Equal name k d ms none later = cc
absent_at Greater name k d ms none later = ap (member k d) (later none)

without-absent : (name : List ℕ) (ms : Members) → get_member name ms ≡ None → without name ms ≡ ms
without-absent name no_members none = refl
without-absent name (member k d ms) none = absent_at _ name k d ms none (without-absent name ms)

-- the first entry goes, or it stays and one behind it goes
removed_at : (o : Ordering) (name : List ℕ) (e : Entry) (es left : List Entry) → slice_cmp nat_cmp name (string_bytes e.0) ≡ o → get_member name (members_view (cond (is_eq o) es (e ∷ left))) ≡ None
    → (get_member name (members_view left) ≡ None → members_view left ≡ without name (members_view es))
    → members_view (cond (is_eq o) es (e ∷ left))
    ≡ match_ordering o (member (string_bytes e.0) (view e.1) (without name (members_view es))) (without name (members_view es)) (member (string_bytes e.0) (view e.1) (without name (members_view es)))
removed_at Less name e es left is none later = ap (member (string_bytes e.0) (view e.1)) (later (rw is at none))
removed_at Equal name e es left is none later = sym (without-absent name (members_view es) none)
removed_at Greater name e es left is none later = ap (member (string_bytes e.0) (view e.1)) (later (rw is at none))

-- a removal from the map takes that member out, since each name stands once
pub members_view-remove_entry : (name : List ℕ) (es : List Entry) → get_member name (members_view (remove_entry (is_at (λ k. slice_cmp nat_cmp name (string_bytes k))) es)) ≡ None
    → members_view (remove_entry (is_at (λ k. slice_cmp nat_cmp name (string_bytes k))) es) ≡ without name (members_view es)
members_view-remove_entry name [] none = refl
members_view-remove_entry name (e ∷ es) none = removed_at _ name e es _ refl none (members_view-remove_entry name es)

-- the first member goes, and no later one has its name
pub first_taken : (name : List ℕ) (d : Data) (ms : Members) → get_member name ms ≡ None → IsTakenOut name (member name d ms) ms
first_taken name d ms none =
    let itself : slice_cmp nat_cmp name name ≡ Equal = tied_itself nat_list_cmp_total name in
    record {
      same = sym (rw itself (without-absent name ms none));
      gone = none;
      others = λ other apart. sym (passes_over _ other name d ms refl apart);
    }

at_or_behind : (o : Ordering) (first name : List ℕ) (e : Entry) (ms : Members) → slice_cmp nat_cmp name (string_bytes e.0) ≡ o → slice_cmp nat_cmp first (string_bytes e.0) ≡ Less
    → (get_member name ms ≢ None → slice_cmp nat_cmp first name ≡ Less)
    → match_ordering o (get_member name ms) (Some (view e.1)) (get_member name ms) ≢ None → slice_cmp nat_cmp first name ≡ Less
at_or_behind Less first name e ms is below behind there = behind there
at_or_behind Equal first name e ms is below behind there = rw (same_name name (string_bytes e.0) is) below
at_or_behind Greater first name e ms is below behind there = behind there

-- what is below each key is below each name that is there
pub below_names : (first : String Global) (es : List Entry) → All (λ k. string_cmp first k ≡ Less) (keys_of es) → (name : List ℕ) → get_member name (members_view es) ≢ None → slice_cmp nat_cmp (string_bytes first) name ≡ Less
below_names first [] all name there = absurd (there refl)
below_names first (e ∷ es) all name there =
    let later : All (λ k. string_cmp first k ≡ Less) (keys_of es) = λ k d within. all (suc k) d (omega (arith, within)) in
    at_or_behind _ (string_bytes first) name e (members_view es) refl (all 0 e.0 (omega arith)) (below_names first es later name) there
