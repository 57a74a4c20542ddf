-- The members of a map stand in the order of their names' bytes.
use Rattle.std.proofs.Common.{◌≡◌, ℕ, List, [], ◌∷◌, Bool, true, false, ◌&&◌, T, Ok, Less, string_bytes, string_cmp, nat_cmp}
use Rattle.std.specs.Cmp.Lexicographic.{slice_cmp}
use Rattle.std.specs.FinMap.{is_sorted}
use Rattle.std.specs.FinMap.Entries.{below_all}
use Rattle.std.specs.List.{AllByRecursion}
use Rattle.std.specs.List.Sorted.{IsStrictlySortedBy}
use Rattle.std.specs.Map.{keys_of}
use Rattle.std.specs.Ordering.{is_lt}
use Rattle.serde_json.specs.Data.{Data}
use Rattle.serde_json.specs.View.{view, members_view}
use Rattle.serde_json.proofs.Views.{Entry}
use Rattle.lg_base.specs.Names.{AreInOrder}
use Rattle.lg_json.specs.Fields.{Read, each_member}
use Rattle.lg_json.proofs.Reading.{member_first, none_read}

and : (a b : Bool) → T a → T b → T (a && b)
and true b p q = q
and false b p q = absurd p

below : {A : Type 0} (read : Data → Read A) (e : Entry) (es : List Entry) (all : List (List ℕ × A)) → AllByRecursion (λ k. string_cmp e.0 k ≡ Less) (keys_of es) → each_member read (members_view es) ≡ Ok all
    → T (below_all (slice_cmp nat_cmp) (string_bytes e.0) all)
below read e [] all later is = rw (none_read all is) tt
below read e (f ∷ es) all (first, later) is =
    let here = member_first read (string_bytes f.0) (view f.1) (members_view es) all is in
    rw here.joined (and (is_lt (slice_cmp nat_cmp (string_bytes e.0) (string_bytes f.0))) (below_all (slice_cmp nat_cmp) (string_bytes e.0) here.later) (rw first tt) (below read e es here.later later here.reads_on))

pub in_order : {A : Type 0} (read : Data → Read A) (es : List Entry) (all : List (List ℕ × A)) → IsStrictlySortedBy string_cmp (keys_of es) → each_member read (members_view es) ≡ Ok all → AreInOrder all
unfolding IsStrictlySortedBy
in_order read [] all sorted is = rw (none_read all is) tt
in_order read (e ∷ es) all (first, later) is =
    let here = member_first read (string_bytes e.0) (view e.1) (members_view es) all is in
    rw here.joined (and (below_all (slice_cmp nat_cmp) (string_bytes e.0) here.later) (is_sorted (slice_cmp nat_cmp) here.later) (below read e es here.later first here.reads_on) (in_order read es here.later later here.reads_on))
