-- Maps of files over calls that stay aside, and over one rename.
use Rattle.std.proofs.Common.{◌≡◌, ℕ, ◌≢◌, Bool, true, false, List, [], ◌∷◌, ◌++◌, Some, ◌⊎◌, inl, inr, true≢false, length, drop, refl, sym, ap, subst, ◌∙◌, append_assoc}
use Rattle.std.specs.Prelude.{All}
use Rattle.std.specs.Str.{bytes_eq}
use Rattle.std.specs.FinMap.{get, insert, get-insert, get-remove, slice_cmp-IsAntisymmetric, nat_cmp-IsAntisymmetric}
use Rattle.std.specs.FinMap as map
use Rattle.std.specs.Ordering.{nat_cmp, eq_by_cmp}
use Rattle.std.specs.declared.cmp.Ordering.TheVariants.{Equal}
use Rattle.std.specs.Cmp.Lexicographic.{slice_cmp}
use Rattle.std.specs.Cmp.{Equal-is}
use Rattle.std.proofs.lemmas.Bool.{cond-true, cond-false, false_from_ne_true}
use Rattle.std.proofs.lemmas.Cmp.{nat_list_cmp_total}
use Rattle.std.proofs.lemmas.List.{append-nil}
use Rattle.std.proofs.lemmas.List.Elements.{All-nil, All-cons, All-head, All-tail, All-append}
use Rattle.std.proofs.lemmas.Map.Text.{is_eq-slice_cmp}
use Rattle.std.proofs.lemmas.Slice.Eq.{bytes_eq-Decides}
use Rattle.std.proofs.Math.Seq.{drop-append_seam}
use Rattle.lg_io.specs.Files.{FileMap, FileCall, read, create, append, close, rename, remove, exists, make_folder, FileAnswer, found, is, absent, done, failed, no_memory, AnsweredCall, FilesTold, IsCalled, Does, IsTemporary, AppearInTurn, present}
use Rattle.lg_target.specs.Target.{Stays, IsOld, IsMovedTo, IsReplaced, IsOldOrWhole, AreCalled, maps_between, StaysAside, StayAside, RenamesOnce}

-- the last of some maps and others behind it
pub present-append : (ms ns : List FileMap) → present (ms ++ ns) ≡ present (present ms ∷ ns)
present-append [] [] = refl
present-append [] (n ∷ ns) = refl
present-append (m ∷ []) ns = refl
present-append (m ∷ k ∷ ms) ns = present-append (k ∷ ms) ns

-- what holds of each of some maps holds of the last
pub present-All : (P : FileMap → Type 0) (m : FileMap) (ms : List FileMap) → P m → All P ms → P (present (m ∷ ms))
present-All P m [] first rest = first
present-All P m (n ∷ ms) first rest = present-All P n ms (All-head P n ms rest) (All-tail P n ms rest)

-- a path without the mark is no path with it
pub apart : (path other : List ℕ) → (IsTemporary path → ⊥) → IsTemporary other → path ≢ other
apart path other plain temporary same = plain (subst IsTemporary (sym same) temporary)

-- the keys of a map that its order doesn't tell apart are one
same_key : (path other : List ℕ) → eq_by_cmp (slice_cmp nat_cmp) path other ≡ true → path ≡ other
same_key path other same =
    slice_cmp-IsAntisymmetric nat_cmp-IsAntisymmetric path other ((Equal-is (slice_cmp nat_cmp path other)).0 same)

other_key : (path other : List ℕ) → path ≢ other → eq_by_cmp (slice_cmp nat_cmp) path other ≡ false
other_key path other differ = false_from_ne_true _ (λ same. differ (same_key path other same))

-- a file is written at another path
pub get-insert_other : (files : FileMap) (at : List ℕ) (bytes path : List ℕ) → path ≢ at → get (insert files at bytes) path ≡ get files path
get-insert_other files at bytes path differ =
    get-insert nat_list_cmp_total files at bytes path ∙ cond-false _ _ _ (other_key path at differ)

slice_cmp-refl : (xs : List ℕ) → slice_cmp nat_cmp xs xs ≡ Equal
slice_cmp-refl xs = (Equal-is (slice_cmp nat_cmp xs xs)).0 (is_eq-slice_cmp xs xs ∙ (bytes_eq-Decides xs xs).1 refl)

pub get-insert_same : (files : FileMap) (at bytes : List ℕ) → get (insert files at bytes) at ≡ Some bytes
get-insert_same files at bytes =
    get-insert nat_list_cmp_total files at bytes at ∙ cond-true _ _ _ ((Equal-is (slice_cmp nat_cmp at at)).1 (slice_cmp-refl at))

-- a file is taken away at another path
get-remove_other : (files : FileMap) (at path : List ℕ) → path ≢ at → get (map.remove files at) path ≡ get files path
get-remove_other files at path differ =
    get-remove nat_list_cmp_total files at path ∙ cond-false _ _ _ (other_key path at differ)

-- a call that stays aside leaves each path without the mark as it is
pub stays_aside : (call : FileCall) (answer : FileAnswer) (before after : FileMap) (path : List ℕ) → (IsTemporary path → ⊥)
    → StaysAside call answer → Does call answer before after → get after path ≡ get before path
stays_aside (read p) (found bytes) before after path plain aside does = ap (λ m. get m path) does.1
stays_aside (read p) absent before after path plain aside does = ap (λ m. get m path) does.1
stays_aside (read p) failed before after path plain aside does = ap (λ m. get m path) does
stays_aside (read p) no_memory before after path plain aside does = ap (λ m. get m path) does.2
stays_aside (create p) done before after path plain aside does =
    ap (λ m. get m path) does ∙ get-insert_other before p [] path (apart path p plain aside)
stays_aside (create p) failed before after path plain aside does = does path (apart path p plain aside)
stays_aside (append p piece) done before after path plain aside does =
    ap (λ m. get m path) does.2 ∙ get-insert_other before p (does.0 ++ piece) path (apart path p plain aside)
stays_aside (append p piece) failed before after path plain aside does = does path (apart path p plain aside)
stays_aside (close p) done before after path plain aside does = ap (λ m. get m path) does
stays_aside (close p) failed before after path plain aside does = does path (apart path p plain aside)
stays_aside (rename from to) done before after path plain aside does =
    ap (λ m. get m path) does.2 ∙ get-insert_other (map.remove before from) to does.0 path (apart path to plain aside.1)
    ∙ get-remove_other before from path (apart path from plain aside.0)
stays_aside (rename from to) failed before after path plain aside does = ap (λ m. get m path) does
stays_aside (remove p) done before after path plain aside does =
    ap (λ m. get m path) does ∙ get-remove_other before p path (apart path p plain aside)
stays_aside (remove p) failed before after path plain aside does = ap (λ m. get m path) does
stays_aside (exists p) (is b) before after path plain aside does = ap (λ m. get m path) does.1
stays_aside (exists p) failed before after path plain aside does = ap (λ m. get m path) does
stays_aside (make_folder p) done before after path plain aside does = ap (λ m. get m path) does
stays_aside (make_folder p) failed before after path plain aside does = ap (λ m. get m path) does
stays_aside call answer before after path plain aside does = absurd does

-- files that appear leave it too
appear_aside : (before : FileMap) (more : List FileMap) (path : List ℕ) → (IsTemporary path → ⊥) → AppearInTurn before more
    → Stays path (get before path) more
appear_aside before [] path plain appear = All-nil (λ n. get n path ≡ get before path)
appear_aside before (m ∷ ms) path plain appear =
    let same : get m path ≡ get before path =
    ap (λ n. get n path) appear.0.is ∙ get-insert_other before appear.0.path appear.0.bytes path (apart path appear.0.path plain appear.0.temporary) in
    All-cons (λ n. get n path ≡ get before path) m ms same
    (subst (λ held. Stays path held ms) same (appear_aside m ms path plain appear.1))

-- as a path stands at the last of some maps it stands behind others that leave it
stands_behind : (path : List ℕ) (maps more : List FileMap) → Stays path (get (present maps) path) more
    → get (present (maps ++ more)) path ≡ get (present maps) path
stands_behind path maps more stays =
    ap (λ m. get m path) (present-append maps more)
    ∙ present-All (λ m. get m path ≡ get (present maps) path) (present maps) more refl stays

-- what some calls made of the maps: these more, in which the path stands as before
pub record GoesOn (path : List ℕ) (before after : FilesTold) : Type 0 where
  pub more : List FileMap
  pub maps : after.maps ≡ before.maps ++ more
  pub stays : Stays path (get (present before.maps) path) more

goes_nowhere : (path : List ℕ) (before after : FilesTold) → after ≡ before → GoesOn path before after
goes_nowhere path before after same = record {
  more = [];
  maps = ap (λ told. told.maps) same ∙ sym (append-nil before.maps);
  stays = All-nil (λ m. get m path ≡ get (present before.maps) path);
}

goes_then : (path : List ℕ) (before between after : FilesTold) → GoesOn path before between → GoesOn path between after → GoesOn path before after
goes_then path before between after first rest =
    let held = get (present before.maps) path in
    let same : get (present between.maps) path ≡ held =
    ap (λ ms. get (present ms) path) first.maps ∙ stands_behind path before.maps first.more first.stays in
    record {
      more = first.more ++ rest.more;
      maps = rest.maps ∙ ap (λ ms. ms ++ rest.more) first.maps ∙ append_assoc before.maps first.more rest.more;
      stays = All-append (λ m. get m path ≡ held) first.more rest.more first.stays (subst (λ h. Stays path h rest.more) same rest.stays);
    }

-- one call, whose files have appeared and which leaves the path as it is
goes_by : (path : List ℕ) (before : FilesTold) (call : FileCall) (answer : FileAnswer) (after : FilesTold) (plain : IsTemporary path → ⊥)
    (called : IsCalled before call answer after) → get called.left path ≡ get (present (before.maps ++ called.appeared)) path → GoesOn path before after
goes_by path before call answer after plain called same =
    let held = get (present before.maps) path in
    let appeared = appear_aside (present before.maps) called.appeared path plain called.appear in
    record {
      more = called.appeared ++ called.left ∷ [];
      maps = called.maps ∙ append_assoc before.maps called.appeared (called.left ∷ []);
      stays = All-append (λ m. get m path ≡ held) called.appeared (called.left ∷ []) appeared
          (All-cons (λ m. get m path ≡ held) called.left [] (same ∙ stands_behind path before.maps called.appeared appeared) (All-nil (λ m. get m path ≡ held)));
    }

-- calls that stay aside, one after another
pub calls_aside : (path : List ℕ) (before : FilesTold) (calls : List AnsweredCall) (after : FilesTold) → (IsTemporary path → ⊥)
    → StayAside calls → AreCalled before calls after → GoesOn path before after
calls_aside path before [] after plain aside called = goes_nowhere path before after called
calls_aside path before (made ∷ calls) after plain aside called =
    let first = goes_by path before made.call made.answer called.0 plain called.1
    (stays_aside made.call made.answer _ called.1.left path plain (All-head (λ c. StaysAside c.call c.answer) made calls aside) called.1.does) in
    goes_then path before called.0 after first
    (calls_aside path called.0 calls after plain (All-tail (λ c. StaysAside c.call c.answer) made calls aside) called.2)

-- the maps between two times
maps_then : (before after : FilesTold) (more : List FileMap) → after.maps ≡ before.maps ++ more → maps_between before after ≡ present before.maps ∷ more
maps_then before after more are =
    ap (λ ms. present before.maps ∷ drop (length before.maps) ms) are ∙ ap (λ ms. present before.maps ∷ ms) (drop-append_seam before.maps more)

is_old : (path : List ℕ) (before after : FilesTold) → GoesOn path before after → IsOld path (maps_between before after)
is_old path before after goes =
    let held = get (present before.maps) path in
    record {
      held = held;
      stays = subst (Stays path held) (sym (maps_then before after goes.more goes.maps))
          (All-cons (λ m. get m path ≡ held) (present before.maps) goes.more refl goes.stays);
    }

pub old_aside : (path : List ℕ) (before : FilesTold) (calls : List AnsweredCall) (after : FilesTold) → (IsTemporary path → ⊥)
    → StayAside calls → AreCalled before calls after → IsOld path (maps_between before after)
old_aside path before calls after plain aside called = is_old path before after (calls_aside path before calls after plain aside called)

-- a rename of a file aside leaves a path without the mark, or moves the file to it
renames_by : (same : Bool) (path aside target whole : List ℕ) (before after : FileMap) → bytes_eq path target ≡ same → (IsTemporary path → ⊥) → IsTemporary aside
    → get before aside ≡ Some whole → (moved : after ≡ insert (map.remove before aside) target whole)
    → (get after path ≡ get before path) ⊎ ((w : List ℕ) × IsMovedTo path w before after)
renames_by true path aside target whole before after same plain temporary held moved =
    inr (
      whole,
      record {
        aside = aside;
        temporary = temporary;
        held = held;
        is = subst (λ p. after ≡ insert (map.remove before aside) p whole) (sym ((bytes_eq-Decides path target).0 same)) moved;
      },
    )
renames_by false path aside target whole before after same plain temporary held moved =
    let differ : path ≢ target = λ e. true≢false (sym ((bytes_eq-Decides path target).1 e) ∙ same) in
    inl (ap (λ m. get m path) moved ∙ get-insert_other (map.remove before aside) target whole path differ
    ∙ get-remove_other before aside path (apart path aside plain temporary))

renames : (answer : FileAnswer) (path aside target : List ℕ) (before after : FileMap) → (IsTemporary path → ⊥) → IsTemporary aside
    → Does (rename aside target) answer before after → (get after path ≡ get before path) ⊎ ((w : List ℕ) × IsMovedTo path w before after)
renames done path aside target before after plain temporary does =
    renames_by (bytes_eq path target) path aside target does.0 before after refl plain temporary does.1 does.2
renames failed path aside target before after plain temporary does = inl (ap (λ m. get m path) does)
renames answer path aside target before after plain temporary does = absurd does

-- calls in two parts
pub called_in_two : (before : FilesTold) (first later : List AnsweredCall) (after : FilesTold) → AreCalled before (first ++ later) after
    → (between : FilesTold) × AreCalled before first between × AreCalled between later after
called_in_two before [] later after called = (before, refl, called)
called_in_two before (made ∷ first) later after called =
    let rest = called_in_two called.0 first later after called.2 in
    (rest.0, (called.0, called.1, rest.1), rest.2)

in_one : (maps first appeared : List FileMap) (left : FileMap) (later : List FileMap)
    → maps ++ first ++ appeared ++ left ∷ [] ++ later ≡ maps ++ (first ++ appeared ++ left ∷ later)
in_one maps first appeared left later =
    append_assoc (maps ++ first ++ appeared) (left ∷ []) later ∙ ap (λ ms. ms ++ left ∷ later) (append_assoc maps first appeared)
    ∙ append_assoc maps (first ++ appeared) (left ∷ later)

-- the path stands as it was, then a file is moved to it, then it stands so
pub replaced : (path whole : List ℕ) (before begun : FilesTold) (call : FileCall) (answer : FileAnswer) (renamed after : FilesTold) → (IsTemporary path → ⊥)
    → GoesOn path before begun → (called : IsCalled begun call answer renamed) → IsMovedTo path whole (present (begun.maps ++ called.appeared)) called.left
    → GoesOn path renamed after → IsReplaced path whole (maps_between before after)
replaced path whole before begun call answer renamed after plain first called moved later =
    let held = get (present before.maps) path in
    let old = λ (m : FileMap). get m path ≡ held in
    let new = λ (m : FileMap). get m path ≡ Some whole in
    let stood : get (present begun.maps) path ≡ held =
    ap (λ ms. get (present ms) path) first.maps ∙ stands_behind path before.maps first.more first.stays in
    let appeared : Stays path held called.appeared =
    subst (λ h. Stays path h called.appeared) stood (appear_aside (present begun.maps) called.appeared path plain called.appear) in
    let front = first.more ++ called.appeared in
    let same : present (begun.maps ++ called.appeared) ≡ present (present before.maps ∷ front) =
    ap (λ ms. present (ms ++ called.appeared)) first.maps ∙ ap present (append_assoc before.maps first.more called.appeared)
    ∙ present-append before.maps front in
    let is_new : new called.left = ap (λ m. get m path) moved.is ∙ get-insert_same (map.remove _ moved.aside) path whole in
    let last : present renamed.maps ≡ called.left = ap present called.maps ∙ present-append (begun.maps ++ called.appeared) (called.left ∷ []) in
    let maps = later.maps ∙ ap (λ ms. ms ++ later.more) (called.maps ∙ ap (λ ms. ms ++ called.appeared ++ called.left ∷ []) first.maps)
    ∙ in_one before.maps first.more called.appeared called.left later.more in
    record {
      held = held;
      before = present before.maps ∷ front;
      moved = called.left;
      later = later.more;
      are = maps_then before after (front ++ called.left ∷ later.more) maps;
      old = All-cons old (present before.maps) front refl (All-append old first.more called.appeared first.stays appeared);
      renamed = subst (λ m. IsMovedTo path whole m called.left) same moved;
      new = All-cons new called.left later.more is_new (subst (λ h. Stays path h later.more) (ap (λ m. get m path) last ∙ is_new) later.stays);
    }

pub old_or_whole : (path : List ℕ) (before : FilesTold) (calls : List AnsweredCall) (after : FilesTold) → (IsTemporary path → ⊥)
    → RenamesOnce calls → AreCalled before calls after → IsOldOrWhole path (maps_between before after)
old_or_whole path before calls after plain once called =
    let parts = called_in_two before once.first (record { call = rename once.aside once.path; answer = once.answer } ∷ once.later) after
    (subst (λ cs. AreCalled before cs after) once.are called) in
    let first = calls_aside path before once.first parts.0 plain once.aside_first parts.1 in
    let later = calls_aside path parts.2.0 once.later after plain once.aside_later parts.2.2 in
    elim (renames once.answer path once.aside once.path _ parts.2.1.left plain once.temporary parts.2.1.does) as (λ _. IsOldOrWhole path (maps_between before after)) [
      | inl same ↦ inl (is_old path before after (goes_then path before parts.0 after first
          (goes_then path parts.0 parts.2.0 after (goes_by path parts.0 _ _ parts.2.0 plain parts.2.1 same) later)))
      | inr moved ↦ inr (moved.0, replaced path moved.0 before parts.0 _ _ parts.2.0 after plain first parts.2.1 moved.1 later)
    ]
