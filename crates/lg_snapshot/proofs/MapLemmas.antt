-- Maps of files over some calls and over those behind them.
use Rattle.std.proofs.Common.{◌≡◌, ℕ, List, [], ◌∷◌, ◌++◌, Option, Some, length, drop, refl, sym, ap, subst, ◌∙◌, append_assoc}
use Rattle.std.specs.Prelude.{All}
use Rattle.std.specs.FinMap.{get, get-empty}
use Rattle.std.specs.Ordering.{nat_cmp}
use Rattle.std.specs.Cmp.Lexicographic.{slice_cmp}
use Rattle.std.proofs.lemmas.List.{append-nil}
use Rattle.std.proofs.lemmas.List.Elements.{All-head, All-tail, All-append}
use Rattle.std.proofs.lemmas.Option.{none-some}
use Rattle.std.proofs.Math.Seq.{drop-append_seam}
use Rattle.lg_io.specs.Files.{FileMap, AnsweredCall, FilesTold, present}
use Rattle.lg_target.specs.Target.{AreCalled, Stays, IsOld, IsMovedTo, IsReplaced, maps_between}

-- calls put maps behind those that there are
pub grown : (before : FilesTold) (calls : List AnsweredCall) (after : FilesTold) → AreCalled before calls after
    → (more : List FileMap) × (after.maps ≡ before.maps ++ more)
grown before [] after same = ([], ap (λ told. told.maps) same ∙ sym (append-nil before.maps))
grown before (made ∷ calls) after called =
    let rest = grown called.0 calls after called.2 in
    let first = called.1.appeared ++ called.1.left ∷ [] in (
      first ++ rest.0,
      rest.1 ∙ ap (λ ms. ms ++ rest.0) (called.1.maps ∙ append_assoc before.maps called.1.appeared (called.1.left ∷ []))
          ∙ append_assoc before.maps first rest.0,
    )

-- the maps between two times
pub between_is : (before after : FilesTold) (more : List FileMap) → after.maps ≡ before.maps ++ more → maps_between before after ≡ present before.maps ∷ more
between_is before after more are =
    ap (λ ms. present before.maps ∷ drop (length before.maps) ms) are ∙ ap (λ ms. present before.maps ∷ ms) (drop-append_seam before.maps more)

-- the last of some maps and others behind it
pub last_behind : (ms ns : List FileMap) → present (ms ++ ns) ≡ present (present ms ∷ ns)
last_behind [] [] = refl
last_behind [] (n ∷ ns) = refl
last_behind (m ∷ []) ns = refl
last_behind (m ∷ k ∷ ms) ns = last_behind (k ∷ ms) ns

-- what holds of each map holds of the last
pub last_holds : (P : FileMap → Type 0) (m : FileMap) (ms : List FileMap) → All P (m ∷ ms) → P (present (m ∷ ms))
last_holds P m [] all = All-head P m [] all
last_holds P m (n ∷ ms) all = last_holds P n ms (All-tail P m (n ∷ ms) all)

pub first_is : {X : Type 0} (x y : X) (xs ys : List X) → x ∷ xs ≡ y ∷ ys → x ≡ y
first_is x y xs ys same = cc

pub rest_is : {X : Type 0} (x y : X) (xs ys : List X) → x ∷ xs ≡ y ∷ ys → xs ≡ ys
rest_is x y xs ys same = cc

-- the path is old over some maps, and replaced over the last of them and those behind it
replaced_behind : (path whole : List ℕ) (m : FileMap) (one : List FileMap) (last : FileMap) (two : List FileMap) (held : Option (List ℕ))
    (before : List FileMap) (moved : FileMap) (later : List FileMap) → IsOld path (m ∷ one) → last ≡ present (m ∷ one)
    → last ∷ two ≡ before ++ moved ∷ later → Stays path held before → IsMovedTo path whole (present before) moved
    → Stays path (Some whole) (moved ∷ later) → IsReplaced path whole (m ∷ (one ++ two))
replaced_behind path whole m one last two held [] moved later old is are stays renamed new =
    absurd (none-some whole (sym (get-empty (slice_cmp nat_cmp) renamed.aside) ∙ renamed.held))
replaced_behind path whole m one last two held (b ∷ bs) moved later old is are stays renamed new =
    let same : last ≡ b = first_is last b two (bs ++ moved ∷ later) are in
    let P = λ (files : FileMap). get files path ≡ held in
    let Q = λ (files : FileMap). get files path ≡ old.held in
    let at_last : get last path ≡ old.held = subst Q (sym is) (last_holds Q m one old.stays) in
    let is_held : held ≡ old.held = sym (All-head P b bs stays) ∙ ap (λ files. get files path) (sym same) ∙ at_last in
    let tail : Stays path old.held bs = subst (λ h. Stays path h bs) is_held (All-tail P b bs stays) in
    let last_is : present (b ∷ bs) ≡ present (m ∷ (one ++ bs)) =
    ap (λ files. present (files ∷ bs)) (sym same ∙ is) ∙ sym (last_behind (m ∷ one) bs) in
    record {
      held = old.held;
      before = m ∷ (one ++ bs);
      moved = moved;
      later = later;
      are = ap (λ ms. m ∷ (one ++ ms)) (rest_is last b two (bs ++ moved ∷ later) are) ∙ ap (λ ms. m ∷ ms) (sym (append_assoc one bs (moved ∷ later)));
      old = All-append Q (m ∷ one) bs old.stays tail;
      renamed = subst (λ files. IsMovedTo path whole files moved) last_is renamed;
      new = new;
    }

-- the path is old over some calls, and replaced over those behind them
pub replaced_later : (path whole : List ℕ) (before between after : FilesTold) (calls more : List AnsweredCall) → AreCalled before calls between
    → AreCalled between more after → IsOld path (maps_between before between) → IsReplaced path whole (maps_between between after)
    → IsReplaced path whole (maps_between before after)
replaced_later path whole before between after calls more one two old new =
    let first = grown before calls between one in
    let later = grown between more after two in
    let is_old : IsOld path (present before.maps ∷ first.0) = subst (IsOld path) (between_is before between first.0 first.1) old in
    let are : present between.maps ∷ later.0 ≡ new.before ++ new.moved ∷ new.later = sym (between_is between after later.0 later.1) ∙ new.are in
    let last : present between.maps ≡ present (present before.maps ∷ first.0) = ap present first.1 ∙ last_behind before.maps first.0 in
    let all : after.maps ≡ before.maps ++ (first.0 ++ later.0) =
    later.1 ∙ ap (λ ms. ms ++ later.0) first.1 ∙ append_assoc before.maps first.0 later.0 in
    subst (IsReplaced path whole) (sym (between_is before after (first.0 ++ later.0) all))
    (replaced_behind path whole (present before.maps) first.0 (present between.maps) later.0 new.held new.before new.moved new.later
    is_old last are new.old new.renamed new.new)

-- the last map of those between two times, where calls were made, is the present one
pub now_holds : (P : FileMap → Type 0) (before after : FilesTold) (calls : List AnsweredCall) → AreCalled before calls after
    → All P (maps_between before after) → P (present after.maps)
now_holds P before after calls called all =
    let more = grown before calls after called in
    subst P (sym (ap present more.1 ∙ last_behind before.maps more.0))
    (last_holds P (present before.maps) more.0 (subst (All P) (between_is before after more.0 more.1) all))
