-- What a read says of the file that files hold.
use Rattle.std.proofs.Common.{◌≡◌, ℕ, List, [], ◌∷◌, ◌++◌, Option, Some, None, Result, Ok, Err, refl, sym, ap, subst, ◌∙◌}
use Rattle.std.specs.Prelude.{IfOk, IsSome, All}
use Rattle.std.proofs.lemmas.Bool.{false≢true}
use Rattle.std.specs.FinMap.{get}
use Rattle.std.proofs.lemmas.List.Elements.{All-nil, All-cons, All-head}
use Rattle.lg_calls.specs.declared.settings.Settings.{Settings}
use Rattle.lg_calls.specs.declared.state.State.{State}
use Rattle.lg_io.specs.Files.{FileMap, FileAnswer, AnsweredCall, FilesTold, IsCalled, IsTemporary, read, found, is, absent, done, failed, no_memory, present}
use Rattle.lg_snapshot.specs.declared.fault.LoadFault.{LoadFault}
use Rattle.lg_snapshot.specs.Loading.{IsReadAs, IsLoaded, Loads, IsFileReadAs, LoadsHeld}
use Rattle.lg_snapshot.specs.Saving.{Saves, Leaves}
use Rattle.lg_snapshot.specs.Snapshot.{IsHeldState, IsSnapshotOf, snapshot_text}
use Rattle.lg_snapshot.proofs.MapLemmas.{grown, between_is, last_behind, last_holds, now_holds}
use Rattle.lg_snapshot.proofs.SavingLemmas.{AsideLeavesTheOld}
use Rattle.lg_target.specs.Target.{AreCalled, IsReplaced, StaysAside, maps_between}

-- a read finds the path as it was before
as_before : AsideLeavesTheOld → (path : List ℕ) (answer : FileAnswer) (before after : FilesTold) → (IsTemporary path → ⊥)
    → (called : IsCalled before (read path) answer after) → get (present before.maps) path ≡ get called.left path
as_before old path answer before after plain called =
    let made : List AnsweredCall = record { call = read path; answer = answer } ∷ [] in
    let calls : AreCalled before made after = (after, called, refl) in
    let Stays = λ (c : AnsweredCall). StaysAside c.call c.answer in
    let is_old = old path before made after plain (All-cons Stays (record { call = read path; answer = answer }) [] tt (All-nil Stays)) calls in
    let P = λ (files : FileMap). get files path ≡ is_old.held in
    let more = grown before made after calls in
    let first : P (present before.maps) = All-head P (present before.maps) more.0 (subst (All P) (between_is before after more.0 more.1) is_old.stays) in
    let left : present after.maps ≡ called.left = ap present called.maps ∙ last_behind (before.maps ++ called.appeared) (called.left ∷ []) in
    first ∙ sym (subst P left (now_holds P before after made calls is_old.stays))

held_by : (path : List ℕ) (settings : Settings) (answer : FileAnswer) (before after : FilesTold) (loaded : Result (Option State) LoadFault)
    (called : IsCalled before (read path) answer after) → get (present before.maps) path ≡ get called.left path → IsLoaded settings answer loaded
    → IfOk loaded (λ state. IsFileReadAs settings (get (present before.maps) path) state)
held_by path settings answer before after (Err cause) called same loaded = tt
held_by path settings (found bytes) before after (Ok state) called same loaded =
    subst (λ file. IsFileReadAs settings file state) (sym (same ∙ ap (λ files. get files path) called.does.1 ∙ called.does.0)) loaded
held_by path settings absent before after (Ok None) called same loaded =
    subst (λ file. IsFileReadAs settings file None) (sym (same ∙ ap (λ files. get files path) called.does.1 ∙ called.does.0)) refl
held_by path settings absent before after (Ok (Some state)) called same loaded = absurd loaded
held_by path settings (is b) before after (Ok state) called same loaded = absurd loaded
held_by path settings done before after (Ok state) called same loaded = absurd loaded
held_by path settings failed before after (Ok state) called same loaded = absurd loaded
held_by path settings no_memory before after (Ok state) called same loaded = absurd loaded

-- so what is loaded is what the file is read as, where files tell
pub loads_held : AsideLeavesTheOld → (path : List ℕ) (settings : Settings) (before after : Option FilesTold) (loaded : Result (Option State) LoadFault)
    → Loads path settings before after loaded → (IsTemporary path → ⊥) → LoadsHeld path settings before loaded
loads_held old path settings None after loaded loads plain = tt
loads_held old path settings (Some before) None loaded loads plain = absurd loads.told
loads_held old path settings (Some before) (Some after) loaded loads plain =
    held_by path settings loads.answer before after loaded loads.told (as_before old path loads.answer before after plain loads.told) loads.is

-- a path that was replaced holds the whole bytes now
holds_whole : (path whole : List ℕ) (before after : FilesTold) (calls : List AnsweredCall) → AreCalled before calls after
    → IsReplaced path whole (maps_between before after) → get (present after.maps) path ≡ Some whole
holds_whole path whole before after calls called replaced =
    let more = grown before calls after called in
    let now : present after.maps ≡ present (replaced.moved ∷ replaced.later) =
    ap present more.1 ∙ last_behind before.maps more.0 ∙ ap present (sym (between_is before after more.0 more.1) ∙ replaced.are)
    ∙ last_behind replaced.before (replaced.moved ∷ replaced.later) in
    ap (λ files. get files path) now ∙ last_holds (λ files. get files path ≡ Some whole) replaced.moved replaced.later replaced.new

found_by : (settings : Settings) (s : State) (file : Option (List ℕ)) (loaded : Result (Option State) LoadFault) → IsHeldState s
    → IsSnapshotOf settings s (snapshot_text s) → file ≡ Some (snapshot_text s) → IfOk loaded (λ state. IsFileReadAs settings file state)
    → IfOk loaded (λ state. state ≡ Some s)
found_by settings s file (Err cause) held snapshot same loads = tt
found_by settings s file (Ok state) held snapshot same loads =
    let read_as : IsReadAs settings (snapshot_text s) state = subst (λ f. IsFileReadAs settings f state) same loads in
    read_as.only s held snapshot

-- a state that was saved is loaded
pub loads_saved : (path : List ℕ) (s : State) (undrawn drawn : Option (List ℕ)) (before : FilesTold) (between : Option FilesTold)
    (loaded : Result (Option State) LoadFault) → IsHeldState s → IsSnapshotOf s.settings s (snapshot_text s)
    → Saves path (snapshot_text s) undrawn drawn (Some before) between (Ok tt) → Leaves path (snapshot_text s) (Some before) between (Ok tt)
    → LoadsHeld path s.settings between loaded → IfOk loaded (λ state. state ≡ Some s)
loads_saved path s undrawn drawn before None loaded held snapshot saves leaves loads = absurd leaves
loads_saved path s undrawn drawn before (Some between) loaded held snapshot saves leaves loads =
    found_by s.settings s (get (present between.maps) path) loaded held snapshot
    (holds_whole path (snapshot_text s) before between saves.calls saves.told leaves) loads

-- the same where the files are known to tell
pub loads_saved_told : (path : List ℕ) (s : State) (undrawn drawn : Option (List ℕ)) (before between : Option FilesTold)
    (loaded : Result (Option State) LoadFault) → IsSome before → IsHeldState s → IsSnapshotOf s.settings s (snapshot_text s)
    → Saves path (snapshot_text s) undrawn drawn before between (Ok tt) → Leaves path (snapshot_text s) before between (Ok tt)
    → LoadsHeld path s.settings between loaded → IfOk loaded (λ state. state ≡ Some s)
loads_saved_told path s undrawn drawn None between loaded told held snapshot saves leaves loads = absurd (false≢true told)
loads_saved_told path s undrawn drawn (Some before) between loaded told held snapshot saves leaves loads =
    loads_saved path s undrawn drawn before between loaded held snapshot saves leaves loads
