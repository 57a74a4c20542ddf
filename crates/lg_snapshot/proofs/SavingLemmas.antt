-- What the calls of a save leave at its path.
use Rattle.std.proofs.Common.{◌≡◌, ◌≢◌, ℕ, inl, inr, List, [], ◌∷◌, ◌++◌, Option, Some, None, Result, Ok, Err, refl, sym, subst, arith}
use Rattle.std.specs.Prelude.{All}
use Rattle.std.specs.List.{concat}
use Rattle.std.specs.Result.{IsErrAnd}
use Rattle.std.proofs.lemmas.List.{append-nil}
use Rattle.std.proofs.lemmas.List.Elements.{All-nil, All-cons, All-head, All-tail, All-append, All-same}
use Rattle.lg_io.specs.Files.{FileAnswer, AnsweredCall, FilesTold, IsTemporary, TellsCall, create, append, close, rename, remove, make_folder, done, failed}
use Rattle.lg_io.proofs.CallerLemmas.{TellsOn-nothing}
use Rattle.lg_snapshot.specs.declared.fault.SaveFault.{SaveFault}
use Rattle.lg_snapshot.specs.declared.fault.SaveFault.TheVariants as saving
use Rattle.lg_snapshot.specs.FileCalls.{done_call, failed_call, TellsCalls, AreCutShort}
use Rattle.lg_snapshot.specs.SaveFaults.{save_fault}
use Rattle.lg_snapshot.specs.Saving.{making, publishing, IsGivenUp, AsksFor, Saves, Leaves, GivesUp}
use Rattle.lg_snapshot.proofs.FileCallLemmas.{tells_behind, tells_one, tells_none}
use Rattle.lg_snapshot.proofs.MapLemmas.{first_is, rest_is, replaced_later}
use Rattle.lg_target.specs.declared.fault.AsideFault.{AsideFault}
use Rattle.lg_target.specs.declared.fault.AsideFault.TheVariants as beginning
use Rattle.lg_target.specs.Begin.{NamesByDraw, MakesFolder}
use Rattle.lg_target.specs.Naming.{AsideFile, aside_name, ten_digits, folder_above}
use Rattle.lg_target.specs.Target.{AreCalled, IsOld, IsReplaced, StaysAside, StayAside, maps_between, writing}

-- a law of files aside: while calls stay aside the path is old
abbrev pub AsideLeavesTheOld : Type 0
AsideLeavesTheOld =
    (path : List ℕ) (before : FilesTold) (calls : List AnsweredCall) (after : FilesTold) → (IsTemporary path → ⊥)
    → StayAside calls → AreCalled before calls after → IsOld path (maps_between before after)

-- and the other: where pieces are written aside and moved, the path is replaced by them
abbrev pub WholeIsWritten : Type 0
WholeIsWritten =
    (path aside : List ℕ) (pieces : List (List ℕ)) (before : FilesTold) (later : List AnsweredCall) (after : FilesTold)
    → (IsTemporary path → ⊥) → IsTemporary aside → StayAside later
    → AreCalled before (writing aside pieces ++ record { call = rename aside path; answer = done } ∷ later) after
    → IsReplaced path (concat pieces) (maps_between before after)

abbrev Stays : AnsweredCall → Type 0
Stays made = StaysAside made.call made.answer

-- a call that stays aside where it fails
abbrev StaysFailed : AnsweredCall → Type 0
StaysFailed made = StaysAside made.call failed

has_mark : (path : List ℕ) (number : ℕ) → IsTemporary (aside_name path number)
has_mark path number = (path, ten_digits number, refl)

making_stays : (folder : List ℕ) (answer : FileAnswer) → StayAside (making folder answer)
making_stays [] answer = All-nil Stays
making_stays (byte ∷ bytes) answer = All-cons Stays (record { call = make_folder (byte ∷ bytes); answer = answer }) [] tt (All-nil Stays)

-- bytes are published from here on
published : WholeIsWritten → (path bytes : List ℕ) (number : ℕ) (before : FilesTold) (later : List AnsweredCall) (after : FilesTold) → (IsTemporary path → ⊥)
    → StayAside later → AreCalled before (publishing path (aside_name path number) bytes ++ later) after
    → IsReplaced path bytes (maps_between before after)
published whole path bytes number before later after plain stay called =
    subst (λ all. IsReplaced path all (maps_between before after)) (append-nil bytes)
    (whole path (aside_name path number) (bytes ∷ []) before later after plain (has_mark path number) stay called)

saved_in : AsideLeavesTheOld → WholeIsWritten → (folder path bytes : List ℕ) (number : ℕ) (before : FilesTold) (later : List AnsweredCall) (after : FilesTold)
    → (IsTemporary path → ⊥) → StayAside later
    → AreCalled before ((making folder done ++ publishing path (aside_name path number) bytes) ++ later) after
    → IsReplaced path bytes (maps_between before after)
saved_in old whole [] path bytes number before later after plain stay called =
    published whole path bytes number before later after plain stay called
saved_in old whole (byte ∷ rest) path bytes number before later after plain stay called =
    let made = making (byte ∷ rest) done in
    let first : AreCalled before made called.0 = (called.0, called.1, refl) in
    replaced_later path bytes before called.0 after made (publishing path (aside_name path number) bytes ++ later) first called.2
    (old path before made called.0 plain (making_stays (byte ∷ rest) done) first)
    (published whole path bytes number called.0 later after plain stay called.2)

-- where a save is made the path is replaced, whatever stays aside behind it
pub saved_whole : AsideLeavesTheOld → WholeIsWritten → (path bytes numbers : List ℕ) (calls later : List AnsweredCall) (before after : FilesTold)
    → (IsTemporary path → ⊥) → AsksFor path bytes numbers calls (Ok tt) → StayAside later → AreCalled before (calls ++ later) after
    → IsReplaced path bytes (maps_between before after)
saved_whole old whole path bytes [] calls later before after plain asks stay called = absurd asks
saved_whole old whole path bytes (number ∷ []) calls later before after plain asks stay called =
    saved_in old whole (folder_above path) path bytes number before later after plain stay
    (subst (λ cs. AreCalled before (cs ++ later) after) asks called)
saved_whole old whole path bytes (number ∷ other ∷ numbers) calls later before after plain asks stay called = absurd asks

-- what stands in the middle of a list has what each element has
in_middle : {X : Type 0} (P : X → Type 0) (xs : List X) (y : X) (ys : List X) → All P (xs ++ y ∷ ys) → P y
in_middle P [] y ys all = All-head P y ys all
in_middle P (x ∷ xs) y ys all = in_middle P xs y ys (All-tail P x (xs ++ y ∷ ys) all)

none_in_front : {X : Type 0} (xs : List X) (y : X) (ys : List X) → [] ≡ xs ++ y ∷ ys → ⊥
none_in_front [] y ys same = cc
none_in_front (x ∷ xs) y ys same = cc

-- what stands before an element stands before the last
all_before : {X : Type 0} (P : X → Type 0) (front : List X) (y : X) (rest xs : List X) (last : X) → All P xs → xs ++ last ∷ [] ≡ front ++ y ∷ rest → All P front
all_before P [] y rest xs last all same = All-nil P
all_before P (f ∷ front) y rest [] last all same = absurd (none_in_front front y rest (rest_is last f [] (front ++ y ∷ rest) same))
all_before P (f ∷ front) y rest (x ∷ xs) last all same =
    All-cons P f front (subst P (first_is x f (xs ++ last ∷ []) (front ++ y ∷ rest) same) (All-head P x xs all))
    (all_before P front y rest xs last (All-tail P x xs all) (rest_is x f (xs ++ last ∷ []) (front ++ y ∷ rest) same))

writing_stays : (aside bytes : List ℕ) → IsTemporary aside → StayAside (writing aside (bytes ∷ []))
writing_stays aside bytes mark =
    All-cons Stays (done_call (create aside)) (done_call (append aside bytes) ∷ done_call (close aside) ∷ []) mark
    (All-cons Stays (done_call (append aside bytes)) (done_call (close aside) ∷ []) mark
    (All-cons Stays (done_call (close aside)) [] mark (All-nil Stays)))

publishing_fails : (path aside bytes : List ℕ) → IsTemporary aside → All StaysFailed (publishing path aside bytes)
publishing_fails path aside bytes mark =
    All-cons StaysFailed (done_call (create aside)) (done_call (append aside bytes) ∷ done_call (close aside) ∷ done_call (rename aside path) ∷ []) mark
    (All-cons StaysFailed (done_call (append aside bytes)) (done_call (close aside) ∷ done_call (rename aside path) ∷ []) mark
    (All-cons StaysFailed (done_call (close aside)) (done_call (rename aside path) ∷ []) mark
    (All-cons StaysFailed (done_call (rename aside path)) [] tt (All-nil StaysFailed))))

given_up_stays : (path aside bytes : List ℕ) (calls : List AnsweredCall) → IsTemporary aside → IsGivenUp path aside bytes calls → StayAside calls
given_up_stays path aside bytes calls mark up =
    let stops = up.stops in
    let front = all_before Stays stops.first (done_call stops.call) stops.rest (writing aside (bytes ∷ [])) (done_call (rename aside path))
    (writing_stays aside bytes mark) stops.in_wanted in
    let fails = in_middle StaysFailed stops.first (done_call stops.call) stops.rest
    (subst (All StaysFailed) stops.in_wanted (publishing_fails path aside bytes mark)) in
    let made : StayAside up.made = All-same Stays up.made (stops.first ++ failed_call stops.call ∷ []) stops.is
    (All-append Stays stops.first (failed_call stops.call ∷ []) front (All-cons Stays (failed_call stops.call) [] fails (All-nil Stays))) in
    let gone : AnsweredCall = record { call = remove aside; answer = up.removal } in
    All-same Stays calls (up.made ++ gone ∷ []) up.are
    (All-append Stays up.made (gone ∷ []) made (All-cons Stays gone [] mark (All-nil Stays)))

-- the calls of a save that is refused stay aside
refused_stays : (path bytes numbers : List ℕ) (cause : SaveFault) (calls : List AnsweredCall) → AsksFor path bytes numbers calls (Err cause) → StayAside calls
refused_stays path bytes [] saving.Files calls asks = absurd asks
refused_stays path bytes (number ∷ []) saving.Files calls asks =
    elim asks as (λ _. StayAside calls) [
      | inl none ↦ All-same Stays calls (making (folder_above path) failed) none.1 (making_stays (folder_above path) failed)
      | inr inside ↦ All-same Stays calls (making (folder_above path) done ++ inside.0) inside.2
          (All-append Stays (making (folder_above path) done) inside.0 (making_stays (folder_above path) done)
          (given_up_stays path (aside_name path number) bytes inside.0 (has_mark path number) inside.1))
    ]
refused_stays path bytes (number ∷ other ∷ numbers) saving.Files calls asks = absurd asks
refused_stays path bytes [] saving.NoMemory calls asks = All-same Stays calls [] asks.1 (All-nil Stays)
refused_stays path bytes (number ∷ []) saving.NoMemory calls asks = All-same Stays calls [] asks.1 (All-nil Stays)
refused_stays path bytes (number ∷ other ∷ numbers) saving.NoMemory calls asks = All-same Stays calls [] asks.1 (All-nil Stays)

-- where a save is refused the path is old, whatever stays aside behind it
pub refused_old : AsideLeavesTheOld → (path bytes numbers : List ℕ) (cause : SaveFault) (calls later : List AnsweredCall) (before after : FilesTold)
    → (IsTemporary path → ⊥) → AsksFor path bytes numbers calls (Err cause) → StayAside later → AreCalled before (calls ++ later) after
    → IsOld path (maps_between before after)
refused_old old path bytes numbers cause calls later before after plain asks stay called =
    old path before (calls ++ later) after plain
    (All-append Stays calls later (refused_stays path bytes numbers cause calls asks) stay) called

-- the law of saves, for those that are made and those that are refused
abbrev pub SavesAreWhole : Type 0
SavesAreWhole =
    (path bytes numbers : List ℕ) (calls later : List AnsweredCall) (before after : FilesTold) → (IsTemporary path → ⊥)
    → AsksFor path bytes numbers calls (Ok tt) → StayAside later → AreCalled before (calls ++ later) after
    → IsReplaced path bytes (maps_between before after)

abbrev pub RefusedAreOld : Type 0
RefusedAreOld =
    (path bytes numbers : List ℕ) (cause : SaveFault) (calls later : List AnsweredCall) (before after : FilesTold) → (IsTemporary path → ⊥)
    → AsksFor path bytes numbers calls (Err cause) → StayAside later → AreCalled before (calls ++ later) after
    → IsOld path (maps_between before after)

alone : (before after : FilesTold) (calls : List AnsweredCall) → AreCalled before calls after → AreCalled before (calls ++ []) after
alone before after calls called = subst (λ cs. AreCalled before cs after) (sym (append-nil calls)) called

-- so a save leaves its path, where files tell
pub save_leaves : SavesAreWhole → RefusedAreOld → (path bytes : List ℕ) (undrawn drawn : Option (List ℕ)) (before after : Option FilesTold)
    (answer : Result (Unit {0}) SaveFault) → Saves path bytes undrawn drawn before after answer → (IsTemporary path → ⊥)
    → Leaves path bytes before after answer
save_leaves whole old path bytes undrawn drawn None after answer saves plain = tt
save_leaves whole old path bytes undrawn drawn (Some before) None answer saves plain = absurd saves.told
save_leaves whole old path bytes undrawn drawn (Some before) (Some after) (Ok x) saves plain =
    whole path bytes saves.numbers saves.calls [] before after plain saves.asks (All-nil Stays) (alone before after saves.calls saves.told)
save_leaves whole old path bytes undrawn drawn (Some before) (Some after) (Err cause) saves plain =
    old path bytes saves.numbers cause saves.calls [] before after plain saves.asks (All-nil Stays) (alone before after saves.calls saves.told)

-- the folder, where a file aside is begun
folder_told : (folder : List ℕ) (before after : Option FilesTold) (aside : AsideFile) → MakesFolder {A = AsideFile} folder before after (Ok aside)
    → TellsCalls before (making folder done) after
folder_told [] before after aside made = tells_none before after made
folder_told (byte ∷ bytes) before after aside made = tells_one before (make_folder (byte ∷ bytes)) done after made

-- and where it is not made
folder_failed : (folder : List ℕ) (before after : Option FilesTold) → MakesFolder {A = AsideFile} folder before after (Err beginning.Files)
    → (folder ≢ []) × TellsCalls before (making folder failed) after
folder_failed [] before after made = absurd made
folder_failed (byte ∷ bytes) before after made = (λ same. cc, tells_one before (make_folder (byte ∷ bytes)) failed after made)

-- memory ran out before a number was drawn
pub saves_nothing : (path bytes : List ℕ) (numbers : Option (List ℕ)) (files : Option FilesTold)
    → Saves path bytes numbers numbers files files (Err saving.NoMemory)
saves_nothing path bytes numbers files = record {
  numbers = [];
  draws = TellsOn-nothing numbers;
  calls = [];
  told = tells_none files files refl;
  asks = (omega arith, refl);
}

-- no file aside was begun
pub saves_unbegun : (path bytes : List ℕ) (undrawn drawn : Option (List ℕ)) (before after : Option FilesTold) (fault : AsideFault) (cause : SaveFault)
    → cause ≡ save_fault fault → NamesByDraw path undrawn drawn (Err fault) → MakesFolder {A = AsideFile} (folder_above path) before after (Err fault)
    → Saves path bytes undrawn drawn before after (Err cause)
saves_unbegun path bytes undrawn drawn before after beginning.Files cause is named made =
    let none = folder_failed (folder_above path) before after made in
    subst (λ f. Saves path bytes undrawn drawn before after (Err f)) (sym is) (record {
      numbers = named.number ∷ [];
      draws = named.drawn;
      calls = making (folder_above path) failed;
      told = none.1;
      asks = inl (none.0, refl);
    })
saves_unbegun path bytes undrawn drawn before after beginning.NoMemory cause is named made =
    subst (λ f. Saves path bytes undrawn drawn before after (Err f)) (sym is) (record {
      numbers = named.number ∷ [];
      draws = named.drawn;
      calls = [];
      told = tells_none before after made;
      asks = (omega arith, refl);
    })

-- a file aside was begun, and what was written there was published
pub saves_all : (path bytes : List ℕ) (undrawn drawn : Option (List ℕ)) (before begun after : Option FilesTold) (aside : AsideFile)
    → NamesByDraw path undrawn drawn (Ok aside) → MakesFolder {A = AsideFile} (folder_above path) before begun (Ok aside)
    → TellsCalls begun (publishing aside.path aside.name bytes) after → Saves path bytes undrawn drawn before after (Ok tt)
saves_all path bytes undrawn drawn before begun after aside named made put =
    let folder = making (folder_above path) done in
    let inside = publishing path (aside_name path named.number) bytes in
    record {
      numbers = named.number ∷ [];
      draws = named.drawn;
      calls = folder ++ inside;
      told = tells_behind before folder inside begun after (folder_told (folder_above path) before begun aside made)
          (subst (λ file. TellsCalls begun (publishing file.path file.name bytes) after) named.named put);
      asks = refl;
    }

-- or given up
pub saves_given_up : (path bytes : List ℕ) (undrawn drawn : Option (List ℕ)) (before begun after : Option FilesTold) (aside : AsideFile)
    → NamesByDraw path undrawn drawn (Ok aside) → MakesFolder {A = AsideFile} (folder_above path) before begun (Ok aside)
    → GivesUp aside bytes begun after → Saves path bytes undrawn drawn before after (Err saving.Files)
saves_given_up path bytes undrawn drawn before begun after aside named made put =
    let folder = making (folder_above path) done in
    record {
      numbers = named.number ∷ [];
      draws = named.drawn;
      calls = folder ++ put.0;
      told = tells_behind before folder put.0 begun after (folder_told (folder_above path) before begun aside made) put.2;
      asks = inr (put.0, subst (λ file. IsGivenUp file.path file.name bytes put.0) named.named put.1, refl);
    }

-- what is removed behind a call that failed
pub given_up : (aside : AsideFile) (bytes : List ℕ) (before between after : Option FilesTold) (removal : FileAnswer)
    → AreCutShort (publishing aside.path aside.name bytes) before between → TellsCall between (remove aside.name) removal after
    → GivesUp aside bytes before after
given_up aside bytes before between after removal made told =
    let gone : List AnsweredCall = record { call = remove aside.name; answer = removal } ∷ [] in (
      made.0 ++ gone,
      record {
        made = made.0;
        stops = made.1;
        removal = removal;
        are = refl;
      },
      tells_behind before made.0 gone between after made.2 (tells_one between (remove aside.name) removal after told),
    )

-- what holds of a refusal for this cause holds of a result that is one
pub refused_as : {T E : Type 0} (P : Result T E → Type 0) (r : Result T E) (cause : E) → IsErrAnd r (λ e. e ≡ cause) → P (Err cause) → P r
refused_as P (Ok x) cause is holds = absurd is
refused_as P (Err e) cause is holds = subst (λ f. P (Err f)) (sym is) holds
