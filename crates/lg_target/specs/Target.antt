-- Files that are old or whole. This project's own, after Luigi's `LocalTarget`, which writes aside and then renames.
use Rattle.std.specs.Prelude.{◌≡◌, ℕ, ◌⊎◌, List, [], ◌∷◌, ◌++◌, length, drop, map, Option, Some, All}
use Rattle.std.specs.FinMap.{get, insert}
use Rattle.std.specs.FinMap as fin_map
use Rattle.lg_io.specs.Files.{FileMap, FileCall, read, create, append, close, rename, remove, exists, make_folder, AnsweredCall, FilesTold, IsCalled, IsTemporary, present, FileAnswer, done, failed}

-- in each of the maps the path has these bytes, or is absent in each
abbrev pub Stays : List ℕ → Option (List ℕ) → List FileMap → Type 0
Stays path held maps = All (λ files. get files path ≡ held) maps

-- the path holds what it held at first, or is absent as at first
pub record IsOld (path : List ℕ) (maps : List FileMap) : Type 0 where
  pub held : Option (List ℕ)
  pub stays : Stays path held maps

-- one rename: a file aside, which has these bytes, is moved to the path
pub record IsMovedTo (path whole : List ℕ) (before after : FileMap) : Type 0 where
  pub aside : List ℕ
  pub temporary : IsTemporary aside
  pub held : get before aside ≡ Some whole
  pub is : after ≡ insert (fin_map.remove before aside) path whole

-- the path holds its first bytes, or is absent as at first, up to one rename, and from there the whole new bytes
pub record IsReplaced (path whole : List ℕ) (maps : List FileMap) : Type 0 where
  pub held : Option (List ℕ)
  pub before : List FileMap
  pub moved : FileMap
  pub later : List FileMap
  pub are : maps ≡ before ++ moved ∷ later
  pub old : Stays path held before
  pub renamed : IsMovedTo path whole (present before) moved
  pub new : Stays path (Some whole) (moved ∷ later)

-- old all along, or old and from one rename on whole
abbrev pub IsOldOrWhole : List ℕ → List FileMap → Type 0
IsOldOrWhole path maps = IsOld path maps ⊎ ((whole : List ℕ) × IsReplaced path whole maps)

-- these calls were made, one after another
abbrev pub AreCalled : FilesTold → List AnsweredCall → FilesTold → Type 0
AreCalled before [] after = after ≡ before
AreCalled before (made ∷ calls) after =
    (between : FilesTold) × IsCalled before made.call made.answer between × AreCalled between calls after

-- the maps that files held from one time to another, the one that they had at first included
abbrev pub maps_between : FilesTold → FilesTold → List FileMap
maps_between before after = present before.maps ∷ drop (length before.maps) after.maps

-- a call that changes files aside alone, or none, as a rename that fails
abbrev pub StaysAside : FileCall → FileAnswer → Type 0
StaysAside (create path) answer = IsTemporary path
StaysAside (append path piece) answer = IsTemporary path
StaysAside (close path) answer = IsTemporary path
StaysAside (remove path) answer = IsTemporary path
StaysAside (rename from to) failed = Unit {0}
StaysAside (rename from to) answer = IsTemporary from × IsTemporary to
StaysAside (read path) answer = Unit {0}
StaysAside (exists path) answer = Unit {0}
StaysAside (make_folder path) answer = Unit {0}

-- calls that do
abbrev pub StayAside : List AnsweredCall → Type 0
StayAside calls = All (λ made. StaysAside made.call made.answer) calls

-- calls that stay aside but for one rename of a file aside, to any path
pub record RenamesOnce (calls : List AnsweredCall) : Type 0 where
  pub first : List AnsweredCall
  pub aside : List ℕ
  pub path : List ℕ
  pub answer : FileAnswer
  pub later : List AnsweredCall
  pub are : calls ≡ first ++ record { call = rename aside path; answer = answer } ∷ later
  pub aside_first : StayAside first
  pub temporary : IsTemporary aside
  pub aside_later : StayAside later

-- a file aside is written: made, each piece put behind it, and closed
abbrev pub writing : List ℕ → List (List ℕ) → List AnsweredCall
writing aside pieces =
    record { call = create aside; answer = done } ∷ (map (λ piece. record { call = append aside piece; answer = done }) pieces
    ++ record { call = close aside; answer = done } ∷ [])
