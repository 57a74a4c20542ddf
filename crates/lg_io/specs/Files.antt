-- What files hold, and what each call does to them. This project's own, after `std::fs`.
use Rattle.std.specs.Prelude.{◌≡◌, ◌≢◌, ℕ, Bool, List, [], ◌∷◌, ◌++◌, codes, Option, Some, None, Result, Ok, Err}
use Rattle.std.specs.Ordering.{nat_cmp}
use Rattle.std.specs.Cmp.Lexicographic.{slice_cmp}
use Rattle.std.specs.FinMap.{FinMap, empty, get, contains_key, insert}
use Rattle.std.specs.FinMap as map
use Rattle.std.specs.Coded.{Coded, coded_ℕ, coded_list}
use Rattle.lg_io.specs.declared.files.FileRead.{FileRead}
use Rattle.lg_io.specs.declared.files.FileRead.TheVariants.{Found, Absent, Failed, NoMemory}

-- the bytes of each file, by the bytes of its path
abbrev pub FileMap : Type 0
FileMap = FinMap (slice_cmp nat_cmp) (List ℕ)

-- how the logic stores a map
abbrev pub file_map_code : Coded FileMap
file_map_code = map.code (coded_list coded_ℕ) (coded_list coded_ℕ)

-- a call, with the paths that it names
pub data FileCall : Type 0 where
  read create close remove exists make_folder : List ℕ → FileCall
  append : List ℕ → List ℕ → FileCall
  rename : List ℕ → List ℕ → FileCall

-- its answer: the bytes of a file, that there is none, that the work was done, whether there is one, or a refusal
pub data FileAnswer : Type 0 where
  found : List ℕ → FileAnswer
  is : Bool → FileAnswer
  absent done failed no_memory : FileAnswer

pub record AnsweredCall : Type 0 where
  pub call : FileCall
  pub answer : FileAnswer

-- the maps that the files held, the last being the present one, and the calls with their answers
pub record FilesTold : Type 0 where
  pub maps : List FileMap
  pub calls : List AnsweredCall

abbrev pub read_answer : FileRead → FileAnswer
read_answer (Found bytes) = found bytes.items
read_answer Absent = absent
read_answer Failed = failed
read_answer NoMemory = no_memory

abbrev pub done_answer : {T E : Type 0} → Result T E → FileAnswer
done_answer (Ok x) = done
done_answer (Err e) = failed

abbrev pub exists_answer : {E : Type 0} → Result Bool E → FileAnswer
exists_answer (Ok b) = is b
exists_answer (Err e) = failed

-- the last of the maps
abbrev pub present : List FileMap → FileMap
present [] = empty
present (m ∷ []) = m
present (m ∷ n ∷ ms) = present (n ∷ ms)

-- a path that a child writes aside
abbrev pub IsTemporary : List ℕ → Type 0
IsTemporary path = (front : List ℕ) × (back : List ℕ) × (path ≡ front ++ codes "-luigi-tmp-" ++ back)

-- one file more, at a temporary path that held none
pub record Appears (before after : FileMap) : Type 0 where
  pub path : List ℕ
  pub bytes : List ℕ
  pub temporary : IsTemporary path
  pub held_none : get before path ≡ None
  pub is : after ≡ insert before path bytes

-- in each map of the list one file more has appeared
abbrev pub AppearInTurn : FileMap → List FileMap → Type 0
AppearInTurn before [] = Unit {0}
AppearInTurn before (m ∷ ms) = Appears before m × AppearInTurn m ms

-- the maps agree but at this path
abbrev pub SameBut : List ℕ → FileMap → FileMap → Type 0
SameBut path before after = (other : List ℕ) → other ≢ path → get after other ≡ get before other

-- what a call with this answer does to the map
abbrev pub Does : FileCall → FileAnswer → FileMap → FileMap → Type 0
Does (read path) (found bytes) before after = (get before path ≡ Some bytes) × (after ≡ before)
Does (read path) absent before after = (get before path ≡ None) × (after ≡ before)
Does (read path) failed before after = after ≡ before
Does (read path) no_memory before after = (bytes : List ℕ) × (get before path ≡ Some bytes) × (after ≡ before)
Does (create path) done before after = after ≡ insert before path []
Does (create path) failed before after = SameBut path before after
Does (append path piece) done before after =
    (bytes : List ℕ) × (get before path ≡ Some bytes) × (after ≡ insert before path (bytes ++ piece))
Does (append path piece) failed before after = SameBut path before after
Does (close path) done before after = after ≡ before
Does (close path) failed before after = SameBut path before after
Does (rename from to) done before after =
    (bytes : List ℕ) × (get before from ≡ Some bytes) × (after ≡ insert (map.remove before from) to bytes)
Does (rename from to) failed before after = after ≡ before
Does (remove path) done before after = after ≡ map.remove before path
Does (remove path) failed before after = after ≡ before
Does (exists path) (is b) before after = (contains_key before path ≡ b) × (after ≡ before)
Does (exists path) failed before after = after ≡ before
Does (make_folder path) done before after = after ≡ before
Does (make_folder path) failed before after = after ≡ before
Does call answer before after = ⊥

-- a list of maps that went on by those of files that appeared
pub record HasGrown (before after : List FileMap) : Type 0 where
  pub more : List FileMap
  pub appear : AppearInTurn (present before) more
  pub is : after ≡ before ++ more

-- One call: files appear first, then it does its work, and both stand in the list of maps.
pub record IsCalled (before : FilesTold) (call : FileCall) (answer : FileAnswer) (after : FilesTold) : Type 0 where
  pub appeared : List FileMap
  pub left : FileMap
  pub appear : AppearInTurn (present before.maps) appeared
  pub does : Does call answer (present (before.maps ++ appeared)) left
  pub maps : after.maps ≡ before.maps ++ appeared ++ left ∷ []
  pub calls : after.calls ≡ before.calls ++ record { call = call; answer = answer } ∷ []

-- files that tell what they hold tell this call more
abbrev pub TellsCall : Option FilesTold → FileCall → FileAnswer → Option FilesTold → Type 0
TellsCall None call answer after = after ≡ None
TellsCall (Some before) call answer None = ⊥
TellsCall (Some before) call answer (Some after) = IsCalled before call answer after
