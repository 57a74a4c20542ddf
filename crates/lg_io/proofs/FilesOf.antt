-- What a log of edits holds at a path.
use Rattle.std.proofs.Common.{◌≡◌, ℕ, true, false, cond, List, ◌∷◌, Option, Some, None, option_map, ap, ◌∙◌}
use Rattle.std.specs.Ordering.{nat_cmp, is_eq}
use Rattle.std.specs.Cmp.Lexicographic.{slice_cmp, nat_list_cmp_total}
use Rattle.std.specs.FinMap.{get, get-insert, get-remove}
use Rattle.lg_io.specs.declared.memory.file_log.Edit.{Edit}
use Rattle.lg_io.specs.Files.{FileMap}
use Rattle.lg_io.specs.MemoryFiles.{edited, files_of}

-- the newest edit of the path decides
pub get-edited : (path : List ℕ) (bytes : Option (List ℕ)) (files : FileMap) (q : List ℕ) → get (edited path bytes files) q ≡ cond (is_eq (slice_cmp nat_cmp q path)) bytes (get files q)
get-edited path None files q = get-remove nat_list_cmp_total files path q
get-edited path (Some bytes) files q = get-insert nat_list_cmp_total files path bytes q

-- an edit of this path
pub get-files_of_same : (edit : Edit) (edits : List Edit) (q : List ℕ) → is_eq (slice_cmp nat_cmp q edit.path) ≡ true → get (files_of (edit ∷ edits)) q ≡ option_map (λ v. v.items) edit.bytes
get-files_of_same edit edits q same =
    let bytes : Option (List ℕ) = option_map (λ v. v.items) edit.bytes in
    get-edited edit.path bytes (files_of edits) q ∙ ap (λ b. cond b bytes (get (files_of edits) q)) same

-- an edit of another path
pub get-files_of_other : (edit : Edit) (edits : List Edit) (q : List ℕ) → is_eq (slice_cmp nat_cmp q edit.path) ≡ false → get (files_of (edit ∷ edits)) q ≡ get (files_of edits) q
get-files_of_other edit edits q other =
    let bytes : Option (List ℕ) = option_map (λ v. v.items) edit.bytes in
    get-edited edit.path bytes (files_of edits) q ∙ ap (λ b. cond b bytes (get (files_of edits) q)) other
