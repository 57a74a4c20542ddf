-- What files in memory hold, from the log of their edits. This project's own.
use Rattle.std.specs.Prelude.{ℕ, List, [], ◌∷◌, Option, Some, None, option_map}
use Rattle.std.specs.FinMap as map
use Rattle.lg_io.specs.declared.memory.file_log.Edit.{Edit}
use Rattle.lg_io.specs.Files.{FileMap}

-- the map after an edit of one path: its new bytes, or that it was taken away
abbrev pub edited : List ℕ → Option (List ℕ) → FileMap → FileMap
edited path None files = map.remove files path
edited path (Some bytes) files = map.insert files path bytes

-- the map after the edits of a log, the newest of which is first
abbrev pub files_of : List Edit → FileMap
files_of [] = map.empty
files_of (edit ∷ edits) = edited edit.path (option_map (λ v. v.items) edit.bytes) (files_of edits)
