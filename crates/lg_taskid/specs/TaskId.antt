-- The id of a task. After Luigi 3 (`luigi.task.task_id_str`): the family, a summary that people can read, and a hash that
-- tells tasks of one summary apart.
use Rattle.std.specs.Prelude.{ℕ, ◌==◌, ◌||◌, Bool, if◌then◌else◌, List, ◌++◌, chars, codes, map, take}
use Rattle.std.specs.Char.{is_ascii_alphanumeric}
use Rattle.std.specs.List.{join_by}
use Rattle.lg_json.specs.Canonical.{canonical_text}
use Rattle.lg_taskid.specs.Digest.{md5_digits}

-- a letter or a digit of ASCII, or `_`
abbrev pub is_safe : ℕ → Bool
is_safe c = is_ascii_alphanumeric c || c == 95

-- the character itself, or `_` where it isn't safe
abbrev pub safe_character : ℕ → ℕ
safe_character c = if is_safe c then c else 95

-- the first 16 characters of a value
abbrev pub beginning_of : List ℕ → List ℕ
beginning_of value = take 16 (chars value)

-- the beginnings of the first three values, with `_` between them, and `_` in place of each character that isn't safe
abbrev pub summary_of : List (List ℕ × List ℕ) → List ℕ
summary_of pairs = map safe_character (join_by (λ pair. beginning_of pair.1) (codes "_") (take 3 pairs))

-- the first ten digits of the MD5 of the canonical text: the family isn't hashed
abbrev pub hash_of : List (List ℕ × List ℕ) → List ℕ
hash_of pairs = take 10 (md5_digits (canonical_text pairs))

-- family, summary and hash, with `_` between them
abbrev pub task_id_of : List ℕ → List (List ℕ × List ℕ) → List ℕ
task_id_of family pairs = family ++ codes "_" ++ summary_of pairs ++ codes "_" ++ hash_of pairs
