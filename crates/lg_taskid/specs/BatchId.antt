-- The id of a batch. After Luigi 3's scheduler, which takes the MD5 of the ids of its tasks.
use Rattle.std.specs.Prelude.{ℕ, List, codes}
use Rattle.std.specs.List.{join_by}
use Rattle.lg_taskid.specs.Digest.{md5_digits}

-- the ids in their order, with `|` between them
abbrev pub joined_ids : List (List ℕ) → List ℕ
joined_ids = join_by (λ id. id) (codes "|")

-- the digits of these
abbrev pub batch_id_of : List (List ℕ) → List ℕ
batch_id_of ids = md5_digits (joined_ids ids)
