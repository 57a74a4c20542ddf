-- The arguments of `task_list`. This project's own, after Luigi's RPC.
use Rattle.std.specs.Prelude.{ℕ, nat_lt, Bool, true, if◌then◌else◌, List, [], codes, Option, Some, None, option_map, unwrap_or}
use Rattle.lg_json.specs.Fields.{text_in, truth_in}
use Rattle.lg_calls.specs.declared.methods.task_list.ListAsk.{ListAsk}
use Rattle.lg_calls.specs.declared.status.Status.{Status}
use Rattle.lg_calls.specs.Ranges.{known, count, is_count}
use Rattle.lg_calls.specs.Reading.{Reading, ◌>>=◌, field, done}
use Rattle.lg_calls.specs.Words.{named, status_word, statuses}

-- the status that is listed, all where the word is empty; nothing where it is no status
abbrev pub status_or_all : List ℕ → Option (Option Status)
status_or_all [] = Some None
status_or_all word = option_map Some (named status_word statuses word)

-- an absent word is empty
abbrev pub listed_status : Option (List ℕ) → Option (Option Status)
listed_status word = status_or_all (unwrap_or word [])

-- 0 counts as absent
abbrev pub unless_zero : Option ℕ → Option ℕ
unless_zero None = None
unless_zero (Some n) = if nat_lt 0 n then Some n else None

abbrev pub task_list : Reading ListAsk
task_list =
    field text_in (codes "status") >>= λ word.
    known (codes "status") (listed_status word) >>= λ status.
    field text_in (codes "upstream_status") >>= λ upstream.
    field truth_in (codes "limit") >>= λ limit.
    field text_in (codes "search") >>= λ search.
    count 0 (codes "max_shown_tasks") >>= λ shown.
    done (record {
      status = status;
      upstream = unwrap_or upstream [];
      limit = unwrap_or limit true;
      search = search;
      max_shown_tasks = unless_zero shown;
    })

abbrev pub task_list_in_range : ListAsk → Bool
task_list_in_range ask = is_count 1 ask.max_shown_tasks
