-- The arguments of `add_task`. This project's own, after Luigi's RPC.
use Rattle.std.specs.Prelude.{ℕ, pos, ◌&&◌, Bool, true, false, List, [], codes, Option, Some, None, unwrap_or}
use Rattle.std.specs.FinMap.{empty, is_sorted}
use Rattle.std.specs.Ordering.{nat_cmp}
use Rattle.std.specs.Cmp.Lexicographic.{slice_cmp}
use Rattle.lg_json.specs.Fields.{text_in, truth_in, int_in, texts_in, pairs_in, amounts_in}
use Rattle.lg_calls.specs.declared.methods.add_task.AddTask.{AddTask}
use Rattle.lg_calls.specs.declared.methods.add_task.Declared.{Declared}
use Rattle.lg_calls.specs.declared.methods.add_task.Demands.{Demands}
use Rattle.lg_calls.specs.declared.methods.add_task.Described.{Described}
use Rattle.lg_calls.specs.declared.methods.add_task.Terms.{Terms}
use Rattle.lg_calls.specs.declared.status.Reported.{Reported}
use Rattle.lg_calls.specs.declared.status.Reported.TheVariants.{Pending}
use Rattle.lg_calls.specs.Ranges.{known}
use Rattle.lg_calls.specs.Reading.{Reading, ◌>>=◌, field, needed, done}
use Rattle.lg_calls.specs.RetryEntries.{policy_in, no_policy, is_policy}
use Rattle.lg_calls.specs.Words.{named, reported_word, reports}

-- what is reported, pending where nothing is; nothing where no report has the word
abbrev pub reported : Option (List ℕ) → Option Reported
reported None = Some Pending
reported (Some word) = named reported_word reports word

abbrev pub declared : Reading Declared
declared =
    needed text_in (codes "worker") >>= λ worker.
    needed text_in (codes "task_id") >>= λ task_id.
    field text_in (codes "status") >>= λ word.
    known (codes "status") (reported word) >>= λ status.
    field truth_in (codes "runnable") >>= λ runnable.
    done (record {
      worker = worker;
      task_id = task_id;
      status = status;
      runnable = unwrap_or runnable true;
    })

abbrev pub demands : Reading Demands
demands =
    field texts_in (codes "deps") >>= λ deps.
    field texts_in (codes "new_deps") >>= λ new_deps.
    field text_in (codes "expl") >>= λ expl.
    field amounts_in (codes "resources") >>= λ resources.
    field int_in (codes "priority") >>= λ priority.
    done (record {
      deps = deps;
      new_deps = unwrap_or new_deps [];
      expl = expl;
      resources = unwrap_or resources empty;
      priority = unwrap_or priority (pos 0);
    })

abbrev pub described : Reading Described
described =
    field text_in (codes "family") >>= λ family.
    field text_in (codes "module") >>= λ module_name.
    field pairs_in (codes "params") >>= λ params.
    field truth_in (codes "accepts_messages") >>= λ accepts_messages.
    done (record {
      family = unwrap_or family [];
      «module» = module_name;
      params = unwrap_or params [];
      accepts_messages = unwrap_or accepts_messages false;
    })

abbrev pub terms : Reading Terms
terms =
    field truth_in (codes "assistant") >>= λ assistant.
    field text_in (codes "tracking_url") >>= λ tracking_url.
    field truth_in (codes "batchable") >>= λ batchable.
    field text_in (codes "batch_id") >>= λ batch_id.
    field policy_in (codes "retry_policy_dict") >>= λ policy.
    done (record {
      assistant = unwrap_or assistant false;
      tracking_url = tracking_url;
      batchable = batchable;
      batch_id = batch_id;
      retry_policy = unwrap_or policy no_policy;
    })

abbrev pub put_together : Declared → Demands → Described → Terms → AddTask
put_together declared demands described terms = record {
  worker = declared.worker;
  task_id = declared.task_id;
  status = declared.status;
  runnable = declared.runnable;
  deps = demands.deps;
  new_deps = demands.new_deps;
  expl = demands.expl;
  resources = demands.resources;
  priority = demands.priority;
  family = described.family;
  «module» = described.«module»;
  params = described.params;
  accepts_messages = described.accepts_messages;
  assistant = terms.assistant;
  tracking_url = terms.tracking_url;
  batchable = terms.batchable;
  batch_id = terms.batch_id;
  retry_policy = terms.retry_policy;
}

abbrev pub add_task : Reading AddTask
add_task =
    declared >>= λ first.
    demands >>= λ second.
    described >>= λ third.
    terms >>= λ fourth.
    done (put_together first second third fourth)

-- the names rise strictly
abbrev pub are_in_order : List (List ℕ × List ℕ) → Bool
are_in_order params = is_sorted (slice_cmp nat_cmp) params

abbrev pub add_task_in_range : AddTask → Bool
add_task_in_range ask = are_in_order ask.params && is_policy ask.retry_policy
