-- The request of a call, or the first refusal that applies. This project's own, after Luigi's RPC; the payload is JSON (RFC 8259).
use Rattle.std.specs.Prelude.{◌≡◌, ℕ, List, Result, Ok, Err, ok_or, option_and_then}
use Rattle.serde_json.specs.Data.{Members}
use Rattle.serde_json.specs.Find.{as_object}
use Rattle.serde_json.specs.Read.{read}
use Rattle.lg_calls.specs.declared.arguments.Arguments.{Arguments}
use Rattle.lg_calls.specs.declared.call.CallFault.{CallFault}
use Rattle.lg_calls.specs.declared.call.CallFault.TheVariants as Call
use Rattle.lg_calls.specs.declared.method.Method.{Method}
use Rattle.lg_calls.specs.declared.method.Method.TheVariants as M
use Rattle.lg_calls.specs.declared.method.MethodFault.{MethodFault}
use Rattle.lg_calls.specs.declared.method.MethodFault.TheVariants.{UnknownMethod, NotBuilt}
use Rattle.lg_calls.specs.declared.refusal.PayloadFault.{PayloadFault}
use Rattle.lg_calls.specs.declared.refusal.PayloadFault.TheVariants as Payload
use Rattle.lg_calls.specs.declared.refusal.Refusal.{Refusal}
use Rattle.lg_calls.specs.declared.refusal.Refusal.TheVariants.{NotJson}
use Rattle.lg_calls.specs.declared.request.Request.{Request}
use Rattle.lg_calls.specs.declared.request.Request.TheVariants as R
use Rattle.lg_calls.specs.Method.{method_asked}
use Rattle.lg_calls.specs.Methods.AddTask.{add_task}
use Rattle.lg_calls.specs.Methods.AddTaskBatcher.{add_task_batcher}
use Rattle.lg_calls.specs.Methods.AddWorker.{add_worker}
use Rattle.lg_calls.specs.Methods.CountPending.{count_pending}
use Rattle.lg_calls.specs.Methods.DisableWorker.{disable_worker}
use Rattle.lg_calls.specs.Methods.FetchError.{fetch_error}
use Rattle.lg_calls.specs.Methods.ForgiveFailures.{forgive_failures}
use Rattle.lg_calls.specs.Methods.GetRunningTaskResources.{get_running_task_resources}
use Rattle.lg_calls.specs.Methods.GetTaskProgressPercentage.{get_task_progress_percentage}
use Rattle.lg_calls.specs.Methods.GetTaskStatusMessage.{get_task_status_message}
use Rattle.lg_calls.specs.Methods.GetWork.{get_work}
use Rattle.lg_calls.specs.Methods.MarkAsDone.{mark_as_done}
use Rattle.lg_calls.specs.Methods.Ping.{ping}
use Rattle.lg_calls.specs.Methods.ReEnableTask.{re_enable_task}
use Rattle.lg_calls.specs.Methods.SetTaskProgressPercentage.{set_task_progress_percentage}
use Rattle.lg_calls.specs.Methods.SetTaskStatusMessage.{set_task_status_message}
use Rattle.lg_calls.specs.Methods.TaskList.{task_list}
use Rattle.lg_calls.specs.Methods.TaskSearch.{task_search}
use Rattle.lg_calls.specs.Methods.UpdateResource.{update_resource}
use Rattle.lg_calls.specs.Methods.UpdateResources.{update_resources}
use Rattle.lg_calls.specs.Methods.WorkerList.{worker_list}
use Rattle.lg_calls.specs.Reading.{Reading, ◌>>=◌, done, left_in}

-- the arguments of a method make its request
abbrev pub asks : {A : Type 0} → (A → Request) → Reading A → Reading Request
asks request arguments = arguments >>= λ ask. done (request ask)

-- the reading of each method; one without arguments reads none
abbrev pub reading_of : Method → Reading Request
reading_of M.AddTask = asks R.AddTask add_task
reading_of M.AddTaskBatcher = asks R.AddTaskBatcher add_task_batcher
reading_of M.AddWorker = asks R.AddWorker add_worker
reading_of M.AnnounceSchedulingFailure = done R.AnnounceSchedulingFailure
reading_of M.CountPending = asks R.CountPending count_pending
reading_of M.DisableWorker = asks R.DisableWorker disable_worker
reading_of M.FetchError = asks R.FetchError fetch_error
reading_of M.ForgiveFailures = asks R.ForgiveFailures forgive_failures
reading_of M.GetRunningTaskResources = asks R.GetRunningTaskResources get_running_task_resources
reading_of M.GetTaskProgressPercentage = asks R.GetTaskProgressPercentage get_task_progress_percentage
reading_of M.GetTaskStatusMessage = asks R.GetTaskStatusMessage get_task_status_message
reading_of M.GetWork = asks R.GetWork get_work
reading_of M.HasTaskHistory = done R.HasTaskHistory
reading_of M.IsPauseEnabled = done R.IsPauseEnabled
reading_of M.IsPaused = done R.IsPaused
reading_of M.MarkAsDone = asks R.MarkAsDone mark_as_done
reading_of M.Pause = done R.Pause
reading_of M.Ping = asks R.Ping ping
reading_of M.Prune = done R.Prune
reading_of M.ReEnableTask = asks R.ReEnableTask re_enable_task
reading_of M.ResourceList = done R.ResourceList
reading_of M.Resources = done R.Resources
reading_of M.SetTaskProgressPercentage = asks R.SetTaskProgressPercentage set_task_progress_percentage
reading_of M.SetTaskStatusMessage = asks R.SetTaskStatusMessage set_task_status_message
reading_of M.StatusCounts = done R.StatusCounts
reading_of M.Stop = done R.Stop
reading_of M.TaskList = asks R.TaskList task_list
reading_of M.TaskSearch = asks R.TaskSearch task_search
reading_of M.Unpause = done R.Unpause
reading_of M.UpdateResource = asks R.UpdateResource update_resource
reading_of M.UpdateResources = asks R.UpdateResources update_resources
reading_of M.WorkerList = asks R.WorkerList worker_list

-- the fields of a payload
abbrev pub fields_in : List ℕ → Result Members Refusal
fields_in payload = ok_or (option_and_then as_object (read payload)) NotJson

-- what was read, without the fields that are left
abbrev pub read_of : {A : Type 0} → Result (A × Members) Refusal → Result A Refusal
read_of (Ok read) = Ok read.0
read_of (Err refusal) = Err refusal

abbrev pub asked_in : Method → Result Members Refusal → Result Request Refusal
asked_in method (Ok fields) = read_of (reading_of method fields)
asked_in method (Err refusal) = Err refusal

-- the request of a method with this payload
unfoldable pub request_in : Method → List ℕ → Result Request Refusal
request_in method payload = asked_in method (fields_in payload)

-- the answer is the one that is due, or memory ran out
abbrev pub Answers : {A : Type 0} → Result A PayloadFault → Result A Refusal → Type 0
Answers (Ok x) due = due ≡ Ok x
Answers (Err (Payload.Refused refusal)) due = due ≡ Err refusal
Answers (Err Payload.NoMemory) due = Unit {0}

-- the fields of arguments that were made
abbrev pub fields_left : Result Arguments PayloadFault → Result Members PayloadFault
fields_left (Ok arguments) = Ok (left_in arguments)
fields_left (Err fault) = Err fault

-- what reading the payload gave, as the answer to the call
abbrev pub as_call : Result Request PayloadFault → Result Request CallFault
as_call (Ok request) = Ok request
as_call (Err (Payload.Refused refusal)) = Err (Call.Refused refusal)
as_call (Err Payload.NoMemory) = Err Call.NoMemory

abbrev pub call_with : Result Request Refusal → Result Request CallFault
call_with (Ok request) = Ok request
call_with (Err refusal) = Err (Call.Refused refusal)

-- the call of a method, with this payload: the payload is looked at last
abbrev pub call_to : Result Method MethodFault → List ℕ → Result Request CallFault
call_to (Ok method) payload = call_with (request_in method payload)
call_to (Err UnknownMethod) payload = Err Call.UnknownMethod
call_to (Err NotBuilt) payload = Err Call.NotBuilt

-- the call of the method of this name, with this payload
abbrev pub request_of : List ℕ → List ℕ → Result Request CallFault
request_of name payload = call_to (method_asked name) payload

-- the payload is looked at, and memory may be wanted for it, of no method that is unknown or not built
abbrev pub LooksAtPayload : Result Request CallFault → Type 0
LooksAtPayload (Err Call.UnknownMethod) = ⊥
LooksAtPayload (Err Call.NotBuilt) = ⊥
LooksAtPayload _ = Unit {0}

-- the answer is the call that is due, or memory ran out where it may
abbrev pub MakesCall : Result Request CallFault → Result Request CallFault → Type 0
MakesCall (Err Call.NoMemory) due = LooksAtPayload due
MakesCall answer due = answer ≡ due
