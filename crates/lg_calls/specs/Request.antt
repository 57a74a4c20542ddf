-- Which requests are in range, and which end the life. This project's own, after Luigi's RPC.
use Rattle.std.specs.Prelude.{Bool, true, false, IsTrue}
use Rattle.lg_calls.specs.declared.request.Request.{Request}
use Rattle.lg_calls.specs.declared.request.Request.TheVariants.{AddTask, AddTaskBatcher, TaskList, UpdateResource, Stop}
use Rattle.lg_calls.specs.Methods.AddTask.{add_task_in_range}
use Rattle.lg_calls.specs.Methods.AddTaskBatcher.{add_task_batcher_in_range}
use Rattle.lg_calls.specs.Methods.TaskList.{task_list_in_range}
use Rattle.lg_calls.specs.Methods.UpdateResource.{update_resource_in_range}

-- each number of a request is in its range, and its parameters stand in order
abbrev pub is_in_range : Request → Bool
is_in_range (AddTask ask) = add_task_in_range ask
is_in_range (AddTaskBatcher ask) = add_task_batcher_in_range ask
is_in_range (TaskList ask) = task_list_in_range ask
is_in_range (UpdateResource ask) = update_resource_in_range ask
is_in_range _ = true

abbrev pub IsInRange : Request → Type 0
IsInRange request = IsTrue (is_in_range request)

-- the life ends with the call
abbrev pub is_stop : Request → Bool
is_stop Stop = true
is_stop _ = false
