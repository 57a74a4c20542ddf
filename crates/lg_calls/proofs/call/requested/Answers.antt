use Rattle.lg_calls.proofs.CallLemmas.{answers_request, stopped_request}
use Rattle.lg_calls.proofs.call.requested.Goals as goal

pub returns-in_err-arguments-clause-request : goal.returns-in_err-arguments-clause-request
returns-in_err-arguments-clause-request c = stopped_request c.args.method _ _ _ c.in_err-arguments.ensures c.from_residual.ensures.1

pub returns-clause-request : goal.returns-clause-request
returns-clause-request c = answers_request c.args.method _ _ _ _ c.in_ok-arguments.ensures c.read_request.ensures.read
