-- Why a message makes no call, and what is said of it. This project's own, after Luigi's RPC.
use Rattle.std.specs.Prelude.{ℕ, List, codes}
use Rattle.lg_calls.specs.Refusal.{refusal_text}
use Rattle.luigid.specs.declared.refusal.Misrouted.{Misrouted}
use Rattle.luigid.specs.declared.refusal.Misrouted.TheVariants.{BadVerb, NoLength, UnknownPath, UnknownMethod, NotBuilt}
use Rattle.luigid.specs.declared.refusal.NoCall.{NoCall}

abbrev pub misrouted_status : Misrouted → ℕ
misrouted_status BadVerb = 405
misrouted_status NoLength = 411
misrouted_status UnknownPath = 404
misrouted_status UnknownMethod = 404
misrouted_status NotBuilt = 501

abbrev pub misrouted_text : Misrouted → List ℕ
misrouted_text BadVerb = codes "bad verb"
misrouted_text NoLength = codes "no length"
misrouted_text UnknownPath = codes "unknown path"
misrouted_text UnknownMethod = codes "unknown method"
misrouted_text NotBuilt = codes "not built"

-- the status of the response
abbrev pub no_call_status : NoCall → ℕ
no_call_status (NoCall.Misrouted misrouted) = misrouted_status misrouted
no_call_status (NoCall.Refused refusal) = 400

-- what stands under `error`
abbrev pub no_call_text : NoCall → List ℕ
no_call_text (NoCall.Misrouted misrouted) = misrouted_text misrouted
no_call_text (NoCall.Refused refusal) = refusal_text refusal
