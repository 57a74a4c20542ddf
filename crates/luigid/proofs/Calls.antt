-- The call of a message, reason by reason.
use Rattle.std.proofs.Common.{◌≡◌, ℕ, Bool, List, ap, subst, sym, Result, Ok, Err}
use Rattle.lg_calls.specs.declared.method.Method.{Method}
use Rattle.lg_calls.specs.declared.refusal.Refusal.{Refusal}
use Rattle.lg_calls.specs.declared.request.Request.{Request}
use Rattle.lg_calls.specs.Call.{request_in}
use Rattle.luigid.specs.declared.refusal.Misrouted.{Misrouted}
use Rattle.luigid.specs.declared.refusal.NoCall.TheVariants as NoCall
use Rattle.luigid.specs.Call.{or_refused, call_by, route, used_of, call_of, MayWantMemory}
use Rattle.luigid.specs.Payload.{payload_of}

-- memory may be wanted for any payload of a method
wants-payload : (request : Result Request Refusal) → MayWantMemory (or_refused request)
wants-payload (Ok request) = tt
wants-payload (Err refusal) = tt

-- a method is found, or none is, and that is it
pub asks-none : (verb : List ℕ) (sized : Bool) (target body : List ℕ) (misrouted : Misrouted) → route verb sized target ≡ Err misrouted
    → call_of verb sized target body ≡ Err (NoCall.Misrouted misrouted)
asks-none verb sized target body misrouted is = ap (λ asked. call_by asked (payload_of target (used_of verb body))) is

pub asks-method : (verb : List ℕ) (sized : Bool) (target body : List ℕ) (method : Method) → route verb sized target ≡ Ok method
    → call_of verb sized target body ≡ or_refused (request_in method (payload_of target (used_of verb body)))
asks-method verb sized target body method is = ap (λ asked. call_by asked (payload_of target (used_of verb body))) is

-- memory may be wanted wherever a method was found
pub wants-call : (verb : List ℕ) (sized : Bool) (target body : List ℕ) (method : Method) → route verb sized target ≡ Ok method
    → MayWantMemory (call_of verb sized target body)
wants-call verb sized target body method is =
    subst MayWantMemory (sym (asks-method verb sized target body method is)) (wants-payload (request_in method (payload_of target (used_of verb body))))
