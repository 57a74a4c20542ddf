-- The call that a message makes, or why it makes none. The payload is JSON (RFC 8259).
use Rattle.std.specs.Prelude.{◌≡◌, ◌⊎◌, ℕ, ◌-◌, ◌^◌, min, drop, length, if◌then◌else◌, Bool, true, List, [], codes, nat_eq, Result, Ok, Err}
use Rattle.std.specs.List.{starts_with}
use Rattle.std.specs.Str.{bytes_eq}
use Rattle.lg_calls.specs.declared.method.Method.{Method}
use Rattle.lg_calls.specs.declared.method.MethodFault.{MethodFault}
use Rattle.lg_calls.specs.declared.method.MethodFault.TheVariants as Fault
use Rattle.lg_calls.specs.declared.refusal.Refusal.{Refusal}
use Rattle.lg_calls.specs.declared.request.Request.{Request}
use Rattle.lg_calls.specs.Call.{request_in}
use Rattle.lg_calls.specs.Method.{method_asked}
use Rattle.lg_calls.specs.Request.{IsInRange}
use Rattle.luigid.specs.declared.call.Asked.{Asked}
use Rattle.luigid.specs.declared.call.Asked.TheVariants.{Call, Nothing}
use Rattle.luigid.specs.declared.refusal.Misrouted.{Misrouted}
use Rattle.luigid.specs.declared.refusal.Misrouted.TheVariants.{BadVerb, NoLength, UnknownPath, UnknownMethod, NotBuilt}
use Rattle.luigid.specs.declared.refusal.NoCall.{NoCall}
use Rattle.luigid.specs.Payload.{path_of, payload_of}

-- a method that isn't found is no way
abbrev pub misrouted_by : MethodFault → Misrouted
misrouted_by Fault.UnknownMethod = UnknownMethod
misrouted_by Fault.NotBuilt = NotBuilt

abbrev pub routed : Result Method MethodFault → Result Method Misrouted
routed (Ok method) = Ok method
routed (Err fault) = Err (misrouted_by fault)

-- the method of a path: what stands behind `/api/`, not decoded
abbrev pub route_of : List ℕ → Result Method Misrouted
route_of path = if starts_with nat_eq path (codes "/api/") then routed (method_asked (drop 5 path)) else Err UnknownPath

-- the method of a verb and a target: the verb is looked at first, and then whether a POST tells its body's length
abbrev pub route : List ℕ → Bool → List ℕ → Result Method Misrouted
route verb sized target =
    if bytes_eq verb (codes "POST") then (if sized then route_of (path_of target) else Err NoLength)
    else (if bytes_eq verb (codes "GET") then route_of (path_of target) else Err BadVerb)

-- a call may be made: the verb is GET, or it is POST and a field tells how long the body is
abbrev pub MayCall : List ℕ → Bool → Type 0
MayCall verb sized = (verb ≡ codes "GET") ⊎ ((verb ≡ codes "POST") × (sized ≡ true))

-- the part of a body that is used: that of a POST
abbrev pub used_of : List ℕ → List ℕ → List ℕ
used_of verb body = if bytes_eq verb (codes "POST") then body else []

-- the request of a payload, or why the method refuses it
abbrev pub or_refused : Result Request Refusal → Result Request NoCall
or_refused (Ok request) = Ok request
or_refused (Err refusal) = Err (NoCall.Refused refusal)

-- what comes of a payload where this method was found, or none
abbrev pub call_by : Result Method Misrouted → List ℕ → Result Request NoCall
call_by (Ok method) payload = or_refused (request_in method payload)
call_by (Err misrouted) payload = Err (NoCall.Misrouted misrouted)

-- The request of a verb, a target and a body, whose length a field tells or not. The payload is looked at last.
abbrev pub call_of : List ℕ → Bool → List ℕ → List ℕ → Result Request NoCall
call_of verb sized target body = call_by (route verb sized target) (payload_of target (used_of verb body))

-- the bytes of a payload, counted by a number of 32 bits
abbrev pub payload_size : List ℕ → List ℕ → ℕ
payload_size target body = min (length (payload_of target body)) (2 ^ 32 - 1)

abbrev pub size_of : List ℕ → List ℕ → List ℕ → ℕ
size_of verb target body = payload_size target (used_of verb body)

-- what was read of a message is that request, in range, and that size, or that reason
abbrev pub Asks : Asked → Result Request NoCall → ℕ → Type 0
Asks (Call request count) call size = (call ≡ Ok request) × (count ≡ size) × IsInRange request
Asks (Nothing reason) call size = call ≡ Err reason

-- Memory may be wanted once a method was found: for a call, or where the payload is at fault.
abbrev pub MayWantMemory : Result Request NoCall → Type 0
MayWantMemory (Ok request) = Unit {0}
MayWantMemory (Err (NoCall.Refused refusal)) = Unit {0}
MayWantMemory (Err (NoCall.Misrouted misrouted)) = ⊥
