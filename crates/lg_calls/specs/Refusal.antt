-- Refusals in words. This project's own.
use Rattle.std.specs.Prelude.{ℕ, List, [], ◌++◌, codes}
use Rattle.lg_calls.specs.declared.refusal.Refusal.{Refusal}
use Rattle.lg_calls.specs.declared.refusal.Refusal.TheVariants.{NotJson, MissingArgument, WrongKind, OutOfRange}
use Rattle.lg_calls.specs.declared.method.MethodFault.{MethodFault}
use Rattle.lg_calls.specs.declared.method.MethodFault.TheVariants.{UnknownMethod, NotBuilt}

-- the fixed words of a refusal
abbrev pub refusal_words : Refusal → List ℕ
refusal_words NotJson = codes "bad json"
refusal_words (MissingArgument name) = codes "missing "
refusal_words (WrongKind name) = codes "wrong kind "
refusal_words (OutOfRange name) = codes "out of range "

-- the name of the argument that it speaks of, if any
abbrev pub refusal_name : Refusal → List ℕ
refusal_name NotJson = []
refusal_name (MissingArgument name) = name
refusal_name (WrongKind name) = name
refusal_name (OutOfRange name) = name

-- why a payload makes no call
abbrev pub refusal_text : Refusal → List ℕ
refusal_text refusal = refusal_words refusal ++ refusal_name refusal

-- why a name is of no method that can be called
abbrev pub method_fault_text : MethodFault → List ℕ
method_fault_text UnknownMethod = codes "unknown method"
method_fault_text NotBuilt = codes "not built"
