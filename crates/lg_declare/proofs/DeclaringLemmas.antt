-- From the answers of the functions that are called to the answer of the caller.
use Rattle.std.proofs.Common.{◌≡◌, ℕ, List, Option, Some, None, is_some, option_map, Ok, Err, Bor, refl, sym, ap, ◌∙◌}
use Rattle.std.specs.Result.{IsErrAnd}
use Rattle.std.proofs.lemmas.Result.{err_from_is_err_and}
use Rattle.toml.specs.Data.{Data}
use Rattle.toml.specs.View.{view}
use Rattle.toml.specs.declared.value.Value.{Value}
use Rattle.lg_declare.specs.Declaring.{Answers, Faults, seen}
use Rattle.lg_declare.specs.Reading.{Read, ◌>>=◌, right_kind, read_or}
use Rattle.lg_declare.specs.declared.declare_fault.DeclareFault.{DeclareFault}
use Rattle.lg_declare.specs.declared.declare_fault.DeclareFault.TheVariants.{BadValue, NoMemory}

-- what is due is answered
pub gives : {A : Type 0} (x : A) (due : Read A) → due ≡ Ok x → Answers (Ok x) due
gives x due is = record { told = λ _. sym is }

pub given : {A : Type 0} (x : A) (due : Read A) → Answers (Ok x) due → due ≡ Ok x
given x due is = sym (is.told (λ e. cc))

-- a fault that is due is told
pub refuses : {A : Type 0} (fault other : DeclareFault) (due : Read A) → Faults fault other → due ≡ Err other → Answers (Err fault) due
refuses {A} fault other due same is =
    let fail : DeclareFault → Read A = λ other. Err other in
    record { told = λ ne. ap fail (same (λ e. ne (ap fail e))) ∙ sym is }

pub tells : {A : Type 0} (fault : DeclareFault) (due : Read A) → due ≡ Err fault → Answers (Err fault) due
tells fault due is = record { told = λ _. sym is }

-- the exit of a `?` at want of memory
pub wants : {A : Type 0} (due result : Read A) → IsErrAnd result (λ fault. fault ≡ NoMemory) → Answers result due
wants {A} due result same =
    let p = err_from_is_err_and result same in
    let fail : DeclareFault → Read A = λ other. Err other in
    record { told = λ ne. absurd (ne (p.1 ∙ ap fail p.2)) }

pub no_memory : {A : Type 0} (due : Read A) → Answers (Err NoMemory) due
no_memory due = record { told = λ ne. absurd (ne refl) }

-- what is read first, and behind it the rest
pub goes_on : {A B : Type 0} (first : Read A) (next : A → Read B) (x : A) (result : Read B)
    → Answers (Ok x) first → Answers result (next x) → Answers result (first >>= next)
unfolding ◌>>=◌
goes_on first next x result is rest = rw (given x first is) rest

-- the exit of a `?` at what is read first
pub stays : {A B : Type 0} (first : Read A) (next : A → Read B) (fault : DeclareFault) → Answers (Err fault) first → Answers (Err fault) (first >>= next)
unfolding ◌>>=◌
stays {A} {B} first next fault is =
    let fail : DeclareFault → Read B = λ other. Err other in
    record { told = λ ne. ap (λ (r : Read A). r >>= next) (is.told (λ e. ne (ap fail (cc)))) }

pub stopped : {A B : Type 0} (first : Read A) (next : A → Read B) (fault : DeclareFault) (result : Read B)
    → Answers (Err fault) first → IsErrAnd result (λ other. other ≡ fault) → Answers result (first >>= next)
stopped first next fault result is same =
    let p = err_from_is_err_and result same in
    rw (p.1, p.2) (stays first next fault is)

-- the answer of a call that is passed on
pub passed : {A : Type 0} (due : Read A) (fault : DeclareFault) (result : Read A)
    → Answers (Err fault) due → IsErrAnd result (λ other. other ≡ fault) → Answers result due
passed due fault result is same = let p = err_from_is_err_and result same in rw (p.1, p.2) is

-- the same of an answer that is seen otherwise
pub seen_passed : {A B : Type 0} (f : A → B) (due : Read B) (fault : DeclareFault) (result : Read A)
    → Answers (Err fault) due → IsErrAnd result (λ other. other ≡ fault) → Answers (seen f result) due
seen_passed f due fault result is same = let p = err_from_is_err_and result same in rw (p.1, p.2) is

-- a key that is absent, and one that is there
pub absent_key : (found : Option (Bor Value)) (at : Option Data) → option_map (λ v. view v.now) found ≡ at → found ≡ None → at ≡ None
absent_key found at finds none = sym finds ∙ ap (option_map (λ v. view v.now)) none

pub present_key : (found : Option (Bor Value)) (at : Option Data) (value : Bor Value)
    → option_map (λ v. view v.now) found ≡ at → found ≡ Some value → at ≡ Some (view value.now)
present_key found at value finds some = sym finds ∙ ap (option_map (λ v. view v.now)) some

pub or_default : {A : Type 0} (default : A) (read : Data → Read A) (at : Option Data) (found : Option (Bor Value))
    → option_map (λ v. view v.now) found ≡ at → found ≡ None → Answers (Ok default) (read_or default read at)
unfolding read_or
or_default default read at found finds none = rw (absent_key found at finds none) (gives default (Ok default) refl)

pub or_read : {A : Type 0} (default : A) (read : Data → Read A) (at : Option Data) (found : Option (Bor Value)) (value : Bor Value) (result : Read A)
    → option_map (λ v. view v.now) found ≡ at → found ≡ Some value → Answers result (read (view value.now)) → Answers result (read_or default read at)
unfolding read_or
or_read default read at found value result finds some is = rw (present_key found at value finds some) is

-- a value of the right kind, and one of another
pub right : {A : Type 0} (key : List ℕ) (x : A) (at : Option A) → at ≡ Some x → Answers (Ok x) (right_kind key at)
unfolding right_kind
right key x at is = rw is (gives x (Ok x) refl)

pub wrong : {A : Type 0} (key : List ℕ) (at : Option A) (fault : DeclareFault) → Faults fault (BadValue key) → at ≡ None → Answers (Err fault) (right_kind key at)
unfolding right_kind
wrong key at fault same none = rw none (refuses fault (BadValue key) (Err (BadValue key)) same refl)

pub found_or_not : (found : Option (Bor Value)) → is_some found ≡ is_some (option_map (λ v. view v.now) found)
found_or_not None = refl
found_or_not (Some v) = refl
