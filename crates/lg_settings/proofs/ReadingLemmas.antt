-- Readings that follow one another, and what a function that makes them answers.
use Rattle.std.proofs.Common.{◌≡◌, Option, Some, None, Result, Ok, Err, refl, sym, ap}
use Rattle.std.specs.Option.{ok_or, option_and_then}
use Rattle.std.specs.Result.{IsErrAnd}
use Rattle.std.proofs.lemmas.Result.{err_from_is_err_and}
use Rattle.toml.specs.Data.{Members}
use Rattle.lg_settings.specs.Reading.{Reading, ◌>>=◌, done, IsDue, Answers}
use Rattle.lg_settings.specs.declared.fault.SettingsFault.{SettingsFault}
use Rattle.lg_settings.specs.declared.fault.SettingsFault.TheVariants.{NotSettings, NoMemory}

-- what is due is answered
pub gives : {A : Type 0} (due : Option A) (x : A) → due ≡ Some x → Answers due (Ok x)
unfolding Answers
gives due x is = is

pub given : {A : Type 0} (due : Option A) (x : A) → Answers due (Ok x) → due ≡ Some x
unfolding Answers
given due x is = is

-- a fault that is due is answered
pub refuses : {A : Type 0} (due : Option A) (fault : SettingsFault) → IsDue due fault → Answers due (Err fault)
unfolding Answers
refuses due fault is = is

pub refused : {A : Type 0} (due : Option A) (fault : SettingsFault) → Answers due (Err fault) → IsDue due fault
unfolding Answers
refused due fault is = is

-- the exit of a `?` behind which a fault is told
pub told : {A : Type 0} (due : Option A) (fault : SettingsFault) (result : Result A SettingsFault)
    → IsDue due fault → IsErrAnd result (λ other. other ≡ fault) → Answers due result
told due fault result is same = let p = err_from_is_err_and result same in rw (p.1, p.2) (refuses due fault is)

-- want of memory
pub wants : {A : Type 0} (due : Option A) (result : Result A SettingsFault) → IsErrAnd result (λ fault. fault ≡ NoMemory) → Answers due result
wants due result same = told due NoMemory result tt same

-- what is made of nothing is nothing, and want of memory stays
pub still_due : {A B : Type 0} (due : Option A) (next : A → Option B) (fault : SettingsFault) → IsDue due fault → IsDue (option_and_then next due) fault
still_due due next NotSettings none = ap (option_and_then next) none
still_due due next NoMemory is = tt

-- the exit of a `?` behind which something is made of what was due
pub told_of : {A B : Type 0} (due : Option B) (made : Option A) (next : A → Option B) (fault : SettingsFault) (result : Result B SettingsFault)
    → due ≡ option_and_then next made → Answers made (Err fault) → IsErrAnd result (λ other. other ≡ fault) → Answers due result
told_of due made next fault result is refusal same = told due fault result (rw is (still_due made next fault (refused made fault refusal))) same

-- what is made of what is there
pub and_then_answers : {A B : Type 0} (due : Option A) (next : A → Option B) (x : A) (result : Result B SettingsFault)
    → due ≡ Some x → Answers (next x) result → Answers (option_and_then next due) result
and_then_answers due next x result is rest = rw is rest

-- what is read first, and behind it the rest
pub then_answers : {A B : Type 0} (first : Reading A) (next : A → Reading B) (table : Members) (x : A) (result : Result B SettingsFault)
    → Answers (first table) (Ok x) → Answers (next x table) result → Answers ((first >>= next) table) result
unfolding ◌>>=◌
then_answers first next table x result is rest = rw (given (first table) x is) rest

-- the exit of a `?` at what is read first
pub stopped_answers : {A B : Type 0} (first : Reading A) (next : A → Reading B) (table : Members) (fault : SettingsFault) (result : Result B SettingsFault)
    → Answers (first table) (Err fault) → IsErrAnd result (λ other. other ≡ fault) → Answers ((first >>= next) table) result
unfolding ◌>>=◌
stopped_answers first next table fault result is same =
    told _ fault result (still_due (first table) (λ x. next x table) fault (refused (first table) fault is)) same

-- nothing more is read
pub done_answers : {A : Type 0} (x y : A) (table : Members) → y ≡ x → Answers (done x table) (Ok y)
unfolding done
done_answers x y table is = gives (Some x) y (ap Some (sym is))

-- a reader that takes no memory
pub due_answers : {A : Type 0} (due : Option A) (result : Result A SettingsFault) → result ≡ ok_or due NotSettings → Answers due result
due_answers None result is = rw is (refuses None NotSettings refl)
due_answers (Some x) result is = rw is (gives (Some x) x refl)

pub then_due : {A B : Type 0} (first : Reading A) (next : A → Reading B) (table : Members) (x : A) (result : Result B SettingsFault)
    → Ok x ≡ ok_or (first table) NotSettings → Answers (next x table) result → Answers ((first >>= next) table) result
then_due first next table x result is rest = then_answers first next table x result (due_answers (first table) (Ok x) is) rest

pub stopped_due : {A B : Type 0} (first : Reading A) (next : A → Reading B) (table : Members) (fault : SettingsFault) (result : Result B SettingsFault)
    → Err fault ≡ ok_or (first table) NotSettings → IsErrAnd result (λ other. other ≡ fault) → Answers ((first >>= next) table) result
stopped_due first next table fault result is same = stopped_answers first next table fault result (due_answers (first table) (Err fault) is) same
