-- What the RUNNING tasks take of a resource, one task after another.
use Rattle.std.proofs.Common.{◌≡◌, ℕ, ◌+◌, ◌<◌, true, false, cond, List, [], ◌∷◌, ◌++◌, length, take, get_or, Result, Ok, Err, OnOk, sym, ap, ◌∙◌, arith}
use Rattle.std.proofs.lemmas.List.{take_more}
use Rattle.std.proofs.lemmas.List.Elements.{filter-append}
use Rattle.std.proofs.lemmas.List.Sums.{sum_by-append}
use Rattle.lg_base.specs.Amounts.{amount_of}
use Rattle.lg_calls.specs.declared.status.Status.TheVariants.{Running}
use Rattle.lg_calls.specs.Status.{is_status}
use Rattle.lg_calls.specs.Task.{Task}
use Rattle.lg_calls.specs.Use.{use_by, with_status}

-- one task more
pub use-more : (name : List ℕ) (tasks : List Task) (i : ℕ) (task : Task) → i < length tasks → task ≡ get_or tasks i task
    → use_by (with_status Running (take i tasks)) name + use_by (with_status Running (task ∷ [])) name ≡ use_by (with_status Running (take (i + 1) tasks)) name
use-more name tasks i task inside here =
    sym (sum_by-append (λ (t : Task). amount_of t.resources name) (with_status Running (take i tasks)) (with_status Running (task ∷ [])))
    ∙ ap (λ ts. use_by ts name) (sym (filter-append (λ (t : Task). is_status Running t.status) (take i tasks) (task ∷ [])))
    ∙ ap (λ ts. use_by (with_status Running ts) name) (ap (λ t. take i tasks ++ t ∷ []) here ∙ sym (take_more tasks i task inside))

-- a task that is RUNNING takes its amounts
pub use-one : (name : List ℕ) (task : Task) → is_status Running task.status ≡ true → (before : ℕ)
    → before + amount_of task.resources name ≡ before + use_by (with_status Running (task ∷ [])) name
use-one name task running before =
    let one : before + amount_of task.resources name ≡ before + use_by (task ∷ []) name = omega arith in
    one ∙ ap (λ b. before + use_by (cond b (task ∷ []) []) name) (sym running)

-- any other takes nothing
pub use-none : (name : List ℕ) (task : Task) → is_status Running task.status ≡ false → (before : ℕ) → before ≡ before + use_by (with_status Running (task ∷ [])) name
use-none name task rests before =
    let none : before ≡ before + use_by [] name = omega arith in
    none ∙ ap (λ b. before + use_by (cond b (task ∷ []) []) name) (sym rests)

-- of two facts on a call that ended well
pub on_both : {T E P Q R : Type 0} (result : Result T E) → (P → Q → R) → OnOk result P → OnOk result Q → OnOk result R
on_both (Ok value) join p q = join p q
on_both (Err fault) join p q = tt
