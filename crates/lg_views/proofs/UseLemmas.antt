-- What tasks take of a resource, one task after another.
use Rattle.std.proofs.Common.{◌≡◌, ℕ, ◌+◌, ◌<◌, List, Option, Some, None, length, take, get_or, refl, sym, ap, ◌∙◌, is_some, true, ◌==◌, eq-eqb}
use Rattle.std.proofs.lemmas.List.Sums.{sum_by_push}
use Rattle.std.specs.Borrow.{Bor}
use Rattle.std.specs.Prelude.{unwrap_or}
use Rattle.lg_base.specs.Amounts.{amount_of}
use Rattle.lg_calls.specs.Task.{Task}
use Rattle.lg_views.specs.Lent.{lent}
use Rattle.lg_calls.specs.Use.{use_by}
use Rattle.lg_views.proofs.PickLemmas.{lent_more}

-- one task more
pub use_more : (tasks : List (Bor Task)) (name : List ℕ) (i : ℕ) (item : Bor Task) → i < length tasks → item ≡ get_or tasks i item
    → (used amount : ℕ) → used ≡ use_by (lent (take i tasks)) name → amount ≡ amount_of item.now.resources name
    → used + amount ≡ use_by (lent (take (i + 1) tasks)) name
use_more tasks name i item within is used amount so_far takes =
    (λ j. so_far j + takes j)
    ∙ (sym (sum_by_push (λ (task : Task). amount_of task.resources name) (lent (take i tasks)) item.now)
    ∙ ap (λ seen. use_by seen name) (sym (lent_more tasks i item within is)))

same_itself : (n : ℕ) → (n == n) ≡ true
same_itself n = eq-eqb n n refl

-- an amount and a limit are the same where a name has one
pub amount_is_limit : (there : Option ℕ) (amount limit : ℕ) → amount ≡ unwrap_or there 0 → limit ≡ unwrap_or there 1 → (amount == limit) ≡ is_some there
amount_is_limit None amount limit a l = (λ j. a j == l j)
amount_is_limit (Some n) amount limit a l = (λ j. a j == l j) ∙ same_itself n
