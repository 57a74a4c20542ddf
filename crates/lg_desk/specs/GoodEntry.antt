-- What each entry of a journal meets. This project's own.
use Rattle.std.specs.Prelude.{◌^◌, ◌<◌, true, List, All}
use Rattle.std.specs.Coded.{Π_prop, →_prop, le_prop}
use mathlib.Core.Bool.{Bool-set}
use Rattle.lg_calls.specs.Request.{IsInRange, is_in_range}
use Rattle.lg_desk.specs.declared.journal.Entry.{Entry}

-- an entry's moment is below 2^62, and its request is in range
pub record IsGoodEntry (e : Entry) : Type 0 where
  pub moment : e.now.0 < 2 ^ 62
  pub in_range : IsInRange e.request

-- There is one proof of this at most, so that a life can keep it.
good-prop : (e : Entry) → IsProp (IsGoodEntry e)
good-prop e x y = λ i. record { moment = le_prop x.moment y.moment i; in_range = Bool-set (is_in_range e.request) true x.in_range y.in_range i }

pub good_entries-prop : (journal : List Entry) → IsProp (All IsGoodEntry journal)
good_entries-prop journal = Π_prop (λ k. Π_prop (λ d. →_prop (good-prop _)))
