-- What fits, by a test and by what it says of each need.
use Rattle.std.proofs.Common.{◌≡◌, ℕ, ◌+◌, ◌≤◌, ◌↔◌, Bool, leb, List, refl}
use Rattle.std.specs.FinMap.{entries}
use Rattle.std.specs.List.{list_all}
use Rattle.std.specs.Prelude.{IsTrue}
use Rattle.std.proofs.lemmas.Bool.{leb-true, le-leb}
use Rattle.std.proofs.lemmas.Bool.Decides.{same_from_decides, Decides-by_and}
use Rattle.lg_base.specs.Amounts.{AmountsByName, Fits, limit_of}
use Rattle.lg_calls.specs.Work.Fits.{fits}

pub fits_is : (limits needs : AmountsByName) (taken : List ℕ → ℕ) (result : Bool) → (IsTrue result ↔ Fits needs taken limits) → result ≡ fits limits taken needs
unfolding fits
fits_is limits needs taken result says =
    let test : List ℕ × ℕ → Bool = λ need. leb (taken need.0 + need.1) (limit_of limits need.0) in
    same_from_decides result (list_all test (entries needs)) says
    (Decides-by_and test (λ need. taken need.0 + need.1 ≤ limit_of limits need.0) (list_all test)
    (λ need. (leb-true (taken need.0 + need.1) (limit_of limits need.0), le-leb (taken need.0 + need.1) (limit_of limits need.0)))
    refl (λ _ _. refl) (entries needs))
