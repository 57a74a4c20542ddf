-- Entries of one pass, behind a list that others know too.
use Rattle.std.proofs.Common.{◌≡◌, ◌≢◌, ℕ, ◌<◌, List, [], ◌∷◌, ◌++◌, get_or, arith, ap, sym, refl, ◌∙◌, append_assoc, eq-eqb, ne_eqb, Bool, cond}
use Rattle.std.specs.Prelude.{◌==◌, if◌then◌else◌}
use Rattle.std.specs.List.{sum_by, All}
use Rattle.std.proofs.Math.Seq.{drop-append_seam}
use Rattle.std.proofs.lemmas.List.{append-nil}
use Rattle.std.proofs.lemmas.List.Sums.{sum_by-cons}
use Rattle.std.proofs.lemmas.List.Elements.{All-nil, All-cons, All-head, All-tail, filter-append}
use Rattle.lg_turn.specs.declared.view.Account.{Account}
use Rattle.lg_turn.specs.Views.{BeginsWith, of_pass, account_of}
use Rattle.lg_turn.specs.Rule.{Fits}
use Rattle.lg_turn.specs.Steps.{after_give}
use Rattle.lg_turn.proofs.Counts.{one_if_same}

module _ {I : Type 0} (number : I → ℕ) where
  -- entries of one number are all its own
  pub of_pass-own : (n : ℕ) (list : List I) → All (λ e. number e ≡ n) list → of_pass number n list ≡ list
  of_pass-own n [] h = refl
  of_pass-own n (e ∷ rest) h =
      let here : number e ≡ n = All-head (λ (x : I). number x ≡ n) e rest h in
      ap (λ (b : Bool). cond b (e ∷ of_pass number n rest) (of_pass number n rest)) (eq-eqb (number e) n here) ∙ ap (λ (l : List I). e ∷ l) (of_pass-own n rest (All-tail (λ (x : I). number x ≡ n) e rest h))

  -- and none of them another's
  pub of_pass-other : (n m : ℕ) (list : List I) → m ≢ n → All (λ e. number e ≡ n) list → of_pass number m list ≡ []
  of_pass-other n m [] other h = refl
  of_pass-other n m (e ∷ rest) other h =
      let here : number e ≡ n = All-head (λ (x : I). number x ≡ n) e rest h in
      ap (λ (b : Bool). cond b (e ∷ of_pass number m rest) (of_pass number m rest)) (ne_eqb (number e) m (λ same. other (sym same ∙ here))) ∙ of_pass-other n m rest other (All-tail (λ (x : I). number x ≡ n) e rest h)

append-eq-nil : {I : Type 0} (xs ys : List I) → xs ++ ys ≡ [] → xs ≡ []
append-eq-nil [] ys e = refl
append-eq-nil (x ∷ xs) ys e = absurd (cc)

append-same : {I : Type 0} (xs ys : List I) → xs ≡ xs ++ ys → ys ≡ []
append-same [] ys e = sym e
append-same (x ∷ xs) ys e = append-same xs ys (cc)

module _ {I B : Type 0} where
  -- where no account has the number, each has another
  pub numbers_other : (n : ℕ) (accounts : List (Account I B)) → sum_by (λ (a : Account I B). if a.number == n then 1 else 0) accounts ≡ 0 → All (λ (a : Account I B). a.number ≢ n) accounts
  numbers_other n [] h = All-nil (λ (a : Account I B). a.number ≢ n)
  numbers_other n (a ∷ rest) h =
      let one : Account I B → ℕ = λ a. if a.number == n then 1 else 0 in
      let both = sum_by-cons one a rest in
      All-cons (λ (a : Account I B). a.number ≢ n) a rest (λ same. let this : one a ≡ 1 = one_if_same a.number n same in absurd (omega arith)) (numbers_other n rest (omega arith))

module _ {V I B : Type 0} (items : V → List I) (number : I → ℕ) (base : V → B) (origin : B) (list new : List I) (n : ℕ) (own_new : All (λ e. number e ≡ n) new) where
  -- what other passes know of the list they know of the longer one
  pub others_fit : (accounts : List (Account I B)) → All (λ (a : Account I B). a.number ≢ n) accounts → All (Fits items number base origin list) accounts → All (Fits items number base origin (list ++ new)) accounts
  others_fit accounts other fits k d inside =
      let f = fits k d inside in
      let a = get_or accounts k d in record {
        base_is = f.base_is;
        begins = (f.begins.0 ++ new, ap (λ (l : List I). l ++ new) f.begins.1 ∙ append_assoc a.seen f.begins.0 new);
        own_is = filter-append (λ e. number e == a.number) list new ∙ ap (λ (l : List I). of_pass number a.number list ++ l) (of_pass-other number n a.number new (other k d inside) own_new) ∙ append-nil (of_pass number a.number list) ∙ f.own_is;
        own_seen = f.own_seen;
      }

  -- the pass that gives it back knows it whole
  pub giver_fits : (own : List I) (moves : List (ℕ × ℕ)) → of_pass number n list ≡ own → Fits items number base origin (list ++ new) (after_give (list ++ new) (account_of n origin list own moves))
  giver_fits own moves is = let own_now = filter-append (λ e. number e == n) list new ∙ (λ i. is i ++ of_pass-own number n new own_new i) ∙ ap (λ (l : List I). own ++ l) (sym (drop-append_seam list new)) in record {
    base_is = refl;
    begins = ([], sym (append-nil (list ++ new)));
    own_is = own_now;
    own_seen = own_now;
  }

module _ {I : Type 0} (number : I → ℕ) where
  -- a number that was not drawn has no entries
  pub of_pass-undrawn : (n : ℕ) (list : List I) → All (λ e. number e < n) list → of_pass number n list ≡ []
  of_pass-undrawn n [] h = refl
  of_pass-undrawn n (e ∷ rest) h =
      let P : I → Type 0 = λ x. number x < n in
      let here : number e < n = All-head P e rest h in
      ap (λ (b : Bool). cond b (e ∷ of_pass number n rest) (of_pass number n rest)) (ne_eqb (number e) n (λ same. omega arith)) ∙ of_pass-undrawn n rest (All-tail P e rest h)

  -- where the list has none of a number, neither has a beginning of it
  pub of_pass-none_before : (n : ℕ) (list front : List I) → BeginsWith list front → of_pass number n list ≡ [] → of_pass number n front ≡ []
  of_pass-none_before n list front b none_there =
      append-eq-nil (of_pass number n front) (of_pass number n b.0) (sym (filter-append (λ e. number e == n) front b.0) ∙ ap (of_pass number n) (sym b.1) ∙ none_there)

  -- where a list has just what its beginning has of a number, so has a beginning between them
  pub of_pass-between : (n : ℕ) (list longer front own : List I) → BeginsWith list longer → BeginsWith longer front → of_pass number n list ≡ own → of_pass number n front ≡ own → of_pass number n longer ≡ own
  of_pass-between n list longer front own b b' all some_there =
      let F : List I → List I = of_pass number n in
      let split : F longer ≡ own ++ F b'.0 = ap F b'.1 ∙ filter-append (λ e. number e == n) front b'.0 ∙ ap (λ (l : List I). l ++ F b'.0) some_there in
      let whole : own ≡ own ++ (F b'.0 ++ F b.0) = sym all ∙ ap F b.1 ∙ filter-append (λ e. number e == n) longer b.0 ∙ ap (λ (l : List I). l ++ F b.0) split ∙ append_assoc own (F b'.0) (F b.0) in
      let nothing : F b'.0 ≡ [] = append-eq-nil (F b'.0) (F b.0) (append-same own (F b'.0 ++ F b.0) whole) in
      split ∙ ap (λ (l : List I). own ++ l) nothing ∙ append-nil own

  -- entries of one number behind a list change nothing for another that has none
  pub of_pass-still_none : (n m : ℕ) (list new : List I) → m ≢ n → All (λ e. number e ≡ n) new → of_pass number m list ≡ [] → of_pass number m (list ++ new) ≡ []
  of_pass-still_none n m list new other own_new none_before =
      filter-append (λ e. number e == m) list new ∙ (λ i. none_before i ++ of_pass-other number n m new other own_new i)
