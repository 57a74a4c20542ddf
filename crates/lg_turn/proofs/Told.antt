-- What passes found of the roll stays true.
use Rattle.std.proofs.Common.{◌≡◌, ℕ, zero, suc, ◌-◌, ◌<◌, ◌≤◌, List, [], ◌∷◌, ◌++◌, ⊎_elim, map, set, arith, sym, subst, ◌⊎◌, inl, inr}
use mathlib.Core.Option.{some-ne-none, some-injective}
use Rattle.std.specs.List.{All}
use Rattle.std.proofs.lemmas.List.Elements.{All-nil, All-cons, All-map, All-weaker}
use Rattle.lg_turn.specs.declared.view.Account.{Account}
use Rattle.lg_turn.specs.declared.view.View.{View}
use Rattle.lg_turn.specs.Views.{drawn_in, out_in, Precedes, EachWord}
use Rattle.lg_turn.specs.Rule.{EachFound, Told}
use Rattle.lg_turn.specs.Steps.{moved}
use Rattle.atomic_table.proofs.Lists.{at_snoc}
use Rattle.lg_turn.proofs.Sums.{each_set}

-- the order of words, by their halves
pub precedes_by : (word later up low up' low' : ℕ) → drawn_in word ≡ up → out_in word ≡ low → drawn_in later ≡ up' → out_in later ≡ low' → (up' < 4294967168 → up ≤ up') → up - low ≤ up' - low' → Precedes word later
precedes_by word later up low up' low' u l u' l' numbers gone = ((λ h. let n = numbers (omega (arith, h, u')) in omega (arith, n, u, u')), omega (arith, gone, u, l, u', l'))

precedes_itself : (word : ℕ) → Precedes word word
precedes_itself word = ((λ h. omega arith), omega arith)

precedes_further : (word later last : ℕ) → Precedes word later → Precedes later last → Precedes word last
precedes_further word later last p q = ((λ h. let b = q.0 h in let a = p.0 (omega (arith, h, b)) in omega (arith, a, b)), (let a = p.1 in let b = q.1 in omega (arith, a, b)))

module _ {I B : Type 0} where
  pub each_word_weaker : (P Q : ℕ → Type 0) → ((word : ℕ) → P word → Q word) → (accounts : List (Account I B)) → EachWord P accounts → EachWord Q accounts
  each_word_weaker P Q f accounts h = All-weaker (λ (a : Account I B). All (λ (m : ℕ × ℕ). P m.0 × P m.1) a.moves) (λ (a : Account I B). All (λ (m : ℕ × ℕ). Q m.0 × Q m.1) a.moves)
      (λ a ms. All-weaker (λ (m : ℕ × ℕ). P m.0 × P m.1) (λ (m : ℕ × ℕ). Q m.0 × Q m.1) (λ m p. (f m.0 p.0, f m.1 p.1)) a.moves ms) accounts h

  pub each_found_weaker : (P Q : ℕ → Type 0) → ((word : ℕ) → P word → Q word) → (views : List (View I B)) → EachFound P views → EachFound Q views
  each_found_weaker P Q f views h i v e = each_word_weaker P Q f v.accounts (h i v e)

  each_both : (P Q R : ℕ → Type 0) → ((word : ℕ) → P word → Q word → R word) → (views : List (View I B)) → EachFound P views → EachFound Q views → EachFound R views
  each_both P Q R f views h h' i v e k d inside k' d' inside' = let p = h i v e k d inside k' d' inside' in let q = h' i v e k d inside k' d' inside' in (f _ p.0 q.0, f _ p.1 q.1)

  each_found_first : (P : ℕ → Type 0) (v : View I B) → EachWord P v.accounts → EachFound P (v ∷ [])
  each_found_first P v h zero u e = subst (λ (w : View I B). EachWord P w.accounts) (some-injective v u e) h
  each_found_first P v h (suc i) u e = absurd (some-ne-none u (sym e))

  -- where one view changes
  pub each_found_set : (P : ℕ → Type 0) (views : List (View I B)) (id : ℕ) (w : View I B) → EachFound P views → EachWord P w.accounts → EachFound P (set views id w)
  each_found_set P views id w h mine = each_set (λ j (u : View I B). EachWord P u.accounts) views id w mine (λ j u _ e. h j u e)

  -- where one view comes behind
  pub each_found_push : (P : ℕ → Type 0) (views : List (View I B)) (w : View I B) → EachFound P views → EachWord P w.accounts → EachFound P (views ++ w ∷ [])
  each_found_push P views w h mine i u e = ⊎_elim (λ there. h i u there) (λ is. subst (λ (x : View I B). EachWord P x.accounts) is mine) (at_snoc views w u i e)

  -- one move more
  pub each_word_moved : (P : ℕ → Type 0) (move : ℕ × ℕ) (accounts : List (Account I B)) → P move.0 → P move.1 → EachWord P accounts → EachWord P (map (moved move) accounts)
  each_word_moved P move accounts p p' h =
      let Q : Account I B → Type 0 = λ a. All (λ (m : ℕ × ℕ). P m.0 × P m.1) a.moves in
      All-map Q (moved move) accounts (All-weaker Q (λ (a : Account I B). Q (moved move a)) (λ a q. All-cons (λ (m : ℕ × ℕ). P m.0 × P m.1) move a.moves (p, p') q) accounts h)

  -- the same moves
  pub each_word_same : (P : ℕ → Type 0) (f : Account I B → Account I B) → ((Q : List (ℕ × ℕ) → Type 0) (a : Account I B) → Q a.moves → Q (f a).moves) → (accounts : List (Account I B)) → EachWord P accounts → EachWord P (map f accounts)
  each_word_same P f same accounts h =
      let R : List (ℕ × ℕ) → Type 0 = λ moves. All (λ (m : ℕ × ℕ). P m.0 × P m.1) moves in
      All-map (λ (a : Account I B). R a.moves) f accounts (All-weaker (λ (a : Account I B). R a.moves) (λ (a : Account I B). R (f a).moves) (λ a q. same R a q) accounts h)

  pub each_word_one : (P : ℕ → Type 0) (a : Account I B) → All (λ (m : ℕ × ℕ). P m.0 × P m.1) a.moves → EachWord P (a ∷ [])
  each_word_one P a q = let Q : Account I B → Type 0 = λ a. All (λ (m : ℕ × ℕ). P m.0 × P m.1) a.moves in All-cons Q a [] q (All-nil Q)

  -- where one seat is there
  pub told_at_first : (word : ℕ) (v : View I B) → EachWord (λ earlier. (out_in earlier ≤ drawn_in earlier) × Precedes earlier word) v.accounts
      → EachWord (λ one. EachWord (λ other. Precedes one other ⊎ Precedes other one) v.accounts) v.accounts → Told word (v ∷ [])
  told_at_first word v before order =
      let In : ℕ → ℕ → Type 0 = λ one other. Precedes one other ⊎ Precedes other one in record {
        behind = each_found_first (λ earlier. (out_in earlier ≤ drawn_in earlier) × Precedes earlier word) v before;
        ordered = each_found_first (λ one. EachFound (In one) (v ∷ [])) v
            (each_word_weaker (λ one. EachWord (In one) v.accounts) (λ one. EachFound (In one) (v ∷ [])) (λ one h. each_found_first (In one) v h) v.accounts order);
      }

  -- nothing else was found of the roll
  pub told_same : (word : ℕ) (views views' : List (View I B)) → Told word views → ((P : ℕ → Type 0) → EachFound P views → EachFound P views') → Told word views'
  told_same word views views' t grown =
      let In : ℕ → ℕ → Type 0 = λ one other. Precedes one other ⊎ Precedes other one in record {
        behind = grown (λ earlier. (out_in earlier ≤ drawn_in earlier) × Precedes earlier word) t.behind;
        ordered = grown (λ one. EachFound (In one) views') (each_found_weaker (λ one. EachFound (In one) views) (λ one. EachFound (In one) views') (λ one each. grown (In one) each) views t.ordered);
      }

  -- the roll goes on, and nothing was found of it but what it was before and is now
  pub told_on : (word later : ℕ) (views views' : List (View I B)) → Told word views → out_in word ≤ drawn_in word → out_in later ≤ drawn_in later → Precedes word later
      → ((P : ℕ → Type 0) → EachFound P views → P word → P later → EachFound P views') → Told later views'
  told_on word later views views' t fit fit' next grown =
      let Before : ℕ → Type 0 = λ earlier. (out_in earlier ≤ drawn_in earlier) × Precedes earlier word in
      let In : ℕ → ℕ → Type 0 = λ one other. Precedes one other ⊎ Precedes other one in
      let Behind : ℕ → Type 0 = λ earlier. (out_in earlier ≤ drawn_in earlier) × Precedes earlier later in
      let further : (earlier : ℕ) → Before earlier → Behind earlier = λ earlier b. (b.0, precedes_further earlier word later b.1 next) in
      let of_last : EachFound (In later) views' = grown (In later) (each_found_weaker Before (In later) (λ one b. inr (further one b).1) views t.behind) (inr next) (inl (precedes_itself later)) in
      let of_word : EachFound (In word) views' = grown (In word) (each_found_weaker Before (In word) (λ one b. inr b.1) views t.behind) (inl (precedes_itself word)) (inl next) in
      record {
        behind = grown Behind (each_found_weaker Before Behind further views t.behind) (fit, next) (fit', precedes_itself later);
        ordered = grown (λ one. EachFound (In one) views')
            (each_both Before (λ one. EachFound (In one) views) (λ one. EachFound (In one) views') (λ one b each. grown (In one) each (inl b.1) (inl (further one b).1)) views t.behind t.ordered)
            of_word of_last;
      }
