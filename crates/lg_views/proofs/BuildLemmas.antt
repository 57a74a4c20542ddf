-- Lists and objects that are built one value after another.
use Rattle.std.proofs.Common.{◌≡◌, ℕ, ◌+◌, ◌<◌, ◌^◌, List, [], ◌∷◌, ◌++◌, Option, Some, None, map, take, length, get_or, refl, sym, ap, ◌∙◌, subst, append_assoc, arith}
use Rattle.std.specs.Option.{ForSome, option_copied}
use Rattle.std.specs.Prelude.{All}
use Rattle.std.specs.Borrow.{Bor}
use Rattle.std.proofs.lemmas.List.{map_more, map_push}
use Rattle.lg_json.specs.Tree.{Tree, tree_of}
use Rattle.lg_json.specs.declared.out.Out.{Out}
use Rattle.lg_base.specs.declared.moment.Moment.{Moment}
use Rattle.lg_calls.specs.Valid.{NotLater}
use Rattle.lg_views.specs.Listed.{last_moment}
use Rattle.lg_calls.specs.Views.Trees.{Fields, maybe}

-- what holds of each element holds of the one at hand
pub holds_here : {A : Type 0} (P : A → Type 0) (items : List A) (i : ℕ) (item : A) → i < length items → item ≡ get_or items i item → All P items → P item
holds_here P items i item within is all = subst P (sym is) (all i item within)

-- one value more is built
pub built_more : {A B : Type 0} (f : A → B) (old new : List B) (items : List A) (i : ℕ) (item : A) → i < length items → item ≡ get_or items i item
    → old ≡ map f (take i items) → new ≡ old ++ f item ∷ [] → new ≡ map f (take (i + 1) items)
built_more f old new items i item within is so_far grown =
    grown ∙ (ap (λ list. list ++ f item ∷ []) so_far ∙ (ap (λ x. map f (take i items) ++ f x ∷ []) is ∙ sym (map_more f items i item within)))

-- an out is pushed behind others
pub pushed : (t : Tree) (outs new : List Out) (out : Out) → new ≡ outs ++ out ∷ [] → tree_of out ≡ t → map tree_of new ≡ map tree_of outs ++ t ∷ []
pushed t outs new out grown shown = ap (map tree_of) grown ∙ (map_push tree_of outs out ∙ ap (λ x. map tree_of outs ++ x ∷ []) shown)

-- a field, and others behind it
pub put_step : (old mid new fields : Fields) (name : List ℕ) (t : Tree) → mid ≡ old ++ (name, t) ∷ [] → new ≡ mid ++ fields → new ≡ old ++ (name, t) ∷ fields
put_step old mid new fields name t first next = next ∙ (ap (λ (f : Fields). f ++ fields) first ∙ append_assoc old ((name, t) ∷ []) fields)

-- the same of a field whose tree has another name
pub put_step_as : (old mid new fields : Fields) (name : List ℕ) (s t : Tree) → s ≡ t → mid ≡ old ++ (name, s) ∷ [] → new ≡ mid ++ fields → new ≡ old ++ (name, t) ∷ fields
put_step_as old mid new fields name s t same first next =
    put_step old mid new fields name t (first ∙ ap (λ (tree : Tree). old ++ (name, tree) ∷ []) same) next

-- what is lent stands for what it is
pub maybe-lent : {A : Type 0} (tree : A → Tree) (lent : Option (Bor A)) → maybe (λ x. tree x.now) lent ≡ maybe tree (option_copied lent)
maybe-lent tree None = refl
maybe-lent tree (Some x) = refl

-- two parts, one behind the other
pub two_parts : (a b c one two : Fields) → a ≡ [] → b ≡ a ++ one → c ≡ b ++ two → c ≡ one ++ two
two_parts a b c one two none first second =
    second ∙ ap (λ (f : Fields). f ++ two) (first ∙ ap (λ (f : Fields). f ++ one) none)

-- three parts, one behind another
pub three_parts : (a b c d one two three : Fields) → a ≡ [] → b ≡ a ++ one → c ≡ b ++ two → d ≡ c ++ three → d ≡ one ++ (two ++ three)
three_parts a b c d one two three none first second third =
    third
    ∙ (ap (λ (f : Fields). f ++ three) (second ∙ ap (λ (f : Fields). f ++ two) (first ∙ ap (λ (f : Fields). f ++ one) none))
    ∙ append_assoc one two three)

-- a moment that isn't later than the last one fits
pub moment_fits : (when : Option Moment) → NotLater when last_moment → ForSome when (λ moment. moment.0 < 2 ^ 63)
moment_fits None holds moment e = cc
moment_fits (Some when) holds moment e = let same : when ≡ moment = cc in omega (arith, holds, ap (λ (m : Moment). m.0) same)

-- fields that were put behind none
pub all_put : (old new fields : Fields) → old ≡ [] → new ≡ old ++ fields → new ≡ fields
all_put old new fields none put = put ∙ ap (λ (f : Fields). f ++ fields) none
