-- The texts of pairs, one after another.
use Rattle.std.proofs.Common.{◌≡◌, ℕ, ◌+◌, ◌<◌, suc, List, [], ◌∷◌, ◌++◌, map, take, drop, get_or, length, Result, Ok, Err, sym, ap, ◌∙◌, add-one, append_assoc}
use Rattle.std.proofs.Math.Seq.{take-suc}
use Rattle.std.proofs.lemmas.List.{drop_more}
use Rattle.std.proofs.lemmas.List.Elements.{All-push}
use Rattle.std.specs.Prelude.{IsUtf8, OnOk}
use Rattle.lg_json.specs.Canonical.{pair_text, AreTexts}
use Rattle.lg_json.proofs.Commas.{after_separator}

-- the text of the pair at hand comes next, behind the separator
pub next_pair : (separator end : List ℕ) (pairs : List (List ℕ × List ℕ)) (i : ℕ) (pair : List ℕ × List ℕ) → i < length pairs → pair ≡ get_or pairs i pair
    → after_separator separator (map pair_text (drop i pairs)) ++ end ≡ separator ++ (pair_text pair ++ (after_separator (44 ∷ []) (map pair_text (drop (i + 1) pairs)) ++ end))
next_pair separator end pairs i pair within is =
    rw (drop_more pairs i pair within ∙ ap (λ y. y ∷ drop (i + 1) pairs) (sym is)) (append_assoc separator _ end ∙ ap (λ ys. separator ++ ys) (append_assoc (pair_text pair) _ end))

-- one pair of texts more
pub AreTexts-next : (pairs : List (List ℕ × List ℕ)) (i : ℕ) (pair : List ℕ × List ℕ) → i < length pairs → pair ≡ get_or pairs i pair
    → AreTexts (take i pairs) → IsUtf8 pair.0 × IsUtf8 pair.1 → AreTexts (take (i + 1) pairs)
AreTexts-next pairs i pair within is before texts =
    let grown : take (suc i) pairs ≡ take i pairs ++ pair ∷ [] = take-suc pairs i pair within ∙ ap (λ y. take i pairs ++ y ∷ []) (sym is) in
    rw (add-one i, grown) (All-push (λ (p : List ℕ × List ℕ). IsUtf8 p.0 × IsUtf8 p.1) (take i pairs) pair before texts)

-- what holds anyway holds where there is a value
pub OnOk-anyway : {T E A : Type 0} (result : Result T E) → A → OnOk result A
OnOk-anyway (Ok x) a = a
OnOk-anyway (Err e) a = tt
