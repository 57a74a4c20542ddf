use Rattle.std.proofs.Common.{◌≡◌, ℕ, List, [], ◌∷◌, sym, ◌∙◌, ap}
use Rattle.std.proofs.lemmas.Bool.Decides.{Decides-eqb}
use Rattle.std.proofs.lemmas.Slice.Eq.{slice_eq-Decides}
use Rattle.luigid.proofs.Runs.{only_item}
use Rattle.luigid.proofs.daemon.is_line.Goals as goal

-- the only items of equal lists are equal
same_item : (x y : List ℕ) → x ∷ [] ≡ y ∷ [] → x ≡ y
same_item x y same = cc

pub returns-in-len1 : goal.returns-in-len1
returns-in-len1 c =
    let one = only_item c.args.words.now c.word-item.result c.in-len1.len_at_least c.in-len1.len_below ∙ ap (λ word. word ∷ []) (sym c.word-item.is ∙ sym c.bytes.ensures) in
    let tells = slice_eq-Decides Decides-eqb _ _ _ c.eq.ensures in
    ((λ yes. one ∙ ap (λ word. word ∷ []) (tells.0 yes)), (λ same. tells.1 (same_item _ _ (sym one ∙ same))))
