-- Texts with commas between them, one after another.
use Rattle.std.proofs.Common.{◌≡◌, ℕ, ◌+◌, List, [], ◌∷◌, ◌++◌, flat_map, length, length-append, refl, ap, arith}
use Rattle.lg_json.specs.Text.{with_commas}

-- what these texts still add, where the separator comes before the first of them
abbrev pub after_separator : List ℕ → List (List ℕ) → List ℕ
after_separator separator [] = []
after_separator separator (text ∷ texts) = separator ++ (text ++ after_separator (44 ∷ []) texts)

each_after_comma : (texts : List (List ℕ)) → flat_map (λ text. (44 ∷ []) ++ text) texts ≡ after_separator (44 ∷ []) texts
each_after_comma [] = refl
each_after_comma (text ∷ texts) = ap (λ rest. 44 ∷ (text ++ rest)) (each_after_comma texts)

pub with_commas-after : (texts : List (List ℕ)) → with_commas texts ≡ after_separator [] texts
with_commas-after [] = refl
with_commas-after (text ∷ texts) = ap (λ rest. text ++ rest) (each_after_comma texts)

-- two bytes more than the texts and the commas
pub length-enclosed : (first last : ℕ) (texts : List (List ℕ)) → length (first ∷ (with_commas texts ++ last ∷ [])) ≡ 2 + length (after_separator [] texts)
length-enclosed first last texts = omega (arith, length-append (with_commas texts) (last ∷ []), ap length (with_commas-after texts))
