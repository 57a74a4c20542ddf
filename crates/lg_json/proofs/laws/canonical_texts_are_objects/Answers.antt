use Rattle.std.proofs.Common.{◌≡◌, ℕ, List, [], ◌∷◌, map, refl, ap}
use Rattle.lg_json.specs.Canonical.{pair_text}
use Rattle.lg_json.specs.Text.{braced, member_texts_of}
use Rattle.lg_json.specs.Tree.{str, members_of}
use Rattle.lg_json.proofs.laws.canonical_texts_are_objects.Goals as goal

same_texts : (pairs : List (List ℕ × List ℕ)) → map pair_text pairs ≡ member_texts_of (members_of (map (λ pair. (pair.0, str pair.1)) pairs))
same_texts [] = refl
same_texts (pair ∷ pairs) = ap (λ texts. pair_text pair ∷ texts) (same_texts pairs)

pub returns : goal.returns
returns c pairs = ap braced (same_texts pairs)
