-- Names, by their first byte.
use Rattle.std.proofs.Common.{◌≡◌, ℕ, false, List, [], ◌∷◌, length, refl, sym, ◌∙◌}
use Rattle.std.specs.Prelude.{◌&&◌}
use Rattle.std.specs.Char.{is_ascii_alphabetic}
use Rattle.std.specs.List.{list_all}
use Rattle.lg_declare.specs.Keys.{is_name, is_name_byte}

pub named : (text bytes : List ℕ) (first : ℕ) (others : List ℕ) → bytes ≡ text → bytes ≡ first ∷ others
    → is_name text ≡ (is_ascii_alphabetic first && list_all is_name_byte others)
unfolding is_name
named text bytes first others same is = rw (sym same ∙ is) refl

pub unnamed : (text bytes : List ℕ) → bytes ≡ text → length bytes ≡ 0 → is_name text ≡ false
unfolding is_name
unnamed text [] same none = rw (sym same) refl
unnamed text (b ∷ bytes) same none = absurd (cc)
