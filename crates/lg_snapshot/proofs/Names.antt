-- Names that are compared.
use Rattle.std.proofs.Common.{◌≡◌, ℕ, true, List, refl}
use Rattle.std.specs.Str.{bytes_eq}
use Rattle.std.proofs.lemmas.Slice.Eq.{bytes_eq-Decides}

pub same_bytes : (name : List ℕ) → bytes_eq name name ≡ true
same_bytes name = (bytes_eq-Decides name name).1 refl

pub name_is : (found name : List ℕ) → bytes_eq found name ≡ true → found ≡ name
name_is found name same = (bytes_eq-Decides found name).0 same
