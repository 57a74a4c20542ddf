-- What memory holds of a tree. This project's own.
use Rattle.std.specs.Prelude.{ℤ, pos, negsuc, ◌<◌, ◌^◌, IsUtf8}
use Rattle.lg_json.specs.Tree.{Tree, null, truth, int, str, list, object, Trees, no_trees, tree, Members, no_members, member}

-- a number has 64 bits, with a sign or without: it is from -2^63 to 2^64 - 1
abbrev pub IsHeldNumber : ℤ → Type 0
IsHeldNumber (pos n) = n < 2 ^ 64
IsHeldNumber (negsuc n) = n < 2 ^ 63

-- each text and each name is UTF-8, and each number has 64 bits
abbrev mutual
  pub IsHeld : Tree → Type 0
  IsHeld null = Unit {0}
  IsHeld (truth b) = Unit {0}
  IsHeld (int n) = IsHeldNumber n
  IsHeld (str text) = IsUtf8 text
  IsHeld (list ts) = AreHeld ts
  IsHeld (object ms) = MembersAreHeld ms

  pub AreHeld : Trees → Type 0
  AreHeld no_trees = Unit {0}
  AreHeld (tree t ts) = IsHeld t × AreHeld ts

  pub MembersAreHeld : Members → Type 0
  MembersAreHeld no_members = Unit {0}
  MembersAreHeld (member name t ms) = IsUtf8 name × IsHeld t × MembersAreHeld ms
