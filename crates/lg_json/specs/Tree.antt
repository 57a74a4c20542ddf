-- The tree that an `Out` stands for. This project's own, after the values of RFC 8259.
use Rattle.std.specs.Prelude.{ℕ, ℤ, Bool, List, [], ◌∷◌, map}
use Rattle.lg_json.specs.declared.out.Out.{Out, fold-Out}
use Rattle.lg_json.specs.declared.out.Out.TheOpen.{Out-F}

mutual
  -- a text is the list of its bytes
  pub data Tree : Type 0 where
    null : Tree
    truth : Bool → Tree
    int : ℤ → Tree
    str : List ℕ → Tree
    list : Trees → Tree
    object : Members → Tree

  pub data Trees : Type 0 where
    no_trees : Trees
    tree : Tree → Trees → Trees

  -- each with its name, in order
  pub data Members : Type 0 where
    no_members : Members
    member : List ℕ → Tree → Members → Members

abbrev pub trees_of : List Tree → Trees
trees_of [] = no_trees
trees_of (t ∷ ts) = tree t (trees_of ts)

abbrev pub members_of : List (List ℕ × Tree) → Members
members_of [] = no_members
members_of (m ∷ ms) = member m.0 m.1 (members_of ms)

-- one level, with each part already seen as its tree
abbrev pub tree_step : Out-F Tree → Tree
tree_step Out-F.Null = null
tree_step (Out-F.Truth b) = truth b
tree_step (Out-F.Int n) = int n
tree_step (Out-F.Str text) = str text
tree_step (Out-F.List items) = list (trees_of items.items)
tree_step (Out-F.Object members) = object (members_of members.items)

abbrev pub tree_of : Out → Tree
tree_of = fold-Out Tree tree_step

abbrev pub trees_view : List Out → Trees
trees_view outs = trees_of (map tree_of outs)

abbrev pub members_view : List (List ℕ × Out) → Members
members_view ms = members_of (map (λ m. (m.0, tree_of m.1)) ms)
