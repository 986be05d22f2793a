-- What a text in a tree of pieces is.
use Rattle.std.specs.Prelude.{◌≡◌, List, [], ◌++◌, length}
use Rattle.sccs_script.specs.Drafts.{DraftLine, expand, IsPiece}
use Rattle.sccs_script.specs.declared.trees.Node.{Node}
use Rattle.sccs_script.specs.declared.trees.Node.TheVariants.{Leaf, Fork}

-- the entries of a node, in order
abbrev pub tree_lines : Node → List DraftLine
tree_lines Leaf = []
tree_lines (Fork f) = f.value.left ++ (expand f.value.piece ++ f.value.right)

-- the piece is one, and the lines are counted
abbrev pub IsTree : Node → Type 0
IsTree Leaf = Unit {0}
IsTree (Fork f) = IsPiece f.value.piece
    × (f.value.lines ≡ length (f.value.left ++ (expand f.value.piece ++ f.value.right)))
