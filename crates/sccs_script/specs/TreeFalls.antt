-- Each side of a tree has fewer entries than the tree.
use Rattle.std.proofs.Common.{◌≡◌, suc, ◌-◌, ◌<◌, ◌≤◌, max, ◌++◌, length, map, sym, subst, arith, length-append}
use Rattle.sccs_script.specs.declared.trees.Node.{Node}
use Rattle.sccs_script.specs.declared.trees.Node.TheVariants.{Leaf, Fork}
use Rattle.sccs_script.specs.declared.trees.Tree.TheDeep.{deep-Node}
use Rattle.sccs_script.specs.declared.pieces.Piece.{Piece}
use Rattle.sccs_script.specs.declared.pieces.Piece.TheVariants as pieces
use Rattle.sccs_script.specs.Drafts.{expand, IsPiece, Kept, span}
use Rattle.sccs_script.specs.Trees.{tree_lines, IsTree}

-- a piece has an entry
some_entry : (p : Piece) → IsPiece p → 0 < length (expand p)
some_entry (pieces.Kept first last) fits =
    let more : suc last - first ≡ suc (last - first) = omega (arith, fits.1) in
    subst (λ n. 0 < length (map Kept (span first n))) (sym more) (omega arith)
some_entry (pieces.Fresh after line) fits = omega arith

pub sides_fall : (n : Node) → IsTree n → max (deep-Node n) 0 ≤ length (tree_lines n)
sides_fall Leaf fits = omega arith
sides_fall (Fork f) fits =
    omega (
      arith,
      some_entry f.value.piece fits.0,
      length-append f.value.left (expand f.value.piece ++ f.value.right),
      length-append (expand f.value.piece) f.value.right,
    )
