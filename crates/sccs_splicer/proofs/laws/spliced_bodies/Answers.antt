use Rattle.std.proofs.Common.{false, ◌≡◌, false, [], Ok, length, refl, sym, subst, arith}
use Rattle.sccs_base.specs.Cut.{HasNoLf}
use Rattle.sccs_sid.specs.SidLists.{begins}
use Rattle.sccs_tokens.specs.Written.{HasLines, IsItem}
use Rattle.sccs_grammar.proofs.CanonicalLaws.{canonical_again}
use Rattle.sccs_history.specs.Body.{GoesOn, lines_of}
use Rattle.sccs_history.specs.Select.{select}
use Rattle.sccs_script_laws.specs.Places.{places, told_behind}
use Rattle.sccs_script_laws.specs.Plans.{plan}
use Rattle.sccs_script_laws.proofs.Rules.{rules_spliced}
use Rattle.sccs_splicer.specs.Splices.{new_splice}
use Rattle.sccs_splicer.proofs.PlacedLines.{placed_all}
use Rattle.sccs_splicer.proofs.Pushes.{shown_lines, splices_end}
use Rattle.sccs_splicer.proofs.laws.spliced_bodies.Goals as goal

pub returns : goal.returns
returns c = record {
  whole = λ items set orders n s w w2 w3 a b c f g h pushed last.
      splices_end (told_behind set [] items) (new_splice n (plan orders (length (select set (lines_of items))))) s w w2
      w3 a b c f g h (Ok tt) (Ok tt) tt refl pushed last;
  line = λ items set orders n s w w2 a b f g pushed. omega (arith, pushed.goes.line, shown_lines set [] items);
  reads = λ header live items set orders n keeps spelled lives some few high each lines new goes.
      canonical_again header (places items set orders n) keeps spelled
      (placed_all (λ text. (begins 1 text ≡ false) × HasNoLf text) IsItem n (λ text has. has.0) (some, few) (some, few)
      (some, few) items set orders (length (select set (lines_of items))) each new)
      (placed_all (λ text. (begins 1 text ≡ false) × HasNoLf text) HasLines n (λ text has. has.1) tt tt tt items set
      orders (length (select set (lines_of items))) lines new)
      (subst (λ l. GoesOn l [] (places items set orders n)) (sym lives) (rules_spliced live set n
      (plan orders (length (select set (lines_of items)))) items high goes));
}
