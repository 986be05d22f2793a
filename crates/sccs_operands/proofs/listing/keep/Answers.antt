use Rattle.std.proofs.Common.{ℕ, List, ◌&&◌, ◌||◌, ap, sym, ◌∙◌}
use Rattle.std.specs.List.{list_any}
use Rattle.std.specs.Str.{bytes_eq}
use Rattle.sccs_base.specs.NameSets.{names_in}
use Rattle.sccs_operands.proofs.listing.keep.Goals as goal

pub returns : goal.returns
returns c = λ n. c.in_ok-insert_name.ensures.more n
    ∙ (ap (λ (l : List ℕ). bytes_eq n l || list_any (bytes_eq n) (names_in c.args.kept.now)) c.bytes.ensures.value
    ∙ ap (λ b. b && bytes_eq n c.args.name.now || list_any (bytes_eq n) (names_in c.args.kept.now))
    (sym (sym c.is_sfile.ensures.value ∙ c.if-not-is_sfile.false)))
