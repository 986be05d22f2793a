use Rattle.std.proofs.Common.{ℕ, Bool, List, not, ap, ◌∙◌}
use Rattle.std.specs.BTreeSet.{contains_by}
use Rattle.std.specs.Cmp.Lexicographic.{slice_cmp}
use Rattle.std.specs.Global.{Vec}
use Rattle.std.specs.Ordering.{nat_cmp}
use Rattle.sccs_base.proofs.Inserting.{found, name_more}
use Rattle.sccs_base.proofs.sets.insert_name.Goals as goal

pub returns-clause-more : goal.returns-clause-more
returns-clause-more c = λ n. name_more n c.args.name.now c.in_ok-bytes.bytes c.args.names.now c.insert.new.self
    (c.in_ok-bytes.ensures.items_if_clones_equal (λ x y same. same)) c.in_ok-fresh.ensures.keys

pub returns-clause-fresh : goal.returns-clause-fresh
returns-clause-fresh c =
    c.in_ok-fresh.ensures.added
    ∙ (ap (λ (name : List ℕ). not (contains_by (λ (k : Vec ℕ). slice_cmp nat_cmp name k.items) c.args.names.now))
    (c.in_ok-bytes.ensures.items_if_clones_equal (λ x y same. same))
    ∙ ap (λ (b : Bool). not b) (found c.args.name.now c.args.names.now))
