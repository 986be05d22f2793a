-- Entries whose delta was made leave the p-file, where the new table has the SID of one entry more. These are the
-- lemmas of sccs_pfile on the entry that a delta takes, with a premise on the SIDs of the entries alone.
use Rattle.std.proofs.Common.{◌≡◌, ℕ, true, false, not, ◌||◌, List, [], ◌∷◌, Some, Ok, refl, ap, subst, ◌∙◌}
use Rattle.std.specs.Prelude.{remove, slice_get}
use Rattle.std.specs.List.{AllByRecursion}
use Rattle.sccs_disk.specs.Files.{Content}
use Rattle.sccs_history.specs.History.{lives, same_sid}
use Rattle.sccs_history.specs.declared.headers.Record.{Record}
use Rattle.sccs_pfile.specs.Agreement.{Agrees, agrees}
use Rattle.sccs_pfile.specs.Entries.{IsEdit}
use Rattle.sccs_pfile.specs.Reading.{edits_of}
use Rattle.sccs_pfile.specs.Recovered.{is_done, pfile_of, recovered_pfile, table_of, without_done}
use Rattle.sccs_pfile.specs.declared.entries.Edit.{Edit}
use Rattle.sccs_pfile.proofs.Recovering.{left_stays, same_self, one_out, any_at, all_at, filter_same, one_maker}
use Rattle.sccs_changes.proofs.StopLaws.{agreeing_undone}
use Rattle.sccs_base.proofs.Bools.{or_none}

-- ---- one entry is taken out

-- ---- the entry whose delta was made leaves

-- of the SIDs that entries are to make the new table has that of one entry more
abbrev pub HasMade : List Record → List Record → Edit → List Edit → Type 0
HasMade old new e edits = AllByRecursion (λ x. lives new x.made ≡ (same_sid e.made x.made || lives old x.made)) edits

lives_as : (old new : List Record) (e : Edit) (edits : List Edit) → HasMade old new e edits
    → AllByRecursion (λ x. is_done old x ≡ false) edits
    → AllByRecursion (λ x. not (is_done new x) ≡ not (same_sid e.made x.made)) edits
lives_as old new e [] more are = tt
lives_as old new e (x ∷ edits) more are = (
  ap not (more.0 ∙ (ap (λ b. same_sid e.made x.made || b) are.0 ∙ or_none (same_sid e.made x.made))),
  lives_as old new e edits more.1 are.1,
)

pub left_entries : (old new : List Record) (edits : List Edit) (k : ℕ) (e : Edit) → Agrees old edits
    → slice_get edits k ≡ Some e → HasMade old new e edits → without_done new edits ≡ remove edits k
left_entries old new edits k e agree at more =
    filter_same (λ x. not (is_done new x)) (λ x. not (same_sid e.made x.made)) edits (lives_as old new e edits more
    (agreeing_undone old edits edits agree))
    ∙ one_out (λ x. same_sid e.made x.made) edits k e at (same_self e.made)
    (one_maker old edits e (all_at (λ x. agrees old edits x ≡ true) edits k e agree at))

is_made : (old new : List Record) (edits : List Edit) (k : ℕ) (e : Edit) → slice_get edits k ≡ Some e
    → HasMade old new e edits → is_done new e ≡ true
is_made old new edits k e at more = all_at (λ x. lives new x.made ≡ (same_sid e.made x.made || lives old x.made)) edits
    k e more at ∙ rw (same_self e.made) refl

-- recovery takes this entry out and no other
pub entry_goes : (s p : Content) (old new : List Record) (edits : List Edit) (k : ℕ) (e : Edit)
    → table_of s.bytes ≡ Some new → edits_of p.bytes ≡ Ok edits → Agrees old edits → slice_get edits k ≡ Some e
    → HasMade old new e edits
    → recovered_pfile (Some s) (Some p) ≡ pfile_of (remove edits k)
entry_goes s p old new edits k e table read agree at more =
    rw (table, read, any_at (is_done new) edits k e at (is_made old new edits k e at more))
    (ap pfile_of (left_entries old new edits k e agree at more))

-- and what is left stays
pub rest_stays : (s : Content) (old new : List Record) (edits : List Edit) (k : ℕ) (e : Edit)
    → table_of s.bytes ≡ Some new → AllByRecursion IsEdit edits → Agrees old edits → slice_get edits k ≡ Some e
    → HasMade old new e edits
    → recovered_pfile (Some s) (pfile_of (remove edits k)) ≡ pfile_of (remove edits k)
rest_stays s old new edits k e table valid agree at more =
    subst (λ (l : List Edit). recovered_pfile (Some s) (pfile_of l) ≡ pfile_of l)
    (left_entries old new edits k e agree at more) (left_stays s new edits table valid)
