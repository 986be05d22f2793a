-- Entries that were read, and those that are still to be.
use Rattle.std.proofs.Common.{◌≡◌, ℕ, List, [], ◌∷◌, ◌++◌, Some, Result, Ok, Err, refl, sym, ap, subst, ◌∙◌, arith}
use Rattle.std.proofs.Common.{append_assoc, append-nil}
use Rattle.std.specs.List.{All}
use Rattle.std.proofs.lemmas.List.Elements.{All-push}
use Rattle.sccs_base.specs.Cut.{cut}
use Rattle.sccs_pfile.specs.Entries.{IsEdit}
use Rattle.sccs_pfile.specs.Reading.{edits_of, entries_at, edits_with_entry}
use Rattle.sccs_pfile.specs.declared.entries.Edit.{Edit}

abbrev pub behind_edits : List Edit → Result (List Edit) ℕ → Result (List Edit) ℕ
behind_edits before (Ok more) = Ok (before ++ more)
behind_edits before (Err line) = Err line

pub none_before : (read : Result (List Edit) ℕ) → behind_edits [] read ≡ read
none_before (Ok more) = refl
none_before (Err line) = refl

pub one_before : (before : List Edit) (e : Edit) (number : ℕ) (read : Result (List Edit) ℕ)
    → behind_edits before (edits_with_entry number (Some e) read) ≡ behind_edits (before ++ e ∷ []) read
one_before before e number (Ok more) = ap Ok (sym (append_assoc before (e ∷ []) more))
one_before before e number (Err line) = refl

-- nothing is left
pub all_read : (before : List Edit) (number : ℕ) (rest : List ℕ) (all : Result (List Edit) ℕ) → rest ≡ []
    → behind_edits before (entries_at number rest) ≡ all → all ≡ Ok before
unfolding cut
all_read before number rest all none is = sym is ∙ (ap (λ l. behind_edits before (entries_at number l)) none
    ∙ ap Ok (append-nil before))

pub valid_push : (before now : List Edit) (e : Edit) → now ≡ before ++ e ∷ [] → All IsEdit before → IsEdit e
    → All IsEdit now
valid_push before now e is valid here = subst (All IsEdit) (sym is) (All-push IsEdit before e valid here)

pub valid_none : (now : List Edit) → now ≡ [] → All IsEdit now
valid_none now none = subst (All IsEdit) (sym none) (λ k d low. absurd (omega arith))

pub starts : (edits : List Edit) (bytes : List ℕ) → edits ≡ [] → behind_edits edits (entries_at 1 bytes)
    ≡ edits_of bytes
unfolding edits_of
starts edits bytes none = ap (λ l. behind_edits l (entries_at 1 bytes)) none ∙ none_before (entries_at 1 bytes)
