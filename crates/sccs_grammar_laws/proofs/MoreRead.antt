-- What is read of a header's parts, with one line or several more.
use Rattle.std.proofs.Common.{◌≡◌, ℕ, List, [], ◌∷◌, ◌++◌, sym, ap, ◌∙◌, append-nil, append_assoc}
use Rattle.sccs_history.specs.declared.headers.Record.{Record}
use Rattle.sccs_grammar.specs.Entries.{with_entry}
use Rattle.sccs_grammar.specs.declared.header_parsers.PartialHeader.{PartialHeader}
use Rattle.sccs_tokens.specs.declared.line_tokens.LineToken.{LineToken}
use Rattle.sccs_grammar_laws.specs.HeaderLines.{EntryText, mrs_in, comments_in}

-- a record with MRs and comments more
abbrev pub text_row : Record → List EntryText → Record
text_row r texts = record r { mrs = r.mrs ++ mrs_in texts; comments = r.comments ++ comments_in texts }

-- the parts with a record more, whose delta line has this number
abbrev pub more : PartialHeader → ℕ → Record → PartialHeader
more parts line r = record parts { table = with_entry parts.table (record { line = line; row = r }) }

pub no_texts : (r : Record) → r ≡ text_row r []
no_texts r =
    ap (λ (ms : List (List ℕ)). record r { mrs = ms }) (sym (append-nil r.mrs))
    ∙ ap (λ (cs : List (List ℕ)). record r { mrs = r.mrs ++ []; comments = cs }) (sym (append-nil r.comments))

pub regroup : (a b c : List LineToken) (x : LineToken) → (a ++ (b ++ (x ∷ []))) ++ c ≡ a ++ (b ++ (x ∷ c))
regroup a b c x = append_assoc a (b ++ (x ∷ [])) c ∙ ap (λ (os : List LineToken). a ++ os) (append_assoc b (x ∷ []) c)
