-- A header that has its table can be followed to a whole one.
use Rattle.std.proofs.Common.{◌≡◌, ℕ, suc, Bool, true, false, not, List, [], ◌∷◌, Some, Ok, refl, ap, ◌∙◌}
use Rattle.sccs_history.specs.Numbers.{is_empty}
use Rattle.sccs_tokens.specs.Tokens.{token}
use Rattle.sccs_tokens.specs.Written.{end_line, mark}
use Rattle.sccs_grammar.specs.Entries.{with_entry}
use Rattle.sccs_grammar.specs.Front.{after, front_from, header_of, is_whole, line_after, parser_at, ends_table, if_fits}
use Rattle.sccs_grammar.specs.declared.header_parsers.HeaderParser.{HeaderParser}
use Rattle.sccs_grammar.specs.declared.header_parsers.PartialHeader.{PartialHeader}
use Rattle.sccs_grammar.specs.declared.header_parsers.HeaderState.{HeaderState}
use Rattle.sccs_grammar.specs.declared.header_parsers.TableEntry.{TableEntry}
use Rattle.sccs_grammar.specs.declared.header_parsers.HeaderState.TheVariants.{AtEntry, AtDelta, InLists, InTexts}
use Rattle.sccs_grammar.specs.declared.header_parsers.HeaderState.TheVariants.{InUsers, InFlags, InDescription, AtBody}
use Rattle.sccs_tokens.specs.declared.line_tokens.LineToken.{LineToken}
use Rattle.sccs_tokens.specs.declared.line_tokens.LineToken.TheVariants.{EndEntry, Users, EndUsers, Description}
use Rattle.sccs_tokens.specs.declared.line_tokens.LineToken.TheVariants.{EndDescription}
use Rattle.sccs_grammar.proofs.SectionLaws.{token_end_entry}
use Rattle.sccs_grammar.proofs.HeaderLaws.{token_users, token_end_users, token_description, token_end_description}
use Rattle.sccs_grammar_laws.specs.ViablePrefixes.{IsViable, HeaderCompletion, KeepsAll}
use Rattle.sccs_grammar_laws.proofs.TokenLists.{tokenizing}

-- ---- one line

read_on : (n : ℕ) (r next : HeaderParser) (line : List ℕ) (lines : List (List ℕ)) → line_after n r line ≡ Ok next
    → is_whole next.state ≡ false → front_from n r (line ∷ lines) ≡ front_from (suc n) next lines
unfolding front_from
read_on n r next line lines is whole = rw (is, whole) refl

read_last : (n : ℕ) (r next : HeaderParser) (line : List ℕ) → line_after n r line ≡ Ok next → is_whole next.state ≡ true
    → front_from n r (line ∷ []) ≡ Ok (record { header = header_of next; line = suc n; rest = [] })
unfolding front_from
read_last n r next line is whole = rw (is, whole) refl

-- a line that is token here, before lines that complete what is read with it
before_others : (n : ℕ) (r next : HeaderParser) (line : List ℕ) (s : LineToken) → token line ≡ Some s
    → after n r.parts r.state s ≡ Ok next → is_whole next.state ≡ false → HeaderCompletion (suc n) next
    → HeaderCompletion n r
before_others n r next line s is reads whole e = record {
  more = line ∷ e.more;
  read = e.read;
  whole = read_on n r next line e.more (tokenizing n r line s is ∙ reads) whole ∙ e.whole;
}

-- ---- each place

in_description : (n : ℕ) (parts : PartialHeader) → HeaderCompletion n (parser_at InDescription parts)
in_description n parts = record {
  more = mark 84 ∷ [];
  read = record { header = header_of (parser_at AtBody parts); line = suc n; rest = [] };
  whole = read_last n (parser_at InDescription parts) (parser_at AtBody parts) (mark 84)
      (tokenizing n (parser_at InDescription parts) (mark 84) EndDescription token_end_description) refl;
}

in_flags : (n : ℕ) (parts : PartialHeader) → HeaderCompletion n (parser_at InFlags parts)
in_flags n parts = before_others n (parser_at InFlags parts) (parser_at InDescription parts) (mark 116) Description
    token_description refl refl (in_description (suc n) parts)

in_users : (n : ℕ) (parts : PartialHeader) → HeaderCompletion n (parser_at InUsers parts)
in_users n parts = before_others n (parser_at InUsers parts) (parser_at InFlags parts)
    (mark 85) EndUsers token_end_users refl refl (in_flags (suc n) parts)

fits : (some : Bool) (n : ℕ) (r : HeaderParser) → some ≡ false → if_fits (not some) n r ≡ Ok r
fits true n r is = absurd cc
fits false n r is = refl

table_ends : (n : ℕ) (parts : PartialHeader) → KeepsAll parts.table → after n parts AtEntry Users ≡ Ok
    (parser_at InUsers parts)
table_ends n parts keeps = ap (ends_table n parts) keeps.1 ∙ fits (is_empty parts.table.records) n
    (parser_at InUsers parts) keeps.0

at_entry : (n : ℕ) (parts : PartialHeader) → KeepsAll parts.table → HeaderCompletion n (parser_at AtEntry parts)
at_entry n parts keeps = before_others n (parser_at AtEntry parts) (parser_at InUsers parts)
    (mark 117) Users token_users (table_ends n parts keeps) refl (in_users (suc n) parts)

-- the parts with one more entry
abbrev more_entries : PartialHeader → TableEntry → PartialHeader
more_entries parts e = record parts { table = with_entry parts.table e }

ends_at : (n : ℕ) (state : HeaderState) (parts : PartialHeader) → IsViable (parser_at state parts)
    → HeaderCompletion n (parser_at state parts)
ends_at n AtEntry parts can = at_entry n parts can
ends_at n (AtDelta i d u) parts can = absurd can
ends_at n (InLists e seen) parts can = before_others n (parser_at (InLists e seen) parts)
    (parser_at AtEntry (more_entries parts e)) end_line EndEntry token_end_entry refl refl
    (at_entry (suc n) (more_entries parts e) can)
ends_at n (InTexts e) parts can = before_others n (parser_at (InTexts e) parts)
    (parser_at AtEntry (more_entries parts e)) end_line EndEntry token_end_entry refl refl
    (at_entry (suc n) (more_entries parts e) can)
ends_at n InUsers parts can = in_users n parts
ends_at n InFlags parts can = in_flags n parts
ends_at n InDescription parts can = in_description n parts
ends_at n AtBody parts can = absurd can

pub header_ends : (n : ℕ) (r : HeaderParser) → IsViable r → HeaderCompletion n r
header_ends n r can = ends_at n r.state r.parts can
