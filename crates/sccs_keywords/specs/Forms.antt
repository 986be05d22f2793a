-- How get gives the lines of a version (POSIX get, -m, -n, and Identification Keywords).
use Rattle.std.specs.Prelude.{ℕ, suc, ◌==◌, Bool, true, false, ◌||◌, List, [], ◌∷◌, ◌++◌, map, Option, None, Some}
use Rattle.std.specs.Prelude.{is_some, option_map, if◌then◌else◌}
use Rattle.std.specs.List.{list_any}
use Rattle.sccs_sid.specs.Sid.{sid_text}
use Rattle.sccs_sid.specs.declared.sids.Sid.{Sid}
use Rattle.sccs_history.specs.Body.{HistoryLine}
use Rattle.sccs_history.specs.declared.headers.Record.{Record}
use Rattle.sccs_tokens.specs.Written.{ended}
use Rattle.sccs_keywords.specs.Expansion.{expanded}
use Rattle.sccs_keywords.specs.Keywords.{is_keyword, parts}
use Rattle.sccs_keywords.specs.declared.facts.Facts.{Facts}
use Rattle.sccs_keywords.specs.declared.forms.LineForm as held

-- The form of a line: the module name that stands before it (-n), whether the SID of its delta does (-m), and
-- what its keywords are replaced by, where they are.
pub record LineForm : Type 0 where
  pub module_name : Option (List ℕ)
  pub has_sids : Bool
  pub facts : Option Facts

-- a form, without where its parts lie
abbrev pub line_form : held.LineForm → LineForm
line_form form = record {
  module_name = option_map (λ name. name.now) form.module_name;
  has_sids = form.has_sids;
  facts = option_map (λ facts. facts.now) form.facts;
}

-- a text and a tab, where there is one
abbrev pub tabbed : Option (List ℕ) → List ℕ
tabbed None = []
tabbed (Some text) = text ++ 9 ∷ []

-- the SID of the record with a serial
abbrev pub sid_of_serial : List Record → ℕ → Option Sid
sid_of_serial [] serial = None
sid_of_serial (r ∷ rs) serial = if r.serial == serial then Some r.sid else sid_of_serial rs serial

-- the SID of the delta that inserted a line, where SIDs stand before lines
abbrev pub sid_before : Bool → List Record → ℕ → Option (List ℕ)
sid_before false records inserter = None
sid_before true records inserter = option_map sid_text (sid_of_serial records inserter)

-- the line with a number, its keywords replaced where they are
abbrev pub replaced_line : Option Facts → ℕ → List ℕ → List ℕ
replaced_line None number line = line
replaced_line (Some facts) number line = expanded facts number line

-- what is given for bytes that a delta inserted as a line, which is the one with this number in its text
abbrev pub formed : LineForm → List Record → ℕ → ℕ → List ℕ → List ℕ
formed form records number inserter line =
    tabbed form.module_name ++ (tabbed (sid_before form.has_sids records inserter) ++ ended
    (replaced_line form.facts number line))

abbrev pub formed_line : LineForm → List Record → ℕ → HistoryLine → List ℕ
formed_line form records number line = formed form records number line.inserter line.text

-- the text of lines, the first of which has this number
abbrev pub formed_text : LineForm → List Record → ℕ → List HistoryLine → List ℕ
formed_text form records number [] = []
formed_text form records number (line ∷ lines) = formed_line form records number line ++ formed_text form records
    (suc number) lines

-- what is given for lines that a delta inserted, the first of which has this number
abbrev pub formed_lines : LineForm → List Record → ℕ → ℕ → List (List ℕ) → List ℕ
formed_lines form records number inserter [] = []
formed_lines form records number inserter (line ∷ lines) = formed form records number inserter line
    ++ formed_lines form records (suc number) inserter lines

-- whether something stands before each line
abbrev pub has_prefix : LineForm → Bool
has_prefix form = is_some form.module_name || form.has_sids

-- whether some of these lines has a keyword
abbrev pub has_keywords : List (List ℕ) → Bool
has_keywords lines = list_any (λ line. list_any is_keyword (parts line)) lines

-- the texts of lines
abbrev pub texts : List HistoryLine → List (List ℕ)
texts lines = map (λ line. line.text) lines

-- whether a keyword is replaced, where they are and there is one or none
abbrev pub if_replaced : Option Facts → Bool → Bool
if_replaced None some = false
if_replaced (Some facts) some = some

-- the same of these lines
abbrev pub replaces_in : LineForm → List (List ℕ) → Bool
replaces_in form lines = if_replaced form.facts (has_keywords lines)

-- the form of a line that is given as it is
abbrev pub bare_form : LineForm
bare_form = record { module_name = None; has_sids = false; facts = None }

-- the form in which keywords stay
abbrev pub unreplaced : LineForm → LineForm
unreplaced form = record { module_name = form.module_name; has_sids = form.has_sids; facts = None }
