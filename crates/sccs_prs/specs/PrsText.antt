-- The text of prs (POSIX prs, STDOUT).
use Rattle.std.specs.Prelude.{ℕ, Bool, List, [], ◌∷◌, ◌++◌, map, flat_map, codes, Option, None, Some, is_some}
use Rattle.std.specs.Prelude.{if◌then◌else◌}
use Rattle.sccs_history.specs.Applied.{version}
use Rattle.sccs_history.specs.Body.{lines_of}
use Rattle.sccs_history.specs.declared.headers.Header.{Header}
use Rattle.sccs_history.specs.declared.headers.Item.{Item}
use Rattle.sccs_history.specs.declared.headers.Record.{Record}
use Rattle.sccs_tokens.specs.Written.{bytes_of, ended, item_line}
use Rattle.sccs_prs.specs.DataKeywords.{data_parts}
use Rattle.sccs_prs.specs.Values.{delta_facts, item_text}
use Rattle.sccs_prs.specs.declared.keywords.Part.{Part}
use Rattle.sccs_prs.specs.declared.keywords.Part.TheVariants.{Plain, Body, Text}
use Rattle.sccs_prs.specs.declared.keywords.Part.TheVariants as part
use Rattle.sccs_words.specs.declared.commands.PrsWords.{PrsWords}
use Rattle.sccs_prs.specs.Chosen.{comes}
use Rattle.sccs_prs.specs.declared.choices.Chosen.{Chosen}

-- An s-file that is shown: its header and items, its name, and the path of its folder.
pub record ShownFile : Type 0 where
  pub header : Header
  pub items : List Item
  pub name : List ℕ
  pub place : List ℕ

-- the body as it is written
abbrev pub body_text : List Item → List ℕ
body_text items = bytes_of (map item_line items)

-- the text of a delta, in which no keyword is replaced; a removed one has none
abbrev pub delta_lines : ShownFile → Record → List ℕ
delta_lines s r = if r.removed then [] else bytes_of (version r.serial s.header.records (lines_of s.items))

-- what a part of a specification stands for where a delta is shown
abbrev pub data_text : ShownFile → Record → Part → List ℕ
data_text s r (Plain byte) = byte ∷ []
data_text s r (part.Item item) = item_text s.header (delta_facts s.header s.name s.place r) r item
data_text s r Body = body_text s.items
data_text s r Text = delta_lines s r

-- what parts stand for
abbrev pub parts_text : List Part → ShownFile → Record → List ℕ
parts_text ps s r = flat_map (data_text s r) ps

-- the texts of the deltas that come, each with an LF behind it
abbrev pub shown_text : Bool → Chosen → List Part → ShownFile → Record → List ℕ
shown_text all chosen ps s r = if comes all chosen r then ended (parts_text ps s r) else []

abbrev pub deltas_text : Bool → Chosen → List Part → ShownFile → List Record → List ℕ
deltas_text all chosen ps s records = flat_map (shown_text all chosen ps s) records

-- the specification without -d
abbrev pub default_spec : List ℕ
default_spec = codes ":Dt:\\t:DL:\\nMRs:\\n:MR:COMMENTS:\\n:C:"

abbrev pub data_spec : Option (List ℕ) → List ℕ
data_spec None = default_spec
data_spec (Some spec) = spec

-- without -d the name comes first, and an empty line
abbrev pub name_text : PrsWords → List ℕ → List ℕ
name_text words n = if is_some words.spec then [] else n ++ (58 ∷ 10 ∷ 10 ∷ [])

-- all that prs prints of an s-file
abbrev pub report_text : PrsWords → Chosen → ShownFile → List ℕ
report_text words chosen s = name_text words s.name ++ deltas_text words.all chosen (data_parts (data_spec words.spec))
    s s.header.records
