-- From the uses of options to the words of a command.
use Rattle.std.specs.Prelude.{ℕ, ◌+◌, ◌==◌, Bool, true, false, ◌||◌, List, [], ◌∷◌, Option, None, Some, is_some}
use Rattle.std.specs.Prelude.{option_and_then, if◌then◌else◌}
use Rattle.sccs_base.specs.Cut.{text_of}
use Rattle.sccs_sid.specs.Reading.{is_empty}
use Rattle.sccs_sid.specs.declared.sids.Sid.{Sid}
use Rattle.sccs_words.specs.Letters as opt
use Rattle.sccs_words.specs.MrWords.{mr_words}
use Rattle.sccs_words.specs.Values.{sid_value, spec_value, moment_value, list_value, release_value, name_value}
use Rattle.sccs_words.specs.Scan.{CommandLine}
use Rattle.sccs_words.specs.Judge.{has_use, is_dash, uses_fault, operands_fault}
use Rattle.sccs_words.specs.declared.scanning.OptionArgument.{OptionArgument}
use Rattle.sccs_words.specs.declared.scanning.OptionArgument.TheVariants.{Value}
use Rattle.sccs_words.specs.declared.scanning.Use.{Use}
use Rattle.sccs_words.specs.declared.tables.Utility.TheVariants.{Val}
use Rattle.sccs_words.specs.declared.tables.OperandRule.TheVariants.{Many}
use Rattle.sccs_words.specs.declared.commands.Given.{Given}
use Rattle.sccs_words.specs.declared.commands.Given.TheVariants.{No, Bare, From}
use Rattle.sccs_words.specs.declared.commands.Operands.{Operands}
use Rattle.sccs_words.specs.declared.commands.AdminWords.{AdminWords}
use Rattle.sccs_words.specs.declared.commands.GetWords.{GetWords}
use Rattle.sccs_words.specs.declared.commands.Summary.{Summary}
use Rattle.sccs_words.specs.declared.commands.Summary.TheVariants as summaries
use Rattle.sccs_words.specs.declared.commands.DeltaWords.{DeltaWords}
use Rattle.sccs_words.specs.declared.commands.UngetWords.{UngetWords}
use Rattle.sccs_words.specs.declared.commands.CdcWords.{CdcWords}
use Rattle.sccs_words.specs.declared.commands.PrsWords.{PrsWords}
use Rattle.sccs_words.specs.declared.commands.ValWords.{ValWords}

abbrev pub value_in : OptionArgument → Option (List ℕ)
value_in (Value bytes n) = Some bytes
value_in _ = None

-- the value of the first use of the letter
unfoldable pub value_of : ℕ → List Use → Option (List ℕ)
value_of letter [] = None
value_of letter (one ∷ uses) = if one.letter == letter then value_in one.argument else value_of letter uses

abbrev pub with_value : Option (List ℕ) → List (List ℕ) → List (List ℕ)
with_value None values = values
with_value (Some bytes) values = bytes ∷ values

-- the values of all uses of the letter, in order
unfoldable pub values_of : ℕ → List Use → List (List ℕ)
values_of letter [] = []
values_of letter (one ∷ uses) = with_value (if one.letter == letter then value_in one.argument else None)
    (values_of letter uses)

-- the words of MRs, and the lines of a comment; none where there is no value
abbrev pub mrs_of : Option (List ℕ) → List (List ℕ)
mrs_of None = []
mrs_of (Some bytes) = mr_words bytes

abbrev pub option_lines : Option (List ℕ) → List (List ℕ)
option_lines None = []
option_lines (Some bytes) = text_of bytes

abbrev pub given_by : Option (List ℕ) → Given
given_by None = Bare
given_by (Some name) = From name

abbrev pub given_of : ℕ → List Use → Given
given_of letter uses = if has_use letter uses then given_by (option_and_then name_value (value_of letter uses)) else No

abbrev pub comment_of : List Use → Option (List (List ℕ))
comment_of uses = if has_use opt.y uses then Some (option_lines (value_of opt.y uses)) else None

-- where the summary goes; the two options exclude each other
abbrev pub summary_of : List Use → Summary
summary_of uses = if has_use opt.l uses then summaries.File else if has_use opt.big_l uses then summaries.Out
    else summaries.No

abbrev pub get_words : List Use → GetWords
get_words uses = record {
  branch = has_use opt.b uses;
  cutoff = option_and_then moment_value (value_of opt.c uses);
  edit = has_use opt.e uses;
  no_text = has_use opt.g uses;
  include = option_and_then list_value (value_of opt.i uses);
  exclude = option_and_then list_value (value_of opt.x uses);
  keep = has_use opt.k uses;
  sids = has_use opt.m uses;
  «module» = has_use opt.n uses;
  print = has_use opt.p uses;
  silent = has_use opt.s uses;
  spec = option_and_then spec_value (value_of opt.r uses);
  top = has_use opt.t uses;
  summary = summary_of uses;
}

abbrev pub delta_line_words : List Use → DeltaWords
delta_line_words uses = record {
  mrs = mrs_of (value_of opt.m uses);
  keep = has_use opt.n uses;
  sid = option_and_then sid_value (value_of opt.r uses);
  silent = has_use opt.s uses;
  comment = option_lines (value_of opt.y uses);
}

abbrev pub unget_words : List Use → UngetWords
unget_words uses = record {
  keep = has_use opt.n uses;
  sid = option_and_then sid_value (value_of opt.r uses);
  silent =
      has_use opt.s uses;
}

abbrev pub cdc_words : Sid → List Use → CdcWords
cdc_words sid uses = record { sid = sid; mrs = mrs_of (value_of opt.m uses); comment = comment_of uses }

abbrev pub prs_words : List Use → PrsWords
prs_words uses = record {
  all = has_use opt.a uses;
  earlier = has_use opt.e uses;
  later = has_use opt.l uses;
  cutoff = option_and_then moment_value (value_of opt.c uses);
  chosen = has_use opt.r uses;
  sid = option_and_then sid_value (value_of opt.r uses);
  spec = value_of opt.d uses;
}

abbrev pub admin_words : List Use → AdminWords
admin_words uses = record {
  add = values_of opt.a uses;
  erase = values_of opt.e uses;
  set = values_of opt.f uses;
  unset = values_of opt.d uses;
  check = has_use opt.h uses;
  fix = has_use opt.z uses;
  fresh = has_use opt.n uses || has_use opt.i uses;
  text = given_of opt.i uses;
  release = option_and_then release_value (value_of opt.r uses);
  mrs = mrs_of (value_of opt.m uses);
  comment = comment_of uses;
  description = given_of opt.t uses;
}

abbrev pub is_from_input : List (List ℕ) → Bool
is_from_input [] = false
is_from_input (word ∷ []) = is_dash word
is_from_input (word ∷ more ∷ words) = false

abbrev pub operand_words : List (List ℕ) → Operands
operand_words words = if is_from_input words then record { words = []; from_input = true }
    else record { words = words; from_input = false }

-- the bits 0x40, an option is at fault or `-` stands with another operand, and 0x80, there is no operand
abbrev pub usage_bit : Bool → ℕ → ℕ
usage_bit true n = n
usage_bit false n = 0

abbrev pub is_option_fault : CommandLine → Bool
is_option_fault l = is_some (uses_fault Val l.uses) || is_some (operands_fault Many l.uses l.first l.operands)

abbrev pub val_words : CommandLine → ValWords
val_words l = record {
  fault = usage_bit (is_option_fault l) 64 + usage_bit (is_empty l.operands) 128;
  silent = has_use opt.s l.uses;
  sid = value_of opt.r l.uses;
  kind = value_of opt.y l.uses;
  «module» = value_of opt.m l.uses;
  operands = operand_words l.operands;
}
