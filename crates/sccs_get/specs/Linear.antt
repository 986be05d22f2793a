-- Files without branches, removals, lists and a flag d, and gets that ask for no version.
use Rattle.std.specs.Prelude.{◌≡◌, ℕ, Bool, true, false, List, ◌++◌, None, Some, Ok, if◌then◌else◌}
use Rattle.sccs_history.specs.Numbers.{is_empty}
use Rattle.sccs_history.specs.Linear.{IsLinear}
use Rattle.sccs_grammar.specs.File.{Parsed}
use Rattle.sccs_tokens.specs.Written.{bytes_of}
use Rattle.sccs_name_files.specs.StepFiles.{Files}
use Rattle.sccs_steps.specs.StepEffects.{StepEffect}
use Rattle.sccs_get.specs.Giving.{printed_text}
use Rattle.sccs_sets.specs.Trunks.{IsTrunk}
use Rattle.sccs_sid.specs.declared.moments.Stamp.{Stamp}
use Rattle.sccs_keywords.specs.Forms.{texts}
use Rattle.sccs_words.specs.declared.commands.GetWords.{GetWords}
use Rattle.sccs_get.specs.SummaryStep.{printed_summary, summary_got, with_l, writes_l}
use Rattle.sccs_get.specs.VersionStep.{found_version, get_outcome, is_in_the_way, lines_got, with_g, writes_g}
use Rattle.sccs_get.specs.declared.found.Found.{Found}
use Rattle.sccs_sets.specs.Flags.{default_of}

-- Neither a SID is asked for, nor lists or a cutoff are given.
pub record AsksNewest (words : GetWords) : Type 0 where
  pub spec : words.spec ≡ None
  pub include : words.include ≡ None
  pub exclude : words.exclude ≡ None
  pub cutoff : words.cutoff ≡ None

-- There is a record; each is live, on the trunk and without lists; SIDs rise with serials; the predecessor of each
-- record is the next one in the table, 0 for the last; and no flag d names a SID.
pub record IsLinearFile (parsed : Parsed) : Type 0 where
  pub some : is_empty parsed.header.records ≡ false
  pub linear : IsLinear parsed.header.records
  pub trunk : IsTrunk parsed.header.records
  pub default : default_of parsed.header.flags ≡ None

-- Lines are given as they are: keywords stay, and neither module names nor SIDs stand before lines.
pub record GivesLinesPlain (words : GetWords) : Type 0 where
  pub text : words.no_text ≡ false
  pub keep : words.keep ≡ true
  pub «module» : words.«module» ≡ false
  pub sids : words.sids ≡ false

-- The step gives a summary, to out with -L and as the l-file with -l, and then a text: to out with -p, else as the
-- g-file, which may be written.
pub record StepGives (words : GetWords) (stamp : Stamp) (place : List ℕ) (heading : Bool) (n : List ℕ) (f : Files)
    (summary text : List ℕ) : Type 0 where
  pub effect : StepEffect
  pub is : get_outcome words stamp place heading n f ≡ Ok effect
  pub printed : effect.text ≡ printed_summary words summary ++ printed_text words text
  pub made : writes_g words ≡ true → effect.new ≡ Some (with_g (if writes_l words then with_l summary f
      else f) text true)

-- A version is found, and its lines have these texts; a get that gives lines as they are gives these, each with LF,
-- behind its summary.
pub record GivesTexts (words : GetWords) (stamp : Stamp) (place : List ℕ) (heading : Bool) (n : List ℕ) (f : Files)
    (parsed : Parsed) (lines : List (List ℕ)) : Type 0 where
  pub found : Found
  pub is : found_version words stamp place n parsed.header ≡ Ok found
  pub texts_are : texts (lines_got found parsed.items) ≡ lines
  pub step : GivesLinesPlain words → is_in_the_way words f.g ≡ false → StepGives words stamp place heading n f
      (summary_got words parsed.header.records found) (bytes_of lines)
