-- The synopsis of each utility: POSIX, Shell and Utilities; of cdc, which POSIX lacks, as SCCS has it.
use Rattle.std.specs.Prelude.{ℕ, ◌==◌, List, [], ◌∷◌, Option, None, Some, if◌then◌else◌}
use Rattle.sccs_words.specs.Letters as opt
use Rattle.sccs_words.specs.declared.tables.OptionSpec.{OptionSpec}
use Rattle.sccs_words.specs.declared.tables.OptionSpec.TheVariants.{Plain, Joined, Valued, Repeated}
use Rattle.sccs_words.specs.declared.tables.Form.TheVariants as forms
use Rattle.sccs_words.specs.declared.tables.Exclusion.{Exclusion}
use Rattle.sccs_words.specs.declared.tables.Exclusion.TheVariants.{Both, Bare, Alone}
use Rattle.sccs_words.specs.declared.tables.Need.{Need}
use Rattle.sccs_words.specs.declared.tables.Need.TheVariants.{Always, Either, With}
use Rattle.sccs_words.specs.declared.tables.OperandRule.{OperandRule}
use Rattle.sccs_words.specs.declared.tables.OperandRule.TheVariants.{Nothing, Sfile, Number, Many, Named, OneWith}
use Rattle.sccs_words.specs.declared.tables.Utility.{Utility}
use Rattle.sccs_words.specs.declared.tables.Utility.TheVariants.{Admin, Get, Delta, Unget, Sact, Tell, Check, Rmdel}
use Rattle.sccs_words.specs.declared.tables.Utility.TheVariants.{Cdc, Prs, Val, What, Recover, Import, Batch, Group}
use Rattle.sccs_words.specs.declared.tables.Utility.TheVariants.{Soak}

-- the options of a utility
abbrev pub options_of : Utility → List OptionSpec
options_of Admin =
    Repeated opt.a forms.User ∷
    Repeated opt.d forms.Flag ∷
    Repeated opt.e forms.User ∷
    Repeated opt.f forms.Flag ∷
    Plain opt.h ∷
    Joined opt.i forms.File ∷
    Valued opt.m forms.Mrs ∷
    Plain opt.n ∷
    Valued opt.r forms.Release ∷
    Joined opt.t forms.File ∷
    Joined opt.y forms.Any ∷
    Plain opt.z ∷
    []
options_of Get =
    Plain opt.b ∷
    Valued opt.c forms.Cutoff ∷
    Plain opt.e ∷
    Plain opt.g ∷
    Valued opt.i forms.List ∷
    Plain opt.k ∷
    Plain opt.l ∷
    Plain opt.big_l ∷
    Plain opt.m ∷
    Plain opt.n ∷
    Plain opt.p ∷
    Valued opt.r forms.Spec ∷
    Plain opt.s ∷
    Plain opt.t ∷
    Valued opt.x forms.List ∷
    []
options_of Delta =
    Valued opt.m forms.Mrs ∷
    Plain opt.n ∷
    Valued opt.r forms.Sid ∷
    Plain opt.s ∷
    Joined opt.y forms.Any ∷
    []
options_of Unget =
    Plain opt.n ∷
    Valued opt.r forms.Sid ∷
    Plain opt.s ∷
    []
options_of Sact = []
options_of Tell = []
options_of Check = []
options_of Rmdel =
    Valued opt.r forms.Sid ∷
    []
options_of Cdc =
    Valued opt.m forms.Mrs ∷
    Valued opt.r forms.Sid ∷
    Joined opt.y forms.Any ∷
    []
options_of Prs =
    Plain opt.a ∷
    Valued opt.c forms.Cutoff ∷
    Valued opt.d forms.Any ∷
    Plain opt.e ∷
    Plain opt.l ∷
    Joined opt.r forms.Sid ∷
    []
options_of Val =
    Valued opt.m forms.Any ∷
    Valued opt.r forms.Any ∷
    Plain opt.s ∷
    Valued opt.y forms.Any ∷
    []
options_of What =
    Plain opt.s ∷
    []
options_of Recover = []
options_of Import = []
options_of Batch = []
options_of Group = []
options_of Soak = []

-- which of them exclude each other
abbrev pub exclusions_of : Utility → List Exclusion
exclusions_of Admin =
    Alone opt.h ∷
    Both opt.z opt.n ∷
    Both opt.z opt.i ∷
    Both opt.d opt.n ∷
    Both opt.d opt.i ∷
    Both opt.e opt.n ∷
    Both opt.e opt.i ∷
    Bare opt.t opt.n ∷
    Bare opt.t opt.i ∷
    []
exclusions_of Get =
    Both opt.e opt.c ∷
    Both opt.l opt.big_l ∷
    Both opt.big_l opt.p ∷
    []
exclusions_of Prs =
    Both opt.e opt.l ∷
    Both opt.r opt.c ∷
    []
exclusions_of _ = []

-- which of them are needed
abbrev pub needs_of : Utility → List Need
needs_of Admin =
    With opt.r opt.i opt.i ∷
    With opt.m opt.n opt.i ∷
    With opt.y opt.n opt.i ∷
    []
needs_of Rmdel =
    Always opt.r ∷
    []
needs_of Cdc =
    Always opt.r ∷
    Either opt.m opt.y ∷
    []
needs_of Prs =
    With opt.c opt.e opt.l ∷
    []
needs_of _ = []

-- what operands it takes
abbrev pub operand_rule_of : Utility → OperandRule
operand_rule_of Admin = OneWith opt.i
operand_rule_of Delta = Sfile
operand_rule_of Import = Named
operand_rule_of Batch = Nothing
operand_rule_of Group = Nothing
operand_rule_of Soak = Number
operand_rule_of _ = Many

abbrev pub option_letter : OptionSpec → ℕ
option_letter (Plain b) = b
option_letter (Joined b form) = b
option_letter (Valued b form) = b
option_letter (Repeated b form) = b

-- the option of a letter
unfoldable pub find_option : List OptionSpec → ℕ → Option OptionSpec
find_option [] b = None
find_option (option ∷ options) b = if option_letter option == b then Some option else find_option options b
