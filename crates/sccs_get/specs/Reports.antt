-- What get says: POSIX, Shell and Utilities, get, STDOUT.
use Rattle.std.specs.Prelude.{ℕ, Bool, not, ◌||◌, List, [], ◌++◌, flat_map, decimal, codes, Option, None, Some}
use Rattle.std.specs.Prelude.{if◌then◌else◌}
use Rattle.sccs_sid.specs.Sid.{sid_text}
use Rattle.sccs_sid.specs.declared.sids.Sid.{Sid}
use Rattle.sccs_sid.specs.declared.sid_lists.Range.{Range}
use Rattle.sccs_tokens.specs.Written.{ended}
use Rattle.sccs_changes.specs.Reports.{heading_text, warning}
use Rattle.sccs_words.specs.declared.commands.GetWords.{GetWords}
use Rattle.sccs_get.specs.SummaryStep.{is_out}

-- keywords are replaced without -k, -e and -g
abbrev pub replaces_keywords : GetWords → Bool
replaces_keywords words = not (words.keep || (words.edit || words.no_text))

-- the first SIDs of ranges, each on a line
abbrev pub sid_lines : List Range → List ℕ
sid_lines ranges = flat_map (λ (r : Range). ended (sid_text r.first)) ranges

-- SIDs, each on a line, behind a title, where a list was given
abbrev pub listed_text : Option (List Range) → List ℕ → List Range → List ℕ
listed_text None title ranges = []
listed_text (Some list) title ranges = ended title ++ sid_lines ranges

-- the SID that is to be made, where there is one
abbrev pub new_sid_text : Option Sid → List ℕ
new_sid_text None = []
new_sid_text (Some made) = codes "new delta " ++ ended (sid_text made)

-- the number of the text's lines, but with -g
abbrev pub line_count_text : Bool → ℕ → List ℕ
line_count_text no_text lines = if no_text then [] else decimal lines ++ ended (codes " lines")

-- the heading, the SIDs of the lists that were given, the SID that is got, the one that is to be made, and the number
-- of lines;
-- nothing with -s
abbrev pub get_report : GetWords → Bool → List ℕ → List Range → List Range → Sid → Option Sid → ℕ → List ℕ
get_report words heading n include exclude got made lines =
    if words.silent then []
    else heading_text heading n
    ++ (listed_text words.include (codes "Included:") include
    ++ (listed_text words.exclude (codes "Excluded:") exclude
    ++ (ended (sid_text got) ++ (new_sid_text made ++ line_count_text words.no_text lines))))

-- that there is no keyword, where keywords are replaced
abbrev pub get_warning : GetWords → List ℕ → Bool → List ℕ
get_warning words n keyword = warning n (not (replaces_keywords words) || keyword)

-- a text or a summary goes to out
abbrev pub prints : GetWords → Bool
prints words = words.print || is_out words.summary

-- on out: the report, but with -p and -L
abbrev pub said_on_out : GetWords → List ℕ → List ℕ
said_on_out words report = if prints words then [] else report

-- on err: the report with -p and -L, and the warning
abbrev pub said_on_err : GetWords → List ℕ → List ℕ → List ℕ
said_on_err words report message = if prints words then report ++ message else message
