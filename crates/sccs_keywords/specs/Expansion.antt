-- What keywords stand for, and the expansion of a line.
use Rattle.std.specs.Prelude.{ℕ, zero, suc, ◌%◌, List, [], ◌∷◌, ◌++◌, decimal, flat_map}
use Rattle.sccs_sid.specs.Moment.{Civil, civil_of, date_text, IsMoment, time_text, two}
use Rattle.sccs_sid.specs.Sid.{sid_text}
use Rattle.sccs_keywords.specs.Keywords.{Key, Part, parts, Plain}
use Rattle.sccs_keywords.specs.declared.facts.Facts.{Facts}
use Rattle.sccs_keywords.specs.declared.keywords.Keyword.{Keyword}
use Rattle.sccs_keywords.specs.declared.keywords.Keyword.TheVariants as words

-- the mark that what looks for: @(#)
abbrev pub what_mark : List ℕ
what_mark = 64 ∷ 40 ∷ 35 ∷ 41 ∷ []

-- a component of a SID, nothing where it has none
abbrev pub component_text : ℕ → List ℕ
component_text zero = []
component_text (suc n) = decimal (suc n)

-- a date as mm/dd/yy
abbrev pub month_first : Civil → List ℕ
month_first c = two c.month ++ (47 ∷ two c.day ++ (47 ∷ two (c.year % 100)))

-- what a keyword stands for in the line with a number
abbrev pub keyword_text : Facts → ℕ → Keyword → List ℕ
keyword_text f number words.Module = f.module
keyword_text f number words.Sid = sid_text f.sid
keyword_text f number words.Release = decimal f.sid.release
keyword_text f number words.Level = decimal f.sid.level
keyword_text f number words.Branch = component_text f.sid.branch
keyword_text f number words.Sequence = component_text f.sid.sequence
keyword_text f number words.Date = date_text f.moment
keyword_text f number words.MonthFirstDate = month_first (civil_of f.moment)
keyword_text f number words.Time = time_text f.moment
keyword_text f number words.NewestDate = date_text f.newest
keyword_text f number words.NewestMonthFirstDate = month_first (civil_of f.newest)
keyword_text f number words.NewestTime = time_text f.newest
keyword_text f number words.Kind = f.kind
keyword_text f number words.User = f.user
keyword_text f number words.FileName = f.file
keyword_text f number words.Path = f.place ++ (47 ∷ f.file)
keyword_text f number words.LineNumber = decimal number
keyword_text f number words.Mark = what_mark
keyword_text f number words.What = what_mark ++ (f.module ++ (9 ∷ sid_text f.sid))
keyword_text f number words.Assembly = what_mark ++ (f.kind ++ (32 ∷ f.module ++ (32 ∷ sid_text f.sid ++ what_mark)))

abbrev pub expanded_part : Facts → ℕ → Part → List ℕ
expanded_part f number (Plain byte) = byte ∷ []
expanded_part f number (Key keyword) = keyword_text f number keyword

-- the line with a number, where its keywords are replaced
abbrev pub expanded : Facts → ℕ → List ℕ → List ℕ
expanded f number line = flat_map (expanded_part f number) (parts line)

-- both moments are such
pub record HasMoments (f : Facts) : Type 0 where
  pub moment : IsMoment f.moment
  pub newest : IsMoment f.newest
