-- A letter that is none of the keywords'.
use Rattle.std.proofs.Common.{◌≡◌, ℕ, ◌==◌, Bool, false, cond, Option, None, Some, refl, sym, ap, ◌∙◌}
use Rattle.sccs_keywords.specs.Keywords.{keyword_of}
use Rattle.sccs_keywords.specs.declared.keywords.Keyword.{Keyword}
use Rattle.sccs_keywords.specs.declared.keywords.Keyword.TheVariants.{Module, Sid, Release, Level, Branch, Sequence}
use Rattle.sccs_keywords.specs.declared.keywords.Keyword.TheVariants.{Date, MonthFirstDate, Time, NewestDate}
use Rattle.sccs_keywords.specs.declared.keywords.Keyword.TheVariants.{NewestMonthFirstDate, NewestTime, Kind, User}
use Rattle.sccs_keywords.specs.declared.keywords.Keyword.TheVariants.{FileName, Path, LineNumber, Mark, What, Assembly}

skips : (t : Bool) (k : Keyword) (rest : Option Keyword) → t ≡ false → None ≡ rest → None ≡ cond t (Some k) rest
skips t k rest is none = none ∙ ap (λ b. cond b (Some k) rest) (sym is)

pub other_letter : (n : ℕ) → n == 77 ≡ false → n == 73 ≡ false → n == 82 ≡ false → n == 76 ≡ false → n == 66 ≡ false
    → n == 83 ≡ false → n == 68 ≡ false → n == 72 ≡ false → n == 84 ≡ false → n == 69 ≡ false → n == 71 ≡ false
    → n == 85 ≡ false → n == 89 ≡ false → n == 81 ≡ false → n == 70 ≡ false → n == 80 ≡ false → n == 67 ≡ false
    → n == 90 ≡ false → n == 87 ≡ false → n == 65 ≡ false → None ≡ keyword_of n
other_letter n e0 e1 e2 e3 e4 e5 e6 e7 e8 e9 e10 e11 e12 e13 e14 e15 e16 e17 e18 e19 =
    skips (n == 77) Module _ e0 (skips (n == 73) Sid _ e1 (skips (n == 82) Release _ e2 (skips (n == 76) Level _ e3
    (skips (n == 66) Branch _ e4 (skips (n == 83) Sequence _ e5 (skips (n == 68) Date _ e6
    (skips (n == 72) MonthFirstDate _ e7 (skips (n == 84) Time _ e8 (skips (n == 69) NewestDate _ e9
    (skips (n == 71) NewestMonthFirstDate _ e10 (skips (n == 85) NewestTime _ e11 (skips (n == 89) Kind _ e12
    (skips (n == 81) User _ e13 (skips (n == 70) FileName _ e14 (skips (n == 80) Path _ e15
    (skips (n == 67) LineNumber _ e16 (skips (n == 90) Mark _ e17 (skips (n == 87) What _ e18
    (skips (n == 65) Assembly _ e19 (refl))))))))))))))))))))
