-- A delta line that is written says its record.
use Rattle.std.proofs.Common.{◌≡◌, ℕ, zero, suc, ◌<◌, Bool, true, false, List, length, [], ◌∷◌, ◌++◌, Some, refl, arith}
use Rattle.std.specs.Prelude.{decimal, All}
use Rattle.std.proofs.lemmas.Bool.{lt-ltb}
use Rattle.std.specs.List.{AllByRecursion}
use Rattle.sccs_base.specs.Login.{IsLogin, login_decides}
use Rattle.sccs_sid.specs.Sid.{IsSid, IsBranch, branch_text, sid_text}
use Rattle.sccs_sid.specs.Moment.{Civil, two, civil_date, civil_time, civil_of, date_text, time_text}
use Rattle.sccs_sid.specs.declared.sids.Sid.{Sid}
use Rattle.sccs_sid.proofs.SidTexts.{sid_text_again}
use Rattle.sccs_sid.proofs.MomentTexts.{moment_text_again}
use Rattle.sccs_history.specs.History.{HasSpelling}
use Rattle.sccs_history.specs.declared.headers.Record.{Record}
use Rattle.sccs_tokens.specs.Tokens.{predecessor, is_removed, delta_of, control, token}
use Rattle.sccs_tokens.specs.Written.{IsSerial, kind_of, delta_words, delta_line, delta_part}
use Rattle.sccs_tokens.specs.declared.line_tokens.LineToken.TheVariants.{Delta}
use Rattle.sccs_tokens.proofs.WordLaws.{IsWord, HasNoBlank, words_again}
use Rattle.sccs_tokens.proofs.NumberLaws.{whole_number, decimal_word}
use Rattle.sccs_tokens.proofs.TokenLaws.{serial_again}

-- ---- each word is one

both : (bytes more : List ℕ) → HasNoBlank bytes → HasNoBlank more → HasNoBlank (bytes ++ more)
both [] more none others = others
both (b ∷ bytes) more none others = (none.0, both bytes more none.1 others)

blanks_of : (word : List ℕ) → IsWord word → HasNoBlank word
blanks_of [] is = absurd is
blanks_of (b ∷ word) is = is

word_more : (word more : List ℕ) → IsWord word → HasNoBlank more → IsWord (word ++ more)
word_more [] more is none = absurd is
word_more (b ∷ word) more is none = both (b ∷ word) more is none

two_blanks : (n : ℕ) (more : List ℕ) → HasNoBlank more → HasNoBlank (two n ++ more)
two_blanks n more none = ((λ e. absurd (omega arith)), ((λ e. absurd (omega arith)), none))

pub date_word : (c : Civil) → IsWord (civil_date c)
date_word c =
    two_blanks _ (47 ∷ two c.month ++ (47 ∷ two c.day)) (
      (λ e. absurd (omega arith)),
      two_blanks c.month
          (47 ∷ two c.day) ((λ e. absurd (omega arith)), two_blanks c.day [] tt),
    )

pub time_word : (c : Civil) → IsWord (civil_time c)
time_word c =
    two_blanks c.hour (58 ∷ two c.minute ++ (58 ∷ two c.second)) (
      (λ e. absurd (omega arith)),
      two_blanks c.minute
          (58 ∷ two c.second) ((λ e. absurd (omega arith)), two_blanks c.second [] tt),
    )

component_word : (n : ℕ) → n < 10000 → IsWord (decimal n)
component_word n small = decimal_word n (omega (arith, small))

branch_blanks : (branch sequence : ℕ) → IsBranch branch sequence → HasNoBlank (branch_text branch sequence)
branch_blanks zero sequence is = tt
branch_blanks (suc b) sequence is = (
  (λ e. absurd (omega arith)),
  both (decimal (suc b)) (46 ∷ decimal sequence)
      (blanks_of _ (component_word (suc b) is.0)) (
        (λ e. absurd (omega arith)),
        blanks_of _
            (component_word sequence is.1.1),
      ),
)

pub sid_word : (sid : Sid) → IsSid sid → IsWord (sid_text sid)
unfolding sid_text
sid_word sid is =
    word_more (decimal sid.release) (46 ∷ decimal sid.level ++ branch_text sid.branch sid.sequence)
    (component_word sid.release is.release.1) (
      (λ e. absurd (omega arith)),
      both (decimal sid.level) (branch_text sid.branch sid.sequence)
          (blanks_of _ (component_word sid.level is.level.1)) (branch_blanks sid.branch sid.sequence is.branch),
    )

visible_blanks : (bytes : List ℕ) → All (λ b. 32 < b) bytes → HasNoBlank bytes
visible_blanks [] are = tt
visible_blanks (b ∷ bytes) are =
    let low : 32 < b = are 0 0 (omega arith) in
    ((λ e. absurd (omega arith)), visible_blanks bytes (λ k d short. are (suc k) d (omega (arith, short))))

some_word : (bytes : List ℕ) → 0 < length bytes → HasNoBlank bytes → IsWord bytes
some_word [] some none = absurd (omega (arith, some))
some_word (b ∷ bytes) some none = none

pub login_word : (login : List ℕ) → IsLogin login → IsWord login
login_word login is = some_word login is.some (visible_blanks login is.visible)

kind_word : (removed : Bool) → IsWord (kind_of removed)
kind_word true = ((λ e. absurd (omega arith)), tt)
kind_word false = ((λ e. absurd (omega arith)), tt)

words_are : (r : Record) → HasSpelling r → IsSerial r.serial → r.predecessor < 65536
    → AllByRecursion IsWord (delta_words r)
words_are r spells is before = (
  kind_word r.removed,
  (
    sid_word r.sid spells.sid,
    (
      date_word (civil_of r.moment),
      (
        time_word (civil_of r.moment),
        (
          login_word r.login spells.login,
          (
            decimal_word r.serial (omega (arith, is.1)),
            (decimal_word r.predecessor (omega (arith, before)), tt),
          ),
        ),
      ),
    ),
  ),
)

-- ---- each is read again

kind_again : (removed : Bool) → is_removed (kind_of removed) ≡ Some removed
kind_again true = refl
kind_again false = refl

predecessor_again : (n : ℕ) → n < 65536 → predecessor (decimal n) ≡ Some n
unfolding predecessor
predecessor_again n small =
    rw (whole_number 5 n (omega arith) (omega (arith, small)) (omega (arith, small)), lt-ltb n 65536 small) refl

delta_again : (r : Record) → HasSpelling r → IsSerial r.serial → r.predecessor < 65536
    → delta_of (kind_of r.removed) (sid_text r.sid) (date_text r.moment) (time_text r.moment) r.login (decimal r.serial)
    (decimal r.predecessor) ≡ Some (Delta (delta_part r))
unfolding delta_of
delta_again r spells is before =
    rw (
      kind_again r.removed,
      sid_text_again r.sid spells.sid,
      moment_text_again r.moment spells.moment,
      (login_decides r.login).1 spells.login,
      serial_again r.serial is,
      predecessor_again r.predecessor before,
    ) refl

pub token_delta : (r : Record) → HasSpelling r → IsSerial r.serial → r.predecessor < 65536 → token (delta_line r) ≡ Some
    (Delta (delta_part r))
unfolding token control
token_delta r spells is before = rw (words_again (delta_words r) (words_are r spells is before))
    (delta_again r spells is before)
