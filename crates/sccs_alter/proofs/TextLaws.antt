-- Texts with changes: what comes before an old comment, and that all of it are lines.
use Rattle.std.proofs.Common.{◌≡◌, ◌≢◌, ℕ, ◌<◌, ◌==◌, Bool, true, false, not, List, [], ◌∷◌, ◌++◌, map, length, Option}
use Rattle.std.proofs.Common.{None, Some, IfSome, refl, sym, ap, ◌∙◌, subst, arith, cond, append_assoc, append-nil}
use Rattle.std.specs.Prelude.{codes}
use Rattle.std.specs.List.{AllByRecursion}
use Rattle.std.proofs.lemmas.List.Elements.{recursion_from_All, All-from_recursion}
use Rattle.sccs_base.specs.Cut.{HasNoLf}
use Rattle.sccs_base.specs.Login.{IsLogin}
use Rattle.sccs_sid.specs.Moment.{civil_of, civil_date, civil_time, moment_text}
use Rattle.sccs_sid.specs.declared.moments.Stamp.{Stamp}
use Rattle.sccs_history.specs.History.{AreLines}
use Rattle.sccs_history.specs.Numbers.{front_if}
use Rattle.sccs_history.specs.declared.headers.Record.{Record}
use Rattle.sccs_tokens.proofs.LineLaws.{Visible, date_seen, time_seen, without_lf}
use Rattle.sccs_tokens.proofs.NoLf.{NoLf}
use Rattle.sccs_alter.specs.Changes.{before_old, changed_line, changed_mrs, deleted_line, given_lines, gone_by}
use Rattle.sccs_alter.specs.Changes.{gone_mrs, has_mr, mrs_by, new_lines, taken_away, without_mr}
use Rattle.sccs_alter.specs.declared.changes.TextChanges.{TextChanges}

-- ---- before an old comment

pub nothing_new : (stamp : Stamp) (new old : List (List ℕ)) → length new ≡ 0 → old ≡ before_old stamp new old
nothing_new stamp [] old none = refl
nothing_new stamp (line ∷ lines) old none = absurd (omega (arith, none))

pub something_new : (stamp : Stamp) (new old : List (List ℕ)) → length new ≢ 0 → new ++ changed_line stamp ∷ old
    ≡ before_old stamp new old
something_new stamp [] old some = absurd (some refl)
something_new stamp (line ∷ lines) old some = refl

pub old_follows : (stamp : Stamp) (new text old all : List (List ℕ)) (line bytes : List ℕ) → line ≡ changed_line stamp
    → bytes ≡ line → text ≡ new ++ bytes ∷ [] → all ≡ text ++ old → all ≡ new ++ changed_line stamp ∷ old
old_follows stamp new text old all line bytes changed same put follow =
    follow ∙ (ap (λ t. t ++ old) put ∙ (append_assoc new (bytes ∷ []) old ∙ ap (λ l. new ++ l ∷ old) (same ∙ changed)))

-- the old comment is the end of the new one
pub old_is_last : (stamp : Stamp) (new old : List (List ℕ)) → (front : List (List ℕ))
    × (before_old stamp new old ≡ front ++ old)
old_is_last stamp [] old = ([], refl)
old_is_last stamp (line ∷ lines) old = (
  line ∷ lines ++ changed_line stamp ∷ [],
  line_last (line ∷ lines)
      (changed_line stamp) old,
)
  where
    line_last : (xs : List (List ℕ)) (x : List ℕ) (ys : List (List ℕ)) → xs ++ x ∷ ys ≡ (xs ++ x ∷ []) ++ ys
    line_last [] x ys = refl
    line_last (y ∷ xs) x ys = ap (λ l. y ∷ l) (line_last xs x ys)

-- ---- lines

more_lines : (lines more : List (List ℕ)) → AreLines lines → AreLines more → AreLines (lines ++ more)
more_lines [] more are others = others
more_lines (line ∷ lines) more are others = (are.0, more_lines lines more are.1 others)

line_if : (t : Bool) (line : List ℕ) (lines : List (List ℕ)) → HasNoLf line → AreLines lines
    → AreLines (front_if t line lines)
line_if true line lines is are = (is, are)
line_if false line lines is are = are

left_lines : (mrs : List (List ℕ)) (mr : List ℕ) → AreLines mrs → AreLines (without_mr mrs mr)
unfolding without_mr
left_lines [] mr are = tt
left_lines (one ∷ mrs) mr are = line_if _ one (without_mr mrs mr) are.0 (left_lines mrs mr are.1)

-- what stands behind a byte of a line
no_lf_behind : (b : ℕ) (bytes : List ℕ) → HasNoLf (b ∷ bytes) → HasNoLf bytes
no_lf_behind b bytes is = All-from_recursion (λ c. c ≢ 10) bytes (recursion_from_All (λ c. c ≢ 10) (b ∷ bytes) is).1

abbrev IsLineOr : Option (List ℕ) → Type 0
IsLineOr mr = IfSome mr HasNoLf

taken_by : (t : Bool) (bytes : List ℕ) → HasNoLf bytes → IsLineOr (cond t (Some bytes) None)
taken_by true bytes is = is
taken_by false bytes is = tt

taken_line : (word : List ℕ) → HasNoLf word → IsLineOr (taken_away word)
taken_line [] is = tt
taken_line (b ∷ bytes) is = taken_by (b == 33) bytes (no_lf_behind b bytes is)

by_lines : (mr : Option (List ℕ)) (mrs : List (List ℕ)) (word : List ℕ) → HasNoLf word → AreLines mrs
    → AreLines (mrs_by mr mrs word)
by_lines (Some mr) mrs word is are = left_lines mrs mr are
by_lines None mrs word is are = more_lines mrs (front_if (not (has_mr mrs word)) word []) are (line_if _ word [] is tt)

gone_lines_by : (mr : Option (List ℕ)) (mrs : List (List ℕ)) → IsLineOr mr → AreLines (gone_by mr mrs)
gone_lines_by (Some mr) mrs is = line_if _ mr [] is tt
gone_lines_by None mrs is = tt

pub changed_lines : (words mrs : List (List ℕ)) → AreLines words → AreLines mrs → AreLines (changed_mrs words mrs)
unfolding changed_mrs
changed_lines [] mrs are lines = lines
changed_lines (word ∷ words) mrs are lines = changed_lines words (mrs_by (taken_away word) mrs word) are.1
    (by_lines (taken_away word) mrs word are.0 lines)

gone_lines : (words mrs : List (List ℕ)) → AreLines words → AreLines (gone_mrs words mrs)
unfolding gone_mrs
gone_lines [] mrs are = tt
gone_lines (word ∷ words) mrs are =
    more_lines (gone_by (taken_away word) mrs) (gone_mrs words (mrs_by (taken_away word) mrs word))
    (gone_lines_by (taken_away word) mrs (taken_line word are.0))
    (gone_lines words (mrs_by (taken_away word) mrs word) are.1)

-- ---- the lines that come new

as_line : (bytes : List ℕ) → NoLf bytes → HasNoLf bytes
as_line bytes none = All-from_recursion (λ b. b ≢ 10) bytes none

no_lf_in : (bytes : List ℕ) → HasNoLf bytes → NoLf bytes
no_lf_in bytes is = recursion_from_All (λ b. b ≢ 10) bytes is

-- what is told by a test of each byte
none_before : (bytes more : List ℕ) → AllByRecursion (λ b. (b == 10) ≡ false) bytes → NoLf more → NoLf (bytes ++ more)
none_before [] more are none = none
none_before (b ∷ bytes) more are none = (λ same. differ b same are.0, none_before bytes more are.1 none)
  where
    differ : (b : ℕ) → b ≡ 10 → (b == 10) ≡ false → ⊥
    differ b same other = absurd cc

deleted_line_is : (mr : List ℕ) → HasNoLf mr → HasNoLf (deleted_line mr)
deleted_line_is mr is =
    as_line (deleted_line mr) (none_before (codes "*** DELETED MR *** ") mr (
      refl,
      (
        refl,
        (
          refl,
          (
            refl,
            (
              refl,
              (
                refl,
                (
                  refl,
                  (
                    refl,
                    (refl, (refl, (refl, (refl, (refl, (refl, (refl, (refl, (refl, (refl, (refl, tt))))))))))),
                  ),
                ),
              ),
            ),
          ),
        ),
      ),
    )
    (no_lf_in mr is))

deleted_lines : (gone : List (List ℕ)) → AreLines gone → AreLines (map deleted_line gone)
deleted_lines [] are = tt
deleted_lines (mr ∷ gone) are = (deleted_line_is mr are.0, deleted_lines gone are.1)

login_seen : (login : List ℕ) → IsLogin login → Visible login
login_seen login is = recursion_from_All (λ b. 32 < b) login is.visible

moment_line : (stamp : Stamp) → IsLogin stamp.login → NoLf (moment_text stamp.moment ++ (32 ∷ stamp.login))
moment_line stamp is = no_lf_joined (civil_date (civil_of stamp.moment)) (civil_time (civil_of stamp.moment))
    stamp.login (date_seen (civil_of stamp.moment)) (time_seen (civil_of stamp.moment)) (login_seen stamp.login is)
  where
    behind : (bytes more : List ℕ) → Visible bytes → Visible more → NoLf (bytes ++ (32 ∷ more))
    behind bytes more are others = without_lf bytes (32 ∷ more) are (
      (λ same. absurd (omega (arith, same))),
      subst NoLf
          (append-nil more) (without_lf more [] others tt),
    )

    no_lf_joined : (date time login : List ℕ) → Visible date → Visible time → Visible login
        → NoLf ((date ++ (32 ∷ time)) ++ (32 ∷ login))
    no_lf_joined date time login dates times logins = subst NoLf (sym (append_assoc date (32 ∷ time) (32 ∷ login)))
        (without_lf date (32 ∷ (time ++ (32 ∷ login))) dates (
          (λ same. absurd (omega (arith, same))),
          behind time login times logins,
        ))

changed_line_is : (stamp : Stamp) → IsLogin stamp.login → HasNoLf (changed_line stamp)
changed_line_is stamp is =
    as_line (changed_line stamp) (none_before (codes "*** CHANGED *** ") (moment_text stamp.moment
    ++ (32 ∷ stamp.login)) (
      refl,
      (
        refl,
        (
          refl,
          (
            refl,
            (
              refl,
              (refl, (refl, (refl, (refl, (refl, (refl, (refl, (refl, (refl, (refl, (refl, tt))))))))))),
            ),
          ),
        ),
      ),
    )
    (moment_line stamp is))

pub before_lines : (stamp : Stamp) (new old : List (List ℕ)) → IsLogin stamp.login → AreLines new → AreLines old
    → AreLines (before_old stamp new old)
before_lines stamp [] old login are olds = olds
before_lines stamp (line ∷ lines) old login are olds = more_lines (line ∷ lines) (changed_line stamp ∷ old) are
    (changed_line_is stamp login, olds)

pub new_are_lines : (changes : TextChanges) (r : Record) → AreLines changes.mrs → AreLines changes.comment
    → AreLines (new_lines changes r)
new_are_lines changes r mrs comment = more_lines changes.comment (map deleted_line (gone_mrs changes.mrs r.mrs)) comment
    (deleted_lines (gone_mrs changes.mrs r.mrs) (gone_lines changes.mrs r.mrs mrs))

-- the lines of a comment that is given are lines
pub given_are_lines : (comment : Option (List (List ℕ))) → IfSome comment AreLines → AreLines (given_lines comment)
given_are_lines None are = tt
given_are_lines (Some []) are = (All-from_recursion (λ b. b ≢ 10) [] tt, tt)
given_are_lines (Some (line ∷ lines)) are = are
