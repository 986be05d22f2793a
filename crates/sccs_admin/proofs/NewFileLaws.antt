-- A new s-file is read as it was made, and its version is its text.
use Rattle.std.proofs.Common.{◌≡◌, ◌≢◌, ℕ, suc, ◌+◌, ◌/◌, ◌%◌, ◌==◌, Bool, true, false, cond, List, [], ◌∷◌, ◌++◌, map}
use Rattle.std.proofs.Common.{Option, None, Some, IfSome, Ok, refl, sym, subst, ap, ◌∙◌, arith}
use Rattle.std.specs.Prelude.{not, ◌&&◌, codes, unwrap_or}
use Rattle.std.specs.List.{All, AllByRecursion}
use Rattle.std.proofs.lemmas.List.Elements.{All-append, All-cons, All-nil}
use Rattle.std.proofs.Math.Nat.{min-le_right}
use Rattle.sccs_base.specs.Cut.{HasNoLf, text_of}
use Rattle.sccs_base.proofs.Lines.{text_fit}
use Rattle.sccs_base.specs.Login.{IsLogin}
use Rattle.sccs_sid.specs.Moment.{civil_of, date_text, moment_text, time_text, two}
use Rattle.sccs_sid.specs.SidLists.{begins}
use Rattle.sccs_sid.specs.declared.moments.Moment.{Moment}
use Rattle.sccs_sid.specs.declared.moments.Stamp.{Stamp}
use Rattle.sccs_history.specs.Numbers.{first, front_if, has, is_empty, share}
use Rattle.sccs_history.specs.Body.{GoesOn, deleters, inserter, inserters, is_closed, is_over, lines_behind, lines_of}
use Rattle.sccs_history.specs.Body.{mark}
use Rattle.sccs_history.specs.History.{AreLines, IsHeader, IsSpelled}
use Rattle.sccs_history.specs.Select.{select}
use Rattle.sccs_history.specs.declared.headers.Item.{Item}
use Rattle.sccs_history.specs.declared.headers.Item.TheVariants.{Text, Insert, End}
use Rattle.sccs_grammar.specs.File.{IsSFile}
use Rattle.sccs_tokens.specs.Written.{HasLines, IsItem, canonical}
use Rattle.sccs_grammar.proofs.CanonicalLaws.{canonical_again}
use Rattle.sccs_script.specs.Checks.{bad_line}
use Rattle.sccs_words.specs.declared.commands.AdminWords.{AdminWords}
use Rattle.sccs_history.specs.declared.headers.Header.{Header}
use Rattle.sccs_rules.specs.Flags.{changed_flags}
use Rattle.sccs_rules.specs.Rules.{with_rules}
use Rattle.sccs_rules.specs.Users.{changed_users}
use Rattle.sccs_rules.proofs.FlagRules.{header_kept, spelled_kept}
use Rattle.sccs_admin.specs.NewFiles.{comment_lines, first_header, maker_text, new_header, new_items}
use Rattle.sccs_admin.specs.AdminStep.{AreAdminValues}
use Rattle.sccs_admin.proofs.HeaderRules.{first_sid_is}
use Rattle.sccs_admin.specs.Parts.{AreRules}
use Rattle.sccs_admin.specs.Rules.{new_rules}
use Rattle.sccs_admin.specs.declared.finding.NewTexts.{NewTexts}
use Rattle.sccs_admin.specs.declared.rules.NewRules.{NewRules}
use Rattle.sccs_admin.proofs.RuleLaws.{HasRules, described_bare, none_bad, rules_are, rules_hold}
use Rattle.std.proofs.lemmas.Bool.{or_parts}

-- ---- the header

first_rules : (words : AdminWords) (stamp : Stamp) (count : ℕ) → IsHeader (first_header words stamp count)
first_rules words stamp count = record {
  rules = record {
    table = record {
      some = refl;
      falls = (omega arith, tt);
      each = (
        record {
          serial = omega arith;
          predecessor = refl;
          older = omega arith;
          include = tt;
          exclude = tt;
          ignore = tt;
          apart = refl;
          inserted = min-le_right count 99999;
          deleted = omega arith;
          unchanged = omega arith;
        },
        tt,
      );
      sids = refl;
    };
    flags = tt;
    letters = refl;
    users = tt;
    description = tt;
  };
  plain = refl;
}

-- ---- its spelling

abbrev NoLf : ℕ → Type 0
NoLf b = b ≢ 10

all_two : (n : ℕ) → All NoLf (two n)
all_two n = All-cons NoLf (48 + n / 10) ((48 + n % 10) ∷ []) (λ is. omega (arith, is)) (All-cons NoLf (48 + n % 10) []
    (λ is. omega (arith, is)) (All-nil NoLf))

parted : (b : ℕ) (xs ys : List ℕ) → b ≢ 10 → All NoLf xs → All NoLf ys → All NoLf (xs ++ (b ∷ ys))
parted b xs ys other front rest = All-append NoLf xs (b ∷ ys) front (All-cons NoLf b ys other rest)

three_two : (b x y z : ℕ) → b ≢ 10 → All NoLf (two x ++ (b ∷ two y ++ (b ∷ two z)))
three_two b x y z other = parted b (two x) (two y ++ (b ∷ two z)) other (all_two x) (parted b (two y) (two z) other
    (all_two y) (all_two z))

moment_line : (moment : Moment) → All NoLf (moment_text moment)
moment_line moment =
    let c = civil_of moment in
    parted 32 (date_text moment) (time_text moment) (λ is. omega (arith, is)) (three_two 47 (c.year % 100) c.month c.day
    (λ is. omega (arith, is))) (three_two 58 c.hour c.minute c.second (λ is. omega (arith, is)))

other_byte : (b : ℕ) → (b == 10) ≡ false → b ≢ 10
other_byte b isnt e = let is : (b == 10) ≡ true = ap (λ n. n == 10) e in cc

without : (xs : List ℕ) → has xs 10 ≡ false → All NoLf xs
without [] is = All-nil NoLf
without (x ∷ xs) is = let both = or_parts (x == 10) (has xs 10) is in All-cons NoLf x xs (other_byte x both.0)
    (without xs both.1)

login_line : (login : List ℕ) → IsLogin login → All NoLf login
login_line login is = λ k d low e. omega (arith, is.visible k d low, e)

made_line : (stamp : Stamp) → IsLogin stamp.login → All NoLf (maker_text stamp)
made_line stamp login =
    All-append NoLf (codes "date and time created ") (moment_text stamp.moment ++ (codes " by " ++ stamp.login))
    (without (codes "date and time created ") refl)
    (All-append NoLf (moment_text stamp.moment) (codes " by " ++ stamp.login) (moment_line stamp.moment)
    (All-append NoLf (codes " by ") stamp.login (without (codes " by ") refl) (login_line stamp.login login)))

comments_are_lines : (comment : Option (List (List ℕ))) (stamp : Stamp) → IsLogin stamp.login → IfSome comment AreLines
    → AreLines (comment_lines comment stamp)
comments_are_lines None stamp login lines = (made_line stamp login, tt)
comments_are_lines (Some []) stamp login lines = (All-nil NoLf, tt)
comments_are_lines (Some (line ∷ rest)) stamp login lines = lines

first_spelled : (words : AdminWords) (stamp : Stamp) (count : ℕ) → AreAdminValues words stamp → IsLogin stamp.login
    → IfSome words.comment AreLines → AreLines words.mrs → IsSpelled (first_header words stamp count)
first_spelled words stamp count valid login lines mrs = record {
  records = (
    record {
      sid = first_sid_is words.release (unwrap_or words.release 1) refl valid.release;
      moment =
          valid.moment;
      login = login;
      mrs = mrs;
      comments = comments_are_lines words.comment stamp login lines;
    },
    tt,
  );
  users = tt;
  flags = tt;
  description = tt;
}

-- ---- the items

-- Behind these items the first delta alone is open, by Insert.
record IsOpen (before : List Item) : Type 0 where
  inserters : inserters before ≡ 1 ∷ []
  deleters : deleters before ≡ []
  mark : is_closed (mark 1 before) ≡ false
  over : is_over (End 1 ∷ before) ≡ true

begun : IsOpen (Insert 1 ∷ [])
begun = record { inserters = refl; deleters = refl; mark = refl; over = refl }

behind_text : (text : List ℕ) (before : List Item) → IsOpen before → IsOpen (Text text ∷ before)
behind_text text before is = record { inserters = is.inserters; deleters = is.deleters; mark = is.mark; over = is.over }

lines_go_on : (before : List Item) (lines : List (List ℕ)) → IsOpen before
    → GoesOn (1 ∷ []) before (map Text lines ++ End 1 ∷ [])
lines_go_on before [] is = (ap not is.mark, is.over)
lines_go_on before (line ∷ lines) is = (
  ap (λ (ns : List ℕ). not (is_empty ns)) is.inserters,
  lines_go_on
      (Text line ∷ before) lines (behind_text line before is),
)

items_go_on : (lines : List (List ℕ)) → GoesOn (1 ∷ []) [] (new_items lines)
items_go_on lines = (refl, lines_go_on (Insert 1 ∷ []) lines begun)

not_bad : (line : List ℕ) (k : ℕ) (lines : List (List ℕ)) (t : Bool) → begins 1 line ≡ t
    → cond t (Some (suc k)) (bad_line (suc k) lines) ≡ None → (begins 1 line ≡ false) × (bad_line (suc k) lines ≡ None)
not_bad line k lines true is bad = absurd (cc)
not_bad line k lines false is bad = (is, bad)

lines_are_items : (k : ℕ) (lines : List (List ℕ)) → bad_line k lines ≡ None
    → AllByRecursion IsItem (map Text lines ++ End 1 ∷ [])
lines_are_items k [] is = ((omega arith, omega arith), tt)
lines_are_items k (line ∷ lines) is =
    let both = not_bad line k lines (begins 1 line) refl is in
    (both.0, lines_are_items (suc k) lines both.1)

texts_have_lines : (lines : List (List ℕ)) → All HasNoLf lines → AllByRecursion HasLines (map Text lines ++ End 1 ∷ [])
texts_have_lines [] all = (tt, tt)
texts_have_lines (line ∷ lines) all =
    (all 0 line (omega arith), texts_have_lines lines (λ k d low. all (suc k) d (omega (arith, low))))

-- ---- the laws

-- the first header with users, flags and description keeps the rules and has a spelling
header_rules : (words : AdminWords) (stamp : Stamp) (texts : NewTexts) (rules : NewRules) → HasRules words texts rules
    → IsHeader (new_header words stamp rules)
header_rules words stamp texts rules has =
    header_kept (first_header words stamp rules.count) words.add words.erase words.set words.unset rules.flags
    rules.description (first_rules words stamp rules.count) has.flags
    (described_bare words.description [] rules.description texts.description tt has.description)

pub rules_spelled : (words : AdminWords) (stamp : Stamp) (rules : NewRules)
    → IsSpelled (first_header words stamp rules.count) → AreRules words rules → IsSpelled (new_header words stamp rules)
rules_spelled words stamp rules spelled are = spelled_kept (first_header words stamp rules.count) words.add words.erase
    words.set words.unset rules.flags rules.description spelled are.flags are.description

-- the same of its parts
pub spelled_as : (words : AdminWords) (stamp : Stamp) (rules : NewRules) (first : Header) (users : List (List ℕ))
    → first ≡ first_header words stamp rules.count → IsSpelled first → AreRules words rules
    → users ≡ changed_users first.users words.add words.erase
    → IsSpelled (with_rules first users rules.flags rules.description)
spelled_as words stamp rules first users is spelled are same =
    subst (λ (us : List (List ℕ)). IsSpelled (with_rules first us rules.flags rules.description)) (sym same)
    (spelled_kept first words.add words.erase words.set words.unset rules.flags rules.description spelled
    (subst (λ (h : Header). changed_flags h.flags words.set words.unset ≡ Ok rules.flags) (sym is) are.flags)
    are.description)

pub new_file_again : (words : AdminWords) (stamp : Stamp) (texts : NewTexts) (rules : NewRules)
    → AreAdminValues words stamp → IsLogin stamp.login → IfSome words.comment AreLines → AreLines words.mrs
    → new_rules words texts ≡ Ok rules
    → IsSFile (canonical (new_header words stamp rules) (new_items (text_of texts.text))) (new_header words stamp rules)
    (new_items (text_of texts.text))
new_file_again words stamp texts rules valid login lines mrs is =
    let has = rules_are words texts rules is in
    canonical_again (new_header words stamp rules) (new_items (text_of texts.text))
    (header_rules words stamp texts rules has)
    (rules_spelled words stamp rules (first_spelled words stamp rules.count valid login lines mrs)
    (rules_hold words texts rules is)) (
      (omega arith, omega arith),
      lines_are_items 0 (text_of texts.text) (none_bad (text_of texts.text)
          (bad_line 0 (text_of texts.text)) rules.count has.count),
    )
    (tt, texts_have_lines (text_of texts.text) (text_fit texts.text))
    (items_go_on (text_of texts.text))

shown_line : (line : List ℕ) (before : List Item) (rest shown : List (List ℕ)) → IsOpen before → rest ≡ shown
    → front_if (has (1 ∷ []) (inserter before) && not (share (deleters before) (1 ∷ []))) line rest ≡ line ∷ shown
shown_line line before rest shown is same =
    ap (λ (ns : List ℕ). front_if (has (1 ∷ []) (first ns) && not (share (deleters before) (1 ∷ []))) line rest)
    is.inserters
    ∙ (ap (λ (ns : List ℕ). front_if (has (1 ∷ []) 1 && not (share ns (1 ∷ []))) line rest) is.deleters
    ∙ ap (λ (texts : List (List ℕ)). line ∷ texts) same)

lines_shown : (before : List Item) (lines : List (List ℕ)) → IsOpen before
    → select (1 ∷ []) (lines_behind before (map Text lines ++ End 1 ∷ [])) ≡ lines
lines_shown before [] is = refl
lines_shown before (line ∷ lines) is = shown_line line before _ lines is (lines_shown (Text line ∷ before) lines
    (behind_text line before is))

pub new_version : (lines : List (List ℕ)) → select (1 ∷ []) (lines_of (new_items lines)) ≡ lines
new_version lines = lines_shown (Insert 1 ∷ []) lines begun
