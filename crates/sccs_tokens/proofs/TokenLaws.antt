-- What a written line says.
use Rattle.std.proofs.Common.{◌≡◌, ◌≢◌, ℕ, ◌+◌, ◌/◌, ◌%◌, ◌<◌, inl, true, false, ◌||◌, List, [], ◌∷◌, ◌++◌, map, get_or}
use Rattle.std.proofs.Common.{Ok, Some, refl, ap, ◌∙◌, arith, nat_le, lit<, lit≤}
use Rattle.std.specs.Prelude.{decimal, option_map}
use Rattle.std.specs.List.{AllByRecursion}
use Rattle.std.specs.Char.{digit_value}
use Rattle.std.specs.Str.Parse.{digits_value, AllDigits}
use Rattle.std.specs.Int.Digits.{digits_of}
use Rattle.std.proofs.lemmas.Bool.{lt-ltb, ne_eqb, and_parts, leb-true}
use Rattle.std.proofs.lemmas.Str.{digit_value_digit}
use Rattle.std.proofs.lemmas.Fmt.{decimal-digits_of}
use Rattle.std.proofs.lemmas.Int.Digits.{first_digits_of}
use Rattle.sccs_sid.specs.SidLists.{begins}
use Rattle.sccs_history.specs.History.{IsFlag}
use Rattle.sccs_history.specs.declared.headers.Item.TheVariants as item
use Rattle.sccs_history.specs.declared.headers.Flag.{Flag}
use Rattle.sccs_sid.specs.Reading.{number_at, byte_at, number, skip}
use Rattle.sccs_history.specs.Numbers.{is_empty}
use Rattle.sccs_sid.specs.Words.{begins_blank, ends_blank, skip_blanks, drop_blanks, three}
use Rattle.sccs_tokens.specs.Tokens.{drop_zeros, serial, count_token, serials, plain_serial, listed, is_set_off, text}
use Rattle.sccs_tokens.specs.Tokens.{flag, serial_field, control, token}
use Rattle.sccs_tokens.specs.Written.{IsSerial, spaced, five, behind_blank, counts_line, mr_line, comment_line}
use Rattle.sccs_tokens.specs.Written.{flag_line, item_line}
use Rattle.sccs_tokens.specs.declared.line_tokens.LineToken.TheVariants.{Counts, Listed, Mr, Comment, FlagIs, Insert}
use Rattle.sccs_tokens.specs.declared.line_tokens.LineToken.TheVariants.{Delete, End, Plain}
use Rattle.sccs_tokens.specs.declared.line_tokens.ListKind.TheVariants.{Included, Excluded, Ignored}
use Rattle.sccs_tokens.proofs.WordLaws.{IsWord, HasNoBlank, words_again, spaced-ends}
use Rattle.sccs_tokens.proofs.NumberLaws.{Stops, numeral_again, whole_number, decimal_word}

pub token_plain : (t : List ℕ) → begins 1 t ≡ false → token t ≡ Some (Plain t)
unfolding token
token_plain [] is = refl
token_plain (b ∷ bytes) is = rw is refl

-- ---- serials

abbrev pub LeadsOther : List ℕ → Type 0
LeadsOther [] = ⊥
LeadsOther (b ∷ bytes) = b ≢ 48

leads_mapped : (ds : List ℕ) → 0 < get_or ds 0 0 → LeadsOther (map (λ d. 48 + d) ds)
leads_mapped [] some = absurd (omega arith)
leads_mapped (d ∷ ds) some = λ is. omega arith

pub decimal_leads : (n : ℕ) → IsSerial n → LeadsOther (decimal n)
decimal_leads n is =
    rw (decimal-digits_of n is.0 (omega arith)) (leads_mapped (digits_of 10 n)
    (first_digits_of 10 n (omega arith) is.0))

pub serial_again : (n : ℕ) → IsSerial n → serial (decimal n) ≡ Some n
unfolding serial
serial_again n is =
    rw (whole_number 5 n (omega arith) (omega arith) (omega arith), lt-ltb 0 n is.0, lt-ltb n 65536 is.1) refl

no_zeros : (word : List ℕ) → LeadsOther word → drop_zeros word ≡ word
unfolding skip
no_zeros [] leads = absurd leads
no_zeros (b ∷ word) leads = rw (ne_eqb b 48 leads) refl

plain_is : (word : List ℕ) → LeadsOther word → plain_serial word ≡ serial word
plain_is [] leads = absurd leads
plain_is (b ∷ word) leads = rw (ne_eqb b 48 leads) refl

set_off : (w : List ℕ) (ws : List (List ℕ)) → AllByRecursion IsWord (w ∷ ws) → is_set_off (spaced (w ∷ ws)) ≡ true
set_off w ws are = rw (spaced-ends w ws are) refl

decimal_words : (ns : List ℕ) → AllByRecursion IsSerial ns → AllByRecursion IsWord (map decimal ns)
decimal_words [] are = tt
decimal_words (n ∷ ns) are = (decimal_word n (omega (arith, are.0.1)), decimal_words ns are.1)

serial_field_again : (n : ℕ) → IsSerial n → serial_field (spaced (decimal n ∷ [])) ≡ Some n
unfolding serial_field
serial_field_again n is =
    let are = decimal_words (n ∷ []) (is, tt) in
    rw (set_off (decimal n) [] are, words_again (decimal n ∷ []) are) (rw (no_zeros (decimal n) (decimal_leads n is))
    (serial_again n is))

pub token_insert : (n : ℕ) → IsSerial n → token (item_line (item.Insert n)) ≡ Some (Insert n)
unfolding token control
token_insert n is = ap (option_map Insert) (serial_field_again n is)

pub token_delete : (n : ℕ) → IsSerial n → token (item_line (item.Delete n)) ≡ Some (Delete n)
unfolding token control
token_delete n is = ap (option_map Delete) (serial_field_again n is)

pub token_end : (n : ℕ) → IsSerial n → token (item_line (item.End n)) ≡ Some (End n)
unfolding token control
token_end n is = ap (option_map End) (serial_field_again n is)

-- ---- lists

serials_again : (ns : List ℕ) → AllByRecursion IsSerial ns → serials (map decimal ns) ≡ Some ns
unfolding serials
serials_again [] are = refl
serials_again (n ∷ ns) are =
    rw (plain_is (decimal n) (decimal_leads n are.0), serial_again n are.0, serials_again ns are.1) refl

skips_word : (w rest : List ℕ) → IsWord w → is_empty (skip_blanks (w ++ rest)) ≡ false
unfolding skip_blanks
skips_word [] rest is = absurd is
skips_word (b ∷ w) rest is = rw (ne_eqb b 32 is.0) refl

listed_again : (n : ℕ) (ns : List ℕ) → AllByRecursion IsSerial (n ∷ ns) → listed (spaced (map decimal (n ∷ ns))) ≡ Some
    (n ∷ ns)
unfolding listed skip_blanks
listed_again n ns are =
    let ws = decimal_words (n ∷ ns) are in
    rw (
      skips_word (decimal n) (spaced (map decimal ns)) ws.0,
      set_off (decimal n) (map decimal ns) ws,
      words_again
          (map decimal (n ∷ ns)) ws,
    ) (serials_again (n ∷ ns) are)

-- the line of each kind of list, where the list isn't empty
pub token_include : (n : ℕ) (ns : List ℕ) → AllByRecursion IsSerial (n ∷ ns)
    → token (1 ∷ 105 ∷ spaced (map decimal (n ∷ ns))) ≡ Some (Listed Included (n ∷ ns))
unfolding token control
token_include n ns are = ap (option_map (Listed Included)) (listed_again n ns are)

pub token_exclude : (n : ℕ) (ns : List ℕ) → AllByRecursion IsSerial (n ∷ ns)
    → token (1 ∷ 120 ∷ spaced (map decimal (n ∷ ns))) ≡ Some (Listed Excluded (n ∷ ns))
unfolding token control
token_exclude n ns are = ap (option_map (Listed Excluded)) (listed_again n ns are)

pub token_ignore : (n : ℕ) (ns : List ℕ) → AllByRecursion IsSerial (n ∷ ns)
    → token (1 ∷ 103 ∷ spaced (map decimal (n ∷ ns))) ≡ Some (Listed Ignored (n ∷ ns))
unfolding token control
token_ignore n ns are = ap (option_map (Listed Ignored)) (listed_again n ns are)

-- ---- MRs, comments

text_again : (t : List ℕ) → text (behind_blank t) ≡ Some t
text_again [] = refl
text_again (b ∷ bytes) = refl

pub token_mr : (t : List ℕ) → token (mr_line t) ≡ Some (Mr t)
unfolding token control
token_mr t = ap (option_map Mr) (text_again t)

pub token_comment : (t : List ℕ) → token (comment_line t) ≡ Some (Comment t)
unfolding token control
token_comment t = refl

-- ---- counts

digit_fits : (d : ℕ) → d < 10 → digit_value (48 + d) ≡ d
digit_fits d low = let is = digit_value_digit (48 + d) (omega arith, omega arith) in omega arith

five_digits : (n : ℕ) → AllDigits 10 (five n)
five_digits n =
    let fits : (d : ℕ) → d < 10 → digit_value (48 + d) < 10 = λ d low. rw (digit_fits d low) low in (
      fits (n / 10000 % 10) (omega arith),
      (
        fits (n / 1000 % 10) (omega arith),
        (
          fits (n / 100 % 10) (omega arith),
          (fits (n / 10 % 10) (omega arith), (fits (n % 10) (omega arith), tt)),
        ),
      ),
    )

five_value : (n : ℕ) → n < 100000 → digits_value 10 (five n) ≡ n
five_value n small =
    rw (
      digit_fits (n / 10000 % 10) (omega arith),
      digit_fits (n / 1000 % 10) (omega arith),
      digit_fits (n / 100 % 10)
          (omega arith),
      digit_fits (n / 10 % 10) (omega arith),
      digit_fits (n % 10) (omega arith),
    ) (omega arith)

pub five_again : (n : ℕ) (rest : List ℕ) → n < 100000 → Stops rest → number_at 5 (five n ++ rest) ≡ Ok (n, rest)
five_again n rest small ends =
    numeral_again 5 (five n) rest (lit< tt, five_digits n) (lit≤ tt) ends ∙ ap (λ v. Ok (v, rest)) (five_value n small)

whole_five : (u : ℕ) → u < 100000 → number_at 5 (five u) ≡ Ok (u, [])
whole_five u small = five_again u [] small tt

three_again : (i d u : ℕ) → i < 100000 → d < 100000 → u < 100000 → three 5 47 (five i ++ (47 ∷ five d ++ (47 ∷ five u)))
    ≡ Some (i, d, u)
unfolding three byte_at number
three_again i d u si sd su =
    rw (five_again i (47 ∷ five d ++ (47 ∷ five u)) si (inl (lit< tt)), five_again d (47 ∷ five u) sd (inl (lit< tt)))
    (rw (whole_five u su) refl)

-- ---- flags

pub drop_none : (b : ℕ) (bytes : List ℕ) → ends_blank (b ∷ bytes) ≡ false → drop_blanks (b ∷ bytes) ≡ b ∷ bytes
unfolding drop_blanks ends_blank
drop_none b [] ends = rw ends refl
drop_none b (c ∷ bytes) ends = rw (drop_none c bytes ends) refl

flag_text : (t : List ℕ) → begins_blank t ≡ false → ends_blank t ≡ false → drop_blanks (skip_blanks (behind_blank t))
    ≡ t
unfolding skip_blanks drop_blanks
flag_text [] begins ends = refl
flag_text (b ∷ bytes) begins ends = rw begins (drop_none b bytes ends)

behind_is : (t : List ℕ) → (is_empty (behind_blank t) || begins_blank (behind_blank t)) ≡ true
behind_is [] = refl
behind_is (b ∷ bytes) = refl

flag_again : (letter : ℕ) (t : List ℕ) → begins_blank t ≡ false → ends_blank t ≡ false → flag (letter ∷ behind_blank t)
    ≡ Some (FlagIs (record { letter = letter; text = t }))
flag_again letter t begins ends = rw (behind_is t, flag_text t begins ends) refl

pub token_flag : (f : Flag) → IsFlag f → token (flag_line f) ≡ Some (FlagIs f)
unfolding token control skip_blanks
token_flag f is =
    let low = leb-true 97 f.letter (and_parts (nat_le 97 f.letter) (nat_le f.letter 122) is.letter).0 in
    rw (ne_eqb f.letter 32 (λ e. absurd (omega arith))) (flag_again f.letter f.text is.front is.back)

five_blanks : (n : ℕ) (rest : List ℕ) → HasNoBlank rest → HasNoBlank (five n ++ rest)
five_blanks n rest none = (
  (λ e. absurd (omega arith)),
  (
    (λ e. absurd (omega arith)),
    (
      (λ e. absurd (omega arith)),
      ((λ e. absurd (omega arith)), ((λ e. absurd (omega arith)), none)),
    ),
  ),
)

counts_word : (i d u : ℕ) → IsWord (five i ++ (47 ∷ five d ++ (47 ∷ five u)))
counts_word i d u =
    five_blanks i (47 ∷ five d ++ (47 ∷ five u)) (
      (λ e. absurd (omega arith)),
      five_blanks d (47 ∷ five u)
          ((λ e. absurd (omega arith)), five_blanks u [] tt),
    )

counts_again : (i d u : ℕ) → i < 100000 → d < 100000 → u < 100000
    → count_token ((five i ++ (47 ∷ five d ++ (47 ∷ five u))) ∷ []) ≡ Some (Counts i d u)
unfolding count_token
counts_again i d u si sd su = rw (three_again i d u si sd su) refl

pub token_counts : (i d u : ℕ) → i < 100000 → d < 100000 → u < 100000 → token (counts_line i d u) ≡ Some (Counts i d u)
unfolding token control
token_counts i d u si sd su =
    let is : AllByRecursion IsWord ((five i ++ (47 ∷ five d ++ (47 ∷ five u))) ∷ []) = (counts_word i d u, tt) in
    rw (
      set_off (five i ++ (47 ∷ five d ++ (47 ∷ five u))) [] is,
      words_again
          ((five i ++ (47 ∷ five d ++ (47 ∷ five u))) ∷ []) is,
    ) (counts_again i d u si sd su)
