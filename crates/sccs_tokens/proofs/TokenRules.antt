-- What a line says keeps, by itself, the rules on what it says.
use Rattle.std.proofs.Common.{◌≡◌, ℕ, zero, suc, ◌+◌, ◌*◌, ◌-◌, ◌^◌, ◌<◌, ◌≤◌, ◌==◌, nat_lt, ◌⊎◌, inl, inr, Bool, true}
use Rattle.std.proofs.Common.{false, ◌&&◌, ◌||◌, List, [], ◌∷◌, Option, Some, None, Result, Ok, Err, refl, arith}
use Rattle.std.proofs.Common.{sub-one}
use Rattle.std.specs.Prelude.{option_map, if◌then◌else◌}
use Rattle.std.specs.List.{AllByRecursion}
use Rattle.std.specs.Option.{IfSome}
use Rattle.std.specs.Result.{IfOk}
use Rattle.std.proofs.lemmas.Bool.{and_parts, cases_Bool, ltb-true, ltb-false}
use Rattle.sccs_base.specs.Login.{is_login}
use Rattle.sccs_sid.specs.Reading.{only, whole, is_empty as empty, digits_after, number_at, byte_at, number}
use Rattle.sccs_sid.specs.Sid.{sid_of}
use Rattle.sccs_sid.specs.Moment.{moment_of}
use Rattle.sccs_sid.proofs.Digits.{room, room_none}
use Rattle.std.proofs.Math.Nat.{le_trans}
use Rattle.sccs_history.specs.Numbers.{is_empty, share}
use Rattle.sccs_sid.specs.SidLists.{begins}
use Rattle.sccs_history.specs.History.{NamesSmaller}
use Rattle.sccs_sid.specs.Words.{◌>>=◌, one, found, begins_blank, ends_blank, skip_blanks, kept, drop_blanks, words}
use Rattle.sccs_sid.specs.Words.{three}
use Rattle.sccs_tokens.specs.Tokens.{serial, predecessor, is_removed, delta_of, delta_token, count_token, plain_serial}
use Rattle.sccs_tokens.specs.Tokens.{serials, is_set_off, listed, text, flag, serial_field, control, behind_soh, token}
use Rattle.sccs_history.specs.declared.headers.Record.{Record}
use Rattle.sccs_history.specs.declared.headers.Flag.{Flag}
use Rattle.sccs_tokens.specs.Written.{delta_part}
use Rattle.sccs_tokens.specs.declared.line_tokens.LineToken.{LineToken}
use Rattle.sccs_tokens.specs.declared.line_tokens.LineToken.TheVariants.{Counts, Delta, Listed, Mr, Comment, EndEntry}
use Rattle.sccs_tokens.specs.declared.line_tokens.LineToken.TheVariants.{Users, EndUsers, FlagIs, Description}
use Rattle.sccs_tokens.specs.declared.line_tokens.LineToken.TheVariants.{EndDescription, Insert, Delete, End, Plain}
use Rattle.sccs_tokens.specs.declared.line_tokens.ListKind.{ListKind}
use Rattle.sccs_tokens.specs.declared.line_tokens.ListKind.TheVariants.{Included, Excluded, Ignored}

-- counts have at most five digits, a delta line says no lists, serials are positive, a flag's text has no blanks at its
-- ends, and a line of text doesn't begin with SOH
abbrev pub IsValidToken : LineToken → Type 0
IsValidToken (Counts i d u) = (i ≤ 99999) × (d ≤ 99999) × (u ≤ 99999)
IsValidToken (Delta r) =
    (0 < r.serial) × NamesSmaller r.serial r.include × NamesSmaller r.serial r.exclude × NamesSmaller r.serial r.ignore
    × (share r.include r.exclude ≡ false)
IsValidToken (Listed which ns) = AllByRecursion (λ n. 0 < n) ns
IsValidToken (FlagIs f) = (begins_blank f.text ≡ false) × (ends_blank f.text ≡ false)
IsValidToken (Plain t) = begins 1 t ≡ false
IsValidToken _ = Unit {0}

abbrev Well : Option LineToken → Type 0
Well o = IfSome o IsValidToken

-- ---- steps of reading

pub then_some : {A B : Type 0} (P : A → Type 0) (Q : B → Type 0) (o : Option A) (f : A → Option B) → IfSome o P
    → ((a : A) → P a → IfSome (f a) Q) → IfSome (o >>= f) Q
then_some P Q None f h more = tt
then_some P Q (Some a) f h more = more a h

-- the same where nothing is known of the first value
pub then_any : {A B : Type 0} (Q : B → Type 0) (o : Option A) (f : A → Option B) → ((a : A) → IfSome (f a) Q)
    → IfSome (o >>= f) Q
then_any Q None f more = tt
then_any Q (Some a) f more = more a

pub only_so : {A : Type 0} (P : A → Type 0) (t : Bool) (x : A) → (t ≡ true → P x) → IfSome (only t x) P
only_so P true x h = h refl
only_so P false x h = tt

pub either : {A : Type 0} (P : A → Type 0) (t : Bool) (a b : Option A) → IfSome a P → IfSome b P
    → IfSome (if t then a else b) P
either P true a b first second = first
either P false a b first second = second

-- the same where the first is chosen only if the test holds
either_so : {A : Type 0} (P : A → Type 0) (t : Bool) (a b : Option A) → (t ≡ true → IfSome a P) → IfSome b P
    → IfSome (if t then a else b) P
either_so P true a b first second = first refl
either_so P false a b first second = second

pub found_so : {A E : Type 0} (P : A → Type 0) (r : Result A E) → IfOk r P → IfSome (found r) P
found_so P (Ok x) h = h
found_so P (Err e) h = tt

-- ---- numbers

digit_small : (most high b : ℕ) (bytes : List ℕ) → (nat_lt b 48 ≡ true) ⊎ (nat_lt b 48 ≡ false) → (nat_lt 57 b ≡ true)
    ⊎ (nat_lt 57 b ≡ false)
    → ((digits_after most (high * 10 + (b - 48)) bytes).0 + 1 ≤ ((high * 10 + (b - 48)) + 1) * 10 ^ most)
    → (digits_after (suc most) high (b ∷ bytes)).0 + 1 ≤ (high + 1) * 10 ^ (suc most)
unfolding digits_after
digit_small most high b bytes (inl low) over h = rw low (room_none high (suc most))
digit_small most high b bytes (inr least) (inl over) h = rw (least, over) (room_none high (suc most))
digit_small most high b bytes (inr least) (inr greatest) h =
    let nine : b - 48 < 10 = let top : b ≤ 57 = ltb-false 57 b greatest in omega arith in
    let grown = rw sub-one at (room high (suc most) (b - 48) (omega arith) nine) in
    rw (least, greatest) (le_trans h grown)

pub digits_small : (most high : ℕ) (bytes : List ℕ) → (digits_after most high bytes).0 + 1 ≤ (high + 1) * 10 ^ most
unfolding digits_after
digits_small zero high bytes = room_none high 0
digits_small (suc most) high [] = room_none high (suc most)
digits_small (suc most) high (b ∷ bytes) =
    digit_small most high b bytes (cases_Bool (nat_lt b 48)) (cases_Bool (nat_lt 57 b))
    (digits_small most (high * 10 + (b - 48)) bytes)

first_small : (b : ℕ) (bytes : List ℕ) → (nat_lt b 48 ≡ true) ⊎ (nat_lt b 48 ≡ false) → (nat_lt 57 b ≡ true)
    ⊎ (nat_lt 57 b ≡ false) → IfOk (number_at 5 (b ∷ bytes)) (λ x. x.0 ≤ 99999)
unfolding number_at
first_small b bytes (inl low) over = rw low tt
first_small b bytes (inr least) (inl over) = rw (least, over) tt
first_small b bytes (inr least) (inr greatest) =
    let top : b ≤ 57 = ltb-false 57 b greatest in
    let small : (digits_after 4 (b - 48) bytes).0 + 1 ≤ ((b - 48) + 1) * 10000 = digits_small 4 (b - 48) bytes in
    rw (least, greatest) (omega arith)

-- a number of at most five digits
number_small : (bytes : List ℕ) → IfOk (number_at 5 bytes) (λ x. x.0 ≤ 99999)
unfolding number_at
number_small [] = tt
number_small (b ∷ bytes) = first_small b bytes (cases_Bool (nat_lt b 48)) (cases_Bool (nat_lt 57 b))

whole_small : (r : Result (ℕ × List ℕ) ℕ) → IfOk r (λ x. x.0 ≤ 99999) → IfSome (whole r) (λ n. n ≤ 99999)
whole_small (Ok x) h = only_so (λ n. n ≤ 99999) (empty x.1) x.0 (λ is. h)
whole_small (Err left) h = tt

AreSmall : ℕ × ℕ × ℕ → Type 0
AreSmall n = (n.0 ≤ 99999) × (n.1 ≤ 99999) × (n.2 ≤ 99999)

three_small : (word : List ℕ) → IfSome (three 5 47 word) AreSmall
unfolding three number AreSmall
three_small word =
    then_some (λ x. x.0 ≤ 99999) AreSmall (found (number_at 5 word)) _ (found_so (λ x. x.0 ≤ 99999) (number_at 5 word)
    (number_small word)) λ a small_a.
    then_any AreSmall (found (byte_at 47 a.1)) _ λ after_a.
    then_some (λ x. x.0 ≤ 99999) AreSmall (found (number_at 5 after_a)) _ (found_so (λ x. x.0 ≤ 99999)
    (number_at 5 after_a) (number_small after_a)) λ b small_b.
    then_any AreSmall (found (byte_at 47 b.1)) _ λ after_b.
    then_some (λ n. n ≤ 99999) AreSmall (number 5 after_b) _ (whole_small (number_at 5 after_b) (number_small after_b))
    λ c small_c. (small_a, small_b, small_c)

counts_well : (ws : List (List ℕ)) → Well (count_token ws)
unfolding count_token AreSmall
counts_well ws = then_any IsValidToken (one ws) _ λ word. then_some AreSmall IsValidToken (three 5 47 word) _
    (three_small word) λ n small. small

-- ---- serials

serial_some : (word : List ℕ) → IfSome (serial word) (λ n. 0 < n)
unfolding serial
serial_some word =
    then_any (λ n. 0 < n) (number 5 word) _ λ n. only_so (λ n. 0 < n) (nat_lt 0 n && nat_lt n 65536) n λ is.
    ltb-true 0 n (and_parts (nat_lt 0 n) (nat_lt n 65536) is).0

plain_some : (word : List ℕ) → IfSome (plain_serial word) (λ n. 0 < n)
plain_some [] = tt
plain_some (b ∷ word) = either (λ n. 0 < n) (b == 48) None (serial (b ∷ word)) tt (serial_some (b ∷ word))

-- serials above 0
AreSome : List ℕ → Type 0
AreSome ns = AllByRecursion (λ n. 0 < n) ns

serials_some : (ws : List (List ℕ)) → IfSome (serials ws) AreSome
unfolding serials AreSome
serials_some [] = tt
serials_some (word ∷ ws) =
    then_some (λ n. 0 < n) AreSome (plain_serial word) _ (plain_some word) λ n some. then_some AreSome AreSome
    (serials ws) _ (serials_some ws) λ ns are. (some, are)

listed_some : (bytes : List ℕ) → IfSome (listed bytes) AreSome
unfolding listed AreSome
listed_some bytes =
    either AreSome (is_empty (skip_blanks bytes)) (Some []) _ tt (either AreSome (is_set_off bytes)
    (serials (words bytes)) None (serials_some (words bytes)) tt)

list_of : (which : ListKind) (o : Option (List ℕ)) → IfSome o AreSome → Well (option_map (Listed which) o)
unfolding AreSome
list_of which None are = tt
list_of which (Some ns) are = are

-- ---- a delta line

delta_of_well : (kind sid date time login own before : List ℕ) → Well (delta_of kind sid date time login own before)
unfolding delta_of
delta_of_well kind sid date time login own before =
    then_any IsValidToken (is_removed kind) _ λ removed.
    then_any IsValidToken (found (sid_of sid)) _ λ s.
    then_any IsValidToken (found (moment_of date time)) _ λ m.
    then_any IsValidToken (only (is_login login) login) _ λ who.
    then_some (λ n. 0 < n) IsValidToken (serial own) _ (serial_some own) λ n some.
    then_any IsValidToken (predecessor before) _ λ p. (some, tt, tt, tt, refl)

delta_well : (ws : List (List ℕ)) → Well (delta_token ws)
delta_well (kind ∷ sid ∷ date ∷ time ∷ login ∷ own ∷ before ∷ []) = delta_of_well kind sid date time login own before
delta_well _ = tt

-- ---- a flag

kept_ends : (b : ℕ) (rest : List ℕ) → (b == 32 ≡ true) ⊎ (b == 32 ≡ false) → ends_blank rest ≡ false
    → ends_blank (kept b rest) ≡ false
unfolding ends_blank
kept_ends b [] (inl is) h = rw is refl
kept_ends b [] (inr other) h = rw (other, other) refl
kept_ends b (c ∷ rest) is h = h

drop_ends : (bytes : List ℕ) → ends_blank (drop_blanks bytes) ≡ false
unfolding drop_blanks ends_blank
drop_ends [] = refl
drop_ends (b ∷ bytes) = kept_ends b (drop_blanks bytes) (cases_Bool (b == 32)) (drop_ends bytes)

kept_begins : (b : ℕ) (rest : List ℕ) → b == 32 ≡ false → begins_blank (kept b rest) ≡ false
kept_begins b [] other = rw (other, other) refl
kept_begins b (c ∷ rest) other = other

drop_begins : (bytes : List ℕ) → begins_blank bytes ≡ false → begins_blank (drop_blanks bytes) ≡ false
unfolding drop_blanks
drop_begins [] is = refl
drop_begins (b ∷ bytes) other = kept_begins b (drop_blanks bytes) other

skipped_one : (b : ℕ) (bytes : List ℕ) → (b == 32 ≡ true) ⊎ (b == 32 ≡ false) → begins_blank (skip_blanks bytes) ≡ false
    → begins_blank (skip_blanks (b ∷ bytes)) ≡ false
unfolding skip_blanks
skipped_one b bytes (inl is) rest = rw is rest
skipped_one b bytes (inr other) rest = rw (other, other) refl

skipped : (bytes : List ℕ) → begins_blank (skip_blanks bytes) ≡ false
unfolding skip_blanks
skipped [] = refl
skipped (b ∷ bytes) = skipped_one b bytes (cases_Bool (b == 32)) (skipped bytes)

flag_well : (bytes : List ℕ) → Well (flag bytes)
flag_well [] = tt
flag_well (letter ∷ bytes) =
    only_so IsValidToken (is_empty bytes || begins_blank bytes)
    (FlagIs (record { letter = letter; text = drop_blanks (skip_blanks bytes) })) λ is.
    (drop_begins (skip_blanks bytes) (skipped bytes), drop_ends (skip_blanks bytes))

-- ---- a line

-- what each kind of line that has a letter behind SOH says keeps P
pub record EachKeeps (P : LineToken → Type 0) (letter : ℕ) (bytes : List ℕ) : Type 0 where
  pub on_counts : IfSome (count_token (words bytes)) P
  pub on_delta : IfSome (delta_token (words bytes)) P
  pub on_list : (which : ListKind) → IfSome (option_map (Listed which) (listed bytes)) P
  pub on_mr : IfSome (option_map Mr (text bytes)) P
  pub on_comment : IfSome (option_map Comment (text bytes)) P
  pub on_flag : IfSome (flag (skip_blanks bytes)) P
  pub on_end_entry : P EndEntry
  pub on_users : P Users
  pub on_end_users : P EndUsers
  pub on_description : P Description
  pub on_end_description : P EndDescription
  pub on_insert : letter == 73 ≡ true → (n : ℕ) → P (Insert n)
  pub on_delete : letter == 68 ≡ true → (n : ℕ) → P (Delete n)
  pub on_end : letter == 69 ≡ true → (n : ℕ) → P (End n)

mapped : (P : LineToken → Type 0) (f : ℕ → LineToken) (o : Option ℕ) → ((n : ℕ) → P (f n)) → IfSome (option_map f o) P
mapped P f None h = tt
mapped P f (Some n) h = h n

pub control_keeps : (P : LineToken → Type 0) (letter : ℕ) (bytes : List ℕ) → EachKeeps P letter bytes
    → IfSome (control letter bytes) P
unfolding control
control_keeps P letter bytes each =
    let alone : (s : LineToken) → P s → IfSome (only (is_empty bytes) s) P = λ s here. only_so P (is_empty bytes) s
    (λ is. here) in
    either P (letter == 115) _ _ (either P (is_set_off bytes) _ None each.on_counts tt)
    (either P (letter == 100) _ _ (either P (begins_blank bytes) _ None each.on_delta tt)
    (either P (letter == 105) _ _ (each.on_list Included)
    (either P (letter == 120) _ _ (each.on_list Excluded)
    (either P (letter == 103) _ _ (each.on_list Ignored)
    (either P (letter == 109) _ _ each.on_mr
    (either P (letter == 99) _ _ each.on_comment
    (either P (letter == 101) _ _ (alone EndEntry each.on_end_entry)
    (either P (letter == 117) _ _ (alone Users each.on_users)
    (either P (letter == 85) _ _ (alone EndUsers each.on_end_users)
    (either P (letter == 102) _ _ (either P (begins_blank bytes) _ None each.on_flag tt)
    (either P (letter == 116) _ _ (alone Description each.on_description)
    (either P (letter == 84) _ _ (alone EndDescription each.on_end_description)
    (either_so P (letter == 73) _ _ (λ is. mapped P Insert (serial_field bytes) (each.on_insert is))
    (either_so P (letter == 68) _ _ (λ is. mapped P Delete (serial_field bytes) (each.on_delete is))
    (either_so P (letter == 69) _ None (λ is. mapped P End (serial_field bytes) (each.on_end is)) tt)))))))))))))))

-- what is token of each kind keeps P, whatever bytes say it
pub record KindsKeep (P : LineToken → Type 0) : Type 0 where
  pub counts : (i d u : ℕ) → P (Counts i d u)
  pub delta : (r : Record) → delta_part r ≡ r → P (Delta r)
  pub listed : (which : ListKind) (ns : List ℕ) → P (Listed which ns)
  pub mr : (t : List ℕ) → P (Mr t)
  pub comment : (t : List ℕ) → P (Comment t)
  pub flag : (f : Flag) → P (FlagIs f)
  pub end_entry : P EndEntry
  pub users : P Users
  pub end_users : P EndUsers
  pub description : P Description
  pub end_description : P EndDescription

made : {A : Type 0} (P : LineToken → Type 0) (f : A → LineToken) (o : Option A) → ((x : A) → P (f x))
    → IfSome (option_map f o) P
made P f None each = tt
made P f (Some x) each = each x

counts_keep : (P : LineToken → Type 0) (ws : List (List ℕ)) → KindsKeep P → IfSome (count_token ws) P
unfolding count_token
counts_keep P ws kinds = then_any P (one ws) _ λ word. then_any P (three 5 47 word) _ λ n. kinds.counts n.0 n.1 n.2

delta_of_keeps : (P : LineToken → Type 0) (kind sid date time login own before : List ℕ) → KindsKeep P
    → IfSome (delta_of kind sid date time login own before) P
unfolding delta_of
delta_of_keeps P kind sid date time login own before kinds =
    then_any P (is_removed kind) _ λ removed.
    then_any P (found (sid_of sid)) _ λ s.
    then_any P (found (moment_of date time)) _ λ m.
    then_any P (only (is_login login) login) _ λ who.
    then_any P (serial own) _ λ n.
    then_any P (predecessor before) _ λ p. kinds.delta _ refl

delta_keeps : (P : LineToken → Type 0) (ws : List (List ℕ)) → KindsKeep P → IfSome (delta_token ws) P
delta_keeps P (kind ∷ sid ∷ date ∷ time ∷ login ∷ own ∷ before ∷ []) kinds =
    delta_of_keeps P kind sid date time login own before kinds
delta_keeps P _ kinds = tt

flag_keeps : (P : LineToken → Type 0) (bytes : List ℕ) → KindsKeep P → IfSome (flag bytes) P
flag_keeps P [] kinds = tt
flag_keeps P (letter ∷ bytes) kinds =
    only_so P _ (FlagIs (record { letter = letter; text = drop_blanks (skip_blanks bytes) })) λ is. kinds.flag _

pub each_of_kinds : (P : LineToken → Type 0) (letter : ℕ) (bytes : List ℕ) → KindsKeep P
    → (letter == 73 ≡ true → (n : ℕ) → P (Insert n)) → (letter == 68 ≡ true → (n : ℕ) → P (Delete n))
    → (letter == 69 ≡ true → (n : ℕ) → P (End n)) → EachKeeps P letter bytes
each_of_kinds P letter bytes kinds insert delete end = record {
  on_counts = counts_keep P (words bytes) kinds;
  on_delta = delta_keeps P (words bytes) kinds;
  on_list = λ which. made P (Listed which) (listed bytes) (kinds.listed which);
  on_mr = made P Mr (text bytes) kinds.mr;
  on_comment = made P Comment (text bytes) kinds.comment;
  on_flag = flag_keeps P (skip_blanks bytes) kinds;
  on_end_entry = kinds.end_entry;
  on_users = kinds.users;
  on_end_users = kinds.end_users;
  on_description = kinds.description;
  on_end_description = kinds.end_description;
  on_insert = insert;
  on_delete = delete;
  on_end = end;
}

text_well : (f : List ℕ → LineToken) (o : Option (List ℕ)) → ((t : List ℕ) → IsValidToken (f t)) → Well (option_map f o)
text_well f None h = tt
text_well f (Some t) h = h t

each_well : (letter : ℕ) (bytes : List ℕ) → EachKeeps IsValidToken letter bytes
each_well letter bytes = record {
  on_counts = counts_well (words bytes);
  on_delta = delta_well (words bytes);
  on_list = λ which. list_of which (listed bytes) (listed_some bytes);
  on_mr = text_well Mr (text bytes) (λ t. tt);
  on_comment = text_well Comment (text bytes) (λ t. tt);
  on_flag = flag_well (skip_blanks bytes);
  on_end_entry = tt;
  on_users = tt;
  on_end_users = tt;
  on_description = tt;
  on_end_description = tt;
  on_insert = λ is n. tt;
  on_delete = λ is n. tt;
  on_end = λ is n. tt;
}

-- a line keeps P where a control line does, and a line of text
pub line_keeps : (P : LineToken → Type 0) (line : List ℕ) → ((letter : ℕ) (bytes : List ℕ) → EachKeeps P letter bytes)
    → ((t : List ℕ) → begins 1 t ≡ false → P (Plain t)) → IfSome (token line) P
unfolding token
line_keeps P [] each plain = plain [] refl
line_keeps P (b ∷ bytes) each plain = by_first (b == 1) refl
  where
    behind : (bs : List ℕ) → IfSome (behind_soh bs) P
    behind [] = tt
    behind (letter ∷ bs) = control_keeps P letter bs (each letter bs)

    by_first : (t : Bool) → (b == 1) ≡ t → IfSome (if t then behind_soh bytes else Some (Plain (b ∷ bytes))) P
    by_first true is = behind bytes
    by_first false is = plain (b ∷ bytes) is

pub token_well : (line : List ℕ) → IfSome (token line) IsValidToken
token_well line = line_keeps IsValidToken line each_well (λ t is. is)
