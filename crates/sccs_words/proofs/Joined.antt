-- Options without a value may be joined in a word or stand apart.
use Rattle.std.proofs.Common.{◌≡◌, ◌≢◌, ℕ, ◌+◌, ◌-◌, ◌==◌, Bool, true, false, List, [], ◌∷◌, ◌++◌, map, Option, None}
use Rattle.std.proofs.Common.{Some, refl, sym, ap, subst, ◌∙◌, cond}
use Rattle.std.proofs.lemmas.List.{map_push}
use Rattle.std.proofs.lemmas.Bool.Decides.{Decides-eqb}
use Rattle.sccs_words.specs.Synopsis.{options_of, find_option}
use Rattle.sccs_words.specs.Scan.{Uses, Kind, Letters, Ends, Operand, CommandLine, used, turn, turn_by, after_turn}
use Rattle.sccs_words.specs.Scan.{letters, word_kind, by_kind, scanned}
use Rattle.sccs_words.specs.Unplaced.{unplaced, SameUses}
use Rattle.sccs_words.specs.declared.tables.OptionSpec.{OptionSpec}
use Rattle.sccs_words.specs.declared.tables.OptionSpec.TheVariants.{Plain, Joined, Valued, Repeated}
use Rattle.sccs_words.specs.declared.tables.Utility.{Utility}
use Rattle.sccs_words.specs.declared.tables.Utility.TheVariants as u
use Rattle.sccs_words.specs.declared.scanning.OptionArgument.TheVariants.{Unknown, Bare, Missing, Value}
use Rattle.sccs_words.specs.declared.scanning.Use.{Use}

-- the same options, and the same letter waits
abbrev SameSoFar : Uses → Uses → Type 0
SameSoFar a b = (map unplaced a.0 ≡ map unplaced b.0) × (a.1 ≡ b.1)

push_same : (xs ys : List Use) (x y : Use) → map unplaced xs ≡ map unplaced ys → unplaced x ≡ unplaced y
    → map unplaced (xs ++ x ∷ []) ≡ map unplaced (ys ++ y ∷ [])
push_same xs ys x y same is =
    map_push unplaced xs x ∙ (ap (λ (prefix : List Use). prefix ++ unplaced x ∷ []) same
    ∙ (ap (λ (z : Use). map unplaced ys ++ z ∷ []) is ∙ sym (map_push unplaced ys y)))

turn_same : (n m b : ℕ) (option : Option OptionSpec) (rest : List ℕ) (xs ys : List Use) (more others : List Use → Uses)
    → ((longer further : List Use) → map unplaced longer ≡ map unplaced further → SameSoFar (more longer)
    (others further))
    → map unplaced xs ≡ map unplaced ys → SameSoFar (after_turn xs (turn_by option b n rest) more)
    (after_turn ys (turn_by option b m rest) others)
turn_same n m b None rest xs ys more others goes same =
    goes _ _ (push_same xs ys (used b n Unknown) (used b m Unknown) same refl)
turn_same n m b (Some (Plain c)) rest xs ys more others goes same =
    goes _ _ (push_same xs ys (used b n Bare) (used b m Bare) same refl)
turn_same n m b (Some (Joined c form)) [] xs ys more others goes same =
    (push_same xs ys (used b n Bare) (used b m Bare) same refl, refl)
turn_same n m b (Some (Joined c form)) (d ∷ rest) xs ys more others goes same =
    (push_same xs ys (used b n (Value (d ∷ rest) n)) (used b m (Value (d ∷ rest) m)) same refl, refl)
turn_same n m b (Some (Valued c form)) [] xs ys more others goes same = (same, refl)
turn_same n m b (Some (Valued c form)) (d ∷ rest) xs ys more others goes same =
    (push_same xs ys (used b n (Value (d ∷ rest) n)) (used b m (Value (d ∷ rest) m)) same refl, refl)
turn_same n m b (Some (Repeated c form)) [] xs ys more others goes same = (same, refl)
turn_same n m b (Some (Repeated c form)) (d ∷ rest) xs ys more others goes same =
    (push_same xs ys (used b n (Value (d ∷ rest) n)) (used b m (Value (d ∷ rest) m)) same refl, refl)

letters_same : (options : List OptionSpec) (n m : ℕ) (bytes : List ℕ) (xs ys : List Use)
    → map unplaced xs ≡ map unplaced ys → SameSoFar (letters options n xs bytes) (letters options m ys bytes)
unfolding letters turn
letters_same options n m [] xs ys same = (same, refl)
letters_same options n m (b ∷ rest) xs ys same =
    turn_same n m b (find_option options b) rest xs ys (λ longer. letters options n longer rest)
    (λ longer. letters options m longer rest) (λ longer further is. letters_same options n m rest longer further is)
    same

kind_same : (n m : ℕ) (xs ys : List Use) (word : List ℕ) (words : List (List ℕ)) (kind : Kind) (more others : List ℕ
    → CommandLine)
    → map unplaced xs ≡ map unplaced ys → ((bytes : List ℕ) → SameUses (more bytes) (others bytes))
    → SameUses (by_kind n xs word words kind more) (by_kind m ys word words kind others)
kind_same n m xs ys word words (Letters bytes) more others same goes = goes bytes
kind_same n m xs ys word words Ends more others same goes = record { uses = same; operands = refl }
kind_same n m xs ys word words Operand more others same goes = record { uses = same; operands = refl }

-- the numbers of the words before don't matter
scan_same : (options : List OptionSpec) (n m : ℕ) (waits : Option ℕ) (words : List (List ℕ)) (xs ys : List Use)
    → map unplaced xs ≡ map unplaced ys → SameUses (scanned options n xs waits words) (scanned options m ys waits words)
unfolding scanned
scan_same options n m (Some letter) [] xs ys same =
    record {
      uses = push_same xs ys (used letter (n - 1) Missing) (used letter (m - 1) Missing) same refl;
      operands =
          refl;
    }
scan_same options n m (Some letter) (word ∷ words) xs ys same =
    scan_same options (n + 1) (m + 1) None words _ _ (push_same xs ys (used letter (n - 1) (Value word n))
    (used letter (m - 1) (Value word m)) same refl)
scan_same options n m None [] xs ys same = record { uses = same; operands = refl }
scan_same options n m None (word ∷ words) xs ys same =
    kind_same n m xs ys word words (word_kind word) _ _ same
    (λ bytes. subst (λ (waits : Option ℕ). SameUses (scanned options (n + 1) (letters options n xs bytes).0
    (letters options n xs bytes).1 words) (scanned options (m + 1) (letters options m ys bytes).0 waits words))
    (letters_same options n m bytes xs ys same).1
    (scan_same options (n + 1) (m + 1) (letters options n xs bytes).1 words (letters options n xs bytes).0
    (letters options m ys bytes).0 (letters_same options n m bytes xs ys same).0))

-- ---- a word of letters, and its first letter

abbrev scan_on : List OptionSpec → ℕ → List (List ℕ) → Uses → CommandLine
scan_on options n words so_far = scanned options n so_far.0 so_far.1 words

scan_letters : (options : List OptionSpec) (n : ℕ) (uses : List Use) (word bytes : List ℕ) (words : List (List ℕ))
    → word_kind word ≡ Letters bytes
    → scanned options n uses None (word ∷ words) ≡ scan_on options (n + 1) words (letters options n uses bytes)
unfolding scanned
scan_letters options n uses word bytes words is = ap (λ (kind : Kind). by_kind n uses word words kind
    (λ bytes. scan_on options (n + 1) words (letters options n uses bytes))) is

letters_plain : (options : List OptionSpec) (n a : ℕ) (uses : List Use) (rest : List ℕ) → find_option options a ≡ Some
    (Plain a) → letters options n uses (a ∷ rest) ≡ letters options n (uses ++ used a n Bare ∷ []) rest
unfolding letters turn
letters_plain options n a uses rest plain = ap (λ (option : Option OptionSpec). after_turn uses
    (turn_by option a n rest) (λ longer. letters options n longer rest)) plain

letters_none : (options : List OptionSpec) (n : ℕ) (uses : List Use) → letters options n uses [] ≡ (uses, None)
unfolding letters
letters_none options n uses = refl

no_end : (b : ℕ) (test : Bool) → (test ≡ true → b ≡ 45) → b ≢ 45 → cond test Ends (Letters (b ∷ [])) ≡ Letters (b ∷ [])
no_end b true is other = absurd (other (is refl))
no_end b false is other = refl

kind_letters : (b : ℕ) (rest : List ℕ) → b ≢ 45 → word_kind (45 ∷ b ∷ rest) ≡ Letters (b ∷ rest)
kind_letters b [] other = no_end b (b == 45) (Decides-eqb b 45).0 other
kind_letters b (c ∷ rest) other = refl

pub same_by : {a b c d : CommandLine} → a ≡ b → c ≡ d → SameUses b d → SameUses a c
same_by {a} {b} {c} {d} left right same =
    record {
      uses = ap (λ (l : CommandLine). map unplaced l.uses) left
          ∙ (same.uses ∙ sym (ap (λ (l : CommandLine). map unplaced l.uses) right));
      operands =
          ap (λ (l : CommandLine). l.operands) left
          ∙ (same.operands ∙ sym (ap (λ (l : CommandLine). l.operands) right));
    }

same_apart : (options : List OptionSpec) (n a b : ℕ) (uses : List Use) (rest : List ℕ) (words : List (List ℕ))
    → find_option options a ≡ Some (Plain a) → a ≢ 45 → b ≢ 45
    → SameUses (scanned options n uses None ((45 ∷ a ∷ b ∷ rest) ∷ words)) (scanned options n uses None
    ((45 ∷ a ∷ []) ∷ (45 ∷ b ∷ rest) ∷ words))
same_apart options n a b uses rest words plain a-other b-other =
    let longer : List Use = uses ++ used a n Bare ∷ [] in
    let joined : scanned options n uses None ((45 ∷ a ∷ b ∷ rest) ∷ words) ≡ scan_on options (n + 1) words
    (letters options n longer (b ∷ rest)) =
    scan_letters options n uses (45 ∷ a ∷ b ∷ rest) (a ∷ b ∷ rest) words refl ∙ ap (scan_on options (n + 1) words)
    (letters_plain options n a uses (b ∷ rest) plain) in
    let first : scanned options n uses None ((45 ∷ a ∷ []) ∷ (45 ∷ b ∷ rest) ∷ words) ≡ scanned options
    (n + 1) longer None ((45 ∷ b ∷ rest) ∷ words) =
    scan_letters options n uses (45 ∷ a ∷ []) (a ∷ []) ((45 ∷ b ∷ rest) ∷ words) (kind_letters a [] a-other)
    ∙ (ap (scan_on options (n + 1) ((45 ∷ b ∷ rest) ∷ words)) (letters_plain options n a uses [] plain
    ∙ letters_none options n longer)) in
    let second : scanned options (n + 1) longer None ((45 ∷ b ∷ rest) ∷ words) ≡ scan_on options (n + 1 + 1) words
    (letters options (n + 1) longer (b ∷ rest)) =
    scan_letters options (n + 1) longer (45 ∷ b ∷ rest) (b ∷ rest) words (kind_letters b rest b-other) in
    let argument : SameSoFar (letters options n longer (b ∷ rest)) (letters options (n + 1) longer (b ∷ rest)) =
    letters_same options n (n + 1) (b ∷ rest) longer longer refl in
    let same : SameUses (scan_on options (n + 1) words (letters options n longer (b ∷ rest)))
    (scan_on options (n + 1 + 1) words (letters options (n + 1) longer (b ∷ rest))) =
    subst (λ (waits : Option ℕ). SameUses (scan_on options (n + 1) words (letters options n longer (b ∷ rest)))
    (scanned options (n + 1 + 1) (letters options (n + 1) longer (b ∷ rest)).0 waits words))
    argument.1 (scan_same options (n + 1) (n + 1 + 1) (letters options n longer (b ∷ rest)).1 words _ _ argument.0) in
    same_by joined (first ∙ second) same

-- no utility has the option `-`
no_dash : (utility : Utility) → find_option (options_of utility) 45 ≡ None
unfolding find_option
no_dash u.Admin = refl
no_dash u.Get = refl
no_dash u.Delta = refl
no_dash u.Unget = refl
no_dash u.Sact = refl
no_dash u.Tell = refl
no_dash u.Check = refl
no_dash u.Rmdel = refl
no_dash u.Prs = refl
no_dash u.Val = refl
no_dash u.What = refl
no_dash u.Recover = refl
no_dash u.Import = refl
no_dash u.Batch = refl
no_dash u.Group = refl
no_dash u.Soak = refl
no_dash u.Cdc = refl

no_dash_row : (option : Option OptionSpec) (a : ℕ) → option ≡ None → option ≡ Some (Plain a) → ⊥
no_dash_row option a none plain = cc

is_no_dash : (utility : Utility) (a : ℕ) → find_option (options_of utility) a ≡ Some (Plain a) → a ≢ 45
is_no_dash utility a plain is = no_dash_row (find_option (options_of utility) a) a
    (ap (find_option (options_of utility)) is ∙ no_dash utility) plain

pub joined_or_apart : (utility : Utility) (n a b : ℕ) (uses : List Use) (rest : List ℕ) (words : List (List ℕ))
    → find_option (options_of utility) a ≡ Some (Plain a) → b ≢ 45
    → SameUses (scanned (options_of utility) n uses None ((45 ∷ a ∷ b ∷ rest) ∷ words))
    (scanned (options_of utility) n uses None ((45 ∷ a ∷ []) ∷ (45 ∷ b ∷ rest) ∷ words))
joined_or_apart utility n a b uses rest words plain other = same_apart (options_of utility) n a b uses rest words plain
    (is_no_dash utility a plain) other
