-- One word more of a command line.
use Rattle.std.proofs.Common.{◌≡◌, ℕ, ◌+◌, ◌-◌, ◌<◌, ◌≤◌, List, [], ◌∷◌, ◌++◌, length, drop, get_or, Option, None, Some}
use Rattle.std.proofs.Common.{sym, ap, ◌∙◌, add_assoc}
use Rattle.std.proofs.lemmas.List.{drop_more, drop_all}
use Rattle.sccs_words.specs.Scan.{Uses, Kind, Letters, Ends, Operand, CommandLine, scanned_line, used, letters, scanned}
use Rattle.sccs_words.specs.Scan.{word_kind, by_kind}
use Rattle.sccs_words.specs.declared.tables.OptionSpec.{OptionSpec}
use Rattle.sccs_words.specs.declared.scanning.Use.{Use}
use Rattle.sccs_words.specs.declared.scanning.OptionArgument.TheVariants.{Missing, Value}

next_word : (words : List (List ℕ)) (i : ℕ) (w : List ℕ) → i < length words → w ≡ get_or words i w
    → drop i words ≡ w ∷ drop (i + 1) words
next_word words i w below is = drop_more words i w below ∙ ap (λ (x : List ℕ). x ∷ drop (i + 1) words) (sym is)

-- the next word comes, and no letter waits
no_wait : (options : List OptionSpec) (n i : ℕ) (uses : List Use) (waits : Option ℕ) (words : List (List ℕ))
    (w : List ℕ) (total : CommandLine) → i < length words → w ≡ get_or words i w → waits ≡ None
    → scanned options (n + i) uses waits (drop i words) ≡ total → scanned options (n + i) uses None
    (w ∷ drop (i + 1) words) ≡ total
no_wait options n i uses waits words w total below is none all =
    ap (λ (ws : List (List ℕ)). scanned options (n + i) uses None ws) (sym (next_word words i w below is))
    ∙ (ap (λ (o : Option ℕ). scanned options (n + i) uses o (drop i words)) (sym none) ∙ all)

kind_step : (options : List OptionSpec) (m : ℕ) (uses : List Use) (w : List ℕ) (rest : List (List ℕ)) (kind : Kind)
    (total : CommandLine) → kind ≡ word_kind w → scanned options m uses None (w ∷ rest) ≡ total
    → by_kind m uses w rest kind (λ bytes. scanned options (m + 1) (letters options m uses bytes).0
    (letters options m uses bytes).1 rest) ≡ total
unfolding scanned
kind_step options m uses w rest kind total is all =
    ap (λ (k : Kind). by_kind m uses w rest k (λ bytes. scanned options (m + 1) (letters options m uses bytes).0
    (letters options m uses bytes).1 rest)) is ∙ all

-- `--` ends the options
pub ends_step : (options : List OptionSpec) (n i : ℕ) (uses : List Use) (waits : Option ℕ) (words : List (List ℕ))
    (w : List ℕ) (total : CommandLine) → i < length words → w ≡ get_or words i w → waits ≡ None → Ends ≡ word_kind w
    → scanned options (n + i) uses waits (drop i words) ≡ total → scanned_line uses (n + (i + 1)) (drop (i + 1) words)
    ≡ total
ends_step options n i uses waits words w total below is none kind all =
    ap (λ (m : ℕ). scanned_line uses m (drop (i + 1) words)) (sym (add_assoc n i 1))
    ∙ kind_step options (n + i) uses w (drop (i + 1) words) Ends total kind
    (no_wait options n i uses waits words w total below is none all)

-- the operands begin
pub operand_step : (options : List OptionSpec) (n i : ℕ) (uses : List Use) (waits : Option ℕ) (words : List (List ℕ))
    (w : List ℕ) (total : CommandLine) → i < length words → w ≡ get_or words i w → waits ≡ None → Operand ≡ word_kind w
    → scanned options (n + i) uses waits (drop i words) ≡ total → scanned_line uses (n + i) (drop i words) ≡ total
operand_step options n i uses waits words w total below is none kind all =
    ap (scanned_line uses (n + i)) (next_word words i w below is)
    ∙ kind_step options (n + i) uses w (drop (i + 1) words) Operand total kind
    (no_wait options n i uses waits words w total below is none all)

-- letters of options
pub letters_step : (options : List OptionSpec) (n i : ℕ) (uses longer : List Use) (waits wants : Option ℕ)
    (words : List (List ℕ)) (w bytes : List ℕ) (total : CommandLine) → i < length words → w ≡ get_or words i w
    → waits ≡ None → Letters bytes ≡ word_kind w
    → (longer, wants) ≡ letters options (n + i) uses bytes → scanned options (n + i) uses waits (drop i words) ≡ total
    → scanned options (n + (i + 1)) longer wants (drop (i + 1) words) ≡ total
letters_step options n i uses longer waits wants words w bytes total below is none kind argument all =
    ap (λ (m : ℕ). scanned options m longer wants (drop (i + 1) words)) (sym (add_assoc n i 1))
    ∙ (ap (λ (u : Uses). scanned options (n + i + 1) u.0 u.1 (drop (i + 1) words)) argument
    ∙ kind_step options (n + i) uses w (drop (i + 1) words) (Letters bytes) total kind
    (no_wait options n i uses waits words w total below is none all))

-- the value that a letter waited for
pub value_step : (options : List OptionSpec) (n i : ℕ) (uses : List Use) (waits : Option ℕ) (letter : ℕ)
    (words : List (List ℕ)) (w : List ℕ) (total : CommandLine) → i < length words → w ≡ get_or words i w
    → waits ≡ Some letter
    → scanned options (n + i) uses waits (drop i words) ≡ total
    → scanned options (n + (i + 1)) (uses ++ used letter (n + i - 1) (Value w (n + i)) ∷ []) None (drop (i + 1) words)
    ≡ total
unfolding scanned
value_step options n i uses waits letter words w total below is some all =
    ap (λ (m : ℕ). scanned options m (uses ++ used letter (n + i - 1) (Value w (n + i)) ∷ []) None (drop (i + 1) words))
    (sym (add_assoc n i 1))
    ∙ (ap (λ (ws : List (List ℕ)). scanned options (n + i) uses (Some letter) ws) (sym (next_word words i w below is))
    ∙ (ap (λ (o : Option ℕ). scanned options (n + i) uses o (drop i words)) (sym some) ∙ all))

-- the words end, and no letter waits
pub end_step : (options : List OptionSpec) (n i : ℕ) (uses : List Use) (waits : Option ℕ) (words : List (List ℕ))
    (total : CommandLine) → length words ≤ i → waits ≡ None
    → scanned options (n + i) uses waits (drop i words) ≡ total → scanned_line uses (n + i) (drop i words) ≡ total
unfolding scanned
end_step options n i uses waits words total over none all =
    ap (scanned_line uses (n + i)) (drop_all i words over)
    ∙ (ap (λ (ws : List (List ℕ)). scanned options (n + i) uses None ws) (sym (drop_all i words over))
    ∙ (ap (λ (o : Option ℕ). scanned options (n + i) uses o (drop i words)) (sym none) ∙ all))

-- the words end, and a letter waits
pub missing_step : (options : List OptionSpec) (n i : ℕ) (uses : List Use) (waits : Option ℕ) (letter : ℕ)
    (words : List (List ℕ)) (total : CommandLine) → length words ≤ i → waits ≡ Some letter
    → scanned options (n + i) uses waits (drop i words) ≡ total → scanned_line (uses ++ used letter (n + i - 1) Missing
    ∷ []) (n + i) (drop i words) ≡ total
unfolding scanned
missing_step options n i uses waits letter words total over some all =
    ap (scanned_line (uses ++ used letter (n + i - 1) Missing ∷ []) (n + i)) (drop_all i words over)
    ∙ (ap (λ (ws : List (List ℕ)). scanned options (n + i) uses (Some letter) ws) (sym (drop_all i words over))
    ∙ (ap (λ (o : Option ℕ). scanned options (n + i) uses o (drop i words)) (sym some) ∙ all))
