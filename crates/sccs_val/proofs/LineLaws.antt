-- The words of a line, and the command that they are.
use Rattle.std.proofs.Common.{◌≡◌, ℕ, suc, ◌+◌, ◌<◌, ◌≤◌, nat_lt, ◌&&◌, Err, length, take, drop, flat_map, get_or}
use Rattle.std.proofs.Common.{add-one, List, [], ◌∷◌, ◌++◌, Bool, true, false, cond, ◌⊎◌, inl, inr, Option, None, Some}
use Rattle.std.proofs.Common.{Result, Ok, refl, sym, ap, subst, ◌∙◌, append_assoc, codes, IfSome}
use Rattle.std.specs.List.{fold}
use Rattle.std.specs.Int.Bits.{bit_or}
use Rattle.std.proofs.lemmas.List.{take_all}
use Rattle.std.proofs.lemmas.List.Sums.{fold_more}
use Rattle.sccs_base.specs.Constants.{file_limit}
use Rattle.sccs_base.specs.Stream.{GivesOk, GivesSome}
use Rattle.sccs_base.specs.declared.streams.TakeFault.TheVariants as take
use Rattle.sccs_base.proofs.Gifts.{gives_both, gives_none, gives_then, part_more, some_longer}
use Rattle.sccs_base.proofs.Runs.{pieces_at}
use Rattle.sccs_disk.specs.Files.{View}
use Rattle.sccs_base.specs.Cut.{text_of}
use Rattle.sccs_sid.specs.declared.refusals.Refusal.TheVariants as refusals
use Rattle.sccs_sid.specs.declared.refusals.StepFault.{StepFault}
use Rattle.sccs_sid.specs.declared.refusals.StepFault.TheVariants.{Refused, Memory, ReadFault, WriteFault, DiskFault}
use Rattle.sccs_steps.specs.Actions.{RefusesWithin}
use Rattle.sccs_words.specs.Meaning.{line_meaning, meaning, utility_of}
use Rattle.sccs_words.specs.Records.{val_words}
use Rattle.sccs_words.specs.Scan.{scanned}
use Rattle.sccs_words.specs.Synopsis.{options_of}
use Rattle.sccs_words.specs.declared.commands.Command.{Command}
use Rattle.sccs_words.specs.declared.commands.Command.TheVariants as commands
use Rattle.sccs_words.specs.declared.commands.Usage.{Usage}
use Rattle.sccs_words.specs.declared.commands.ValWords.{ValWords}
use Rattle.sccs_words.specs.declared.tables.Utility.TheVariants.{Val}
use Rattle.sccs_val.specs.Reports.{line_heading, line_status, line_text, line_words, lines_status, val_lines_text}
use Rattle.sccs_val.specs.Reports.{takes_lines, val_status, val_text, words_status, words_text}
use Rattle.sccs_val.specs.ValStep.{Judges, PrintsStatus, is_long}

meant : (ws : List (List ℕ)) → meaning (codes "val" ∷ ws) ≡ Ok
    (commands.Val (val_words (scanned (options_of Val) 2 [] None ws)))
unfolding meaning utility_of line_meaning
meant ws = refl

val_same : (a b : ValWords) (r : Result Command Usage) → r ≡ Ok (commands.Val a) → r ≡ Ok (commands.Val b) → a ≡ b
val_same a b r first second = cc

-- the words of val that a command line of val means
pub val_meant : (ws all : List (List ℕ)) (w : ValWords) (command : Command) → all ≡ codes "val" ∷ ws
    → meaning all ≡ Ok command → command ≡ commands.Val w → w ≡ val_words (scanned (options_of Val) 2 [] None ws)
val_meant ws all w command is means val = val_same w (val_words (scanned (options_of Val) 2 [] None ws)) (meaning all)
    (means ∙ ap Ok val) (ap meaning is ∙ meant ws)

-- what is printed of a line's words
pub under_printed : (v : View) (line report : List ℕ) (w : ValWords) (status : ℕ) (r : Result ℕ StepFault)
    (a b : Option (List ℕ)) → status ≡ words_status w v → report ≡ words_text w v
    → PrintsStatus (line_heading line status w.silent ++ report) status r a b
    → PrintsStatus (line_heading line (words_status w v) w.silent ++ words_text w v) (words_status w v) r a b
under_printed v line report w status r a b status_is report_is prints =
    subst (λ l. PrintsStatus (line_heading line (words_status w v) w.silent ++ l) (words_status w v) r a b) report_is
    (subst (λ s. PrintsStatus (line_heading line s w.silent ++ report) s r a b) status_is prints)

-- the line has these words
pub line_printed : (o : Option View) (line : List ℕ) (w : ValWords) (r : Result ℕ StepFault) (a b : Option (List ℕ))
    → w ≡ line_words line
    → IfSome o (λ v. PrintsStatus (line_heading line (words_status w v) w.silent ++ words_text w v) (words_status w v) r
    a b) → IfSome o (λ v. PrintsStatus (line_text v line) (line_status v line) r a b)
line_printed o line w r a b is prints =
    subst (λ w. IfSome o (λ v. PrintsStatus (line_heading line (words_status w v) w.silent ++ words_text w v)
    (words_status w v) r a b)) is prints

-- ---- several lines

-- so many of some things were printed: their bits together, and their texts
pub record Printed (f : List ℕ → List ℕ) (g : List ℕ → ℕ) (things : List (List ℕ)) (count status : ℕ)
    (a b : Option (List ℕ)) : Type 0 where
  pub status_is : status ≡ fold (λ s x. bit_or s (g x)) 0 (take count things)
  pub gives : GivesOk a b (flat_map f (take count things))

pub printed_none : (f : List ℕ → List ℕ) (g : List ℕ → ℕ) (things : List (List ℕ)) (a : Option (List ℕ))
    → Printed f g things 0 0 a a
printed_none f g things a = record { status_is = refl; gives = gives_none a }

pub printed_more : (f : List ℕ → List ℕ) (g : List ℕ → ℕ) (things : List (List ℕ)) (count status bits : ℕ)
    (thing : List ℕ) (a m b : Option (List ℕ)) → count < length things → thing ≡ get_or things count thing
    → Printed f g things count status a m
    → bits ≡ g thing → GivesOk m b (f thing) → Printed f g things (count + 1) (bit_or status bits) a b
printed_more f g things count status bits thing a m b below is so bits_is gives = record {
  status_is = ap (λ s. bit_or s bits) so.status_is
      ∙ (ap (λ b. bit_or (fold (λ s x. bit_or s (g x)) 0 (take count things)) b) (bits_is ∙ ap g is)
      ∙ sym (fold_more (λ s x. bit_or s (g x)) 0 things count thing below));
  gives = subst (λ (l : List ℕ). GivesOk a b l)
      (ap (λ x. flat_map f (take count things) ++ f x) is ∙ sym (ap (λ k. flat_map f (take k things)) (add-one count)
      ∙ part_more f things count thing below))
      (gives_both a m b (flat_map f (take count things)) (f thing) so.gives gives);
}

pub printed_cut : (f : List ℕ → List ℕ) (g : List ℕ → ℕ) (things : List (List ℕ)) (count status : ℕ) (thing : List ℕ)
    (a m b : Option (List ℕ)) → count < length things → thing ≡ get_or things count thing
    → Printed f g things count status a m
    → GivesSome m b (f thing) → GivesSome a b (flat_map f things)
printed_cut f g things count status thing a m b below is so some =
    let rest : List ℕ = flat_map f (drop (suc count) things) in
    subst (λ (l : List ℕ). GivesSome a b l) (append_assoc (flat_map f (take count things)) (f thing) rest
    ∙ (ap (λ x. flat_map f (take count things) ++ (f x ++ rest)) is ∙ sym (pieces_at f things count thing below)))
    (some_longer a b (flat_map f (take count things) ++ f thing) rest (gives_then a m b (flat_map f (take count things))
    (f thing) so.gives some))

pub printed_all : (f : List ℕ → List ℕ) (g : List ℕ → ℕ) (things : List (List ℕ)) (count status : ℕ)
    (a b : Option (List ℕ)) → length things ≤ count → Printed f g things count status a b
    → (status ≡ fold (λ s x. bit_or s (g x)) 0 things) × GivesOk a b (flat_map f things)
printed_all f g things count status a b past so = (
  so.status_is ∙ ap (λ l. fold (λ s x. bit_or s (g x)) 0 l) (take_all count things past),
  subst
      (λ l. GivesOk a b (flat_map f l)) (take_all count things past) so.gives,
)

-- ---- the whole of val

-- what is printed without reading the input is no refusal
pub judges_printed : (text : List ℕ) (status : ℕ) (r : Result ℕ StepFault) (a b : Option (List ℕ)) → RefusesWithin [] r
    → PrintsStatus text status r a b → Judges false text status r a b
judges_printed text status (Ok n) a b within prints = (refl, prints.0, prints.1)
judges_printed text status (Err (Refused refusal)) a b within prints = absurd (let no : false ≡ true =
    within refusal refl in cc)
judges_printed text status (Err Memory) a b within prints = prints
judges_printed text status (Err ReadFault) a b within prints = prints
judges_printed text status (Err WriteFault) a b within prints = prints
judges_printed text status (Err DiskFault) a b within prints = prints

pub val_by_lines : (o : Option View) (w : ValWords) (left : Option (List ℕ)) (r : Result ℕ StepFault)
    (a b : Option (List ℕ)) → takes_lines w ≡ true
    → IfSome o (λ v. (i : List ℕ) → left ≡ Some i → Judges (nat_lt file_limit (length i)) (val_lines_text v (text_of i))
    (lines_status v (text_of i)) r a b)
    → IfSome o (λ v. (i : List ℕ) → (takes_lines w ≡ false) ⊎ (left ≡ Some i) → Judges (is_long w i) (val_text w v i)
    (val_status w v i) r a b)
val_by_lines None w left r a b is prints = tt
val_by_lines (Some v) w left r a b is prints = λ i heard. by i heard
  where
    by : (i : List ℕ) → (takes_lines w ≡ false) ⊎ (left ≡ Some i) → Judges (is_long w i) (val_text w v i)
        (val_status w v i) r a b
    by i (inl none) = absurd (let no : true ≡ false = sym is ∙ none in cc)
    by i (inr heard) =
        subst (λ (t : Bool). Judges (t && nat_lt file_limit (length i)) (cond t (val_lines_text v (text_of i))
        (words_text w v)) (cond t (lines_status v (text_of i)) (words_status w v)) r a b) (sym is) (prints i heard)

pub val_by_words : (o : Option View) (w : ValWords) (left : Option (List ℕ)) (r : Result ℕ StepFault)
    (a b : Option (List ℕ)) → takes_lines w ≡ false → RefusesWithin [] r
    → IfSome o (λ v. PrintsStatus (words_text w v) (words_status w v) r a b) → IfSome o (λ v. (i : List ℕ)
    → (takes_lines w ≡ false) ⊎ (left ≡ Some i) → Judges (is_long w i) (val_text w v i) (val_status w v i) r a b)
val_by_words None w left r a b is within prints = tt
val_by_words (Some v) w left r a b is within prints = λ i heard.
    subst (λ (t : Bool). Judges (t && nat_lt file_limit (length i)) (cond t (val_lines_text v (text_of i))
    (words_text w v)) (cond t (lines_status v (text_of i)) (words_status w v)) r a b) (sym is)
    (judges_printed (words_text w v) (words_status w v) r a b within prints)
