-- What val prints and answers of words: POSIX, Shell and Utilities, val. The texts are our own.
use Rattle.std.specs.Prelude.{ℕ, ◌==◌, Bool, not, ◌&&◌, ◌||◌, List, [], ◌∷◌, ◌++◌, flat_map, codes, None, if◌then◌else◌}
use Rattle.std.specs.List.{fold}
use Rattle.std.specs.Int.Bits.{bit_and, bit_or}
use Rattle.sccs_base.specs.Constants.{lf}
use Rattle.sccs_base.specs.Cut.{text_of}
use Rattle.sccs_disk.specs.Files.{View}
use Rattle.sccs_sid.specs.Words.{words}
use Rattle.sccs_table.specs.ReaderState.{file_in}
use Rattle.sccs_words.specs.Records.{val_words}
use Rattle.sccs_words.specs.Scan.{scanned}
use Rattle.sccs_words.specs.Synopsis.{options_of}
use Rattle.sccs_words.specs.declared.commands.Operands.{Operands}
use Rattle.sccs_words.specs.declared.commands.ValWords.{ValWords}
use Rattle.sccs_words.specs.declared.tables.Utility.TheVariants.{Val}
use Rattle.sccs_val.specs.Findings.{bits, findings}
use Rattle.sccs_val.specs.declared.findings.Findings.{Findings}

-- a line for an operand
abbrev pub bit_line : List ℕ → Bool → List ℕ → List ℕ
bit_line operand said text = if said then operand ++ (58 ∷ 32 ∷ text ++ lf ∷ []) else []

-- a line for each finding, from the greatest bit
abbrev pub bit_lines : List ℕ → Findings → List ℕ
bit_lines operand f =
    bit_line operand f.corrupted (codes "corrupted SCCS file")
    ++ (bit_line operand f.unopened (codes "cannot open file or file not SCCS")
    ++ (bit_line operand f.invalid_sid (codes "SID is invalid or ambiguous")
    ++ (bit_line operand f.missing_sid (codes "SID does not exist")
    ++ (bit_line operand f.other_kind (codes "%Y%, -y mismatch") ++ bit_line operand f.other_module
    (codes "%M%, -m mismatch")))))

-- the faults of the words, which are judged once: no operand, and an option that is at fault
abbrev pub has_bit : ℕ → ℕ → Bool
has_bit status value = not (bit_and status value == 0)

abbrev pub fault_lines : ℕ → List ℕ
fault_lines fault = bit_line (codes "val") (has_bit fault 128) (codes "missing file argument") ++ bit_line (codes "val")
    (has_bit fault 64) (codes "unknown or duplicate option")

-- the operands; `-` alone stands for itself, in a line of the input
abbrev pub operands_in : Operands → List (List ℕ)
operands_in operands = if operands.from_input then codes "-" ∷ [] else operands.words

-- of an operand in a folder: what is printed, and its bits
abbrev pub operand_text : ValWords → View → List ℕ → List ℕ
operand_text words v operand =
    if words.silent then [] else bit_lines operand (findings words operand (file_in v operand))

abbrev pub operand_status : ValWords → View → List ℕ → ℕ
operand_status words v operand = bits (findings words operand (file_in v operand))

-- of several: their texts, and all their bits together
abbrev pub operands_text : ValWords → View → List (List ℕ) → List ℕ
operands_text words v operands = flat_map (operand_text words v) operands

abbrev pub operands_status : ValWords → View → List (List ℕ) → ℕ
operands_status words v operands = fold (λ status operand. bit_or status (operand_status words v operand)) 0 operands

-- of words: where they are at fault, no file is read
abbrev pub words_text : ValWords → View → List ℕ
words_text words v = if words.fault == 0 then operands_text words v (operands_in words.operands)
    else (if words.silent then [] else fault_lines words.fault)

abbrev pub words_status : ValWords → View → ℕ
words_status words v = if words.fault == 0 then operands_status words v (operands_in words.operands) else words.fault

-- ---- the input

-- the words of a line of the input: those between blanks, without the utility's
abbrev pub line_words : List ℕ → ValWords
line_words line = val_words (scanned (options_of Val) 2 [] None (words line))

-- the line stands before what is printed of it, where its status isn't 0 and it has no -s
abbrev pub line_heading : List ℕ → ℕ → Bool → List ℕ
line_heading line status silent = if (status == 0) || silent then [] else line ++ (58 ∷ lf ∷ [])

abbrev pub line_status : View → List ℕ → ℕ
line_status v line = words_status (line_words line) v

abbrev pub line_text : View → List ℕ → List ℕ
line_text v line = line_heading line (line_status v line) (line_words line).silent ++ words_text (line_words line) v

-- whether the input is taken for command lines
abbrev pub takes_lines : ValWords → Bool
takes_lines words = words.fault == 0 && words.operands.from_input

abbrev pub val_lines_text : View → List (List ℕ) → List ℕ
val_lines_text v lines = flat_map (line_text v) lines

abbrev pub lines_status : View → List (List ℕ) → ℕ
lines_status v lines = fold (λ status line. bit_or status (line_status v line)) 0 lines

-- what val prints, and its status
abbrev pub val_text : ValWords → View → List ℕ → List ℕ
val_text words v input = if takes_lines words then val_lines_text v (text_of input) else words_text words v

abbrev pub val_status : ValWords → View → List ℕ → ℕ
val_status words v input = if takes_lines words then lines_status v (text_of input) else words_status words v
