-- A file that is read in pieces.
use Rattle.std.proofs.Common.{◌≡◌, ◌≢◌, ℕ, Ok, Err, ◌+◌, ◌-◌, ◌<◌, ◌≤◌, List, [], ◌∷◌, ◌++◌, length, take, drop, Option}
use Rattle.std.proofs.Common.{None, Some, option_map, unwrap_or, IfSome, refl, sym, ap, subst, ◌∙◌, arith, append-nil}
use Rattle.std.proofs.Common.{length-append, length-drop, length-take}
use Rattle.std.proofs.Math.Seq.{take-append_seam, take-add}
use Rattle.std.proofs.lemmas.List.{take-append-drop, take_min}
use Rattle.sccs_base.specs.Constants.{file_limit}
use Rattle.sccs_disk.specs.Files.{Content, View}
use Rattle.sccs_disk.specs.Reads.{Measures, Reads, ReadsFile}
use Rattle.sccs_name_files.specs.WholeFiles.{AnswersWhole, ReadsToEnd, file_bytes}
use Rattle.sccs_name_files.specs.declared.whole_files.WholeFault.{WholeFault}
use Rattle.sccs_name_files.specs.declared.whole_files.WholeFault.TheVariants.{Missing, TooLong, Failed, Memory}

-- what a reading gives of the bytes from a place on
abbrev piece_of : List ℕ → ℕ → ℕ → List ℕ
piece_of bytes from room = take room (drop from bytes)

read_file : (o : Option Content) (bytes : List ℕ) (from : ℕ) (old new : List ℕ) (got : Option ℕ)
    → option_map (λ (c : Content). c.bytes) o ≡ Some bytes → ReadsFile o from old new got
    → (unwrap_or got 0 ≡ length (piece_of bytes from (length old))) × (take (unwrap_or got 0) new ≡ piece_of bytes from
    (length old))
read_file None bytes from old new got is reads = absurd (cc)
read_file (Some c) bytes from old new got is reads =
    let same : c.bytes ≡ bytes = cc in
    let p : List ℕ = piece_of c.bytes from (length old) in
    let count : unwrap_or got 0 ≡ length p = ap (λ (g : Option ℕ). unwrap_or g 0) reads.0 in
    subst (λ (b : List ℕ). (unwrap_or got 0 ≡ length (piece_of b from (length old)))
    × (take (unwrap_or got 0) new ≡ piece_of b from (length old))) same (
      count,
      ap (λ n. take n new) count ∙ (ap (λ bytes. take (length p) bytes) reads.1
          ∙ take-append_seam p (drop (length p) old)),
    )

pub read_piece : (told : Option View) (name bytes : List ℕ) (from : ℕ) (old new : List ℕ) (got : Option ℕ)
    → file_bytes told name ≡ Some bytes → Reads told name from old new got
    → (unwrap_or got 0 ≡ length (piece_of bytes from (length old))) × (take (unwrap_or got 0) new ≡ piece_of bytes from
    (length old))
read_piece None name bytes from old new got is reads = absurd (cc)
read_piece (Some v) name bytes from old new got is reads = read_file (v name) bytes from old new got is reads

-- nothing is left
pub all_read : (bytes all : List ℕ) (room from : ℕ) → from ≡ length all → 0 < room → length (piece_of bytes from room)
    ≡ 0 → all ≡ take (length all) bytes → all ≡ bytes
all_read bytes all room from at some empty_piece is =
    let none : length (piece_of bytes (length all) room) ≡ 0 = subst (λ n. length (piece_of bytes n room) ≡ 0) at
    empty_piece in
    let left : length (drop (length all) bytes) ≡ 0 = omega (arith, none, length-take room (drop (length all) bytes)) in
    is ∙ whole (length all) bytes left
  where
    empty : (xs : List ℕ) → length xs ≡ 0 → xs ≡ []
    empty [] h = refl
    empty (x ∷ xs) h = absurd (omega (arith, h))

    whole : (n : ℕ) (bytes : List ℕ) → length (drop n bytes) ≡ 0 → take n bytes ≡ bytes
    whole n bytes h = sym (append-nil (take n bytes))
        ∙ (ap (λ rest. take n bytes ++ rest) (sym (empty (drop n bytes) h)) ∙ take-append-drop n bytes)

-- too much is left
pub too_much : (bytes all : List ℕ) (room count from : ℕ) → from ≡ length all
    → count ≡ length (piece_of bytes from room) → file_limit < length all + count → 0 < count
    → file_limit < length bytes
too_much bytes all room count from at found more some =
    let is : count ≡ length (piece_of bytes (length all) room) = subst (λ n. count ≡ length (piece_of bytes n room)) at
    found in
    omega (arith, is, more, some, length-take room (drop (length all) bytes), length-drop (length all) bytes)

-- a piece more
pub one_more_piece : (bytes all piece more : List ℕ) (room from : ℕ) → from ≡ length all
    → piece ≡ piece_of bytes from room → more ≡ all ++ piece → all ≡ take (length all) bytes
    → more ≡ take (length more) bytes
one_more_piece bytes all piece more room from at found added all_is =
    let is : piece ≡ piece_of bytes (length all) room = subst (λ n. piece ≡ piece_of bytes n room) at found in
    let rest : List ℕ = drop (length all) bytes in
    let front : take (length piece) rest ≡ piece =
    ap (λ (p : List ℕ). take (length p) rest) is ∙ (ap (λ n. take n rest) (length-take room rest)
    ∙ (take_min room rest ∙ sym is)) in
    added
    ∙ (ap (λ (front : List ℕ). front ++ piece) all_is
    ∙ (ap (λ (p : List ℕ). take (length all) bytes ++ p) (sym front)
    ∙ (sym (take-add (length all) (length piece) bytes) ∙ ap (λ n. take n bytes) (sym (length-append all piece)
    ∙ ap length (sym added)))))

-- ---- the whole file

file_answer : (o : Option Content) (all : List ℕ) (size : ℕ) → Some size ≡ option_map (λ (c : Content). length c.bytes)
    o → size ≤ file_limit → ((bytes : List ℕ) → option_map (λ (c : Content). c.bytes) o ≡ Some bytes → all ≡ bytes)
    → AnswersWhole o (Ok all)
file_answer None all size is short whole = absurd (cc)
file_answer (Some c) all size is short whole =
    let same : all ≡ c.bytes = whole c.bytes refl in
    let long : size ≡ length c.bytes = cc in
    (same, subst (λ n. n ≤ file_limit) (long ∙ ap length (sym same)) short)

pub whole_answer : (told : Option View) (name all : List ℕ) (size : ℕ) → Measures told name (Some size)
    → size ≤ file_limit → ((bytes : List ℕ) → file_bytes told name ≡ Some bytes → all ≡ bytes)
    → IfSome told (λ (v : View). AnswersWhole (v name) (Ok all))
whole_answer None name all size is short whole = tt
whole_answer (Some v) name all size is short whole = file_answer (v name) all size is short whole

file_fault : (o : Option Content) (all more : List ℕ) (fault : WholeFault) (size : ℕ)
    → Some size ≡ option_map (λ (c : Content). length c.bytes) o → fault ≢ Missing
    → ((bytes : List ℕ) → option_map (λ (c : Content). c.bytes) o ≡ Some bytes → ReadsToEnd bytes all more (Err fault))
    → AnswersWhole o (Err fault)
file_fault None all more fault size is there reads = absurd (cc)
file_fault (Some c) all more Missing size is there reads = absurd (there refl)
file_fault (Some c) all more TooLong size is there reads = reads c.bytes refl
file_fault (Some c) all more Failed size is there reads = tt
file_fault (Some c) all more Memory size is there reads = tt

pub whole_fault : (told : Option View) (name all more : List ℕ) (fault : WholeFault) (size : ℕ)
    → Measures told name (Some size) → fault ≢ Missing → ((bytes : List ℕ) → file_bytes told name ≡ Some bytes
    → ReadsToEnd bytes all more (Err fault)) → IfSome told (λ (v : View). AnswersWhole (v name) (Err fault))
whole_fault None name all more fault size is there reads = tt
whole_fault (Some v) name all more fault size is there reads = file_fault (v name) all more fault size is there reads
