-- Trees that are turned, joined and cut, by their entries.
use Rattle.std.proofs.Common.{◌≡◌, ℕ, zero, suc, ◌+◌, ◌-◌, ◌≤◌, List, [], ◌∷◌, ◌++◌, Result, Ok, Err, OnOk, length, map}
use Rattle.std.proofs.Common.{take, drop, refl, sym, ap, ◌∙◌, arith, append_assoc}
use Rattle.std.proofs.lemmas.List.{drop-append-le, take-append-le}
use Rattle.std.proofs.Math.Seq.{drop-append-add, take-append-add}
use Rattle.sccs_script.specs.Drafts.{anchor, anchor_from, DraftLine, expand, Fresh, put_entries, unstacked}
use Rattle.sccs_script.specs.declared.pieces.Piece.{Piece}
use Rattle.sccs_script.proofs.DraftLaws.{anchor_append}
use Rattle.sccs_script.proofs.PieceLaws.{unstacked_push}

-- what is grouped to the left, grouped to the right
pub turned : (a b c d : List DraftLine) → (a ++ (b ++ c)) ++ d ≡ a ++ (b ++ (c ++ d))
turned a b c d = append_assoc a (b ++ c) d ∙ ap (λ l. a ++ l) (append_assoc b c d)

-- the place is in the left part
pub low_front : (place : ℕ) (left rest : List DraftLine) → place ≤ length left → take place left ≡ take place
    (left ++ rest)
low_front place left rest le = sym (take-append-le place left rest le)

pub low_back : (place : ℕ) (left rest : List DraftLine) → place ≤ length left → drop place left ++ rest ≡ drop place
    (left ++ rest)
low_back place left rest le = sym (drop-append-le place left rest le)

-- the place is behind the left part
pub high_front : (place : ℕ) (left rest : List DraftLine) → length left ≤ place
    → left ++ take (place - length left) rest ≡ take place (left ++ rest)
high_front place left rest le =
    let all : length left + (place - length left) ≡ place = omega (arith, le) in
    sym (take-append-add left rest (place - length left)) ∙ ap (λ n. take n (left ++ rest)) all

pub high_back : (place : ℕ) (left rest : List DraftLine) → length left ≤ place → drop (place - length left) rest
    ≡ drop place (left ++ rest)
high_back place left rest le =
    let all : length left + (place - length left) ≡ place = omega (arith, le) in
    sym (drop-append-add left rest (place - length left)) ∙ ap (λ n. drop n (left ++ rest)) all

-- the place is in the middle part
pub middle_front : (place : ℕ) (left middle right : List DraftLine) → length left ≤ place
    → place - length left ≤ length middle
    → left ++ take (place - length left) middle ≡ take place (left ++ (middle ++ right))
middle_front place left middle right low high =
    ap (λ l. left ++ l) (low_front (place - length left) middle right high) ∙ high_front place left
    (middle ++ right) low

pub middle_back : (place : ℕ) (left middle right : List DraftLine) → length left ≤ place
    → place - length left ≤ length middle
    → drop (place - length left) middle ++ right ≡ drop place (left ++ (middle ++ right))
middle_back place left middle right low high =
    low_back (place - length left) middle right high ∙ high_back place left (middle ++ right) low

-- the place is in the right part
pub right_front : (place : ℕ) (left middle right : List DraftLine) → length left ≤ place
    → length middle ≤ place - length left
    → left ++ (middle ++ take (place - length left - length middle) right) ≡ take place (left ++ (middle ++ right))
right_front place left middle right low high =
    ap (λ l. left ++ l) (high_front (place - length left) middle right high) ∙ high_front place left
    (middle ++ right) low

pub right_back : (place : ℕ) (left middle right : List DraftLine) → length left ≤ place
    → length middle ≤ place - length left
    → drop (place - length left - length middle) right ≡ drop place (left ++ (middle ++ right))
right_back place left middle right low high =
    high_back (place - length left) middle right high ∙ high_back place left (middle ++ right) low

-- what follows where a call is done
pub on_done : {A E P Q : Type 0} (r : Result A E) → (P → Q) → OnOk r P → OnOk r Q
on_done (Ok a) step done = step done
on_done (Err e) step done = tt

-- the pieces of a tree on a stack
pub unloaded : (left right : List DraftLine) (p : Piece) (s s2 s3 s4 : List Piece) → unstacked s2 ≡ right ++ unstacked s
    → s3 ≡ s2 ++ p ∷ [] → unstacked s4 ≡ left ++ unstacked s3
    → unstacked s4 ≡ (left ++ (expand p ++ right)) ++ unstacked s
unloaded left right p s s2 s3 s4 first push last =
    last
    ∙ (ap (λ l. left ++ l) (ap unstacked push ∙ (unstacked_push s2 p ∙ ap (λ l. expand p ++ l) first))
    ∙ sym (turned left (expand p) right (unstacked s)))

-- new lines between the two halves of a tree
put_at : (k : ℕ) (new : List (List ℕ)) (entries front back : List DraftLine) → front ≡ take k entries
    → back ≡ drop k entries
    → front ++ (map (Fresh (anchor front)) new ++ back) ≡ put_entries k new entries
put_at k new entries front back one two =
    ap (λ l. l ++ (map (Fresh (anchor l)) new ++ back)) one
    ∙ ap (λ l. take k entries ++ (map (Fresh (anchor (take k entries))) new ++ l)) two

-- what stands before a place, and some of what stands behind it, cut at that place once more
none_left : (m : ℕ) → ◌≡◌ {A = List DraftLine} (drop m []) []
none_left zero = refl
none_left (suc m) = refl

cut_front : (k m : ℕ) (entries : List DraftLine) → take k entries ≡ take k (take k entries ++ drop m (drop k entries))
cut_front zero m entries = refl
cut_front (suc k) m [] = sym (ap (take (suc k)) (none_left m))
cut_front (suc k) m (e ∷ entries) = ap (λ l. e ∷ l) (cut_front k m entries)

cut_back : (k m : ℕ) (entries : List DraftLine) → drop m (drop k entries) ≡ drop k (take k entries ++ drop m
    (drop k entries))
cut_back zero m entries = refl
cut_back (suc k) m [] = none_left m ∙ sym (ap (drop (suc k)) (none_left m))
cut_back (suc k) m (e ∷ entries) = cut_back k m entries

-- new lines in the place of some that were taken away
pub put_for : (k m : ℕ) (new : List (List ℕ)) (entries front back : List DraftLine) → front ≡ take k entries
    → back ≡ drop m (drop k entries)
    → front ++ (map (Fresh (anchor front)) new ++ back) ≡ put_entries k new (take k entries ++ drop m (drop k entries))
put_for k m new entries front back one two =
    put_at k new (take k entries ++ drop m (drop k entries)) front back (one ∙ cut_front k m entries) (two
    ∙ cut_back k m entries)

-- the anchor of a tree is that of its right side behind the piece
pub anchor_right : (before end : ℕ) (left middle right : List DraftLine) → ((n : ℕ) → end ≡ anchor_from n middle)
    → anchor_from end right ≡ anchor_from before (left ++ (middle ++ right))
anchor_right before end left middle right is =
    sym (anchor_append before left (middle ++ right)
    ∙ (anchor_append (anchor_from before left) middle right ∙ ap (λ n. anchor_from n right)
    (sym (is (anchor_from before left)))))
