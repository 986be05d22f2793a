-- The entries of a group's lines, one after the other.
use Rattle.std.proofs.Common.{◌≡◌, ℕ, zero, suc, ◌+◌, ◌-◌, ◌<◌, ◌≤◌, List, [], ◌∷◌, length, drop, get_or, Option, None}
use Rattle.std.proofs.Common.{Some, Result, Ok, Err, refl, sym, ap, ◌∙◌, arith}
use Rattle.std.proofs.lemmas.List.{drop-drop, drop_more, length-drop}
use Rattle.sccs_group_command.specs.GroupText.{AddsEntry, Found, entry_at, go_on, group_from, group_of}
use Rattle.sccs_group_command.specs.declared.entries.GroupEntry.{GroupEntry}

from_skip : (skip number : ℕ) (entries : List GroupEntry) (lines : List (List ℕ)) → skip ≤ length lines
    → group_from skip number entries lines ≡ group_from 0 (number + skip) entries (drop skip lines)
from_skip zero number entries [] low = refl
from_skip zero number entries (line ∷ lines) low = let same : number ≡ number + 0 = omega arith in
    ap (λ n. group_from 0 n entries (line ∷ lines)) same
from_skip (suc skip) number entries [] low = absurd (omega (arith, low))
from_skip (suc skip) number entries (line ∷ lines) low =
    from_skip skip (number + 1) entries lines (omega (arith, low)) ∙ (let same : number + 1 + skip ≡ number + suc skip =
    omega arith in ap (λ n. group_from 0 n entries (drop skip lines)) same)

-- the lines from a place on begin with the line at it
lines_at : (lines : List (List ℕ)) (at : ℕ) (line item : List ℕ) (tail : List (List ℕ)) → line ≡ get_or lines at item
    → at < length lines → tail ≡ drop (at + 1) lines → drop at lines ≡ line ∷ tail
lines_at lines at line item tail is below rest =
    drop_more lines at item below ∙ (ap (λ (l : List ℕ). l ∷ drop (at + 1) lines) (sym is)
    ∙ ap (λ (ls : List (List ℕ)). line ∷ ls) (sym rest))

-- the next entry is put behind the others
pub entry_added : (entries all : List GroupEntry) (lines : List (List ℕ)) (at own : ℕ) (line item : List ℕ)
    (tail : List (List ℕ)) → line ≡ get_or lines at item → at < length lines → tail ≡ drop (at + 1) lines
    → own ≤ length tail
    → AddsEntry (Ok (Some own)) (entry_at entries line tail) entries all → group_from 0 (at + 1) entries (drop at lines)
    ≡ group_of lines → group_from 0 (at + (1 + own) + 1) all (drop (at + (1 + own)) lines) ≡ group_of lines
entry_added entries all lines at own line item tail is below rest low adds read =
    let goes : ((a : List GroupEntry) → ℕ → Result (List GroupEntry) ℕ) = λ a n. group_from n (at + 1 + 1) a tail in
    let number : at + 1 + 1 + own ≡ at + (1 + own) + 1 = omega arith in
    let place : at + 1 + own ≡ at + (1 + own) = omega arith in
    let left : drop own tail ≡ drop (at + (1 + own)) lines = ap (λ (ls : List (List ℕ)). drop own ls) rest
    ∙ (drop-drop own (at + 1) lines ∙ ap (λ n. drop n lines) place) in
    sym (ap (λ (n : ℕ). group_from 0 n all (drop own tail)) number
    ∙ ap (λ (ls : List (List ℕ)). group_from 0 (at + (1 + own) + 1) all ls) left)
    ∙ (sym (from_skip own (at + 1 + 1) all tail low)
    ∙ (ap (λ (l : List GroupEntry). group_from own (at + 1 + 1) l tail) adds.2
    ∙ (sym (ap (λ (o : Option Found). go_on entries (at + 1) o goes) adds.1)
    ∙ (sym (ap (λ (ls : List (List ℕ)). group_from 0 (at + 1) entries ls)
    (lines_at lines at line item tail is below rest)) ∙ read))))

-- the next lines are no entry
pub entry_none : (entries : List GroupEntry) (lines : List (List ℕ)) (at : ℕ) (line item : List ℕ)
    (tail : List (List ℕ)) → line ≡ get_or lines at item → at < length lines → tail ≡ drop (at + 1) lines
    → entry_at entries line tail ≡ None → group_from 0 (at + 1) entries (drop at lines) ≡ group_of lines
    → group_of lines ≡ Err (at + 1)
entry_none entries lines at line item tail is below rest none read =
    sym read ∙ (ap (λ (ls : List (List ℕ)). group_from 0 (at + 1) entries ls)
    (lines_at lines at line item tail is below rest)
    ∙ ap (λ (o : Option Found). go_on entries (at + 1) o (λ a n. group_from n (at + 1 + 1) a tail)) none)

pub within_on : (lines tail : List (List ℕ)) (at own : ℕ) → own ≤ length tail → tail ≡ drop (at + 1) lines
    → at < length lines → at + (1 + own) ≤ length lines
within_on lines tail at own low rest below =
    let long : length tail ≡ length lines - (at + 1) = ap (λ (ls : List (List ℕ)). length ls) rest
    ∙ length-drop (at + 1) lines in
    omega (arith, low, long, below)
