-- How many lines ended before a reader's place.
use Rattle.std.proofs.Common.{◌≡◌, ℕ, ◌+◌, ◌-◌, ◌≤◌, List, [], Option, None, Some, length, max, min, take, drop, sym}
use Rattle.std.proofs.Common.{ap, ◌∙◌, subst, arith, ⊎_elim, length-drop, length-take}
use Rattle.std.specs.Prelude.{IfSome}
use Rattle.std.proofs.lemmas.Bool.{cases_lt}
use Rattle.std.proofs.lemmas.List.{drop-drop, take_all, take-take}
use Rattle.std.proofs.Math.Seq.{take-add}
use Rattle.sccs_base.specs.Cut.{Cut, HasNoLf}
use Rattle.sccs_tokens.proofs.CutLaws.{cut_tail}
use Rattle.sccs_table.specs.Runs.{lf_count}
use Rattle.sccs_table.specs.ReaderState.{ReaderState}
use Rattle.sccs_table.proofs.ReaderLaws.{held_of, holding, passed_over}
use Rattle.sccs_table.proofs.RunLaws.{lf_count_append, lf_count_bound, lines_are}

-- the lines of the first bytes of a piece, and of those behind
count_on : (piece : List ℕ) (start count : ℕ) → lf_count (take (start + count) piece) ≡ lf_count (take start piece)
    + lf_count (take count (drop start piece))
count_on piece start count = ap lf_count (take-add start count piece) ∙ lf_count_append (take start piece)
    (take count (drop start piece))

-- the lines of so many held bytes
pub held_lines : (old : ReaderState) (name piece : List ℕ) (start end place limit sum count : ℕ)
    → holding name (held_of piece start end) place limit sum ≡ old → count ≤ length old.held
    → lf_count (take (start + count) piece) ≡ lf_count (take start piece) + lf_count (take count old.held)
held_lines old name piece start end place limit sum count is fits =
    let many : start + count - start ≡ count = omega arith in
    let part : take count (drop start piece) ≡ take count old.held = ap (λ n. take n (drop start piece)) (sym many)
    ∙ passed_over old name piece start end place limit sum count is fits in
    count_on piece start count ∙ ap (λ bytes. lf_count (take start piece) + lf_count bytes) part

pub no_lines : (bytes : List ℕ) → HasNoLf bytes → lf_count bytes ≡ 0
no_lines bytes none = lines_are bytes ∙ ap (λ (c : Cut). length c.lines) (cut_tail bytes none)

-- ---- the lines between two places of a file

pub few_lines : (count lines : ℕ) (piece : List ℕ) → lines ≡ lf_count (take count piece) → lines ≤ count
few_lines count lines piece is = omega (arith, is, lf_count_bound (take count piece), length-take count piece)

-- one piece more
counted_in : (file piece : List ℕ) (from at count room lines : ℕ) → from ≤ at → count ≤ room
    → lines ≡ lf_count (take (at - from) (drop from file)) → take count piece ≡ take room (drop at file)
    → lines + lf_count (take count piece) ≡ lf_count (take (at + count - from) (drop from file))
counted_in file piece from at count room lines low within so got =
    let many : at + count - from ≡ at - from + count = omega arith in
    let behind : drop (at - from) (drop from file) ≡ drop at file = drop-drop (at - from) from file
    ∙ ap (λ n. drop n file) (omega arith) in
    let part : take count piece ≡ take count (drop (at - from) (drop from file)) =
    sym (take-take count count piece (omega arith))
    ∙ (ap (take count) got ∙ (take-take count room (drop at file) within ∙ ap (take count) (sym behind))) in
    ap (λ n. n + lf_count (take count piece)) so
    ∙ (ap (λ bytes. lf_count (take (at - from) (drop from file)) + lf_count bytes) part
    ∙ (sym (count_on (drop from file) (at - from) count) ∙ ap (λ n. lf_count (take n (drop from file))) (sym many)))

pub counted_more : (o p : Option (List ℕ)) (piece : List ℕ) (from at count room lines more : ℕ) → p ≡ o → from ≤ at
    → count ≤ room → more ≡ lf_count (take count piece)
    → IfSome o (λ file. lines ≡ lf_count (take (at - from) (drop from file)))
    → IfSome p (λ file. take count piece ≡ take room (drop at file))
    → IfSome o (λ file. lines + more ≡ lf_count (take (at + count - from) (drop from file)))
counted_more None p piece from at count room lines more same low within is so got = tt
counted_more (Some file) p piece from at count room lines more same low within is so got =
    ap (λ n. lines + n) is ∙ counted_in file piece from at count room lines low within so
    (subst (λ q. IfSome q (λ f. take count piece ≡ take room (drop at f))) same got)

-- nothing is left before the place, or in the file
counted_out : (file : List ℕ) (from at to room : ℕ) → from ≤ at → at ≤ max from to → room ≡ min (to - at) 4096
    → [] ≡ take room (drop at file) → lf_count (take (at - from) (drop from file)) ≡ lf_count
    (take (to - from) (drop from file))
counted_out file from at to room low high is none =
    let empty : 0 ≡ min room (length file - at) = ap length none ∙ (length-take room (drop at file)
    ∙ ap (min room) (length-drop at file)) in
    ⊎_elim (λ before.
    let over : length (drop from file) ≤ at - from = omega (arith, empty, length-drop from file) in
    ap lf_count (take_all (at - from) (drop from file) over
    ∙ sym (take_all (to - from) (drop from file) (omega arith))))
    (λ past. ap (λ n. lf_count (take n (drop from file))) (omega arith)) (cases_lt at to)

pub counted_whole : (o p : Option (List ℕ)) (piece : List ℕ) (from at to room count lines : ℕ) → p ≡ o → from ≤ at
    → at ≤ max from to → room ≡ min (to - at) 4096 → count ≡ 0
    → IfSome o (λ file. lines ≡ lf_count (take (at - from) (drop from file)))
    → IfSome p (λ file. take count piece ≡ take room (drop at file))
    → IfSome o (λ file. lines ≡ lf_count (take (to - from) (drop from file)))
counted_whole None p piece from at to room count lines same low high is zero so got = tt
counted_whole (Some file) p piece from at to room count lines same low high is zero so got =
    so ∙ counted_out file from at to room low high is (ap (λ n. take n piece) (sym zero)
    ∙ subst (λ q. IfSome q (λ f. take count piece ≡ take room (drop at f))) same got)
