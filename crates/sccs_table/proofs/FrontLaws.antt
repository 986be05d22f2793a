-- What a line more makes of the reading of a header.
use Rattle.std.proofs.Common.{◌≡◌, ℕ, suc, ◌+◌, Bool, true, false, List, [], ◌∷◌, Option, None, Some, Result, Ok, Err}
use Rattle.std.proofs.Common.{refl, sym, ap, ◌∙◌, subst, arith}
use Rattle.sccs_base.specs.Cut.{Cut}
use Rattle.sccs_tokens.specs.Tokens.{token}
use Rattle.std.specs.Result.{IsErrAnd}
use Rattle.std.proofs.lemmas.Result.{err_from_is_err_and}
use Rattle.sccs_grammar.specs.FileRefusals.{unread_front}
use Rattle.sccs_grammar.specs.declared.header_parsers.FrontFault.{FrontFault}
use Rattle.sccs_grammar.specs.declared.header_parsers.FrontFault.TheVariants as fronts
use Rattle.sccs_grammar.specs.Front.{AcceptsIn, ParsedFront, after, accepted, header_of, is_whole, line_after}
use Rattle.sccs_grammar.specs.Front.{front_from}
use Rattle.sccs_grammar.specs.declared.header_parsers.HeaderParser.{HeaderParser}
use Rattle.sccs_tokens.specs.declared.line_tokens.LineToken.{LineToken}
use Rattle.sccs_grammar.specs.declared.faults.FileFault.{FileFault}
use Rattle.sccs_grammar.specs.declared.faults.FileFault.TheVariants.{Missing, TooLong, NotSccs, BadSum, BadFormat}
use Rattle.sccs_grammar.specs.declared.faults.FileFault.TheVariants.{Encoded, Changed, Failed, Memory}
use Rattle.sccs_table.specs.ReaderState.{ReaderState, StandsIn, TakesLine, left}
use Rattle.sccs_table.specs.FrontFile.{AnswersLine, AcceptsNext, IsFirst, Reads, read_as}

front-nil : (n : ℕ) (r : HeaderParser) → front_from n r [] ≡ Err n
unfolding front_from
front-nil n r = refl

front_fault : (n k : ℕ) (r : HeaderParser) (line : List ℕ) (lines : List (List ℕ)) → line_after n r line ≡ Err k
    → front_from n r (line ∷ lines) ≡ Err k
unfolding front_from
front_fault n k r line lines is = rw is refl

front_whole : (n : ℕ) (r s : HeaderParser) (line : List ℕ) (lines : List (List ℕ)) → line_after n r line ≡ Ok s
    → is_whole s.state ≡ true → front_from n r (line ∷ lines) ≡ Ok
    (record { header = header_of s; line = suc n; rest = lines })
unfolding front_from
front_whole n r s line lines is over = rw (is, over) refl

front_on : (n : ℕ) (r s : HeaderParser) (line : List ℕ) (lines : List (List ℕ)) → line_after n r line ≡ Ok s
    → is_whole s.state ≡ false → front_from n r (line ∷ lines) ≡ front_from (suc n) s lines
unfolding front_from
front_on n r s line lines is more = rw (is, more) refl

tokenizing : (n : ℕ) (r : HeaderParser) (line : List ℕ) (what : LineToken) → token line ≡ Some what
    → line_after n r line ≡ after n r.parts r.state what
unfolding line_after
tokenizing n r line what is = ap (accepted n r) is

line_silent : (n : ℕ) (r : HeaderParser) (line : List ℕ) → token line ≡ None → line_after n r line ≡ Err n
unfolding line_after
line_silent n r line is = ap (accepted n r) is

pub no_line : (o : Option (List ℕ)) (old new : ReaderState) (n : ℕ) (r : HeaderParser) (line : List ℕ)
    → TakesLine o old new line false → AcceptsNext o old new n r (Err (BadFormat n))
no_line None old new n r line takes = tt
no_line (Some file) old new n r line takes = λ stands.
    let taken = takes stands in
    ap (λ (c : Cut). front_from n r c.lines) taken.1 ∙ front-nil n r

pub line_at_fault : (o : Option (List ℕ)) (old new : ReaderState) (n k : ℕ) (r : HeaderParser) (line : List ℕ)
    → TakesLine o old new line true → line_after n r line ≡ Err k → AcceptsNext o old new n r (Err (BadFormat k))
line_at_fault None old new n k r line takes is = tt
line_at_fault (Some file) old new n k r line takes is = λ stands.
    let taken = takes stands in
    ap (λ (c : Cut). front_from n r c.lines) taken.1 ∙ front_fault n k r line (left new file).lines is

pub line_heard : (o : Option (List ℕ)) (old new : ReaderState) (n : ℕ) (r s : HeaderParser) (line : List ℕ)
    → TakesLine o old new line true → line_after n r line ≡ Ok s → AcceptsNext o old new n r (Ok s)
line_heard None old new n r s line takes is = tt
line_heard (Some file) old new n r s line takes is = λ stands. let taken = takes stands in
    (taken.0, (line, taken.1, is))

pub token_fault : (n k : ℕ) (r : HeaderParser) (line : List ℕ) (what : LineToken) → token line ≡ Some what
    → after n r.parts r.state what ≡ Err k → line_after n r line ≡ Err k
token_fault n k r line what is then_is = tokenizing n r line what is ∙ then_is

pub token_accepted : (n : ℕ) (r s : HeaderParser) (line : List ℕ) (what : LineToken) → token line ≡ Some what
    → after n r.parts r.state what ≡ Ok s → line_after n r line ≡ Ok s
token_accepted n r s line what is then_is = tokenizing n r line what is ∙ then_is

pub token_nothing : (n : ℕ) (r : HeaderParser) (line : List ℕ) → token line ≡ None → line_after n r line ≡ Err n
token_nothing n r line is = line_silent n r line is

-- a line that was taken, and what was read with it
pub line_answered : (o : Option (List ℕ)) (old new : ReaderState) (n : ℕ) (r : HeaderParser) (line : List ℕ)
    (read : Result HeaderParser FileFault) → TakesLine o old new line true → AnswersLine (line_after n r line) read
    → AcceptsNext o old new n r read
line_answered o old new n r line (Ok s) takes is = line_heard o old new n r s line takes is
line_answered o old new n r line (Err (BadFormat k)) takes is = line_at_fault o old new n k r line takes is
line_answered None old new n r line (Err Memory) takes is = tt
line_answered (Some file) old new n r line (Err Memory) takes is = λ stands. tt
line_answered o old new n r line (Err Failed) takes is = absurd is
line_answered o old new n r line (Err Missing) takes is = absurd is
line_answered o old new n r line (Err TooLong) takes is = absurd is
line_answered o old new n r line (Err NotSccs) takes is = absurd is
line_answered o old new n r line (Err (BadSum stored plain)) takes is = absurd is
line_answered o old new n r line (Err Encoded) takes is = absurd is
line_answered o old new n r line (Err (Changed a b c d)) takes is = absurd is

-- what the parts of a line's reading answer
pub line_refused : (n : ℕ) (r s : HeaderParser) (line : List ℕ) (what : LineToken) (fault : FrontFault)
    (result : Result (Unit {0}) FileFault) → token line ≡ Some what → AcceptsIn s (Err fault)
    (after n r.parts r.state what) → result ≡ Err (unread_front fault) → AnswersLine (line_after n r line)
    (read_as s result)
line_refused n r s line what (fronts.Format k) result is hears exit =
    subst (λ q. AnswersLine (line_after n r line) (read_as s q)) (sym exit) (token_fault n k r line what is hears)
line_refused n r s line what fronts.Memory result is hears exit =
    subst (λ q. AnswersLine (line_after n r line) (read_as s q)) (sym exit) tt

pub answered_first : (read : Result HeaderParser ℕ) (s : HeaderParser) (result : Result (Unit {0}) FileFault)
    → AnswersLine read (read_as s result) → IsFirst result
answered_first read s (Ok done) answers = λ size sum again sum_again is. cc
answered_first read s (Err Missing) answers = absurd answers
answered_first read s (Err TooLong) answers = absurd answers
answered_first read s (Err NotSccs) answers = absurd answers
answered_first read s (Err (BadSum stored plain)) answers = absurd answers
answered_first read s (Err (BadFormat k)) answers = λ size sum again sum_again is. cc
answered_first read s (Err Encoded) answers = absurd answers
answered_first read s (Err (Changed a b c d)) answers = absurd answers
answered_first read s (Err Failed) answers = absurd answers
answered_first read s (Err Memory) answers = λ size sum again sum_again is. cc

-- a call that was left by `?`
pub exit_is : {A : Type 0} (result : Result A FileFault) (fault : FileFault) → IsErrAnd result (λ e. e ≡ fault)
    → result ≡ Err fault
exit_is result fault left = let p = err_from_is_err_and result left in p.1 ∙ ap Err p.2

pub takes_line_at : (o : Option (List ℕ)) (old new : ReaderState) (line : List ℕ) (a b : Bool) → a ≡ b
    → TakesLine o old new line a → TakesLine o old new line b
takes_line_at o old new line a b is takes = subst (λ e. TakesLine o old new line e) is takes

-- ---- all lines of a header

abbrev front_at : HeaderParser → ℕ → List (List ℕ) → ParsedFront
front_at s n lines = record { header = header_of s; line = n; rest = lines }

-- reading goes on here as from the start
abbrev pub GoesLines : Option (List ℕ) → ReaderState → HeaderParser → ℕ → ReaderState → HeaderParser → ℕ → Type 0
GoesLines None begun r0 n0 now r n = Unit {0}
GoesLines (Some file) begun r0 n0 now r n =
    StandsIn begun file → StandsIn now file × ((left begun file).tail ≡ (left now file).tail)
    × (front_from n0 r0 (left begun file).lines ≡ front_from n r (left now file).lines)

pub lines_on : (o p : Option (List ℕ)) (begun now new : ReaderState) (r0 r s : HeaderParser) (n0 n : ℕ) → p ≡ o
    → GoesLines o begun r0 n0 now r n → AcceptsNext p now new n r (Ok s) → is_whole s.state ≡ false
    → GoesLines o begun r0 n0 new s (n + 1)
lines_on None p begun now new r0 r s n0 n is goes hears more = tt
lines_on (Some file) p begun now new r0 r s n0 n is goes hears more = λ stands.
    let here = goes stands in
    let heard_here = (subst (λ q. AcceptsNext q now new n r (Ok s)) is hears) here.0 in
    let one : suc n ≡ n + 1 = omega arith in (
      heard_here.0,
      here.1 ∙ ap (λ (c : Cut). c.tail) heard_here.1.1,
      here.2 ∙ (ap (λ (c : Cut). front_from n r c.lines) heard_here.1.1
          ∙ (front_on n r s heard_here.1.0 (left new file).lines heard_here.1.2 more
          ∙ ap (λ k. front_from k s (left new file).lines) one)),
    )

pub lines_done : (o p : Option (List ℕ)) (begun now new : ReaderState) (r0 r s : HeaderParser) (n0 n : ℕ) → p ≡ o
    → GoesLines o begun r0 n0 now r n → AcceptsNext p now new n r (Ok s) → is_whole s.state ≡ true
    → Reads o begun new r0 n0 (Ok (header_of s, n + 1))
lines_done None p begun now new r0 r s n0 n is goes hears whole = tt
lines_done (Some file) p begun now new r0 r s n0 n is goes hears whole = λ stands.
    let here = goes stands in
    let heard_here = (subst (λ q. AcceptsNext q now new n r (Ok s)) is hears) here.0 in
    let one : suc n ≡ n + 1 = omega arith in (
      heard_here.0,
      here.1 ∙ ap (λ (c : Cut). c.tail) heard_here.1.1,
      here.2 ∙ (ap (λ (c : Cut). front_from n r c.lines) heard_here.1.1
          ∙ (front_whole n r s heard_here.1.0 (left new file).lines heard_here.1.2 whole
          ∙ ap (λ k. Ok (front_at s k (left new file).lines)) one)),
    )
