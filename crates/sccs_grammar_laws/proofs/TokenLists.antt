-- A header is read by what its lines say.
use Rattle.std.proofs.Common.{◌≡◌, ℕ, suc, ◌+◌, Bool, true, false, List, [], ◌∷◌, ◌++◌, length, map, Option, None, Some}
use Rattle.std.proofs.Common.{Result, Ok, Err, refl, sym, ap, subst, ◌∙◌, arith, cond}
use Rattle.std.specs.Prelude.{if◌then◌else◌}
use Rattle.sccs_sid.specs.Reading.{◌>>=◌}
use Rattle.sccs_tokens.specs.Tokens.{token}
use Rattle.sccs_grammar.specs.Front.{ParsedFront, after, front_from, header_of, accepted, is_whole, line_after}
use Rattle.sccs_grammar.specs.declared.header_parsers.HeaderParser.{HeaderParser}
use Rattle.sccs_grammar.specs.declared.header_parsers.PartialHeader.{PartialHeader}
use Rattle.sccs_grammar.specs.declared.header_parsers.HeaderState.{HeaderState}
use Rattle.sccs_grammar.specs.declared.header_parsers.HeaderState.TheVariants.{AtBody}
use Rattle.sccs_tokens.specs.declared.line_tokens.LineToken.{LineToken}
use Rattle.sccs_grammar.proofs.SectionLaws.{go_on}

-- what is read with lines that say this, from line n on
abbrev pub run : ℕ → HeaderParser → List LineToken → Result HeaderParser ℕ
run n r [] = Ok r
run n r (s ∷ ss) = after n r.parts r.state s >>= λ q. run (suc n) q ss

abbrev pub completed : ℕ → HeaderParser → List (List ℕ) → ParsedFront
completed line r rest = record { header = header_of r; line = line; rest = rest }

-- ---- nothing goes on behind a whole header

stops : (n : ℕ) (parts : PartialHeader) (state : HeaderState) (s : LineToken) → is_whole state ≡ true
    → after n parts state s ≡ Err n
stops n parts AtBody s is = refl
stops n parts _ s is = cc

only_last : (n : ℕ) (r t : HeaderParser) (ss : List LineToken) → is_whole r.state ≡ true → run n r ss ≡ Ok t → (ss ≡ [])
    × (r ≡ t)
only_last n r t [] whole ran = (refl, cc)
only_last n r t (s ∷ ss) whole ran = fails (ap (λ (read : Result HeaderParser ℕ). read >>= λ q. run (suc n) q ss)
    (sym (stops n r.parts r.state s whole)) ∙ ran)
  where
    fails : ◌≡◌ {A = Result HeaderParser ℕ} (Err n) (Ok t) → (s ∷ ss ≡ []) × (r ≡ t)
    fails is = absurd cc

last_line : (n : ℕ) (r q : HeaderParser) (line : List ℕ) (rest : List (List ℕ)) → line_after n r line ≡ Ok q
    → is_whole q.state ≡ true → front_from n r (line ∷ rest) ≡ Ok (completed (suc n) q rest)
unfolding front_from
last_line n r q line rest is whole = rw (is, whole) refl

pub tokenizing : (n : ℕ) (r : HeaderParser) (line : List ℕ) (s : LineToken) → token line ≡ Some s
    → line_after n r line ≡ after n r.parts r.state s
unfolding line_after
tokenizing n r line s is = ap (accepted n r) is

-- ---- lines that say what is read complete the header

pub same_first : (line : List ℕ) (lines : List (List ℕ)) (s : LineToken) (ss : List LineToken)
    → map token (line ∷ lines) ≡ map Some (s ∷ ss) → (token line ≡ Some s) × (map token lines ≡ map Some ss)
same_first line lines s ss say = (cc, cc)

abbrev Reads : ℕ → HeaderParser → HeaderParser → List (List ℕ) → List (List ℕ) → Type 0
Reads n r t lines rest = front_from n r (lines ++ rest) ≡ Ok (completed (n + length lines) t rest)

first_whole : (n : ℕ) (r q t : HeaderParser) (line : List ℕ) (lines rest : List (List ℕ)) (ss : List LineToken)
    → line_after n r line ≡ Ok q → is_whole q.state ≡ true
    → map token lines ≡ map Some ss → run (suc n) q ss ≡ Ok t → Reads n r t (line ∷ lines) rest
first_whole n r q t line [] rest ss is whole say ran =
    let last = only_last (suc n) q t ss whole ran in
    let number : suc n ≡ n + 1 = omega arith in
    last_line n r q line rest is whole ∙ (ap (λ (x : HeaderParser). Ok (completed (suc n) x rest)) last.1
    ∙ ap (λ (m : ℕ). Ok (completed m t rest)) number)
first_whole n r q t line (more ∷ lines) rest ss is whole say ran =
    let last = only_last (suc n) q t ss whole ran in absurd (no_more (say ∙ ap (map Some) last.0))
  where
    no_more : map token (more ∷ lines) ≡ map Some [] → ⊥
    no_more same = cc

on_number : (n : ℕ) (t : HeaderParser) (line : List ℕ) (lines rest : List (List ℕ)) → ◌≡◌ {A = Result ParsedFront ℕ}
    (Ok (completed (suc n + length lines) t rest)) (Ok (completed (n + length (line ∷ lines)) t rest))
on_number n t line lines rest = let number : suc n + length lines ≡ n + length (line ∷ lines) = omega arith in
    ap (λ (m : ℕ). Ok (completed m t rest)) number

by_whole : (whole : Bool) (n : ℕ) (r q t : HeaderParser) (line : List ℕ) (lines rest : List (List ℕ))
    (ss : List LineToken) → is_whole q.state ≡ whole → line_after n r line ≡ Ok q
    → map token lines ≡ map Some ss → run (suc n) q ss ≡ Ok t → (is_whole q.state ≡ false
    → Reads (suc n) q t lines rest) → Reads n r t (line ∷ lines) rest
by_whole true n r q t line lines rest ss whole is say ran more = first_whole n r q t line lines rest ss is whole say ran
by_whole false n r q t line lines rest ss whole is say ran more = go_on n r q line (lines ++ rest) is whole
    ∙ (more whole ∙ on_number n t line lines rest)

by_read : (read : Result HeaderParser ℕ) (n : ℕ) (r t : HeaderParser) (line : List ℕ) (lines rest : List (List ℕ))
    (ss : List LineToken) → line_after n r line ≡ read
    → map token lines ≡ map Some ss → (read >>= λ q. run (suc n) q ss) ≡ Ok t
    → ((q : HeaderParser) → run (suc n) q ss ≡ Ok t → is_whole q.state ≡ false → Reads (suc n) q t lines rest)
    → Reads n r t (line ∷ lines) rest
by_read (Err k) n r t line lines rest ss is say ran more = absurd (no_error ran)
  where
    no_error : ◌≡◌ {A = Result HeaderParser ℕ} (Err k) (Ok t) → ⊥
    no_error same = cc
by_read (Ok q) n r t line lines rest ss is say ran more = by_whole (is_whole q.state) n r q t line lines rest ss refl is
    say ran (more q ran)

pub completes : (ss : List LineToken) (n : ℕ) (r t : HeaderParser) (lines rest : List (List ℕ))
    → map token lines ≡ map Some ss → run n r ss ≡ Ok t → is_whole t.state ≡ true → is_whole r.state ≡ false
    → Reads n r t lines rest
completes [] n r t lines rest say ran whole begun = absurd (both (ap (λ (x : Result HeaderParser ℕ). whole_of x) ran))
  where
    whole_of : Result HeaderParser ℕ → Bool
    whole_of (Ok x) = is_whole x.state
    whole_of (Err k) = false

    both : is_whole r.state ≡ is_whole t.state → ⊥
    both same = cc
completes (s ∷ ss) n r t [] rest say ran whole begun = absurd (no_line say)
  where
    no_line : map token [] ≡ map Some (s ∷ ss) → ⊥
    no_line same = cc
completes (s ∷ ss) n r t (line ∷ lines) rest say ran whole begun =
    let first = same_first line lines s ss say in
    by_read (after n r.parts r.state s) n r t line lines rest ss (tokenizing n r line s first.0) first.1 ran
    (λ q ran_on begun_on. completes ss (suc n) q t lines rest first.1 ran_on whole begun_on)

-- ---- a header that is read is what its lines say

-- lines up to the body, what they say, and what was read with the last of them
pub record Found (n : ℕ) (r : HeaderParser) (lines : List (List ℕ)) (p : ParsedFront) : Type 0 where
  pub prefix : List (List ℕ)
  pub line_tokens : List LineToken
  pub last : HeaderParser
  pub split : lines ≡ prefix ++ p.rest
  pub say : map token prefix ≡ map Some line_tokens
  pub ran : run n r line_tokens ≡ Ok last
  pub whole : is_whole last.state ≡ true
  pub header : p.header ≡ header_of last
  pub line : p.line ≡ n + length prefix

found_last : (n : ℕ) (r q : HeaderParser) (line : List ℕ) (lines : List (List ℕ)) (s : LineToken) (p : ParsedFront)
    → token line ≡ Some s → after n r.parts r.state s ≡ Ok q → is_whole q.state ≡ true
    → ◌≡◌ {A = Result ParsedFront ℕ} (Ok (completed (suc n) q lines)) (Ok p) → Found n r (line ∷ lines) p
found_last n r q line lines s p says is whole same =
    let one : completed (suc n) q lines ≡ p = cc in
    subst (λ (x : ParsedFront). Found n r (line ∷ lines) x) one (record {
      prefix = line ∷ [];
      line_tokens = s ∷ [];
      last = q;
      split = refl;
      say = ap (λ (o : Option LineToken). o ∷ []) says;
      ran = ap (λ (read : Result HeaderParser ℕ). read >>= λ x. Ok x) is;
      whole = whole;
      header = refl;
      line = omega arith;
    })

found_more : (n : ℕ) (r q : HeaderParser) (line : List ℕ) (lines : List (List ℕ)) (s : LineToken) (p : ParsedFront)
    → token line ≡ Some s → after n r.parts r.state s ≡ Ok q → Found (suc n) q lines p → Found n r (line ∷ lines) p
found_more n r q line lines s p says is found = record {
  prefix = line ∷ found.prefix;
  line_tokens = s ∷ found.line_tokens;
  last = found.last;
  split = ap (λ (ls : List (List ℕ)). line ∷ ls) found.split;
  say = ap (λ (o : Option LineToken). o ∷ map token found.prefix) says
      ∙ ap (λ (os : List (Option LineToken)). Some s ∷ os) found.say;
  ran = ap (λ (read : Result HeaderParser ℕ). read >>= λ x. run (suc n) x found.line_tokens) is ∙ found.ran;
  whole = found.whole;
  header = found.header;
  line = let number : suc n + length found.prefix ≡ n + length (line ∷ found.prefix) = omega arith in found.line
      ∙ number;
}

-- what the rest of the lines makes
abbrev on_with : ℕ → List (List ℕ) → HeaderParser → Result ParsedFront ℕ
on_with n lines s =
    if is_whole s.state then Ok (completed (suc n) s lines) else front_from (suc n) s lines

found_whole : (whole : Bool) (n : ℕ) (r q : HeaderParser) (line : List ℕ) (lines : List (List ℕ)) (s : LineToken)
    (p : ParsedFront) → is_whole q.state ≡ whole → token line ≡ Some s → after n r.parts r.state s ≡ Ok q
    → (front_from (suc n) q lines ≡ Ok p → Found (suc n) q lines p) → cond whole (Ok (completed (suc n) q lines))
    (front_from (suc n) q lines) ≡ Ok p → Found n r (line ∷ lines) p
found_whole true n r q line lines s p whole says is more read = found_last n r q line lines s p says is whole read
found_whole false n r q line lines s p whole says is more read = found_more n r q line lines s p says is (more read)

found_read : (after_line : Result HeaderParser ℕ) (n : ℕ) (r : HeaderParser) (line : List ℕ) (lines : List (List ℕ))
    (s : LineToken) (p : ParsedFront) → token line ≡ Some s → after n r.parts r.state s ≡ after_line
    → ((q : HeaderParser) → front_from (suc n) q lines ≡ Ok p → Found (suc n) q lines p)
    → (after_line >>= on_with n lines) ≡ Ok p → Found n r (line ∷ lines) p
found_read (Err k) n r line lines s p says is more read = absurd (no_error read)
  where
    no_error : ◌≡◌ {A = Result ParsedFront ℕ} (Err k) (Ok p) → ⊥
    no_error same = cc
found_read (Ok q) n r line lines s p says is more read = found_whole (is_whole q.state) n r q line lines s p refl says
    is (more q) read

found_token : (what : Option LineToken) (n : ℕ) (r : HeaderParser) (line : List ℕ) (lines : List (List ℕ))
    (p : ParsedFront) → token line ≡ what
    → ((q : HeaderParser) → front_from (suc n) q lines ≡ Ok p → Found (suc n) q lines p)
    → (accepted n r what >>= on_with n lines) ≡ Ok p → Found n r (line ∷ lines) p
found_token None n r line lines p says more read = absurd (no_error read)
  where
    no_error : ◌≡◌ {A = Result ParsedFront ℕ} (Err n) (Ok p) → ⊥
    no_error same = cc
found_token (Some s) n r line lines p says more read = found_read (after n r.parts r.state s) n r line lines s p says
    refl more read

pub found : (lines : List (List ℕ)) (n : ℕ) (r : HeaderParser) (p : ParsedFront) → front_from n r lines ≡ Ok p
    → Found n r lines p
unfolding front_from line_after
found [] n r p read = absurd (no_error read)
  where
    no_error : ◌≡◌ {A = Result ParsedFront ℕ} (Err n) (Ok p) → ⊥
    no_error same = cc
found (line ∷ lines) n r p read = found_token (token line) n r line lines p refl (λ q. found lines (suc n) q p) read
