-- What is still to come of a told file that is read again.
use Rattle.std.proofs.Common.{◌≡◌, ◌≢◌, ℕ, suc, ◌+◌, ◌<◌, ◌≤◌, max, min, true, List, [], ◌∷◌, length, map, take, drop}
use Rattle.std.proofs.Common.{Option, None, Some, Result, Ok, Err, inl, inr, refl, sym, ap, ◌∙◌, subst, arith}
use Rattle.std.specs.Prelude.{IfOk, IfSome}
use Rattle.std.proofs.lemmas.Bool.{cases_lt}
use Rattle.std.proofs.lemmas.List.{length-take-le}
use Rattle.sccs_base.specs.Cut.{Cut, cut}
use Rattle.sccs_history.specs.Applied.{live_serials}
use Rattle.sccs_history.specs.Body.{may_stand}
use Rattle.sccs_history.specs.declared.headers.Item.{Item}
use Rattle.sccs_history.specs.declared.headers.Item.TheVariants.{Text}
use Rattle.sccs_tokens.specs.Items.{items_from}
use Rattle.sccs_grammar.specs.declared.faults.FileFault.{FileFault}
use Rattle.sccs_grammar.specs.declared.faults.FileFault.TheVariants.{Missing, TooLong, NotSccs, BadSum, BadFormat}
use Rattle.sccs_grammar.specs.declared.faults.FileFault.TheVariants.{Encoded, Changed, Failed, Memory}
use Rattle.sccs_body.specs.States.{Knows}
use Rattle.sccs_body.specs.declared.body_states.BodyState.{BodyState}
use Rattle.sccs_table.specs.Runs.{IsRun, PassesRun}
use Rattle.sccs_table.specs.ReaderState.{ReaderState, StandsIn, Stays, behind_sum, left}
use Rattle.sccs_table.specs.SumOf.{IsPlainSumOf}
use Rattle.sccs_table.specs.FrontFile.{IsOuter}
use Rattle.sccs_table.specs.declared.fronts.Front.{Front}
use Rattle.sccs_table.proofs.ReaderLaws.{holding}
use Rattle.sccs_table.proofs.FileLaws.{fresh_stands, sum_of_all}
use Rattle.sccs_body.specs.BodyFile.{items_of}
use Rattle.sccs_body.specs.ItemsRead.{GivesBodyItem, GivesItem, GoesBehind, IsBehind, texts_behind}
use Rattle.sccs_body.specs.Reader.{BodyPlace, ItemPlace, at_hand, bytes_left, next_line_number}
use Rattle.sccs_body.specs.ToCome.{AgreesAtEnd, BeginsIn, ComesOrStays, GivesNext, IsFrontFor, KeepsFile, MayPass}
use Rattle.sccs_body.specs.ToCome.{TextsCome, ToCome, onto, rest_of}
use Rattle.sccs_body.proofs.BodyLaws.{items_on, onto_none}
use Rattle.sccs_body.proofs.NumberLaws.{number_kept, number_low, number_on}
use Rattle.sccs_body.proofs.TextLaws.{behind_texts, items_from_texts, some_bytes}
use Rattle.sccs_table.proofs.RunLaws.{no_run, run_passed}

-- ---- before the file is read

abbrev pub body_with : BodyState → ℕ → ℕ → ReaderState → BodyPlace
body_with state first from lines = record { lines = lines; state = state; first = first; from = from }

abbrev pub before_all : List ℕ → BodyState → ℕ → ℕ → ℕ → ℕ → ItemPlace
before_all name state first from size sum =
    record { body = body_with state first from (holding name [] 0 1073741825 0); size = size; sum = sum }

-- what the lines from a place on have, as code computes the place and the number
items_at : (file live : List ℕ) (n k from to : ℕ) → n ≡ k → from ≡ to
    → items_from live n [] (cut (drop from file)).lines (cut (drop from file)).tail ≡ items_from live k []
    (cut (drop to file)).lines (cut (drop to file)).tail
items_at file live n k from to number place =
    ap (λ m. items_from live m [] (cut (drop from file)).lines (cut (drop from file)).tail) number
    ∙ ap (λ m. items_from live k [] (cut (drop m file)).lines (cut (drop m file)).tail) place

pub fresh_comes : (file name : List ℕ) (front : Front) (state : BodyState) (first from : ℕ) → IsFrontFor file front
    → Knows (live_serials front.header.records) [] state → first ≡ min front.body_line 1073741827
    → from ≡ min front.body_from 1073741825
    → ToCome file (live_serials front.header.records) [] (items_of file front)
    (before_all name state first from front.size front.sum)
fresh_comes file name front state first from of knows first_is from_is =
    let line_is : front.body_line ≡ first = omega (
      arith,
      first_is,
      of.placed.counted,
      of.placed.within,
      of.placed.limit,
    ) in
    record {
      behind = knows;
      stands = fresh_stands name file 1073741825 (omega (arith, of.size, of.placed.limit));
      begins = λ low. refl;
      within = omega (arith, of.size, of.placed.limit, of.placed.within);
      size = of.size;
      sum = of.sum;
      items = items_at file (live_serials front.header.records) front.body_line
          (next_line_number (before_all name state first from front.size front.sum).body file) front.body_from
          (max from 0) (line_is ∙ sym (number_low file (before_all name state first from front.size front.sum).body
          (omega arith))) (omega (arith, from_is, of.placed.within, of.placed.limit));
    }

-- ---- the header

-- the place up to which the header goes is where the body begins
pub header_read : (file live : List ℕ) (before : List Item) (found : Result (List Item) ℕ) (old new : ItemPlace)
    → KeepsFile old new → new.body.state ≡ old.body.state → StandsIn new.body.lines file → new.body.lines.held ≡ []
    → old.body.lines.place < old.body.from
    → min old.body.from (length file) ≤ new.body.lines.place → new.body.lines.place ≤ max old.body.from
    (old.body.lines.place + length old.body.lines.held) → ToCome file live before found old
    → ToCome file live before found new
header_read file live before found old new kept state stands held low past bound p =
    let none = ap length (p.begins low) in
    let from_is : new.body.lines.place ≡ old.body.from = omega (arith, none, low, past, bound, p.within) in
    let place_is : max old.body.from old.body.lines.place ≡ max new.body.from new.body.lines.place =
    omega (arith, kept.body.from, from_is, low) in
    let number : next_line_number new.body file ≡ next_line_number old.body file =
    number_low file new.body (omega (arith, kept.body.from, from_is))
    ∙ (kept.body.first ∙ sym (number_low file old.body (omega (arith, low)))) in
    record {
      behind = subst (λ s. Knows live before s) (sym state) p.behind;
      stands = stands;
      begins = λ lower. held;
      within = omega (arith, kept.body.from, p.within);
      size = kept.size ∙ p.size;
      sum = kept.sum ∙ p.sum;
      items = p.items
          ∙ (ap (λ n. items_from live n before (rest_of old file).lines (rest_of old file).tail) (sym number)
          ∙ ap (λ n. items_from live (next_line_number new.body file) before (cut (drop n file)).lines
          (cut (drop n file)).tail) place_is);
    }

-- ---- the next item

module _ (file live : List ℕ) (before : List Item) (found : Result (List Item) ℕ) (old new : ItemPlace)
    (kept : KeepsFile old new) (begun : old.body.from ≤ old.body.lines.place)
    (onward : old.body.lines.place ≤ new.body.lines.place) (p : ToCome file live before found old) where
  -- the body goes on where the reader stands
  from_here : found ≡ items_from live (next_line_number old.body file) before (left old.body.lines file).lines
      (left old.body.lines file).tail
  from_here =
      let here : max old.body.from old.body.lines.place ≡ old.body.lines.place = omega arith in
      p.items ∙ ap (λ n. items_from live (next_line_number old.body file) before (cut (drop n file)).lines
      (cut (drop n file)).tail) here

  from_there : (items : List Item) → items_from live (next_line_number new.body file) items
      (left new.body.lines file).lines (left new.body.lines file).tail ≡ items_from live
      (next_line_number new.body file) items (rest_of new file).lines (rest_of new file).tail
  from_there items =
      let there : new.body.lines.place ≡ max new.body.from new.body.lines.place = omega (arith, kept.body.from) in
      ap (λ n. items_from live (next_line_number new.body file) items (cut (drop n file)).lines
      (cut (drop n file)).tail) there

  comes_behind : (items : List Item) → IsBehind live items new → StandsIn new.body.lines file
      → ToCome file live items (items_from live (next_line_number new.body file) items (left new.body.lines file).lines
      (left new.body.lines file).tail) new
  comes_behind items behind stands = record {
    behind = behind;
    stands = stands;
    begins = λ low. absurd (omega (arith, kept.body.from));
    within = omega (arith, kept.body.from, p.within);
    size = kept.size ∙ p.size;
    sum = kept.sum ∙ p.sum;
    items = from_there items;
  }

  pub gives_next : (result : Result (Option Item) FileFault) → GivesItem live before file old.body new.body result
      → GoesBehind live before new.body result → GivesNext file live before found new result
  gives_next (Ok (Some item)) gives goes =
      let one : suc (next_line_number old.body file) ≡ next_line_number new.body file =
      omega (
        arith,
        number_on file old.body new.body (gives.1.0 ∷ []) kept.body begun onward
            (ap (λ (c : Cut). c.lines) gives.1.1),
      ) in
      record {
        rest = items_from live (next_line_number new.body file) (item ∷ before) (left new.body.lines file).lines
            (left new.body.lines file).tail;
        first = from_here
            ∙ (ap (λ (c : Cut). items_from live (next_line_number old.body file) before c.lines c.tail) gives.1.1
            ∙ (items_on live (next_line_number old.body file) before item gives.1.0 (left new.body.lines file).lines
            (left new.body.lines file).tail gives.1.2
            ∙ ap (λ k. onto (item ∷ []) (items_from live k (item ∷ before) (left new.body.lines file).lines
            (left new.body.lines file).tail)) one));
        on = comes_behind (item ∷ before) goes.1 gives.0;
      }
  gives_next (Ok None) gives goes = from_here ∙ gives
  gives_next (Err (BadFormat line)) gives goes = from_here ∙ gives.1
  gives_next (Err Failed) gives goes = tt
  gives_next (Err Memory) gives goes = tt
  gives_next (Err Missing) gives goes = absurd gives
  gives_next (Err TooLong) gives goes = absurd gives
  gives_next (Err NotSccs) gives goes = absurd gives
  gives_next (Err (BadSum s c)) gives goes = absurd gives
  gives_next (Err Encoded) gives goes = absurd gives
  gives_next (Err (Changed a b c d)) gives goes = absurd gives

  -- the same, where the view tells the file
  pub next_gives : (o : Option (List ℕ)) (result : Result (Option Item) FileFault) → o ≡ Some file
      → GivesBodyItem o live before old.body new.body result → GoesBehind live before new.body result
      → GivesNext file live before found new result
  next_gives o result is gives goes =
      gives_next result (subst (λ q. GivesBodyItem q live before old.body new.body result) is gives p.stands) goes

  -- lines that stand together
  texts_behind_comes : (run : List ℕ) → IsRun run → ((0 < length run) → (text : List ℕ)
      → may_stand live before (Text text) ≡ true) → IsBehind live (texts_behind (cut run).lines before) new
      → PassesRun run file old.body.lines new.body.lines → TextsCome file live before found run new
  texts_behind_comes run is stand behind passes =
      let passed = passes p.stands in
      let lines = (cut run).lines in
      let number = number_on file old.body new.body lines kept.body begun onward (ap (λ (c : Cut). c.lines) passed.1) in
      record {
        rest = items_from live (next_line_number new.body file) (texts_behind lines before)
            (left new.body.lines file).lines (left new.body.lines file).tail;
        first = from_here
            ∙ (ap (λ (c : Cut). items_from live (next_line_number old.body file) before c.lines c.tail) passed.1
            ∙ (items_from_texts live (next_line_number old.body file) before lines (left new.body.lines file).lines
            (left new.body.lines file).tail is.1 (λ some. stand (some_bytes run some))
            ∙ ap (λ k. onto (map Text lines) (items_from live k (texts_behind lines before)
            (left new.body.lines file).lines (left new.body.lines file).tail)) (sym number)));
        on = comes_behind (texts_behind lines before) behind passed.0;
      }

-- ---- before the header was read nothing is held, and nothing is passed over

nothing_comes : (file live : List ℕ) (before : List Item) (found : Result (List Item) ℕ) (old new : ItemPlace)
    → KeepsFile old new → IsBehind live (texts_behind (cut []).lines before) new → StandsIn new.body.lines file
    → new.body.lines.held ≡ [] → new.body.lines.place ≡ old.body.lines.place → ToCome file live before found old
    → TextsCome file live before found [] new
unfolding cut
nothing_comes file live before found old new kept behind stands held place p =
    let same : next_line_number old.body file ≡ next_line_number new.body file =
    sym (number_kept file old.body new.body kept.body place) in
    let there : max old.body.from old.body.lines.place ≡ max new.body.from new.body.lines.place =
    omega (arith, kept.body.from, place) in
    record {
      rest = found;
      first = onto_none found;
      on = record {
        behind = behind;
        stands = stands;
        begins = λ low. held;
        within = omega (arith, kept.body.from, p.within);
        size = kept.size ∙ p.size;
        sum = kept.sum ∙ p.sum;
        items = p.items
            ∙ (ap (λ n. items_from live n before (rest_of old file).lines (rest_of old file).tail) same
            ∙ ap (λ n. items_from live (next_line_number new.body file) before (cut (drop n file)).lines
            (cut (drop n file)).tail) there);
      };
    }

low_comes : (file live : List ℕ) (before : List Item) (found : Result (List Item) ℕ) (old new : ItemPlace)
    (run : List ℕ) → run ≡ [] → KeepsFile old new → IsBehind live (texts_behind (cut run).lines before) new
    → StandsIn new.body.lines file
    → new.body.lines.held ≡ [] → new.body.lines.place ≡ old.body.lines.place → ToCome file live before found old
    → TextsCome file live before found run new
low_comes file live before found old new run is kept behind stands held place p =
    subst (λ r. IsBehind live (texts_behind (cut r).lines before) new → TextsCome file live before found r new) (sym is)
    (λ behind. nothing_comes file live before found old new kept behind stands held place p) behind

-- a reader that passed over some of what it held
pub pass_comes : (file live : List ℕ) (before : List Item) (found : Result (List Item) ℕ) (old new : ItemPlace)
    (count : ℕ) → KeepsFile old new → MayPass old count → new.body.lines.place ≡ old.body.lines.place + count
    → new.body.lines.held ≡ drop count old.body.lines.held
    → IsBehind live (texts_behind (cut (at_hand old count)).lines before) new
    → PassesRun (at_hand old count) file old.body.lines new.body.lines → ToCome file live before found old
    → TextsCome file live before found (at_hand old count) new
pass_comes file live before found old new count kept may place held behind passes p =
    elim (cases_lt old.body.lines.place old.body.from) [
      | inl low ↦
          let none = p.begins low in
          let zero_is : count ≡ 0 = omega (arith, ap length none, may.fits) in
          low_comes file live before found old new (at_hand old count) (ap (λ n. take n old.body.lines.held) zero_is)
          kept
          behind (passes p.stands).0 (held ∙ (ap (λ n. drop n old.body.lines.held) zero_is ∙ none))
          (omega (arith, place, zero_is)) p
      | inr high ↦
          let long : length (at_hand old count) ≡ count = length-take-le count old.body.lines.held may.fits in
          texts_behind_comes file live before found old new kept high (omega (arith, place)) p (at_hand old count)
          may.run
          (λ some text. may.stand live before text p.behind (subst (λ n. 0 < n) long some)) behind passes
    ]

-- ---- the end of a told file

pub ends_same : (file : List ℕ) (old new : ItemPlace) (to : ℕ) → length file ≤ to
    → min to (length file) ≤ new.body.lines.place → StandsIn new.body.lines file → old.size ≡ length file
    → IsPlainSumOf old.sum (behind_sum file) → (new.body.lines.place ≡ old.size) × (new.body.lines.sum ≡ old.sum)
ends_same file old new to low past stands size sum = (
  omega (arith, low, past, stands.within, size),
  sum_of_all new.body.lines file to low past stands ∙ sym sum,
)

-- ---- the bytes at hand

pub hand_long : (r : ItemPlace) (count : ℕ) → MayPass r count → length (at_hand r count) ≡ count
hand_long r count may = length-take-le count r.body.lines.held may.fits

pub nothing_at_hand : (r : ItemPlace) (count : ℕ) → count ≡ 0 → at_hand r count ≡ []
nothing_at_hand r count none = ap (λ n. take n r.body.lines.held) none

pub nothing_may_pass : (r : ItemPlace) → MayPass r 0
nothing_may_pass r = record {
  fits = omega arith;
  run = no_run;
  stand = λ live before text behind some. absurd
      (omega arith);
}

past : ItemPlace → ℕ → ItemPlace
past r count = record r {
  body = record {
    lines = record r.body.lines { held = drop count r.body.lines.held; place = r.body.lines.place + count };
    state = r.body.state;
    first = r.body.first;
    from = r.body.from;
  };
}

-- what comes first, before it is passed over
pub first_comes : (file live : List ℕ) (before : List Item) (found : Result (List Item) ℕ) (r : ItemPlace)
    (text : List ℕ) → MayPass r (length text) → at_hand r (length text) ≡ text → ToCome file live before found r
    → (rest : Result (List Item) ℕ) × (found ≡ onto (map Text (cut text).lines) rest)
unfolding past
first_comes file live before found r text may is p =
    let kept : KeepsFile r (past r (length text)) =
    record { name = refl; limit = refl; body = record { first = refl; from = refl }; size = refl; sum = refl } in
    let behind = behind_texts live (cut (at_hand r (length text))).lines before r.body.state p.behind in
    let come = pass_comes file live before found r (past r (length text)) (length text) kept may refl refl behind
    (run_passed r.body.lines (past r (length text)).body.lines file (length text) may.fits may.run.0
    (refl, refl) refl refl) p in
    (come.rest, come.first ∙ ap (λ t. onto (map Text (cut t).lines) come.rest) is)

-- ---- what can't come over a told file

pub outer_next : (file live : List ℕ) (before : List Item) (found : Result (List Item) ℕ) (new : ItemPlace)
    (fault : FileFault) (result : Result (Option Item) FileFault) → result ≡ Err fault
    → IsOuter {T = Unit {0}} (Err fault) → GivesNext file live before found new result
outer_next file live before found new Failed result is outer = subst (λ r. GivesNext file live before found new r)
    (sym is) tt
outer_next file live before found new Memory result is outer = subst (λ r. GivesNext file live before found new r)
    (sym is) tt
outer_next file live before found new Missing result is outer = absurd outer
outer_next file live before found new TooLong result is outer = absurd outer
outer_next file live before found new NotSccs result is outer = absurd outer
outer_next file live before found new (BadSum s c) result is outer = absurd outer
outer_next file live before found new (BadFormat k) result is outer = absurd outer
outer_next file live before found new Encoded result is outer = absurd outer
outer_next file live before found new (Changed a b c d) result is outer = absurd outer

pub begin_fails : (file live : List ℕ) (before : List Item) (found : Result (List Item) ℕ) (new : ItemPlace)
    (fault : FileFault) (result : Result (Option Item) FileFault) → result ≡ Err fault
    → BeginsIn file live before found new (Err fault) → GivesNext file live before found new result
    × StandsIn new.body.lines file
begin_fails file live before found new Failed result is stands = (
  subst (λ r. GivesNext file live before found new r)
      (sym is) tt,
  stands,
)
begin_fails file live before found new Memory result is stands = absurd stands
begin_fails file live before found new Missing result is stands = absurd stands
begin_fails file live before found new TooLong result is stands = absurd stands
begin_fails file live before found new NotSccs result is stands = absurd stands
begin_fails file live before found new (BadSum s c) result is stands = absurd stands
begin_fails file live before found new (BadFormat k) result is stands = absurd stands
begin_fails file live before found new Encoded result is stands = absurd stands
begin_fails file live before found new (Changed a b c d) result is stands = absurd stands

pub next_further : (old new : ItemPlace) (result : Result (Option Item) FileFault)
    → new.body.lines.limit ≡ old.body.lines.limit → new.body.lines.place + length new.body.lines.held ≤
    new.body.lines.limit → IfOk result (λ o. IfSome o (λ _. old.body.lines.place < new.body.lines.place))
    → IfOk result (λ o. IfSome o (λ _. bytes_left new < bytes_left old))
next_further old new (Ok (Some item)) limit ahead further = omega (arith, limit, ahead, further)
next_further old new (Ok None) limit ahead further = tt
next_further old new (Err fault) limit ahead further = tt

-- reading goes on from one place to another
pub further_on : (old now new : ItemPlace) (result : Result (Option Item) FileFault) → KeepsFile old now
    → old.body.lines.place ≤ now.body.lines.place → IfOk result (λ o. IfSome o (λ _. bytes_left new < bytes_left now))
    → IfOk result (λ o. IfSome o (λ _. bytes_left new < bytes_left old))
further_on old now new (Ok (Some item)) kept onward further = omega (arith, kept.limit, onward, further)
further_on old now new (Ok None) kept onward further = tt
further_on old now new (Err fault) kept onward further = tt

-- ---- a control line that was taken, or what was read on

-- the reader stands where it stood, and holds something else
kept_comes : (file live : List ℕ) (before : List Item) (found : Result (List Item) ℕ) (old new : ItemPlace)
    → KeepsFile old new → old.body.from ≤ old.body.lines.place → new.body.lines.place ≡ old.body.lines.place
    → IsBehind live before new → StandsIn new.body.lines file
    → ToCome file live before found old → ToCome file live before found new
kept_comes file live before found old new kept begun place behind stands p =
    let number = number_kept file old.body new.body kept.body place in
    let there : max old.body.from old.body.lines.place ≡ max new.body.from new.body.lines.place =
    omega (arith, kept.body.from, place) in
    record {
      behind = behind;
      stands = stands;
      begins = λ low. absurd (omega (arith, kept.body.from, place));
      within = omega (arith, kept.body.from, p.within);
      size = kept.size ∙ p.size;
      sum = kept.sum ∙ p.sum;
      items = p.items
          ∙ (ap (λ n. items_from live n before (rest_of old file).lines (rest_of old file).tail) (sym number)
          ∙ ap (λ n. items_from live (next_line_number new.body file) before (cut (drop n file)).lines
          (cut (drop n file)).tail) there);
    }

pub control_comes : (file live : List ℕ) (before : List Item) (found : Result (List Item) ℕ) (old new : ItemPlace)
    (taken : Option Item) → KeepsFile old new → old.body.from ≤ old.body.lines.place
    → Stays (Some file) old.body.lines new.body.lines → IfSome taken (λ _. old.body.lines.place < new.body.lines.place)
    → (taken ≡ None → new.body.lines ≡ old.body.lines) → (taken ≡ None → IsBehind live before new)
    → IfSome taken (λ item. GoesBehind live before new.body (Ok (Some item)))
    → IfSome taken (λ item. GivesBodyItem (Some file) live before old.body new.body (Ok (Some item)))
    → ToCome file live before found old → ComesOrStays file live before found new taken
control_comes file live before found old new (Some item) kept begun stays further same behind goes gives p =
    next_gives file live before found old new kept begun (omega (arith, further)) p (Some file) (Ok (Some item)) refl
    gives goes
control_comes file live before found old new None kept begun stays further same behind goes gives p =
    kept_comes file live before found old new kept begun (ap (λ (r : ReaderState). r.place) (same refl)) (behind refl)
    (stays file refl p.stands) p

pub kept_on : (old now new : ItemPlace) → KeepsFile old now → KeepsFile now new → KeepsFile old new
kept_on old now new first behind = record {
  name = behind.name ∙ first.name;
  limit = behind.limit ∙ first.limit;
  body =
      record { first = behind.body.first ∙ first.body.first; from = behind.body.from ∙ first.body.from };
  size =
      behind.size ∙ first.size;
  sum = behind.sum ∙ first.sum;
}

abbrev pub fault_of : FileFault → Result (Unit {0}) FileFault
fault_of fault = Err fault

pub agrees_fault : (r : ItemPlace) (fault : FileFault) (result : Result (Option Item) FileFault) → result ≡ Err fault
    → ((line : ℕ) → fault_of fault ≢ fault_of (BadFormat line)) → AgreesAtEnd r result
agrees_fault r (BadFormat k) result is never = absurd (never k refl)
agrees_fault r Failed result is never = subst (λ x. AgreesAtEnd r x) (sym is) tt
agrees_fault r Memory result is never = subst (λ x. AgreesAtEnd r x) (sym is) tt
agrees_fault r Missing result is never = subst (λ x. AgreesAtEnd r x) (sym is) tt
agrees_fault r TooLong result is never = subst (λ x. AgreesAtEnd r x) (sym is) tt
agrees_fault r NotSccs result is never = subst (λ x. AgreesAtEnd r x) (sym is) tt
agrees_fault r (BadSum s c) result is never = subst (λ x. AgreesAtEnd r x) (sym is) tt
agrees_fault r Encoded result is never = subst (λ x. AgreesAtEnd r x) (sym is) tt
agrees_fault r (Changed a b c d) result is never = subst (λ x. AgreesAtEnd r x) (sym is) tt
