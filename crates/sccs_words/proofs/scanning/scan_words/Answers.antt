use Rattle.std.proofs.Common.{◌≡◌, ℕ, ◌+◌, ◌-◌, List, [], ◌∷◌, ◌++◌, Option, Vec, Global, drop, ap, ◌∙◌, arith}
use Rattle.sccs_words.specs.Scan.{word_kind, scanned_line, scanned, used}
use Rattle.sccs_words.specs.declared.scanning.Use.{Use}
use Rattle.sccs_words.specs.declared.scanning.OptionArgument.TheVariants.{Value}
use Rattle.sccs_words.proofs.ScanSteps.{ends_step, operand_step, letters_step, value_step, end_step, missing_step}
use Rattle.sccs_words.proofs.scanning.scan_words.Goals as goal
use Rattle.sccs_words.proofs.scanning.scan_words.Goals.{in-Some+in_ok-value-in-Some+in_ok-push-in-Some}
use Rattle.sccs_words.proofs.scanning.scan_words.Goals.{in-None+in-Letters+in_ok-waits-in-Letters, in-None-waits}
use Rattle.sccs_words.proofs.scanning.scan_words.Goals.{in-Some-waits+in_ok-push-in-Some-waits}

pub returns-in-Ends-clause-value : goal.returns-in-Ends-clause-value
returns-in-Ends-clause-value c =
    ends_step c.args.options.now c.args.number c.words.i c.words.uses.items c.words.waits c.args.words.now
    c.index-words-i.result _ c.words-test.true c.index-words-i.is c.in-None.is (c.in-Ends.ensures
    ∙ ap word_kind c.bytes-word.ensures) c.words.invariant.1

pub returns-in-Operand-clause-value : goal.returns-in-Operand-clause-value
returns-in-Operand-clause-value c =
    operand_step c.args.options.now c.args.number c.words.i c.words.uses.items c.words.waits c.args.words.now
    c.index-words-i.result _ c.words-test.true c.index-words-i.is c.in-None.is (c.in-Operand.ensures
    ∙ ap word_kind c.bytes-word.ensures) c.words.invariant.1

pub words-preserved : goal.words-preserved
words-preserved c =
    let options = c.args.options.now in
    let n = c.args.number in
    let i = c.words.i in
    let more = drop (i + 1) c.args.words.now in
    elim c.match-waits.branch [
      | in-Some+in_ok-value-in-Some+in_ok-push-in-Some w ↦
          let longer : c.match-waits.uses.items ≡ c.words.uses.items ++ used w.in-Some.letter (n + i - 1)
          (Value c.index-words-i.result (n + i)) ∷ [] =
          ap (λ (v : Vec Use Global). v.items) w.uses-is ∙ (w.in_ok-push-in-Some.ensures.items
          ∙ ap (λ (bytes : List ℕ). c.words.uses.items ++ used w.in-Some.letter (n + i - 1) (Value bytes (n + i)) ∷ [])
          (w.in_ok-value-in-Some.ensures ∙ c.bytes-word.ensures)) in
          let step = value_step options n i c.words.uses.items c.words.waits w.in-Some.letter c.args.words.now
          c.index-words-i.result _ c.words-test.true c.index-words-i.is w.in-Some.is c.words.invariant.1 in (
            omega arith,
            ap (λ (us : List Use). scanned options (n + (i + 1)) us c.match-waits.waits more) longer
                ∙ (ap (λ (o : Option ℕ). scanned options (n + (i + 1)) (c.words.uses.items ++ used w.in-Some.letter
                (n + i - 1) (Value c.index-words-i.result (n + i)) ∷ []) o more) w.waits-is ∙ step),
          )
      | in-None+in-Letters+in_ok-waits-in-Letters w ↦
          let step = letters_step options n i c.words.uses.items w.letters.new.uses.items c.words.waits
          w.in_ok-waits-in-Letters.waits c.args.words.now c.index-words-i.result w.in-Letters.bytes.now _
          c.words-test.true c.index-words-i.is w.in-None.is (w.in-Letters.ensures ∙ ap word_kind c.bytes-word.ensures)
          w.in_ok-waits-in-Letters.ensures c.words.invariant.1 in (
            omega arith,
            ap (λ (v : Vec Use Global). scanned options (n + (i + 1)) v.items c.match-waits.waits more) w.uses-is
                ∙ (ap (λ (o : Option ℕ). scanned options (n + (i + 1)) w.letters.new.uses.items o more) w.waits-is
                ∙ step),
          )
    ]

pub returns-clause-value : goal.returns-clause-value
returns-clause-value c =
    let options = c.args.options.now in
    let n = c.args.number in
    let i = c.words.i in
    let rest = drop i c.args.words.now in
    elim c.match-waits-2.branch [
      | in-None-waits w ↦
          ap (λ (v : Vec Use Global). scanned_line v.items (n + i) rest) w.uses-is
          ∙ end_step options n i c.words.uses.items c.words.waits c.args.words.now _ c.words-test.false
          w.in-None-waits.is c.words.invariant.1
      | in-Some-waits+in_ok-push-in-Some-waits w ↦
          ap (λ (v : Vec Use Global). scanned_line v.items (n + i) rest) w.uses-is
          ∙ (ap (λ (us : List Use). scanned_line us (n + i) rest) w.in_ok-push-in-Some-waits.ensures.items
          ∙ missing_step options n i c.words.uses.items c.words.waits w.in-Some-waits.letter c.args.words.now _
          c.words-test.false w.in-Some-waits.is c.words.invariant.1)
    ]
