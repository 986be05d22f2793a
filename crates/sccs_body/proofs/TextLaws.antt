-- Runs of text lines that are passed over.
use Rattle.std.proofs.Common.{◌≡◌, ℕ, suc, ◌+◌, ◌<◌, ◌≤◌, Bool, true, false, List, [], ◌∷◌, ◌++◌, length, map, take}
use Rattle.std.proofs.Common.{Option, None, Some, Result, Ok, Err, refl, sym, ap, ◌∙◌, subst, arith, append_assoc}
use Rattle.sccs_base.specs.Cut.{Cut, cut}
use Rattle.sccs_sid.specs.Reading.{◌>>=◌}
use Rattle.sccs_sid.specs.SidLists.{begins}
use Rattle.sccs_history.specs.Body.{may_stand}
use Rattle.sccs_history.specs.History.{AreBare}
use Rattle.sccs_history.specs.declared.headers.Item.{Item}
use Rattle.sccs_history.specs.declared.headers.Item.TheVariants.{Text}
use Rattle.std.specs.Prelude.{option_and_then}
use Rattle.sccs_tokens.specs.Items.{item_at, item_of, items_from}
use Rattle.sccs_tokens.proofs.TokenLaws.{token_plain}
use Rattle.sccs_body.specs.States.{Knows}
use Rattle.sccs_body.specs.declared.body_states.BodyState.{BodyState}
use Rattle.sccs_table.specs.Runs.{IsRun, PassesRun}
use Rattle.sccs_table.specs.ReaderState.{left}
use Rattle.sccs_table.proofs.RunLaws.{lines_bound}
use Rattle.sccs_body.specs.Reader.{BodyPlace, KeepsBody, next_line_number}
use Rattle.sccs_body.specs.ItemsRead.{HasBehind, texts_behind}
use Rattle.sccs_body.proofs.ItemLaws.{behind_text, line_item}
use Rattle.sccs_body.specs.ToCome.{onto}
use Rattle.sccs_body.proofs.NumberLaws.{number_on}
use Rattle.sccs_body.proofs.BodyLaws.{onto_none, items_on, Reached, Somewhere}

pub not_both : {P : Type 0} (b : Bool) → b ≡ true → b ≡ false → P
not_both true is other = cc
not_both false is other = cc

-- text lines open and end nothing
pub behind_texts : (live : List ℕ) (lines : List (List ℕ)) (before : List Item) (s : BodyState) → Knows live before s
    → Knows live (texts_behind lines before) s
behind_texts live [] before s knows = knows
behind_texts live (line ∷ lines) before s knows = behind_texts live lines (Text line ∷ before) s
    (behind_text live before line s knows)

-- a bare line is a text item where one may stand
text_at : (live : List ℕ) (before : List Item) (line : List ℕ) → begins 1 line ≡ false
    → may_stand live before (Text line) ≡ true → item_at live before line ≡ Some (Text line)
text_at live before line bare stands = line_item live before line (Text line) true (ap (option_and_then item_of)
    (token_plain line bare)) stands

onto_first : (item : Item) (given : List Item) (read : Result (List Item) ℕ)
    → (onto given read >>= λ items. Ok (item ∷ items)) ≡ onto (item ∷ given) read
onto_first item given (Ok items) = refl
onto_first item given (Err k) = refl

onto_both : (given more : List Item) (read : Result (List Item) ℕ) → onto given (onto more read) ≡ onto
    (given ++ more) read
onto_both given more (Ok items) = ap Ok (sym (append_assoc given more items))
onto_both given more (Err k) = refl

-- bare lines, where text may stand, are text items, and reading goes on behind them
pub items_from_texts : (live : List ℕ) (n : ℕ) (before : List Item) (texts lines : List (List ℕ)) (tail : List ℕ)
    → AreBare texts → (0 < length texts → (text : List ℕ) → may_stand live before (Text text) ≡ true)
    → items_from live n before (texts ++ lines) tail ≡ onto (map Text texts) (items_from live (n + length texts)
    (texts_behind texts before) lines tail)
items_from_texts live n before [] lines tail are stand = onto_none _
    ∙ ap (λ k. onto [] (items_from live k before lines tail)) (omega arith)
items_from_texts live n before (text ∷ texts) lines tail are stand =
    items_on live n before (Text text) text (texts ++ lines) tail (text_at live before text are.0
    (stand (omega arith) text))
    ∙ (ap (λ read. read >>= λ items. Ok (Text text ∷ items)) (items_from_texts live (suc n) (Text text ∷ before) texts
    lines tail are.1 (λ some other. stand (omega arith) other))
    ∙ (onto_first (Text text) (map Text texts) _
    ∙ ap (λ k. onto (Text text ∷ map Text texts) (items_from live k (texts_behind texts (Text text ∷ before)) lines
    tail)) (omega arith)))

-- ---- as code goes over them

pub some_bytes : (run : List ℕ) → 0 < length (cut run).lines → 0 < length run
some_bytes run some = omega (arith, lines_bound run)

pub reached_texts : (o : Option (List ℕ)) (live : List ℕ) (begun : BodyPlace) (before : List Item) (now new : BodyPlace)
    (run : List ℕ) → IsRun run → (0 < length run → (text : List ℕ) → may_stand live before (Text text) ≡ true)
    → KeepsBody now new → now.from ≤ now.lines.place → now.lines.place ≤ new.lines.place
    → ((file : List ℕ) → PassesRun run file now.lines new.lines) → Reached o live begun before now
    → Reached o live begun (texts_behind (cut run).lines before) new
reached_texts None live begun before now new run is stand kept low onward passes reached = tt
reached_texts (Some file) live begun before now new run is stand kept low onward passes reached = λ stands.
    let here = reached stands in
    let passed = passes file here.0 in
    let lines = (cut run).lines in
    let number = number_on file now new lines kept low onward (ap (λ (c : Cut). c.lines) passed.1) in
    let next : items_from live (next_line_number now file) before (left now.lines file).lines (left now.lines file).tail
    ≡ onto (map Text lines) (items_from live (next_line_number new file) (texts_behind lines before)
    (left new.lines file).lines (left new.lines file).tail) =
    ap (λ (c : Cut). items_from live (next_line_number now file) before c.lines c.tail) passed.1
    ∙ (items_from_texts live (next_line_number now file) before lines (left new.lines file).lines
    (left new.lines file).tail is.1 (λ some. stand (some_bytes run some))
    ∙ ap (λ k. onto (map Text lines) (items_from live k (texts_behind lines before) (left new.lines file).lines
    (left new.lines file).tail)) (sym number)) in (
      passed.0,
      (
        here.1.0 ++ map Text lines,
        here.1.1 ∙ (ap (onto here.1.0) next
            ∙ onto_both here.1.0 (map Text lines) _),
      ),
    )

-- the reader stands behind the lines that it passed over
pub somewhere_behind : (o : Option (List ℕ)) (live : List ℕ) (begun now new : BodyPlace) (run : List ℕ) → IsRun run
    → ((live : List ℕ) (before : List Item) (text : List ℕ) → HasBehind live before now → 0 < length run
    → may_stand live before (Text text) ≡ true)
    → KeepsBody now new → now.lines.place ≤ new.lines.place → ((live : List ℕ) (before : List Item)
    → HasBehind live before now → HasBehind live (texts_behind (cut run).lines before) new)
    → ((file : List ℕ) → PassesRun run file now.lines new.lines)
    → Somewhere o live begun now → Somewhere o live begun new
somewhere_behind o live begun now new run is stand kept onward behind passes here =
    let before = here.1.0 in (
      omega (arith, kept.from, here.0, onward),
      (
        texts_behind (cut run).lines before,
        behind live before here.1.1,
        reached_texts o live begun before now new run is (λ some text. stand live before text here.1.1 some) kept here.0
            onward passes here.1.2,
      ),
    )

-- the same, where the run is known as the front of what is held
pub somewhere_behind_front : (o : Option (List ℕ)) (live : List ℕ) (begun now new : BodyPlace) (run : List ℕ)
    → take (length run) now.lines.held ≡ run → IsRun run
    → ((live : List ℕ) (before : List Item) (text : List ℕ) → HasBehind live before now → 0 < length run
    → may_stand live before (Text text) ≡ true)
    → KeepsBody now new → new.lines.place ≡ now.lines.place + length run → ((live : List ℕ) (before : List Item)
    → HasBehind live before now → HasBehind live (texts_behind (cut (take (length run) now.lines.held)).lines
    before) new)
    → ((file : List ℕ) → PassesRun (take (length run) now.lines.held) file now.lines new.lines)
    → Somewhere o live begun now → Somewhere o live begun new
somewhere_behind_front o live begun now new run front is stand kept place behind passes here =
    somewhere_behind o live begun now new run is stand kept (omega (arith, place))
    (subst (λ bytes. (live : List ℕ) (before : List Item) → HasBehind live before now
    → HasBehind live (texts_behind (cut bytes).lines before) new) front behind)
    (subst (λ bytes. (file : List ℕ) → PassesRun bytes file now.lines new.lines) front passes) here
