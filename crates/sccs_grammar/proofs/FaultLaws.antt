-- A fault within the lines stays whatever follows.
use Rattle.std.proofs.Common.{◌≡◌, ℕ, suc, ◌+◌, ◌<◌, Bool, true, false, ◌&&◌, List, [], ◌∷◌, ◌++◌, length, Result, Ok}
use Rattle.std.proofs.Common.{Err, Option, Some, None, refl, arith, cond}
use Rattle.sccs_sid.specs.Reading.{◌>>=◌}
use Rattle.sccs_history.specs.Numbers.{is_empty}
use Rattle.sccs_history.specs.Body.{is_over}
use Rattle.sccs_history.specs.declared.headers.Item.{Item}
use Rattle.sccs_grammar.specs.declared.header_parsers.HeaderParser.{HeaderParser}
use Rattle.sccs_grammar.specs.Front.{ParsedFront, header_of, is_whole, line_after, front_from}
use Rattle.sccs_tokens.specs.Items.{item_at, go_on, items_from}

-- where reading goes on behind a line
abbrev step : Bool → ℕ → HeaderParser → List (List ℕ) → Result ParsedFront ℕ
step whole n s lines = cond whole (Ok (record { header = header_of s; line = suc n; rest = lines }))
    (front_from (suc n) s lines)

step_stays : (whole : Bool) (n k : ℕ) (s : HeaderParser) (lines more : List (List ℕ))
    → (front_from (suc n) s lines ≡ Err k → front_from (suc n) s (lines ++ more) ≡ Err k) → step whole n s lines ≡ Err k
    → step whole n s (lines ++ more) ≡ Err k
step_stays true n k s lines more later fault = cc
step_stays false n k s lines more later fault = later fault

bind_stays : (o : Result HeaderParser ℕ) (n k : ℕ) (lines more : List (List ℕ))
    → ((s : HeaderParser) → front_from (suc n) s lines ≡ Err k → front_from (suc n) s (lines ++ more) ≡ Err k)
    → (o >>= λ s. step (is_whole s.state) n s lines) ≡ Err k → (o >>= λ s. step (is_whole s.state) n s (lines ++ more))
    ≡ Err k
bind_stays (Ok s) n k lines more later fault = step_stays (is_whole s.state) n k s lines more (later s) fault
bind_stays (Err e) n k lines more later fault = fault

-- a fault that isn't that the lines end
pub front_fault_stays : (lines more : List (List ℕ)) (n k : ℕ) (r : HeaderParser) → k < n + length lines
    → front_from n r lines ≡ Err k → front_from n r (lines ++ more) ≡ Err k
unfolding front_from
front_fault_stays [] more n k r within fault = let is : n ≡ k = cc in absurd (omega arith)
front_fault_stays (line ∷ lines) more n k r within fault =
    bind_stays (line_after n r line) n k lines more (λ s. front_fault_stays lines more (suc n) k s (omega arith)) fault

item_stays : (item : Item) (here there : Result (List Item) ℕ) (k : ℕ) → (here ≡ Err k → there ≡ Err k)
    → (here >>= λ items. Ok (item ∷ items)) ≡ Err k → (there >>= λ items. Ok (item ∷ items)) ≡ Err k
item_stays item (Ok items) there k later fault = cc
item_stays item (Err e) there k later fault = rw (later fault) refl

go_stays : (o : Option Item) (n k : ℕ) (here there : Item → Result (List Item) ℕ) → ((item : Item) → here item ≡ Err k
    → there item ≡ Err k) → go_on n o here ≡ Err k → go_on n o there ≡ Err k
go_stays None n k here there later fault = fault
go_stays (Some item) n k here there later fault = item_stays item (here item) (there item) k (later item) fault

abbrev ended_by : Bool → ℕ → Result (List Item) ℕ
ended_by over n = cond over (Ok []) (Err n)

at_end : (over : Bool) (n k : ℕ) → ended_by over n ≡ Err k → n ≡ k
at_end true n k fault = cc
at_end false n k fault = cc

-- the same for a body; the end of the lines and bytes behind the last LF count as the line behind them
pub items_fault_stays : (live : List ℕ) (lines more : List (List ℕ)) (tail tail2 : List ℕ) (n k : ℕ)
    (before : List Item) → k < n + length lines → items_from live n before lines tail ≡ Err k → items_from live n before
    (lines ++ more) tail2 ≡ Err k
unfolding items_from
items_fault_stays live [] more tail tail2 n k before within fault =
    let is : n ≡ k = at_end (is_over before && is_empty tail) n k fault in absurd (omega arith)
items_fault_stays live (line ∷ lines) more tail tail2 n k before within fault =
    go_stays (item_at live before line) n k (λ item. items_from live (suc n) (item ∷ before) lines tail)
    (λ item. items_from live (suc n) (item ∷ before) (lines ++ more) tail2)
    (λ item. items_fault_stays live lines more tail tail2 (suc n) k (item ∷ before) (omega arith)) fault
