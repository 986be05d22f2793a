-- An item that may stand, and the state behind it.
use Rattle.std.proofs.Common.{◌≡◌, ℕ, ◌+◌, Bool, true, false, ◌&&◌, List, [], ◌∷◌, Option, None, Some, Result, Ok, Err}
use Rattle.std.proofs.Common.{◌++◌, refl, sym, ap, ◌∙◌, subst, arith}
use Rattle.std.specs.Prelude.{IfSome, if◌then◌else◌}
use Rattle.std.specs.Prelude.{length, take}
use Rattle.std.proofs.lemmas.List.{length-take-le}
use Rattle.sccs_base.specs.Cut.{Cut, HasNoLf}
use Rattle.sccs_disk.specs.Files.{View}
use Rattle.sccs_sid.specs.Reading.{only}
use Rattle.sccs_history.specs.Numbers.{is_empty}
use Rattle.sccs_history.specs.Body.{may_stand, is_over}
use Rattle.sccs_tokens.specs.Items.{IsWrittenItem, item_standing, item_read, item_at, items_from}
use Rattle.sccs_grammar.specs.declared.faults.FileFault.{FileFault}
use Rattle.sccs_grammar.specs.declared.faults.FileFault.TheVariants.{Missing, TooLong, NotSccs, BadSum, BadFormat}
use Rattle.sccs_grammar.specs.declared.faults.FileFault.TheVariants.{Encoded, Changed, Failed, Memory}
use Rattle.sccs_table.specs.ReaderState.{ReaderState, TakesLine, bytes_in, left}
use Rattle.sccs_body.specs.Reader.{BodyPlace, next_line_number}
use Rattle.sccs_body.specs.ItemsRead.{GivesBodyItem, GivesItem, HasBehind, IsFormatAt, ReadsItemLine}
use Rattle.sccs_history.specs.declared.headers.Item.{Item}
use Rattle.sccs_history.specs.declared.headers.Item.TheVariants.{Text}
use Rattle.sccs_body.specs.States.{Knows}
use Rattle.sccs_body.proofs.OpenLaws.{knows_text}
use Rattle.sccs_body.specs.declared.body_states.BodyState.{BodyState}

-- an item stands or doesn't, and where it does the state is that behind it
abbrev pub StandsSo : List ℕ → List Item → BodyState → Bool → Item → Type 0
StandsSo live before new stands item = (may_stand live before item ≡ stands)
    × (stands ≡ true → Knows live (item ∷ before) new)

pub so_is : (live : List ℕ) (before : List Item) (new : BodyState) (stands : Bool) (item other : Item) → item ≡ other
    → StandsSo live before new stands other → StandsSo live before new stands item
so_is live before new stands item other is so = subst (λ i. StandsSo live before new stands i) (sym is) so

-- a text line opens and ends nothing
pub behind_text : (live : List ℕ) (before : List Item) (text : List ℕ) (s : BodyState) → Knows live before s
    → Knows live (Text text ∷ before) s
behind_text live before text s knows = knows_text live before text s knows

-- ---- what a line is

pub line_silent : (live : List ℕ) (before : List Item) (line : List ℕ) → item_read line ≡ None
    → item_at live before line ≡ None
unfolding item_at
line_silent live before line is = ap (item_standing live before) is

pub line_item : (live : List ℕ) (before : List Item) (line : List ℕ) (item : Item) (stands : Bool)
    → item_read line ≡ Some item → may_stand live before item ≡ stands → item_at live before line ≡ only stands item
unfolding item_at
line_item live before line item stands is may = ap (item_standing live before) is ∙ ap (λ b. only b item) may

-- ---- what the next line gives

items_end : (live : List ℕ) (n : ℕ) (before : List Item) (tail : List ℕ) → items_from live n before [] tail
    ≡ (if is_over before && is_empty tail then Ok [] else Err n)
unfolding items_from
items_end live n before tail = refl

items_fault : (live : List ℕ) (n : ℕ) (before : List Item) (line : List ℕ) (lines : List (List ℕ)) (tail : List ℕ)
    → item_at live before line ≡ None → items_from live n before (line ∷ lines) tail ≡ Err n
unfolding items_from
items_fault live n before line lines tail none = rw none refl

-- the fault of a line at which no item may stand
format_given : (live : List ℕ) (before : List Item) (file : List ℕ) (old new : BodyPlace) (e : FileFault)
    → items_from live (next_line_number old file) before (left old.lines file).lines (left old.lines file).tail ≡ Err
    (next_line_number old file) → IsFormatAt (next_line_number old file) e → GivesItem live before file old new (Err e)
format_given live before file old new (BadFormat line) found is = (is, found ∙ ap Err (sym is))
format_given live before file old new Failed found is = tt
format_given live before file old new Memory found is = absurd is
format_given live before file old new Missing found is = absurd is
format_given live before file old new TooLong found is = absurd is
format_given live before file old new NotSccs found is = absurd is
format_given live before file old new (BadSum s k) found is = absurd is
format_given live before file old new Encoded found is = absurd is
format_given live before file old new (Changed a b c d) found is = absurd is

-- where no line is left
ended : (live : List ℕ) (before : List Item) (file line : List ℕ) (old : BodyPlace) (over : Bool)
    → left old.lines file ≡ record { lines = []; tail = line } → (is_over before && is_empty line) ≡ over
    → items_from live (next_line_number old file) before (left old.lines file).lines (left old.lines file).tail
    ≡ (if over then Ok [] else Err (next_line_number old file))
ended live before file line old over is same =
    ap (λ (c : Cut). items_from live (next_line_number old file) before c.lines c.tail) is
    ∙ (items_end live (next_line_number old file) before line ∙ ap (λ (b : Bool). if b then Ok []
    else Err (next_line_number old file)) same)

pub end_gives : (o : Option (List ℕ)) (live : List ℕ) (before : List Item) (line : List ℕ) (old new : BodyPlace)
    → TakesLine o old.lines new.lines line false → (is_over before && is_empty line) ≡ true
    → GivesBodyItem o live before old new (Ok None)
end_gives None live before line old new takes is = tt
end_gives (Some file) live before line old new takes is = λ stands. ended live before file line old true
    (takes stands).1 is

pub end_fault : (o p : Option (List ℕ)) (live : List ℕ) (before : List Item) (line : List ℕ) (old new other : BodyPlace)
    (e : FileFault) → p ≡ o → TakesLine o old.lines new.lines line false → (is_over before && is_empty line) ≡ false
    → IfSome p (λ file. IsFormatAt (next_line_number old file) e) → GivesBodyItem o live before old other (Err e)
end_fault None p live before line old new other e same takes is fault = tt
end_fault (Some file) p live before line old new other e same takes is fault = λ stands.
    format_given live before file old other e (ended live before file line old false (takes stands).1 is)
    (subst (λ q. IfSome q (λ f. IsFormatAt (next_line_number old f) e)) same fault)

pub item_gives : (o : Option (List ℕ)) (live : List ℕ) (before : List Item) (line : List ℕ) (old new : BodyPlace)
    (item : Item) → TakesLine o old.lines new.lines line true → item_at live before line ≡ Some item
    → GivesBodyItem o live before old new (Ok (Some item))
item_gives None live before line old new item takes is = tt
item_gives (Some file) live before line old new item takes is = λ stands. let taken = takes stands in
    (taken.0, (line, taken.1, is))

pub fault_gives : (o p : Option (List ℕ)) (live : List ℕ) (before : List Item) (line : List ℕ)
    (old new other : BodyPlace) (e : FileFault) → p ≡ o → TakesLine o old.lines new.lines line true
    → item_at live before line ≡ None
    → IfSome p (λ file. IsFormatAt (next_line_number old file) e) → GivesBodyItem o live before old other (Err e)
fault_gives None p live before line old new other e same takes none fault = tt
fault_gives (Some file) p live before line old new other e same takes none fault = λ stands.
    let taken = takes stands in
    format_given live before file old other e
    (ap (λ (c : Cut). items_from live (next_line_number old file) before c.lines c.tail) taken.1
    ∙ items_fault live (next_line_number old file) before line (left new.lines file).lines
    (left new.lines file).tail none)
    (subst (λ q. IfSome q (λ f. IsFormatAt (next_line_number old f) e)) same fault)

-- ---- a line that is held whole, as it is written

-- such lines are taken from what is held
abbrev pub TakesHeld : ReaderState → ReaderState → ℕ → Type 0
TakesHeld old new count = (o : Option (List ℕ)) (line : List ℕ) → HasNoLf line → length line ≡ count
    → take (count + 1) old.held ≡ line ++ 10 ∷ [] → TakesLine o old new line true

held_taken : (o : Option (List ℕ)) (old new : ReaderState) (item : Item) (count : ℕ) → IsWrittenItem old.held item count
    → TakesHeld old new count → TakesLine o old new (take count old.held) true
held_taken o old new item count is takes = takes o (take count old.held) is.line (length-take-le count old.held
    (omega (arith, is.short))) is.ended

pub held_gives : (o : Option (List ℕ)) (live : List ℕ) (before : List Item) (here now new : BodyPlace) (item : Item)
    (count : ℕ) → here ≡ now → IsWrittenItem now.lines.held item count → TakesHeld here.lines new.lines count
    → may_stand live before item ≡ true → GivesBodyItem o live before now new (Ok (Some item))
held_gives o live before here now new item count same is takes may =
    let written = subst (λ (p : BodyPlace). IsWrittenItem p.lines.held item count) (sym same) is in
    let line = take count here.lines.held in
    subst (λ p. GivesBodyItem o live before p new (Ok (Some item))) same
    (item_gives o live before line here new item (held_taken o here.lines new.lines item count written takes)
    (line_item live before line item true written.token may))

pub held_fault : (o p : Option (List ℕ)) (live : List ℕ) (before : List Item) (here now new other : BodyPlace)
    (item : Item) (count : ℕ) (e : FileFault) → here ≡ now → p ≡ o → IsWrittenItem now.lines.held item count
    → TakesHeld here.lines new.lines count
    → may_stand live before item ≡ false → IfSome p (λ file. IsFormatAt (next_line_number here file) e)
    → GivesBodyItem o live before now other (Err e)
held_fault o p live before here now new other item count e same told is takes may fault =
    let written = subst (λ (p : BodyPlace). IsWrittenItem p.lines.held item count) (sym same) is in
    let line = take count here.lines.held in
    subst (λ p. GivesBodyItem o live before p other (Err e)) same
    (fault_gives o p live before line here new other e told (held_taken o here.lines new.lines item count written takes)
    (line_item live before line item false written.token may) fault)

-- ---- as the reader is seen

pub seen_gives : (view : Option View) (live : List ℕ) (before : List Item) (here old new : BodyPlace)
    (result : Result (Option Item) FileFault) → here ≡ old → GivesBodyItem (bytes_in view here.lines.name) live before
    here new result → GivesBodyItem (bytes_in view old.lines.name) live before old new result
seen_gives view live before here old new result is gives =
    subst (λ o. GivesBodyItem (bytes_in view o.lines.name) live before o new result) is gives

pub seen_behind : (live : List ℕ) (before : List Item) (here old : BodyPlace) → here ≡ old → HasBehind live before old
    → Knows live before here.state
seen_behind live before here old is behind = subst (λ o. HasBehind live before o) (sym is) behind

pub some_taken : (live : List ℕ) (before : List Item) (new : BodyState) (line : List ℕ) (o : Option Item) (item : Item)
    → o ≡ Some item → ReadsItemLine live before new line (Ok o) → ReadsItemLine live before new line (Ok (Some item))
some_taken live before new line o item is takes = subst (λ p. ReadsItemLine live before new line (Ok p)) is takes

pub none_taken : (live : List ℕ) (before : List Item) (new : BodyState) (line : List ℕ) (o : Option Item) → o ≡ None
    → ReadsItemLine live before new line (Ok o) → item_at live before line ≡ None
none_taken live before new line o is takes = subst (λ p. ReadsItemLine live before new line (Ok p)) is takes
