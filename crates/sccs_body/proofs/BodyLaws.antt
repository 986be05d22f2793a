-- All items of a body, one after the other.
use Rattle.std.proofs.Common.{◌≡◌, ℕ, zero, suc, ◌+◌, ◌-◌, ◌*◌, ◌<◌, ◌≤◌, true, false, List, [], ◌∷◌, ◌++◌, length}
use Rattle.std.proofs.Common.{drop, Option, None, Some, Result, Ok, Err, refl, sym, ap, ◌∙◌, subst, arith, append_assoc}
use Rattle.std.specs.Prelude.{IfSome, is_some}
use Rattle.sccs_base.specs.Cut.{Cut, cut}
use Rattle.sccs_sid.specs.Reading.{◌>>=◌}
use Rattle.sccs_history.specs.declared.headers.Item.{Item}
use Rattle.sccs_tokens.specs.Items.{item_at, items_from}
use Rattle.sccs_grammar.specs.declared.faults.FileFault.{FileFault}
use Rattle.sccs_grammar.specs.declared.faults.FileFault.TheVariants.{Missing, TooLong, NotSccs, BadSum, BadFormat}
use Rattle.sccs_grammar.specs.declared.faults.FileFault.TheVariants.{Encoded, Changed, Failed, Memory}
use Rattle.sccs_table.specs.ReaderState.{ReaderState, StandsIn, Stays, left}
use Rattle.sccs_table.specs.Runs.{lf_count}
use Rattle.sccs_body.specs.Reader.{BodyPlace, KeepsBody, next_line_number}
use Rattle.sccs_body.specs.ItemsRead.{GivesBodyItem, GivesItem, GoesBehind, HasBehind}
use Rattle.sccs_body.specs.ToCome.{onto}
use Rattle.sccs_body.specs.BodyFile.{ChecksFound, ChecksRest, items_left}
use Rattle.sccs_body.proofs.NumberLaws.{number_kept, number_on}

-- what the whole body has is what was given and what is read from here on
abbrev pub Reached : Option (List ℕ) → List ℕ → BodyPlace → List Item → BodyPlace → Type 0
Reached None live begun before now = Unit {0}
Reached (Some file) live begun before now =
    StandsIn begun.lines file → StandsIn now.lines file
    × ((given : List Item) × (items_left file live begun ≡ onto given
    (items_from live (next_line_number now file) before (left now.lines file).lines (left now.lines file).tail)))

pub onto_none : (read : Result (List Item) ℕ) → read ≡ onto [] read
onto_none (Ok items) = refl
onto_none (Err k) = refl

onto_more : (given : List Item) (item : Item) (read : Result (List Item) ℕ)
    → onto given (read >>= λ items. Ok (item ∷ items)) ≡ onto (given ++ item ∷ []) read
onto_more given item (Ok items) = ap Ok (sym (append_assoc given (item ∷ []) items))
onto_more given item (Err k) = refl

pub items_on : (live : List ℕ) (n : ℕ) (before : List Item) (item : Item) (line : List ℕ) (lines : List (List ℕ))
    (tail : List ℕ) → item_at live before line ≡ Some item → items_from live n before (line ∷ lines) tail
    ≡ (items_from live (suc n) (item ∷ before) lines tail >>= λ items. Ok (item ∷ items))
unfolding items_from
items_on live n before item line lines tail is = rw is refl

pub reached_on : (o p : Option (List ℕ)) (live : List ℕ) (begun : BodyPlace) (before : List Item) (now new : BodyPlace)
    (item : Item) → p ≡ o → KeepsBody now new → now.from ≤ now.lines.place → now.lines.place ≤ new.lines.place
    → Reached o live begun before now → GivesBodyItem p live before now new (Ok (Some item))
    → Reached o live begun (item ∷ before) new
reached_on None p live begun before now new item is kept low onward reached gives = tt
reached_on (Some file) p live begun before now new item is kept low onward reached gives = λ stands.
    let here = reached stands in
    let given = (subst (λ q. GivesBodyItem q live before now new (Ok (Some item))) is gives) here.0 in
    let one : suc (next_line_number now file) ≡ next_line_number new file =
    omega (arith, number_on file now new (given.1.0 ∷ []) kept low onward (ap (λ (c : Cut). c.lines) given.1.1)) in
    let next : items_from live (next_line_number now file) before (left now.lines file).lines (left now.lines file).tail
    ≡ (items_from live (next_line_number new file) (item ∷ before) (left new.lines file).lines
    (left new.lines file).tail >>= λ items. Ok (item ∷ items)) =
    ap (λ (c : Cut). items_from live (next_line_number now file) before c.lines c.tail) given.1.1
    ∙ (items_on live (next_line_number now file) before item given.1.0 (left new.lines file).lines
    (left new.lines file).tail given.1.2
    ∙ ap (λ k. items_from live k (item ∷ before) (left new.lines file).lines (left new.lines file).tail >>= λ items.
    Ok (item ∷ items)) one) in
    (given.0, (here.1.0 ++ item ∷ [], here.1.1 ∙ (ap (onto here.1.0) next ∙ onto_more here.1.0 item _)))

pub reached_end : (o p : Option (List ℕ)) (live : List ℕ) (begun : BodyPlace) (before : List Item) (now new : BodyPlace)
    → p ≡ o → Reached o live begun before now → GivesBodyItem p live before now new (Ok None)
    → IfSome o (λ file. StandsIn begun.lines file → (items : List Item) × (items_left file live begun ≡ Ok items))
reached_end None p live begun before now new is reached gives = tt
reached_end (Some file) p live begun before now new is reached gives = λ stands.
    let here = reached stands in
    let given = (subst (λ q. GivesBodyItem q live before now new (Ok None)) is gives) here.0 in
    (here.1.0 ++ [], here.1.1 ∙ ap (onto here.1.0) given)

-- ---- as code goes over them

-- the reader stands behind some items, from which reading goes on
abbrev pub Somewhere : Option (List ℕ) → List ℕ → BodyPlace → BodyPlace → Type 0
Somewhere o live begun now = (now.from ≤ now.lines.place) × ((before : List Item) × HasBehind live before now
    × Reached o live begun before now)

still_low : (now new : BodyPlace) → KeepsBody now new → now.from ≤ now.lines.place → now.lines.place ≤ new.lines.place
    → new.from ≤ new.lines.place
still_low now new kept low onward = omega (arith, kept.from, low, onward)

pub somewhere_on : (o p : Option (List ℕ)) (live : List ℕ) (begun now new : BodyPlace) (found : Option Item)
    (item : Item) → found ≡ Some item → p ≡ o → KeepsBody now new → now.lines.place ≤ new.lines.place
    → Somewhere o live begun now
    → ((live : List ℕ) (before : List Item) → HasBehind live before now → GoesBehind live before new (Ok found))
    → ((live : List ℕ) (before : List Item) → HasBehind live before now → GivesBodyItem p live before now new
    (Ok found)) → Somewhere o live begun new
somewhere_on o p live begun now new found item is same kept onward here goes gives =
    let before = here.1.0 in
    let went = subst (λ f. GoesBehind live before new (Ok f)) is (goes live before here.1.1) in (
      still_low now new kept here.0 onward,
      (
        item ∷ before,
        went.1,
        reached_on o p live begun before now new item same
            kept here.0 onward here.1.2 (subst (λ f. GivesBodyItem p live before now new (Ok f)) is
            (gives live before here.1.1)),
      ),
    )

-- the same behind a control line that was taken
pub somewhere_taken : (o : Option (List ℕ)) (live : List ℕ) (begun now new : BodyPlace) (taken : Option Item)
    → is_some taken ≡ true → KeepsBody now new → IfSome taken (λ _. now.lines.place < new.lines.place)
    → Somewhere o live begun now
    → ((live : List ℕ) (before : List Item) → HasBehind live before now
    → IfSome taken (λ item. GoesBehind live before new (Ok (Some item))))
    → ((o : Option (List ℕ)) (live : List ℕ) (before : List Item) → HasBehind live before now
    → IfSome taken (λ item. GivesBodyItem o live before now new (Ok (Some item)))) → Somewhere o live begun new
somewhere_taken o live begun now new (Some item) is kept further here goes gives =
    let before = here.1.0 in
    let onward : now.lines.place ≤ new.lines.place = omega (arith, further) in (
      still_low now new kept here.0 onward,
      (
        item ∷ before,
        (goes live before here.1.1).1,
        reached_on o o live begun
            before now new item refl kept here.0 onward here.1.2 (gives o live before here.1.1),
      ),
    )
somewhere_taken o live begun now new None is kept further here goes gives = absurd cc

pub not_taken : (taken : Option Item) → is_some taken ≡ false → taken ≡ None
not_taken (Some item) is = absurd cc
not_taken None is = refl

-- a line is held whole now, and wasn't before
pub fewer_steps : (old now mid new : ReaderState) (count : ℕ) → now.limit ≡ old.limit
    → now.place + length now.held ≤ now.limit → now.place ≡ old.place + count → now.held ≡ drop count old.held
    → mid ≡ now → new.limit ≡ mid.limit → new.place ≡ mid.place → lf_count mid.held ≡ 0 → 0 < lf_count new.held
    → 2 * (new.limit - new.place) + (1 - lf_count new.held) < 2 * (old.limit - old.place) + (1 - lf_count old.held)
fewer_steps old now mid new zero limit ahead place held same limit2 place2 none more =
    omega (
      arith,
      limit,
      place,
      ap lf_count held,
      ap (λ (r : ReaderState). r.limit) same,
      ap (λ (r : ReaderState). r.place) same,
      ap (λ (r : ReaderState). lf_count r.held) same,
      limit2,
      place2,
      none,
      more,
    )
fewer_steps old now mid new (suc count) limit ahead place held same limit2 place2 none more =
    omega (
      arith,
      limit,
      ahead,
      place,
      ap (λ (r : ReaderState). r.limit) same,
      ap (λ (r : ReaderState). r.place) same,
      limit2,
      place2,
      more,
    )

-- the reader stands where it stood, and holds something else
reached_kept : (o p : Option (List ℕ)) (live : List ℕ) (begun : BodyPlace) (before : List Item) (now new : BodyPlace)
    → p ≡ o → new.lines.place ≡ now.lines.place → KeepsBody now new → Stays p now.lines new.lines
    → Reached o live begun before now → Reached o live begun before new
reached_kept None p live begun before now new same place kept stays reached = tt
reached_kept (Some file) p live begun before now new same place kept stays reached = λ stands.
    let here = reached stands in
    let next : items_from live (next_line_number now file) before (left now.lines file).lines (left now.lines file).tail
    ≡ items_from live (next_line_number new file) before (left new.lines file).lines (left new.lines file).tail =
    ap (λ k. items_from live k before (left now.lines file).lines (left now.lines file).tail)
    (sym (number_kept file now new kept place))
    ∙ ap (λ n. items_from live (next_line_number new file) before (cut (drop n file)).lines (cut (drop n file)).tail)
    (sym place) in
    (stays file same here.0, (here.1.0, here.1.1 ∙ ap (onto here.1.0) next))

pub somewhere_kept : (o p : Option (List ℕ)) (live : List ℕ) (begun now new : BodyPlace) → p ≡ o
    → new.lines.place ≡ now.lines.place → KeepsBody now new → ((live : List ℕ) (before : List Item)
    → HasBehind live before now → HasBehind live before new) → Stays p now.lines new.lines
    → Somewhere o live begun now → Somewhere o live begun new
somewhere_kept o p live begun now new same place kept behind stays here = (
  still_low now new kept here.0 (omega (arith, place)),
  (
    here.1.0,
    behind live here.1.0 here.1.1,
    reached_kept o p live begun here.1.0 now new same place kept stays here.1.2,
  ),
)

done_at : (o : Option (List ℕ)) (live : List ℕ) (begun : BodyPlace) → IfSome o (λ file. StandsIn begun.lines file
    → (items : List Item) × (items_left file live begun ≡ Ok items)) → ChecksRest o live begun (Ok tt)
done_at None live begun done = tt
done_at (Some file) live begun done = done

fault_from : (file live : List ℕ) (begun : BodyPlace) (before : List Item) (now new : BodyPlace) (e : FileFault)
    (given : List Item) → items_left file live begun ≡ onto given (items_from live (next_line_number now file) before
    (left now.lines file).lines (left now.lines file).tail) → GivesItem live before file now new (Err e)
    → ChecksFound (items_left file live begun) (Err e)
fault_from file live begun before now new (BadFormat k) given reached gives = reached ∙ ap (onto given) gives.1
fault_from file live begun before now new Failed given reached gives = tt
fault_from file live begun before now new Memory given reached gives = tt
fault_from file live begun before now new Missing given reached gives = absurd gives
fault_from file live begun before now new TooLong given reached gives = absurd gives
fault_from file live begun before now new NotSccs given reached gives = absurd gives
fault_from file live begun before now new (BadSum s k) given reached gives = absurd gives
fault_from file live begun before now new Encoded given reached gives = absurd gives
fault_from file live begun before now new (Changed a b c d) given reached gives = absurd gives

fault_at : (o : Option (List ℕ)) (live : List ℕ) (begun : BodyPlace) (before : List Item) (now new : BodyPlace)
    (e : FileFault) → Reached o live begun before now → GivesBodyItem o live before now new (Err e)
    → ChecksRest o live begun (Err e)
fault_at None live begun before now new e reached gives = tt
fault_at (Some file) live begun before now new e reached gives = λ stands.
    let here = reached stands in
    fault_from file live begun before now new e here.1.0 here.1.1 (gives here.0)

module _ (o p : Option (List ℕ)) (live : List ℕ) (begun : BodyPlace) (now new : BodyPlace) (same : p ≡ o)
    (here : Somewhere o live begun now) where
  pub rest_read : (found : Option Item) → found ≡ None → ((live : List ℕ) (before : List Item)
      → HasBehind live before now → GivesBodyItem p live before now new (Ok found)) → ChecksRest o live begun (Ok tt)
  rest_read found is gives = done_at o live begun (reached_end o p live begun here.1.0 now new same here.1.2
      (subst (λ f. GivesBodyItem p live here.1.0 now new (Ok f)) is (gives live here.1.0 here.1.1)))

  pub rest_fault : (e : FileFault) → ((live : List ℕ) (before : List Item) → HasBehind live before now
      → GivesBodyItem p live before now new (Err e)) → ChecksRest o live begun (Err e)
  rest_fault e gives = fault_at o live begun here.1.0 now new e here.1.2
      (subst (λ q. GivesBodyItem q live here.1.0 now new (Err e)) same (gives live here.1.0 here.1.1))
