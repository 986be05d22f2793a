-- The items that lines are keep the rules of a body.
use Rattle.std.proofs.Common.{◌≡◌, ℕ, suc, Bool, true, false, ◌&&◌, List, [], ◌∷◌, Option, None, Some, Result, Ok, Err}
use Rattle.std.proofs.Common.{refl, sym, subst}
use Rattle.std.specs.Prelude.{if◌then◌else◌}
use Rattle.sccs_sid.specs.Reading.{◌>>=◌}
use Rattle.sccs_history.specs.Numbers.{is_empty}
use Rattle.sccs_history.specs.Body.{GoesOn, is_over}
use Rattle.sccs_history.specs.declared.headers.Item.{Item}
use Rattle.sccs_tokens.specs.Items.{go_on, item_at, items_from}
use Rattle.sccs_tokens.proofs.BodyLaws.{line_may}

over_both : (over empty : Bool) (n : ℕ) (items : List Item) → (if over && empty then Ok [] else Err n) ≡ Ok items
    → (over ≡ true) × (items ≡ [])
over_both true true n items is = (refl, cc)
over_both true false n items is = absurd cc
over_both false empty n items is = absurd cc

ended : (live : List ℕ) (n : ℕ) (before : List Item) (tail : List ℕ) (items : List Item)
    → items_from live n before [] tail ≡ Ok items → GoesOn live before items
unfolding items_from
ended live n before tail items is =
    let both = over_both (is_over before) (is_empty tail) n items is in subst (λ its. GoesOn live before its)
    (sym both.1) both.0

more : (read : Result (List Item) ℕ) (item : Item) (items : List Item) → (read >>= λ rest. Ok (item ∷ rest)) ≡ Ok items
    → (rest : List Item) × (read ≡ Ok rest) × (items ≡ item ∷ rest)
more (Ok rest) item items is = (rest, refl, cc)
more (Err k) item items is = absurd cc

went_on : (n : ℕ) (found : Option Item) (next : Item → Result (List Item) ℕ) (items : List Item)
    → go_on n found next ≡ Ok items → (item : Item) × (found ≡ Some item) × ((rest : List Item) × (next item ≡ Ok rest)
    × (items ≡ item ∷ rest))
went_on n None next items is = absurd cc
went_on n (Some item) next items is = (item, refl, more (next item) item items is)

one_more : (live : List ℕ) (n : ℕ) (before : List Item) (line : List ℕ) (lines : List (List ℕ)) (tail : List ℕ)
    (items : List Item) → items_from live n before (line ∷ lines) tail ≡ Ok items
    → (item : Item) × (item_at live before line ≡ Some item)
    × ((rest : List Item) × (items_from live (suc n) (item ∷ before) lines tail ≡ Ok rest) × (items ≡ item ∷ rest))
unfolding items_from
one_more live n before line lines tail items is = went_on n (item_at live before line) (λ item. items_from live (suc n)
    (item ∷ before) lines tail) items is

pub body_read : (live : List ℕ) (n : ℕ) (before : List Item) (lines : List (List ℕ)) (tail : List ℕ) (items : List Item)
    → items_from live n before lines tail ≡ Ok items → GoesOn live before items
body_read live n before [] tail items is = ended live n before tail items is
body_read live n before (line ∷ lines) tail items is =
    let one = one_more live n before line lines tail items is in
    subst (λ its. GoesOn live before its) (sym one.2.2) (
      line_may live before line one.0 one.1,
      body_read live (suc n)
          (one.0 ∷ before) lines tail one.2.0 one.2.1,
    )
