-- The items of a body, printed one by one.
use Rattle.std.proofs.Common.{◌≡◌, ℕ, List, [], ◌∷◌, ◌++◌, Option, None, Some, Result, Ok, Err, refl, sym, ap, subst}
use Rattle.std.proofs.Common.{◌∙◌, append_assoc, append-nil}
use Rattle.sccs_base.specs.Stream.{Buffers, GivesSome}
use Rattle.sccs_base.proofs.Gifts.{buffers_none, buffers_both}
use Rattle.sccs_history.specs.declared.headers.Item.{Item}
use Rattle.sccs_tokens.specs.Written.{ended, item_line}
use Rattle.sccs_grammar.specs.FileRefusals.{file_fault}
use Rattle.sccs_grammar.specs.declared.faults.FileFault.{FileFault}
use Rattle.sccs_grammar.specs.declared.faults.FileFault.TheVariants as faults
use Rattle.sccs_sid.specs.declared.refusals.StepFault.{StepFault}
use Rattle.sccs_disk.specs.Told.{Told, seen}
use Rattle.sccs_table.specs.ReaderState.{bytes_in}
use Rattle.sccs_body.specs.Reader.{ItemPlace}
use Rattle.sccs_body.specs.ToCome.{GivesNext, ItemComes, ToCome}
use Rattle.sccs_versions.proofs.RunLaws.{onto_read}
use Rattle.sccs_prs.specs.Bodies.{IsToCome}
use Rattle.sccs_prs.specs.Gives.{GivesHeld}
use Rattle.sccs_prs.specs.PrsText.{body_text}
use Rattle.sccs_prs.proofs.GivesLaws.{gives_less, gives_no_more, gives_then_gives}

-- Some of the items were printed, and the reader stands before the others.
pub record HasPut (file : List ℕ) (items : List Item) (r : ItemPlace) (held held2 : List ℕ)
    (a b : Option (List ℕ)) : Type 0 where
  pub gone : List Item
  pub rest : List Item
  pub whole : items ≡ gone ++ rest
  pub live : List ℕ
  pub before : List Item
  pub comes : ToCome file live before (Ok rest) r
  pub gave : Buffers held (body_text gone) held2 a b

pub none_put : (told : Option (List ℕ)) (file : List ℕ) (items : List Item) (r : ItemPlace) (held : List ℕ)
    (a : Option (List ℕ)) → IsToCome told file items r → HasPut file items r held held a a
none_put told file items r held a is =
    record {
      gone = [];
      rest = items;
      whole = refl;
      live = is.live;
      before = is.before;
      comes = is.comes;
      gave =
          buffers_none held a;
    }

body_both : (xs ys : List Item) → body_text (xs ++ ys) ≡ body_text xs ++ body_text ys
body_both [] ys = refl
body_both (x ∷ xs) ys = ap (λ t. ended (item_line x) ++ t) (body_both xs ys)
    ∙ sym (append_assoc (ended (item_line x)) (body_text xs) (body_text ys))

-- what comes next is the first of the rest
pub record ComesFirst (file live : List ℕ) (before : List Item) (rest : List Item) (item : Item) (r : ItemPlace) : Type
    0 where
  pub more : List Item
  pub whole : rest ≡ item ∷ more
  pub comes : ToCome file live (item ∷ before) (Ok more) r

pub comes_first : (file live : List ℕ) (before rest : List Item) (item : Item) (r : ItemPlace)
    → ItemComes file live before (Ok rest) item r → ComesFirst file live before rest item r
comes_first file live before rest item r next =
    let read : (items : List Item) × (next.rest ≡ Ok items) × (rest ≡ (item ∷ []) ++ items) =
    onto_read (item ∷ []) next.rest rest (sym next.first) in
    record {
      more = read.0;
      whole = read.2;
      comes = subst (λ (f : Result (List Item) ℕ). ToCome file live
          (item ∷ before) f r) read.1 next.on;
    }

pub item_put : (file : List ℕ) (items : List Item) (r r2 : ItemPlace) (item : Item) (held mid left : List ℕ)
    (a b c : Option (List ℕ)) (put : HasPut file items r held mid a b) → ItemComes file put.live put.before
    (Ok put.rest) item r2
    → Buffers mid (ended (item_line item)) left b c → HasPut file items r2 held left a c
item_put file items r r2 item held mid left a b c put next gave =
    let first : ComesFirst file put.live put.before put.rest item r2 = comes_first file put.live put.before put.rest
    item r2 next in
    let last : body_text (item ∷ []) ≡ ended (item_line item) = append-nil (ended (item_line item)) in
    record {
      gone = put.gone ++ item ∷ [];
      rest = first.more;
      whole = put.whole ∙ (ap (λ (t : List Item). put.gone ++ t) first.whole
          ∙ sym (append_assoc put.gone (item ∷ []) first.more));
      live = put.live;
      before = item ∷ put.before;
      comes = first.comes;
      gave = subst (λ t. Buffers held t left a c) (sym (body_both put.gone (item ∷ [])
          ∙ ap (λ t. body_text put.gone ++ t) last)) (buffers_both held (body_text put.gone) mid
          (ended (item_line item)) left a b c put.gave gave);
    }

pub item_cut : (file : List ℕ) (items : List Item) (r r2 : ItemPlace) (item : Item) (fault : StepFault)
    (held mid left left2 : List ℕ) (a b c : Option (List ℕ)) (put : HasPut file items r held mid a b)
    → ItemComes file put.live put.before (Ok put.rest) item r2
    → GivesHeld {T = Unit {0}} (ended (item_line item)) (Err fault) mid left b c → GivesHeld {T = Unit {0}}
    (body_text items) (Err fault) held left2 a c
item_cut file items r r2 item fault held mid left left2 a b c put next gives =
    let first : ComesFirst file put.live put.before put.rest item r2 = comes_first file put.live put.before put.rest
    item r2 next in
    let whole : body_text put.gone ++ (ended (item_line item) ++ body_text first.more) ≡ body_text items =
    sym (ap body_text (put.whole ∙ ap (λ (t : List Item). put.gone ++ t) first.whole)
    ∙ body_both put.gone (item ∷ first.more)) in
    subst (λ t. GivesHeld {T = Unit {0}} t (Err fault) held left2 a c) whole
    (gives_then_gives {T = Unit {0}} (body_text put.gone) (ended (item_line item) ++ body_text first.more)
    (Err fault) held mid left2 a b c put.gave (gives_less (ended (item_line item)) (body_text first.more) fault mid
    left left2 b c gives))

abbrev as_read : List Item → Result (List Item) ℕ
as_read rest = Ok rest

pub all_put : (file : List ℕ) (items : List Item) (r r2 : ItemPlace) (held mid : List ℕ) (a b : Option (List ℕ))
    (put : HasPut file items r held mid a b) → GivesNext file put.live put.before (Ok put.rest) r2 (Ok None)
    → Buffers held (body_text items) mid a b
all_put file items r r2 held mid a b put ends = subst (λ t. Buffers held t mid a b)
    (ap body_text (sym (append-nil put.gone) ∙ (ap (λ (t : List Item). put.gone ++ t) (sym (none put.rest ends))
    ∙ sym put.whole))) put.gave
  where
    none : (rest : List Item) → as_read rest ≡ Ok [] → rest ≡ []
    none rest is = cc

pub fault_put : (file : List ℕ) (items : List Item) (r r2 : ItemPlace) (fault : FileFault) (ended_by : StepFault)
    (held mid left : List ℕ) (a b : Option (List ℕ)) (put : HasPut file items r held mid a b)
    → ended_by ≡ file_fault fault → GivesNext file put.live put.before (Ok put.rest) r2 (Err fault)
    → GivesHeld {T = Unit {0}} (body_text items) (Err ended_by) held left a b
fault_put file items r r2 fault ended_by held mid left a b put is next =
    subst (λ f. GivesHeld {T = Unit {0}} (body_text items) (Err f) held left a b) (sym is) (by fault next)
  where
    some : GivesSome a b (held ++ body_text items)
    some = subst (λ t. GivesSome a b (held ++ t)) (sym (ap body_text put.whole ∙ body_both put.gone put.rest))
        (gives_no_more (body_text put.gone) (body_text put.rest) held mid a b put.gave)

    by : (fault : FileFault) → GivesNext file put.live put.before (Ok put.rest) r2 (Err fault)
        → GivesHeld {T = Unit {0}} (body_text items) (Err (file_fault fault)) held left a b
    by faults.Failed next = some
    by faults.Memory next = some
    by (faults.BadFormat line) next = absurd cc
    by faults.Missing next = absurd next
    by faults.TooLong next = absurd next
    by faults.NotSccs next = absurd next
    by (faults.BadSum stored sum) next = absurd next
    by faults.Encoded next = absurd next
    by (faults.Changed size sum size_now sum_now) next = absurd next

-- the told file is still there
pub still_there : (t t2 : Told) (n n2 file : List ℕ) → t2 ≡ t → n2 ≡ n → bytes_in (seen t) n ≡ Some file
    → bytes_in (seen t2) n2 ≡ Some file
still_there t t2 n n2 file same name is = ap (λ (u : Told). bytes_in (seen u) n2) same ∙ (ap (bytes_in (seen t)) name
    ∙ is)

pub begun : (told told2 : Option (List ℕ)) (file live : List ℕ) (items : List Item) (r : ItemPlace) → told2 ≡ told
    → told ≡ Some file → ToCome file live [] (Ok items) r → IsToCome told2 file items r
begun told told2 file live items r same is comes =
    record { told_is = same ∙ is; live = live; before = []; comes = comes }
