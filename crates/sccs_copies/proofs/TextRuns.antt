-- Text lines that are copied together.
use Rattle.std.proofs.Common.{◌≡◌, ℕ, ◌<◌, Bool, true, false, List, [], ◌∷◌, ◌++◌, length, map, Result, Ok, Err, refl}
use Rattle.std.proofs.Common.{sym, ap, subst, ◌∙◌, arith, length-take-le}
use Rattle.std.specs.Prelude.{if◌then◌else◌}
use Rattle.sccs_base.specs.Cut.{cut}
use Rattle.sccs_disk.specs.Told.{Told}
use Rattle.sccs_disk.specs.declared.disks.DiskRefusal.{DiskRefusal}
use Rattle.sccs_grammar.specs.declared.faults.FileFault.{FileFault}
use Rattle.sccs_history.specs.Body.{GoesOn, may_stand}
use Rattle.sccs_history.specs.declared.headers.Item.{Item}
use Rattle.sccs_history.specs.declared.headers.Item.TheVariants.{Text}
use Rattle.sccs_table.proofs.RunLaws.{run_bytes}
use Rattle.sccs_body.proofs.TextLaws.{some_bytes}
use Rattle.sccs_body.specs.ItemsRead.{IsBehind, texts_behind}
use Rattle.sccs_body.specs.Reader.{ItemPlace, at_hand}
use Rattle.sccs_body.specs.ToCome.{MayPass, TextsCome, ToCome}
use Rattle.sccs_splicer.proofs.Spelling.{spelled_texts}
use Rattle.sccs_versions.proofs.RunLaws.{onto_read}
use Rattle.sccs_writers.specs.Puts.{Puts, PutsText, Writer}
use Rattle.sccs_writers.specs.Spelled.{spelled}
use Rattle.sccs_copies.specs.Copies.{CopiesItem, CopiesNext, CopiesOn, CopiesSome, CopyComes, PutsFiltered}
use Rattle.sccs_copies.specs.Filters.{Filter, PassesTexts, identity}
use Rattle.sccs_copies.specs.declared.copies.Copying.{Copying}
use Rattle.sccs_copies.proofs.BodyLaws.{body_both, on_both}
use Rattle.sccs_copies.proofs.CopyLaws.{copies_both, copies_end}
use Rattle.sccs_copies.proofs.FilterLaws.{ok_of, rest_of}
use Rattle.sccs_copies.proofs.SplicingLaws.{nothing_put}

-- ---- filters

-- lines that stay as they are
pub texts_pass : {F : Type 0} (f : F) → PassesTexts identity f true
texts_pass f before lines stands = record { behind = tt; goes = λ rest. refl }

-- lines that aren't wanted aren't put
pub no_texts_put : (wanted : Bool) (texts : List ℕ) (w : Writer) (t : Told) (k : ℕ) → wanted ≡ false
    → PutsText {T = Unit {0}} (if wanted then texts else []) w w t t k k (Ok tt)
no_texts_put wanted texts w t k is = subst (λ b. PutsText {T = Unit {0}} (if b then texts else []) w w t t k k (Ok tt))
    (sym is) (nothing_put tt w t k)

-- ---- a run

spelled_if : (wanted : Bool) (run : List ℕ) → (cut run).tail ≡ [] → (if wanted then run else []) ≡ spelled
    (if wanted then map Text (cut run).lines else [])
spelled_if true run whole = run_bytes run whole ∙ sym (spelled_texts (cut run).lines)
spelled_if false run whole = refl

texts_go : (live : List ℕ) (before : List Item) (lines : List (List ℕ)) (rest : List Item)
    → (0 < length lines → (text : List ℕ) → may_stand live before (Text text) ≡ true)
    → GoesOn live (texts_behind lines before) rest → GoesOn live before (map Text lines ++ rest)
texts_go live before [] rest stand goes = goes
texts_go live before (line ∷ lines) rest stand goes = (
  stand (omega arith) line,
  texts_go live (Text line ∷ before) lines rest (λ some text. stand (omega arith) text)
      goes,
)

module _ {F U : Type 0} (filter : Filter F) (before : List Item) (run : List ℕ) (wanted : Bool) (f : F) (w w2 : Writer)
    (a b : Told) (g h : ℕ) (q : Result U DiskRefusal) (done : U) (is : q ≡ Ok done) (whole : (cut run).tail ≡ [])
    (passes : PassesTexts filter f wanted) (puts : PutsText (if wanted then run else []) w w2 a b g h q) where
  pub texts_filtered : filter.stands f before → PutsFiltered filter before (texts_behind (cut run).lines before)
      (map Text (cut run).lines) f f w w2 a b
  texts_filtered stands = record {
    items = if wanted then map Text (cut run).lines else [];
    puts = subst (λ text. Puts text w w2 a b) (spelled_if wanted run whole)
        (ok_of (Puts (if wanted then run else []) w w2 a b) q done is puts.ok);
    filters = passes before (cut run).lines stands;
  }

-- the lines are passed over, and what the filter makes of them is put
pub on_texts : {F U : Type 0} (filter : Filter F) (live : List ℕ) (before : List Item) (c c2 : Copying F)
    (place : ItemPlace) (count : ℕ) (texts : List ℕ) (wanted : Bool) (w w2 : Writer) (a b : Told) (g h : ℕ)
    (q : Result U DiskRefusal) (done : U)
    → q ≡ Ok done → at_hand c.items count ≡ texts → MayPass c.items count → PassesTexts filter c.filter wanted
    → PutsText (if wanted then texts else []) w w2 a b g h q
    → c2.items ≡ place → c2.filter ≡ c.filter → (IsBehind live before c.items
    → IsBehind live (texts_behind (cut (at_hand c.items count)).lines before) place)
    → IsBehind live before c.items → filter.stands c.filter before → CopiesOn filter live before c c2 w w2 a b
on_texts filter live before c c2 place count texts wanted w w2 a b g h q done is run_is may passes puts placed kept
    moves behind stands =
    let run = at_hand c.items count in
    let put = texts_filtered filter before run wanted c.filter w w2 a b g h q done is may.run.0 passes
    (subst (λ t. PutsText (if wanted then t else []) w w2 a b g h q) (sym run_is) puts) stands in
    record {
      some = record {
        taken = map Text (cut run).lines;
        after = texts_behind (cut run).lines before;
        goes = λ rest goes. texts_go live before (cut run).lines rest (λ some text. may.stand live before text behind
            (some_count (some_bytes run some))) goes;
        put = subst (λ f. PutsFiltered filter before (texts_behind (cut run).lines before) (map Text (cut run).lines)
            c.filter f w w2 a b) (sym kept) put;
      };
      behind = subst (IsBehind live (texts_behind (cut run).lines before)) (sym placed) (moves behind);
    }
  where
    some_count : 0 < length (at_hand c.items count) → 0 < count
    some_count some = subst (λ n. 0 < n) (length-take-le count c.items.body.lines.held may.fits) some

-- ---- of a told file

pub copies_texts : {F U : Type 0} (filter : Filter F) (file : List ℕ) (items : List Item) (c c2 : Copying F)
    (place : ItemPlace) (count : ℕ) (texts : List ℕ) (wanted : Bool) (w w2 : Writer) (a b : Told) (g h : ℕ)
    (q : Result U DiskRefusal) (done : U)
    → q ≡ Ok done → at_hand c.items count ≡ texts → MayPass c.items count → PassesTexts filter c.filter wanted
    → PutsText (if wanted then texts else []) w w2 a b g h q
    → c2.items ≡ place → c2.filter ≡ c.filter → ((live : List ℕ) (before : List Item) (found : Result (List Item) ℕ)
    → ToCome file live before found c.items → TextsCome file live before found (at_hand c.items count) place)
    → CopyComes filter file items c → CopiesSome filter file items c c2 w w2 a b
copies_texts filter file items c c2 place count texts wanted w w2 a b g h q done is run_is may passes puts placed kept
    comes p =
    let run = at_hand c.items count in
    let come = comes p.live p.before (Ok p.rest) p.comes in
    let split = onto_read (map Text (cut run).lines) come.rest p.rest (sym come.first) in
    let put = texts_filtered filter p.before run wanted c.filter w w2 a b g h q done is may.run.0 passes
    (subst (λ t. PutsText (if wanted then t else []) w w2 a b g h q) (sym run_is) puts) p.stands in
    let after = texts_behind (cut run).lines p.before in
    let left = rest_of put.items items (filter.output c.filter after split.0) (put.filters.goes split.0
    ∙ (ap (filter.output c.filter p.before) (sym split.2) ∙ p.output_is)) in
    record {
      first = put.items;
      rest = left.0;
      whole = left.2;
      puts = put.puts;
      on = record {
        live = p.live;
        before = after;
        rest = split.0;
        comes = subst (ToCome file p.live after (Ok split.0)) (sym placed)
            (subst (λ f. ToCome file p.live after f place) split.1 come.on);
        stands = subst (λ f. filter.stands f after) (sym kept) put.filters.behind;
        output_is = ap (λ f. filter.output f after split.0) kept ∙ left.1;
      };
    }

-- ---- lines, and then an item

pub item_after : {F : Type 0} (filter : Filter F) (live : List ℕ) (before : List Item) (c c2 c3 : Copying F)
    (w w2 w3 : Writer) (a b z : Told) (r : Result Bool FileFault) → (p : CopiesOn filter live before c c2 w w2 a b)
    → CopiesItem filter live p.some.after c2 c3 w2 w3 b z r → CopiesItem filter live before c c3 w w3 a z r
item_after filter live before c c2 c3 w w2 w3 a b z (Ok true) p q = on_both filter live before c c2 c3 w w2 w3 a b z p q
item_after filter live before c c2 c3 w w2 w3 a b z (Ok false) p q = body_both filter live before c c2 c3 w w2 w3 a b z
    p q
item_after filter live before c c2 c3 w w2 w3 a b z (Err fault) p q = tt

pub next_after : {F : Type 0} (filter : Filter F) (file : List ℕ) (items : List Item) (c c2 c3 : Copying F)
    (w w2 w3 : Writer) (a b z : Told) (r : Result Bool FileFault) → (p : CopiesSome filter file items c c2 w w2 a b)
    → CopiesNext filter file p.rest c2 c3 w2 w3 b z r → CopiesNext filter file items c c3 w w3 a z r
next_after filter file items c c2 c3 w w2 w3 a b z (Ok true) p q = copies_both filter file items c c2 c3 w w2 w3 a b z p
    q
next_after filter file items c c2 c3 w w2 w3 a b z (Ok false) p q = copies_end filter file items c c2 c3.filter w w2 w3
    a b z p q
next_after filter file items c c2 c3 w w2 w3 a b z (Err fault) p q = q
