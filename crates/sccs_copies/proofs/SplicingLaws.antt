-- A splicer that knows the set of its base, as a filter.
use Rattle.std.proofs.Common.{◌≡◌, ◌≢◌, ℕ, ◌+◌, ◌==◌, Bool, true, false, List, [], ◌∷◌, ◌++◌, length, None, Some}
use Rattle.std.proofs.Common.{Result, Ok, Err, OnOk, refl, sym, ap, subst, ◌∙◌, arith}
use Rattle.std.specs.Prelude.{if◌then◌else◌}
use Rattle.std.proofs.lemmas.Bool.{eq-eqb, eqb-true, ne_eqb}
use Rattle.sccs_disk.specs.Told.{Told}
use Rattle.sccs_disk.specs.declared.disks.DiskRefusal.{DiskRefusal}
use Rattle.sccs_disk.specs.declared.disks.DiskRefusal.TheVariants as refusals
use Rattle.sccs_script_laws.specs.Places.{told_behind}
use Rattle.sccs_history.specs.Body.{lines_of}
use Rattle.sccs_history.specs.Select.{select}
use Rattle.sccs_history.specs.declared.headers.Item.{Item}
use Rattle.sccs_splicer.specs.Splices.{SplicesOn, Splices, SplicerState, base_count, items_owed}
use Rattle.sccs_splicer.proofs.Pushes.{count_both, shown_lines}
use Rattle.sccs_versions.specs.Regions.{Holds}
use Rattle.sccs_versions.specs.declared.regions.Region.{Region}
use Rattle.sccs_writers.specs.Puts.{PutsText, Writer}
use Rattle.sccs_writers.proofs.OneFile.{only_none}
use Rattle.sccs_writers.proofs.PutLaws.{puts_none, same_text}
use Rattle.sccs_splicer.proofs.Spelling.{spelled_one}
use Rattle.sccs_tokens.specs.Written.{ended, item_line}
use Rattle.sccs_copies.specs.BaseSplicing.{base_splicing, counted_output}
use Rattle.sccs_copies.specs.Filters.{Filters, Finishes, TakesItem, identity, items_before}
use Rattle.sccs_copies.specs.declared.base_splicers.BaseSplicer.{BaseSplicer}

-- ---- what is owed, where the lines are as many as were counted

counted_on : (s s2 : SplicerState) (lines : ℕ) (pushed rest : List (Item × Bool)) (items : List Item)
    → SplicesOn pushed items s s2 → items_before items (counted_output s2 lines rest) ≡ counted_output s lines
    (pushed ++ rest)
counted_on s s2 lines pushed rest items goes =
    subst (λ n. items_before items (if n == lines then Some (items_owed s2 rest) else None) ≡ counted_output s lines
    (pushed ++ rest)) (sym count) (by_test (s.line + base_count (pushed ++ rest) == lines))
  where
    count : s2.line + base_count rest ≡ s.line + base_count (pushed ++ rest)
    count = omega (arith, goes.line, count_both pushed rest)

    by_test : (t : Bool) → items_before items (if t then Some (items_owed s2 rest) else None)
        ≡ (if t then Some (items_owed s (pushed ++ rest)) else None)
    by_test true = ap (λ (l : List Item). Some l) (goes.owes rest)
    by_test false = refl

pub all_counted : (s : SplicerState) (lines : ℕ) (told : List (Item × Bool)) → s.line + base_count told ≡ lines
    → counted_output s lines told ≡ Some (items_owed s told)
all_counted s lines told is =
    subst (λ n. (if n == lines then Some (items_owed s told) else None) ≡ Some (items_owed s told)) (sym is)
    (ap (λ (t : Bool). if t then Some (items_owed s told) else None) (eq-eqb lines lines refl))

pub none_counted : (s : SplicerState) (lines : ℕ) (told : List (Item × Bool)) → s.line + base_count told ≢ lines
    → counted_output s lines told ≡ None
none_counted s lines told other = ap (λ (t : Bool). if t then Some (items_owed s told) else None)
    (ne_eqb (s.line + base_count told) lines other)

counted_is : (s : SplicerState) (lines n : ℕ) (told : List (Item × Bool)) (items : List Item) (t : Bool)
    → (n == lines) ≡ t → (if t then Some (items_owed s told) else None) ≡ Some items → (n ≡ lines)
    × (items ≡ items_owed s told)
counted_is s lines n told items true same is = (eqb-true n lines same, cc)
counted_is s lines n told items false same is = absurd cc

-- ---- from item to item

pub base_takes : {T : Type 0} (b : BaseSplicer) (s2 : SplicerState) (regions2 : List Region) (item : Item)
    (visible : Bool) (w w2 : Writer) (a c : Told) (f g : ℕ) (r : Result T DiskRefusal)
    → ((before : List Item) → Holds b.set before b.weaver → Holds b.set (item ∷ before) regions2)
    → ((set : List ℕ) (before rest : List Item) → Holds set (item ∷ before) regions2
    → told_behind set before (item ∷ rest) ≡ (item, visible) ∷ told_behind set (item ∷ before) rest)
    → Splices ((item, visible) ∷ []) b.splicer s2 w w2 a c f g r → TakesItem base_splicing item b
    (record { splicer = s2; weaver = regions2; set = b.set; lines = b.lines }) w w2 a c f g r
base_takes b s2 regions2 item visible w w2 a c f g r take shown p =
    record { items = p.items; puts = p.puts; filters = on_goes r p.goes }
  where
    on_goes : {T : Type 0} (r : Result T DiskRefusal) → OnOk r (SplicesOn ((item, visible) ∷ []) p.items b.splicer s2)
        → OnOk r ((before : List Item) → Holds b.set before b.weaver → Filters base_splicing before (item ∷ before)
        (item ∷ []) p.items b (record { splicer = s2; weaver = regions2; set = b.set; lines = b.lines }))
    on_goes (Ok done) goes = λ before holds.
        let held = take before holds in
        record {
          behind = held;
          goes = λ rest.
              counted_on b.splicer s2 b.lines ((item, visible) ∷ []) (told_behind b.set (item ∷ before) rest) p.items
              goes
              ∙ ap (counted_output b.splicer b.lines) (sym (shown b.set before rest held));
        }
    on_goes (Err refusal) goes = tt

-- ---- behind the last item

pub nothing_put : {T : Type 0} (x : T) (w : Writer) (t : Told) (k : ℕ) → PutsText {T = T} [] w w t t k k (Ok x)
nothing_put x w t k = record {
  ok = puts_none w t;
  name = refl;
  only = only_none w.name t;
  later = omega arith;
  cause =
      λ failed. absurd cc;
}

-- an item is put as it is
pub item_put : {F T : Type 0} (item : Item) (f f2 : F) (w w2 : Writer) (a b : Told) (g h : ℕ) (r : Result T DiskRefusal)
    → PutsText (ended (item_line item)) w w2 a b g h r → TakesItem identity item f f2 w w2 a b g h r
item_put item f f2 w w2 a b g h r puts = record {
  items = item ∷ [];
  puts = same_text (sym (spelled_one item)) puts;
  filters = on_any r (λ before stands. record { behind = tt; goes = λ rest. refl });
}
  where
    on_any : {T P : Type 0} (r : Result T DiskRefusal) → P → OnOk r P
    on_any (Ok done) p = p
    on_any (Err refusal) p = tt

pub all_put : {F : Type 0} (f : F) (w : Writer) (t : Told) (k : ℕ) → Finishes identity f w w t t k k (Ok true)
all_put f w t k = record { items = []; puts = nothing_put true w t k; ends = λ before stands. refl }

no_more : (n : ℕ) → n + 0 ≡ n
no_more n = omega arith

pub base_refuses : (b : BaseSplicer) (w : Writer) (t : Told) (k : ℕ) → b.splicer.line ≢ b.lines
    → Finishes base_splicing b w w t t k k (Ok false)
base_refuses b w t k other = record {
  items = [];
  puts = nothing_put false w t k;
  ends = λ before holds. none_counted b.splicer b.lines [] (λ is. other (sym (no_more b.splicer.line) ∙ is));
}

-- ---- what the output is

abbrev pub OutputIs : BaseSplicer → List Item → List Item → Type 0
OutputIs b body items = (length (select b.set (lines_of body)) ≡ b.lines)
    × (items ≡ items_owed b.splicer (told_behind b.set [] body))

pub output_told : (b : BaseSplicer) (body items : List Item) → b.splicer.line ≡ 0 → counted_output b.splicer b.lines
    (told_behind b.set [] body) ≡ Some items → OutputIs b body items
output_told b body items begun is =
    let both = counted_is b.splicer b.lines (b.splicer.line + base_count (told_behind b.set [] body))
    (told_behind b.set [] body) items (b.splicer.line + base_count (told_behind b.set [] body) == b.lines) refl
    is in
    (omega (arith, both.0, begun, shown_lines b.set [] body), both.1)

pub output_made : (b : BaseSplicer) (body : List Item) → b.splicer.line ≡ 0 → length (select b.set (lines_of body))
    ≡ b.lines → counted_output b.splicer b.lines (told_behind b.set [] body) ≡ Some
    (items_owed b.splicer (told_behind b.set [] body))
output_made b body begun is = all_counted b.splicer b.lines (told_behind b.set [] body)
    (omega (arith, begun, is, shown_lines b.set [] body))
