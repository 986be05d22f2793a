-- Runs that are put, one after the other.
use Rattle.std.proofs.Common.{◌≡◌, ℕ, ◌+◌, ◌<◌, List, [], ◌∷◌, ◌++◌, length, drop, get_or, Result, Ok, Err, OnOk, refl}
use Rattle.std.proofs.Common.{sym, ap, subst, ◌∙◌, append_assoc}
use Rattle.std.proofs.lemmas.List.{drop_more}
use Rattle.sccs_disk.specs.Told.{Told}
use Rattle.sccs_disk.specs.declared.disks.DiskRefusal.{DiskRefusal}
use Rattle.sccs_history.specs.declared.headers.Item.{Item}
use Rattle.sccs_new_files.specs.Writing.{body_bytes}
use Rattle.sccs_trunks.specs.TrunkItems.{closes, items_behind, items_of}
use Rattle.sccs_writers.specs.Puts.{Puts, PutsText, Writer}
use Rattle.sccs_writers.proofs.PutLaws.{puts_cut, puts_nothing, puts_then, same_text}
use Rattle.sccs_rcs.specs.RunItems.{region_behind, run_items}
use Rattle.sccs_trunks.specs.Runs.{run_lines}
use Rattle.sccs_rcs.specs.declared.bodies.Region.{Region}
use Rattle.sccs_trunks.specs.declared.runs.LineRun.{LineRun}
use Rattle.sccs_rcs.proofs.RunLaws.{bytes_both, run_first}

-- Some items were put: behind a line of a region those of the rest are to come.
pub record PutsSoFar (runs rest : List LineRun) (last : Region) (w w2 : Writer) (a b : Told) (f g : ℕ) : Type 0 where
  pub items : List Item
  pub goes : items ++ items_behind last.inserter last.deleter (run_lines rest) ≡ items_of (run_lines runs)
  pub puts : PutsText {T = Unit {0}} (body_bytes items) w w2 a b f g (Ok tt)

pub none_so_far : (runs : List LineRun) (w : Writer) (t : Told) (f : ℕ)
    → PutsSoFar runs runs (record { inserter = 0; deleter = 0 }) w w t t f f
none_so_far runs w t f = record { items = []; goes = refl; puts = puts_nothing w t f }

as_done : {T : Type 0} (text : List ℕ) (w w2 : Writer) (a b : Told) (f g : ℕ) (r : Result T DiskRefusal) (done : T)
    → r ≡ Ok done → PutsText text w w2 a b f g r → PutsText {T = Unit {0}} text w w2 a b f g (Ok tt)
as_done text w w2 a b f g r done is puts = record {
  ok = subst (λ (s : Result _ DiskRefusal). OnOk s (Puts text w w2 a b)) is puts.ok;
  name = puts.name;
  only = puts.only;
  later = puts.later;
  cause = λ failed. absurd cc;
}

-- one run more
pub run_so_far : {T : Type 0} (runs : List LineRun) (i : ℕ) (run d : LineRun) (last next : Region) (w w2 w3 : Writer)
    (a b c : Told) (f g h : ℕ) (r : Result T DiskRefusal) (done : T) → i < length runs → run ≡ get_or runs i d
    → next ≡ region_behind last run → r ≡ Ok done → PutsSoFar runs (drop i runs) last w w2 a b f g
    → PutsText (body_bytes (run_items last run)) w2 w3 b c g h r → PutsSoFar runs (drop (i + 1) runs) next w w3 a c
    f h
run_so_far runs i run d last next w w2 w3 a b c f g h r done below is behind ok before puts =
    let rest = drop (i + 1) runs in
    let first : run ∷ rest ≡ drop i runs = ap (λ x. x ∷ rest) is ∙ sym (drop_more runs i d below) in
    record {
      items = before.items ++ run_items last run;
      goes =
          ap (λ (n : Region). (before.items ++ run_items last run) ++ items_behind n.inserter n.deleter
          (run_lines rest)) behind
          ∙ (append_assoc before.items (run_items last run) (items_behind (region_behind last run).inserter
          (region_behind last run).deleter (run_lines rest))
          ∙ (ap (λ items. before.items ++ items) (run_first last run rest
          ∙ ap (λ rs. items_behind last.inserter last.deleter (run_lines rs)) first) ∙ before.goes));
      puts = as_done _ w w3 a c f h r done ok (same_text (bytes_both before.items (run_items last run))
          (puts_then tt refl before.puts puts));
    }

-- a run fails
pub run_cut : {T U : Type 0} {runs rest : List LineRun} {last : Region} {x : List ℕ} {w w2 w3 : Writer} {a b c : Told}
    {f g h : ℕ} {r : Result T DiskRefusal} (refusal : DiskRefusal) → r ≡ Err refusal
    → PutsSoFar runs rest last w w2 a b f g → PutsText x w2 w3 b c g h r
    → PutsText {T = U} (body_bytes (items_of (run_lines runs))) w w3 a c f h (Err refusal)
run_cut {runs = runs} refusal is before puts = puts_cut (body_bytes (items_of (run_lines runs))) refusal is refl
    (puts_then tt refl before.puts puts)

-- what is open is closed behind the last run
pub runs_whole : {T : Type 0} {last : Region} {w w2 w3 : Writer} {a b c : Told} {f g h : ℕ} {r : Result T DiskRefusal}
    (runs rest : List LineRun) → rest ≡ [] → PutsSoFar runs rest last w w2 a b f g
    → PutsText (body_bytes (closes last.inserter last.deleter)) w2 w3 b c g h r
    → PutsText (body_bytes (items_of (run_lines runs))) w w3 a c f h r
runs_whole {last = last} runs rest is before puts =
    same_text
    (bytes_both before.items (closes last.inserter last.deleter)
    ∙ ap body_bytes (ap (λ rs. before.items ++ items_behind last.inserter last.deleter (run_lines rs)) (sym is)
    ∙ before.goes))
    (puts_then tt refl before.puts puts)
