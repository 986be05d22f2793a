-- How giving goes from turn to turn.
use Rattle.std.proofs.Common.{◌≡◌, ℕ, ◌+◌, Bool, true, false, ◌||◌, List, [], ◌∷◌, ◌++◌, length, length-append, Option}
use Rattle.std.proofs.Common.{None, Some, Result, Err, refl, sym, ap, subst, ◌∙◌, arith, append_assoc}
use Rattle.std.specs.Result.{IsErrAnd}
use Rattle.std.proofs.lemmas.Result.{err_from_is_err_and}
use Rattle.std.specs.List.{AllByRecursion, list_any}
use Rattle.std.proofs.lemmas.List.{append-nil, length-map, map-append}
use Rattle.std.proofs.lemmas.List.Folds.{list_any-append}
use Rattle.sccs_base.specs.Cut.{cut}
use Rattle.sccs_base.specs.Stream.{Buffers}
use Rattle.sccs_base.proofs.Gifts.{buffers_both, buffers_none}
use Rattle.sccs_grammar.specs.FileRefusals.{file_fault}
use Rattle.sccs_grammar.specs.declared.faults.FileFault.{FileFault}
use Rattle.sccs_grammar.specs.declared.faults.FileFault.TheVariants as faults
use Rattle.sccs_history.specs.Body.{HistoryLine}
use Rattle.sccs_history.specs.declared.headers.Item.{Item}
use Rattle.sccs_keywords.specs.Keywords.{is_keyword, parts}
use Rattle.sccs_keywords.specs.declared.facts.Facts.{Facts}
use Rattle.sccs_sid.specs.declared.refusals.StepFault.{StepFault}
use Rattle.sccs_table.proofs.RunLaws.{lines_are}
use Rattle.sccs_table.specs.Runs.{lf_count}
use Rattle.sccs_keywords.specs.Forms.{LineForm, formed_lines, formed_text, has_keywords, if_replaced, replaces_in}
use Rattle.sccs_keywords.specs.Forms.{texts}
use Rattle.sccs_keywords.proofs.TextLaws.{put_together}
use Rattle.sccs_versions.specs.Coming.{ComeFirst, ComesNext, Coming, GivesNextLine, StandFirst}
use Rattle.sccs_versions.specs.Place.{IsInserter, VersionPlace}
use Rattle.sccs_versions.specs.WasRead.{HasRead, ReadsAll, ReadsOn, shown_before}
use Rattle.sccs_versions.specs.declared.regions.Region.{Region}
use Rattle.sccs_printing.specs.Counted.{with_lines}
use Rattle.sccs_printing.specs.Giving.{CutsLines, Gave, GivesRun, KeepsForm, Moved, ReadSome, ReadWhole, giving_form}
use Rattle.sccs_printing.specs.Giving.{text_next}
use Rattle.sccs_printing.specs.Printing.{IsFaultAroundPrint}
use Rattle.sccs_printing.specs.Targets.{Cuts, file_of, held_back}
use Rattle.sccs_printing.specs.declared.givings.Giving.{Giving}
use Rattle.sccs_printing.specs.declared.shown.Shown.{Shown}
use Rattle.sccs_printing.proofs.RunTexts.{one_delta, run_keywords}
use Rattle.sccs_printing.proofs.TargetLaws.{cuts_longer, cuts_then, uncut}
use Rattle.sccs_base.proofs.Bools.{or_assoc}

-- ---- what is counted

or_none : (x : Bool) → x ≡ (x || false)
or_none true = refl
or_none false = refl

either_replaced : (facts : Option Facts) (xs ys : List (List ℕ)) → if_replaced facts (has_keywords (xs ++ ys))
    ≡ (if_replaced facts (has_keywords xs) || if_replaced facts (has_keywords ys))
either_replaced None xs ys = refl
either_replaced (Some facts) xs ys = list_any-append (λ line. list_any is_keyword (parts line)) xs ys

pub same_shown : (lines lines2 : ℕ) (keywords keywords2 : Bool) → lines ≡ lines2 → keywords ≡ keywords2
    → ◌≡◌ {A = Shown} (record { lines = lines; keywords = keywords }) (record { lines = lines2; keywords = keywords2 })
same_shown lines lines2 keywords keywords2 few some = cc

counted_both : (form : LineForm) (s : Shown) (xs ys : List (List ℕ)) → with_lines form (with_lines form s xs) ys
    ≡ with_lines form s (xs ++ ys)
counted_both form s xs ys =
    same_shown (s.lines + length xs + length ys) (s.lines + length (xs ++ ys))
    ((s.keywords || replaces_in form xs) || replaces_in form ys) (s.keywords || replaces_in form (xs ++ ys))
    (omega (arith, length-append xs ys)) (sym (or_assoc s.keywords (replaces_in form xs) (replaces_in form ys))
    ∙ ap (λ b. s.keywords || b) (sym (either_replaced form.facts xs ys)))

counted_none : (form : LineForm) (s : Shown) → s ≡ with_lines form s []
counted_none form s = same_shown s.lines (s.lines + 0) s.keywords (s.keywords || replaces_in form []) (omega arith)
    (or_none s.keywords ∙ ap (λ b. s.keywords || b) (none form.facts))
  where
    none : (facts : Option Facts) → false ≡ if_replaced facts (has_keywords [])
    none None = refl
    none (Some facts) = refl

pub run_counted : (form : LineForm) (s s2 : Shown) (run : List ℕ) (many count : ℕ) (some : Bool) → s2 ≡ s
    → (cut run).tail ≡ [] → many ≡ lf_count run → count ≡ s.lines + many → some ≡ if_replaced form.facts
    (list_any is_keyword (parts run))
    → ◌≡◌ {A = Shown} (record { lines = count; keywords = s2.keywords || some }) (with_lines form s (cut run).lines)
run_counted form s s2 run many count some same whole many_is count_is some_is =
    same_shown count (s.lines + length (cut run).lines) (s2.keywords || some) (s.keywords || replaces_in form
    (cut run).lines)
    (count_is ∙ ap (λ n. s.lines + n) (many_is ∙ lines_are run))
    (ap (λ (o : Shown). o.keywords || some) same ∙ ap (λ b. s.keywords || b) (some_is ∙ ap (if_replaced form.facts)
    (run_keywords run whole)))

-- ---- lines that were given

pub keeps_same : (g : Giving) → KeepsForm g g
keeps_same g = record { form = refl; sids = refl; file = refl }

pub keeps_both : (g g2 g3 : Giving) → KeepsForm g g2 → KeepsForm g2 g3 → KeepsForm g g3
keeps_both g g2 g3 one two = record {
  form = two.form ∙ one.form;
  sids = two.sids ∙ one.sids;
  file = two.file
      ∙ one.file;
}

pub gave_none : (g : Giving) (a : Option (List ℕ)) → Gave [] g g a a
gave_none g a = record { text = buffers_none (held_back g.target) a; shown = counted_none (giving_form g) g.shown }

long : (lines : List HistoryLine) → length (texts lines) ≡ length lines
long lines = length-map lines (λ (line : HistoryLine). line.text)

-- the text of lines behind those that were given
next_text : (g g2 : Giving) (xs ys : List HistoryLine) → KeepsForm g g2 → g2.shown ≡ with_lines (giving_form g) g.shown
    (texts xs)
    → text_next g2 ys ≡ formed_text (giving_form g) g.sids (g.shown.lines + 1 + length xs) ys
next_text g g2 xs ys keeps shown =
    ap (λ form. formed_text form g2.sids (g2.shown.lines + 1) ys) keeps.form
    ∙ (ap (λ records. formed_text (giving_form g) records (g2.shown.lines + 1) ys) keeps.sids
    ∙ ap (λ n. formed_text (giving_form g) g.sids n ys) further)
  where
    further : g2.shown.lines + 1 ≡ g.shown.lines + 1 + length xs
    further = let many = ap (λ (s : Shown). s.lines) shown in omega (arith, many, long xs)

-- the text of lines, in two parts
pub text_parts : (g g2 : Giving) (xs ys : List HistoryLine) → KeepsForm g g2
    → g2.shown ≡ with_lines (giving_form g) g.shown (texts xs) → text_next g (xs ++ ys) ≡ text_next g xs
    ++ text_next g2 ys
text_parts g g2 xs ys keeps shown =
    put_together (giving_form g) g.sids (g.shown.lines + 1) xs ys ∙ ap (λ more. text_next g xs ++ more)
    (sym (next_text g g2 xs ys keeps shown))

shown_parts : (g g2 g3 : Giving) (xs ys : List HistoryLine) → KeepsForm g g2
    → g2.shown ≡ with_lines (giving_form g) g.shown (texts xs) → g3.shown ≡ with_lines (giving_form g2) g2.shown
    (texts ys) → g3.shown ≡ with_lines (giving_form g) g.shown (texts (xs ++ ys))
shown_parts g g2 g3 xs ys keeps one two =
    two ∙ (ap (λ form. with_lines form g2.shown (texts ys)) keeps.form
    ∙ (ap (λ s. with_lines (giving_form g) s (texts ys)) one
    ∙ (counted_both (giving_form g) g.shown (texts xs) (texts ys) ∙ ap (λ all. with_lines (giving_form g) g.shown all)
    (sym (map-append (λ (line : HistoryLine). line.text) xs ys)))))

pub gave_both : (xs ys : List HistoryLine) (g g2 g3 : Giving) (a b c : Option (List ℕ)) → KeepsForm g g2
    → Gave xs g g2 a b → Gave ys g2 g3 b c → Gave (xs ++ ys) g g3 a c
gave_both xs ys g g2 g3 a b c keeps one two = record {
  text = subst (λ text. Buffers (held_back g.target) text (held_back g3.target) a c)
      (sym (text_parts g g2 xs ys keeps one.shown))
      (buffers_both (held_back g.target) (text_next g xs) (held_back g2.target) (text_next g2 ys) (held_back g3.target)
      a b c one.text two.text);
  shown = shown_parts g g2 g3 xs ys keeps one.shown two.shown;
}

-- ---- from turn to turn, of a told file

pub moved_none : (file : List ℕ) (r : VersionPlace) (lines : List HistoryLine) (g : Giving) (a : Option (List ℕ))
    → Coming file r lines → Moved file r lines g g a a
moved_none file r lines g a p = record { gone = []; rest = lines; whole = refl; gave = gave_none g a; on = p }

pub moved_both : (file : List ℕ) (r r2 : VersionPlace) (lines : List HistoryLine) (g g2 g3 : Giving)
    (a b c : Option (List ℕ)) → KeepsForm g g2 → (m : Moved file r lines g g2 a b) → Moved file r2 m.rest g2 g3 b c
    → Moved file r2 lines g g3 a c
moved_both file r r2 lines g g2 g3 a b c keeps m next = record {
  gone = m.gone ++ next.gone;
  rest = next.rest;
  whole = m.whole ∙ (ap (λ rest. m.gone ++ rest) next.whole ∙ sym (append_assoc m.gone next.gone next.rest));
  gave = gave_both m.gone next.gone g g2 g3 a b c keeps m.gave next.gave;
  on = next.on;
}

pub moved_end : (file : List ℕ) (r : VersionPlace) (lines : List HistoryLine) (g g2 g3 : Giving)
    (a b c : Option (List ℕ)) → KeepsForm g g2 → (m : Moved file r lines g g2 a b) → Gave m.rest g2 g3 b c
    → Gave lines g g3 a c
moved_end file r lines g g2 g3 a b c keeps m next = subst (λ all. Gave all g g3 a c) (sym m.whole)
    (gave_both m.gone m.rest g g2 g3 a b c keeps m.gave next)

pub moved_cut : (file : List ℕ) (r : VersionPlace) (lines : List HistoryLine) (fault : StepFault) (g g2 g3 : Giving)
    (a b c : Option (List ℕ)) → KeepsForm g g2 → (m : Moved file r lines g g2 a b) → CutsLines m.rest fault g2 g3 b c
    → CutsLines lines fault g g3 a c
moved_cut file r lines fault g g2 g3 a b c keeps m cuts =
    subst (λ all. CutsLines all fault g g3 a c) (sym m.whole)
    (subst (λ text. Cuts (file_of g.target) text fault (held_back g.target) (held_back g3.target) a c)
    (sym (text_parts g g2 m.gone m.rest keeps m.gave.shown))
    (cuts_then (file_of g.target) fault (text_next g m.gone) (text_next g2 m.rest) (held_back g.target)
    (held_back g2.target) (held_back g3.target) a b c m.gave.text
    (subst (λ to. Cuts to (text_next g2 m.rest) fault (held_back g2.target) (held_back g3.target) b c) keeps.file
    cuts)))

-- ---- lines that one delta inserted

-- their text, as it is formed
pub text_formed : (g : Giving) (n : ℕ) (lines : List HistoryLine) (all : List (List ℕ))
    → AllByRecursion (λ (line : HistoryLine). line.inserter ≡ n) lines → texts lines ≡ all
    → formed_lines (giving_form g) g.sids (g.shown.lines + 1) n all ≡ text_next g lines
text_formed g n lines all inserted are = ap (λ t. formed_lines (giving_form g) g.sids (g.shown.lines + 1) n t) (sym are)
    ∙ sym (one_delta (giving_form g) g.sids (g.shown.lines + 1) n lines inserted)

pub gave_formed : (g g2 : Giving) (n : ℕ) (lines : List HistoryLine) (all : List (List ℕ)) (a b : Option (List ℕ))
    → AllByRecursion (λ (line : HistoryLine). line.inserter ≡ n) lines → texts lines ≡ all
    → Buffers (held_back g.target) (formed_lines (giving_form g) g.sids (g.shown.lines + 1) n all) (held_back g2.target)
    a b → g2.shown ≡ with_lines (giving_form g) g.shown all → Gave lines g g2 a b
gave_formed g g2 n lines all a b inserted are gives shown = record {
  text = subst (λ text. Buffers (held_back g.target) text (held_back g2.target) a b)
      (text_formed g n lines all inserted are) gives;
  shown = shown ∙ ap (λ t. with_lines (giving_form g) g.shown t) (sym are);
}

pub run_given : (file : List ℕ) (r r2 : VersionPlace) (run : List ℕ) (n : ℕ) (lines : List HistoryLine) (g g2 : Giving)
    (a b : Option (List ℕ)) → IsInserter r.regions n → ComeFirst file r r2 run lines
    → Buffers (held_back g.target) (formed_lines (giving_form g) g.sids (g.shown.lines + 1) n (cut run).lines)
    (held_back g2.target) a b → g2.shown ≡ with_lines (giving_form g) g.shown (cut run).lines
    → Moved file r2 lines g g2 a b
run_given file r r2 run n lines g g2 a b is come gives shown = record {
  gone = come.stand.first;
  rest = come.stand.rest;
  whole = come.stand.whole;
  gave = gave_formed g g2 n come.stand.first (cut run).lines a b (come.stand.inserted n is) come.stand.lines_are gives
      shown;
  on = come.on;
}

pub run_cut : (r : VersionPlace) (run : List ℕ) (n : ℕ) (lines : List HistoryLine) (fault : StepFault) (g g2 : Giving)
    (a b : Option (List ℕ)) → IsInserter r.regions n → StandFirst r run lines
    → Cuts (file_of g.target) (formed_lines (giving_form g) g.sids (g.shown.lines + 1) n (cut run).lines) fault
    (held_back g.target) (held_back g2.target) a b → CutsLines lines fault g g2 a b
run_cut r run n lines fault g g2 a b is stand cuts =
    subst (λ all. CutsLines all fault g g2 a b) (sym stand.whole)
    (subst (λ text. Cuts (file_of g.target) text fault (held_back g.target) (held_back g2.target) a b)
    (sym (put_together (giving_form g) g.sids (g.shown.lines + 1) stand.first stand.rest))
    (cuts_longer (file_of g.target) fault (text_next g stand.first) (formed_text (giving_form g) g.sids
    (g.shown.lines + 1 + length stand.first) stand.rest) (held_back g.target) (held_back g2.target) a b
    (subst (λ text. Cuts (file_of g.target) text fault (held_back g.target) (held_back g2.target) a b)
    (text_formed g n stand.first (cut run).lines (stand.inserted n is) stand.lines_are) cuts)))

-- the fault of a call that was left by `?`
pub run_left : (file : List ℕ) (r : VersionPlace) (lines : List HistoryLine) (fault : StepFault)
    (q : Result (Unit {0}) StepFault) (g g2 : Giving) (a b : Option (List ℕ)) → IsErrAnd q (λ e. e ≡ fault)
    → CutsLines lines fault g g2 a b → GivesRun file r lines q g g2 a b
run_left file r lines fault q g g2 a b left cuts =
    let p = err_from_is_err_and q left in
    subst (λ x. GivesRun file r lines x g g2 a b) (sym (p.1 ∙ ap (λ (e : StepFault). Err e) p.2)) cuts

-- ---- one line

pub next_given : (file : List ℕ) (r : VersionPlace) (text : List ℕ) (n : ℕ) (lines : List HistoryLine) (g g2 : Giving)
    (a b : Option (List ℕ)) → IsInserter r.regions n → ComesNext file r text lines
    → Buffers (held_back g.target) (formed_lines (giving_form g) g.sids (g.shown.lines + 1) n (text ∷ []))
    (held_back g2.target) a b → g2.shown ≡ with_lines (giving_form g) g.shown (text ∷ [])
    → Moved file r lines g g2 a b
next_given file r text n lines g g2 a b is come gives shown = record {
  gone = come.line ∷ [];
  rest = come.rest;
  whole = come.whole;
  gave = gave_formed g g2 n (come.line ∷ []) (text ∷ []) a b (come.inserted n is, tt) (ap (λ t. t ∷ []) come.text_is)
      gives shown;
  on = come.on;
}

pub next_cut : (file : List ℕ) (r : VersionPlace) (text : List ℕ) (n : ℕ) (lines : List HistoryLine) (fault : StepFault)
    (g g2 : Giving) (a b : Option (List ℕ)) → IsInserter r.regions n → ComesNext file r text lines
    → Cuts (file_of g.target) (formed_lines (giving_form g) g.sids (g.shown.lines + 1) n (text ∷ [])) fault
    (held_back g.target) (held_back g2.target) a b → CutsLines lines fault g g2 a b
next_cut file r text n lines fault g g2 a b is come cuts =
    subst (λ all. CutsLines all fault g g2 a b) (sym come.whole)
    (subst (λ t. Cuts (file_of g.target) t fault (held_back g.target) (held_back g2.target) a b)
    (sym (put_together (giving_form g) g.sids (g.shown.lines + 1) (come.line ∷ []) come.rest))
    (cuts_longer (file_of g.target) fault (text_next g (come.line ∷ [])) (formed_text (giving_form g) g.sids
    (g.shown.lines + 1 + 1) come.rest) (held_back g.target) (held_back g2.target) a b
    (subst (λ t. Cuts (file_of g.target) t fault (held_back g.target) (held_back g2.target) a b)
    (text_formed g n (come.line ∷ []) (text ∷ []) (come.inserted n is, tt) (ap (λ t. t ∷ []) come.text_is)) cuts)))

pub none_next : (lines : List HistoryLine) (g : Giving) (a : Option (List ℕ)) → lines ≡ [] → Gave lines g g a a
none_next lines g a none = subst (λ (ls : List HistoryLine). Gave ls g g a a) (sym none) (gave_none g a)

-- over a told body only the disk or memory can end it
pub next_fault : (file : List ℕ) (r : VersionPlace) (lines : List HistoryLine) (fault : FileFault)
    → GivesNextLine file r lines (Err fault) → IsFaultAroundPrint (file_fault fault)
next_fault file r lines faults.Failed given = tt
next_fault file r lines faults.Memory given = tt
next_fault file r lines (faults.BadFormat line) given = absurd given
next_fault file r lines faults.Missing given = absurd given
next_fault file r lines faults.TooLong given = absurd given
next_fault file r lines faults.NotSccs given = absurd given
next_fault file r lines (faults.BadSum stored sum) given = absurd given
next_fault file r lines faults.Encoded given = absurd given
next_fault file r lines (faults.Changed a b c d) given = absurd given

pub fault_cut : (file : List ℕ) (r : VersionPlace) (lines : List HistoryLine) (fault : FileFault) (ended : StepFault)
    (g : Giving) (a : Option (List ℕ)) → ended ≡ file_fault fault → GivesNextLine file r lines (Err fault)
    → CutsLines lines ended g g a a
fault_cut file r lines fault ended g a is given =
    uncut (file_of g.target) ended (text_next g lines) (held_back g.target) a (subst IsFaultAroundPrint (sym is)
    (next_fault file r lines fault given))

-- ---- over any disk

pub some_none : (live : List ℕ) (r : VersionPlace) (before : List Item) (g : Giving) (a : Option (List ℕ))
    → HasRead live r before → ReadSome live r before g g a a
some_none live r before g a h =
    record {
      items = before;
      read = h;
      gone = [];
      whole = sym (append-nil (shown_before r.set before));
      gave =
          gave_none g a;
    }

pub some_read : (live : List ℕ) (r : VersionPlace) (regions : List Region) (before : List Item) (n : ℕ)
    (all : List (List ℕ)) (g g2 : Giving) (a b : Option (List ℕ)) → IsInserter regions n
    → ReadsOn live r regions before all
    → Buffers (held_back g.target) (formed_lines (giving_form g) g.sids (g.shown.lines + 1) n all) (held_back g2.target)
    a b → g2.shown ≡ with_lines (giving_form g) g.shown all → ReadSome live r before g g2 a b
some_read live r regions before n all g g2 a b is on gives shown = record {
  items = on.items;
  read = on.read;
  gone = on.first;
  whole = on.whole;
  gave = gave_formed g g2 n on.first all a b (on.inserted n is) on.texts_are gives shown;
}

no_texts : (lines : List HistoryLine) → texts lines ≡ [] → lines ≡ []
no_texts [] none = refl
no_texts (line ∷ lines) none = absurd cc

pub hidden_read : (live : List ℕ) (r : VersionPlace) (regions : List Region) (before : List Item) (g : Giving)
    (a : Option (List ℕ)) → ReadsOn live r regions before [] → ReadSome live r before g g a a
hidden_read live r regions before g a on = record {
  items = on.items;
  read = on.read;
  gone = on.first;
  whole = on.whole;
  gave = none_next on.first g a (no_texts on.first on.texts_are);
}

pub end_read : (live : List ℕ) (r : VersionPlace) (before : List Item) (g : Giving) (a : Option (List ℕ))
    → ReadsAll live r.set before → ReadWhole live r.set before g g a a
end_read live r before g a all = record {
  items = all.items;
  stood = all.stood;
  over = all.over;
  gone = [];
  whole = all.whole ∙ sym (append-nil (shown_before r.set before));
  gave = gave_none g a;
}

joined : (first front gone more all : List HistoryLine) → first ≡ front ++ gone → all ≡ first ++ more
    → all ≡ front ++ (gone ++ more)
joined first front gone more all is on = on ∙ (ap (λ text. text ++ more) is ∙ append_assoc front gone more)

pub read_both : (live : List ℕ) (r r2 : VersionPlace) (before : List Item) (g g2 g3 : Giving) (a b c : Option (List ℕ))
    → r2.set ≡ r.set → KeepsForm g g2 → (some : ReadSome live r before g g2 a b) → ReadSome live r2 some.items g2 g3 b c
    → ReadSome live r2 before g g3 a c
read_both live r r2 before g g2 g3 a b c same keeps some next = record {
  items = next.items;
  read = next.read;
  gone = some.gone ++ next.gone;
  whole = joined (shown_before r2.set some.items) (shown_before r2.set before) some.gone next.gone
      (shown_before r2.set next.items)
      (subst (λ set. shown_before set some.items ≡ shown_before set before ++ some.gone) (sym same) some.whole)
      next.whole;
  gave = gave_both some.gone next.gone g g2 g3 a b c keeps some.gave next.gave;
}

pub read_end : (live set : List ℕ) (r r2 : VersionPlace) (before : List Item) (g g2 g3 : Giving)
    (a b c : Option (List ℕ)) → r2.set ≡ set → r2.set ≡ r.set → KeepsForm g g2
    → (some : ReadSome live r before g g2 a b) → ReadWhole live r2.set some.items g2 g3 b c
    → ReadWhole live set before g g3 a c
read_end live set r r2 before g g2 g3 a b c is same keeps some whole = record {
  items = whole.items;
  stood = whole.stood;
  over = whole.over;
  gone = some.gone ++ whole.gone;
  whole = subst (λ s. shown_before s whole.items ≡ shown_before s before ++ (some.gone ++ whole.gone)) is
      (joined (shown_before r2.set some.items) (shown_before r2.set before) some.gone whole.gone
      (shown_before r2.set whole.items)
      (subst (λ s. shown_before s some.items ≡ shown_before s before ++ some.gone) (sym same) some.whole) whole.whole);
  gave = gave_both some.gone whole.gone g g2 g3 a b c keeps some.gave whole.gave;
}
