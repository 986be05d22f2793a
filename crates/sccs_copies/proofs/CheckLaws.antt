-- Lines of a result that go by.
use Rattle.std.proofs.Common.{◌≡◌, ℕ, suc, ◌+◌, ◌<◌, ◌≤◌, Bool, true, false, cond, not, ◌||◌, List, [], ◌∷◌, ◌++◌, take}
use Rattle.std.proofs.Common.{get_or, length, Option, None, Some, Result, Ok, Err, OnOk, refl, sym, ap, subst, ◌∙◌}
use Rattle.std.proofs.Common.{arith, append_assoc}
use Rattle.std.proofs.lemmas.List.Folds.{list_any-append}
use Rattle.std.specs.List.{list_any}
use Rattle.std.specs.Str.{bytes_eq}
use Rattle.sccs_grammar.specs.declared.faults.FileFault.{FileFault}
use Rattle.std.proofs.lemmas.Grind.{take_at_read}
use Rattle.sccs_history.specs.Numbers.{front_if, has}
use Rattle.sccs_script_laws.specs.Plans.{added_after}
use Rattle.sccs_script_laws.specs.declared.scripts.Plan.{Plan}
use Rattle.sccs_copies.specs.Copies.{IsOuterResult}
use Rattle.sccs_copies.specs.Examining.{ComparesOn, GComes, GivesGLine, LinesLeft, SeesLines, SeesAll, difference}
use Rattle.sccs_copies.specs.Examining.{first_difference, has_keyword, line_result}
use Rattle.sccs_copies.specs.declared.result_checks.ResultCheck.{ResultCheck}
use Rattle.sccs_base.proofs.Bools.{or_assoc}

-- ---- one line beside one of the g-file

left_as : (file : List ℕ) (s s2 : ResultCheck) (rest : List (List ℕ)) (over : Bool) → s2.lines ≡ s.lines
    → LinesLeft file s rest over → LinesLeft file s2 rest over
left_as file s s2 rest true same left = left
left_as file s s2 rest false same left = subst (λ r. LinesLeft file (record s { lines = r }) rest false) (sym same) left

left_same : (file : List ℕ) (s s2 : ResultCheck) (rest : List (List ℕ)) → s2.lines ≡ s.lines → s2.over ≡ s.over
    → LinesLeft file s rest s.over → LinesLeft file s2 rest s2.over
left_same file s s2 rest same over left = subst (λ t. LinesLeft file s2 rest t) (sym over)
    (left_as file s s2 rest s.over same left)

-- what a note says of the next line
pub record Notes (s s2 : ResultCheck) (line other : List ℕ) (there : Bool) : Type 0 where
  pub lines : s2.lines ≡ s.lines
  pub over : s2.over ≡ s.over
  pub more : s.number ≤ 1073741825 → there ≡ true → bytes_eq line other ≡ true → (s2.number ≡ suc s.number)
      × (s2.differs ≡ None)
  pub other_one : s.number ≤ 1073741825 → there ≡ true → bytes_eq line other ≡ false → (s2.number ≡ s.number)
      × (s2.differs ≡ Some (suc s.number))
  pub none : s.number ≤ 1073741825 → there ≡ false → (s2.number ≡ s.number) × (s2.differs ≡ Some (suc s.number))

compared : (file line other : List ℕ) (s s1 s2 : ResultCheck) (rest : List (List ℕ)) (there equal : Bool)
    → bytes_eq line other ≡ equal → s.differs ≡ None → s1.number ≡ s.number → GivesGLine file s1 rest other there
    → Notes s1 s2 line other there → s.number + length rest ≤ 1073741825
    → ComparesOn file (line ∷ []) s s2 rest
compared file line other s s1 s2 rest true true equal none number given notes few =
    let longer : length rest ≡ suc (length given.more) = ap length given.whole in
    let noted = notes.more (omega (arith, number, few)) refl equal in
    record {
      left = given.more;
      comes = record {
        left = left_same file s1 s2 given.more notes.lines notes.over given.left;
        few =
            omega (arith, noted.0, number, few, longer);
      };
      same = λ more.
          ap (λ o. difference o s2.number more given.more) noted.1
          ∙ (ap (λ n. first_difference n more given.more) (noted.0 ∙ ap suc number)
          ∙ (ap (λ t. cond t (first_difference (suc s.number) more given.more) (Some (suc s.number))) (sym equal)
          ∙ (ap (λ (r : List (List ℕ)). first_difference s.number (line ∷ more) r) (sym given.whole)
          ∙ ap (λ o. difference o s.number (line ∷ more) rest) (sym none))));
    }
compared file line other s s1 s2 rest true false equal none number given notes few =
    let longer : length rest ≡ suc (length given.more) = ap length given.whole in
    let noted = notes.other_one (omega (arith, number, few)) refl equal in
    record {
      left = given.more;
      comes = record {
        left = left_same file s1 s2 given.more notes.lines notes.over given.left;
        few =
            omega (arith, noted.0, number, few, longer);
      };
      same = λ more.
          ap (λ o. difference o s2.number more given.more) noted.1
          ∙ (ap (λ n. Some (suc n)) number
          ∙ (ap (λ t. cond t (first_difference (suc s.number) more given.more) (Some (suc s.number))) (sym equal)
          ∙ (ap (λ (r : List (List ℕ)). first_difference s.number (line ∷ more) r) (sym given.whole)
          ∙ ap (λ o. difference o s.number (line ∷ more) rest) (sym none))));
    }
compared file line other s s1 s2 rest false equal is none number given notes few =
    let noted = notes.none (omega (arith, number, few)) refl in
    record {
      left = [];
      comes = record {
        left = subst (λ t. LinesLeft file s2 [] t) (sym (notes.over ∙ given.1)) refl;
        few =
            omega (arith, noted.0, number, few);
      };
      same = λ more.
          ap (λ o. difference o s2.number more []) noted.1
          ∙ (ap (λ n. Some (suc n)) number
          ∙ (ap (λ (r : List (List ℕ)). first_difference s.number (line ∷ more) r) (sym given.0)
          ∙ ap (λ o. difference o s.number (line ∷ more) rest) (sym none)));
    }

pub compared_next : (file line other : List ℕ) (s s1 s2 : ResultCheck) (rest : List (List ℕ)) (there : Bool)
    → s.differs ≡ None → s1.number ≡ s.number → GivesGLine file s1 rest other there → Notes s1 s2 line other there
    → GComes file s rest → ComparesOn file (line ∷ []) s s2 rest
compared_next file line other s s1 s2 rest there none number given notes comes =
    compared file line other s s1 s2 rest there (bytes_eq line other) refl none number given notes comes.few

-- behind the last line of a text
pub more_left : (file other : List ℕ) (s s1 : ResultCheck) (rest : List (List ℕ)) (there : Bool) (n : ℕ)
    → s.differs ≡ None → GivesGLine file s1 rest other there → there ≡ true → n ≡ suc s.number
    → Some n ≡ difference s.differs s.number [] rest
more_left file other s s1 rest true n none given is number =
    ap Some number ∙ (ap (λ (r : List (List ℕ)). first_difference s.number [] r) (sym given.whole)
    ∙ ap (λ o. difference o s.number [] rest) (sym none))
more_left file other s s1 rest false n none given is number = absurd cc

pub none_left : (file other : List ℕ) (s s1 : ResultCheck) (rest : List (List ℕ)) (there : Bool) → s.differs ≡ None
    → GivesGLine file s1 rest other there → there ≡ false → None ≡ difference s.differs s.number [] rest
none_left file other s s1 rest true none given is = absurd cc
none_left file other s s1 rest false none given is = ap (λ (r : List (List ℕ)). first_difference s.number [] r)
    (sym given.0) ∙ ap (λ o. difference o s.number [] rest) (sym none)

-- ---- lines one after the other

or_none : (a : Bool) → a ≡ (a || false)
or_none true = refl
or_none false = refl

pub sees_none : (told : Option (List ℕ)) (s : ResultCheck) → SeesLines told [] s s
sees_none told s = record {
  keyword = or_none s.keyword;
  compares = refl;
  name = refl;
  compared = λ file rest is compares comes. record { left = rest; comes = comes; same = λ more. refl };
}

pub sees_both : (told : Option (List ℕ)) (xs ys : List (List ℕ)) (s s1 s2 : ResultCheck) → SeesLines told xs s s1
    → SeesLines told ys s1 s2 → SeesLines told (xs ++ ys) s s2
sees_both told xs ys s s1 s2 first second = record {
  keyword =
      second.keyword
      ∙ (ap (λ t. t || list_any has_keyword ys) first.keyword
      ∙ (sym (or_assoc s.keyword (list_any has_keyword xs) (list_any has_keyword ys)) ∙ ap (λ t. s.keyword || t)
      (sym (list_any-append has_keyword xs ys))));
  compares = second.compares ∙ first.compares;
  name = second.name ∙ first.name;
  compared = λ file rest is compares comes.
      let a = first.compared file rest is compares comes in
      let b = second.compared file a.left is (first.compares ∙ compares) a.comes in
      record {
        left = b.left;
        comes = b.comes;
        same = λ more. b.same more ∙ (a.same (ys ++ more) ∙ ap (λ l. difference s.differs s.number l rest)
            (sym (append_assoc xs ys more)));
      };
}

pub sees_then : (told told2 : Option (List ℕ)) (xs ys : List (List ℕ)) (s s1 s2 : ResultCheck)
    (r : Result (Unit {0}) FileFault) → told2 ≡ told → SeesLines told xs s s1 → SeesAll told2 ys s1 s2 r
    → SeesAll told (xs ++ ys) s s2 r
sees_then told told2 xs ys s s1 s2 (Ok done) same first second = sees_both told xs ys s s1 s2 first
    (subst (λ t. SeesLines t ys s1 s2) same second)
sees_then told told2 xs ys s s1 s2 (Err fault) same first second = second

-- one line, where it is compared
pub line_seen : (told : Option (List ℕ)) (line : List ℕ) (s s1 s2 : ResultCheck) (r : Result (Unit {0}) FileFault)
    (t : Bool) → t ≡ (s.keyword || has_keyword line) → s1 ≡ record s { keyword = t } → s2.keyword ≡ s1.keyword
    → s2.compares ≡ s1.compares → s2.lines.name ≡ s1.lines.name
    → IsOuterResult r → ((file : List ℕ) (rest : List (List ℕ)) → told ≡ Some file → GComes file s1 rest
    → OnOk r (ComparesOn file (line ∷ []) s1 s2 rest)) → SeesAll told (line ∷ []) s s2 r
line_seen told line s s1 s2 (Err fault) t is so keyword compares name outer on = outer
line_seen told line s s1 s2 (Ok done) t is so keyword compares name outer on = record {
  keyword = keyword ∙ (ap (λ (c : ResultCheck). c.keyword) so ∙ (is ∙ one_word s.keyword (has_keyword line)));
  compares = compares ∙ ap (λ (c : ResultCheck). c.compares) so;
  name = name ∙ ap (λ (c : ResultCheck). c.lines.name) so;
  compared = λ file rest given compares comes.
      let there : GComes file s1 rest = subst (λ c. GComes file c rest) (sym so)
      (record { left = comes.left; few = comes.few }) in
      let one = on file rest given there in
      record {
        left = one.left;
        comes = one.comes;
        same = λ more. one.same more ∙ ap (λ (c : ResultCheck). difference c.differs c.number (line ∷ more) rest) so;
      };
}
  where
    one_word : (a b : Bool) → (a || b) ≡ (a || (b || false))
    one_word true b = refl
    one_word false true = refl
    one_word false false = refl

-- a line before others, where it is kept
pub front_then : (kept : Bool) (line : List ℕ) (lines : List (List ℕ)) → front_if kept line [] ++ lines
    ≡ front_if kept line lines
front_then true line lines = refl
front_then false line lines = refl

-- one line more of several
pub line_more : (told : Option (List ℕ)) (lines : List (List ℕ)) (i : ℕ) (x y : List ℕ) (s s1 s2 : ResultCheck)
    → i < length lines → y ≡ x → x ≡ get_or lines i x → SeesLines told (take i lines) s s1
    → SeesLines told (y ∷ []) s1 s2 → SeesLines told (take (i + 1) lines) s s2
line_more told lines i x y s s1 s2 low is so first second =
    subst (λ l. SeesLines told l s s2) (ap (λ z. take i lines ++ z ∷ []) (is ∙ so) ∙ sym (take_at_read lines i x low).1)
    (sees_both told (take i lines) (y ∷ []) s s1 s2 first second)

-- a line of the base with what follows it
pub base_line_is : (p : Plan) (k : ℕ) (kept : Bool) (line text : List ℕ) (new : List (List ℕ))
    → kept ≡ not (has p.deleted (suc k)) → line ≡ text → new ≡ added_after (suc k) p.added → front_if kept line []
    ++ new ≡ line_result p (suc k) text
base_line_is p k kept line text new is same added =
    ap (λ l. front_if kept line [] ++ l) added
    ∙ (front_then kept line (added_after (suc k) p.added)
    ∙ (ap (λ t. front_if t line (added_after (suc k) p.added)) is ∙ ap (λ t. front_if (not (has p.deleted (suc k))) t
    (added_after (suc k) p.added)) same))
