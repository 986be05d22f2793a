-- The pass over a table: what the marks and the set hold in between.
use Rattle.std.proofs.Common.{◌≡◌, ℕ, ◌+◌, ◌==◌, ◌<◌, ◌≤◌, Bool, true, false, cond, not, ◌&&◌, ◌||◌, List, [], ◌∷◌}
use Rattle.std.proofs.Common.{◌++◌, Option, None, Some, unwrap_or, length, slice_index_or, set, get_or, drop, refl, sym}
use Rattle.std.proofs.Common.{subst, ap, ◌∙◌, ⊎_elim, arith, eq-eqb, get_or-set_same, get_or-set_other}
use Rattle.std.proofs.lemmas.Bool.{ne_eqb, cases_eq, cases_lt, false≢true, false_from_ne_true}
use Rattle.std.proofs.lemmas.List.{get_or_past, drop_more, length-set}
use Rattle.std.proofs.Math.Bool.{or-false, or-true}
use Rattle.sccs_history.specs.Numbers.{front_if, has, Falls}
use Rattle.sccs_history.specs.Applied.{Asked, path, is_barred, listed, named, says, applied_below, applied, serials_of}
use Rattle.sccs_history.specs.declared.headers.Record.{Record}
use Rattle.sccs_history.proofs.AppliedSets.{applied_falls, has_head, has_other}
use Rattle.sccs_history.proofs.Falling.{falling-alike, falling-has, has-falling, falling_has}
use Rattle.sccs_history.proofs.Paths.{path_falls}
use Rattle.sccs_sets.specs.Marks.{marked_places, or_else, said_by}

or_else_cond : (t h value : Bool) → or_else (cond (t || false) (Some value) None) (cond h (Some value) None) ≡ cond
    (t || h) (Some value) None
or_else_cond true h value = refl
or_else_cond false h value = refl

-- a list's first number is noted before the rest
pub said_more : (o : Option Bool) (x : ℕ) (rest : List ℕ) (value : Bool) (n : ℕ)
    → or_else (or_else o (said_by (x ∷ []) value n)) (said_by rest value n) ≡ or_else o (said_by (x ∷ rest) value n)
said_more None x rest value n = or_else_cond (x == n) (has rest n) value
said_more (Some said) x rest value n = refl

listed_cond : (i x : Bool) → or_else (cond i (Some true) None) (cond x (Some false) None) ≡ cond i (Some true)
    (cond x (Some false) None)
listed_cond true x = refl
listed_cond false x = refl

-- what both lists say
pub listed_said : (o : Option Bool) (include exclude : List ℕ) (n : ℕ) → or_else (or_else o (said_by include true n))
    (said_by exclude false n) ≡ or_else o (listed include exclude n None)
listed_said None include exclude n = listed_cond (has include n) (has exclude n)
listed_said (Some said) include exclude n = refl

else_cond : (i x : Bool) (o p : Option Bool) → cond i (Some true) (cond x (Some false) (or_else o p)) ≡ or_else
    (cond i (Some true) (cond x (Some false) o)) p
else_cond true x o p = refl
else_cond false true o p = refl
else_cond false false o p = refl

named_more : (above : List Record) (r : Record) (n : ℕ) → named (above ++ r ∷ []) n ≡ or_else (named above n)
    (listed r.include r.exclude n None)
named_more [] r n = refl
named_more (a ∷ above) r n =
    ap (λ o. listed a.include a.exclude n o) (named_more above r n) ∙ else_cond (has a.include n) (has a.exclude n)
    (named above n) (listed r.include r.exclude n None)

-- Where the pass is: the records above, of which some are applied; the marks; the path; and the set so far.
pub record IsAt (asked : Asked) (all rest : List Record) (wanted : ℕ) (marks : List (Option Bool))
    (places : List Bool) : Type 0 where
  pub above : List Record
  pub bound : ℕ
  pub falls : Falls bound (serials_of rest)
  pub sized : length marks ≡ length places
  pub high : bound ≤ length places
  pub noted : (n : ℕ) → n < length places → slice_index_or marks n None ≡ listed asked.include asked.exclude n
      (named above n)
  pub way : (m : ℕ) → m < bound → has (path asked.target all) m ≡ has (path wanted rest) m
  pub so_far : (m : ℕ) → has (applied asked all) m ≡ (slice_index_or places m false || has
      (applied_below asked (path asked.target all) above rest) m)

pub at_start : (asked : Asked) (all : List Record) (marks : List (Option Bool)) (places : List Bool)
    → length marks ≡ length places → Falls (length places) (serials_of all) → ((n : ℕ) → n < length places
    → slice_index_or marks n None ≡ listed asked.include asked.exclude n None)
    → ((n : ℕ) → slice_index_or places n false ≡ false)
    → IsAt asked all all asked.target marks places
at_start asked all marks places sized falls noted unset =
    record {
      above = [];
      bound = length places;
      falls = falls;
      sized = sized;
      high = omega arith;
      noted = noted;
      way = λ m lt. refl;
      so_far = λ m. sym (ap (λ b. b || has (applied asked all) m) (unset m));
    }

-- what the marks and the wanted serial say is what the rules say
pub says_at : (asked : Asked) (all rs : List Record) (r : Record) (wanted : ℕ) (marks : List (Option Bool))
    (places : List Bool) (at : IsAt asked all (r ∷ rs) wanted marks places)
    → (not (is_barred asked.cutoff r) && unwrap_or (slice_index_or marks r.serial None) (r.serial == wanted))
    ≡ says asked (path asked.target all) at.above r
says_at asked all rs r wanted marks places at =
    let next : ℕ = cond (r.serial == wanted) r.predecessor wanted in
    let here : has (path asked.target all) r.serial ≡ (r.serial == wanted) = at.way r.serial at.falls.0
    ∙ has_head (r.serial == wanted) r.serial (path next rs) (path_falls next rs r.serial at.falls.1) in
    ap (λ o. not (is_barred asked.cutoff r) && unwrap_or o (r.serial == wanted))
    (at.noted r.serial (omega (arith, at.falls.0, at.high)))
    ∙ ap (λ b. not (is_barred asked.cutoff r) && unwrap_or (listed asked.include asked.exclude r.serial
    (named at.above r.serial)) b) (sym here)

way_more : (asked : Asked) (all rs : List Record) (r : Record) (wanted : ℕ) (marks : List (Option Bool))
    (places : List Bool) (at : IsAt asked all (r ∷ rs) wanted marks places)
    → (m : ℕ) → m < r.serial → has (path asked.target all) m ≡ has
    (path (cond (r.serial == wanted) r.predecessor wanted) rs) m
way_more asked all rs r wanted marks places at m lt =
    at.way m (omega (arith, at.falls.0)) ∙ has_other (r.serial == wanted) r.serial m
    (path (cond (r.serial == wanted) r.predecessor wanted) rs) lt

-- a record that isn't applied is passed over
pub passed_over : (asked : Asked) (all rs : List Record) (r : Record) (wanted : ℕ) (marks : List (Option Bool))
    (places : List Bool) (at : IsAt asked all (r ∷ rs) wanted marks places)
    → (not (is_barred asked.cutoff r) && unwrap_or (slice_index_or marks r.serial None) (r.serial == wanted)) ≡ false
    → IsAt asked all rs (cond (r.serial == wanted) r.predecessor wanted) marks places
passed_over asked all rs r wanted marks places at isnt =
    let way : List ℕ = path asked.target all in
    let said : says asked way at.above r ≡ false = sym (says_at asked all rs r wanted marks places at) ∙ isnt in
    record {
      above = at.above;
      bound = r.serial;
      falls = at.falls.1;
      sized = at.sized;
      high = omega (arith, at.falls.0, at.high);
      noted = at.noted;
      way = way_more asked all rs r wanted marks places at;
      so_far = λ m. at.so_far m
          ∙ ap (λ t. slice_index_or places m false || has
          (front_if t r.serial (applied_below asked way (cond t (at.above ++ r ∷ []) at.above) rs)) m) said;
    }

-- a place that is set
pub place_set : (places : List Bool) (n m : ℕ) (h : Bool) → n < length places
    → (slice_index_or places m false || ((n == m) || h)) ≡ (slice_index_or (set places n true) m false || h)
place_set places n m h low =
    ⊎_elim (λ same. ap (λ t. slice_index_or places m false || (t || h)) (eq-eqb n m same)
    ∙ (or-true (slice_index_or places m false)
    ∙ sym (ap (λ b. b || h) (ap (λ k. get_or (set places n true) k false) (sym same)
    ∙ get_or-set_same places n true false low))))
    (λ other. ap (λ t. slice_index_or places m false || (t || h)) (ne_eqb n m other)
    ∙ sym (ap (λ b. b || h) (get_or-set_other places n m true false (λ e. other (sym e)))))
    (cases_eq n m)

-- a record that is applied sets its place, and its lists are noted
pub taken : (asked : Asked) (all rs : List Record) (r : Record) (wanted : ℕ) (marks marks2 : List (Option Bool))
    (places places2 : List Bool) (at : IsAt asked all (r ∷ rs) wanted marks places)
    → (not (is_barred asked.cutoff r) && unwrap_or (slice_index_or marks r.serial None) (r.serial == wanted)) ≡ true
    → length marks2 ≡ length marks
    → ((n : ℕ) → n < length marks → slice_index_or marks2 n None ≡ or_else (slice_index_or marks n None)
    (listed r.include r.exclude n None)) → places2 ≡ set places r.serial true
    → IsAt asked all rs (cond (r.serial == wanted) r.predecessor wanted) marks2 places2
taken asked all rs r wanted marks marks2 places places2 at is kept noted put =
    let way : List ℕ = path asked.target all in
    let said : says asked way at.above r ≡ true = sym (says_at asked all rs r wanted marks places at) ∙ is in
    let low : r.serial < length places = omega (arith, at.falls.0, at.high) in
    let same : length places2 ≡ length places = ap length put ∙ length-set places r.serial true in
    record {
      above = at.above ++ r ∷ [];
      bound = r.serial;
      falls = at.falls.1;
      sized = kept ∙ (at.sized ∙ sym same);
      high = omega (arith, at.falls.0, at.high, same);
      noted = λ n lt. noted n (omega (arith, lt, same, at.sized))
          ∙ (ap (λ o. or_else o (listed r.include r.exclude n None)) (at.noted n (omega (arith, lt, same)))
          ∙ (sym (else_cond (has asked.include n) (has asked.exclude n) (named at.above n)
          (listed r.include r.exclude n None)) ∙ ap (λ o. listed asked.include asked.exclude n o)
          (sym (named_more at.above r n))));
      way = way_more asked all rs r wanted marks places at;
      so_far = λ m. at.so_far m
          ∙ (ap (λ t. slice_index_or places m false || has
          (front_if t r.serial (applied_below asked way (cond t (at.above ++ r ∷ []) at.above) rs)) m) said
          ∙ (place_set places r.serial m (has (applied_below asked way (at.above ++ r ∷ []) rs) m) low
          ∙ ap (λ l. slice_index_or l m false || has (applied_below asked way (at.above ++ r ∷ []) rs) m)
          (sym put)));
    }

-- where nothing is left the places are the applied set
pub at_end : (asked : Asked) (all : List Record) (wanted : ℕ) (marks : List (Option Bool)) (places : List Bool)
    → Falls (length places) (serials_of all) → IsAt asked all [] wanted marks places
    → marked_places places ≡ applied asked all
at_end asked all wanted marks places falls at =
    falling-alike (length places) (λ n. slice_index_or places n false) (has (applied asked all))
    (λ m lt. sym (at.so_far m ∙ or-false (slice_index_or places m false)))
    ∙ falling-has (length places) (applied asked all) (applied_falls asked (path asked.target all) [] all
    (length places) falls)

-- behind the end of a list nothing more is noted
pub else_none : (o : Option Bool) (value : Bool) (n : ℕ) → or_else o (said_by [] value n) ≡ o
else_none None value n = refl
else_none (Some said) value n = refl

marked_cases : (places : List Bool) (n : ℕ) (t : Bool) → slice_index_or places n false ≡ t
    → t ≡ has (marked_places places) n
marked_cases places n true is =
    sym (has-falling (length places) (λ m. slice_index_or places m false) n
    (⊎_elim (λ lt. lt) (λ le. absurd (false≢true (sym (get_or_past places n false le) ∙ is)))
    (cases_lt n (length places))) is)
marked_cases places n false is =
    sym (false_from_ne_true (has (marked_places places) n) (λ there. false≢true (sym is
    ∙ (falling_has (length places) (λ m. slice_index_or places m false) n there).1)))

-- a place is among the marked ones exactly where it is set
pub has-marked : (places : List Bool) (n : ℕ) → slice_index_or places n false ≡ has (marked_places places) n
has-marked places n = marked_cases places n (slice_index_or places n false) refl

-- What one turn did with the marks and the places: the record was taken, or nothing changed.
abbrev pub TurnsTo : Record → Bool → List (Option Bool) → List (Option Bool) → List Bool → List Bool → Type 0
TurnsTo r true marks marks2 places places2 =
    ((n : ℕ) → n < length marks → slice_index_or marks2 n None ≡ or_else (slice_index_or marks n None)
    (listed r.include r.exclude n None))
    × ((length marks2 ≡ length marks) × (places2 ≡ set places r.serial true))
TurnsTo r false marks marks2 places places2 = (marks2 ≡ marks) × (places2 ≡ places)

pub turned : (asked : Asked) (all rs : List Record) (r : Record) (wanted wanted2 : ℕ)
    (marks marks2 : List (Option Bool)) (places places2 : List Bool) (t : Bool)
    → IsAt asked all (r ∷ rs) wanted marks places
    → t ≡ (not (is_barred asked.cutoff r) && unwrap_or (slice_index_or marks r.serial None) (r.serial == wanted))
    → wanted2 ≡ cond (r.serial == wanted) r.predecessor wanted → TurnsTo r t marks marks2 places places2
    → IsAt asked all rs wanted2 marks2 places2
turned asked all rs r wanted wanted2 marks marks2 places places2 true at is next turn =
    subst (λ w. IsAt asked all rs w marks2 places2) (sym next) (taken asked all rs r wanted marks marks2 places places2
    at (sym is) turn.1.0 turn.0 turn.1.1)
turned asked all rs r wanted wanted2 marks marks2 places places2 false at is next turn =
    subst (λ w. IsAt asked all rs w marks2 places2) (sym next)
    (subst (λ m. IsAt asked all rs (cond (r.serial == wanted) r.predecessor wanted) m places2) (sym turn.0)
    (subst (λ p. IsAt asked all rs (cond (r.serial == wanted) r.predecessor wanted) marks p) (sym turn.1)
    (passed_over asked all rs r wanted marks places at (sym is))))

-- the record at a place, and the rest
pub drop-record : (records : List Record) (i : ℕ) (r : Record) → i < length records → r ≡ get_or records i r
    → drop i records ≡ r ∷ drop (i + 1) records
drop-record records i r low is = drop_more records i r low ∙ ap (λ x. x ∷ drop (i + 1) records) (sym is)
