-- What is judged of a reading of the base, and what of the base itself.
use Rattle.std.proofs.Common.{◌≡◌, ℕ, ◌+◌, ◌-◌, ◌≤◌, Bool, true, false, not, ◌||◌, List, [], ◌∷◌, length, Option, None}
use Rattle.std.proofs.Common.{Some, Result, Ok, Err, refl, sym, ap, subst, ◌∙◌, arith}
use Rattle.std.specs.List.{AllByRecursion, list_any}
use Rattle.std.proofs.lemmas.Bool.{leb-true}
use Rattle.std.specs.Prelude.{IfSome, drop, is_some, min, option_map}
use Rattle.sccs_base.specs.Cut.{text_of}
use Rattle.sccs_grammar.specs.FileRefusals.{file_fault}
use Rattle.sccs_grammar.specs.declared.faults.FileFault.{FileFault}
use Rattle.sccs_grammar.specs.declared.faults.FileFault.TheVariants as files
use Rattle.sccs_disk.specs.Files.{Content, View}
use Rattle.sccs_history.specs.Body.{lines_of}
use Rattle.sccs_history.specs.FlagText.{flag_i}
use Rattle.sccs_history.specs.Select.{select}
use Rattle.sccs_history.specs.declared.headers.Item.{Item}
use Rattle.sccs_table.specs.ReaderState.{bytes_in}
use Rattle.sccs_table.specs.declared.fronts.Front.{Front}
use Rattle.sccs_versions.specs.Coming.{IsBody, shown}
use Rattle.sccs_copies.proofs.BaseLaws.{body_few, body_short, shown_texts, texts_long}
use Rattle.sccs_sid.specs.Reading.{◌>>=◌}
use Rattle.sccs_sid.specs.declared.refusals.Refusal.{Refusal}
use Rattle.sccs_sid.specs.declared.refusals.Refusal.TheVariants as refusals
use Rattle.sccs_sid.specs.declared.refusals.StepFault.{StepFault}
use Rattle.sccs_sid.specs.declared.refusals.StepFault.TheVariants.{Refused, Memory, ReadFault, WriteFault, DiskFault}
use Rattle.sccs_history.specs.declared.headers.Flag.{Flag}
use Rattle.sccs_flags.specs.FlagValues.{has_flag}
use Rattle.sccs_script_laws.specs.Plans.{plan}
use Rattle.sccs_script_laws.specs.Scripts.{apply}
use Rattle.sccs_script_laws.specs.declared.scripts.Order.{Order}
use Rattle.sccs_script_laws.specs.declared.scripts.Plan.{Plan}
use Rattle.sccs_script.specs.Checks.{bare_soh, both_ok, checked_script, ranged}
use Rattle.sccs_script.specs.Commands.{FitsIn}
use Rattle.sccs_script.specs.declared.faults.ScriptFault.{ScriptFault}
use Rattle.sccs_script.specs.declared.faults.ScriptFault.TheVariants as faults
use Rattle.sccs_steps.specs.StepEffects.{check}
use Rattle.sccs_changes.specs.PFiles.{PassesCheck, is_short}
use Rattle.sccs_delta.specs.DeltaStep.{compared, fitted, or_differs, or_script_fault}
use Rattle.sccs_copies.specs.Examining.{Examines, FindsResult, first_difference, has_keyword, result_of}
use Rattle.sccs_delta.specs.Preparing.{FindsBase, FitsScript, ReadsBase, judged_script}
use Rattle.sccs_delta.specs.Versions.{IsOrdered}
use Rattle.sccs_copies.specs.declared.examining.Found.{Found}
use Rattle.sccs_delta.proofs.LongerBases.{fits_longer, plan_longer}
use Rattle.sccs_delta.proofs.PlanResults.{plan_applied}

-- ---- what is judged

abbrev judged_by : List Flag → Result (Unit {0}) ScriptFault → Bool → Result Bool Refusal → Result Bool Refusal
judged_by flags r keyword last = or_script_fault r >>= λ x. check (not (has_flag flags flag_i) || keyword)
    refusals.NoKeywords >>= λ y. last

judged_is : (flags : List Flag) (orders : List Order) (found : Found) → judged_script flags orders found
    ≡ judged_by flags (checked_script orders found.lines) found.keyword (or_differs found.differs)
unfolding judged_script
judged_is flags orders found = refl

fitted_is : (flags : List Flag) (orders : List Order) (base : List (List ℕ)) (g : Option Content)
    → fitted flags orders base g ≡ judged_by flags (checked_script orders (length base))
    (list_any has_keyword (apply orders base)) (compared g (apply orders base))
unfolding fitted
fitted_is flags orders base g = refl

same_judged : (flags : List Flag) (r : Result (Unit {0}) ScriptFault) (a b : Bool) (x y : Result Bool Refusal)
    → (r ≡ Ok tt → a ≡ b) → (r ≡ Ok tt → x ≡ y) → judged_by flags r a x ≡ judged_by flags r b y
same_judged flags (Ok tt) a b x y keyword last = ap (λ k. judged_by flags (Ok tt) k x) (keyword refl)
    ∙ ap (judged_by flags (Ok tt) b) (last refl)
same_judged flags (Err (faults.BadScript line)) a b x y keyword last = refl
same_judged flags (Err (faults.ScriptRange line lines)) a b x y keyword last = refl
same_judged flags (Err (faults.BadText line)) a b x y keyword last = refl
same_judged flags (Err faults.Memory) a b x y keyword last = refl

judged_fits : (flags : List Flag) (orders : List Order) (base : List (List ℕ)) (g : Option Content) (found : Found)
    → is_short g ≡ true → FindsBase orders base g found → judged_script flags orders found ≡ fitted flags orders base g
judged_fits flags orders base g found short finds =
    judged_is flags orders found
    ∙ (ap (λ n. judged_by flags (checked_script orders n) found.keyword (or_differs found.differs)) finds.lines
    ∙ (same_judged flags (checked_script orders (length base)) found.keyword (list_any has_keyword (apply orders base))
    (or_differs found.differs) (compared g (apply orders base)) finds.keyword (λ fits. finds.differs fits short)
    ∙ sym (fitted_is flags orders base g)))

pub fit_judged : (flags : List Flag) (orders : List Order) (base : List (List ℕ)) (g : Option Content) (found : Found)
    → is_short g ≡ true → FindsBase orders base g found → checked_script orders found.lines ≡ Ok tt
    → PassesCheck (judged_script flags orders found) (Ok tt) → FitsScript flags orders base g (Ok found)
fit_judged flags orders base g found short finds fits passes = (
  sym (judged_fits flags orders base g found short finds)
      ∙ passes,
  record {
    lines = finds.lines;
    keyword = finds.keyword (ap (checked_script orders) (sym finds.lines)
        ∙ fits);
  },
)

pub unfit_judged : (flags : List Flag) (orders : List Order) (base : List (List ℕ)) (g : Option Content) (found : Found)
    (fault : StepFault) → is_short g ≡ true → FindsBase orders base g found
    → PassesCheck (judged_script flags orders found) (Err fault) → FitsScript flags orders base g (Err fault)
unfit_judged flags orders base g found (Refused refusal) short finds passes =
    sym (judged_fits flags orders base g found short finds) ∙ passes
unfit_judged flags orders base g found Memory short finds passes = tt
unfit_judged flags orders base g found ReadFault short finds passes = passes
unfit_judged flags orders base g found WriteFault short finds passes = passes
unfit_judged flags orders base g found DiskFault short finds passes = tt

pub unread_fits : (flags : List Flag) (orders : List Order) (base : List (List ℕ)) (g : Option Content)
    (fault : StepFault) → ReadsBase orders base g (Err fault) → FitsScript flags orders base g (Err fault)
unread_fits flags orders base g (Refused refusal) reads = absurd reads
unread_fits flags orders base g Memory reads = tt
unread_fits flags orders base g ReadFault reads = reads
unread_fits flags orders base g WriteFault reads = reads
unread_fits flags orders base g DiskFault reads = tt

-- ---- a plan for a longer base

ordered_of : (n : ℕ) (orders : List Order) → AllByRecursion (FitsIn n) orders → AllByRecursion IsOrdered orders
ordered_of n [] are = tt
ordered_of n (order ∷ orders) are = (are.0.numbers, ordered_of n orders are.1)

ranged_ok : (orders : List Order) (r s : Result (Unit {0}) ScriptFault) → both_ok r s ≡ Ok tt → (r ≡ Ok tt)
    × (s ≡ Ok tt)
ranged_ok orders (Ok tt) s is = (refl, is)
ranged_ok orders (Err fault) s is = absurd cc

pub longest_plan_is : (orders : List Order) (count limit : ℕ) (p : Plan) → AllByRecursion (FitsIn 18446744073709551616)
    orders → count ≤ limit → checked_script orders count ≡ Ok tt → (checked_script orders limit ≡ Ok tt
    → p ≡ plan orders limit) → p ≡ plan orders count
longest_plan_is orders count limit p ordered few fits is =
    let parts = ranged_ok orders (ranged orders count) (bare_soh orders) fits in
    let long : count + (limit - count) ≡ limit = omega (arith, few) in
    let each = ordered_of 18446744073709551616 orders ordered in
    let ranges : ranged orders limit ≡ Ok tt = subst (λ n. ranged orders n ≡ Ok tt) long (fits_longer orders count
    (limit - count) each parts.0) in
    let whole : checked_script orders limit ≡ Ok tt = ap (λ (r : Result (Unit {0}) ScriptFault). both_ok r
    (bare_soh orders)) ranges ∙ parts.1 in
    is whole ∙ (ap (plan orders) (sym long) ∙ plan_longer orders count (limit - count) each parts.0)

same_difference : (o : Option Content) (compares : Bool) (base result : List (List ℕ)) (found : Found) → result ≡ base
    → is_short o ≡ true → compares ≡ is_some o → (compares ≡ false → found.differs ≡ None)
    → ((file : List ℕ) → option_map (λ (c : Content). c.bytes) o ≡ Some file → length file ≤ 1073741824
    → compares ≡ true → found.differs ≡ first_difference 0 result (text_of file)) → or_differs found.differs
    ≡ compared o base
same_difference None compares base result found is short there alone finds = ap or_differs (alone there)
same_difference (Some c) compares base result found is short there alone finds =
    ap or_differs (finds c.bytes refl (leb-true (length c.bytes) 1073741824 short) there
    ∙ ap (λ r. first_difference 0 r (text_of c.bytes)) is)

pub base_found : (orders : List Order) (base : List (List ℕ)) (o : Option Content) (compares : Bool) (p : Plan)
    (found : Found)
    → (checked_script orders (length base) ≡ Ok tt → p ≡ plan orders (length base)) → compares ≡ is_some o
    → (compares ≡ false → found.differs ≡ None) → FindsResult (option_map (λ (c : Content). c.bytes) o) p base
    compares found → FindsBase orders base o found
base_found orders base o compares p found plans there alone finds = record {
  lines = finds.lines;
  keyword = λ fits. finds.keyword ∙ ap (list_any has_keyword) (made fits);
  differs = λ fits short. same_difference o compares (apply orders base) (result_of p base) found
      (made fits) short there alone finds.differs;
}
  where
    made : checked_script orders (length base) ≡ Ok tt → result_of p base ≡ apply orders base
    made fits = ap (λ q. result_of q base) (plans fits) ∙ plan_applied orders base

pub base_unread : (told : Option (List ℕ)) (orders : List Order) (base : List (List ℕ)) (g : Option Content) (p : Plan)
    (compares : Bool) (fault : FileFault) (ended : StepFault) → Examines told p base compares (Err fault)
    → ended ≡ file_fault fault → ReadsBase orders base g (Err ended)
base_unread told orders base g p compares files.Failed ended outer is = subst (λ e. ReadsBase orders base g (Err e))
    (sym is) tt
base_unread told orders base g p compares files.Memory ended outer is = subst (λ e. ReadsBase orders base g (Err e))
    (sym is) tt
base_unread told orders base g p compares files.Missing ended outer is = absurd outer
base_unread told orders base g p compares files.TooLong ended outer is = absurd outer
base_unread told orders base g p compares files.NotSccs ended outer is = absurd outer
base_unread told orders base g p compares (files.BadSum stored sum) ended outer is = absurd outer
base_unread told orders base g p compares (files.BadFormat line) ended outer is = absurd outer
base_unread told orders base g p compares files.Encoded ended outer is = absurd outer
base_unread told orders base g p compares (files.Changed a b c d) ended outer is = absurd outer

-- ---- over a view that may be told

pub fits_unread : (o : Option View) (n : List ℕ) (flags : List Flag) (orders : List Order) (base : List (List ℕ))
    (fault : StepFault) → IfSome o (λ (v : View). ReadsBase orders base (v (drop 2 n)) (Err fault))
    → IfSome o (λ (v : View). is_short (v (drop 2 n)) ≡ true → FitsScript flags orders base (v (drop 2 n)) (Err fault))
fits_unread None n flags orders base fault reads = tt
fits_unread (Some v) n flags orders base fault reads = λ short. unread_fits flags orders base (v (drop 2 n)) fault reads

pub fits_judged : (o : Option View) (n : List ℕ) (flags : List Flag) (orders : List Order) (base : List (List ℕ))
    (found : Found) → checked_script orders found.lines ≡ Ok tt → PassesCheck (judged_script flags orders found) (Ok tt)
    → IfSome o (λ (v : View). ReadsBase orders base (v (drop 2 n)) (Ok found))
    → IfSome o (λ (v : View). is_short (v (drop 2 n)) ≡ true → FitsScript flags orders base (v (drop 2 n)) (Ok found))
fits_judged None n flags orders base found fits passes reads = tt
fits_judged (Some v) n flags orders base found fits passes reads = λ short. fit_judged flags orders base
    (v (drop 2 n)) found short reads fits passes

pub fits_unjudged : (o : Option View) (n : List ℕ) (flags : List Flag) (orders : List Order) (base : List (List ℕ))
    (found : Found) (fault : StepFault) → PassesCheck (judged_script flags orders found) (Err fault)
    → IfSome o (λ (v : View). ReadsBase orders base (v (drop 2 n)) (Ok found))
    → IfSome o (λ (v : View). is_short (v (drop 2 n)) ≡ true → FitsScript flags orders base (v (drop 2 n)) (Err fault))
fits_unjudged None n flags orders base found fault passes reads = tt
fits_unjudged (Some v) n flags orders base found fault passes reads = λ short. unfit_judged flags orders base
    (v (drop 2 n)) found fault short reads passes

-- the base of a told body isn't longer than the body, nor than files may be
base_few : (told : Option (List ℕ)) (front : Front) (set file : List ℕ) (items : List Item)
    → IsBody told front set file items → length (select set (lines_of items)) ≤ min (front.size - front.body_from)
    1073741824
base_few told front set file items is =
    omega (
      arith,
      body_short told front set file items is,
      body_few told front set file items is,
      sym (texts_long (shown set (lines_of items))),
      ap length (sym (shown_texts set (lines_of items))),
    )

body_in : (o o2 : Option View) (n : List ℕ) (front : Front) (set file : List ℕ) (items : List Item) → o2 ≡ o
    → IsBody (bytes_in o n) front set file items → IsBody (bytes_in o2 n) front set file items
body_in o o2 n front set file items same is = subst (λ (w : Option View). IsBody (bytes_in w n) front set file items)
    (sym same) is

pub base_read : (o o2 : Option View) (n k : List ℕ) (orders : List Order) (front : Front) (set file : List ℕ)
    (items : List Item) (compares : Bool) (limit : ℕ) (p : Plan) (found : Found) → o2 ≡ o → k ≡ drop 2 n
    → IsBody (bytes_in o n) front set file items → AllByRecursion (FitsIn 18446744073709551616) orders
    → IfSome o (λ (v : View). compares ≡ is_some (v k)) → limit ≡ min (front.size - front.body_from) 1073741824
    → (checked_script orders limit ≡ Ok tt → p ≡ plan orders limit) → (compares ≡ false → found.differs ≡ None)
    → ((f : List ℕ) (list : List Item) → IsBody (bytes_in o2 n) front set f list → Examines (bytes_in o2 (drop 2 n)) p
    (select set (lines_of list)) compares (Ok found))
    → IfSome o (λ (v : View). ReadsBase orders (select set (lines_of items)) (v (drop 2 n)) (Ok found))
base_read None o2 n k orders front set file items compares limit p found same named is ordered there limit_is plans
    alone told = tt
base_read (Some v) o2 n k orders front set file items compares limit p found same named is ordered there limit_is plans
    alone told =
    base_found orders (select set (lines_of items)) (v (drop 2 n)) compares p found
    (λ fits. longest_plan_is orders (length (select set (lines_of items))) limit p ordered
    (omega (arith, limit_is, base_few (bytes_in (Some v) n) front set file items is)) fits plans)
    (there ∙ ap (λ m. is_some (v m)) named) alone
    (subst (λ (w : Option View). FindsResult (bytes_in w (drop 2 n)) p (select set (lines_of items)) compares found)
    same (told file items (body_in (Some v) o2 n front set file items same is)))

pub base_ends : (o o2 : Option View) (n : List ℕ) (orders : List Order) (front : Front) (set file : List ℕ)
    (items : List Item) (compares : Bool) (p : Plan) (fault : FileFault) (ended : StepFault) → o2 ≡ o
    → IsBody (bytes_in o n) front set file items → ended ≡ file_fault fault
    → ((f : List ℕ) (list : List Item) → IsBody (bytes_in o2 n) front set f list → Examines (bytes_in o2 (drop 2 n)) p
    (select set (lines_of list)) compares (Err fault))
    → IfSome o (λ (v : View). ReadsBase orders (select set (lines_of items)) (v (drop 2 n)) (Err ended))
base_ends None o2 n orders front set file items compares p fault ended same is ended_is told = tt
base_ends (Some v) o2 n orders front set file items compares p fault ended same is ended_is told =
    base_unread (bytes_in o2 (drop 2 n)) orders (select set (lines_of items)) (v (drop 2 n)) p compares fault ended
    (told file items (body_in (Some v) o2 n front set file items same is)) ended_is
