-- The parts of a written entry, put one after the other.
use Rattle.std.proofs.Common.{◌≡◌, ℕ, suc, ◌-◌, ◌≤◌, List, [], ◌∷◌, ◌++◌, length, take, drop, get_or, Result, Ok, Err}
use Rattle.std.proofs.Common.{refl, sym, ap, subst, ◌∙◌, arith, append_assoc, take_all}
use Rattle.std.specs.Prelude.{flat_map, OnOk}
use Rattle.std.proofs.lemmas.List.{append-nil}
use Rattle.sccs_disk.specs.Told.{Told}
use Rattle.sccs_disk.specs.declared.disks.DiskRefusal.{DiskRefusal}
use Rattle.sccs_sid.specs.Sid.{sid_text}
use Rattle.sccs_sid.specs.SidLists.{list_text, range_text}
use Rattle.sccs_sid.specs.Moment.{moment_text}
use Rattle.sccs_sid.specs.declared.sid_lists.Range.{Range}
use Rattle.sccs_tokens.specs.Written.{ended}
use Rattle.sccs_writers.specs.OneFile.{OnlyWrites}
use Rattle.sccs_writers.specs.Puts.{Appends, Puts, PutsText, Writer}
use Rattle.sccs_writers.proofs.PutLaws.{text_both}
use Rattle.sccs_pfile.specs.Written.{entry_text, exclude_option, include_option, option_text}
use Rattle.sccs_pfile.specs.declared.entries.Edit.{Edit}

front_is : (a b c d p q r s : List ℕ) → a ≡ p → b ≡ q → c ≡ r → d ≡ s
    → a ++ (32 ∷ (b ++ (32 ∷ (c ++ (32 ∷ (d ++ [])))))) ≡ p ++ (32 ∷ (q ++ (32 ∷ (r ++ (32 ∷ s)))))
front_is a b c d p q r s first second third fourth = rw (first, second, third, fourth, append-nil s) refl

-- an entry without its lists
pub front_puts : {T : Type 0} (a b c d p q r s : List ℕ) (w w2 : Writer) (x y : Told) (f h : ℕ)
    (result : Result T DiskRefusal) → a ≡ p → b ≡ q → c ≡ r → d ≡ s
    → PutsText (a ++ (32 ∷ (b ++ (32 ∷ (c ++ (32 ∷ (d ++ []))))))) w w2 x y f h result
    → PutsText (p ++ (32 ∷ (q ++ (32 ∷ (r ++ (32 ∷ s)))))) w w2 x y f h result
front_puts a b c d p q r s w w2 x y f h result first second third fourth puts =
    subst (λ text. PutsText text w w2 x y f h result) (front_is a b c d p q r s first second third fourth) puts

-- ---- lists

list_parts : (range : Range) (ranges : List Range) → list_text (range ∷ ranges) ≡ range_text range ++ flat_map
    (λ r. 44 ∷ range_text r) ranges
unfolding list_text
list_parts range [] = sym (append-nil (range_text range))
list_parts range (next ∷ ranges) = ap (λ more. range_text range ++ (44 ∷ more)) (list_parts next ranges)

-- a range behind an option and the others behind it are the list
pub list_puts : {T U : Type 0} (option : List ℕ) (range : Range) (ranges : List Range) (w w2 w3 : Writer) (a b c : Told)
    (f g h : ℕ) (q : Result U DiskRefusal) (r : Result T DiskRefusal) (done : U)
    → q ≡ Ok done → PutsText (option ++ range_text range) w w2 a b f g q
    → PutsText (flat_map (λ x. 44 ∷ range_text x) ranges) w2 w3 b c g h r
    → PutsText (option_text option (range ∷ ranges)) w w3 a c f h r
list_puts option range ranges w w2 w3 a b c f g h q r done is first second =
    subst (λ text. PutsText text w w3 a c f h r)
    (append_assoc option (range_text range) (flat_map (λ x. 44 ∷ range_text x) ranges) ∙ ap (λ more. option ++ more)
    (sym (list_parts range ranges)))
    (text_both (option ++ range_text range) (flat_map (λ x. 44 ∷ range_text x) ranges) w w2 w3 a b c f g h q r done is
    first second)

-- ---- an entry

-- an entry without its lists
abbrev pub front_text : Edit → List ℕ
front_text e = sid_text e.got ++ (32 ∷ (sid_text e.made ++ (32 ∷ (e.login ++ (32 ∷ moment_text e.moment)))))

abbrev pub lists_text : Edit → List ℕ
lists_text e = option_text include_option e.include ++ option_text exclude_option e.exclude

entry_parts : (e : Edit) → front_text e ++ lists_text e ≡ entry_text e
entry_parts e =
    let lists = lists_text e in
    append_assoc (sid_text e.got) (32 ∷ (sid_text e.made ++ (32 ∷ (e.login ++ (32 ∷ moment_text e.moment))))) lists
    ∙ ap (λ more. sid_text e.got ++ (32 ∷ more)) (append_assoc (sid_text e.made)
    (32 ∷ (e.login ++ (32 ∷ moment_text e.moment))) lists
    ∙ ap (λ more. sid_text e.made ++ (32 ∷ more)) (append_assoc e.login (32 ∷ moment_text e.moment) lists))

pub entry_puts : {T U V : Type 0} (e : Edit) (w w2 w3 w4 : Writer) (a b c d : Told) (f g h i : ℕ)
    (q : Result U DiskRefusal) (r : Result V DiskRefusal) (s : Result T DiskRefusal) (q_done : U) (r_done : V)
    → q ≡ Ok q_done → r ≡ Ok r_done → PutsText (front_text e) w w2 a b f g q → PutsText (lists_text e) w2 w3 b c g h r
    → PutsText (10 ∷ []) w3 w4 c d h i s
    → PutsText (ended (entry_text e)) w w4 a d f i s
entry_puts e w w2 w3 w4 a b c d f g h i q r s q_done r_done q_is r_is first second third =
    subst (λ text. PutsText (text ++ 10 ∷ []) w w4 a d f i s) (entry_parts e)
    (text_both (front_text e ++ lists_text e) (10 ∷ []) w w3 w4 a c d f h i r s r_done r_is (text_both (front_text e)
    (lists_text e) w w2 w3 a b c f g h q r q_done q_is first second) third)

-- ---- slices and a whole file

-- the first range of a slice behind an option, and the others behind it, are the list
pub slice_puts : {T U : Type 0} (option : List ℕ) (ranges : List Range) (d : Range) (w w2 w3 : Writer) (a b c : Told)
    (f g h : ℕ) (q : Result U DiskRefusal) (r : Result T DiskRefusal) (done : U)
    → 1 ≤ length ranges → q ≡ Ok done → PutsText (option ++ range_text (get_or ranges 0 d)) w w2 a b f g q
    → PutsText (flat_map (λ x. 44 ∷ range_text x) (take (length ranges - 1) (drop 1 ranges))) w2 w3 b c g h r
    → PutsText (option_text option ranges) w w3 a c f h r
slice_puts option [] d w w2 w3 a b c f g h q r done some is first second = absurd (omega (arith, some))
slice_puts option (range ∷ ranges) d w w2 w3 a b c f g h q r done some is first second =
    list_puts option range ranges w w2 w3 a b c f g h q r done is first
    (subst (λ (others : List Range). PutsText (flat_map (λ x. 44 ∷ range_text x) others) w2 w3 b c g h r)
    (ap (λ n. take n ranges) (rest_count (length ranges)) ∙ take_all (length ranges) ranges (omega arith)) second)
  where
    rest_count : (n : ℕ) → suc n - 1 ≡ n
    rest_count n = omega arith

pub lists_puts : {T U : Type 0} (option other : List ℕ) (i x include exclude : List Range) (w w2 w3 : Writer)
    (a b c : Told) (f g h : ℕ) (q : Result U DiskRefusal) (r : Result T DiskRefusal) (done : U)
    → i ≡ include → x ≡ exclude → q ≡ Ok done → PutsText (option_text option i) w w2 a b f g q
    → PutsText (option_text other x) w2 w3 b c g h r
    → PutsText (option_text option include ++ option_text other exclude) w w3 a c f h r
lists_puts option other i x include exclude w w2 w3 a b c f g h q r done i_is x_is is first second =
    text_both (option_text option include) (option_text other exclude) w w2 w3 a b c f g h q r done is
    (subst (λ (l : List Range). PutsText (option_text option l) w w2 a b f g q) i_is first)
    (subst (λ (l : List Range). PutsText (option_text other l) w2 w3 b c g h r) x_is second)

ok_appends : {T : Type 0} (n text : List ℕ) (w w3 : Writer) (a c : Told) (r : Result T DiskRefusal) → w.name ≡ n
    → w.held ≡ [] → OnOk r (Puts (text ++ []) w w3 a c) → OnOk r (w3.held ≡ []) → OnOk r (Appends n text a c)
ok_appends n text w w3 a c (Ok done) name empty puts flushed =
    let same : text ≡ puts.added = sym (append-nil text) ∙ (ap (λ front. front ++ (text ++ [])) (sym empty)
    ∙ (puts.split ∙ (ap (λ rest. puts.added ++ rest) flushed ∙ append-nil puts.added))) in
    subst (λ m. Appends m text a c) name (subst (λ l. Appends w.name l a c) (sym same) puts.file)
ok_appends n text w w3 a c (Err refusal) name empty puts flushed = tt

-- a text is put and what is held back is appended: all of it is in the file
pub whole_puts : {T U : Type 0} (n text put : List ℕ) (w w2 w3 : Writer) (a b c : Told) (f g h : ℕ)
    (q : Result U DiskRefusal) (r : Result T DiskRefusal) (done : U)
    → w.name ≡ n → w.held ≡ [] → put ≡ text → q ≡ Ok done → PutsText put w w2 a b f g q → PutsText [] w2 w3 b c g h r
    → OnOk r (w3.held ≡ [])
    → OnOk r (Appends n text a c) × OnlyWrites n a c
whole_puts n text put w w2 w3 a b c f g h q r done name empty same is first second flushed =
    let both = text_both text [] w w2 w3 a b c f g h q r done is (subst (λ l. PutsText l w w2 a b f g q) same first)
    second in
    (ok_appends n text w w3 a c r name empty both.ok flushed, subst (λ m. OnlyWrites m a c) name both.only)

-- the text of an entry that is another by its place
pub entry_as : {T : Type 0} (e e2 : Edit) (w w2 : Writer) (a b : Told) (f g : ℕ) (r : Result T DiskRefusal) → e ≡ e2
    → PutsText (ended (entry_text e)) w w2 a b f g r → PutsText (ended (entry_text e2)) w w2 a b f g r
entry_as e e2 w w2 a b f g r is puts = subst (λ x. PutsText (ended (entry_text x)) w w2 a b f g r) is puts
