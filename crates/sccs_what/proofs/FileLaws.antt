-- A file that is searched in pieces.
use Rattle.std.proofs.Common.{◌≡◌, ℕ, zero, suc, ◌+◌, ◌-◌, ◌<◌, ◌≤◌, Bool, true, false, List, [], ◌∷◌, ◌++◌, length}
use Rattle.std.proofs.Common.{take, drop, Option, None, Some, Result, Ok, Err, refl, sym, ap, subst, ◌∙◌, arith}
use Rattle.std.proofs.Common.{append_assoc, append-nil, length-append, length-drop, length-take}
use Rattle.std.proofs.lemmas.List.{drop-drop, take-append-drop}
use Rattle.std.proofs.lemmas.Bool.{ltb-true}
use Rattle.std.proofs.Math.Seq.{take_all}
use Rattle.sccs_base.specs.Constants.{lf}
use Rattle.sccs_base.specs.Stream.{Buffers, GivesOk, GivesSome}
use Rattle.sccs_base.proofs.Gifts.{buffers_both, buffers_cut, buffers_flushed, buffers_then, some_longer, some_of_whole}
use Rattle.sccs_sid.specs.Reading.{is_empty}
use Rattle.sccs_sid.specs.declared.refusals.StepFault.{StepFault}
use Rattle.sccs_sid.specs.declared.refusals.StepFault.TheVariants.{Refused, Memory, ReadFault, WriteFault, DiskFault}
use Rattle.sccs_what.specs.Texts.{marked_lines, what_text}
use Rattle.sccs_what.specs.Owed.{Searches, finds, search_is_done, search_is_over, last_end, what_owed, was_found}
use Rattle.sccs_steps.specs.Causes.{PrintCauses}
use Rattle.sccs_what.specs.SearchedFiles.{ComesToEnd, FinishesSearch, SearchGoesOn, PrintsTexts, SearchesFile}
use Rattle.sccs_what.specs.SearchedFiles.{SearchesPiece, heading}
use Rattle.sccs_what.specs.declared.searches.Search.{Search}
use Rattle.sccs_what.specs.declared.searches.Search.TheVariants.{Unfound, Giving, Found}
use Rattle.sccs_what.proofs.TextLaws.{drop_within}
use Rattle.sccs_what.proofs.SearchLaws.{both, found_at_end, owed_at_end}
use Rattle.sccs_base.proofs.Rises.{rose_later}

-- ---- a piece

-- what was searched of a piece was searched of all that is left
in_front : (first : Bool) (piece more : List ℕ) (used : ℕ) (s s2 : Search) (held held2 : List ℕ) (a b : Option (List ℕ))
    → Searches first piece used s s2 held held2 a b → Searches first (piece ++ more) used s s2 held held2 a b
in_front first piece more used s s2 held held2 a b one = record {
  text = one.text;
  gives = one.gives;
  owes = λ rest. ap (λ (l : List ℕ). one.text ++ what_owed first s2 l) (left rest) ∙ (one.owes (more ++ rest)
      ∙ ap (λ (l : List ℕ). what_owed first s l) (sym (append_assoc piece more rest)));
  keeps = λ rest. ap (λ (l : List ℕ). finds s2 l) (left rest) ∙ (one.keeps (more ++ rest)
      ∙ ap (λ (l : List ℕ). finds s l) (sym (append_assoc piece more rest)));
  within = omega (arith, one.within, length-append piece more);
}
  where
    left : (rest : List ℕ) → drop used (piece ++ more) ++ rest ≡ drop used piece ++ (more ++ rest)
    left rest = ap (λ (l : List ℕ). l ++ rest) (drop_within used piece more one.within)
        ∙ append_assoc (drop used piece) more rest

pub of_left : (first : Bool) (left piece : List ℕ) (room used : ℕ) (s s2 : Search) (held held2 : List ℕ)
    (a b : Option (List ℕ)) → piece ≡ take room left → Searches first piece used s s2 held held2 a b
    → Searches first left used s s2 held held2 a b
of_left first left piece room used s s2 held held2 a b is one =
    subst (λ (l : List ℕ). Searches first l used s s2 held held2 a b) (ap (λ (p : List ℕ). p ++ drop room left) is
    ∙ take-append-drop room left) (in_front first piece (drop room left) used s s2 held held2 a b one)

pub cut_left : (first : Bool) (left piece : List ℕ) (room : ℕ) (s : Search) (held : List ℕ) (a b : Option (List ℕ))
    → piece ≡ take room left → ((rest : List ℕ) → GivesSome a b (held ++ what_owed first s (piece ++ rest)))
    → GivesSome a b (held ++ what_owed first s left)
cut_left first left piece room s held a b is cut =
    subst (λ (l : List ℕ). GivesSome a b (held ++ what_owed first s l)) (ap (λ (p : List ℕ). p ++ drop room left) is
    ∙ take-append-drop room left) (cut (drop room left))

whole_piece : (left piece : List ℕ) (room : ℕ) → piece ≡ take room left → length piece < room → piece ≡ left
whole_piece left piece room is short = is
    ∙ take_all room left (omega (arith, ap length is, short, length-take room left))

pub ends_short : (first : Bool) (left piece : List ℕ) (room used : ℕ) (s s2 : Search) (held held2 : List ℕ)
    (a b : Option (List ℕ)) → piece ≡ take room left → length piece < room → search_is_over first s2 (drop used piece)
    ≡ true → Searches first piece used s s2 held held2 a b → ComesToEnd first left s s2 held held2 a b
ends_short first left piece room used s s2 held held2 a b is short over one =
    let same : piece ≡ left = whole_piece left piece room is short in
    record {
      used = used;
      searches = subst (λ (l : List ℕ). Searches first l used s s2 held held2 a b) same one;
      owes = subst (λ (l : List ℕ). what_owed first s2 (drop used l) ≡ last_end s2) same
          (owed_at_end first s2 (drop used piece) over);
      found = subst (λ (l : List ℕ). finds s2 (drop used l) ≡ was_found s2) same
          (found_at_end first s2 (drop used piece) over);
    }

pub ends_done : (first : Bool) (left piece : List ℕ) (room used : ℕ) (s s2 : Search) (held held2 : List ℕ)
    (a b : Option (List ℕ)) → piece ≡ take room left → search_is_done first s2 ≡ true
    → Searches first piece used s s2 held held2 a b → ComesToEnd first left s s2 held held2 a b
ends_done first left piece room used s s2 held held2 a b is done one =
    record {
      used = used;
      searches = of_left first left piece room used s s2 held held2 a b is one;
      owes = owes_none first s2 done;
      found = found_so first s2 done;
    }
  where
    owes_none : (first : Bool) (s2 : Search) → search_is_done first s2 ≡ true → what_owed first s2 (drop used left)
        ≡ last_end s2
    owes_none first Unfound done = absurd (cc)
    owes_none first Giving done = absurd (cc)
    owes_none true Found done = refl
    owes_none false Found done = absurd (cc)

    found_so : (first : Bool) (s2 : Search) → search_is_done first s2 ≡ true → finds s2 (drop used left) ≡ was_found s2
    found_so first Unfound done = absurd (cc)
    found_so first Giving done = refl
    found_so first Found done = refl

-- a search that isn't done took bytes of a piece of four or more
pub took_some : (first : Bool) (s : Search) (piece : List ℕ) (used : ℕ) → search_is_over first s (drop used piece)
    ≡ true → search_is_done first s ≡ false → 4 ≤ length piece → 0 < used
took_some first Unfound piece used over more four = omega (
  arith,
  ltb-true (length (drop used piece)) 4 over,
  length-drop used piece,
)
took_some first Giving piece used over more four = by (drop used piece) over (length-drop used piece)
  where
    by : (l : List ℕ) → is_empty l ≡ true → length l ≡ length piece - used → 0 < used
    by [] over is = omega (arith, is)
    by (b ∷ l) over is = absurd (cc)
took_some true Found piece used over more four = absurd (cc)
took_some false Found piece used over more four = omega (
  arith,
  ltb-true (length (drop used piece)) 4 over,
  length-drop used piece,
)

-- ---- the whole file

pub owes_all : (first : Bool) (bytes : List ℕ) (used : ℕ) (s s2 : Search) (held held2 : List ℕ) (a b : Option (List ℕ))
    → (one : Searches first bytes used s s2 held held2 a b) → one.text ++ what_owed first s2 (drop used bytes)
    ≡ what_owed first s bytes
owes_all first bytes used s s2 held held2 a b one =
    ap (λ (l : List ℕ). one.text ++ what_owed first s2 l) (sym (append-nil (drop used bytes)))
    ∙ (one.owes [] ∙ ap (λ (l : List ℕ). what_owed first s l) (append-nil bytes))

keeps_all : (first : Bool) (bytes : List ℕ) (used : ℕ) (s s2 : Search) (held held2 : List ℕ) (a b : Option (List ℕ))
    → Searches first bytes used s s2 held held2 a b → finds s2 (drop used bytes) ≡ finds s bytes
keeps_all first bytes used s s2 held held2 a b one =
    ap (λ (l : List ℕ). finds s2 l) (sym (append-nil (drop used bytes)))
    ∙ (one.keeps [] ∙ ap (λ (l : List ℕ). finds s l) (append-nil bytes))

-- the search is at its end, and what it owes there is given
pub finished : (first : Bool) (bytes : List ℕ) (from : ℕ) (s : Search) (h h2 h3 : List ℕ) (a b c : Option (List ℕ))
    (r : Result Bool StepFault) → Searches first bytes from Unfound s h h2 a b → what_owed first s (drop from bytes)
    ≡ last_end s → finds s (drop from bytes) ≡ was_found s
    → FinishesSearch s h2 h3 b c r → SearchesFile first bytes h h3 a c r
finished first bytes from s h h2 h3 a b c (Ok found) one owes finds_so ends = (
  subst (λ (l : List ℕ). Buffers h l h3 a c) (ap (λ (l : List ℕ). one.text ++ l) (sym owes)
      ∙ owes_all first bytes from Unfound s h h2 a b one) (buffers_both h one.text h2 (last_end s) h3 a b c one.gives
      ends.0),
  ends.1 ∙ (sym finds_so ∙ keeps_all first bytes from Unfound s h h2 a b one),
)
finished first bytes from s h h2 h3 a b c (Err WriteFault) one owes finds_so ends = (
  subst (λ (l : List ℕ). GivesSome a c (h ++ l)) (ap (λ (l : List ℕ). one.text ++ l) (sym owes)
      ∙ owes_all first bytes from Unfound s h h2 a b one) (buffers_then h one.text h2 (last_end s) a b c one.gives
      ends.0),
  ends.1,
)
finished first bytes from s h h2 h3 a b c (Err (Refused refusal)) one owes finds_so ends = absurd ends
finished first bytes from s h h2 h3 a b c (Err Memory) one owes finds_so ends = absurd ends
finished first bytes from s h h2 h3 a b c (Err ReadFault) one owes finds_so ends = absurd ends
finished first bytes from s h h2 h3 a b c (Err DiskFault) one owes finds_so ends = absurd ends

-- after a piece at which it comes to its end
pub finished_next : (first : Bool) (bytes : List ℕ) (from : ℕ) (s s2 : Search) (h h1 h2 h3 : List ℕ)
    (a m b c : Option (List ℕ)) (r : Result Bool StepFault) → Searches first bytes from Unfound s h h1 a m
    → ComesToEnd first (drop from bytes) s s2 h1 h2 m b → FinishesSearch s2 h2 h3 b c r
    → SearchesFile first bytes h h3 a c r
finished_next first bytes from s s2 h h1 h2 h3 a m b c r one ended ends =
    finished first bytes (from + ended.used) s2 h h2 h3 a b c r (both first bytes from ended.used Unfound s s2 h h1 h2 a
    m b one ended.searches)
    (ap (λ (l : List ℕ). what_owed first s2 l) (sym (drop-drop ended.used from bytes)) ∙ ended.owes)
    (ap (λ (l : List ℕ). finds s2 l) (sym (drop-drop ended.used from bytes)) ∙ ended.found) ends

drop_past : (from : ℕ) (bytes : List ℕ) → length bytes ≤ from → drop from bytes ≡ []
drop_past from bytes past = empty (drop from bytes) (omega (arith, past, length-drop from bytes))
  where
    empty : (l : List ℕ) → length l ≡ 0 → l ≡ []
    empty [] none = refl
    empty (b ∷ l) none = absurd (omega (arith, none))

over_empty : (first : Bool) (s : Search) → search_is_over first s [] ≡ true
over_empty first Unfound = refl
over_empty first Giving = refl
over_empty true Found = refl
over_empty false Found = refl

-- behind the last byte
pub finished_past : (first : Bool) (bytes : List ℕ) (from : ℕ) (s : Search) (h h2 h3 : List ℕ) (a b c : Option (List ℕ))
    (r : Result Bool StepFault) → length bytes ≤ from → Searches first bytes from Unfound s h h2 a b
    → FinishesSearch s h2 h3 b c r → SearchesFile first bytes h h3 a c r
finished_past first bytes from s h h2 h3 a b c r past one ends =
    let none : drop from bytes ≡ [] = drop_past from bytes past in
    finished first bytes from s h h2 h3 a b c r one
    (ap (λ (l : List ℕ). what_owed first s l) none ∙ owed_at_end first s [] (over_empty first s))
    (ap (λ (l : List ℕ). finds s l) none ∙ found_at_end first s [] (over_empty first s)) ends

pub went_on : (first : Bool) (bytes : List ℕ) (from next : ℕ) (s s2 : Search) (h h1 h2 : List ℕ)
    (a m b : Option (List ℕ)) → Searches first bytes from Unfound s h h1 a m
    → SearchGoesOn first (drop from bytes) from next s s2 h1 h2 m b → Searches first bytes next Unfound s2 h h2 a b
went_on first bytes from next s s2 h h1 h2 a m b one on =
    subst (λ n. Searches first bytes n Unfound s2 h h2 a b) (sym on.place) (both first bytes from on.used Unfound s s2 h
    h1 h2 a m b one on.searches)

-- a piece that couldn't be read, or whose texts couldn't be given
pub stopped : (first : Bool) (bytes : List ℕ) (from : ℕ) (s s2 : Search) (h h1 h2 : List ℕ) (a m b : Option (List ℕ))
    (fault : StepFault) → Searches first bytes from Unfound s h h1 a m → SearchesPiece first (drop from bytes) from s s2
    h1 h2 m b (Err fault) → SearchesFile first bytes h h2 a b (Err fault)
stopped first bytes from s s2 h h1 h2 a m b WriteFault one next = (
  subst (λ (l : List ℕ). GivesSome a b (h ++ l)) (owes_all first bytes from Unfound s h h1 a m one)
      (buffers_then h one.text h1 (what_owed first s (drop from bytes)) a m b one.gives next.0),
  next.1,
)
stopped first bytes from s s2 h h1 h2 a m b DiskFault one next = record {
  part = one.text;
  more = what_owed first s (drop from bytes);
  gives = subst (λ (l : List ℕ). Buffers h one.text l a b) (sym next.same_held)
      (subst (λ (x : Option (List ℕ)). Buffers h one.text h1 a x) (sym next.same_given) one.gives);
  split = owes_all first bytes from Unfound s h h1 a m one;
}
stopped first bytes from s s2 h h1 h2 a m b (Refused refusal) one next = absurd next
stopped first bytes from s s2 h h1 h2 a m b Memory one next = absurd next
stopped first bytes from s s2 h h1 h2 a m b ReadFault one next = absurd next

-- ---- with the heading, and when what was held back is given

headed : (first : Bool) (n bytes : List ℕ) → heading n ++ marked_lines first bytes ≡ what_text first n bytes
headed first n bytes = append_assoc n (58 ∷ lf ∷ []) (marked_lines first bytes)

some_then_none : (a b c : Option (List ℕ)) (x : List ℕ) → GivesSome a b x → b ≡ c → GivesSome a c x
some_then_none a b c x some same = subst (λ (o : Option (List ℕ)). GivesSome a o x) same some

pub nothing_more : (b c : Option (List ℕ)) → GivesOk b c [] → b ≡ c
nothing_more None c gives = sym gives
nothing_more (Some g) c gives = sym (gives ∙ ap Some (append-nil g))

pub some_nothing : (b c : Option (List ℕ)) → GivesSome b c [] → b ≡ c
some_nothing None c gives = sym gives
some_nothing (Some g) c gives = sym (gives.2 ∙ ap Some (ap (λ (l : List ℕ). g ++ l) (none gives.0) ∙ append-nil g))
  where
    none : (k : ℕ) → take {A = ℕ} k [] ≡ []
    none zero = refl
    none (suc k) = refl

pub flushed : (first : Bool) (bytes n front held : List ℕ) (a b c d : Option (List ℕ)) (r : Result Bool StepFault)
    → Buffers [] (heading n) front a b → SearchesFile first bytes front held b c r → GivesOk c d held
    → PrintsTexts first n bytes a d r
flushed first bytes n front held a b c d (Ok found) head file gives = (
  subst (λ (l : List ℕ). GivesOk a d l) (headed first n bytes)
      (buffers_flushed [] (heading n ++ marked_lines first bytes) held a c d (buffers_both [] (heading n) front
      (marked_lines first bytes) held a b c head file.0) gives),
  file.1,
)
flushed first bytes n front held a b c d (Err WriteFault) head file gives =
    some_then_none a c d (what_text first n bytes) (subst (λ (l : List ℕ). GivesSome a c l) (headed first n bytes)
    (buffers_then [] (heading n) front (marked_lines first bytes) a b c head file.0))
    (nothing_more c d (subst (λ (l : List ℕ). GivesOk c d l) file.1 gives))
flushed first bytes n front held a b c d (Err DiskFault) head file gives =
    subst (λ (l : List ℕ). GivesSome a d l) (append_assoc (heading n) file.part file.more
    ∙ (ap (λ (l : List ℕ). heading n ++ l) file.split ∙ headed first n bytes))
    (some_longer a d (heading n ++ file.part) file.more (some_of_whole a d (heading n ++ file.part)
    (buffers_flushed [] (heading n ++ file.part) held a c d (buffers_both [] (heading n) front file.part held a b c
    head file.gives) gives)))
flushed first bytes n front held a b c d (Err (Refused refusal)) head file gives = absurd file
flushed first bytes n front held a b c d (Err Memory) head file gives = absurd file
flushed first bytes n front held a b c d (Err ReadFault) head file gives = absurd file

pub flush_cut : (first : Bool) (bytes n front held : List ℕ) (a b c d : Option (List ℕ)) (r : Result Bool StepFault)
    → Buffers [] (heading n) front a b → SearchesFile first bytes front held b c r → GivesSome c d held
    → GivesSome a d (what_text first n bytes)
flush_cut first bytes n front held a b c d (Ok found) head file some =
    subst (λ (l : List ℕ). GivesSome a d l) (headed first n bytes)
    (buffers_cut [] (heading n ++ marked_lines first bytes) held a c d (buffers_both [] (heading n) front
    (marked_lines first bytes) held a b c head file.0) some)
flush_cut first bytes n front held a b c d (Err WriteFault) head file some =
    some_then_none a c d (what_text first n bytes) (subst (λ (l : List ℕ). GivesSome a c l) (headed first n bytes)
    (buffers_then [] (heading n) front (marked_lines first bytes) a b c head file.0))
    (some_nothing c d (subst (λ (l : List ℕ). GivesSome c d l) file.1 some))
flush_cut first bytes n front held a b c d (Err DiskFault) head file some =
    subst (λ (l : List ℕ). GivesSome a d l) (append_assoc (heading n) file.part file.more
    ∙ (ap (λ (l : List ℕ). heading n ++ l) file.split ∙ headed first n bytes))
    (some_longer a d (heading n ++ file.part) file.more (buffers_cut [] (heading n ++ file.part) held a c d
    (buffers_both [] (heading n) front file.part held a b c head file.gives) some))
flush_cut first bytes n front held a b c d (Err (Refused refusal)) head file some = absurd file
flush_cut first bytes n front held a b c d (Err Memory) head file some = absurd file
flush_cut first bytes n front held a b c d (Err ReadFault) head file some = absurd file

pub heading_cut : (first : Bool) (n bytes : List ℕ) (a b : Option (List ℕ)) → GivesSome a b (heading n)
    → GivesSome a b (what_text first n bytes)
heading_cut first n bytes a b some = subst (λ (l : List ℕ). GivesSome a b l) (headed first n bytes)
    (some_longer a b (heading n) (marked_lines first bytes) some)

-- ---- causes

-- of two calls, the first of which answered no fault
pub causes_both : {X : Type 0} (r : Result X StepFault) (o o1 o2 d d1 d2 : ℕ) → o ≤ o1 → d ≤ d1
    → PrintCauses r o1 o2 d1 d2 → PrintCauses r o o2 d d2
causes_both r o o1 o2 d d1 d2 out_later disk_later causes = record {
  out_later = omega (arith, out_later, causes.out_later);
  disk_later = omega (arith, disk_later, causes.disk_later);
  write = λ is. rose_later o o1 o2 out_later (causes.write is);
  read = causes.read;
  broke = λ is. rose_later d d1 d2 disk_later (causes.broke is);
}

pub heading_given : (n m held front : List ℕ) (a b : Option (List ℕ)) → held ≡ [] → m ≡ n
    → Buffers held (heading m) front a b → Buffers [] (heading n) front a b
heading_given n m held front a b none same gives = subst (λ (l : List ℕ). Buffers [] (heading l) front a b) same
    (subst (λ (l : List ℕ). Buffers l (heading m) front a b) none gives)

pub heading_stopped : (first : Bool) (n m held bytes : List ℕ) (a b : Option (List ℕ)) → held ≡ [] → m ≡ n
    → GivesSome a b (held ++ heading m) → GivesSome a b (what_text first n bytes)
heading_stopped first n m held bytes a b none same some =
    heading_cut first n bytes a b (subst (λ (l : List ℕ). GivesSome a b (heading l)) same
    (subst (λ (l : List ℕ). GivesSome a b (l ++ heading m)) none some))
