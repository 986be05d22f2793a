-- What a reader of lines holds after it read and after it gave.
use Rattle.std.proofs.Common.{◌≡◌, ◌≢◌, ℕ, zero, suc, ◌+◌, ◌-◌, ◌%◌, ◌<◌, ◌≤◌, min, replicate, sum, Bool, true, false}
use Rattle.std.proofs.Common.{ltb, List, [], ◌∷◌, ◌++◌, length, take, drop, Option, None, Some, refl, sym, ap, ◌∙◌}
use Rattle.std.proofs.Common.{arith, subst, get_or, drop-cons, length-take, length-drop, length-append, append_assoc}
use Rattle.std.specs.Prelude.{IfSome}
use Rattle.std.proofs.lemmas.List.{take-append-drop, drop-take, take-take, take_min, drop-drop, drop_all}
use Rattle.std.proofs.lemmas.List.{drop-replicate, append-nil}
use Rattle.std.proofs.lemmas.List.Elements.{All-append, All-drop, All-nil}
use Rattle.std.proofs.Math.Nat.{mul-zero}
use Rattle.std.proofs.lemmas.List.Folds.{sum_by-replicate}
use Rattle.std.proofs.lemmas.List.Sums.{sum_by-append, sum_by-take-drop}
use Rattle.std.proofs.Math.Seq.{take-add, take-append_seam, drop-append_seam}
use Rattle.sccs_tokens.proofs.CutLaws.{cut_line, cut_tail}
use Rattle.sccs_base.specs.Cut.{HasNoLf, cut}
use Rattle.sccs_base.proofs.Cuts.{NoLfBefore, no_lf_front, no_lf_all}
use Rattle.std.proofs.lemmas.Bool.{ltb-false}
use Rattle.sccs_disk.specs.Files.{View}
use Rattle.sccs_tokens.specs.Sums.{plain_sum}
use Rattle.sccs_table.specs.SumOf.{IsPlainSumOf, IsSumOf}
use Rattle.sccs_table.specs.ReaderState.{ReaderState, StandsIn, Stays, Takes, TakesLine, behind_sum, bytes_in}

-- a reader that holds the front of a piece
abbrev pub holding : List ℕ → List ℕ → ℕ → ℕ → ℕ → ReaderState
holding name held place limit sum = record { name = name; held = held; place = place; limit = limit; sum = sum }

-- what a call leaves as it was where it reads nothing
abbrev pub Kept : ReaderState → ReaderState → Type 0
Kept old new = (new.limit ≡ old.limit) × (new.sum ≡ old.sum)

-- the bytes that were read end where they ended
pub stands_behind : (old new : ReaderState) (file : List ℕ) → Kept old new → new.place + length new.held ≡ old.place
    + length old.held → new.held ≡ take (length new.held) (drop new.place file) → StandsIn old file → StandsIn new file
stands_behind old new file kept end held_is stands = record {
  limit = subst (λ n. length file ≤ n) (sym kept.0) stands.limit;
  within = omega (arith, stands.within);
  held = held_is;
  sum = kept.1 ∙ (stands.sum ∙ ap (λ n. plain_sum (behind_sum (take n file))) (sym end));
}

take_long : (n : ℕ) (bytes : List ℕ) → take n bytes ≡ take (length (take n bytes)) bytes
take_long n bytes = sym (ap (λ k. take k bytes) (length-take n bytes) ∙ take_min n bytes)

drop_both : (n : ℕ) (front rest : List ℕ) → drop n (front ++ rest) ≡ drop n front ++ drop (n - length front) rest
drop_both zero front rest = let none : 0 ≡ 0 - length front = omega arith in ap (λ k. front ++ drop k rest) none
drop_both (suc n) [] rest = let all : suc n ≡ suc n - 0 = omega arith in ap (λ k. drop k rest) all
drop_both (suc n) (b ∷ front) rest = let one : n - length front ≡ suc n - suc (length front) = omega arith in
    drop_both n front rest ∙ ap (λ k. drop n front ++ drop k rest) one

-- the bytes up to a place and those of a piece behind it, without the sum line
behind_both : (file : List ℕ) (place count : ℕ) → place ≤ length file → behind_sum (take (place + count) file)
    ≡ behind_sum (take place file) ++ drop (8 - place) (take count (drop place file))
behind_both file place count low =
    let long : length (take place file) ≡ place = omega (arith, length-take place file) in
    ap behind_sum (take-add place count file)
    ∙ (drop_both 8 (take place file) (take count (drop place file))
    ∙ ap (λ n. behind_sum (take place file) ++ drop (8 - n) (take count (drop place file))) long)

module _ (old : ReaderState) (name piece : List ℕ) (place limit sum sum2 count room to : ℕ)
    (is : holding name [] place limit sum ≡ old) (within : count ≤ length piece)
    (room_is : room ≡ min (to - place) 4096) (low : to ≤ limit)
    (added : (front : List ℕ) → IsPlainSumOf sum front
    → IsPlainSumOf sum2 (front ++ drop (8 - place) (take count piece))) where
  abbrev filled_with : ReaderState
  filled_with = holding name (take (count - 0) piece) place limit sum2

  stands_filled : (file : List ℕ) → take count piece ≡ take room (drop place file) → StandsIn old file
      → StandsIn filled_with file × (ltb 0 count ≡ false → min to (length file) ≤ place)
  stands_filled file got stood =
      let place_is : place ≡ old.place = ap (λ (s : ReaderState). s.place) is in
      let none : 0 ≡ length old.held = ap (λ (s : ReaderState). length s.held) is in
      let low_place : place ≤ length file = omega (arith, stood.within) in
      let here : take (count - 0) piece ≡ take room (drop place file) = ap (λ n. take n piece) (omega arith) ∙ got in
      let long : length (take (count - 0) piece) ≡ min room (length file - place) = ap length here
      ∙ (length-take room (drop place file) ∙ ap (min room) (length-drop place file)) in
      let many : length (take (count - 0) piece) ≡ count = omega (arith, length-take (count - 0) piece) in
      let held_is : take (count - 0) piece ≡ take (length (take (count - 0) piece)) (drop place file) = here
      ∙ (take_long room (drop place file) ∙ ap (λ bytes. take (length bytes) (drop place file)) (sym here)) in
      let before : sum ≡ plain_sum (behind_sum (take place file)) =
      ap (λ (s : ReaderState). s.sum) is ∙ (stood.sum ∙ ap (λ n. plain_sum (behind_sum (take n file))) (omega arith)) in
      let piece_is : take count piece ≡ take count (drop place file) = ap (λ n. take n piece) (omega arith)
      ∙ (held_is ∙ ap (λ n. take n (drop place file)) many) in
      let whole : behind_sum (take place file) ++ drop (8 - place) (take count piece) ≡ behind_sum
      (take (place + length (take (count - 0) piece)) file) =
      ap (λ bytes. behind_sum (take place file) ++ drop (8 - place) bytes) piece_is
      ∙ (sym (behind_both file place count low_place) ∙ ap (λ n. behind_sum (take (place + n) file)) (sym many)) in (
        record {
          limit = subst (λ (s : ReaderState). length file ≤ s.limit) (sym is) stood.limit;
          within = omega (arith, long, low_place);
          held = held_is;
          sum = added (behind_sum (take place file)) before ∙ ap plain_sum whole;
        },
        λ empty. let zero_is = ltb-false 0 count empty in omega (arith, long, many),
      )

  filled : (o : Option (List ℕ)) → IfSome o (λ file. take count piece ≡ take room (drop place file))
      → IfSome o (λ file. StandsIn old file → StandsIn filled_with file × (ltb 0 count ≡ false
      → min to (length file) ≤ place))
  filled None got = tt
  filled (Some file) got = λ stood. stands_filled file got stood

-- an empty reader that read a piece, where the view tells its file
pub fill_told : (view : Option View) (old : ReaderState) (name held piece : List ℕ)
    (place limit sum sum2 count room to : ℕ) → holding name held place limit sum ≡ old → old.held ≡ []
    → count ≤ length piece → room ≡ min (to - place) 4096 → to ≤ old.limit
    → ((front : List ℕ) → IsPlainSumOf sum front → IsPlainSumOf sum2 (front ++ drop (8 - place) (take count piece)))
    → IfSome (bytes_in view name) (λ file. take count piece ≡ take room (drop place file))
    → IfSome (bytes_in view old.name) (λ file. StandsIn old file
    → StandsIn (holding name (take (count - 0) piece) place limit sum2) file × (ltb 0 count ≡ false
    → min to (length file) ≤ place))
fill_told view old name held piece place limit sum sum2 count room to is none within room_is low added got =
    let held_is : held ≡ [] = ap (λ (s : ReaderState). s.held) is ∙ none in
    let empty : holding name [] place limit sum ≡ old = ap (λ h. holding name h place limit sum) (sym held_is) ∙ is in
    let name_is : name ≡ old.name = ap (λ (s : ReaderState). s.name) is in
    let limit_is : to ≤ limit = subst (λ (s : ReaderState). to ≤ s.limit) (sym is) low in
    filled old name piece place limit sum sum2 count room to empty within room_is limit_is added
    (bytes_in view old.name)
    (subst (λ n. IfSome (bytes_in view n) (λ file. take count piece ≡ take room (drop place file))) name_is got)

-- what a filled reader is told makes it stay
pub filled_stays : (o : Option (List ℕ)) (old new : ReaderState) (End : List ℕ → Type 0)
    → IfSome o (λ file. StandsIn old file → StandsIn new file × End file) → Stays o old new
filled_stays None old new End told = λ file is stands. cc
filled_stays (Some other) old new End told = λ file is stands. let same : other ≡ file = cc in
    subst (λ f. StandsIn new f) same (told (subst (λ f. StandsIn old f) (sym same) stands)).0

-- one call behind another
pub stays_on : (o p : Option (List ℕ)) (old now new : ReaderState) → p ≡ o → Stays o old now → Stays p now new
    → Stays o old new
stays_on o p old now new same first behind file is stands = behind file (same ∙ is) (first file is stands)

-- nothing was left before the place
pub skipped_all : (o p : Option (List ℕ)) (old now new : ReaderState) (more : Bool) (to : ℕ) → p ≡ o → Stays o old now
    → more ≡ false → IfSome p (λ file. StandsIn now file → StandsIn new file
    × (more ≡ false → min to (length file) ≤ new.place))
    → (file : List ℕ) → o ≡ Some file → StandsIn old file → min to (length file) ≤ new.place
skipped_all o p old now new more to same stays none told file is stands =
    (subst (λ q. IfSome q (λ f. StandsIn now f → StandsIn new f × (more ≡ false → min to (length f) ≤ new.place))) (same
    ∙ is) told (stays file is stands)).1 none

-- ---- the front of what is held

-- what is held of a piece
abbrev pub held_of : List ℕ → ℕ → ℕ → List ℕ
held_of piece start end = take (end - start) (drop start piece)

held_behind : (piece : List ℕ) (start end at : ℕ) → at < length (held_of piece start end)
    → drop (suc at) (held_of piece start end) ≡ held_of piece (start + (at + 1)) end
held_behind piece start end at within =
    let room : end - start ≡ suc at + (end - (start + (at + 1))) =
    omega (arith, length-take (end - start) (drop start piece)) in
    let place : start + suc at ≡ start + (at + 1) = omega arith in
    ap (λ n. drop (suc at) (take n (drop start piece))) room
    ∙ (drop-take (suc at) (end - (start + (at + 1))) (drop start piece)
    ∙ (ap (take (end - (start + (at + 1)))) (drop-drop (suc at) start piece)
    ∙ ap (λ n. take (end - (start + (at + 1))) (drop n piece)) place))

pub held_split : (piece : List ℕ) (start end at : ℕ) → at < length (held_of piece start end)
    → get_or (held_of piece start end) at 0 ≡ 10
    → held_of piece start end ≡ take at (held_of piece start end) ++ 10 ∷ held_of piece (start + (at + 1)) end
held_split piece start end at within is =
    let held = held_of piece start end in
    let rest = held_behind piece start end at within in
    sym (take-append-drop at held) ∙ ap (λ behind. take at held ++ behind) (drop-cons held at 0 within
    ∙ (ap (λ b. b ∷ drop (suc at) held) is ∙ ap (λ behind. 10 ∷ behind) rest))

pub takes_some : (old : ReaderState) (name line longer piece : List ℕ) (start end place limit sum at : ℕ)
    → holding name (held_of piece start end) place limit sum ≡ old
    → longer ≡ line ++ take at (held_of piece start end) → at < length (held_of piece start end)
    → get_or (held_of piece start end) at 0 ≡ 10 → NoLfBefore (held_of piece start end) at
    → Takes old (holding name (held_of piece (start + (at + 1)) end) (place + (at + 1)) limit sum) line longer true
takes_some old name line longer piece start end place limit sum at is items within found none =
    let held_is : held_of piece start end ≡ old.held = ap (λ (s : ReaderState). s.held) is in
    let place_is : place ≡ old.place = ap (λ (s : ReaderState). s.place) is in (
      take at (held_of piece start end),
      (
        items,
        no_lf_front at (held_of piece start end) none within,
        sym held_is
            ∙ held_split piece start end at within found,
        omega (arith, length-take at (held_of piece start end)),
      ),
    )

pub takes_none : (old : ReaderState) (name line longer piece : List ℕ) (start end place limit sum : ℕ)
    → holding name (held_of piece start end) place limit sum ≡ old
    → longer ≡ line ++ held_of piece start end → NoLfBefore (held_of piece start end) (length (held_of piece start end))
    → Takes old (holding name (held_of piece end end) (place + length (held_of piece start end)) limit sum) line longer
    false
takes_none old name line longer piece start end place limit sum is items none =
    let held_is : held_of piece start end ≡ old.held = ap (λ (s : ReaderState). s.held) is in
    let place_is : place ≡ old.place = ap (λ (s : ReaderState). s.place) is in
    let zero_is : end - end ≡ 0 = omega arith in (
      held_of piece start end,
      (
        items,
        no_lf_all (held_of piece start end) none,
        sym held_is,
        ap (λ n. take n (drop end piece)) zero_is,
        omega arith,
      ),
    )

-- ---- what is passed over

held_within : (old : ReaderState) (name piece : List ℕ) (start end place limit sum count : ℕ)
    → holding name (held_of piece start end) place limit sum ≡ old → count ≤ length old.held → count ≤ end - start
held_within old name piece start end place limit sum count is fits =
    let long : length (held_of piece start end) ≡ length old.held = ap (λ (s : ReaderState). length s.held) is in
    omega (arith, length-take (end - start) (drop start piece))

pub held_past : (old : ReaderState) (name piece : List ℕ) (start end place limit sum count : ℕ)
    → holding name (held_of piece start end) place limit sum ≡ old → count ≤ length old.held
    → held_of piece (start + count) end ≡ drop count old.held
held_past old name piece start end place limit sum count is fits =
    let within = held_within old name piece start end place limit sum count is fits in
    let room : end - start ≡ count + (end - (start + count)) = omega arith in
    sym (ap (λ (s : ReaderState). drop count s.held) (sym is)
    ∙ (ap (λ n. drop count (take n (drop start piece))) room
    ∙ (drop-take count (end - (start + count)) (drop start piece) ∙ ap (take (end - (start + count)))
    (drop-drop count start piece))))

pub passed_over : (old : ReaderState) (name piece : List ℕ) (start end place limit sum count : ℕ)
    → holding name (held_of piece start end) place limit sum ≡ old → count ≤ length old.held
    → take (start + count - start) (drop start piece) ≡ take count old.held
passed_over old name piece start end place limit sum count is fits =
    let within = held_within old name piece start end place limit sum count is fits in
    let many : start + count - start ≡ count = omega arith in
    ap (λ n. take n (drop start piece)) many ∙ (sym (take-take count (end - start) (drop start piece) within)
    ∙ ap (λ (s : ReaderState). take count s.held) is)

-- ---- a whole line

-- what was left at the start is the line so far and what is left now
abbrev pub Going : Option (List ℕ) → ReaderState → ReaderState → List ℕ → Type 0
Going None start now line = Unit {0}
Going (Some file) start now line = StandsIn start file → StandsIn now file
    × (drop start.place file ≡ line ++ drop now.place file)

pub going_start : (o : Option (List ℕ)) (start : ReaderState) → Going o start start []
going_start None start = tt
going_start (Some file) start = λ stands. (stands, refl)

-- what is held is in front of what is left
left_is : (now : ReaderState) (file : List ℕ) → StandsIn now file → drop now.place file ≡ now.held ++ drop
    (now.place + length now.held) file
left_is now file stands =
    sym (take-append-drop (length now.held) (drop now.place file))
    ∙ (ap (λ front. front ++ drop (length now.held) (drop now.place file)) (sym stands.held)
    ∙ ap (λ rest. now.held ++ rest) (drop-drop (length now.held) now.place file))

front_gone : (now new : ReaderState) (front file : List ℕ) → StandsIn now file → now.held ≡ front ++ 10 ∷ new.held
    → new.place ≡ now.place + length front + 1 → drop new.place file ≡ new.held ++ drop (now.place + length now.held)
    file
front_gone now new front file stands held_is place_is =
    let parts : drop now.place file ≡ (front ++ 10 ∷ []) ++ (new.held ++ drop (now.place + length now.held) file) =
    left_is now file stands ∙ (ap (λ h. h ++ drop (now.place + length now.held) file) held_is
    ∙ (append_assoc front (10 ∷ new.held) _ ∙ sym (append_assoc front (10 ∷ []) _))) in
    let many : new.place ≡ now.place + length (front ++ 10 ∷ []) = omega (arith, length-append front (10 ∷ [])) in
    ap (λ n. drop n file) many ∙ (sym (drop-drop (length (front ++ 10 ∷ [])) now.place file)
    ∙ (ap (drop (length (front ++ 10 ∷ []))) parts ∙ drop-append_seam (front ++ 10 ∷ []) _))

-- the next bytes up to LF are gone
stands_on : (now new : ReaderState) (front file : List ℕ) → StandsIn now file → Kept now new
    → now.held ≡ front ++ 10 ∷ new.held → new.place ≡ now.place + length front + 1 → StandsIn new file
stands_on now new front file stands kept held_is place_is =
    let long : length now.held ≡ length front + suc (length new.held) = ap length held_is
    ∙ length-append front (10 ∷ new.held) in
    stands_behind now new file kept (omega arith)
    (sym (ap (take (length new.held)) (front_gone now new front file stands held_is place_is)
    ∙ take-append_seam new.held _)) stands

next_is : (now new : ReaderState) (front file : List ℕ) → StandsIn now file → now.held ≡ front ++ 10 ∷ new.held
    → new.place ≡ now.place + length front + 1 → drop now.place file ≡ front ++ 10 ∷ drop new.place file
next_is now new front file stands held_is place_is =
    left_is now file stands
    ∙ (ap (λ h. h ++ drop (now.place + length now.held) file) held_is
    ∙ (append_assoc front (10 ∷ new.held) _ ∙ ap (λ rest. front ++ 10 ∷ rest)
    (sym (front_gone now new front file stands held_is place_is))))

cut_front : (start now new : ReaderState) (line front file : List ℕ) → drop start.place file ≡ line
    ++ drop now.place file → drop now.place file ≡ front ++ 10 ∷ drop new.place file → HasNoLf (line ++ front)
    → cut (drop start.place file) ≡ record {
      lines = (line ++ front) ∷ (cut (drop new.place file)).lines;
      tail =
          (cut (drop new.place file)).tail;
    }
cut_front start now new line front file whole next none =
    ap cut (whole ∙ (ap (λ rest. line ++ rest) next ∙ sym (append_assoc line front (10 ∷ drop new.place file))))
    ∙ cut_line (line ++ front) (drop new.place file) none

no_lf_append : (line front : List ℕ) → HasNoLf line → HasNoLf front → HasNoLf (line ++ front)
no_lf_append line front none more = All-append (λ b. b ≢ 10) line front none more

-- a front up to LF ends the line
pub line_taken : (o : Option (List ℕ)) (start now new : ReaderState) (line longer : List ℕ) → Going o start now line
    → HasNoLf line → Kept now new → Takes now new line longer true → TakesLine o start new longer true
line_taken None start now new line longer going none kept takes = tt
line_taken (Some file) start now new line longer going none kept takes = λ stands.
    let here = going stands in
    let front = takes.0 in
    let next = next_is now new front file here.0 takes.1.2 takes.1.3 in (
      stands_on now new front file here.0 kept takes.1.2 takes.1.3,
      rw takes.1.0 (cut_front start now new line front file here.1 next (no_lf_append line front none takes.1.1)),
    )

pub line_without : (now new : ReaderState) (line longer : List ℕ) (ended : Bool) → HasNoLf line
    → Takes now new line longer ended → HasNoLf longer
line_without now new line longer true none takes = rw takes.1.0 (no_lf_append line takes.0 none takes.1.1)
line_without now new line longer false none takes = rw takes.1.0 (no_lf_append line takes.0 none takes.1.1)

-- a reader that gave all that it held still stands
gone_stands_in : (now gone : ReaderState) (line longer file : List ℕ) → StandsIn now file → Kept now gone
    → Takes now gone line longer false → StandsIn gone file
gone_stands_in now gone line longer file here kept takes =
    let long : length now.held ≡ length takes.0 = ap length takes.1.2 in
    stands_behind now gone file kept (omega (arith, takes.1.4, long, ap length takes.1.3)) (takes.1.3
    ∙ ap (λ n. take n (drop gone.place file)) (sym (ap length takes.1.3))) here

-- all that was held went to the line, and a piece may have been read
pub going_on : (o : Option (List ℕ)) (start now gone new : ReaderState) (line longer : List ℕ) (more : Bool)
    → Going o start now line → Kept now gone → Takes now gone line longer false
    → IfSome o (λ file. StandsIn gone file → StandsIn new file × (more ≡ false → new.place ≡ length file))
    → new.place ≡ gone.place → Going o start new longer
going_on None start now gone new line longer more going kept takes filled place_is = tt
going_on (Some file) start now gone new line longer more going kept takes filled place_is = λ stands.
    let here = going stands in
    let front = takes.0 in
    let held_is : now.held ≡ front = takes.1.2 in
    let long : length now.held ≡ length front = ap length held_is in
    let gone_stands = gone_stands_in now gone line longer file here.0 kept takes in
    let place : now.place + length now.held ≡ new.place = omega (arith, takes.1.4) in
    let rest : drop now.place file ≡ front ++ drop new.place file = left_is now file here.0
    ∙ (ap (λ h. h ++ drop (now.place + length now.held) file) held_is ∙ ap (λ n. front ++ drop n file) place) in (
      (filled gone_stands).0,
      here.1 ∙ (ap (λ r. line ++ r) rest ∙ (sym (append_assoc line front (drop new.place file))
          ∙ ap (λ l. l ++ drop new.place file) (sym takes.1.0))),
    )

-- the same, where the view is the same and the name too
pub going_on_by : (o p : Option (List ℕ)) (start now gone new : ReaderState) (line longer : List ℕ) (more : Bool)
    → p ≡ o → Going o start now line → Kept now gone → Takes now gone line longer false
    → IfSome p (λ file. StandsIn gone file → StandsIn new file × (more ≡ false → new.place ≡ length file))
    → new.place ≡ gone.place → Going o start new longer
going_on_by o p start now gone new line longer more is going kept takes filled place_is =
    going_on o start now gone new line longer more going kept takes
    (subst (λ q. IfSome q (λ file. StandsIn gone file → StandsIn new file
    × (more ≡ false → new.place ≡ length file))) is filled) place_is

pub same_file : (a b : Option View) (m n : List ℕ) → a ≡ b → m ≡ n → bytes_in a m ≡ bytes_in b n
same_file a b m n views names = ap (λ v. bytes_in v m) views ∙ ap (bytes_in b) names

-- nothing more could be read
pub line_over : (o p : Option (List ℕ)) (start now gone new : ReaderState) (line longer : List ℕ) → p ≡ o
    → Going o start now line → HasNoLf line → Kept now gone → Takes now gone line longer false
    → IfSome p (λ file. StandsIn gone file → StandsIn new file × (false ≡ false → new.place ≡ length file))
    → new.place ≡ gone.place → TakesLine o start new longer false
line_over None p start now gone new line longer is going none kept takes filled place_is = tt
line_over (Some file) p start now gone new line longer is going none kept takes filled place_is = λ stands.
    let here = going stands in
    let on = going_on_by (Some file) p start now gone new line longer false is going kept takes filled place_is
    stands in
    let told = subst (λ q. IfSome q (λ file. StandsIn gone file → StandsIn new file
    × (false ≡ false → new.place ≡ length file))) is filled in
    let gone_stands : StandsIn gone file = gone_stands_in now gone line longer file here.0 kept takes in
    let end : drop new.place file ≡ [] = drop_all new.place file (omega (arith, (told gone_stands).1 refl)) in (
      on.0,
      ap cut (on.1 ∙ (ap (λ r. longer ++ r) end ∙ append-nil longer))
          ∙ cut_tail longer (line_without now gone line longer false none takes),
    )

-- at the arm of a test
pub takes_at : (old new : ReaderState) (line longer : List ℕ) (a b : Bool) → a ≡ b → Takes old new line longer a
    → Takes old new line longer b
takes_at old new line longer a b is takes = subst (λ e. Takes old new line longer e) is takes

pub filled_at : (o : Option (List ℕ)) (gone new : ReaderState) (a b : Bool) → a ≡ b
    → IfSome o (λ file. StandsIn gone file → StandsIn new file × (a ≡ false → new.place ≡ length file))
    → IfSome o (λ file. StandsIn gone file → StandsIn new file × (b ≡ false → new.place ≡ length file))
filled_at o gone new a b is filled = subst (λ e. IfSome o (λ file. StandsIn gone file → StandsIn new file
    × (e ≡ false → new.place ≡ length file))) is filled

pub later_place : (now gone : ReaderState) (line longer : List ℕ) (start new : ℕ) → now.place ≡ start + length line
    → Takes now gone line longer false → new ≡ gone.place → new ≡ start + length longer
later_place now gone line longer start new here takes is =
    let long : length longer ≡ length line + length takes.0 = ap length takes.1.0 ∙ length-append line takes.0 in
    omega (arith, takes.1.4)

pub past_place : (now new : ReaderState) (line longer : List ℕ) (start : ℕ) → now.place ≡ start + length line
    → Takes now new line longer true → new.place ≡ start + length longer + 1
past_place now new line longer start here takes =
    let long : length longer ≡ length line + length takes.0 = ap length takes.1.0 ∙ length-append line takes.0 in
    omega (arith, takes.1.3)

-- ---- a line that is held whole

held_line_takes : (old new : ReaderState) (line : List ℕ) (count : ℕ) → HasNoLf line → length line ≡ count
    → take (count + 1) old.held ≡ line ++ 10 ∷ [] → new.held ≡ drop (count + 1) old.held
    → new.place ≡ old.place + (count + 1) → Takes old new [] line true
held_line_takes old new line count none long front held_is place_is =
    let rest : line ++ 10 ∷ drop (count + 1) old.held ≡ line ++ 10 ∷ new.held =
    ap (λ h. line ++ 10 ∷ h) (sym held_is) in
    let held : old.held ≡ line ++ 10 ∷ new.held = sym (take-append-drop (count + 1) old.held)
    ∙ (ap (λ f. f ++ drop (count + 1) old.held) front ∙ (append_assoc line (10 ∷ []) (drop (count + 1) old.held)
    ∙ rest)) in
    (line, (refl, none, held, omega arith))

pub held_line_taken : (o : Option (List ℕ)) (old new : ReaderState) (line : List ℕ) (count : ℕ) → HasNoLf line
    → length line ≡ count → take (count + 1) old.held ≡ line ++ 10 ∷ []
    → Kept old new → new.held ≡ drop (count + 1) old.held → new.place ≡ old.place + (count + 1)
    → TakesLine o old new line true
held_line_taken o old new line count none long front kept held_is place_is =
    line_taken o old old new [] line (going_start o old) (All-nil (λ b. b ≢ 10)) kept
    (held_line_takes old new line count none long front held_is place_is)

-- what is held behind a line and its LF
pub held_past_line : (old : ReaderState) (name piece : List ℕ) (start end place limit sum count : ℕ)
    → holding name (held_of piece start end) place limit sum ≡ old → count < length old.held
    → held_of piece (start + count + 1) end ≡ drop (count + 1) old.held
held_past_line old name piece start end place limit sum count is fits =
    let from : start + count + 1 ≡ start + (count + 1) = omega arith in
    ap (λ n. held_of piece n end) from ∙ held_past old name piece start end place limit sum (count + 1) is (omega arith)

-- ---- the sums

-- the sums are those of what stands between the start and now
abbrev pub Summing : Option (List ℕ) → ReaderState → ReaderState → ℕ × ℕ → Type 0
Summing None start now sum = Unit {0}
Summing (Some file) start now sum = StandsIn start file → StandsIn now file × ((front : List ℕ) × IsSumOf sum front
    × (drop start.place file ≡ front ++ drop now.place file))

emptied_stands : (now gone : ReaderState) (file : List ℕ) → StandsIn now file → Kept now gone → gone.held ≡ []
    → gone.place ≡ now.place + length now.held → StandsIn gone file
emptied_stands now gone file here kept held_is place_is =
    stands_behind now gone file kept (omega (arith, ap length held_is)) (held_is
    ∙ ap (λ n. take n (drop gone.place file)) (sym (ap length held_is))) here

pub summing_on : (o p : Option (List ℕ)) (start now gone new : ReaderState) (sum more_sum : ℕ × ℕ) (more : Bool) → p ≡ o
    → Summing o start now sum → Kept now gone → gone.held ≡ [] → gone.place ≡ now.place + length now.held
    → ((front : List ℕ) → IsSumOf sum front → IsSumOf more_sum (front ++ now.held))
    → IfSome p (λ file. StandsIn gone file → StandsIn new file × (more ≡ false → new.place ≡ length file))
    → new.place ≡ gone.place → Summing o start new more_sum
summing_on None p start now gone new sum more_sum more is summing kept held_is place_is adds read new_is = tt
summing_on (Some file) p start now gone new sum more_sum more is summing kept held_is place_is adds read new_is =
    λ stands.
    let here = summing stands in
    let told = subst (λ q. IfSome q (λ file. StandsIn gone file → StandsIn new file
    × (more ≡ false → new.place ≡ length file))) is read in
    let place : now.place + length now.held ≡ new.place = omega arith in
    let rest : drop now.place file ≡ now.held ++ drop new.place file = left_is now file here.0
    ∙ ap (λ n. now.held ++ drop n file) place in (
      (told (emptied_stands now gone file here.0 kept held_is place_is)).0,
      (
        here.1.0 ++ now.held,
        adds here.1.0 here.1.1,
        here.1.2 ∙ (ap (λ r. here.1.0 ++ r) rest
            ∙ sym (append_assoc here.1.0 now.held (drop new.place file))),
      ),
    )

pub summing_end : (o p : Option (List ℕ)) (start now gone new : ReaderState) (sum more_sum : ℕ × ℕ) → p ≡ o
    → Summing o start now sum → Kept now gone → gone.held ≡ [] → gone.place ≡ now.place + length now.held
    → ((front : List ℕ) → IsSumOf sum front → IsSumOf more_sum (front ++ now.held))
    → IfSome p (λ file. StandsIn gone file → StandsIn new file × (false ≡ false → new.place ≡ length file))
    → new.place ≡ gone.place → IfSome o (λ file. StandsIn start file → IsSumOf more_sum (drop start.place file))
summing_end None p start now gone new sum more_sum is summing kept held_is place_is adds read new_is = tt
summing_end (Some file) p start now gone new sum more_sum is summing kept held_is place_is adds read new_is = λ stands.
    let here = summing stands in
    let on = summing_on (Some file) p start now gone new sum more_sum false is summing kept held_is place_is adds read
    new_is stands in
    let told = subst (λ q. IfSome q (λ file. StandsIn gone file → StandsIn new file
    × (false ≡ false → new.place ≡ length file))) is read in
    let end : drop new.place file ≡ [] =
    drop_all new.place file (omega (
      arith,
      (told (emptied_stands now gone file here.0 kept held_is place_is)).1
          refl,
    )) in
    let whole : drop start.place file ≡ on.1.0 = on.1.2 ∙ (ap (λ r. on.1.0 ++ r) end ∙ append-nil on.1.0) in
    subst (λ bytes. IsSumOf more_sum bytes) (sym whole) on.1.1

-- ---- a reader that stays in its file

pub going_stays : (o : Option (List ℕ)) (start now : ReaderState) (line : List ℕ) → Going o start now line
    → Stays o start now
going_stays None start now line going = λ file is stands. cc
going_stays (Some other) start now line going = λ file is stands. let same : other ≡ file = cc in
    subst (λ f. StandsIn now f) same (going (subst (λ f. StandsIn start f) (sym same) stands)).0

pub line_stays : (o : Option (List ℕ)) (start new : ReaderState) (line : List ℕ) (ended : Bool)
    → TakesLine o start new line ended → Stays o start new
line_stays None start new line ended takes = λ file is stands. cc
line_stays (Some other) start new line ended takes = λ file is stands. let same : other ≡ file = cc in
    subst (λ f. StandsIn new f) same (takes (subst (λ f. StandsIn start f) (sym same) stands)).0

pub gone_stays : (o : Option (List ℕ)) (now gone : ReaderState) (line longer : List ℕ) → Kept now gone
    → Takes now gone line longer false → Stays o now gone
gone_stays o now gone line longer kept takes file is here = gone_stands_in now gone line longer file here kept takes

-- all that was held was let go
pub emptied_stays : (o : Option (List ℕ)) (now gone : ReaderState) → Kept now gone → gone.held ≡ []
    → gone.place ≡ now.place + length now.held → Stays o now gone
emptied_stays o now gone kept held_is place_is file is here = emptied_stands now gone file here kept held_is place_is

-- ---- what is read behind the held bytes

-- held bytes that were moved to the front of a piece, and more of the file behind them
stands_on_behind : (old : ReaderState) (name piece piece2 : List ℕ) (start end place limit sum sum2 count room : ℕ)
    → holding name (held_of piece start end) place limit sum ≡ old
    → start ≤ end → end ≤ length piece → take (end - start) piece2 ≡ held_of piece start end
    → count ≤ length (drop (end - start) piece2) → room ≤ 4096 → place + (end - start) + room ≤ limit
    → ((front : List ℕ) → IsPlainSumOf sum front → IsPlainSumOf sum2 (front ++ drop (8 - (place + (end - start)))
    (take count (drop (end - start) piece2))))
    → (file : List ℕ) → take count (drop (end - start) piece2) ≡ take room (drop (place + (end - start)) file)
    → StandsIn old file → StandsIn (holding name (take (end - start + count - 0) piece2) place limit sum2) file
stands_on_behind old name piece piece2 start end place limit sum sum2 count room is order within same fits small low
    added file got stood =
    let h = end - start in
    let place_is : place ≡ old.place = ap (λ (s : ReaderState). s.place) is in
    let held_is : held_of piece start end ≡ old.held = ap (λ (s : ReaderState). s.held) is in
    let long : length old.held ≡ h = sym (ap length held_is) ∙ omega (
      arith,
      length-take h (drop start piece),
      length-drop start piece,
    ) in
    let gone = holding name [] (place + h) limit sum in
    let empty : StandsIn gone file = emptied_stands old gone file stood (
      ap (λ (s : ReaderState). s.limit) is,
      ap (λ (s : ReaderState). s.sum) is,
    ) refl (omega (arith, place_is, long)) in
    let filled = (stands_filled gone name (drop h piece2) (place + h) limit sum sum2 count room (place + h + room) refl
    fits (omega arith) low added file got empty).0 in
    let rest = drop place file in
    let front : take h piece2 ≡ take h rest = same
    ∙ (held_is ∙ (stood.held ∙ (ap (λ n. take n (drop old.place file)) long ∙ ap (λ p. take h (drop p file))
    (sym place_is)))) in
    let back : take count (drop h piece2) ≡ take room (drop h rest) = got
    ∙ ap (take room) (sym (drop-drop h place file)) in
    let whole : take (h + count) piece2 ≡ take (h + room) rest = take-add h count piece2
    ∙ (ap (λ f. f ++ take count (drop h piece2)) front ∙ (ap (λ b. take h rest ++ b) back
    ∙ sym (take-add h room rest))) in
    let here : take (h + count - 0) piece2 ≡ take (h + room) rest = ap (λ n. take n piece2) (omega arith) ∙ whole in
    stands_behind (holding name (take (count - 0) (drop h piece2)) (place + h) limit sum2)
    (holding name (take (h + count - 0) piece2) place limit sum2) file (refl, refl)
    (omega (
      arith,
      length-take (h + count - 0) piece2,
      length-take (count - 0) (drop h piece2),
      length-drop h piece2,
      fits,
      ap length same,
      length-take h piece2,
      length-take h (drop start piece),
      length-drop start piece,
    ))
    (here ∙ (take_long (h + room) rest ∙ ap (λ bytes. take (length bytes) rest) (sym here))) filled

pub read_on_stays : (view : Option View) (old : ReaderState) (name piece piece2 : List ℕ)
    (start end place limit sum sum2 count room : ℕ) → holding name (held_of piece start end) place limit sum ≡ old
    → start ≤ end → end ≤ length piece → take (end - start) piece2 ≡ held_of piece start end
    → count ≤ length (drop (end - start) piece2) → room ≤ 4096 → place + (end - start) + room ≤ limit
    → ((front : List ℕ) → IsPlainSumOf sum front → IsPlainSumOf sum2 (front ++ drop (8 - (place + (end - start)))
    (take count (drop (end - start) piece2))))
    → IfSome (bytes_in view name) (λ file. take count (drop (end - start) piece2) ≡ take room
    (drop (place + (end - start)) file))
    → Stays (bytes_in view old.name) old (holding name (take (end - start + count - 0) piece2) place limit sum2)
read_on_stays view old name piece piece2 start end place limit sum sum2 count room is order within same fits small low
    added got file told stood =
    let P = λ (f : List ℕ). take count (drop (end - start) piece2) ≡ take room (drop (place + (end - start)) f) in
    let name_is : name ≡ old.name = ap (λ (s : ReaderState). s.name) is in
    stands_on_behind old name piece piece2 start end place limit sum sum2 count room is order within same fits small low
    added file
    (subst (λ o. IfSome o P) (ap (bytes_in view) name_is ∙ told) got) stood

-- behind the last LF of a piece nothing that is held has one
pub no_lf_held : (piece : List ℕ) (start end whole : ℕ) → whole ≤ start → start ≤ end
    → HasNoLf (drop whole (take end piece)) → HasNoLf (held_of piece start end)
no_lf_held piece start end whole low order none =
    let many : end ≡ start + (end - start) = omega arith in
    let parts : drop start (take end piece) ≡ held_of piece start end = ap (λ n. drop start (take n piece)) many
    ∙ drop-take start (end - start) piece in
    let again : drop (start - whole) (drop whole (take end piece)) ≡ drop start (take end piece) =
    drop-drop (start - whole) whole (take end piece) ∙ ap (λ n. drop n (take end piece)) (omega arith) in
    subst HasNoLf (again ∙ parts) (All-drop (λ b. b ≢ 10) (start - whole) (drop whole (take end piece)) none)

-- ---- the sum of what was read

-- behind the bytes that were read all is 0, so the sum of a piece is that of its front and of what is read behind it
pub sum_rest : (piece : List ℕ) (count m k total : ℕ) → drop count piece ≡ replicate m 0 → total ≡ sum piece % 65536
    → total ≡ (sum (take k piece) + sum (drop k (take count piece))) % 65536
sum_rest piece count m k total zeros is =
    let back : drop k piece ≡ drop k (take count piece) ++ drop (k - length (take count piece)) (drop count piece) =
    ap (drop k) (sym (take-append-drop count piece)) ∙ drop_both k (take count piece) (drop count piece) in
    let none : sum (drop (k - length (take count piece)) (drop count piece)) ≡ 0 =
    ap (λ z. sum (drop (k - length (take count piece)) z)) zeros
    ∙ (ap sum (drop-replicate (k - length (take count piece)) m 0)
    ∙ (sum_by-replicate (λ b. b) (m - (k - length (take count piece))) 0
    ∙ mul-zero (m - (k - length (take count piece))))) in
    let parts : sum piece ≡ sum (take k piece) + sum (drop k (take count piece)) =
    let whole : sum (take k piece) + sum (drop k piece) ≡ sum piece = sum_by-take-drop (λ b. b) piece k in
    let rest : sum (drop k piece) ≡ sum (drop k (take count piece)) + sum (drop (k - length (take count piece))
    (drop count piece)) = ap sum back ∙ sum_by-append (λ b. b) (drop k (take count piece))
    (drop (k - length (take count piece)) (drop count piece)) in
    omega (arith, whole, rest, none) in
    is ∙ ap (λ n. n % 65536) parts

-- the same where a front stays
pub sum_behind : (piece : List ℕ) (front count m k total : ℕ) → drop count (drop front piece) ≡ replicate m 0
    → total ≡ sum piece % 65536 → total ≡ (sum (take (front + k) piece) + sum (drop k (take count (drop front piece))))
    % 65536
sum_behind piece front count m k total zeros is =
    let same : drop (front + k) (take (front + count) piece) ≡ drop k (take count (drop front piece)) =
    sym (drop-drop k front (take (front + count) piece)) ∙ ap (drop k) (drop-take front count piece) in
    sum_rest piece (front + count) m (front + k) total (sym (drop-drop count front piece) ∙ zeros) is
    ∙ ap (λ bytes. (sum (take (front + k) piece) + sum bytes) % 65536) same
