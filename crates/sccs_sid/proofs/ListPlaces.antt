-- The place of a fault of a list of SIDs.
use Rattle.std.proofs.Common.{◌≡◌, ℕ, zero, suc, ◌+◌, ◌-◌, ◌<◌, ◌≤◌, ◌==◌, Bool, true, false, List, [], ◌∷◌, ◌++◌}
use Rattle.std.proofs.Common.{length, take, None, Some, Result, Ok, Err, refl, sym, ap, ◌∙◌, arith, append_assoc}
use Rattle.std.proofs.Common.{length-append, if◌then◌else◌}
use Rattle.std.proofs.Math.Seq.{take-append_seam}
use Rattle.sccs_sid.specs.Reading.{byte_at}
use Rattle.sccs_sid.specs.SidLists.{component_at, begins, ranges_of, placed, list_of}
use Rattle.sccs_sid.specs.declared.sid_lists.Range.{Range}
use Rattle.sccs_sid.proofs.Components.{component_taken}
use Rattle.sccs_sid.proofs.ListFaults.{Rest, left_of, field_by, byte_by, component, byte, either, sid_then, range_then}
use Rattle.sccs_sid.proofs.ListFaults.{ended, list_then, list_is}
use Rattle.sccs_sid.proofs.ListViable.{Fault, Faults, Begins, component_shorter, range_sound, ended_opens, ended_faults}

-- two rests are the same on bytes shorter than that
abbrev Agree : ℕ → Rest → Rest → Type 0
Agree n a b = (bytes : List ℕ) → length bytes < n → a bytes ≡ b bytes

component_agrees : (n : ℕ) (a b : Rest) → Agree n a b → Agree n (component a) (component b)
component_agrees n a b same bytes short = by_read (component_at bytes) refl
  where
    by_read : (read : Result (ℕ × List ℕ) ℕ) → component_at bytes ≡ read → field_by a read ≡ field_by b read
    by_read (Ok x) is = same x.1 (omega (arith, component_shorter bytes x (component_taken bytes x is)))
    by_read (Err left) is = refl

byte_shorter : (w : ℕ) (bytes after : List ℕ) → byte_at w bytes ≡ Ok after → length after < length bytes
unfolding byte_at
byte_shorter w [] after is = cc
byte_shorter w (b ∷ bytes) after is = chosen (b == w) is
  where
    chosen : (test : Bool) → (if test then Ok bytes else Err (suc (length bytes))) ≡ Ok after
        → length after < length (b ∷ bytes)
    chosen true e = let same : bytes ≡ after = cc in omega (arith, ap length same)
    chosen false e = cc

byte_agrees : (w n : ℕ) (a b : Rest) → Agree n a b → Agree (suc n) (byte w a) (byte w b)
byte_agrees w n a b same bytes short = by_read (byte_at w bytes) refl
  where
    by_read : (read : Result (List ℕ) ℕ) → byte_at w bytes ≡ read → byte_by a read ≡ byte_by b read
    by_read (Ok after) is = same after (omega (arith, byte_shorter w bytes after is))
    by_read (Err left) is = refl

less : (n : ℕ) (a b : Rest) → Agree (suc n) a b → Agree n a b
less n a b same bytes short = same bytes (omega arith)

either_agrees : (w n : ℕ) (a b c d : Rest) → Agree n (byte w a) (byte w b) → Agree n c d
    → Agree n (either w a c) (either w b d)
either_agrees w n a b c d first second bytes short = chosen (begins w bytes)
  where
    chosen : (test : Bool) → (if test then byte w a bytes else c bytes) ≡ (if test then byte w b bytes else d bytes)
    chosen true = first bytes short
    chosen false = second bytes short

dot_agrees : (w n : ℕ) (a b : Rest) → Agree n a b → Agree n (byte w a) (byte w b)
dot_agrees w n a b same = less n (byte w a) (byte w b) (byte_agrees w n a b same)

sid_agrees : (n : ℕ) (a b : Rest) → Agree n a b → Agree n (sid_then a) (sid_then b)
sid_agrees n a b same =
    let branch : Agree n (component (byte 46 (component a))) (component (byte 46 (component b))) =
    component_agrees n (byte 46 (component a)) (byte 46 (component b)) (dot_agrees 46 n (component a) (component b)
    (component_agrees n a b same)) in
    let level : Agree n (either 46 (component (byte 46 (component a))) a) (either 46 (component (byte 46 (component b)))
    b) =
    either_agrees 46 n (component (byte 46 (component a))) (component (byte 46 (component b))) a b
    (dot_agrees 46 n (component (byte 46 (component a))) (component (byte 46 (component b))) branch) same in
    component_agrees n _ _ (dot_agrees 46 n _ _ (component_agrees n _ _ level))

range_agrees : (n : ℕ) (a b : Rest) → Agree n a b → Agree n (range_then a) (range_then b)
range_agrees n a b same =
    sid_agrees n (either 45 (sid_then a) a) (either 45 (sid_then b) b)
    (either_agrees 45 n (sid_then a) (sid_then b) a b (dot_agrees 45 n (sid_then a) (sid_then b)
    (sid_agrees n a b same)) same)

ended_agrees : (n : ℕ) (a b : Rest) → Agree n a b → Agree (suc n) (ended a) (ended b)
ended_agrees n a b same [] short = refl
ended_agrees n a b same (c ∷ bytes) short = byte_agrees 44 n a b same (c ∷ bytes) short

-- more fuel than bytes changes nothing
fuel_same : (n f g : ℕ) → n ≤ f → n ≤ g → Agree n (list_then f) (list_then g)
unfolding list_then
fuel_same zero f g low high bytes short = absurd (omega arith)
fuel_same (suc n) zero g low high bytes short = absurd (omega arith)
fuel_same (suc n) (suc f) zero low high bytes short = absurd (omega arith)
fuel_same (suc n) (suc f) (suc g) low high bytes short =
    range_agrees (suc n) (ended (list_then f)) (ended (list_then g)) (ended_agrees n (list_then f) (list_then g)
    (fuel_same n f g (omega arith) (omega arith))) bytes short

-- a whole list
abbrev whole : Rest
whole bytes = list_then (length bytes + 1) bytes

fuel_enough : (f : ℕ) → Agree f (list_then f) whole
fuel_enough f bytes short = fuel_same (suc (length bytes)) f (length bytes + 1) (omega arith) (omega arith) bytes
    (omega arith)

whole_step : (bytes : List ℕ) → whole bytes ≡ range_then (ended whole) bytes
unfolding list_then
whole_step bytes =
    ap (λ f. list_then f bytes) (add_one (length bytes))
    ∙ range_agrees (suc (length bytes)) (ended (list_then (length bytes))) (ended whole) (ended_agrees (length bytes)
    (list_then (length bytes)) whole (fuel_enough (length bytes))) bytes (omega arith)
  where
    add_one : (n : ℕ) → n + 1 ≡ suc n
    add_one n = omega arith

same_fault : (E F : Rest) (bytes : List ℕ) (left : ℕ) → ((l : List ℕ) → E l ≡ F l) → Fault F bytes left
    → Fault E bytes left
same_fault E F bytes left same f =
    record {
      good = f.good;
      bad = f.bad;
      split = f.split;
      count = f.count;
      goes = λ g gs is. let went = f.goes g gs is in (went.0, same (f.good ++ went.0) ∙ went.1);
      stuck = λ b bs more is. same (f.good ++ (b ∷ more)) ∙ f.stuck b bs more is;
    }

whole_begins : Begins whole
whole_begins =
    let s = range_sound 0 (ended whole) (ended_opens whole) (λ bytes left short is. absurd (omega arith)) in
    (s.begins.0, whole_step s.begins.0 ∙ s.begins.1)

whole_faults : (n : ℕ) → Faults n whole
whole_faults zero bytes left short is = absurd (omega arith)
whole_faults (suc n) bytes left short is =
    let s = range_sound (suc n) (ended whole) (ended_opens whole) (ended_faults n whole whole_begins
    (whole_faults n)) in
    same_fault whole (range_then (ended whole)) bytes left whole_step (s.faults bytes left short (sym (whole_step bytes)
    ∙ is))

read_whole : (bytes : List ℕ) → left_of (ranges_of (length bytes + 1) bytes) ≡ whole bytes
read_whole bytes = list_is (length bytes + 1) bytes

-- bytes without a fault are a list
is_list : (bytes : List ℕ) → whole bytes ≡ None → (ranges : List Range) × (list_of bytes ≡ Ok ranges)
unfolding list_of
is_list bytes none = by_read (ranges_of (length bytes + 1) bytes) (read_whole bytes ∙ none) refl
  where
    by_read : (read : Result (List Range) ℕ) → left_of read ≡ None → ranges_of (length bytes + 1) bytes ≡ read
        → (ranges : List Range) × (placed bytes (ranges_of (length bytes + 1) bytes) ≡ Ok ranges)
    by_read (Ok ranges) ok is = (ranges, ap (placed bytes) is)
    by_read (Err left) ok is = cc

is_fault : (bytes : List ℕ) (left : ℕ) → whole bytes ≡ Some left → list_of bytes ≡ Err (length bytes + 1 - left)
unfolding list_of
is_fault bytes left fault = by_read (ranges_of (length bytes + 1) bytes) (read_whole bytes ∙ fault) refl
  where
    by_read : (read : Result (List Range) ℕ) → left_of read ≡ Some left → ranges_of (length bytes + 1) bytes ≡ read
        → placed bytes (ranges_of (length bytes + 1) bytes) ≡ Err (length bytes + 1 - left)
    by_read (Ok ranges) none is = cc
    by_read (Err l) same is = let e : l ≡ left = cc in ap (placed bytes) is ∙ ap (λ m. Err (length bytes + 1 - m)) e

-- A fault of a list, by its place.
pub record Placed (bytes : List ℕ) (place : ℕ) : Type 0 where
  pub good : List ℕ
  pub bad : List ℕ
  pub split : bytes ≡ good ++ bad
  pub place_is : place ≡ length good + 1
  pub more : List ℕ
  pub ranges : List Range
  pub followed : list_of (good ++ more) ≡ Ok ranges
  pub stays : (b : ℕ) (bs behind : List ℕ) → bad ≡ b ∷ bs → list_of (good ++ (b ∷ behind)) ≡ Err place

followed_by : (good : List ℕ) → ((g : ℕ) (gs : List ℕ) → good ≡ g ∷ gs → (more : List ℕ)
    × (whole (good ++ more) ≡ None)) → (more : List ℕ) × (whole (good ++ more) ≡ None)
followed_by [] goes = whole_begins
followed_by (g ∷ good) goes = goes g good refl

fault_place : (bytes : List ℕ) (left : ℕ) (place : ℕ) → whole bytes ≡ Some left → place ≡ length bytes + 1 - left
    → Placed bytes place
fault_place bytes left place fault is =
    let f = whole_faults (suc (length bytes)) bytes left (omega arith) fault in
    let long = length-append f.good f.bad in
    let here : place ≡ length f.good + 1 = omega (arith, ap length f.split, f.count) in
    let went = followed_by f.good f.goes in
    let list = is_list (f.good ++ went.0) went.1 in
    record {
      good = f.good;
      bad = f.bad;
      split = f.split;
      place_is = here;
      more = went.0;
      ranges = list.0;
      followed = list.1;
      stays = λ b bs behind e. is_fault (f.good ++ (b ∷ behind)) (suc (length behind)) (f.stuck b bs behind e)
          ∙ ap Err (omega (arith, length-append f.good (b ∷ behind)));
    }

pub placed_fault : (bytes : List ℕ) (place : ℕ) → list_of bytes ≡ Err place → Placed bytes place
unfolding list_of
placed_fault bytes place is = by_read (ranges_of (length bytes + 1) bytes) refl
  where
    by_read : (read : Result (List Range) ℕ) → ranges_of (length bytes + 1) bytes ≡ read → Placed bytes place
    by_read (Ok ranges) e = let ok = ap (placed bytes) e in cc
    by_read (Err left) e =
        let at : Err place ≡ Err (length bytes + 1 - left) = sym is ∙ ap (placed bytes) e in
        let same : place ≡ length bytes + 1 - left = cc in
        fault_place bytes left place (sym (read_whole bytes) ∙ ap left_of e) same

-- the bytes before the place can be followed to a list
pub can_follow : (bytes : List ℕ) (place : ℕ) → list_of bytes ≡ Err place → (more : List ℕ) × (ranges : List Range)
    × (list_of (take (place - 1) bytes ++ more) ≡ Ok ranges)
can_follow bytes place is =
    let p = placed_fault bytes place is in
    let front : take (place - 1) bytes ≡ p.good =
    ap (λ k. take k bytes) (omega (arith, p.place_is)) ∙ (ap (take (length p.good)) p.split
    ∙ take-append_seam p.good p.bad) in
    (p.more, p.ranges, ap (λ (l : List ℕ). list_of (l ++ p.more)) front ∙ p.followed)

-- the place is one of the bytes, or the first behind them
pub within_place : (bytes : List ℕ) (place : ℕ) → list_of bytes ≡ Err place → (0 < place) × (place ≤ length bytes + 1)
within_place bytes place is =
    let p = placed_fault bytes place is in
    (omega (arith, p.place_is), omega (arith, p.place_is, ap length p.split, length-append p.good p.bad))

front_with : (good bad : List ℕ) (b : ℕ) (bs : List ℕ) → bad ≡ b ∷ bs → take (length good + 1) (good ++ bad) ≡ good
    ++ (b ∷ [])
front_with good bad b bs is =
    let long : length (good ++ (b ∷ [])) ≡ length good + 1 = length-append good (b ∷ []) in
    ap (λ (l : List ℕ). take (length good + 1) (good ++ l)) is
    ∙ (ap (take (length good + 1)) (sym (append_assoc good (b ∷ []) bs))
    ∙ (ap (λ k. take k ((good ++ (b ∷ [])) ++ bs)) (sym long) ∙ take-append_seam (good ++ (b ∷ [])) bs))

-- with the byte at the place the fault stays where it is, whatever follows
pub stays_fault : (bytes : List ℕ) (place : ℕ) → list_of bytes ≡ Err place → place ≤ length bytes → (more : List ℕ)
    → list_of (take place bytes ++ more) ≡ Err place
stays_fault bytes place is within more =
    let p = placed_fault bytes place is in by_bad p p.bad refl
  where
    by_bad : (p : Placed bytes place) (bad : List ℕ) → p.bad ≡ bad → list_of (take place bytes ++ more) ≡ Err place
    by_bad p [] none = absurd (omega (arith, p.place_is, ap length p.split, length-append p.good p.bad, ap length none))
    by_bad p (b ∷ bs) e =
        let front : take place bytes ≡ p.good ++ (b ∷ []) = ap (λ k. take k bytes) p.place_is
        ∙ (ap (take (length p.good + 1)) p.split ∙ front_with p.good p.bad b bs e) in
        ap (λ (l : List ℕ). list_of (l ++ more)) front ∙ (ap list_of (append_assoc p.good (b ∷ []) more)
        ∙ p.stays b bs more e)
