-- The bytes before the fault of a list of SIDs can be followed to a list, and with the byte there they can't.
use Rattle.std.proofs.Common.{◌≡◌, ℕ, suc, ◌<◌, ◌==◌, false, List, [], ◌∷◌, ◌++◌, length, None, Some, Result, Ok, Err}
use Rattle.std.proofs.Common.{refl, sym, ap, subst, ◌∙◌, arith, inl, inr, append_assoc, length-append, eq-eqb, lit<}
use Rattle.std.proofs.Common.{if◌then◌else◌}
use Rattle.std.proofs.lemmas.Bool.Decides.{eqb_tells}
use Rattle.std.specs.Char.{IsNotAsciiDigit}
use Rattle.sccs_sid.specs.Reading.{byte_at}
use Rattle.sccs_sid.specs.SidLists.{component_at, begins}
use Rattle.sccs_sid.proofs.Decimals.{NoDigit}
use Rattle.sccs_sid.proofs.Components.{Component, component_taken, component_fault, component_one}
use Rattle.sccs_sid.proofs.ListFaults.{Rest, field_by, byte_by, component, byte, either, sid_then, range_then, ended}

-- A fault: the bytes before it, and those from it on. After at least one byte it can be followed to an end.
pub record Fault (rest : Rest) (bytes : List ℕ) (left : ℕ) : Type 0 where
  pub good : List ℕ
  pub bad : List ℕ
  pub split : bytes ≡ good ++ bad
  pub count : length bad ≡ left
  pub goes : (g : ℕ) (gs : List ℕ) → good ≡ g ∷ gs → (more : List ℕ) × (rest (good ++ more) ≡ None)
  pub stuck : (b : ℕ) (bs more : List ℕ) → bad ≡ b ∷ bs → rest (good ++ (b ∷ more)) ≡ Some (suc (length more))

-- each fault of bytes shorter than that
abbrev pub Faults : ℕ → Rest → Type 0
Faults n rest = (bytes : List ℕ) (left : ℕ) → length bytes < n → rest bytes ≡ Some left → Fault rest bytes left

-- some bytes have no fault
abbrev pub Begins : Rest → Type 0
Begins rest = (bytes : List ℕ) × (rest bytes ≡ None)

-- some bytes that begin with no digit have none
abbrev pub Opens : Rest → Type 0
Opens rest = (bytes : List ℕ) × NoDigit bytes × (rest bytes ≡ None)

-- the same function of bytes that begin with this one
transfer : (E F : Rest) (b : ℕ) (bs : List ℕ) (left : ℕ) → ((l : List ℕ) → E (b ∷ l) ≡ F (b ∷ l))
    → Fault F (b ∷ bs) left → Fault E (b ∷ bs) left
transfer E F b bs left same f =
    record {
      good = f.good;
      bad = f.bad;
      split = f.split;
      count = f.count;
      goes = λ g gs is. let went = f.goes g gs is in (went.0, begun f.good f.bad g gs went.0 f.split is ∙ went.1);
      stuck = λ d ds more is. met f.good f.bad d ds more f.split is ∙ f.stuck d ds more is;
    }
  where
    begun : (good bad : List ℕ) (g : ℕ) (gs more : List ℕ) → b ∷ bs ≡ good ++ bad → good ≡ g ∷ gs
        → E (good ++ more) ≡ F (good ++ more)
    begun [] bad g gs more split is = cc
    begun (x ∷ xs) bad g gs more split is =
        let first : b ≡ x = cc in subst (λ y. E (y ∷ (xs ++ more)) ≡ F (y ∷ (xs ++ more))) first (same (xs ++ more))

    met : (good bad : List ℕ) (d : ℕ) (ds more : List ℕ) → b ∷ bs ≡ good ++ bad → bad ≡ d ∷ ds
        → E (good ++ (d ∷ more)) ≡ F (good ++ (d ∷ more))
    met [] bad d ds more split is =
        let first : b ≡ d = cc in subst (λ y. E (y ∷ more) ≡ F (y ∷ more)) first (same more)
    met (x ∷ xs) bad d ds more split is =
        let first : b ≡ x = cc in subst (λ y. E (y ∷ (xs ++ (d ∷ more))) ≡ F (y ∷ (xs ++ (d ∷ more)))) first
        (same (xs ++ (d ∷ more)))

-- a fault where nothing is left
at_end : (E : Rest) (left : ℕ) → 0 ≡ left → Fault E [] left
at_end E left is =
    record { good = []; bad = []; split = refl; count = is; goes = λ g gs e. cc; stuck = λ b bs more e. cc }

component_begins : (rest : Rest) → Opens rest → Begins (component rest)
component_begins rest opens = (49 ∷ opens.0, ap (field_by rest) (component_one opens.0 opens.1) ∙ opens.2)

-- a component that was read, before bytes that begin as the rest did
alike_after : (bytes rest : List ℕ) (n : ℕ) (k : Component bytes n rest) (good : List ℕ) (b : ℕ) (bs more : List ℕ)
    → rest ≡ good ++ (b ∷ bs) → component_at (k.c ∷ (k.cs ++ (good ++ (b ∷ more)))) ≡ Ok (n, good ++ (b ∷ more))
alike_after bytes rest n k [] b bs more is = k.alike b bs more is
alike_after bytes rest n k (g ∷ good) b bs more is = k.alike g (good ++ (b ∷ bs)) (good ++ (b ∷ more)) is

component_goes : (rest : Rest) (bytes after : List ℕ) (n : ℕ) (k : Component bytes n after) (good bad : List ℕ)
    → Opens rest → after ≡ good ++ bad → ((g : ℕ) (gs : List ℕ) → good ≡ g ∷ gs → (more : List ℕ)
    × (rest (good ++ more) ≡ None))
    → (more : List ℕ) × (component rest (k.c ∷ (k.cs ++ (good ++ more))) ≡ None)
component_goes rest bytes after n k [] bad opens split goes = (
  opens.0,
  ap (field_by rest) (k.before opens.0 opens.1)
      ∙ opens.2,
)
component_goes rest bytes after n k (g ∷ good) bad opens split goes =
    let went = goes g good refl in
    (went.0, ap (field_by rest) (k.alike g (good ++ bad) (good ++ went.0) split) ∙ went.1)

component_then : (rest : Rest) (n : ℕ) (bytes : List ℕ) (x : ℕ × List ℕ) (left : ℕ) → Opens rest
    → Component bytes x.0 x.1 → Fault rest x.1 left → Fault (component rest) bytes left
component_then rest n bytes x left opens k f =
    let regroup : (l : List ℕ) → (k.c ∷ (k.cs ++ f.good)) ++ l ≡ k.c ∷ (k.cs ++ (f.good ++ l)) =
    λ l. ap (λ (t : List ℕ). k.c ∷ t) (append_assoc k.cs f.good l) in
    record {
      good = k.c ∷ (k.cs ++ f.good);
      bad = f.bad;
      split = k.split ∙ (ap (λ (l : List ℕ). k.c ∷ (k.cs ++ l)) f.split ∙ sym (regroup f.bad));
      count = f.count;
      goes = λ g gs is. let went = component_goes rest bytes x.1 x.0 k f.good f.bad opens f.split f.goes in
          (went.0, ap (component rest) (regroup went.0) ∙ went.1);
      stuck = λ b bs more is. ap (component rest) (regroup (b ∷ more))
          ∙ (ap (field_by rest) (alike_after bytes x.1 x.0 k f.good b bs more (f.split
          ∙ ap (λ (l : List ℕ). f.good ++ l) is)) ∙ f.stuck b bs more is);
    }

pub component_shorter : (bytes : List ℕ) (x : ℕ × List ℕ) → Component bytes x.0 x.1 → length x.1 < length bytes
component_shorter bytes x k = omega (arith, ap length k.split, length-append k.cs x.1)

component_read : (n : ℕ) (rest : Rest) (bytes : List ℕ) (left : ℕ) (read : Result (ℕ × List ℕ) ℕ) → Opens rest
    → Faults n rest → length bytes < n → component_at bytes ≡ read → field_by rest read ≡ Some left
    → Fault (component rest) bytes left
component_read n rest bytes left (Ok x) opens faults short read is =
    let k = component_taken bytes x read in
    let shorter : length x.1 < n = omega (arith, component_shorter bytes x k) in
    component_then rest n bytes x left opens k (faults x.1 left shorter is)
component_read n rest bytes left (Err l) opens faults short read is =
    let none = component_fault bytes l read in
    let same : l ≡ left = cc in
    record {
      good = none.good;
      bad = none.bad;
      split = none.split;
      count = none.count ∙ same;
      goes = λ g gs e. (49 ∷ opens.0, ap (field_by rest) (none.goes opens.0 opens.1) ∙ opens.2);
      stuck = λ b bs more e. ap (field_by rest) (none.stuck b bs more e);
    }

component_faults : (n : ℕ) (rest : Rest) → Opens rest → Faults n rest → Faults n (component rest)
component_faults n rest opens faults bytes left short is = component_read n rest bytes left (component_at bytes) opens
    faults short refl is

byte_same : (w : ℕ) (bytes : List ℕ) → byte_at w (w ∷ bytes) ≡ Ok bytes
unfolding byte_at
byte_same w bytes = rw (eq-eqb w w refl) refl

byte_other : (w b : ℕ) (bytes : List ℕ) → (b == w) ≡ false → byte_at w (b ∷ bytes) ≡ Err (suc (length bytes))
unfolding byte_at
byte_other w b bytes other = rw other refl

byte_none : (w : ℕ) → byte_at w [] ≡ Err 0
unfolding byte_at
byte_none w = refl

byte_opens : (w : ℕ) (rest : Rest) → IsNotAsciiDigit w → Begins rest → Opens (byte w rest)
byte_opens w rest other begins = (w ∷ begins.0, other, ap (byte_by rest) (byte_same w begins.0) ∙ begins.1)

byte_goes : (w : ℕ) (rest : Rest) (good : List ℕ) → Begins rest → ((g : ℕ) (gs : List ℕ) → good ≡ g ∷ gs
    → (more : List ℕ) × (rest (good ++ more) ≡ None)) → (more : List ℕ) × (byte w rest (w ∷ (good ++ more)) ≡ None)
byte_goes w rest [] begins goes = (begins.0, ap (byte_by rest) (byte_same w begins.0) ∙ begins.1)
byte_goes w rest (g ∷ good) begins goes = let went = goes g good refl in
    (went.0, ap (byte_by rest) (byte_same w ((g ∷ good) ++ went.0)) ∙ went.1)

byte_then : (w : ℕ) (rest : Rest) (bytes : List ℕ) (left : ℕ) → Begins rest → Fault rest bytes left
    → Fault (byte w rest) (w ∷ bytes) left
byte_then w rest bytes left begins f =
    record {
      good = w ∷ f.good;
      bad = f.bad;
      split = ap (λ (l : List ℕ). w ∷ l) f.split;
      count = f.count;
      goes = λ g gs is. byte_goes w rest f.good begins f.goes;
      stuck = λ b bs more is. ap (byte_by rest) (byte_same w (f.good ++ (b ∷ more))) ∙ f.stuck b bs more is;
    }

byte_wrong : (w : ℕ) (rest : Rest) (b : ℕ) (bytes : List ℕ) (left : ℕ) → (b == w) ≡ false → suc (length bytes) ≡ left
    → Fault (byte w rest) (b ∷ bytes) left
byte_wrong w rest b bytes left other is =
    record {
      good = [];
      bad = b ∷ bytes;
      split = refl;
      count = is;
      goes = λ g gs e. cc;
      stuck = λ d ds more e. let first : b ≡ d = cc in subst (λ y. byte w rest (y ∷ more) ≡ Some (suc (length more)))
          first (ap (byte_by rest) (byte_other w b more other));
    }

byte_faults : (w n : ℕ) (rest : Rest) → Begins rest → Faults n rest → Faults (suc n) (byte w rest)
byte_faults w n rest begins faults [] left short is =
    let none = ap (byte_by rest) (byte_none w) in at_end (byte w rest) left cc
byte_faults w n rest begins faults (b ∷ bytes) left short is =
    elim (eqb_tells b w) [
      | inl same ↦
          let goes_on : byte w rest (b ∷ bytes) ≡ rest bytes = ap (λ y. byte w rest (y ∷ bytes)) same.1
          ∙ ap (byte_by rest) (byte_same w bytes) in
          subst (λ y. Fault (byte w rest) (y ∷ bytes) left) (sym same.1) (byte_then w rest bytes left begins
          (faults bytes left (omega arith) (sym goes_on ∙ is)))
      | inr other ↦
          let wrong : byte w rest (b ∷ bytes) ≡ Some (suc (length bytes)) =
          ap (byte_by rest) (byte_other w b bytes other.0) in
          byte_wrong w rest b bytes left other.0 cc
    ]

fewer : (n : ℕ) (rest : Rest) → Faults (suc n) rest → Faults n rest
fewer n rest faults bytes left short is = faults bytes left (omega arith) is

none_at_end : (E : Rest) (left : ℕ) → Fault E [] left → 0 ≡ left
none_at_end E left f = omega (arith, ap length f.split, length-append f.good f.bad, f.count)

either_faults : (w n : ℕ) (one other : Rest) → Faults n (byte w one) → Faults n other → Faults n (either w one other)
either_faults w n one other first second [] left short is = at_end (either w one other) left
    (none_at_end other left (second [] left short is))
either_faults w n one other first second (b ∷ bytes) left short is =
    elim (eqb_tells b w) [
      | inl same ↦
          let alike : (l : List ℕ) → either w one other (b ∷ l) ≡ byte w one (b ∷ l) =
          λ l. ap (λ test. if test then byte w one (b ∷ l) else other (b ∷ l)) same.0 in
          transfer (either w one other) (byte w one) b bytes left alike (first (b ∷ bytes) left short (sym (alike bytes)
          ∙ is))
      | inr differs ↦
          let alike : (l : List ℕ) → either w one other (b ∷ l) ≡ other (b ∷ l) =
          λ l. ap (λ test. if test then byte w one (b ∷ l) else other (b ∷ l)) differs.0 in
          transfer (either w one other) other b bytes left alike (second (b ∷ bytes) left short (sym (alike bytes)
          ∙ is))
    ]

either_opens : (w : ℕ) (one other : Rest) → IsNotAsciiDigit w → Begins one → Opens (either w one other)
either_opens w one other no_digit begins = (
  w ∷ begins.0,
  no_digit,
  ap (λ test. if test then byte w one (w ∷ begins.0) else other (w ∷ begins.0))
      (eq-eqb w w refl) ∙ (ap (byte_by one) (byte_same w begins.0) ∙ begins.1),
)

dot : IsNotAsciiDigit 46
dot = inl (lit< tt)

dash : IsNotAsciiDigit 45
dash = inl (lit< tt)

-- A rest that can be followed: by a SID, a range, a list.
pub record Sound (n : ℕ) (rest : Rest) : Type 0 where
  pub begins : Begins rest
  pub faults : Faults n rest

dotted : (n : ℕ) (rest : Rest) → Sound n rest → Faults n (byte 46 rest)
dotted n rest s = fewer n (byte 46 rest) (byte_faults 46 n rest s.begins s.faults)

component_sound : (n : ℕ) (rest : Rest) → Opens rest → Faults n rest → Sound n (component rest)
component_sound n rest opens faults =
    record { begins = component_begins rest opens; faults = component_faults n rest opens faults }

dotted_component : (n : ℕ) (rest : Rest) → Sound n rest → Sound n (component (byte 46 rest))
dotted_component n rest s = component_sound n (byte 46 rest) (byte_opens 46 rest dot s.begins) (dotted n rest s)

sid_sound : (n : ℕ) (rest : Rest) → Opens rest → Faults n rest → Sound n (sid_then rest)
sid_sound n rest opens faults =
    let branch = dotted_component n (component rest) (component_sound n rest opens faults) in
    let level = component_sound n (either 46 (component (byte 46 (component rest))) rest)
    (either_opens 46 (component (byte 46 (component rest))) rest dot branch.begins)
    (either_faults 46 n (component (byte 46 (component rest))) rest (dotted n (component (byte 46 (component rest)))
    branch) faults) in
    dotted_component n (component (either 46 (component (byte 46 (component rest))) rest)) level

pub range_sound : (n : ℕ) (rest : Rest) → Opens rest → Faults n rest → Sound n (range_then rest)
range_sound n rest opens faults =
    let last = sid_sound n rest opens faults in
    sid_sound n (either 45 (sid_then rest) rest) (either_opens 45 (sid_then rest) rest dash last.begins)
    (either_faults 45 n (sid_then rest) rest (fewer n (byte 45 (sid_then rest))
    (byte_faults 45 n (sid_then rest) last.begins last.faults)) faults)

pub ended_opens : (rest : Rest) → Opens (ended rest)
ended_opens rest = ([], tt, refl)

pub ended_faults : (n : ℕ) (rest : Rest) → Begins rest → Faults n rest → Faults (suc n) (ended rest)
ended_faults n rest begins faults [] left short is = cc
ended_faults n rest begins faults (b ∷ bytes) left short is =
    transfer (ended rest) (byte 44 rest) b bytes left (λ l. refl) (byte_faults 44 n rest begins faults
    (b ∷ bytes) left short is)
