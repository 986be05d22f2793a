-- Texts that go to a target one after the other.
use Rattle.std.proofs.Common.{◌≡◌, ℕ, ◌+◌, ◌≤◌, List, [], ◌++◌, length, length-append, take, drop, zero, suc, Option}
use Rattle.std.proofs.Common.{None, Some, Result, Ok, Err, refl, sym, ap, subst, ◌∙◌, arith, append_assoc}
use Rattle.std.proofs.Math.Seq.{take-append-add}
use Rattle.std.proofs.lemmas.List.{append-nil, take-append-drop, take-append-le}
use Rattle.sccs_base.specs.Stream.{Buffers, GivesSome}
use Rattle.sccs_base.proofs.Gifts.{buffers_both, buffers_cut, buffers_none, buffers_then, some_longer, some_of_whole}
use Rattle.sccs_sid.specs.declared.refusals.StepFault.{StepFault}
use Rattle.sccs_sid.specs.declared.refusals.StepFault.TheVariants.{Refused, Memory, ReadFault, WriteFault, DiskFault}
use Rattle.sccs_printing.specs.Printing.{IsFaultAroundPrint}
use Rattle.sccs_printing.specs.Targets.{Cuts, GivesTo, IsCut, PartGiven}

-- ---- a text that is cut

nothing_given : (text held : List ℕ) (a : Option (List ℕ)) → PartGiven text held held a a
nothing_given text held a = (0, omega arith, buffers_none held a)

part_longer : (text more held held2 : List ℕ) (a b : Option (List ℕ)) → PartGiven text held held2 a b
    → PartGiven (text ++ more) held held2 a b
part_longer text more held held2 a b part = (
  part.0,
  omega (arith, length-append text more, part.1),
  subst (λ given. Buffers held given held2 a b)
      (sym (take-append-le part.0 text more part.1)) part.2,
)

part_then : (gone rest held mid held2 : List ℕ) (a b c : Option (List ℕ)) → Buffers held gone mid a b
    → PartGiven rest mid held2 b c → PartGiven (gone ++ rest) held held2 a c
part_then gone rest held mid held2 a b c first part = (
  length gone + part.0,
  omega (arith, length-append gone rest, part.1),
  subst (λ given. Buffers held given held2 a c) (sym (take-append-add gone rest part.0)) (buffers_both held gone mid
      (take part.0 rest) held2 a b c first part.2),
)

-- nothing was given yet where the disk failed, or there was no memory
pub uncut : (file : Option (List ℕ)) (fault : StepFault) (text held : List ℕ) (a : Option (List ℕ))
    → IsFaultAroundPrint fault → Cuts file text fault held held a a
uncut None Memory text held a outer = nothing_given text held a
uncut None DiskFault text held a outer = nothing_given text held a
uncut (Some n) Memory text held a outer = tt
uncut (Some n) DiskFault text held a outer = tt
uncut file WriteFault text held a outer = absurd outer
uncut file ReadFault text held a outer = absurd outer
uncut file (Refused refusal) text held a outer = absurd outer

pub cuts_longer : (file : Option (List ℕ)) (fault : StepFault) (text more held held2 : List ℕ) (a b : Option (List ℕ))
    → Cuts file text fault held held2 a b → Cuts file (text ++ more) fault held held2 a b
cuts_longer None Memory text more held held2 a b cuts = part_longer text more held held2 a b cuts
cuts_longer None DiskFault text more held held2 a b cuts = part_longer text more held held2 a b cuts
cuts_longer None WriteFault text more held held2 a b cuts = (
  subst (λ all. GivesSome a b all) (append_assoc held text more) (some_longer a b (held ++ text) more cuts.0),
  cuts.1,
)
cuts_longer (Some n) Memory text more held held2 a b cuts = tt
cuts_longer (Some n) DiskFault text more held held2 a b cuts = tt
cuts_longer (Some n) WriteFault text more held held2 a b cuts = absurd cuts
cuts_longer file ReadFault text more held held2 a b cuts = absurd cuts
cuts_longer file (Refused refusal) text more held held2 a b cuts = absurd cuts

pub cuts_then : (file : Option (List ℕ)) (fault : StepFault) (gone rest held mid held2 : List ℕ)
    (a b c : Option (List ℕ)) → Buffers held gone mid a b → Cuts file rest fault mid held2 b c
    → Cuts file (gone ++ rest) fault held held2 a c
cuts_then None Memory gone rest held mid held2 a b c first cuts = part_then gone rest held mid held2 a b c first cuts
cuts_then None DiskFault gone rest held mid held2 a b c first cuts = part_then gone rest held mid held2 a b c first cuts
cuts_then None WriteFault gone rest held mid held2 a b c first cuts =
    (buffers_then held gone mid rest a b c first cuts.0, cuts.1)
cuts_then (Some n) Memory gone rest held mid held2 a b c first cuts = tt
cuts_then (Some n) DiskFault gone rest held mid held2 a b c first cuts = tt
cuts_then (Some n) WriteFault gone rest held mid held2 a b c first cuts = absurd cuts
cuts_then file ReadFault gone rest held mid held2 a b c first cuts = absurd cuts
cuts_then file (Refused refusal) gone rest held mid held2 a b c first cuts = absurd cuts

-- a text behind one that was given to the same target
pub given_then : {T : Type 0} (file file2 : Option (List ℕ)) (q : Result T StepFault)
    (gone rest held mid held2 : List ℕ) (a : Option (List ℕ)) (b c : Option (List ℕ) → Option (List ℕ)) → file2 ≡ file
    → Buffers held gone mid a (b file) → GivesTo file2 rest q mid held2 (b file2) (c file2)
    → GivesTo file (gone ++ rest) q held held2 a (c file)
given_then file file2 q gone rest held mid held2 a b c same first gives =
    by q (subst (λ to. GivesTo to rest q mid held2 (b to) (c to)) same gives)
  where
    by : {T : Type 0} (r : Result T StepFault) → GivesTo file rest r mid held2 (b file) (c file)
        → GivesTo file (gone ++ rest) r held held2 a (c file)
    by (Ok x) next = buffers_both held gone mid rest held2 a (b file) (c file) first next
    by (Err fault) next = cuts_then file fault gone rest held mid held2 a (b file) (c file) first next

-- ---- what was held back is given at the end

some_shorter : (text : List ℕ) (n : ℕ) (a b : Option (List ℕ)) → n ≤ length text → GivesSome a b (take n text)
    → GivesSome a b text
some_shorter text n a b fits some = subst (λ all. GivesSome a b all) (take-append-drop n text)
    (some_longer a b (take n text) (drop n text) some)

take_none : (n : ℕ) → take {A = ℕ} n [] ≡ []
take_none zero = refl
take_none (suc n) = refl

nothing_more : (b c : Option (List ℕ)) → GivesSome b c [] → c ≡ b
nothing_more None c some = some
nothing_more (Some f) c some = some.2 ∙ ap Some (ap (λ front. f ++ front) (take_none some.0) ∙ append-nil f)

-- some of what was held is given
held_given : (held left : List ℕ) (b c : Option (List ℕ)) → Buffers held [] left b c → GivesSome b c held
held_given held left b c flush = subst (λ text. GivesSome b c text) (sym (sym (append-nil held) ∙ flush.split))
    (some_longer b c flush.gone left (some_of_whole b c flush.gone flush.gives))

flush_given : {T : Type 0} (q : Result T StepFault) (held left : List ℕ) (b c : Option (List ℕ))
    → GivesTo None [] q held left b c → GivesSome b c held
flush_given (Ok x) held left b c flush = held_given held left b c flush
flush_given (Err Memory) held left b c flush = held_given held left b c (subst (λ text. Buffers held text left b c)
    (take_none flush.0) flush.2)
flush_given (Err DiskFault) held left b c flush = held_given held left b c (subst (λ text. Buffers held text left b c)
    (take_none flush.0) flush.2)
flush_given (Err WriteFault) held left b c flush = subst (λ text. GivesSome b c text) (append-nil held) flush.0
flush_given (Err ReadFault) held left b c flush = absurd flush
flush_given (Err (Refused refusal)) held left b c flush = absurd flush

-- the flush failed
pub cut_at_flush : (file : Option (List ℕ)) (text mid left : List ℕ) (fault : StepFault) (a b c : Option (List ℕ))
    → Buffers [] text mid a b → Cuts file [] fault mid left b c → IsCut file text fault a c
cut_at_flush None text mid left Memory a b c gives cuts = buffers_cut [] text mid a b c gives
    (flush_given {T = Unit {0}} (Err Memory) mid left b c cuts)
cut_at_flush None text mid left DiskFault a b c gives cuts = buffers_cut [] text mid a b c gives
    (flush_given {T = Unit {0}} (Err DiskFault) mid left b c cuts)
cut_at_flush None text mid left WriteFault a b c gives cuts = buffers_cut [] text mid a b c gives
    (flush_given {T = Unit {0}} (Err WriteFault) mid left b c cuts)
cut_at_flush (Some n) text mid left Memory a b c gives cuts = tt
cut_at_flush (Some n) text mid left DiskFault a b c gives cuts = tt
cut_at_flush (Some n) text mid left WriteFault a b c gives cuts = absurd cuts
cut_at_flush file text mid left ReadFault a b c gives cuts = absurd cuts
cut_at_flush file text mid left (Refused refusal) a b c gives cuts = absurd cuts

-- giving failed, and then came a flush
pub cut_before_flush : {T : Type 0} (file : Option (List ℕ)) (q : Result T StepFault) (text mid left : List ℕ)
    (fault : StepFault) (a b c : Option (List ℕ)) → Cuts file text fault [] mid a b → GivesTo file [] q mid left b c
    → IsCut file text fault a c
cut_before_flush None q text mid left Memory a b c cuts flush = some_shorter text cuts.0 a c cuts.1
    (buffers_cut [] (take cuts.0 text) mid a b c cuts.2 (flush_given q mid left b c flush))
cut_before_flush None q text mid left DiskFault a b c cuts flush = some_shorter text cuts.0 a c cuts.1
    (buffers_cut [] (take cuts.0 text) mid a b c cuts.2 (flush_given q mid left b c flush))
cut_before_flush None q text mid left WriteFault a b c cuts flush = subst (λ t. GivesSome a t text)
    (sym (nothing_more b c (subst (λ h. GivesSome b c h) cuts.1 (flush_given q mid left b c flush)))) cuts.0
cut_before_flush (Some n) q text mid left Memory a b c cuts flush = tt
cut_before_flush (Some n) q text mid left DiskFault a b c cuts flush = tt
cut_before_flush (Some n) q text mid left WriteFault a b c cuts flush = absurd cuts
cut_before_flush file q text mid left ReadFault a b c cuts flush = absurd cuts
cut_before_flush file q text mid left (Refused refusal) a b c cuts flush = absurd cuts
