-- Lists of steps, one behind another.
use Rattle.std.proofs.Common.{◌≡◌, ℕ, ◌<◌, Bool, List, [], ◌∷◌, ◌++◌, length, Option, Ok, refl, sym, ap, subst, ◌∙◌}
use Rattle.std.proofs.Common.{arith, append_assoc, length-append}
use Rattle.std.proofs.lemmas.List.{append-nil}
use Rattle.std.proofs.lemmas.Grind.{flat_map-append}
use Rattle.sccs_base.specs.Stream.{GivesOk, GivesSome}
use Rattle.sccs_disk.specs.Files.{Folder, view_in}
use Rattle.sccs_steps.specs.Calls.{World}
use Rattle.sccs_name_files.specs.StepFiles.{Shows}
use Rattle.sccs_steps.specs.StepLists.{NamedStep, Ran, Stopped, ListInterrupted, Stops, Runs, ShowsEarly, ShowsNext}
use Rattle.sccs_steps.specs.StepLists.{SoFar, Parts, folder_after, next_folder, out_of, err_of, status_of, next_text}
use Rattle.sccs_steps.specs.declared.faults.Fault.{Fault}
use Rattle.sccs_steps.specs.declared.faults.Fault.TheVariants.{Memory, ReadFault, WriteFault, DiskFault}
use Rattle.sccs_steps.specs.Statuses.{idle_status, joined_status}
use Rattle.sccs_steps.specs.declared.statuses.StatusRule.{StatusRule}
use Rattle.sccs_steps.proofs.Cleared.{cleared_same, cleared_then}
use Rattle.sccs_base.proofs.Gifts.{gives_none, gives_both, gives_then, some_longer}
use Rattle.sccs_steps.proofs.FirstMoved.{early_longer, next_longer}
use Rattle.sccs_steps.proofs.StatusLaws.{grouped, idle_first}

pub after_more : (m : Folder) (ts us : List NamedStep) → folder_after m (ts ++ us) ≡ folder_after (folder_after m ts) us
after_more m [] us = refl
after_more m (t ∷ ts) us = after_more (next_folder m (t ∷ ts)) ts us

pub out_more : (ts us : List NamedStep) → out_of (ts ++ us) ≡ out_of ts ++ out_of us
out_more ts us = flat_map-append (λ (t : NamedStep). t.effect.text ++ t.effect.out) ts us

pub err_more : (ts us : List NamedStep) → err_of (ts ++ us) ≡ err_of ts ++ err_of us
err_more ts us = flat_map-append (λ (t : NamedStep). t.effect.err) ts us

pub status_more : (rule : StatusRule) (ts us : List NamedStep) → status_of rule (ts ++ us) ≡ joined_status rule
    (status_of rule ts) (status_of rule us)
status_more rule [] us = sym (idle_first rule (status_of rule us))
status_more rule (t ∷ ts) us =
    ap (λ s. joined_status rule t.effect.status s) (status_more rule ts us)
    ∙ sym (grouped rule t.effect.status (status_of rule ts) (status_of rule us))

pub ran_none : (w : List ℕ → Bool) (m : Folder) (a : World) → Shows w a.view (view_in m) → Ran w m [] a a
ran_none w m a shows = record {
  view = shows;
  cleared = cleared_same w a.view a.view refl;
  out = gives_none a.out;
  err =
      gives_none a.err;
}

pub ran_then : (w : List ℕ → Bool) (m : Folder) (ts us : List NamedStep) (a b c : World) → Ran w m ts a b
    → Ran w (folder_after m ts) us b c → Ran w m (ts ++ us) a c
ran_then w m ts us a b c first second = record {
  view = subst (λ (u : Folder). Shows w c.view (view_in u)) (sym (after_more m ts us)) second.view;
  cleared = cleared_then w a.view b.view c.view first.cleared second.cleared;
  out = subst (λ text. GivesOk a.out c.out text) (sym (out_more ts us)) (gives_both a.out b.out c.out (out_of ts)
      (out_of us) first.out second.out);
  err = subst (λ text. GivesOk a.err c.err text) (sym (err_more ts us)) (gives_both a.err b.err c.err (err_of ts)
      (err_of us) first.err second.err);
}

-- a text and then a front of others
pub out_then : (w : List ℕ → Bool) (m : Folder) (ts made rest : List NamedStep) (a b c : World) → Ran w m ts a b
    → GivesSome b.out c.out (out_of made ++ next_text rest)
    → GivesSome a.out c.out (out_of (ts ++ made) ++ next_text rest)
out_then w m ts made rest a b c first some =
    subst (λ text. GivesSome a.out c.out text) (sym (append_assoc (out_of ts) (out_of made) (next_text rest))
    ∙ ap (λ front. front ++ next_text rest) (sym (out_more ts made)))
    (gives_then a.out b.out c.out (out_of ts) (out_of made ++ next_text rest) first.out some)

pub err_then : (w : List ℕ → Bool) (m : Folder) (ts made : List NamedStep) (a b c : World) → Ran w m ts a b
    → GivesSome b.err c.err (err_of made) → GivesSome a.err c.err (err_of (ts ++ made))
err_then w m ts made a b c first some =
    subst (λ text. GivesSome a.err c.err text) (sym (err_more ts made)) (gives_then a.err b.err c.err (err_of ts)
    (err_of made) first.err some)

abbrev pub stopped_then : (w : List ℕ → Bool) (m : Folder) (ts us : List NamedStep) (a b c : World) → Ran w m ts a b
    → Stopped w (folder_after m ts) us b c → Stopped w m (ts ++ us) a c
stopped_then w m ts us a b c first s = record {
  made = ts ++ s.made;
  rest = s.rest;
  is = ap (λ rest. ts ++ rest) s.is ∙ sym (append_assoc ts s.made s.rest);
  view = subst (λ (u : Folder). ShowsEarly w s.rest c.view (view_in u)) (sym (after_more m ts s.made)) s.view;
  cleared = cleared_then w a.view b.view c.view first.cleared s.cleared;
  out = out_then w m ts s.made s.rest a b c first s.out;
  err = err_then w m ts s.made a b c first s.err;
}

broke_then : (w : List ℕ → Bool) (m : Folder) (ts us : List NamedStep) (a b c : World) → Ran w m ts a b
    → ListInterrupted w (folder_after m ts) us b c → ListInterrupted w m (ts ++ us) a c
broke_then w m ts us a b c first s = record {
  made = ts ++ s.made;
  rest = s.rest;
  is = ap (λ rest. ts ++ rest) s.is ∙ sym (append_assoc ts s.made s.rest);
  view = subst (λ (u : Folder). ShowsNext w s.rest c.view (view_in u)) (sym (after_more m ts s.made)) s.view;
  out = out_then w m ts s.made s.rest a b c first s.out;
  err = err_then w m ts s.made a b c first s.err;
}

-- all of some steps, and then others that end early
pub stops_then : (w : List ℕ → Bool) (fault : Fault) (m : Folder) (ts us : List NamedStep) (a b c : World)
    → Ran w m ts a b → Stops w fault (folder_after m ts) us b c → Stops w fault m (ts ++ us) a c
stops_then w Memory m ts us a b c first s = (stopped_then w m ts us a b c first s.0, s.1)
stops_then w ReadFault m ts us a b c first s = (stopped_then w m ts us a b c first s.0, s.1)
stops_then w WriteFault m ts us a b c first s = stopped_then w m ts us a b c first s
stops_then w DiskFault m ts us a b c first s = broke_then w m ts us a b c first s

pub text_longer : (a b : Option (List ℕ)) (front : List ℕ) (rest us : List NamedStep)
    → GivesSome a b (front ++ next_text rest) → GivesSome a b (front ++ next_text (rest ++ us))
text_longer a b front [] us some = some_longer a b front (next_text us) (subst (λ text. GivesSome a b text)
    (append-nil front) some)
text_longer a b front (t ∷ rest) us some = some

abbrev pub stopped_more : (w : List ℕ → Bool) (m : Folder) (ts us : List NamedStep) (a b : World) → Stopped w m ts a b
    → Stopped w m (ts ++ us) a b
stopped_more w m ts us a b s = record {
  made = s.made;
  rest = s.rest ++ us;
  is = ap (λ all. all ++ us) s.is ∙ append_assoc s.made s.rest us;
  view = early_longer w b.view (view_in (folder_after m s.made)) s.rest us s.view;
  cleared = s.cleared;
  out = text_longer a.out b.out (out_of s.made) s.rest us s.out;
  err = s.err;
}

broke_more : (w : List ℕ → Bool) (m : Folder) (ts us : List NamedStep) (a b : World) → ListInterrupted w m ts a b
    → ListInterrupted w m (ts ++ us) a b
broke_more w m ts us a b s = record {
  made = s.made;
  rest = s.rest ++ us;
  is = ap (λ all. all ++ us) s.is ∙ append_assoc s.made s.rest us;
  view = next_longer w b.view (view_in (folder_after m s.made)) s.rest us s.view;
  out = text_longer a.out b.out (out_of s.made) s.rest us s.out;
  err = s.err;
}

still_some : (rest us : List NamedStep) → 0 < length rest → 0 < length (rest ++ us)
still_some rest us some = omega (arith, length-append rest us)

-- a list that ended early ended so for every longer list
pub stops_more : (w : List ℕ → Bool) (fault : Fault) (m : Folder) (ts us : List NamedStep) (a b : World)
    → Stops w fault m ts a b → Stops w fault m (ts ++ us) a b
stops_more w Memory m ts us a b s = (stopped_more w m ts us a b s.0, still_some s.0.rest us s.1)
stops_more w ReadFault m ts us a b s = (stopped_more w m ts us a b s.0, still_some s.0.rest us s.1)
stops_more w WriteFault m ts us a b s = stopped_more w m ts us a b s
stops_more w DiskFault m ts us a b s = broke_more w m ts us a b s

-- nothing is made yet
abbrev pub begins : (rule : StatusRule) (w : List ℕ → Bool) (m : Folder) (left : Folder → List NamedStep) (status : ℕ)
    (a : World) → status ≡ idle_status rule → Shows w a.view (view_in m) → SoFar rule w m (left m) left status a a
begins rule w m left status a idle shows = record { made = []; is = refl; code = idle; ran = ran_none w m a shows }

-- the next ones are made
abbrev pub goes_on : (rule : StatusRule) (w : List ℕ → Bool) (m : Folder) (all : List NamedStep)
    (left first rest : Folder → List NamedStep) (status one : ℕ) (a b c : World) → Parts left first rest
    → (so : SoFar rule w m all left status a b)
    → Runs rule w (Ok one) (folder_after m so.made) (first (folder_after m so.made)) b c → SoFar rule w m all rest
    (joined_status rule status one) a c
goes_on rule w m all left first rest status one a b c parts so next =
    let u : Folder = folder_after m so.made in
    let more : List NamedStep = first u in
    record {
      made = so.made ++ more;
      is = so.is ∙ (ap (λ ts. so.made ++ ts) (parts u) ∙ (sym (append_assoc so.made more (rest (folder_after u more)))
          ∙ ap (λ (v : Folder). (so.made ++ more) ++ rest v) (sym (after_more m so.made more))));
      code = ap (λ s. joined_status rule s one) so.code
          ∙ (ap (λ s. joined_status rule (status_of rule so.made) s) next.0 ∙ sym (status_more rule so.made more));
      ran = ran_then w m so.made more a b c so.ran next.1;
    }

-- the next ones aren't made, or not whole
pub ends_early : (rule : StatusRule) (w : List ℕ → Bool) (fault : Fault) (m : Folder) (all : List NamedStep)
    (left first rest : Folder → List NamedStep) (status : ℕ) (a b c : World) → Parts left first rest
    → (so : SoFar rule w m all left status a b)
    → Stops w fault (folder_after m so.made) (first (folder_after m so.made)) b c → Stops w fault m all a c
ends_early rule w fault m all left first rest status a b c parts so next =
    let u : Folder = folder_after m so.made in
    let is : so.made ++ (first u ++ rest (folder_after u (first u))) ≡ all = ap (λ ts. so.made ++ ts) (sym (parts u))
    ∙ sym so.is in
    subst (λ ts. Stops w fault m ts a c) is
    (stops_then w fault m so.made (first u ++ rest (folder_after u (first u))) a b c so.ran
    (stops_more w fault u (first u) (rest (folder_after u (first u))) b c next))

-- all are made
pub ends : (rule : StatusRule) (w : List ℕ → Bool) (m : Folder) (all : List NamedStep) (left : Folder → List NamedStep)
    (status : ℕ) (a b : World) → ((u : Folder) → left u ≡ []) → SoFar rule w m all left status a b
    → Runs rule w (Ok status) m all a b
ends rule w m all left status a b none so =
    let is : so.made ≡ all = sym (append-nil so.made) ∙ (ap (λ ts. so.made ++ ts) (sym (none (folder_after m so.made)))
    ∙ sym so.is) in
    (so.code ∙ ap (status_of rule) is, subst (λ ts. Ran w m ts a b) is so.ran)
