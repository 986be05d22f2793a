-- Fronts of lists of steps: the views, and what is written before a report.
use Rattle.std.proofs.Common.{◌≡◌, ℕ, Bool, zero, suc, ◌+◌, ◌≤◌, List, [], ◌∷◌, ◌++◌, take, drop, length, Option, None}
use Rattle.std.proofs.Common.{Some, refl, sym, ap, subst, ◌∙◌, arith, append_assoc, length-append, length-take}
use Rattle.std.proofs.lemmas.List.{drop-append-le, take-append-le, take_all}
use Rattle.std.proofs.Math.Seq.{drop-append-add, take-append-add}
use Rattle.sccs_base.specs.Stream.{GivesSome}
use Rattle.sccs_disk.specs.Files.{Folder, View, view_in}
use Rattle.sccs_steps.specs.StepLists.{NamedStep, ShowsEarly, err_of, folder_after, next_text, out_of}
use Rattle.sccs_steps.specs.ListStops.{err_before, given_more, out_before, view_at}
use Rattle.sccs_steps.proofs.FirstMoved.{early_longer}
use Rattle.sccs_steps.proofs.JoinedSteps.{after_more, err_more, out_more, text_longer}

-- ---- the views

pub view_front : (m : Folder) (ts us : List NamedStep) (k : ℕ) → k ≤ length ts → view_at m (ts ++ us) k ≡ view_at m ts k
view_front m ts us k low = ap (λ (front : List NamedStep). view_in (folder_after m front)) (take-append-le k ts us low)

pub view_past : (m : Folder) (ts us : List NamedStep) (k : ℕ) → view_at m (ts ++ us) (length ts + k) ≡ view_at
    (folder_after m ts) us k
view_past m ts us k = ap (λ (front : List NamedStep). view_in (folder_after m front)) (take-append-add ts us k)
    ∙ ap (λ (u : Folder). view_in u) (after_more m ts (take k us))

pub view_all : (m : Folder) (ts : List NamedStep) (k : ℕ) → k ≡ length ts → view_at m ts k ≡ view_in (folder_after m ts)
view_all m ts k is = ap (λ (front : List NamedStep). view_in (folder_after m front)) (take_all k ts (omega (arith, is)))

-- the l-file of the next step may be new
pub early_front : (w : List ℕ → Bool) (told : Option View) (m : Folder) (ts us : List NamedStep) (k : ℕ) → k ≤ length ts
    → ShowsEarly w (drop k ts) told (view_at m ts k) → ShowsEarly w (drop k (ts ++ us)) told (view_at m (ts ++ us) k)
early_front w told m ts us k low shows =
    subst (λ (rest : List NamedStep). ShowsEarly w rest told (view_at m (ts ++ us) k))
    (sym (drop-append-le k ts us low))
    (early_longer w told (view_at m (ts ++ us) k) (drop k ts) us (subst (λ (v : View). ShowsEarly w (drop k ts) told v)
    (sym (view_front m ts us k low)) shows))

pub early_past : (w : List ℕ → Bool) (told : Option View) (m : Folder) (ts us : List NamedStep) (k : ℕ)
    → ShowsEarly w (drop k us) told (view_at (folder_after m ts) us k) → ShowsEarly w (drop (length ts + k) (ts ++ us))
    told (view_at m (ts ++ us) (length ts + k))
early_past w told m ts us k shows =
    subst (λ (rest : List NamedStep). ShowsEarly w rest told (view_at m (ts ++ us) (length ts + k)))
    (sym (drop-append-add ts us k))
    (subst (λ (v : View). ShowsEarly w (drop k us) told v) (sym (view_past m ts us k)) shows)

-- ---- what is written

pub out_past : (ts us : List NamedStep) (k : ℕ) → out_before (ts ++ us) (length ts + k) ≡ out_of ts ++ out_before us k
out_past ts us k =
    ap (λ (front : List NamedStep). out_of front ++ next_text (drop (length ts + k) (ts ++ us)))
    (take-append-add ts us k)
    ∙ (ap (λ (rest : List NamedStep). out_of (ts ++ take k us) ++ next_text rest) (drop-append-add ts us k)
    ∙ (ap (λ front. front ++ next_text (drop k us)) (out_more ts (take k us)) ∙ append_assoc (out_of ts)
    (out_of (take k us)) (next_text (drop k us))))

pub err_past : (ts us : List NamedStep) (k : ℕ) → err_before (ts ++ us) (length ts + k) ≡ err_of ts ++ err_before us k
err_past ts us k = ap err_of (take-append-add ts us k) ∙ err_more ts (take k us)

pub out_front : (a b : Option (List ℕ)) (ts us : List NamedStep) (k : ℕ) → k ≤ length ts
    → GivesSome a b (out_before ts k) → GivesSome a b (out_before (ts ++ us) k)
out_front a b ts us k low some =
    subst (λ (front : List NamedStep). GivesSome a b (out_of front ++ next_text (drop k (ts ++ us))))
    (sym (take-append-le k ts us low))
    (subst (λ (rest : List NamedStep). GivesSome a b (out_of (take k ts) ++ next_text rest))
    (sym (drop-append-le k ts us low)) (text_longer a b (out_of (take k ts)) (drop k ts) us some))

pub err_front : (a b : Option (List ℕ)) (ts us : List NamedStep) (k : ℕ) → k ≤ length ts
    → GivesSome a b (err_before ts k) → GivesSome a b (err_before (ts ++ us) k)
err_front a b ts us k low some = subst (λ (front : List NamedStep). GivesSome a b (err_of front))
    (sym (take-append-le k ts us low)) some

-- ---- lengths

take_none : (k : ℕ) → take {A = NamedStep} k [] ≡ []
take_none zero = refl
take_none (suc k) = refl

drop_none : (k : ℕ) → drop {A = NamedStep} k [] ≡ []
drop_none zero = refl
drop_none (suc k) = refl

out_none : (k : ℕ) → out_before [] k ≡ []
out_none k = ap (λ (front : List NamedStep). out_of front ++ next_text (drop k [])) (take_none k)
    ∙ ap (λ (rest : List NamedStep). next_text rest) (drop_none k)

out_step : (t : NamedStep) (ts : List NamedStep) (k : ℕ) → length (out_before (t ∷ ts) (suc k)) ≡ length (t.effect.text)
    + length (t.effect.out) + length (out_before ts k)
out_step t ts k =
    omega (
      arith,
      length-append ((t.effect.text ++ t.effect.out) ++ out_of (take k ts)) (next_text (drop k ts)),
      length-append (t.effect.text ++ t.effect.out) (out_of (take k ts)),
      length-append t.effect.text t.effect.out,
      length-append (out_of (take k ts)) (next_text (drop k ts)),
    )

pub out_rises : (ts : List NamedStep) (j k : ℕ) → j ≤ k → length (out_before ts j) ≤ length (out_before ts k)
out_rises [] j k low = let e = ap length (out_none j) in omega (arith, e)
out_rises (t ∷ ts) zero zero low = omega arith
out_rises (t ∷ ts) zero (suc k) low = omega (arith, out_step t ts k)
out_rises (t ∷ ts) (suc j) zero low = absurd (omega (arith, low))
out_rises (t ∷ ts) (suc j) (suc k) low = let rest = out_rises ts j k (omega (arith, low)) in
    omega (arith, rest, out_step t ts j, out_step t ts k)

err_none : (k : ℕ) → err_before [] k ≡ []
err_none k = ap err_of (take_none k)

err_step : (t : NamedStep) (ts : List NamedStep) (k : ℕ) → length (err_before (t ∷ ts) (suc k)) ≡ length (t.effect.err)
    + length (err_before ts k)
err_step t ts k = length-append t.effect.err (err_of (take k ts))

pub err_rises : (ts : List NamedStep) (j k : ℕ) → j ≤ k → length (err_before ts j) ≤ length (err_before ts k)
err_rises [] j k low = let e = ap length (err_none j) in omega (arith, e)
err_rises (t ∷ ts) zero k low = omega arith
err_rises (t ∷ ts) (suc j) zero low = absurd (omega (arith, low))
err_rises (t ∷ ts) (suc j) (suc k) low = let rest = err_rises ts j k (omega (arith, low)) in
    omega (arith, rest, err_step t ts j, err_step t ts k)

-- a sink was given no more than what it may have been given
pub more_within : (a b : Option (List ℕ)) (x : List ℕ) → GivesSome a b x → given_more a b ≤ length x
more_within None b x some = omega arith
more_within (Some f) None x some = absurd (let e = some.2 in cc)
more_within (Some f) (Some g) x some =
    let e : g ≡ f ++ take some.0 x = (let s = some.2 in cc) in
    let l : length g ≡ length (f ++ take some.0 x) = ap length e in
    omega (arith, l, length-append f (take some.0 x), length-take some.0 x, some.1)
