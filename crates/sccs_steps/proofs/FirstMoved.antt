-- Views after some first files of a step.
use Rattle.std.proofs.Common.{◌≡◌, ℕ, zero, suc, Bool, true, false, ◌||◌, cond, List, [], ◌∷◌, ◌++◌, Option, None, Some}
use Rattle.std.proofs.Common.{ap, ◌∙◌}
use Rattle.std.specs.Str.{bytes_eq}
use Rattle.sccs_base.specs.Name.{p_file, z_file}
use Rattle.sccs_disk.specs.Files.{Content, View}
use Rattle.sccs_name_files.specs.StepFiles.{Alike, Apart, Files, Moves, Shows, is_left, is_working}
use Rattle.sccs_name_files.proofs.Views.{early_alike, moved_alike}
use Rattle.sccs_steps.specs.FirstFiles.{first_moved}
use Rattle.sccs_steps.specs.StepLists.{NamedStep, ShowsEarly, ShowsNext, is_left_of, left_by}
use Rattle.std.proofs.lemmas.Bool.{or_from}
use Rattle.sccs_base.proofs.Bools.{right_false, left_false}

pub first_alike : (i : ℕ) (w : List ℕ → Bool) (u v : View) (n : List ℕ) (new : Option Files) → Alike w u v
    → Alike w (first_moved i u n new) (first_moved i v n new)
first_alike zero w u v n new alike = alike
first_alike (suc zero) w u v n new alike = early_alike w u v n true new alike
first_alike (suc (suc zero)) w u v n None alike = alike
first_alike (suc (suc zero)) w u v n (Some f) alike = λ k h. ap (λ (o : Option Content). cond (bytes_eq n k) f.s o)
    (early_alike w u v n true (Some f) alike k h)
first_alike (suc (suc (suc zero))) w u v n None alike = alike
first_alike (suc (suc (suc zero))) w u v n (Some f) alike =
    λ k h. ap (λ (o : Option Content). cond (bytes_eq (p_file n) k) f.p (cond (bytes_eq n k) f.s o))
    (early_alike w u v n true (Some f) alike k h)
first_alike (suc (suc (suc (suc i)))) w u v n new alike = moved_alike w u v n new alike

-- a disk that shows a view shows, where it failed in a step, the view after some first files of the step
pub shows_in_order : (w : List ℕ → Bool) (i : ℕ) (n : List ℕ) (new : Option Files) (v : View) (a b : Option View)
    → Apart w n → Shows w a v → Moves (is_left n) (λ u. first_moved i u n new) a b
    → Shows (λ k. w k || bytes_eq (z_file n) k) b (first_moved i v n new)
shows_in_order w i n new v None b apart shows moves = absurd shows
shows_in_order w i n new v (Some u) None apart shows moves = absurd moves
shows_in_order w i n new v (Some u) (Some t) apart shows moves = λ k h.
    let out_w : w k ≡ false = left_false (w k) (bytes_eq (z_file n) k) h in
    let out_z : bytes_eq (z_file n) k ≡ false = right_false (w k) (bytes_eq (z_file n) k) h in
    moves k (or_from (is_working n k) (bytes_eq (z_file n) k) (apart.own k out_w) out_z)
    ∙ first_alike i w u v n new shows k out_w

-- but for the z-file of a step too
pub shows_wider : (w : List ℕ → Bool) (told : Option View) (u : View) (t : NamedStep) → Shows w told u
    → Shows (left_by w (t ∷ [])) told u
shows_wider w None u t shows = absurd shows
shows_wider w (Some s) u t shows = λ k h. shows k (left_false (w k) (bytes_eq (z_file t.name) k)
    (right_false (is_left_of t.more k) (w k || bytes_eq (z_file t.name) k) h))

-- none of the next step's files is new
pub shows_none : (w : List ℕ → Bool) (told : Option View) (u : View) (t : NamedStep) (ts : List NamedStep)
    → Shows w told u → ShowsNext w (t ∷ ts) told u
shows_none w told u t ts shows = (0, 0, shows_wider w told u t shows)

-- the same for a longer list
pub next_longer : (w : List ℕ → Bool) (told : Option View) (u : View) (rest us : List NamedStep)
    → ShowsNext w rest told u → ShowsNext w (rest ++ us) told u
next_longer w told u (t ∷ rest) us shows = shows
next_longer w told u [] [] shows = shows
next_longer w told u [] (t ∷ us) shows = shows_none w told u t us shows

-- ---- the l-file of the next step

-- it isn't new
pub early_none : (w : List ℕ → Bool) (told : Option View) (u : View) (ts : List NamedStep) → Shows w told u
    → ShowsEarly w ts told u
early_none w told u [] shows = shows
early_none w told u (t ∷ ts) shows = (false, shows)

-- the same for a longer list
pub early_longer : (w : List ℕ → Bool) (told : Option View) (u : View) (rest us : List NamedStep)
    → ShowsEarly w rest told u → ShowsEarly w (rest ++ us) told u
early_longer w told u (t ∷ rest) us shows = shows
early_longer w told u [] us shows = early_none w told u us shows
