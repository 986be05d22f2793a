-- The body of a new file, part by part.
use Rattle.std.proofs.Common.{◌≡◌, ℕ, ◌==◌, Bool, true, false, cond, List, [], ◌∷◌, ◌++◌, map, refl, sym, ap, ◌∙◌}
use Rattle.std.proofs.Common.{append-nil, append_assoc}
use Rattle.std.proofs.lemmas.Grind.{flat_map-append}
use Rattle.sccs_base.specs.Cut.{before, closed, cut, text_of}
use Rattle.sccs_tokens.specs.Written.{bytes_of, ended, item_line}
use Rattle.sccs_history.specs.declared.headers.Item.{Item}
use Rattle.sccs_history.specs.declared.headers.Item.TheVariants.{Text, Insert, End}
use Rattle.sccs_table.proofs.RunLaws.{cut_joined}
use Rattle.sccs_admin.specs.Texts.{lacking}
use Rattle.sccs_admin.specs.NewFiles.{new_items}
use Rattle.sccs_new_files.specs.Writing.{body_bytes}

-- the LF that bytes behind the last LF lack
abbrev lf_for : List ℕ → List ℕ
lf_for [] = []
lf_for (b ∷ tail) = 10 ∷ []

one_byte : (b : ℕ) (t : Bool) → cond t [] (10 ∷ []) ≡ lf_for (before t b (record { lines = []; tail = [] })).tail
one_byte b true = refl
one_byte b false = refl

-- a byte in front of some bytes changes nothing of their end
more_front : (b c : ℕ) (bytes : List ℕ) (t : Bool) (lines : List (List ℕ)) (tail : List ℕ) → c ∷ bytes ≡ bytes_of lines
    ++ tail → lf_for tail ≡ lf_for (before t b (record { lines = lines; tail = tail })).tail
more_front b c bytes true lines tail is = refl
more_front b c bytes false [] [] is = absurd (cc)
more_front b c bytes false [] (x ∷ tail) is = refl
more_front b c bytes false (line ∷ lines) tail is = refl

lacking_tail : (bytes : List ℕ) → lacking bytes ≡ lf_for (cut bytes).tail
unfolding lacking cut
lacking_tail [] = refl
lacking_tail (b ∷ []) = one_byte b (b == 10)
lacking_tail (b ∷ c ∷ bytes) = lacking_tail (c ∷ bytes) ∙ more_front b c bytes (b == 10) (cut (c ∷ bytes)).lines
    (cut (c ∷ bytes)).tail (cut_joined (c ∷ bytes))

closed_bytes : (lines : List (List ℕ)) (tail : List ℕ) → (bytes_of lines ++ tail) ++ lf_for tail ≡ bytes_of
    (closed lines tail)
closed_bytes lines [] = append-nil (bytes_of lines ++ []) ∙ append-nil (bytes_of lines)
closed_bytes lines (b ∷ tail) =
    append_assoc (bytes_of lines) (b ∷ tail) (10 ∷ [])
    ∙ (ap (λ last. bytes_of lines ++ last) (sym (append-nil (ended (b ∷ tail))))
    ∙ sym (flat_map-append ended lines ((b ∷ tail) ∷ [])))

-- a text whose last line has its LF
text_ended : (text : List ℕ) → text ++ lacking text ≡ bytes_of (text_of text)
text_ended text =
    ap (λ last. text ++ last) (lacking_tail text)
    ∙ (ap (λ front. front ++ lf_for (cut text).tail) (cut_joined text) ∙ closed_bytes (cut text).lines (cut text).tail)

texts_written : (lines : List (List ℕ)) (rest : List Item) → map item_line (map Text lines ++ rest) ≡ lines
    ++ map item_line rest
texts_written [] rest = refl
texts_written (line ∷ lines) rest = ap (λ more. line ∷ more) (texts_written lines rest)

pub body_parts : (text missing : List ℕ) → missing ≡ lacking text → ended (item_line (Insert 1))
    ++ (text ++ (missing ++ ended (item_line (End 1)))) ≡ body_bytes (new_items (text_of text))
body_parts text missing is =
    ap (λ body. ended (item_line (Insert 1)) ++ body)
    (sym (append_assoc text missing (ended (item_line (End 1))))
    ∙ (ap (λ m. (text ++ m) ++ ended (item_line (End 1))) is
    ∙ (ap (λ front. front ++ ended (item_line (End 1))) (text_ended text)
    ∙ (ap (λ last. bytes_of (text_of text) ++ last) (sym (append-nil (ended (item_line (End 1)))))
    ∙ (sym (flat_map-append ended (text_of text) (item_line (End 1) ∷ []))
    ∙ ap bytes_of (sym (texts_written (text_of text) (End 1 ∷ []))))))))
