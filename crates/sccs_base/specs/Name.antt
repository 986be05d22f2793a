-- Names of files, and of s-files among them.
use Rattle.std.specs.Prelude.{◌≡◌, ◌≢◌, ℕ, ◌<◌, Bool, not, ◌&&◌, List, [], ◌∷◌, length, take, drop, nat_lt, ◌==◌, All}
use Rattle.std.specs.Bool.{Decides}
use Rattle.std.specs.List.{list_all}
use Rattle.std.specs.Str.{IsUtf8, is_utf8, bytes_eq}
use Rattle.std.proofs.Common.{refl}
use Rattle.std.proofs.lemmas.Bool.Decides.{Decides-and, Decides-not, Decides-ltb, Decides-eqb, Decides-by_and}
use Rattle.std.proofs.lemmas.Bool.Decides.{Decides-like}
use Rattle.std.proofs.lemmas.Slice.Eq.{bytes_eq-Decides}
use Rattle.std.proofs.lemmas.Str.{IsUtf8-from_is_utf8, is_utf8-from_IsUtf8}
use Rattle.sccs_base.specs.Constants.{lf}

-- neither slash nor LF nor NUL
abbrev pub IsPlain : ℕ → Type 0
IsPlain b = (b ≢ 47) × ((b ≢ lf) × (b ≢ 0))

abbrev pub is_plain : ℕ → Bool
is_plain b = not (b == 47) && (not (b == lf) && not (b == 0))

-- The name of a file: 1 to 250 bytes of UTF-8 without slash, LF and NUL, and neither `.` nor `..`.
pub record IsName (bytes : List ℕ) : Type 0 where
  pub some : 0 < length bytes
  pub short : length bytes < 251
  pub not_here : bytes ≢ 46 ∷ []
  pub not_above : bytes ≢ 46 ∷ 46 ∷ []
  pub plain : All IsPlain bytes
  pub text : IsUtf8 bytes

-- whether it is a name
unfoldable pub is_name : List ℕ → Bool
is_name bytes =
    nat_lt 0 (length bytes) && (nat_lt (length bytes) 251 && (not (bytes_eq bytes (46 ∷ []))
    && (not (bytes_eq bytes (46 ∷ 46 ∷ [])) && (list_all is_plain bytes && is_utf8 bytes))))

-- `s.` and a name by itself
pub record IsSFileName (bytes : List ℕ) : Type 0 where
  pub front : take 2 bytes ≡ 115 ∷ 46 ∷ []
  pub rest : IsName (drop 2 bytes)

-- whether it is a name, and that of an s-file
unfoldable pub is_sfile_name : List ℕ → Bool
is_sfile_name bytes = is_name bytes && (bytes_eq (take 2 bytes) (115 ∷ 46 ∷ []) && is_name (drop 2 bytes))

-- the name with another first byte
abbrev pub sibling : ℕ → List ℕ → List ℕ
sibling letter name = letter ∷ drop 1 name

-- the files beside an s-file: the pending edits, those that will be pending, the new s-file, the new g-file, and the
-- lock
abbrev pub p_file : List ℕ → List ℕ
p_file name = 112 ∷ drop 1 name

abbrev pub q_file : List ℕ → List ℕ
q_file name = 113 ∷ drop 1 name

abbrev pub x_file : List ℕ → List ℕ
x_file name = 120 ∷ drop 1 name

abbrev pub y_file : List ℕ → List ℕ
y_file name = 121 ∷ drop 1 name

abbrev pub z_file : List ℕ → List ℕ
z_file name = 122 ∷ drop 1 name

plain_decides : (b : ℕ) → Decides (is_plain b) (IsPlain b)
plain_decides b =
    Decides-and _ _ (Decides-not _ (Decides-eqb b 47)) (Decides-and _ _ (Decides-not _ (Decides-eqb b lf))
    (Decides-not _ (Decides-eqb b 0)))

utf8_decides : (bytes : List ℕ) → Decides (is_utf8 bytes) (IsUtf8 bytes)
utf8_decides bytes = (IsUtf8-from_is_utf8 bytes, is_utf8-from_IsUtf8 bytes)

pub name_decides : (bytes : List ℕ) → Decides (is_name bytes) (IsName bytes)
unfolding is_name
name_decides bytes =
    Decides-like _ (λ h. record {
      some = h.0;
      short = h.1.0;
      not_here = h.1.1.0;
      not_above = h.1.1.1.0;
      plain =
          h.1.1.1.1.0;
      text = h.1.1.1.1.1;
    })
    (λ n. (n.some, (n.short, (n.not_here, (n.not_above, (n.plain, n.text))))))
    (Decides-and _ _ (Decides-ltb 0 (length bytes))
    (Decides-and _ _ (Decides-ltb (length bytes) 251)
    (Decides-and _ _ (Decides-not _ (bytes_eq-Decides bytes (46 ∷ [])))
    (Decides-and _ _ (Decides-not _ (bytes_eq-Decides bytes (46 ∷ 46 ∷ [])))
    (Decides-and _ _ (Decides-by_and is_plain IsPlain (list_all is_plain) plain_decides refl (λ _ _. refl) bytes)
    (utf8_decides bytes))))))

pub sfile_name_decides : (bytes : List ℕ) → Decides (is_sfile_name bytes) (IsName bytes × IsSFileName bytes)
unfolding is_sfile_name
sfile_name_decides bytes =
    Decides-like _ (λ h. (h.0, record { front = h.1.0; rest = h.1.1 }))
    (λ n. (n.0, (n.1.front, n.1.rest)))
    (Decides-and _ _ (name_decides bytes)
    (Decides-and _ _ (bytes_eq-Decides (take 2 bytes) (115 ∷ 46 ∷ [])) (name_decides (drop 2 bytes))))
