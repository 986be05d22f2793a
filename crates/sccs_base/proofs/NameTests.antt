-- The tests of names, from facts that the code finds.
use Rattle.std.proofs.Common.{◌≡◌, ℕ, zero, suc, ◌<◌, Bool, true, false, ◌&&◌, nat_lt, List, [], ◌∷◌, take, drop}
use Rattle.std.proofs.Common.{get_or, refl, ap, lit<}
use Rattle.std.specs.List.{list_all}
use Rattle.std.specs.Str.{is_utf8, bytes_eq}
use Rattle.std.proofs.lemmas.Str.{is_utf8-from_IsUtf8, IsUtf8-from_ascii}
use Rattle.std.specs.Bool.{Decides}
use Rattle.std.proofs.lemmas.Bool.Decides.{same_from_decides, Decides-like, Decides-ltb}
use Rattle.sccs_base.specs.Name.{IsName, IsSFileName, is_name, is_sfile_name, name_decides, sfile_name_decides}
use Rattle.sccs_base.specs.Login.{IsLogin, is_login, login_decides}

ascii_rest : (b : Bool) (rest : Bool) → (b && rest) ≡ true → rest ≡ true
ascii_rest true rest h = h
ascii_rest false rest h = cc

ascii_first : (b : Bool) (rest : Bool) → (b && rest) ≡ true → b ≡ true
ascii_first true rest h = refl
ascii_first false rest h = cc

ascii_at : (bytes : List ℕ) → list_all (λ b. nat_lt b 128) bytes ≡ true → (i : ℕ) → get_or bytes i 0 < 128
ascii_at [] low i = lit< tt
ascii_at (b ∷ bytes) low zero = (Decides-ltb b 128).0 (ascii_first (nat_lt b 128) (list_all (λ c. nat_lt c 128) bytes)
    low)
ascii_at (b ∷ bytes) low (suc i) = ascii_at bytes (ascii_rest (nat_lt b 128) (list_all (λ c. nat_lt c 128) bytes) low) i

pub name_test : (r : Bool) (bytes : List ℕ) → Decides r (IsName bytes) → r ≡ is_name bytes
name_test r bytes found = same_from_decides r (is_name bytes) found (name_decides bytes)

pub sfile_test : (r : Bool) (bytes : List ℕ) → IsName bytes → Decides r (IsSFileName bytes) → r ≡ is_sfile_name bytes
sfile_test r bytes name found =
    same_from_decides r (is_sfile_name bytes) (Decides-like r (λ sfile. (name, sfile)) (λ both. both.1) found)
    (sfile_name_decides bytes)

pub login_test : (r : Bool) (bytes : List ℕ) → Decides r (IsLogin bytes) → r ≡ is_login bytes
login_test r bytes found = same_from_decides r (is_login bytes) found (login_decides bytes)

-- no name is no name of an s-file
pub no_sfile : (bytes : List ℕ) → false ≡ is_name bytes → false ≡ is_sfile_name bytes
unfolding is_sfile_name
no_sfile bytes none = ap (λ test. test && (bytes_eq (take 2 bytes) (115 ∷ 46 ∷ []) && is_name (drop 2 bytes))) none

-- a test of ASCII bytes as text computes
pub utf8_ascii : (bytes : List ℕ) → list_all (λ b. nat_lt b 128) bytes ≡ true → is_utf8 bytes ≡ true
utf8_ascii bytes low = is_utf8-from_IsUtf8 bytes (IsUtf8-from_ascii bytes (ascii_at bytes low))
