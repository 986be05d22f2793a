-- Logins.
use Rattle.std.specs.Prelude.{ℕ, ◌<◌, Bool, ◌&&◌, List, length, nat_lt, All}
use Rattle.std.specs.Bool.{Decides}
use Rattle.std.specs.List.{list_all}
use Rattle.std.proofs.Common.{refl}
use Rattle.std.proofs.lemmas.Bool.Decides.{Decides-and, Decides-ltb, Decides-by_and, Decides-like}
use Rattle.sccs_base.specs.Constants.{blank}

-- A login: 1 to 64 bytes, each above 32.
pub record IsLogin (bytes : List ℕ) : Type 0 where
  pub some : 0 < length bytes
  pub short : length bytes < 65
  pub visible : All (λ b. blank < b) bytes

-- whether it is a login
unfoldable pub is_login : List ℕ → Bool
is_login bytes = nat_lt 0 (length bytes) && (nat_lt (length bytes) 65 && list_all (nat_lt blank) bytes)

pub login_decides : (bytes : List ℕ) → Decides (is_login bytes) (IsLogin bytes)
unfolding is_login
login_decides bytes =
    Decides-like _ (λ h. record { some = h.0; short = h.1.0; visible = h.1.1 })
    (λ l. (l.some, (l.short, l.visible)))
    (Decides-and _ _ (Decides-ltb 0 (length bytes))
    (Decides-and _ _ (Decides-ltb (length bytes) 65)
    (Decides-by_and (nat_lt blank) (λ b. blank < b) (list_all (nat_lt blank)) (Decides-ltb blank) refl
    (λ _ _. refl) bytes)))
