-- Data specifications (POSIX prs, -d, "Data Specifications"): the keywords, and the parts of a specification.
use Rattle.std.specs.Prelude.{ℕ, zero, suc, ◌==◌, ◌&&◌, List, [], ◌∷◌, Option, None, Some, option_map, find, codes}
use Rattle.std.specs.Prelude.{if◌then◌else◌}
use Rattle.sccs_history.specs.FlagText.{flag_b, flag_c, flag_d, flag_f, flag_i, flag_j, flag_l, flag_n, flag_v}
use Rattle.sccs_prs.specs.declared.keywords.DataItem.TheVariants.{Identification, Delta, Kind, Counts, Inserted}
use Rattle.sccs_prs.specs.declared.keywords.DataItem.TheVariants.{Deleted, Unchanged, Year, Month, Day, Hour, Minute}
use Rattle.sccs_prs.specs.declared.keywords.DataItem.TheVariants.{Second, Login, Serial, Predecessor, Lists, Included}
use Rattle.sccs_prs.specs.declared.keywords.DataItem.TheVariants.{Excluded, Ignored, Mrs, Comments, Users, Description}
use Rattle.sccs_prs.specs.declared.keywords.DataItem.TheVariants.{Flags, FlagText, HasFlag}
use Rattle.sccs_prs.specs.declared.keywords.DataKeyword.{DataKeyword}
use Rattle.sccs_prs.specs.declared.keywords.Part.{Part}
use Rattle.sccs_prs.specs.declared.keywords.Part.TheVariants.{Plain, Item, Body, Text}
use Rattle.sccs_prs.specs.declared.specifications.FoundPart.{FoundPart}

-- ---- the keywords

-- a keyword by its name; behind a name of one letter its colon is the second byte
abbrev pub named_keyword : List ℕ → Part → DataKeyword
named_keyword (a ∷ b ∷ rest) part = record { 0 = a; 1 = b; 2 = part }
named_keyword _ part = record { 0 = 0; 1 = 0; 2 = part }

-- the data keywords
abbrev pub keywords : List DataKeyword
keywords =
    named_keyword (codes "Dt") (Item Delta) ∷
    named_keyword (codes "DL") (Item Counts) ∷
    named_keyword (codes "Li") (Item Inserted) ∷
    named_keyword (codes "Ld") (Item Deleted) ∷
    named_keyword (codes "Lu") (Item Unchanged) ∷
    named_keyword (codes "DT") (Item Kind) ∷
    named_keyword (codes "I:") (Item (Identification 73)) ∷
    named_keyword (codes "R:") (Item (Identification 82)) ∷
    named_keyword (codes "L:") (Item (Identification 76)) ∷
    named_keyword (codes "B:") (Item (Identification 66)) ∷
    named_keyword (codes "S:") (Item (Identification 83)) ∷
    named_keyword (codes "D:") (Item (Identification 68)) ∷
    named_keyword (codes "Dy") (Item Year) ∷
    named_keyword (codes "Dm") (Item Month) ∷
    named_keyword (codes "Dd") (Item Day) ∷
    named_keyword (codes "T:") (Item (Identification 84)) ∷
    named_keyword (codes "Th") (Item Hour) ∷
    named_keyword (codes "Tm") (Item Minute) ∷
    named_keyword (codes "Ts") (Item Second) ∷
    named_keyword (codes "P:") (Item Login) ∷
    named_keyword (codes "DS") (Item Serial) ∷
    named_keyword (codes "DP") (Item Predecessor) ∷
    named_keyword (codes "DI") (Item Lists) ∷
    named_keyword (codes "Dn") (Item Included) ∷
    named_keyword (codes "Dx") (Item Excluded) ∷
    named_keyword (codes "Dg") (Item Ignored) ∷
    named_keyword (codes "MR") (Item Mrs) ∷
    named_keyword (codes "C:") (Item Comments) ∷
    named_keyword (codes "UN") (Item Users) ∷
    named_keyword (codes "FD") (Item Description) ∷
    named_keyword (codes "FL") (Item Flags) ∷
    named_keyword (codes "Y:") (Item (Identification 89)) ∷
    named_keyword (codes "Q:") (Item (Identification 81)) ∷
    named_keyword (codes "MP") (Item (FlagText flag_v)) ∷
    named_keyword (codes "KV") (Item (FlagText flag_i)) ∷
    named_keyword (codes "LK") (Item (FlagText flag_l)) ∷
    named_keyword (codes "FB") (Item (FlagText flag_f)) ∷
    named_keyword (codes "CB") (Item (FlagText flag_c)) ∷
    named_keyword (codes "Ds") (Item (FlagText flag_d)) ∷
    named_keyword (codes "MF") (Item (HasFlag flag_v)) ∷
    named_keyword (codes "KF") (Item (HasFlag flag_i)) ∷
    named_keyword (codes "BF") (Item (HasFlag flag_b)) ∷
    named_keyword (codes "J:") (Item (HasFlag flag_j)) ∷
    named_keyword (codes "ND") (Item (HasFlag flag_n)) ∷
    named_keyword (codes "M:") (Item (Identification 77)) ∷
    named_keyword (codes "F:") (Item (Identification 70)) ∷
    named_keyword (codes "PN") (Item (Identification 80)) ∷
    named_keyword (codes "BD") Body ∷
    named_keyword (codes "GB") Text ∷
    named_keyword (codes "W:") (Item (Identification 87)) ∷
    named_keyword (codes "A:") (Item (Identification 65)) ∷
    named_keyword (codes "Z:") (Item (Identification 90)) ∷
    []

-- what the keyword of a name stands for
abbrev pub data_keyword_of : ℕ → ℕ → Option Part
data_keyword_of first second = option_map (λ (k : DataKeyword). k.2)
    (find (λ (k : DataKeyword). k.0 == first && k.1 == second) keywords)

-- ---- the parts of a specification

-- a byte that stands for itself
abbrev pub plain_byte : ℕ → FoundPart
plain_byte byte = record { part = Plain byte; behind = 0 }

-- what a keyword stands for, with so many bytes behind the first colon; or the colon itself
abbrev pub keyed : Option Part → ℕ → FoundPart
keyed None behind = plain_byte 58
keyed (Some part) behind = record { part = part; behind = behind }

-- what two bytes behind a colon are the name of, where a colon ends it
abbrev pub of_two : ℕ → ℕ → List ℕ → FoundPart
of_two a b [] = plain_byte 58
of_two a b (c ∷ bytes) = if c == 58 then keyed (data_keyword_of a b) 3 else plain_byte 58

-- what stands behind a colon: a name of one or two bytes and another colon, or none
abbrev pub behind_colon : List ℕ → FoundPart
behind_colon (a ∷ b ∷ bytes) = if b == 58 then keyed (data_keyword_of a 58) 2 else of_two a b bytes
behind_colon _ = plain_byte 58

-- what stands behind a backslash: t for a tab, n for LF; another backslash stands for itself
abbrev pub behind_backslash : List ℕ → FoundPart
behind_backslash [] = plain_byte 92
behind_backslash (b ∷ bytes) =
    if b == 116 then record { part = Plain 9; behind = 1 }
    else if b == 110 then record { part = Plain 10; behind = 1 }
    else plain_byte 92

-- the part that begins with a byte
abbrev pub found_part : ℕ → List ℕ → FoundPart
found_part byte bytes = if byte == 58 then behind_colon bytes else if byte == 92 then behind_backslash bytes
    else plain_byte byte

-- the parts of bytes, where so many at their front belong to a part already
abbrev pub data_parts_at : ℕ → List ℕ → List Part
data_parts_at skip [] = []
data_parts_at (suc skip) (byte ∷ bytes) = data_parts_at skip bytes
data_parts_at zero (byte ∷ bytes) = (found_part byte bytes).part ∷ data_parts_at (found_part byte bytes).behind bytes

-- the parts of a specification, from left to right
unfoldable pub data_parts : List ℕ → List Part
data_parts spec = data_parts_at 0 spec
