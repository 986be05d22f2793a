-- An s-file that is written from its start: header, body and sum.
use Rattle.std.proofs.Common.{◌≡◌, ℕ, false, List, [], ◌∷◌, ◌++◌, map, Option, None, Some, option_map, IfSome, refl}
use Rattle.std.proofs.Common.{sym, ap, subst, ◌∙◌, arith}
use Rattle.sccs_disk.specs.Effects.{altered, appended, empty_file}
use Rattle.sccs_disk.specs.Calls.{HasBytes, HasRange}
use Rattle.sccs_disk.specs.Files.{Content, View, put}
use Rattle.sccs_disk.specs.Told.{Told, seen}
use Rattle.sccs_disk.proofs.Puts.{put_same}
use Rattle.sccs_tokens.specs.Sums.{plain_sum}
use Rattle.sccs_tokens.specs.Written.{bytes_behind, bytes_of, canonical, ended, five, item_line, sum_line}
use Rattle.sccs_history.specs.declared.headers.Header.{Header}
use Rattle.sccs_history.specs.declared.headers.Item.{Item}
use Rattle.sccs_table.specs.SumOf.{IsSumOf}
use Rattle.sccs_writers.specs.HeaderBytes.{header_bytes}
use Rattle.sccs_writers.specs.Puts.{Appends}
use Rattle.sccs_writers.specs.Spelled.{spelled}
use Rattle.sccs_writers.proofs.HeaderLaws.{header_and}
use Rattle.sccs_store.specs.Commits.{Becomes, with_sum_line}
use Rattle.sccs_store.specs.SealedFiles.{sealed}
use Rattle.sccs_store.proofs.Working.{altered_put, becomes_as, becomes_both}

-- ---- the whole file

abbrev content_of : List ℕ → Content
content_of bytes = record { bytes = bytes; writable = false }

sealed_bytes : (h : Header) (items : List Item) (body : List ℕ) (sum : ℕ) → body ≡ bytes_of (map item_line items)
    → sum ≡ plain_sum (header_bytes h ++ body)
    → with_sum_line sum (appended (ended (sum_line 0) ++ header_bytes h ++ body) empty_file) ≡ sealed h items
unfolding canonical
sealed_bytes h items body sum is of =
    let behind : header_bytes h ++ body ≡ bytes_behind h items = ap (λ b. header_bytes h ++ b) is
    ∙ sym (header_and h (map item_line items)) in
    ap (λ s. content_of (1 ∷ 104 ∷ five s ++ (10 ∷ (header_bytes h ++ body)))) of
    ∙ ap (λ b. content_of (1 ∷ 104 ∷ five (plain_sum b) ++ (10 ∷ b))) behind

pub sealed_made : (n : List ℕ) (h : Header) (items : List Item) (body : List ℕ) (sums : ℕ × ℕ) (a b c d : Option View)
    → body ≡ bytes_of (map item_line items) → Becomes (λ v. put v n (Some empty_file)) a b
    → Becomes (altered n (appended (ended (sum_line 0) ++ header_bytes h ++ body))) b c
    → IsSumOf sums (header_bytes h ++ body) → Becomes (altered n (with_sum_line sums.0)) c d
    → Becomes (λ v. put v n (Some (sealed h items))) a d
sealed_made n h items body sums a b c d is start append sum finish =
    becomes_as _ (λ v. put v n (Some (sealed h items))) a d
    (λ v.
    ap (altered n (with_sum_line sums.0)) (altered_put n (appended (ended (sum_line 0) ++ header_bytes h ++ body))
    empty_file v)
    ∙ (altered_put n (with_sum_line sums.0) (appended (ended (sum_line 0) ++ header_bytes h ++ body) empty_file) v
    ∙ ap (λ (x : Content). put v n (Some x)) (sealed_bytes h items body sums.0 is sum.0)))
    (becomes_both (λ v. altered n (appended (ended (sum_line 0) ++ header_bytes h ++ body)) (put v n (Some empty_file)))
    (altered n (with_sum_line sums.0)) a c d
    (becomes_both (λ v. put v n (Some empty_file)) (altered n (appended (ended (sum_line 0) ++ header_bytes h ++ body)))
    a b c start append) finish)

-- the lines of items as a writer spells them
pub spelled_bytes : (items : List Item) → spelled items ≡ bytes_of (map item_line items)
spelled_bytes [] = refl
spelled_bytes (item ∷ items) = ap (λ rest. ended (item_line item) ++ rest) (spelled_bytes items)

-- ---- the file while it is written

-- a file that begins with a sum line has its digits
pub has_digits : (n more : List ℕ) (a b c : Told) → Becomes (λ v. put v n (Some empty_file)) (seen a) (seen b)
    → Appends n (ended (sum_line 0) ++ more) b c → HasRange n 2 5 c
has_digits n more a b c start append = ranged (seen a) (seen b) (seen c) start append
  where
    long : (v : View) → HasBytes (altered n (appended (ended (sum_line 0) ++ more)) (put v n (Some empty_file)) n) 2 5
    long v = subst (λ (o : Option Content). HasBytes o 2 5)
        (sym (ap (λ (u : View). u n) (altered_put n (appended (ended (sum_line 0) ++ more)) empty_file v)
        ∙ put_same v n (Some (appended (ended (sum_line 0) ++ more) empty_file)))) (omega arith)

    ranged : (o o2 o3 : Option View) → Becomes (λ v. put v n (Some empty_file)) o o2
        → o3 ≡ option_map (altered n (appended (ended (sum_line 0) ++ more))) o2
        → IfSome o3 (λ (v : View). HasBytes (v n) 2 5)
    ranged None o2 o3 is so = subst (λ (o : Option View). IfSome o (λ (v : View). HasBytes (v n) 2 5))
        (sym (so ∙ ap (option_map (altered n (appended (ended (sum_line 0) ++ more)))) is)) tt
    ranged (Some v) o2 o3 is so = subst (λ (o : Option View). IfSome o (λ (u : View). HasBytes (u n) 2 5))
        (sym (so ∙ ap (option_map (altered n (appended (ended (sum_line 0) ++ more)))) is)) (long v)
