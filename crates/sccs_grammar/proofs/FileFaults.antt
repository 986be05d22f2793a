-- What the bytes of a file give is a whole file, or a fault that is a refusal.
use Rattle.std.proofs.Common.{◌≡◌, ℕ, Bool, true, false, List, [], ◌∷◌, length, Option, None, Some, IsSome, Result, Ok}
use Rattle.std.proofs.Common.{Err, nat_lt, refl, subst, if◌then◌else◌}
use Rattle.sccs_base.specs.Cut.{cut}
use Rattle.sccs_sid.specs.Reading.{◌>>=◌}
use Rattle.sccs_history.specs.Applied.{live_serials}
use Rattle.sccs_history.specs.History.{is_encoded}
use Rattle.sccs_history.specs.declared.headers.Header.{Header}
use Rattle.sccs_history.specs.declared.headers.Item.{Item}
use Rattle.sccs_grammar.specs.Front.{start, front_from}
use Rattle.sccs_tokens.specs.Items.{items_from}
use Rattle.sccs_grammar.specs.File.{Opened, Parsed, answer, as_format, checked_front, file_of, not_encoded, opened}
use Rattle.sccs_grammar.specs.File.{opened_by, opened_cut, stored, sum_holds, summed, within_limit}
use Rattle.sccs_tokens.specs.Sums.{plain_sum}
use Rattle.sccs_grammar.specs.FileRefusals.{refusal_of}
use Rattle.sccs_grammar.specs.declared.faults.FileFault.{FileFault}
use Rattle.sccs_grammar.specs.declared.faults.FileFault.TheVariants.{TooLong, BadSum, Encoded}

abbrev IsRead : {A : Type 0} → Result A FileFault → Type 0
IsRead (Ok x) = Unit {0}
IsRead (Err fault) = IsSome (refusal_of fault)

joined : {A B : Type 0} (r : Result A FileFault) (f : A → Result B FileFault) → IsRead r → ((x : A) → IsRead (f x))
    → IsRead (r >>= f)
joined (Ok x) f one rest = rest x
joined (Err fault) f one rest = one

format_read : {A : Type 0} (r : Result A ℕ) → IsRead (as_format r)
format_read (Ok x) = tt
format_read (Err line) = refl

by_stored : (o : Option ℕ) (lines : List (List ℕ)) (bytes : List ℕ) → IsRead (opened_by o lines bytes)
by_stored None lines bytes = refl
by_stored (Some n) lines bytes = tt

by_cut : (bytes : List ℕ) (lines : List (List ℕ)) → IsRead (opened_cut bytes lines)
by_cut bytes [] = refl
by_cut bytes (line ∷ lines) = by_stored (stored line) lines _

opened_read : (bytes : List ℕ) → IsRead (opened bytes)
unfolding opened
opened_read bytes = by_cut bytes (cut bytes).lines

either : {A : Type 0} (test : Bool) (r s : Result A FileFault) → IsRead r → IsRead s → IsRead (if test then r else s)
either true r s one other = one
either false r s one other = other

sum_read : (o : Opened) → IsRead (summed o)
sum_read o = either (sum_holds o) (Ok o) (Err (BadSum o.sum_of (plain_sum o.bytes))) tt refl

plain_read : {A : Type 0} (h : Header) (x : A) → IsRead (not_encoded h x)
plain_read h x = either (is_encoded h.flags) (Err Encoded) (Ok x) refl tt

limit_read : (bytes : List ℕ) → IsRead (within_limit bytes)
limit_read bytes = either (nat_lt 1073741824 (length bytes)) (Err TooLong) (Ok bytes) refl tt

front_read : (bytes : List ℕ) → IsRead (checked_front bytes)
unfolding checked_front
front_read bytes =
    joined (opened bytes) _ (opened_read bytes) (λ o. joined (summed o) _ (sum_read o)
    (λ p. format_read (front_from 2 start p.lines)))

parsed_of : Header → List Item → Parsed
parsed_of h items = record { header = h; items = items }

file_read : (bytes : List ℕ) → IsRead (file_of bytes)
unfolding file_of parsed_of
file_read bytes =
    joined (checked_front bytes) _ (front_read bytes)
    (λ f. joined (as_format (items_from (live_serials f.header.records) f.line [] f.rest (cut bytes).tail)) _
    (format_read (items_from (live_serials f.header.records) f.line [] f.rest (cut bytes).tail))
    (λ items. plain_read f.header (parsed_of f.header items)))

answer_read : (o : Option (List ℕ)) → IsRead (answer file_of o)
answer_read None = refl
answer_read (Some bytes) = joined (within_limit bytes) file_of (limit_read bytes) file_read

pub file_refused : (o : Option (List ℕ)) (fault : FileFault) → answer file_of o ≡ Err fault → IsSome (refusal_of fault)
file_refused o fault is = subst IsRead is (answer_read o)
