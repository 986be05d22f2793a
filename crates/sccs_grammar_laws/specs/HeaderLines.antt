-- The lines of a header, part by part, by what each line says: sccsfile(4).
use Rattle.std.specs.Prelude.{◌≡◌, ℕ, ◌+◌, length, drop, Bool, true, false, List, [], ◌∷◌, ◌++◌, Some, map, flat_map}
use Rattle.std.specs.List.{AllByRecursion, IsDistinct, list_any}
use Rattle.sccs_base.specs.Cut.{cut}
use Rattle.sccs_history.specs.declared.headers.Record.{Record}
use Rattle.sccs_history.specs.declared.headers.Header.{Header}
use Rattle.sccs_grammar.specs.File.{stored, sum_holds}
use Rattle.sccs_grammar.specs.Front.{ParsedFront}
use Rattle.sccs_tokens.specs.Tokens.{token}
use Rattle.sccs_tokens.specs.Written.{delta_part}
use Rattle.sccs_tokens.specs.declared.line_tokens.LineToken.{LineToken}
use Rattle.sccs_tokens.specs.declared.line_tokens.LineToken.TheVariants.{Counts, Delta, Listed, Mr, Comment, EndEntry}
use Rattle.sccs_tokens.specs.declared.line_tokens.LineToken.TheVariants.{Users, EndUsers, FlagIs, Description}
use Rattle.sccs_tokens.specs.declared.line_tokens.LineToken.TheVariants.{EndDescription, Plain}
use Rattle.sccs_tokens.specs.declared.line_tokens.ListKind.{ListKind}
use Rattle.sccs_tokens.specs.declared.line_tokens.ListKind.TheVariants.{Included, Excluded, Ignored}

-- ---- an entry of the table

-- an MR or a comment
pub data EntryText : Type 0 where
  MrText : List ℕ → EntryText
  CommentText : List ℕ → EntryText

-- The entry of a record: which of its lists stand, in this order, and its MRs and comments as they are mixed.
pub record EntryLines : Type 0 where
  pub row : Record
  pub lists : List ListKind
  pub texts : List EntryText

abbrev pub serials_listed : Record → ListKind → List ℕ
serials_listed r Included = r.include
serials_listed r Excluded = r.exclude
serials_listed r Ignored = r.ignore

abbrev pub same_list : ListKind → ListKind → Bool
same_list Included Included = true
same_list Excluded Excluded = true
same_list Ignored Ignored = true
same_list _ _ = false

abbrev pub mrs_in : List EntryText → List (List ℕ)
mrs_in [] = []
mrs_in (MrText t ∷ texts) = t ∷ mrs_in texts
mrs_in (CommentText t ∷ texts) = mrs_in texts

abbrev pub comments_in : List EntryText → List (List ℕ)
comments_in [] = []
comments_in (MrText t ∷ texts) = comments_in texts
comments_in (CommentText t ∷ texts) = t ∷ comments_in texts

-- No list stands twice, one that doesn't stand is empty, and the MRs and comments are those of the record.
pub record IsEntry (e : EntryLines) : Type 0 where
  pub once : IsDistinct same_list e.lists
  pub others : (which : ListKind) → list_any (same_list which) e.lists ≡ false → serials_listed e.row which ≡ []
  pub mrs : mrs_in e.texts ≡ e.row.mrs
  pub comments : comments_in e.texts ≡ e.row.comments

-- ---- what the lines say

abbrev pub list_says : Record → ListKind → LineToken
list_says r which = Listed which (serials_listed r which)

abbrev pub text_says : EntryText → LineToken
text_says (MrText t) = Mr t
text_says (CommentText t) = Comment t

-- counts, the delta line, lists, MRs and comments, the end of the entry
abbrev pub entry_says : EntryLines → List LineToken
entry_says e =
    Counts e.row.inserted e.row.deleted e.row.unchanged ∷ Delta (delta_part e.row)
    ∷ (map (list_says e.row) e.lists ++ (map text_says e.texts ++ (EndEntry ∷ [])))

-- each part between its first and its last line; flags follow users
abbrev pub users_say : List (List ℕ) → List LineToken
users_say users = Users ∷ (map Plain users ++ (EndUsers ∷ []))

abbrev pub description_says : List (List ℕ) → List LineToken
description_says lines = Description ∷ (map Plain lines ++ (EndDescription ∷ []))

-- entries, users, flags, description
abbrev pub header_says : List EntryLines → Header → List LineToken
header_says entries h =
    flat_map entry_says entries ++ (users_say h.users ++ (map FlagIs h.flags ++ description_says h.description))

-- The lines are those of a header: its entries, users, flags and description.
pub record AreHeaderLines (lines : List (List ℕ)) (h : Header) : Type 0 where
  pub entries : List EntryLines
  pub each : AllByRecursion IsEntry entries
  pub records : map (λ e. e.row) entries ≡ h.records
  pub say : map token lines ≡ map Some (header_says entries h)

-- Lines from number n on begin with those of a header, and this is what follows them.
pub record BeginWithHeader (n : ℕ) (lines : List (List ℕ)) (p : ParsedFront) : Type 0 where
  pub prefix : List (List ℕ)
  pub split : lines ≡ prefix ++ p.rest
  pub line : p.line ≡ n + length prefix
  pub are : AreHeaderLines prefix p.header

-- The bytes begin an s-file: a sum line with the sum of what follows it, and the lines of a header.
pub record BeginSFile (bytes : List ℕ) (p : ParsedFront) : Type 0 where
  pub sum_line : List ℕ
  pub lines : List (List ℕ)
  pub sum : ℕ
  pub split : (cut bytes).lines ≡ sum_line ∷ lines
  pub stored : stored sum_line ≡ Some sum
  pub holds : sum_holds (record { sum_of = sum; lines = lines; bytes = drop (length sum_line + 1) bytes }) ≡ true
  pub header : BeginWithHeader 2 lines p
