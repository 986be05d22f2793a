-- A part of a header that is written is read again.
use Rattle.std.proofs.Common.{◌≡◌, ℕ, suc, ◌+◌, ◌==◌, Bool, true, false, not, List, [], ◌∷◌, ◌++◌, map, length, Ok}
use Rattle.std.proofs.Common.{Some, refl, sym, ap, ◌∙◌, arith, append-nil, append_assoc}
use Rattle.std.specs.Prelude.{decimal}
use Rattle.std.specs.List.{AllByRecursion, list_any}
use Rattle.std.proofs.lemmas.Bool.{and_parts, or_parts, or_from, not-true, ne_eqb, eqb-false}
use Rattle.sccs_history.specs.Numbers.{is_empty, share}
use Rattle.sccs_history.specs.History.{AreBare, IsFlag, has_own_letters, is_new}
use Rattle.sccs_history.specs.declared.headers.Flag.{Flag}
use Rattle.sccs_tokens.specs.Tokens.{token, control}
use Rattle.sccs_grammar.specs.Front.{at_table, at_lists, at_texts, at_users, at_flags, at_description, with_mr}
use Rattle.sccs_grammar.specs.Front.{with_comment, with_mrs, with_comments, with_include, with_exclude, with_ignore}
use Rattle.sccs_grammar.specs.Front.{all_below, after, accepted, is_whole, line_after, front_from}
use Rattle.sccs_tokens.specs.Written.{end_line, IsSerial, spaced, list_lines, mr_line, comment_line, flag_line}
use Rattle.sccs_grammar.specs.declared.header_parsers.TableEntry.{TableEntry}
use Rattle.sccs_grammar.specs.declared.header_parsers.ListsSeen.{ListsSeen}
use Rattle.sccs_grammar.specs.Entries.{Entries, with_entry}
use Rattle.sccs_grammar.specs.declared.header_parsers.HeaderParser.{HeaderParser}
use Rattle.sccs_tokens.specs.declared.line_tokens.LineToken.{LineToken}
use Rattle.sccs_tokens.specs.declared.line_tokens.LineToken.TheVariants.{Plain, FlagIs, Mr, Comment, EndEntry, Listed}
use Rattle.sccs_tokens.specs.declared.line_tokens.ListKind.TheVariants.{Included, Excluded, Ignored}
use Rattle.sccs_tokens.proofs.TokenLaws.{token_plain, token_mr, token_comment, token_flag, token_include, token_exclude}
use Rattle.sccs_tokens.proofs.TokenLaws.{token_ignore}

-- where reading goes on after a line
pub go_on : (n : ℕ) (r s : HeaderParser) (line : List ℕ) (lines : List (List ℕ)) → line_after n r line ≡ Ok s
    → is_whole s.state ≡ false → front_from n r (line ∷ lines) ≡ front_from (suc n) s lines
unfolding front_from
go_on n r s line lines is open_still = rw (is, open_still) refl

-- the same where the line says this
pub says : (n : ℕ) (r s : HeaderParser) (line : List ℕ) (lines : List (List ℕ)) (what : LineToken)
    → token line ≡ Some what → after n r.parts r.state what ≡ Ok s → is_whole s.state ≡ false
    → front_from n r (line ∷ lines) ≡ front_from (suc n) s lines
unfolding line_after
says n r s line lines what is next open_still = go_on n r s line lines (ap (accepted n r) is ∙ next) open_still

pub at_number : (n m : ℕ) (r : HeaderParser) (lines : List (List ℕ)) → n ≡ m
    → front_from n r lines ≡ front_from m r lines
at_number n m r lines is = ap (λ k. front_from k r lines) is

-- at another number that is the same, with what is the same
pub same : (n m : ℕ) (r s : HeaderParser) (lines : List (List ℕ)) → n ≡ m → r ≡ s
    → front_from n r lines ≡ front_from m s lines
same n m r s lines number is = ap (λ k. front_from k r lines) number ∙ ap (λ (x : HeaderParser). front_from m x lines)
    is

one_more : (n : ℕ) (length_of : ℕ) → suc n + length_of ≡ n + suc length_of
one_more n k = omega arith

pub push_more : {A : Type 0} (before : List A) (x : A) (xs : List A) → (before ++ x ∷ []) ++ xs ≡ before ++ x ∷ xs
push_more before x xs = append_assoc before (x ∷ []) xs

-- ---- users and description

pub users_again : (n : ℕ) (entries : Entries) (before us : List (List ℕ)) (rest : List (List ℕ)) → AreBare us
    → front_from n (at_users entries before) (us ++ rest) ≡ front_from (n + length us) (at_users entries (before ++ us))
    rest
users_again n entries before [] rest are = rw append-nil (at_number n (n + 0) (at_users entries before) rest
    (omega arith))
users_again n entries before (u ∷ us) rest are =
    says n (at_users entries before) (at_users entries (before ++ u ∷ [])) u (us ++ rest) (Plain u)
    (token_plain u are.0) refl refl
    ∙ (users_again (suc n) entries (before ++ u ∷ []) us rest are.1
    ∙ (rw (push_more before u us) (at_number (suc n + length us) (n + suc (length us))
    (at_users entries (before ++ u ∷ us)) rest (one_more n (length us)))))

pub description_again : (n : ℕ) (entries : Entries) (users : List (List ℕ)) (flags : List Flag)
    (before ts : List (List ℕ)) (rest : List (List ℕ)) → AreBare ts
    → front_from n (at_description entries users flags before) (ts ++ rest) ≡ front_from (n + length ts)
    (at_description entries users flags (before ++ ts)) rest
description_again n entries users flags before [] rest are =
    rw append-nil (at_number n (n + 0) (at_description entries users flags before) rest (omega arith))
description_again n entries users flags before (t ∷ ts) rest are =
    says n (at_description entries users flags before) (at_description entries users flags (before ++ t ∷ [])) t
    (ts ++ rest) (Plain t) (token_plain t are.0) refl refl
    ∙ (description_again (suc n) entries users flags (before ++ t ∷ []) ts rest are.1
    ∙ (rw (push_more before t ts) (at_number (suc n + length ts) (n + suc (length ts))
    (at_description entries users flags (before ++ t ∷ ts)) rest (one_more n (length ts)))))

-- ---- flags

-- none has a letter that one before has
abbrev pub AreNew : List Flag → List Flag → Type 0
AreNew before fs = AllByRecursion (λ f. is_new before f ≡ true) fs

pub all_new : (fs : List Flag) → AreNew [] fs
all_new [] = tt
all_new (f ∷ fs) = (refl, all_new fs)

pub any-push : (p : Flag → Bool) (before : List Flag) (f : Flag) → list_any p before ≡ false → p f ≡ false
    → list_any p (before ++ f ∷ []) ≡ false
any-push p [] f none is = rw is refl
any-push p (g ∷ before) f none is =
    let parts = or_parts (p g) (list_any p before) none in or_from (p g) (list_any p (before ++ f ∷ [])) parts.0
    (any-push p before f parts.1 is)

pub still_new : (before : List Flag) (f : Flag) (fs : List Flag) → AreNew before fs
    → list_any (λ g. g.letter == f.letter) fs ≡ false → AreNew (before ++ f ∷ []) fs
still_new before f [] new none = tt
still_new before f (g ∷ fs) new none =
    let parts = or_parts (g.letter == f.letter) (list_any (λ g. g.letter == f.letter) fs) none in
    let other : (f.letter == g.letter) ≡ false = ne_eqb f.letter g.letter (λ e. eqb-false g.letter f.letter parts.0
    (sym e)) in
    let none_before = any-push (λ h. h.letter == g.letter) before f (not-true _ new.0) other in
    (rw none_before refl, still_new before f fs new.1 parts.1)

flags_behind : (n : ℕ) (entries : Entries) (users : List (List ℕ)) (before fs : List Flag) (rest : List (List ℕ))
    → AllByRecursion IsFlag fs → has_own_letters fs ≡ true → AreNew before fs
    → front_from n (at_flags entries users before) (map flag_line fs ++ rest) ≡ front_from (n + length fs)
    (at_flags entries users (before ++ fs)) rest
flags_behind n entries users before [] rest are own new =
    rw append-nil (at_number n (n + 0) (at_flags entries users before) rest (omega arith))
flags_behind n entries users before (f ∷ fs) rest are own new =
    let parts = and_parts (not (list_any (λ g. g.letter == f.letter) fs)) (has_own_letters fs) own in
    says n (at_flags entries users before) (at_flags entries users (before ++ f ∷ [])) (flag_line f)
    (map flag_line fs ++ rest) (FlagIs f) (token_flag f are.0) (rw (are.0.letter, are.0.text, new.0) refl) refl
    ∙ (flags_behind (suc n) entries users (before ++ f ∷ []) fs rest are.1 parts.1 (still_new before f fs new.1
    (not-true _ parts.0))
    ∙ (rw (push_more before f fs) (at_number (suc n + length fs) (n + suc (length fs))
    (at_flags entries users (before ++ f ∷ fs)) rest (one_more n (length fs)))))

pub flags_again : (n : ℕ) (entries : Entries) (users : List (List ℕ)) (fs : List Flag) (rest : List (List ℕ))
    → AllByRecursion IsFlag fs → has_own_letters fs ≡ true
    → front_from n (at_flags entries users []) (map flag_line fs ++ rest) ≡ front_from (n + length fs)
    (at_flags entries users fs) rest
flags_again n entries users fs rest are own = flags_behind n entries users [] fs rest are own (all_new fs)

-- ---- MRs and comments

no_mrs : (e : TableEntry) → with_mrs e [] ≡ e
no_mrs e = ap (λ (ts : List (List ℕ)). record e { row = record e.row { mrs = ts } }) (append-nil e.row.mrs)

no_comments : (e : TableEntry) → with_comments e [] ≡ e
no_comments e = ap (λ (ts : List (List ℕ)). record e { row = record e.row { comments = ts } })
    (append-nil e.row.comments)

more_mrs : (e : TableEntry) (t : List ℕ) (ts : List (List ℕ)) → with_mrs (with_mr e t) ts ≡ with_mrs e (t ∷ ts)
more_mrs e t ts = ap (λ (all : List (List ℕ)). record e { row = record e.row { mrs = all } }) (push_more e.row.mrs t ts)

more_comments : (e : TableEntry) (t : List ℕ) (ts : List (List ℕ)) → with_comments (with_comment e t) ts
    ≡ with_comments e (t ∷ ts)
more_comments e t ts = ap (λ (all : List (List ℕ)). record e { row = record e.row { comments = all } })
    (push_more e.row.comments t ts)

pub mrs_again : (n : ℕ) (entries : Entries) (e : TableEntry) (ts : List (List ℕ)) (rest : List (List ℕ))
    → front_from n (at_texts entries e) (map mr_line ts ++ rest) ≡ front_from (n + length ts)
    (at_texts entries (with_mrs e ts)) rest
mrs_again n entries e [] rest = same n (n + 0) (at_texts entries e) (at_texts entries (with_mrs e [])) rest
    (omega arith) (ap (at_texts entries) (sym (no_mrs e)))
mrs_again n entries e (t ∷ ts) rest =
    says n (at_texts entries e) (at_texts entries (with_mr e t)) (mr_line t) (map mr_line ts ++ rest) (Mr t)
    (token_mr t) refl refl
    ∙ (mrs_again (suc n) entries (with_mr e t) ts rest
    ∙ same (suc n + length ts) (n + suc (length ts)) (at_texts entries (with_mrs (with_mr e t) ts))
    (at_texts entries (with_mrs e (t ∷ ts))) rest (one_more n (length ts))
    (ap (at_texts entries) (more_mrs e t ts)))

pub comments_again : (n : ℕ) (entries : Entries) (e : TableEntry) (ts : List (List ℕ)) (rest : List (List ℕ))
    → front_from n (at_texts entries e) (map comment_line ts ++ rest) ≡ front_from (n + length ts)
    (at_texts entries (with_comments e ts)) rest
comments_again n entries e [] rest = same n (n + 0) (at_texts entries e) (at_texts entries (with_comments e [])) rest
    (omega arith) (ap (at_texts entries) (sym (no_comments e)))
comments_again n entries e (t ∷ ts) rest =
    says n (at_texts entries e) (at_texts entries (with_comment e t)) (comment_line t) (map comment_line ts ++ rest)
    (Comment t) (token_comment t) refl refl
    ∙ (comments_again (suc n) entries (with_comment e t) ts rest
    ∙ same (suc n + length ts) (n + suc (length ts)) (at_texts entries (with_comments (with_comment e t) ts))
    (at_texts entries (with_comments e (t ∷ ts))) rest (one_more n (length ts))
    (ap (at_texts entries) (more_comments e t ts)))

pub token_end_entry : token end_line ≡ Some EndEntry
unfolding token control
token_end_entry = refl

-- behind the first MR or comment: MRs, comments and the end
pub texts_again : (n : ℕ) (entries : Entries) (e : TableEntry) (ms cs : List (List ℕ)) (rest : List (List ℕ))
    → front_from n (at_texts entries e) (map mr_line ms ++ (map comment_line cs ++ (end_line ∷ rest)))
    ≡ front_from (suc (n + length ms + length cs)) (at_table (with_entry entries (with_comments (with_mrs e ms) cs)))
    rest
texts_again n entries e ms cs rest =
    mrs_again n entries e ms (map comment_line cs ++ (end_line ∷ rest))
    ∙ (comments_again (n + length ms) entries (with_mrs e ms) cs (end_line ∷ rest)
    ∙ says (n + length ms + length cs) (at_texts entries (with_comments (with_mrs e ms) cs))
    (at_table (with_entry entries (with_comments (with_mrs e ms) cs))) end_line rest EndEntry token_end_entry refl
    refl)

abbrev ends_with : Entries → TableEntry → HeaderParser
ends_with entries e = at_table (with_entry entries e)

-- the same behind the lists
pub texts_behind : (n : ℕ) (entries : Entries) (e : TableEntry) (seen : ListsSeen) (ms cs : List (List ℕ))
    (rest : List (List ℕ))
    → front_from n (at_lists entries e seen) (map mr_line ms ++ (map comment_line cs ++ (end_line ∷ rest)))
    ≡ front_from (suc (n + length ms + length cs)) (at_table (with_entry entries (with_comments (with_mrs e ms) cs)))
    rest
texts_behind n entries e seen [] [] rest =
    says n (at_lists entries e seen) (at_table (with_entry entries e)) end_line rest EndEntry token_end_entry refl refl
    ∙ same (suc n) (suc (n + 0 + 0)) (at_table (with_entry entries e))
    (at_table (with_entry entries (with_comments (with_mrs e []) []))) rest (omega arith)
    (ap (ends_with entries) (sym (no_mrs e) ∙ sym (no_comments (with_mrs e []))))
texts_behind n entries e seen [] (c ∷ cs) rest =
    says n (at_lists entries e seen) (at_texts entries (with_comment e c)) (comment_line c)
    (map comment_line cs ++ (end_line ∷ rest)) (Comment c) (token_comment c) refl refl
    ∙ (texts_again (suc n) entries (with_comment e c) [] cs rest
    ∙ same (suc (suc n + 0 + length cs)) (suc (n + 0 + suc (length cs)))
    (at_table (with_entry entries (with_comments (with_mrs (with_comment e c) []) cs)))
    (at_table (with_entry entries (with_comments (with_mrs e []) (c ∷ cs)))) rest (omega arith)
    (ap (ends_with entries) (more_comments (with_mrs e []) c cs)))
texts_behind n entries e seen (m ∷ ms) cs rest =
    says n (at_lists entries e seen) (at_texts entries (with_mr e m)) (mr_line m)
    (map mr_line ms ++ (map comment_line cs ++ (end_line ∷ rest))) (Mr m) (token_mr m) refl refl
    ∙ (texts_again (suc n) entries (with_mr e m) ms cs rest
    ∙ same (suc (suc n + length ms + length cs)) (suc (n + suc (length ms) + length cs))
    (at_table (with_entry entries (with_comments (with_mrs (with_mr e m) ms) cs)))
    (at_table (with_entry entries (with_comments (with_mrs e (m ∷ ms)) cs))) rest (omega arith)
    (ap (λ (x : TableEntry). ends_with entries (with_comments x cs)) (more_mrs e m ms)))

-- ---- lists

-- an include list, where none is there yet
pub include_again : (n : ℕ) (entries : Entries) (e : TableEntry) (seen : ListsSeen) (ns : List ℕ) (rest : List (List ℕ))
    → AllByRecursion IsSerial ns → e.row.include ≡ [] → seen.included ≡ false → all_below e.row.serial ns ≡ true
    → share ns e.row.exclude ≡ false
    → front_from n (at_lists entries e seen) (list_lines 105 ns ++ rest) ≡ front_from (n + length (list_lines 105 ns))
    (at_lists entries (with_include e ns) (record seen { included = not (is_empty ns) })) rest
include_again n entries e seen [] rest are none first below apart =
    same n (n + 0) (at_lists entries e seen) (at_lists entries (with_include e []) (record seen { included = false }))
    rest (omega arith) (ap (λ ns. at_lists entries (with_include e ns) seen) none
    ∙ ap (λ b. at_lists entries (with_include e []) (record seen { included = b })) first)
include_again n entries e seen (k ∷ ns) rest are none first below apart =
    says n (at_lists entries e seen) (at_lists entries (with_include e (k ∷ ns)) (record seen { included = true }))
    (1 ∷ 105 ∷ spaced (map decimal (k ∷ ns))) rest (Listed Included (k ∷ ns)) (token_include k ns are)
    (rw (first, below, apart) refl) refl
    ∙ at_number (suc n) (n + 1) (at_lists entries (with_include e (k ∷ ns)) (record seen { included = true })) rest
    (omega arith)

-- an exclude list
pub exclude_again : (n : ℕ) (entries : Entries) (e : TableEntry) (seen : ListsSeen) (ns : List ℕ) (rest : List (List ℕ))
    → AllByRecursion IsSerial ns → e.row.exclude ≡ [] → seen.excluded ≡ false → all_below e.row.serial ns ≡ true
    → share ns e.row.include ≡ false
    → front_from n (at_lists entries e seen) (list_lines 120 ns ++ rest) ≡ front_from (n + length (list_lines 120 ns))
    (at_lists entries (with_exclude e ns) (record seen { excluded = not (is_empty ns) })) rest
exclude_again n entries e seen [] rest are none first below apart =
    same n (n + 0) (at_lists entries e seen) (at_lists entries (with_exclude e []) (record seen { excluded = false }))
    rest (omega arith) (ap (λ ns. at_lists entries (with_exclude e ns) seen) none
    ∙ ap (λ b. at_lists entries (with_exclude e []) (record seen { excluded = b })) first)
exclude_again n entries e seen (k ∷ ns) rest are none first below apart =
    says n (at_lists entries e seen) (at_lists entries (with_exclude e (k ∷ ns)) (record seen { excluded = true }))
    (1 ∷ 120 ∷ spaced (map decimal (k ∷ ns))) rest (Listed Excluded (k ∷ ns)) (token_exclude k ns are)
    (rw (first, below, apart) refl) refl
    ∙ at_number (suc n) (n + 1) (at_lists entries (with_exclude e (k ∷ ns)) (record seen { excluded = true })) rest
    (omega arith)

-- an ignore list
pub ignore_again : (n : ℕ) (entries : Entries) (e : TableEntry) (seen : ListsSeen) (ns : List ℕ) (rest : List (List ℕ))
    → AllByRecursion IsSerial ns → e.row.ignore ≡ [] → seen.ignored ≡ false → all_below e.row.serial ns ≡ true
    → front_from n (at_lists entries e seen) (list_lines 103 ns ++ rest) ≡ front_from (n + length (list_lines 103 ns))
    (at_lists entries (with_ignore e ns) (record seen { ignored = not (is_empty ns) })) rest
ignore_again n entries e seen [] rest are none first below =
    same n (n + 0) (at_lists entries e seen) (at_lists entries (with_ignore e []) (record seen { ignored = false }))
    rest (omega arith) (ap (λ ns. at_lists entries (with_ignore e ns) seen) none
    ∙ ap (λ b. at_lists entries (with_ignore e []) (record seen { ignored = b })) first)
ignore_again n entries e seen (k ∷ ns) rest are none first below =
    says n (at_lists entries e seen) (at_lists entries (with_ignore e (k ∷ ns)) (record seen { ignored = true }))
    (1 ∷ 103 ∷ spaced (map decimal (k ∷ ns))) rest (Listed Ignored (k ∷ ns)) (token_ignore k ns are)
    (rw (first, below) refl) refl
    ∙ at_number (suc n) (n + 1) (at_lists entries (with_ignore e (k ∷ ns)) (record seen { ignored = true })) rest
    (omega arith)
