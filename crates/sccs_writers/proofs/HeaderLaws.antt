-- The bytes of a header, part by part.
use Rattle.std.proofs.Common.{◌≡◌, ◌≢◌, ℕ, length, arith, List, [], ◌∷◌, ◌++◌, map, flat_map, refl, sym, ap, ◌∙◌}
use Rattle.std.proofs.Common.{append-nil, append_assoc}
use Rattle.std.specs.Prelude.{decimal}
use Rattle.std.proofs.lemmas.Grind.{flat_map-append}
use Rattle.std.proofs.lemmas.List.Folds.{flat_map-map}
use Rattle.sccs_sid.specs.Sid.{sid_text}
use Rattle.sccs_sid.specs.Moment.{date_text, moment_text, time_text}
use Rattle.sccs_history.specs.declared.headers.Record.{Record}
use Rattle.sccs_history.specs.declared.headers.Header.{Header}
use Rattle.sccs_tokens.specs.Written.{bytes_of, comment_line, counts_line, delta_line, end_line, ended, entry_lines}
use Rattle.sccs_tokens.specs.Written.{five, flag_line, header_lines, kind_of, list_lines, mark, mr_line, spaced}
use Rattle.sccs_tokens.specs.Written.{table_lines}
use Rattle.sccs_writers.specs.HeaderBytes.{description_bytes, entry_bytes, flags_bytes, header_bytes, table_bytes}
use Rattle.sccs_writers.specs.HeaderBytes.{users_bytes}

-- ---- lines

lines_both : (xs ys : List (List ℕ)) → bytes_of (xs ++ ys) ≡ bytes_of xs ++ bytes_of ys
lines_both xs ys = flat_map-append ended xs ys

mapped : {X : Type 0} (f : X → List ℕ) (xs : List X) → bytes_of (map f xs) ≡ flat_map (λ x. ended (f x)) xs
mapped f xs = flat_map-map ended f xs

-- ---- an entry

pub spaced_serials : (ns : List ℕ) → spaced (map decimal ns) ≡ flat_map (λ n. 32 ∷ decimal n) ns
spaced_serials [] = refl
spaced_serials (n ∷ ns) = ap (λ rest. (32 ∷ decimal n) ++ rest) (spaced_serials ns)

pub list_of_none : (letter : ℕ) (ns : List ℕ) → length ns ≡ 0 → [] ≡ bytes_of (list_lines letter ns)
list_of_none letter [] is = refl
list_of_none letter (n ∷ ns) is = absurd (omega (arith, is))

pub list_of_some : (letter : ℕ) (ns : List ℕ) → length ns ≢ 0 → (1 ∷ letter ∷ []) ++ (flat_map (λ k. 32 ∷ decimal k) ns
    ++ (10 ∷ [])) ≡ bytes_of (list_lines letter ns)
list_of_some letter [] some = absurd (some refl)
list_of_some letter (n ∷ ns) some =
    ap (λ text. (1 ∷ letter ∷ []) ++ (text ++ (10 ∷ []))) (sym (spaced_serials (n ∷ ns)))
    ∙ sym (append-nil (ended (1 ∷ letter ∷ spaced (map decimal (n ∷ ns)))))

pub counts_text : (a b c : List ℕ) (i d u : ℕ) → a ≡ five i → b ≡ five d → c ≡ five u
    → 1 ∷ 115 ∷ 32 ∷ a ++ (47 ∷ b ++ (47 ∷ c ++ (10 ∷ []))) ≡ ended (counts_line i d u)
counts_text a b c i d u p q r =
    ap (λ x. 1 ∷ 115 ∷ 32 ∷ x ++ (47 ∷ b ++ (47 ∷ c ++ (10 ∷ [])))) p
    ∙ (ap (λ x. 1 ∷ 115 ∷ 32 ∷ five i ++ (47 ∷ x ++ (47 ∷ c ++ (10 ∷ [])))) q
    ∙ ap (λ x. 1 ∷ 115 ∷ 32 ∷ five i ++ (47 ∷ five d ++ (47 ∷ x ++ (10 ∷ [])))) r)

-- words, each behind a blank, and then a rest
abbrev words_and : List (List ℕ) → List ℕ → List ℕ
words_and [] rest = rest
words_and (w ∷ ws) rest = 32 ∷ (w ++ words_and ws rest)

words_end : (ws : List (List ℕ)) (rest : List ℕ) → spaced ws ++ rest ≡ words_and ws rest
words_end [] rest = refl
words_end (w ∷ ws) rest = ap (λ x. 32 ∷ x) (append_assoc w (spaced ws) rest ∙ ap (λ x. w ++ x) (words_end ws rest))

words_joined : (k s d t l n p : List ℕ) → (1 ∷ 100 ∷ 32 ∷ (k ++ (32 ∷ [])))
    ++ (s ++ (32 ∷ ((d ++ (32 ∷ t)) ++ (32 ∷ (l ++ (32 ∷ (n ++ (32 ∷ (p ++ (10 ∷ []))))))))))
    ≡ ended (1 ∷ 100 ∷ spaced (k ∷ s ∷ d ∷ t ∷ l ∷ n ∷ p ∷ []))
words_joined k s d t l n p =
    ap (λ x. 1 ∷ 100 ∷ 32 ∷ x) (append_assoc k (32 ∷ [])
    (s ++ (32 ∷ ((d ++ (32 ∷ t)) ++ (32 ∷ (l ++ (32 ∷ (n ++ (32 ∷ (p ++ (10 ∷ []))))))))))
    ∙ ap (λ x. k ++ (32 ∷ (s ++ (32 ∷ x))))
    (append_assoc d (32 ∷ t) (32 ∷ (l ++ (32 ∷ (n ++ (32 ∷ (p ++ (10 ∷ [])))))))))
    ∙ sym (ap (λ x. 1 ∷ 100 ∷ x) (words_end (k ∷ s ∷ d ∷ t ∷ l ∷ n ∷ p ∷ []) (10 ∷ [])))

pub delta_parts : (r : Record) (moment : List ℕ) → moment ≡ moment_text r.moment
    → (1 ∷ 100 ∷ 32 ∷ (kind_of r.removed ++ (32 ∷ [])))
    ++ (sid_text r.sid ++ (32
    ∷ (moment ++ (32 ∷ (r.login ++ (32 ∷ (decimal r.serial ++ (32 ∷ (decimal r.predecessor ++ (10 ∷ []))))))))))
    ≡ ended (delta_line r)
delta_parts r moment is =
    ap (λ m. (1 ∷ 100 ∷ 32 ∷ (kind_of r.removed ++ (32 ∷ [])))
    ++ (sid_text r.sid ++ (32
    ∷ (m ++ (32 ∷ (r.login ++ (32 ∷ (decimal r.serial ++ (32 ∷ (decimal r.predecessor ++ (10 ∷ []))))))))))) is
    ∙ words_joined (kind_of r.removed) (sid_text r.sid) (date_text r.moment) (time_text r.moment) r.login
    (decimal r.serial) (decimal r.predecessor)

regrouped : (a b i x g m c e rest : List ℕ) → a ++ (b ++ (i ++ (x ++ (g ++ (m ++ (c ++ (e ++ rest)))))))
    ≡ (a ++ (b ++ ((i ++ (x ++ g)) ++ (m ++ (c ++ e))))) ++ rest
regrouped a b i x g m c e rest = simp append_assoc

pub entry_of : (r : Record) (rest : List (List ℕ)) → bytes_of (entry_lines r rest) ≡ entry_bytes r ++ bytes_of rest
entry_of r rest =
    ap (λ bytes. ended (counts_line r.inserted r.deleted r.unchanged) ++ (ended (delta_line r) ++ bytes))
    (lines_both (list_lines 105 r.include) _ ∙ ap (λ bytes. bytes_of (list_lines 105 r.include) ++ bytes)
    (lines_both (list_lines 120 r.exclude) _ ∙ ap (λ bytes. bytes_of (list_lines 120 r.exclude) ++ bytes)
    (lines_both (list_lines 103 r.ignore) _ ∙ ap (λ bytes. bytes_of (list_lines 103 r.ignore) ++ bytes)
    (lines_both (map mr_line r.mrs) _
    ∙ (ap (λ front. front ++ bytes_of (map comment_line r.comments ++ (end_line ∷ rest))) (mapped mr_line r.mrs)
    ∙ ap (λ bytes. flat_map (λ t. ended (mr_line t)) r.mrs ++ bytes)
    (lines_both (map comment_line r.comments) (end_line ∷ rest) ∙ ap (λ front. front ++ bytes_of (end_line ∷ rest))
    (mapped comment_line r.comments)))))))
    ∙ regrouped (ended (counts_line r.inserted r.deleted r.unchanged)) (ended (delta_line r))
    (bytes_of (list_lines 105 r.include)) (bytes_of (list_lines 120 r.exclude)) (bytes_of (list_lines 103 r.ignore))
    (flat_map (λ t. ended (mr_line t)) r.mrs) (flat_map (λ t. ended (comment_line t)) r.comments) (ended end_line)
    (bytes_of rest)

-- ---- a header

pub table_of : (records : List Record) (rest : List (List ℕ)) → bytes_of (table_lines records rest)
    ≡ table_bytes records ++ bytes_of rest
table_of [] rest = refl
table_of (r ∷ records) rest =
    entry_of r (table_lines records rest) ∙ (ap (λ bytes. entry_bytes r ++ bytes) (table_of records rest)
    ∙ sym (append_assoc (entry_bytes r) (table_bytes records) (bytes_of rest)))

pub header_of : (h : Header) (rest : List (List ℕ)) → bytes_of (header_lines h rest) ≡ table_bytes h.records
    ++ (users_bytes h.users ++ (flags_bytes h.flags ++ (description_bytes h.description ++ bytes_of rest)))
header_of h rest =
    table_of h.records _
    ∙ ap (λ bytes. table_bytes h.records ++ bytes) (
    ap (λ bytes. ended (mark 117) ++ bytes) (lines_both h.users _
    ∙ ap (λ bytes. flat_map ended h.users ++ (ended (mark 85) ++ bytes))
    (lines_both (map flag_line h.flags) _
    ∙ (ap (λ front. front ++ bytes_of (mark 116 ∷ h.description ++ (mark 84 ∷ rest))) (mapped flag_line h.flags)
    ∙ ap (λ bytes. flags_bytes h.flags ++ (ended (mark 116) ++ bytes)) (lines_both h.description (mark 84 ∷ rest)))))
    ∙ sym (simp append_assoc)
    )

-- a header, and then other lines
pub header_and : (h : Header) (rest : List (List ℕ)) → bytes_of (header_lines h rest) ≡ header_bytes h ++ bytes_of rest
header_and h rest =
    header_of h rest ∙ sym (ap (λ bytes. bytes ++ bytes_of rest) (header_of h []) ∙ simp (append_assoc, append-nil))

pub header_parts : (h : Header) → table_bytes h.records
    ++ (users_bytes h.users ++ (flags_bytes h.flags ++ description_bytes h.description)) ≡ header_bytes h
header_parts h = sym (header_of h [] ∙ simp append-nil)
