-- Null deltas one after the other.
use Rattle.std.proofs.Common.{◌≡◌, ℕ, zero, suc, ◌+◌, ◌<◌, List, [], ◌∷◌, drop, get_or, map, length, sym, ap, subst}
use Rattle.std.proofs.Common.{◌∙◌}
use Rattle.std.specs.List.{AllByRecursion}
use Rattle.std.proofs.lemmas.List.{drop_more}
use Rattle.sccs_sid.specs.Sid.{IsSid}
use Rattle.sccs_sid.specs.declared.moments.Stamp.{Stamp}
use Rattle.sccs_sid.specs.declared.sids.Sid.{Sid}
use Rattle.sccs_history.specs.Applied.{newest}
use Rattle.sccs_history.specs.declared.headers.Header.{Header}
use Rattle.sccs_records.specs.NewDeltas.{last_of, null_delta, with_delta, with_deltas}
use Rattle.sccs_records.specs.declared.new_deltas.NewDelta.{NewDelta}

left_nulls : (stamp : Stamp) (sids : List Sid) (i : ℕ) (e : Sid) → i < length sids
    → map (null_delta stamp) (drop i sids) ≡ null_delta stamp (get_or sids i e) ∷ map (null_delta stamp)
    (drop (i + 1) sids)
left_nulls stamp sids i e low = ap (map (null_delta stamp)) (drop_more sids i e low)

-- one more is put
pub null_put : (stamp : Stamp) (sids : List Sid) (i : ℕ) (e : Sid) (header header2 : Header) (on on2 : ℕ) (d : NewDelta)
    → i < length sids → d ≡ null_delta stamp (get_or sids i e) → header2 ≡ with_delta header on d
    → on2 ≡ suc (newest header.records)
    → with_deltas header2 on2 (map (null_delta stamp) (drop (i + 1) sids)) ≡ with_deltas header on
    (map (null_delta stamp) (drop i sids))
null_put stamp sids i e header header2 on on2 d low is so next =
    let rest : List NewDelta = map (null_delta stamp) (drop (i + 1) sids) in
    ap (λ h. with_deltas h on2 rest) (so ∙ ap (with_delta header on) is)
    ∙ (ap (λ k. with_deltas (with_delta header on (null_delta stamp (get_or sids i e))) k rest) next
    ∙ sym (ap (with_deltas header on) (left_nulls stamp sids i e low)))

-- the next one is made on it
pub null_last : (stamp : Stamp) (sids : List Sid) (i : ℕ) (e : Sid) (header header2 : Header) (on on2 : ℕ)
    (d : NewDelta) → i < length sids → header2 ≡ with_delta header on d → on2 ≡ suc (newest header.records)
    → last_of on2 (newest header2.records) (map (null_delta stamp) (drop (i + 1) sids)) ≡ last_of on
    (newest header.records) (map (null_delta stamp) (drop i sids))
null_last stamp sids i e header header2 on on2 d low so next =
    let rest : List NewDelta = map (null_delta stamp) (drop (i + 1) sids) in
    ap (λ (h : Header). last_of on2 (newest h.records) rest) so
    ∙ (ap (λ k. last_of k (suc (newest header.records)) rest) next
    ∙ sym (ap (last_of on (newest header.records)) (left_nulls stamp sids i e low)))

-- each of the SIDs is one
pub sid_at : (sids : List Sid) (i : ℕ) (e : Sid) → i < length sids → AllByRecursion IsSid sids → IsSid (get_or sids i e)
sid_at sids i e low all = first (get_or sids i e) (drop (i + 1) sids) (subst (AllByRecursion IsSid)
    (drop_more sids i e low) (behind i sids all))
  where
    behind : (n : ℕ) (xs : List Sid) → AllByRecursion IsSid xs → AllByRecursion IsSid (drop n xs)
    behind zero xs all = all
    behind (suc n) [] all = tt
    behind (suc n) (x ∷ xs) all = behind n xs all.1

    first : (x : Sid) (xs : List Sid) → AllByRecursion IsSid (x ∷ xs) → IsSid x
    first x xs all = all.0
