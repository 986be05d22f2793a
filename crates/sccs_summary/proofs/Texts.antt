-- The parts of what a summary has of a delta.
use Rattle.std.proofs.Common.{◌≡◌, ℕ, List, [], ◌∷◌, ◌++◌, sym, ap, ◌∙◌, append_assoc}

front_parts : (t m s d l : List ℕ) (r : ℕ) → ((((t ++ (m ++ r ∷ [])) ++ 32 ∷ []) ++ (s ++ 9 ∷ [])) ++ (d ++ 32 ∷ []))
    ++ (l ++ 10 ∷ []) ≡ t ++ (m ++ (r ∷ 32 ∷ s ++ (9 ∷ d ++ (32 ∷ l ++ 10 ∷ []))))
front_parts t m s d l r =
    append_assoc (((t ++ (m ++ r ∷ [])) ++ 32 ∷ []) ++ (s ++ 9 ∷ [])) (d ++ 32 ∷ []) (l ++ 10 ∷ [])
    ∙ (append_assoc ((t ++ (m ++ r ∷ [])) ++ 32 ∷ []) (s ++ 9 ∷ []) fourth
    ∙ (append_assoc (t ++ (m ++ r ∷ [])) (32 ∷ []) third
    ∙ (append_assoc t (m ++ r ∷ []) (32 ∷ third) ∙ ap (λ (text : List ℕ). t ++ text)
    (append_assoc m (r ∷ []) (32 ∷ third) ∙ ap (λ (text : List ℕ). m ++ (r ∷ 32 ∷ text)) last))))
  where
    fourth : List ℕ
    fourth = (d ++ 32 ∷ []) ++ (l ++ 10 ∷ [])

    third : List ℕ
    third = (s ++ 9 ∷ []) ++ fourth

    last : third ≡ s ++ (9 ∷ d ++ (32 ∷ l ++ 10 ∷ []))
    last = append_assoc s (9 ∷ []) fourth ∙ ap (λ (text : List ℕ). s ++ (9 ∷ text)) (append_assoc d (32 ∷ [])
        (l ++ 10 ∷ []))

-- the line of a delta, part by part
pub front_of : (t0 t1 t2 t3 t4 t5 m s d l m2 s2 d2 l2 : List ℕ) (r r2 : ℕ) → m ≡ m2 → r ≡ r2 → s ≡ s2 → d ≡ d2 → l ≡ l2
    → t1 ≡ t0 ++ (m ++ r ∷ []) → t2 ≡ t1 ++ 32 ∷ [] → t3 ≡ t2 ++ (s ++ 9 ∷ []) → t4 ≡ t3 ++ (d ++ 32 ∷ [])
    → t5 ≡ t4 ++ (l ++ 10 ∷ []) → t5 ≡ t0 ++ (m2 ++ (r2 ∷ 32 ∷ s2 ++ (9 ∷ d2 ++ (32 ∷ l2 ++ 10 ∷ []))))
front_of t0 t1 t2 t3 t4 t5 m s d l m2 s2 d2 l2 r r2 is_m is_r is_s is_d is_l one two three four five =
    rw (sym is_m, sym is_r, sym is_s, sym is_d, sym is_l)
    (five
    ∙ ap (λ (text : List ℕ). text ++ (l ++ 10 ∷ [])) (four
    ∙ ap (λ (text : List ℕ). text ++ (d ++ 32 ∷ [])) (three ∙ ap (λ (text : List ℕ). text ++ (s ++ 9 ∷ [])) (two
    ∙ ap (λ (text : List ℕ). text ++ 32 ∷ []) one)))
    ∙ front_parts t0 m s d l r)
