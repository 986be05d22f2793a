-- The spelling of items, part by part.
use Rattle.std.proofs.Common.{◌≡◌, ℕ, List, [], ◌∷◌, ◌++◌, map, refl, sym, ap, ◌∙◌, append_assoc, append-nil}
use Rattle.sccs_history.specs.declared.headers.Item.{Item}
use Rattle.sccs_history.specs.declared.headers.Item.TheVariants.{Text, Insert, End}
use Rattle.sccs_tokens.specs.Written.{bytes_of, ended, item_line}
use Rattle.sccs_script_laws.specs.Places.{block}
use Rattle.sccs_writers.specs.Spelled.{spelled}

pub spelled_both : (xs ys : List Item) → spelled (xs ++ ys) ≡ spelled xs ++ spelled ys
spelled_both [] ys = refl
spelled_both (x ∷ xs) ys = ap (λ l. ended (item_line x) ++ l) (spelled_both xs ys)
    ∙ sym (append_assoc (ended (item_line x)) (spelled xs) (spelled ys))

pub spelled_one : (x : Item) → spelled (x ∷ []) ≡ ended (item_line x)
spelled_one x = append-nil (ended (item_line x))

pub spelled_texts : (texts : List (List ℕ)) → spelled (map Text texts) ≡ bytes_of texts
spelled_texts [] = refl
spelled_texts (text ∷ texts) = ap (λ l. ended text ++ l) (spelled_texts texts)

-- what is put of a block of lines, part by part
pub spelled_block : (n : ℕ) (text : List ℕ) (texts : List (List ℕ))
    → (ended (item_line (Insert n)) ++ bytes_of (text ∷ texts)) ++ ended (item_line (End n)) ≡ spelled
    (block n (text ∷ texts))
spelled_block n text texts =
    append_assoc (ended (item_line (Insert n))) (bytes_of (text ∷ texts)) (ended (item_line (End n)))
    ∙ ap (λ l. ended (item_line (Insert n)) ++ l)
    (sym (spelled_both (map Text (text ∷ texts)) (End n ∷ [])
    ∙ (ap (λ l. l ++ spelled (End n ∷ [])) (spelled_texts (text ∷ texts)) ∙ ap (λ l. bytes_of (text ∷ texts) ++ l)
    (spelled_one (End n)))))
