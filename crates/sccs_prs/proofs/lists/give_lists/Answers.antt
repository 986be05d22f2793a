use Rattle.std.proofs.Common.{[], ◌∷◌, ◌++◌, refl}
use Rattle.sccs_keywords.proofs.GiveLaws.{text_fails, text_then}
use Rattle.sccs_prs.specs.Values.{serials_text}
use Rattle.sccs_prs.proofs.GiveLists.{slashed_rest, slashed_whole}
use Rattle.sccs_prs.proofs.lists.give_lists.Goals as goal

pub returns-in-Err : goal.returns-in-Err
returns-in-Err g c =
    let a = serials_text c.args.delta.now.include in
    let b = serials_text c.args.delta.now.exclude in
    let d = serials_text c.args.delta.now.ignore in
    text_fails (a ++ 47 ∷ []) (b ++ (47 ∷ d)) _ _ _ _ _ c.give_slashed.result c.in-Err.fault c.in-Err.fault
    (slashed_rest a (b ++ (47 ∷ d))) c.in-Err.is c.give_slashed.ensures

pub returns-in-Err-give_slashed : goal.returns-in-Err-give_slashed
returns-in-Err-give_slashed g c =
    let a = serials_text c.args.delta.now.include in
    let b = serials_text c.args.delta.now.exclude in
    let d = serials_text c.args.delta.now.ignore in
    text_fails ((a ++ 47 ∷ []) ++ (b ++ 47 ∷ [])) d _ _ _ _ _ c.give_slashed-2.result c.in-Err-give_slashed.fault
    c.in-Err-give_slashed.fault (slashed_whole a b d) c.in-Err-give_slashed.is
    (text_then (a ++ 47 ∷ []) (b ++ 47 ∷ []) _ _ _ _ _ _ _ c.give_slashed.result c.give_slashed-2.result _ refl
    c.in_default.is c.give_slashed.ensures c.give_slashed-2.ensures)

pub returns : goal.returns
returns g c =
    let a = serials_text c.args.delta.now.include in
    let b = serials_text c.args.delta.now.exclude in
    let d = serials_text c.args.delta.now.ignore in
    text_then ((a ++ 47 ∷ []) ++ (b ++ 47 ∷ [])) d _ _ _ _ _ _ _ c.give_slashed-2.result c.give_serials.result _
    (slashed_whole a b d) c.in_default-give_slashed.is
    (text_then (a ++ 47 ∷ []) (b ++ 47 ∷ []) _ _ _ _ _ _ _ c.give_slashed.result c.give_slashed-2.result _ refl
    c.in_default.is c.give_slashed.ensures c.give_slashed-2.ensures) c.give_serials.ensures
