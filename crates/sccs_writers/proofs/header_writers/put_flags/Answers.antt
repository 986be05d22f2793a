use Rattle.std.proofs.Common.{[], ◌∷◌, ◌++◌, ap}
use Rattle.sccs_tokens.specs.Written.{behind_blank, ended, flag_line}
use Rattle.sccs_writers.proofs.PutLaws.{list_cut, list_put, puts_nothing, same_text, still_there}
use Rattle.sccs_writers.proofs.header_writers.put_flags.Goals as goal

pub put_mark-requires : goal.put_mark-requires
put_mark-requires g c = still_there _ _ _ _ _ _ _ _ c.loop-flag.invariant c.requires

pub loop-flag-init : goal.loop-flag-init
loop-flag-init g c = puts_nothing c.args.out.now _ _

pub returns-in-Err : goal.returns-in-Err
returns-in-Err g c =
    list_cut (λ f. ended (flag_line f)) c.args.flags.now c.items-flag-items.result.now c.items-flag-items.ensures
    c.loop-flag.flag-index c.flag-item.result c.flag-item.result c.loop-flag-test.true c.flag-item.is c.args.out.now
    c.loop-flag.out c.put_mark.new.out _ _ _ _ _ _ c.put_mark.result c.in-Err.fault c.in-Err.is
    c.loop-flag.invariant (same_text (ap (λ text. 1 ∷ 102 ∷ 32 ∷ c.flag-item.result.letter ∷ behind_blank text ++ 10
    ∷ []) c.bytes.ensures.value) c.put_mark.ensures)

pub loop-flag-preserved : goal.loop-flag-preserved
loop-flag-preserved g c =
    list_put (λ f. ended (flag_line f)) c.args.flags.now c.items-flag-items.result.now c.items-flag-items.ensures
    c.loop-flag.flag-index c.flag-item.result c.flag-item.result c.loop-flag-test.true c.flag-item.is c.args.out.now
    c.loop-flag.out c.put_mark.new.out _ _ _ _ _ _ c.put_mark.result c.in_default.field-0 c.in_default.is
    c.loop-flag.invariant (same_text (ap (λ text. 1 ∷ 102 ∷ 32 ∷ c.flag-item.result.letter ∷ behind_blank text ++ 10
    ∷ []) c.bytes.ensures.value) c.put_mark.ensures)
