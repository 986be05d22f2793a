use Rattle.std.proofs.Common.{◌≡◌, ◌<◌, ◌∙◌, arith, drop, length, length-take, refl, sym, take, ap}
use Rattle.sccs_disk.specs.Told.{seen}
use Rattle.sccs_name_files.proofs.WholeFileLaws.{read_piece}
use Rattle.sccs_what.proofs.FileLaws.{cut_left, ends_done, ends_short, of_left, took_some}
use Rattle.sccs_what.proofs.files.search_next.Goals as goal
use Rattle.sccs_what.proofs.files.search_next.Goals.{then-count-piece-via-then-count-piece}
use Rattle.sccs_what.proofs.files.search_next.Goals.{then-count-piece-via-else-count-piece+then-is_done}

pub returns-in_default-search_piece-clause-told : goal.returns-in_default-search_piece-clause-told
returns-in_default-search_piece-clause-told g c = λ bytes is.
    let read = read_piece (seen (g.D.Disk.told c.args.disk.now)) c.args.name.now bytes c.args.from c.args.piece.now
    c.read_at.new.into c.in-Ok.got is c.in-Ok.ensures.ok in (
      cut_left c.args.first (drop c.args.from bytes) (take c.unwrap_or-count.result c.read_at.new.into)
          (length c.args.piece.now) c.args.search.now c.args.held.now _ _
          (ap (λ n. take n c.read_at.new.into) c.unwrap_or-count.ensures
          ∙ read.1) c.in_default-search_piece.ensures.piece.err,
      c.in_default-search_piece.ensures.piece.empty,
    )

pub returns-then-count-piece-clause-told : goal.returns-then-count-piece-clause-told
returns-then-count-piece-clause-told g c = λ bytes is.
    let read = read_piece (seen (g.D.Disk.told c.args.disk.now)) c.args.name.now bytes c.args.from c.args.piece.now
    c.read_at.new.into c.in-Ok.got is c.in-Ok.ensures.ok in
    let p = take c.unwrap_or-count.result c.read_at.new.into in
    let p_is : p ≡ take (length c.args.piece.now) (drop c.args.from bytes) =
    ap (λ n. take n c.read_at.new.into) c.unwrap_or-count.ensures ∙ read.1 in
    elim c.then-count-piece.branch [
      | then-count-piece-via-then-count-piece w ↦ ends_short c.args.first (drop c.args.from bytes) p
          (length c.args.piece.now) c.in-Ok-search_piece.used c.args.search.now c.search_piece.new.search
          c.args.held.now c.search_piece.new.held _ _ p_is
          (omega (arith, w.if-count-piece.true, length-take c.unwrap_or-count.result c.read_at.new.into))
          c.in-Ok-search_piece.ensures.over c.in-Ok-search_piece.ensures.piece.ok
      | then-count-piece-via-else-count-piece+then-is_done w ↦ ends_done c.args.first (drop c.args.from bytes) p
          (length c.args.piece.now) c.in-Ok-search_piece.used c.args.search.now c.search_piece.new.search
          c.args.held.now c.search_piece.new.held _ _ p_is (sym w.is_done.ensures ∙ w.if-is_done.true)
          c.in-Ok-search_piece.ensures.piece.ok
    ]

pub returns-clause-told : goal.returns-clause-told
returns-clause-told g c = λ bytes is.
    let read = read_piece (seen (g.D.Disk.told c.args.disk.now)) c.args.name.now bytes c.args.from c.args.piece.now
    c.read_at.new.into c.in-Ok.got is c.in-Ok.ensures.ok in
    record {
      used = c.in-Ok-search_piece.used;
      place = refl;
      searches = of_left c.args.first (drop c.args.from bytes) (take c.unwrap_or-count.result c.read_at.new.into)
          (length c.args.piece.now) c.in-Ok-search_piece.used c.args.search.now c.search_piece.new.search
          c.args.held.now c.search_piece.new.held _ _ (ap (λ n. take n c.read_at.new.into) c.unwrap_or-count.ensures
          ∙ read.1) c.in-Ok-search_piece.ensures.piece.ok;
    }

pub returns-clause-further : goal.returns-clause-further
returns-clause-further g c =
    let fits : length c.read_at.new.into ≡ length c.args.piece.now = omega arith in
    let some : 0 < c.in-Ok-search_piece.used = took_some c.args.first c.search_piece.new.search
    (take c.unwrap_or-count.result c.read_at.new.into) c.in-Ok-search_piece.used c.in-Ok-search_piece.ensures.over
    (sym c.is_done.ensures ∙ c.if-is_done.false) (omega (
      arith,
      c.if-count-piece.false,
      c.requires.room,
      length-take c.unwrap_or-count.result c.read_at.new.into,
      fits,
    )) in omega (arith, some)
