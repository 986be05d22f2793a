use Rattle.sccs_admin.proofs.HeaderRules.{first_sid_is}
use Rattle.sccs_admin.proofs.headers.first_record.Goals as goal

pub returns-clause-spelled : goal.returns-clause-spelled
returns-clause-spelled c =
    record {
      sid = first_sid_is c.args.words.now.release c.unwrap_or.result c.unwrap_or.ensures c.requires.release;
      moment = c.requires.moment;
      login = c.bytes-bytes.ensures.login;
      mrs = c.in_ok-mrs.ensures.lines;
      comments =
          c.in_ok-comments.ensures.lines;
    }
