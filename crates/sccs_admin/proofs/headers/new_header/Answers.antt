use Rattle.sccs_admin.proofs.NewFileLaws.{spelled_as}
use Rattle.sccs_admin.proofs.headers.new_header.Goals as goal

pub returns-clause-spelled : goal.returns-clause-spelled
returns-clause-spelled c = spelled_as c.args.words.now c.args.stamp.now c.args.rules c.in_ok-header.header
    c.in_ok-users.users c.in_ok-header.ensures.value c.in_ok-header.ensures.spelled c.requires.rules
    c.in_ok-users.ensures
