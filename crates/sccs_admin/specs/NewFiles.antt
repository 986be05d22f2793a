-- A new s-file: one delta and its lines, with users, flags and description. sccsfile(4); POSIX, admin.
use Rattle.std.specs.Prelude.{ℕ, min, false, List, [], ◌∷◌, ◌++◌, map, codes, Option, None, Some, unwrap_or}
use Rattle.sccs_sid.specs.Moment.{moment_text}
use Rattle.sccs_sid.specs.declared.moments.Stamp.{Stamp}
use Rattle.sccs_sid.specs.declared.sids.Sid.{Sid}
use Rattle.sccs_history.specs.declared.headers.Record.{Record}
use Rattle.sccs_history.specs.declared.headers.Header.{Header}
use Rattle.sccs_history.specs.declared.headers.Item.{Item}
use Rattle.sccs_history.specs.declared.headers.Item.TheVariants.{Text, Insert, End}
use Rattle.sccs_disk.specs.Files.{Content}
use Rattle.sccs_records.specs.Texts.{some_lines}
use Rattle.sccs_store.specs.SealedFiles.{sealed}
use Rattle.sccs_rules.specs.Rules.{with_rules}
use Rattle.sccs_rules.specs.Users.{changed_users}
use Rattle.sccs_words.specs.declared.commands.AdminWords.{AdminWords}
use Rattle.sccs_admin.specs.declared.rules.NewRules.{NewRules}

-- who made the file, and when
abbrev pub maker_text : Stamp → List ℕ
maker_text stamp = codes "date and time created " ++ (moment_text stamp.moment ++ (codes " by " ++ stamp.login))

-- the comment of -y, else who made the file, and when
abbrev pub comment_lines : Option (List (List ℕ)) → Stamp → List (List ℕ)
comment_lines None stamp = maker_text stamp ∷ []
comment_lines (Some lines) stamp = some_lines lines

-- the first SID: 1.1, or the first level of the release that -r gives
abbrev pub first_sid : Option ℕ → Sid
first_sid release = record { release = unwrap_or release 1; level = 1; branch = 0; sequence = 0 }

-- counts in the table stop at 99,999
abbrev pub first_record : AdminWords → Stamp → ℕ → Record
first_record words stamp count = record {
  serial = 1;
  removed = false;
  sid = first_sid words.release;
  moment = stamp.moment;
  login = stamp.login;
  predecessor = 0;
  include = [];
  exclude = [];
  ignore = [];
  mrs = words.mrs;
  comments = comment_lines words.comment stamp;
  inserted = min count 99999;
  deleted = 0;
  unchanged = 0;
}

-- the first delta, and neither user, flag nor description
abbrev pub first_header : AdminWords → Stamp → ℕ → Header
first_header words stamp count = record {
  records = first_record words stamp count ∷ [];
  users = [];
  flags = [];
  description = [];
}

abbrev pub new_header : AdminWords → Stamp → NewRules → Header
new_header words stamp rules = with_rules (first_header words stamp rules.count)
    (changed_users [] words.add words.erase) rules.flags rules.description

-- the lines, inserted by the first delta
abbrev pub new_items : List (List ℕ) → List Item
new_items lines = Insert 1 ∷ map Text lines ++ End 1 ∷ []

abbrev pub new_content : AdminWords → Stamp → NewRules → List (List ℕ) → Content
new_content words stamp rules lines = sealed (new_header words stamp rules) (new_items lines)
