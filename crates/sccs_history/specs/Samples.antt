-- Small tables and bodies, by which the definitions are tried.
use Rattle.std.specs.Prelude.{ℕ, ℤ, pos, false, List, [], ◌∷◌, Option, codes}
use Rattle.sccs_sid.specs.declared.sids.Sid.{Sid}
use Rattle.sccs_history.specs.Applied.{Asked, applied}
use Rattle.sccs_history.specs.Body.{lines_of}
use Rattle.sccs_history.specs.History.{History}
use Rattle.sccs_history.specs.Select.{select}
use Rattle.sccs_history.specs.declared.headers.Record.{Record}
use Rattle.sccs_history.specs.declared.headers.Item.{Item}
use Rattle.sccs_history.specs.declared.headers.Item.TheVariants.{Text, Insert, Delete, End}

-- a text of one byte
abbrev pub text_of_one : ℕ → List ℕ
text_of_one b = b ∷ []

-- a live delta by ann
abbrev pub sample_delta : ℕ → ℕ → Sid → ℤ → Record
sample_delta serial predecessor sid seconds = record {
  serial = serial;
  removed = false;
  sid = sid;
  moment = record { seconds = seconds };
  login = codes "ann";
  predecessor = predecessor;
  include = [];
  exclude = [];
  ignore = [];
  mrs = [];
  comments = [];
  inserted = 0;
  deleted = 0;
  unchanged = 0;
}

abbrev pub trunk : ℕ → ℕ → Sid
trunk release level = record { release = release; level = level; branch = 0; sequence = 0 }

abbrev pub on_branch : ℕ → ℕ → ℕ → ℕ → Sid
on_branch release level number sequence =
    record { release = release; level = level; branch = number; sequence = sequence }

-- a target, with serials taken in and left out
abbrev pub sample_asked : ℕ → List ℕ → List ℕ → Option ℤ → Asked
sample_asked target include exclude cutoff =
    record { target = target; include = include; exclude = exclude; cutoff = cutoff }

-- 1.1 and 1.2 on the trunk, the last second of February and the next one, and 1.1.1.1 much later
abbrev pub branched_table : List Record
branched_table = sample_delta 3 1 (on_branch 1 1 1 1) (pos 946684799) ∷ sample_delta 2 1 (trunk 1 2) (pos 162864000)
    ∷ sample_delta 1 0 (trunk 1 1) (pos 162863999) ∷ []

-- a; b, which 1.2 replaced by B; c of 1.1.1.1
abbrev pub branched_body : List Item
branched_body =
    Insert 1 ∷ Text (text_of_one 97) ∷ Delete 2 ∷ Text (text_of_one 98) ∷ End 2 ∷ Insert 2 ∷ Text (text_of_one 66)
    ∷ End 2 ∷ Insert 3 ∷ Text (text_of_one 99) ∷ End 3 ∷ End 1 ∷ []

abbrev pub branched : History
branched = record {
  header = record {
    records = branched_table;
    users = codes "ann" ∷ codes "bob" ∷ [];
    flags =
        record { letter = 101; text = text_of_one 48 } ∷ [];
    description = [];
  };
  lines = lines_of branched_body;
}

-- what the body shows where a table is asked
abbrev pub shown_when_asked : Asked → List Record → List Item → List (List ℕ)
shown_when_asked a records items = select (applied a records) (lines_of items)

-- 1.1, 1.2, 1.2.1.1, which leaves out 1.2, and 1.3, which takes in what the argument says
abbrev pub listing_table : List ℕ → List Record
listing_table include =
    record (sample_delta 4 2 (trunk 1 3) (pos 4)) { include = include } ∷ record (sample_delta 3 2 (on_branch 1 2 1 1)
    (pos 3)) { exclude = 2 ∷ [] }
    ∷ sample_delta 2 1 (trunk 1 2) (pos 2) ∷ sample_delta 1 0 (trunk 1 1) (pos 1) ∷ []

-- regions that cross: p, q, r, s, t
abbrev pub crossing_body : List Item
crossing_body =
    Insert 1 ∷ Text (text_of_one 112) ∷ Delete 3 ∷ Text (text_of_one 113) ∷ Insert 5 ∷ Text (text_of_one 114) ∷ End 3
    ∷ Text (text_of_one 115) ∷ End 5 ∷ Text (text_of_one 116) ∷ End 1 ∷ []

-- one, mid of a second delta, and two
abbrev pub second_body : List Item
second_body =
    Insert 1 ∷ Text (codes "text_of_one") ∷ Insert 2 ∷ Text (codes "mid") ∷ End 2 ∷ Text (codes "two %I%") ∷ End 1 ∷ []

abbrev pub first_body : List Item
first_body = Insert 1 ∷ Text (codes "text_of_one") ∷ Text (codes "two %I%") ∷ End 1 ∷ []
