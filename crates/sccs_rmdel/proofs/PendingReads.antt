-- What was read of both files of a name.
use Rattle.std.proofs.Common.{◌≡◌, ℕ, List, Option, None, Some, Ok}
use Rattle.sccs_disk.specs.Files.{Content}
use Rattle.sccs_changes.specs.Pending.{bytes_at, AnswersPending}
use Rattle.sccs_history.specs.declared.headers.Item.{Item}
use Rattle.sccs_changes.specs.declared.pending.Pending.{Pending}
use Rattle.sccs_changes.proofs.StopLaws.{pending_answer}
use Rattle.sccs_body.proofs.FileLaws.{file_items}
use Rattle.sccs_body.specs.BodyFile.{items_of}
use Rattle.sccs_body.specs.ToCome.{IsFrontFor}
use Rattle.sccs_table.specs.declared.fronts.Front.{Front}
use Rattle.sccs_table.specs.FrontFile.{IsPlaced}

-- ---- the s-file

-- A front that was read from a told file, whose body has these items.
pub record IsFrontWith (file : List ℕ) (front : Front) (items : List Item) : Type 0 where
  pub front_is : IsFrontFor file front
  pub items_are : items_of file front ≡ Ok items

pub body_there : (s p : Option Content) (x : Pending) (told : Option (List ℕ)) (read : AnswersPending s p (Ok x))
    → IsPlaced x.front → told ≡ bytes_at s → (file : List ℕ) × (told ≡ Some file)
    × IsFrontWith file x.front read.0.items
body_there None p x told read placed same = absurd read.1
body_there (Some s) p x told read placed same = (
  s.bytes,
  same,
  record {
    front_is = record { placed = placed; size = read.1.1.2.size; sum = read.1.1.2.sum };
    items_are = file_items s.bytes read.0 read.1.1.0 x.front
        (pending_answer s p (record { parsed = read.0; edits = x.edits }) read.2) read.1.1.1 read.1.1.2;
  },
)

-- ---- what is told after a call
