-- What is read of an intent, and what finishing a group makes of a view.
use Rattle.std.specs.Prelude.{◌≡◌, ℕ, false, List, map, Option, None, Some, Result, Ok, Err}
use Rattle.sccs_disk.specs.Files.{Content, View}
use Rattle.sccs_intents.specs.Intents.{entries_in, intent_file, intent_of, plan_file, well_formed}
use Rattle.sccs_intents.specs.declared.intents.IntentEntry.{IntentEntry}
use Rattle.sccs_crash_points.specs.Recovery.{without_name}
use Rattle.sccs_group.specs.Members.{completed}
use Rattle.sccs_group.specs.declared.members.Member.{Member}
use Rattle.sccs_group.specs.declared.recovering.GroupFault.{GroupFault}
use Rattle.sccs_group.specs.declared.recovering.GroupFault.TheVariants.{BadIntent, Failed, Memory}

-- the members that entries name; their g-files stay
abbrev pub bare : List IntentEntry → List Member
bare entries = map (λ (e : IntentEntry). record { entry = e; removes_g = false }) entries

-- an intent is there, and this is its first line that isn't of its form
abbrev pub IsBad : Option Content → ℕ → Type 0
IsBad None line = ⊥
IsBad (Some c) line = intent_of c.bytes ≡ Err line

-- an intent that is there has its form
abbrev pub IsWellFormed : Option Content → Type 0
IsWellFormed o = (line : ℕ) → IsBad o line → ⊥

-- the members that an intent of these bytes names
abbrev pub ReadsBytes : List ℕ → Result (List Member) GroupFault → Type 0
ReadsBytes bytes (Ok members) = members ≡ bare (well_formed (intent_of bytes))
ReadsBytes bytes (Err (BadIntent line)) = intent_of bytes ≡ Err line
ReadsBytes bytes (Err Failed) = ⊥
ReadsBytes bytes (Err Memory) = Unit {0}

-- the members that an intent names; none where it isn't there
abbrev pub ReadsMembers : Option Content → Result (Option (List Member)) GroupFault → Type 0
ReadsMembers None (Ok None) = Unit {0}
ReadsMembers None (Ok (Some members)) = ⊥
ReadsMembers (Some c) (Ok None) = ⊥
ReadsMembers (Some c) (Ok (Some members)) = members ≡ bare (entries_in (Some c))
ReadsMembers o (Err (BadIntent line)) = IsBad o line
ReadsMembers o (Err Failed) = Unit {0}
ReadsMembers o (Err Memory) = Unit {0}

-- the group of an intent that is there is completed
abbrev pub finished_by : Option Content → View → View
finished_by None v = v
finished_by (Some c) v = completed (bare (entries_in (Some c))) v

abbrev pub intent_finished : View → View
intent_finished v = finished_by (v intent_file) v

-- and a plan is gone
abbrev pub group_finished : View → View
group_finished v = finished_by (v intent_file) (without_name plan_file v)
