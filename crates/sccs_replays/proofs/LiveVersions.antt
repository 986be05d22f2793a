-- Behind a call of delta each live version is its replay.
use Rattle.std.proofs.Common.{◌≡◌, ℕ, ◌≤◌, true, sym, ap, ◌∙◌, arith}
use Rattle.sccs_disk.specs.Files.{Content}
use Rattle.sccs_history.specs.Applied.{live_serials, newest}
use Rattle.sccs_history.specs.History.{same_sid}
use Rattle.sccs_history.specs.Numbers.{has}
use Rattle.sccs_grammar.specs.File.{Parsed}
use Rattle.sccs_script_laws.specs.Scripts.{apply}
use Rattle.sccs_sets.proofs.Living.{newest_live}
use Rattle.sccs_steps.specs.StepEffects.{StepEffect}
use Rattle.sccs_delta.specs.NewVersions.{MakesVersions, base_text, version_text}
use Rattle.sccs_delta.specs.Replays.{CallRead, DeltaCall, Texts, files_at, replayed_base, with_texts}
use Rattle.sccs_copies.proofs.FileReads.{file_keeps}
use Rattle.sccs_delta.proofs.NullVersions.{older_live}
use Rattle.sccs_delta.proofs.Replaying.{base_replayed, by_age}

-- the texts of a file's live serials are these
abbrev pub Follows : Parsed → Texts → Type 0
Follows file texts = (m : ℕ) → has (live_serials file.header.records) m ≡ true → version_text file m ≡ texts m

-- the versions behind a call follow the texts behind it
pub follows_on : (c : DeltaCall) (s : Content) (effect : StepEffect) (texts : Texts)
    (made : MakesVersions c.words c.stamp c.input (files_at s c) s effect) → Follows made.before texts
    → Follows made.after (with_texts texts
    (record { file = made.before; edits = made.edits; entry = made.entry; orders = made.orders }))
follows_on c s effect texts made follows m live =
    by_age (newest made.before.header.records) _ m (version_text made.after m) (texts m) (texts made.entry.base.got)
    (apply made.orders (replayed_base texts read))
    (λ old. made.versions.others m old ∙ follows m (sym (made.versions.live m old) ∙ live))
    (λ high within. made.versions.nulls m high (omega (arith, within, made.serial)) ∙ got_follows)
    (λ high last. ap (λ k. version_text made.after k) (let same : m ≡ newest made.after.header.records =
    omega (arith, low, last, made.serial) in same)
    ∙ (made.versions.own ∙ ap (apply made.orders) (base_replayed made.entry.edit.include made.entry.edit.exclude
    (base_text made.before made.entry.base) (texts made.entry.base.got) (λ none_in none_out.
    made.base.alone none_in none_out ∙ got_follows))))
  where
    read : CallRead
    read = record { file = made.before; edits = made.edits; entry = made.entry; orders = made.orders }

    low : m ≤ newest made.after.header.records
    low = older_live made.after.header.records m (file_keeps _ made.after made.reads).header.rules.table live

    got_follows : version_text made.before made.entry.base.got ≡ texts made.entry.base.got
    got_follows = follows made.entry.base.got (newest_live (λ sid. same_sid sid made.entry.edit.got)
        made.before.header.records made.entry.base.got made.base.got)
