-- What a refusal's text says beside its fixed words.
use Rattle.std.specs.Prelude.{ℕ, List, [], ◌∷◌}
use Rattle.std.specs.Fmt.{decimal}
use Rattle.sccs_sid.specs.Sid.{sid_text}
use Rattle.sccs_sid.specs.Refusal.{sums_text, script_range, script_fault}
use Rattle.sccs_sid.specs.declared.details.Detail.{Detail}
use Rattle.sccs_sid.specs.declared.details.Detail.TheVariants.{Nothing, Number, Sums, Range, Fails, Letter, Place}

abbrev pub detail_text : Detail → List ℕ
detail_text Nothing = []
detail_text (Number n) = decimal n
detail_text (Sums stored computed) = sums_text stored computed
detail_text (Range line count) = script_range line count
detail_text (Fails revision line) = script_fault revision line
detail_text (Letter letter) = letter ∷ []
detail_text (Place sid) = sid_text sid
