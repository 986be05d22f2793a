-- Flags that say which delta is meant: sccsfile(4), "Flags".
use Rattle.std.specs.Prelude.{◌==◌, List, Option, None, Some, option_and_then, find, Result, Ok, Err}
use Rattle.sccs_sid.specs.Spec.{spec_of}
use Rattle.sccs_sid.specs.declared.sids.Spec.{Spec}
use Rattle.sccs_history.specs.FlagText.{flag_d}
use Rattle.sccs_history.specs.declared.headers.Flag.{Flag}

abbrev pub as_spec : {E : Type 0} → Result Spec E → Option Spec
as_spec (Ok spec) = Some spec
as_spec (Err e) = None

-- the SID that the flag d names, where it is there
abbrev pub default_of : List Flag → Option Spec
default_of flags = option_and_then (λ f. as_spec (spec_of f.text)) (find (λ f. f.letter == flag_d) flags)
