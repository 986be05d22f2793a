-- An ordinary utility: the status of a step that is made is 0, and of several statuses the greatest counts.
use Rattle.sccs_steps.specs.Actions.{Action, KeepsFiles}
use Rattle.sccs_steps.specs.declared.statuses.StatusRule.TheVariants.{Greatest}

abbrev pub ordinary : Action → Action
ordinary x = record x { rule = Greatest }

abbrev pub ordinary_keeps : (x : Action) → KeepsFiles x → KeepsFiles (ordinary x)
ordinary_keeps x keeps = record {
  quiet = keeps.quiet;
  names = keeps.names;
  locked = keeps.locked;
  pending =
      keeps.pending;
}
