-- The names of the intent and of the plan are names.
use Rattle.std.proofs.Common.{◌≡◌, true, refl}
use Rattle.sccs_base.specs.Name.{is_name}
use Rattle.sccs_base.proofs.NameTests.{utf8_ascii}
use Rattle.sccs_intents.specs.Intents.{intent_file, plan_file}

pub intent_is : is_name intent_file ≡ true
unfolding is_name
intent_is = utf8_ascii intent_file refl

pub plan_is : is_name plan_file ≡ true
unfolding is_name
plan_is = utf8_ascii plan_file refl
