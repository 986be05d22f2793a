-- How the statuses of several steps become one (POSIX, "Exit status" of each utility).
use Rattle.std.specs.Prelude.{ℕ, max, ◌==◌, if◌then◌else◌, Result, Ok, Err}
use Rattle.sccs_sid.specs.declared.refusals.StepFault.{StepFault}
use Rattle.sccs_steps.specs.declared.statuses.StatusRule.{StatusRule}
use Rattle.sccs_steps.specs.declared.statuses.StatusRule.TheVariants.{Greatest, AnyZero}

-- the status where no step is made
abbrev pub idle_status : StatusRule → ℕ
idle_status Greatest = 0
idle_status AnyZero = 1

-- 0 where one of two is 0, else the greater
abbrev pub zero_or_greater : ℕ → ℕ → ℕ
zero_or_greater a b = if a == 0 then 0 else if b == 0 then 0 else max a b

-- the status of steps and of those behind them
abbrev pub joined_status : StatusRule → ℕ → ℕ → ℕ
joined_status Greatest a b = max a b
joined_status AnyZero a b = zero_or_greater a b

-- the status of an ordinary step that is made is 0
abbrev pub with_status : Result (Unit {0}) StepFault → Result ℕ StepFault
with_status (Ok done) = Ok 0
with_status (Err fault) = Err fault
