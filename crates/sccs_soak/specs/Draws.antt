-- The draws of a soak: a linear congruential generator with the multiplier and increment of ISO C's example of rand.
use Rattle.std.specs.Prelude.{ℕ, ◌+◌, ◌*◌, ◌/◌, ◌%◌}

-- the state after a draw
abbrev pub next_state : ℕ → ℕ
next_state state = (state * 1103515245 + 12345) % 2147483648

-- what a draw gives, by the state after it
abbrev pub draw_of : ℕ → ℕ
draw_of state = state / 65536
