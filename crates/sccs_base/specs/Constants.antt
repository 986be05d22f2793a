-- Bytes and limits that have names.
use Rattle.std.specs.Prelude.{ℕ}

-- the byte that begins a control line
abbrev pub soh : ℕ
soh = 1

-- the byte that ends a line
abbrev pub lf : ℕ
lf = 10

-- the byte that stands between words
abbrev pub blank : ℕ
blank = 32

-- the most bytes of a file or an input that is read
abbrev pub file_limit : ℕ
file_limit = 1073741824
