-- The letters of options.
use Rattle.std.specs.Prelude.{ℕ}

abbrev pub a : ℕ
a = 97

abbrev pub b : ℕ
b = 98

abbrev pub c : ℕ
c = 99

abbrev pub d : ℕ
d = 100

abbrev pub e : ℕ
e = 101

abbrev pub f : ℕ
f = 102

abbrev pub g : ℕ
g = 103

abbrev pub h : ℕ
h = 104

abbrev pub i : ℕ
i = 105

abbrev pub k : ℕ
k = 107

abbrev pub l : ℕ
l = 108

abbrev pub big_l : ℕ
big_l = 76

abbrev pub m : ℕ
m = 109

abbrev pub n : ℕ
n = 110

abbrev pub p : ℕ
p = 112

abbrev pub r : ℕ
r = 114

abbrev pub s : ℕ
s = 115

abbrev pub t : ℕ
t = 116

abbrev pub x : ℕ
x = 120

abbrev pub y : ℕ
y = 121

abbrev pub z : ℕ
z = 122
