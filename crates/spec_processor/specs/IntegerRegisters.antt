-- The integer registers: how many there are, and numbers by their names in the calling convention.
-- RISC-V Unprivileged manual, "Programmers' Model for Base Integer ISA"; RISC-V ELF psABI, "Integer Register Convention".
use Rattle.std.specs.Prelude.{ℕ}

abbrev pub register_count : ℕ
register_count = 32

-- the register that is always 0
abbrev pub x0 : ℕ
x0 = 0

-- temporaries
abbrev pub t0 : ℕ
t0 = 5

abbrev pub t1 : ℕ
t1 = 6

abbrev pub t2 : ℕ
t2 = 7

abbrev pub t3 : ℕ
t3 = 28

abbrev pub t4 : ℕ
t4 = 29

-- registers that a call keeps
abbrev pub s0 : ℕ
s0 = 8

abbrev pub s1 : ℕ
s1 = 9

-- the arguments of a call; a0 and a1 hold the answer too, and in a call from kernel mode a6 is the function and a7 its
-- extension
abbrev pub a0 : ℕ
a0 = 10

abbrev pub a1 : ℕ
a1 = 11

abbrev pub a2 : ℕ
a2 = 12

abbrev pub a3 : ℕ
a3 = 13

abbrev pub a6 : ℕ
a6 = 16

abbrev pub a7 : ℕ
a7 = 17
