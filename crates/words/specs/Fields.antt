-- Request [11]: the fields of a word of a prepared pattern. Its code is also a bound of what it writes: see Pieces.
use Rattle.std.specs.Prelude.{Bool, ℕ, ◌/◌, ◌%◌, eqb}

abbrev pub code : ℕ → ℕ
code w = w % 32

-- which of the numbers that patterns have most, or how many digits a year has
abbrev pub slot : ℕ → ℕ
slot w = w / 32 % 8

-- how often a byte stands, how many bytes are held, or how many digits a year has
abbrev pub count : ℕ → ℕ
count w = w / 32 % 512

-- where held bytes start, and whether a write loses the last of them
abbrev pub from : ℕ → ℕ
from w = w / 16384 % 512

abbrev pub is_lost : ℕ → Bool
is_lost w = eqb (w / 8388608 % 2) 1

-- the bytes behind the first and the second of three numbers
abbrev pub first_byte : ℕ → ℕ
first_byte w = w / 1099511627776 % 256

abbrev pub second_byte : ℕ → ℕ
second_byte w = w / 281474976710656 % 256

-- the byte by itself, or the one behind all else; there 0 stands for none
abbrev pub last_byte : ℕ → ℕ
last_byte w = w / 72057594037927936 % 256

-- a rule: its kind; what it is of, or which names; the digits that are written at least and read at most; the unit; the number that gives 0; the
-- length of a name; and of a zone, Z, the colon and the two groups

abbrev pub kind : ℕ → ℕ
kind w = w / 32 % 16

abbrev pub item : ℕ → ℕ
item w = w / 512 % 32

abbrev pub least : ℕ → ℕ
least w = w / 16384 % 16

abbrev pub most : ℕ → ℕ
most w = w / 262144 % 16

abbrev pub unit : ℕ → ℕ
unit w = w / 4194304 % 16

abbrev pub zero : ℕ → ℕ
zero w = w / 67108864 % 32

abbrev pub size : ℕ → ℕ
size w = w / 2147483648 % 8

abbrev pub utc : ℕ → Bool
utc w = eqb (w / 17179869184 % 2) 1

abbrev pub colon : ℕ → Bool
colon w = eqb (w / 34359738368 % 2) 1

abbrev pub minutes : ℕ → ℕ
minutes w = w / 68719476736 % 4

abbrev pub seconds : ℕ → ℕ
seconds w = w / 274877906944 % 4
