-- The registers' numbers, "004's decimal register" (01, "The bus"): "STAT 6, SOUT 9 and SYS 10 (equal), TEMP 11, SRAW 12, CELL 13,
-- FLAG 14, CRAW 15, ELEC 16, SZ 22, SYSN 23, PEAK 24, TROF 25, RST 100, SNAP 103, peak reset 104"; and Change 1: "CGAI 40, COFS 41,
-- CMIN 44, CMAX 45, CLN 50, CLX 51 to 57, CLK 61 to 67, SGAI 70, SOFS 71, SMIN 74, SMAX 75, FFLV 92, FFST 93, CTN 110, CT 111 to 115,
-- CTG 116 to 120, CTO 121 to 125", "our own register 99". Of a table's column the first point's.
use Rattle.std.specs.Prelude.{ℕ}

abbrev pub STAT : ℕ
STAT = 6

abbrev pub SOUT : ℕ
SOUT = 9

abbrev pub SYS : ℕ
SYS = 10

abbrev pub TEMP : ℕ
TEMP = 11

abbrev pub SRAW : ℕ
SRAW = 12

abbrev pub CELL : ℕ
CELL = 13

abbrev pub FLAG : ℕ
FLAG = 14

abbrev pub CRAW : ℕ
CRAW = 15

abbrev pub ELEC : ℕ
ELEC = 16

abbrev pub SZ : ℕ
SZ = 22

abbrev pub SYSN : ℕ
SYSN = 23

abbrev pub PEAK : ℕ
PEAK = 24

abbrev pub TROF : ℕ
TROF = 25

abbrev pub CGAI : ℕ
CGAI = 40

abbrev pub COFS : ℕ
COFS = 41

abbrev pub CMIN : ℕ
CMIN = 44

abbrev pub CMAX : ℕ
CMAX = 45

abbrev pub CLN : ℕ
CLN = 50

-- the first of seven points
abbrev pub CLX : ℕ
CLX = 51

-- the first of seven points
abbrev pub CLK : ℕ
CLK = 61

abbrev pub SGAI : ℕ
SGAI = 70

abbrev pub SOFS : ℕ
SOFS = 71

abbrev pub SMIN : ℕ
SMIN = 74

abbrev pub SMAX : ℕ
SMAX = 75

abbrev pub FFLV : ℕ
FFLV = 92

abbrev pub FFST : ℕ
FFST = 93

-- "our own register 99", which puts the copy in force
abbrev pub APPLY : ℕ
APPLY = 99

abbrev pub RST : ℕ
RST = 100

abbrev pub SNAP : ℕ
SNAP = 103

-- peak reset
abbrev pub PEAKRESET : ℕ
PEAKRESET = 104

abbrev pub CTN : ℕ
CTN = 110

-- the first of five points
abbrev pub CT : ℕ
CT = 111

-- the first of five points
abbrev pub CTG : ℕ
CTG = 116

-- the first of five points
abbrev pub CTO : ℕ
CTO = 121
