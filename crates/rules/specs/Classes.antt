-- The directional classes by their house numbers, and each question that the rules ask of a class.
use Rattle.std.specs.Prelude.{ℕ, ◌+◌, Bool, ◌||◌, eqb, ltb}

abbrev pub L : ℕ
L = 0

abbrev pub LRE : ℕ
LRE = 1

abbrev pub LRO : ℕ
LRO = 2

abbrev pub R : ℕ
R = 3

abbrev pub AL : ℕ
AL = 4

abbrev pub RLE : ℕ
RLE = 5

abbrev pub RLO : ℕ
RLO = 6

abbrev pub PDF : ℕ
PDF = 7

abbrev pub EN : ℕ
EN = 8

abbrev pub ES : ℕ
ES = 9

abbrev pub ET : ℕ
ET = 10

abbrev pub AN : ℕ
AN = 11

abbrev pub CS : ℕ
CS = 12

abbrev pub NSM : ℕ
NSM = 13

abbrev pub BN : ℕ
BN = 14

abbrev pub B : ℕ
B = 15

abbrev pub S : ℕ
S = 16

abbrev pub WS : ℕ
WS = 17

abbrev pub ON : ℕ
ON = 18

-- the house's own class: a separator of paragraphs that forms one with a B directly after it
abbrev pub CR : ℕ
CR = 19

-- the classes are 0 to 19: above the highest, a number is no class
abbrev pub highest_class : ℕ
highest_class = CR

-- a table by class has a place for each class, and behind them one for every other number
abbrev pub last_place : ℕ
last_place = highest_class + 1

abbrev pub row_width : ℕ
row_width = last_place + 1

unfoldable pub is_unknown : ℕ → Bool
is_unknown c = ltb highest_class c

-- the separators of paragraphs: B and CR
unfoldable pub is_paragraph_end : ℕ → Bool
is_paragraph_end c = eqb c B || eqb c CR

-- the codes that open an embedding or an override
unfoldable pub is_opening : ℕ → Bool
is_opening c = eqb c LRE || eqb c LRO || eqb c RLE || eqb c RLO

-- X9: removed are the codes and BN, by their original class. All others are kept, B and CR among them
unfoldable pub is_removed : ℕ → Bool
is_removed c = is_opening c || eqb c PDF || eqb c BN

-- strong: L, R and AL
unfoldable pub is_strong : ℕ → Bool
is_strong c = eqb c L || eqb c R || eqb c AL

-- neutral: B, CR, S, WS and ON
unfoldable pub is_neutral : ℕ → Bool
is_neutral c = is_paragraph_end c || eqb c S || eqb c WS || eqb c ON

-- L1: S, B and CR go back to the base level by themselves, WS before them or at the line's end
unfoldable pub is_separator : ℕ → Bool
is_separator c = eqb c S || is_paragraph_end c

unfoldable pub is_blank : ℕ → Bool
is_blank c = eqb c WS
