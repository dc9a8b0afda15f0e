-- Number literals at the ends of what they stand for: integers, floats by their bits, and refusal 8.
use Rattle.std.specs.Prelude.{◌≡◌, refl, List, [], ◌∷◌, true}
use Rattle.definition_examples.specs.Computes.{computes}
use Rattle.definition_examples.specs.Points.{Point, refuses, plans, all_hold}

abbrev pub literals : List Point
literals =
    -- integers, up to the ends of i64
    plans "$[?@==9223372036854775807]" "01 03 01 00 09 0D 00 02 0A 10 FF FF FF FF FF FF FF 7F 14 00 0A" "" ∷
    plans "$[?@==-9223372036854775808]" "01 03 01 00 09 0D 00 02 0A 10 00 00 00 00 00 00 00 80 14 00 0A" "" ∷
    plans "$[?@==-1]" "01 03 01 00 09 0D 00 02 0A 10 FF FF FF FF FF FF FF FF 14 00 0A" "" ∷
    plans "$[?@==-0]" "01 03 01 00 09 0D 00 02 0A 10 00 00 00 00 00 00 00 00 14 00 0A" "" ∷
    -- floats
    plans "$[?@==-0.0]" "01 03 01 00 09 0D 00 02 0A 11 00 00 00 00 00 00 00 80 14 00 0A" "" ∷
    plans "$[?@==0.1]" "01 03 01 00 09 0D 00 02 0A 11 9A 99 99 99 99 99 B9 3F 14 00 0A" "" ∷
    plans "$[?@==10e22]" "01 03 01 00 09 0D 00 02 0A 11 F6 4A E1 C7 02 2D B5 44 14 00 0A" "" ∷
    plans "$[?@==1E-0022]" "01 03 01 00 09 0D 00 02 0A 11 E6 5E 17 10 20 39 5E 3B 14 00 0A" "" ∷
    plans "$[?@==-12.5e+1]" "01 03 01 00 09 0D 00 02 0A 11 00 00 00 00 00 40 5F C0 14 00 0A" "" ∷
    plans "$[?@==0e0]" "01 03 01 00 09 0D 00 02 0A 11 00 00 00 00 00 00 00 00 14 00 0A" "" ∷
    plans "$[?@==9007199254740991e0]" "01 03 01 00 09 0D 00 02 0A 11 FF FF FF FF FF FF 3F 43 14 00 0A" "" ∷
    -- "1e22 passes"; with document 02 1e23 passes too, and 1e309 is 8
    plans "$[?@==1e22]" "01 03 01 00 09 0D 00 02 0A 11 92 D5 4D 06 CF F0 80 44 14 00 0A" "" ∷
    plans "$[?@==1e23]" "01 03 01 00 09 0D 00 02 0A 11 F6 4A E1 C7 02 2D B5 44 14 00 0A" "" ∷
    plans "$[?@==1e308]" "01 03 01 00 09 0D 00 02 0A 11 A0 C8 EB 85 F3 CC E1 7F 14 00 0A" "" ∷
    refuses "$[?@==1e309]" 8 ∷
    plans "$[?@==0e308]" "01 03 01 00 09 0D 00 02 0A 11 00 00 00 00 00 00 00 00 14 00 0A" "" ∷
    refuses "$[?@==0e309]" 8 ∷
    plans "$[?@==-1e-342]" "01 03 01 00 09 0D 00 02 0A 11 00 00 00 00 00 00 00 80 14 00 0A" "" ∷
    refuses "$[?@==0.1e-342]" 8 ∷
    -- N is below ten to the 19, as it is written
    plans "$[?@==9007199254740993.0]" "01 03 01 00 09 0D 00 02 0A 11 00 00 00 00 00 00 40 43 14 00 0A" "" ∷
    plans "$[?@==9223372036854775808]" "01 03 01 00 09 0D 00 02 0A 11 00 00 00 00 00 00 E0 43 14 00 0A" "" ∷
    plans "$[?@==-9223372036854775809]" "01 03 01 00 09 0D 00 02 0A 11 00 00 00 00 00 00 E0 C3 14 00 0A" "" ∷
    plans "$[?@==9999999999999999999]" "01 03 01 00 09 0D 00 02 0A 11 00 3D 91 60 E4 58 E1 43 14 00 0A" "" ∷
    refuses "$[?@==10000000000000000000]" 8 ∷
    refuses "$[?@==1.0000000000000000000]" 8 ∷
    -- the least float, and the largest one
    plans "$[?@==3e-324]" "01 03 01 00 09 0D 00 02 0A 11 01 00 00 00 00 00 00 00 14 00 0A" "" ∷
    plans "$[?@==1797693134862315807e290]" "01 03 01 00 09 0D 00 02 0A 11 FF FF FF FF FF FF EF 7F 14 00 0A" "" ∷
    refuses "$[?@==1797693134862315808e290]" 8 ∷
    refuses "$[?@==10e308]" 8 ∷
    -- 8 comes behind 4 to 6, and match and search are before nothing
    refuses "$[?1e999==1 && match('a','b')]" 8 ∷
    refuses "$[?1e999==1 && count(1)==1]" 5 ∷
    []

pub literals_hold : all_hold literals ≡ true
unfolding computes
literals_hold = refl
