-- The starred cases of the definition's figures (section 11), as one table: their sheets, and the numbers that they come to.
use Rattle.std.specs.Prelude.{List, [], ◌∷◌, ℕ, ◌-◌, ℤ, pos, replicate}
use Rattle.sheet.specs.CaseS.{altered_s}
use Rattle.sheet.specs.Packing.{bytes_of}
use Rattle.sheet.specs.Sheets.{figures_of}
use Rattle.sheet.specs.declared.Sheet.{Sheet}
use Rattle.design.specs.Numbers.{number_count}

-- the bytes that a sheet is written in
abbrev pub writing : Sheet → List ℕ
writing s = bytes_of (figures_of s)

abbrev pub starred_sheets : List Sheet
starred_sheets =
    altered_s 1000 20000 3000 8 500 30 0 1 0 0 0  -- S
    ∷ altered_s 1000 20000 3000 8 500 30 0 2 0 0 0  -- two lanes
    ∷ altered_s 1000 20000 3000 8 500 30 100 1 0 0 0  -- P 100
    ∷ altered_s 1000 20000 3000 8 0 30 0 1 0 0 0  -- bed 0
    ∷ altered_s 1000 20000 3000 8 578 31 0 1 0 0 0  -- z2 31, bed 578
    ∷ altered_s 1000 20000 3000 8 577 31 0 1 0 0 0  -- bed 577
    ∷ altered_s 1000 20000 3000 12 610 30 0 1 0 0 0  -- speed 12, bed 610
    ∷ altered_s 1000 20000 3000 12 600 30 0 1 0 0 0  -- bed 600
    ∷ altered_s 1000 20000 3000 8 500 30 0 1 30 1500 0  -- turn 30, radius 1,500
    ∷ altered_s 1000 20000 3000 8 500 30 0 1 30 2000 0  -- 2,000
    ∷ altered_s 1000 20000 3000 8 500 30 0 1 30 999 0  -- 999
    ∷ altered_s 1000 6000 4000 8 500 30 0 1 0 0 0  -- length 60 m, beam 40 m
    ∷ altered_s 1000 11999 4000 8 500 30 0 1 0 0 0  -- length 119.99 m
    ∷ altered_s 1000 12000 4000 8 500 30 0 1 0 0 0  -- length 120 m
    ∷ altered_s 1000 20000 3000 8 500 30 0 1 0 0 8  -- slope 8
    ∷ altered_s 1000 20000 3000 8 500 30 0 1 0 0 13  -- slope 13
    ∷ altered_s 1000 20000 3000 8 500 30 0 2 0 0 8  -- two lanes, slope 8
    ∷ altered_s 1000 20000 3000 8 1200 30 0 1 0 0 3  -- bed 1,200, slope 3
    ∷ altered_s 1000 20000 1200 8 100 30 0 1 0 0 4  -- beam 1,200, bed 100, slope 4
    ∷ altered_s 1000 20000 1400 8 100 30 0 1 0 0 4  -- beam 1,400
    ∷ altered_s 1000 20000 1200 8 200 30 0 1 0 0 4  -- beam 1,200, bed 200, slope 4
    ∷ altered_s 1000 20000 1000 8 200 30 0 1 0 0 4  -- beam 1,000
    ∷ altered_s 1000 6800 1250 9 320 30 0 1 0 0 4  -- at just nine tenths of the critical speed
    ∷ altered_s 1000 6800 1250 9 319 30 0 1 0 0 4  -- bed 319
    ∷ altered_s 999 20000 3000 8 500 30 0 1 0 0 0  -- draft 999
    ∷ altered_s 1001 20000 3000 8 500 30 0 1 0 0 0  -- draft 1,001
    ∷ altered_s 1000 20000 3000 8 500 31 0 1 0 0 0  -- z2 31
    ∷ altered_s 1000 20000 3000 8 578 32 0 1 0 0 0  -- z2 32, bed 578
    ∷ altered_s 1000 20000 3000 2 500 30 0 1 0 0 0  -- speed 2
    ∷ altered_s 1000 20000 3000 2 500 30 0 2 0 0 0  -- two lanes
    ∷ []

-- code, field, level, lanes, s, cut, datum depth, width, widening, columns tried, three classes; the level given is 0
abbrev answer : ℕ → ℕ → ℕ → ℕ → ℕ → ℕ → ℕ → ℕ → ℕ → List ℤ
answer lanes s cut width widening columns ship_class_is width_class_is depth_class_is =
    pos 0 ∷ pos 0 ∷ pos 0 ∷ pos lanes ∷ pos s ∷ pos cut ∷ pos cut ∷ pos width ∷ pos widening ∷ pos columns ∷ pos ship_class_is ∷ pos width_class_is
    ∷ pos depth_class_is ∷ []

abbrev refusal : ℕ → List ℤ
refusal number = pos number ∷ replicate (number_count - 1) (pos 0)

abbrev pub starred_numbers : List (List ℤ)
starred_numbers =
    answer 1 1170 1170 14400 0 2 0 0 1
    ∷ answer 2 1210 1210 30600 0 2 0 0 1
    ∷ answer 1 1170 1245 14400 0 2 0 0 1
    ∷ answer 1 1180 1180 14400 0 2 0 0 1
    ∷ answer 1 1156 1156 14400 0 1 0 0 1
    ∷ answer 1 1171 1171 14400 0 2 0 0 1
    ∷ answer 1 1220 1220 14400 0 1 0 0 1
    ∷ refusal 13
    ∷ answer 1 1170 1170 14400 1915 2 0 0 1
    ∷ answer 1 1170 1170 14400 0 2 0 0 1
    ∷ refusal 7
    ∷ refusal 18
    ∷ refusal 18
    ∷ answer 1 1150 1150 19200 0 2 0 0 1
    ∷ answer 1 1170 1170 14400 0 2 0 0 1
    ∷ refusal 16
    ∷ refusal 16
    ∷ answer 1 1155 1155 14400 0 1 0 0 1
    ∷ refusal 17
    ∷ answer 1 1180 1180 6720 0 2 0 3 1
    ∷ answer 1 1180 1180 5760 0 2 0 3 1
    ∷ refusal 16
    ∷ answer 1 1152 1152 6000 0 2 0 3 1
    ∷ refusal 17
    ∷ answer 1 1169 1169 14400 0 2 0 0 1
    ∷ answer 1 1172 1172 14400 0 2 0 0 1
    ∷ answer 1 1171 1171 14400 0 2 0 0 1
    ∷ answer 1 1172 1172 14400 0 2 0 0 1
    ∷ answer 1 1130 1130 12900 0 2 0 0 1
    ∷ answer 2 1130 1130 27600 0 2 0 0 1
    ∷ []
