-- Case S as it is typed, what is expected in each row, and the rows of the empty form (sections 14.2, 14.4 and 14.6).
use Prim.Native.Nat.{ℕ, zero, suc}
use Prim.Native.String.{String}
use mathlib.Core.List.{List, [], ◌∷◌, ◌++◌}
use lib.ListN.{take, drop}
use Rattle.sheet.specs.CaseS.{sheet_s}
use Rattle.sheet.specs.Sheets.{figures_of}
use Rattle.typed.specs.Rows.{count, level_row}
use Rattle.typed.specs.Lines.{level_zero}

-- the figures of S's rows: those of its fields, and its level 0, given, in the place of fields 27 and 28
abbrev pub figures_of_s : List ℕ
figures_of_s = take level_row (figures_of sheet_s) ++ level_zero ∷ drop 28 (figures_of sheet_s)

-- a text in each row from one on
abbrev pub texts_from : (ℕ → List ℕ) → ℕ → ℕ → List (List ℕ)
texts_from text i zero = []
texts_from text i (suc n) = text i ∷ texts_from text (suc i) n

abbrev pub in_each_row : (ℕ → List ℕ) → List (List ℕ)
in_each_row text = texts_from text 0 count

-- its lines, row by row
abbrev pub lines_of_s : List String
lines_of_s =
    "deadweight 40000 t"
    ∷ "draft 1000 cm"
    ∷ "length 20000 cm"
    ∷ "beam 3000 cm"
    ∷ "speed 8 kn"
    ∷ "natural-bed 500 cm"
    ∷ "soil mud"
    ∷ "wave-allowance 30 cm"
    ∷ "silting 0 per-mille/yr"
    ∷ "interval 1.00 yr"
    ∷ "lanes one"
    ∷ "channel-length 20000 m"
    ∷ "ships 24.00 /day"
    ∷ "water open"
    ∷ "handling good"
    ∷ "cross-wind 20 kn"
    ∷ "cross-current 1.0 kn"
    ∷ "along-current 1.0 kn"
    ∷ "wave-height 150 cm"
    ∷ "aids good"
    ∷ "bottom soft"
    ∷ "cargo low-danger"
    ∷ "left-bank sloping"
    ∷ "right-bank sloping"
    ∷ "turn 0 deg"
    ∷ "radius 0 m"
    ∷ "level given 0 cm"
    ∷ "side-slope 0 m/m"
    ∷ []

-- what is expected in each row
abbrev pub expected_texts : List String
expected_texts =
    "deadweight 1 t .. deadweight 600000 t"
    ∷ "draft 700 cm .. draft 2500 cm"
    ∷ "length 2000 cm .. length 40000 cm"
    ∷ "beam 500 cm .. beam 7000 cm"
    ∷ "speed 2 kn .. speed 12 kn"
    ∷ "natural-bed 0 cm .. natural-bed 3000 cm"
    ∷ "soil mud | soil deposited | soil dense | soil grade-3"
    ∷ "wave-allowance 0 cm .. wave-allowance 300 cm"
    ∷ "silting 0 per-mille/yr .. silting 900 per-mille/yr"
    ∷ "interval 0.25 yr | interval 0.33 yr | interval 0.50 yr | interval 1.00 yr | interval 2.00 yr | interval 3.00 yr"
    ∷ "lanes by-traffic | lanes one | lanes two"
    ∷ "channel-length 1 m .. channel-length 200000 m"
    ∷ "ships 0.00 /day .. ships 200.00 /day"
    ∷ "water open | water sheltered"
    ∷ "handling good | handling fair | handling poor"
    ∷ "cross-wind 0 kn .. cross-wind 99 kn"
    ∷ "cross-current 0.0 kn .. cross-current 6.0 kn"
    ∷ "along-current 0.0 kn .. along-current 6.0 kn"
    ∷ "wave-height 0 cm .. wave-height 1500 cm"
    ∷ "aids complete | aids good | aids middle | aids poor"
    ∷ "bottom soft | bottom hard-smooth | bottom hard-rough"
    ∷ "cargo low-danger | cargo middle-danger | cargo high-danger"
    ∷ "left-bank sloping | left-bank steep"
    ∷ "right-bank sloping | right-bank steep"
    ∷ "turn 0 deg .. turn 180 deg"
    ∷ "radius 0 m .. radius 20000 m"
    ∷ "level record | level given -500 cm .. level given 1500 cm"
    ∷ "side-slope 0 m/m .. side-slope 30 m/m"
    ∷ []

-- the lines of the empty form
abbrev pub blank_lines : List String
blank_lines =
    "deadweight _ t"
    ∷ "draft _ cm"
    ∷ "length _ cm"
    ∷ "beam _ cm"
    ∷ "speed _ kn"
    ∷ "natural-bed _ cm"
    ∷ "soil _"
    ∷ "wave-allowance _ cm"
    ∷ "silting _ per-mille/yr"
    ∷ "interval _ yr"
    ∷ "lanes _"
    ∷ "channel-length _ m"
    ∷ "ships _ /day"
    ∷ "water _"
    ∷ "handling _"
    ∷ "cross-wind _ kn"
    ∷ "cross-current _ kn"
    ∷ "along-current _ kn"
    ∷ "wave-height _ cm"
    ∷ "aids _"
    ∷ "bottom _"
    ∷ "cargo _"
    ∷ "left-bank _"
    ∷ "right-bank _"
    ∷ "turn _ deg"
    ∷ "radius _ m"
    ∷ "level _"
    ∷ "side-slope _ m/m"
    ∷ []
