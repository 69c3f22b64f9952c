-- Case S of the definition's figures (section 11): its sheet and its bytes.
use Rattle.std.specs.Prelude.{List, [], ◌∷◌, ℕ, pos}
use Rattle.datum.specs.Datum.{below_chart}
use Rattle.sheet.specs.declared.Sheet.{Sheet}
use Rattle.sheet.specs.declared.LevelSource.TheVariants.{Given}

-- S with its draft, length, beam, speed, bed, wave allowance z2, silting P, lanes, turn, radius and side slope as the case has them
abbrev pub altered_s : ℕ → ℕ → ℕ → ℕ → ℕ → ℕ → ℕ → ℕ → ℕ → ℕ → ℕ → Sheet
altered_s draft length beam speed bed allowance silting lanes turn radius slope =
    record {
      deadweight = 40000;
      draft = draft;
      length = length;
      beam = beam;
      speed = speed;
      bed = below_chart (pos bed);
      soil = 0;
      allowance = allowance;
      silting = silting;
      interval = 3;
      lanes = lanes;
      channel = 20000;
      ships = 2400;
      water = 0;
      handling = 0;
      wind = 20;
      cross = record { 0 = 10 };
      along = record { 0 = 10 };
      wave = 150;
      aids = 1;
      bottom = 0;
      cargo = 0;
      left = 0;
      right = 0;
      turn = turn;
      radius = radius;
      level = Given (record { 0 = 500 });
      slope = slope;
    }

abbrev pub sheet_s : Sheet
sheet_s = altered_s 1000 20000 3000 8 500 30 0 1 0 0 0

abbrev pub bytes_s : List ℕ
bytes_s =
    9 ∷ 196 ∷ 3 ∷ 232 ∷ 78 ∷ 32 ∷ 93 ∷ 196 ∷ 15 ∷ 160 ∷ 30 ∷ 0 ∷ 26 ∷ 39 ∷ 16 ∷ 9 ∷ 96 ∷ 5 ∷ 10 ∷ 40 ∷ 75 ∷ 32 ∷ 0 ∷ 0 ∷ 0 ∷ 159
    ∷ 64 ∷ 0 ∷ []
