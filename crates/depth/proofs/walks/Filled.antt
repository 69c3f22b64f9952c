-- The worksheet as data: the code's one, two or three tries are the definition's, and the line that the count reaches is the last try.
use Rattle.std.specs.Prelude.{Ok}
use mathlib.Core.Path.{◌≡◌, refl, sym, ap, ap₂, ◌∙◌}
use mathlib.Core.Bool.{true, false}
use mathlib.Core.List.{List, [], ◌∷◌, ◌++◌}
use Prim.Native.Nat.{◌-◌, ◌≤◌, min}
use native.Mathlib.Omega.{arith}
use lib.ListN.{length, take, get_or}
use Rattle.depth.specs.declared.Stretch.{Stretch}
use Rattle.depth.specs.declared.Column.TheVariants.{A}
use Rattle.depth.specs.declared.Try.{Try}
use Rattle.depth.specs.declared.Worksheet.{Worksheet}
use Rattle.depth.specs.declared.DepthFigures.{DepthFigures}
use Rattle.depth.specs.Worksheet.{column_try, moves_on, tries, blank_try, worksheet_of, last_try, answer_of, work_depth, Counted}
use Rattle.depth.proofs.walks.Tries.{walk_stops, walk_goes_on, walk_last, tries_count}

-- three lines, of which the first are these tries
abbrev pub filled : List Try → Worksheet
filled l = record { tries = take 3 (l ++ (blank_try ∷ blank_try ∷ [])); count = length l }

-- the three worksheets, by their lines
module _ (q : Stretch) (first : Try) (is_first : first ≡ column_try q A) where
  tries_one : moves_on first ≡ false → tries q ≡ first ∷ []
  unfolding tries
  tries_one e = let w = walk_stops (column_try q) A 1 (rw is_first at e) in cc

  pub filled_one : moves_on first ≡ false → filled (first ∷ []) ≡ worksheet_of q
  unfolding worksheet_of
  filled_one e = sym (ap filled (tries_one e))

  module _ (more : moves_on first ≡ true) (second : Try) (is_second : second ≡ column_try q first.falls_in) where
    second_is : second ≡ column_try q (column_try q A).falls_in
    second_is = is_second ∙ ap (λ (t : Try). column_try q t.falls_in) is_first

    tries_two : moves_on second ≡ false → tries q ≡ first ∷ second ∷ []
    unfolding tries
    tries_two e =
        let w = walk_goes_on (column_try q) A 1 (rw is_first at more) in
        let x = walk_stops (column_try q) (column_try q A).falls_in 0 (rw second_is at e) in
        cc

    pub filled_two : moves_on second ≡ false → filled (first ∷ second ∷ []) ≡ worksheet_of q
    unfolding worksheet_of
    filled_two e = sym (ap filled (tries_two e))

    module _ (onward : moves_on second ≡ true) (third : Try) (is_third : third ≡ column_try q second.falls_in) where
      third_is : third ≡ column_try q (column_try q (column_try q A).falls_in).falls_in
      third_is = is_third ∙ ap (λ (t : Try). column_try q t.falls_in) second_is

      tries_three : tries q ≡ first ∷ second ∷ third ∷ []
      unfolding tries
      tries_three =
          let w = walk_goes_on (column_try q) A 1 (rw is_first at more) in
          let x = walk_goes_on (column_try q) (column_try q A).falls_in 0 (rw second_is at onward) in
          let y = walk_last (column_try q) (column_try q (column_try q A).falls_in).falls_in in
          cc

      pub filled_three : filled (first ∷ second ∷ third ∷ []) ≡ worksheet_of q
      unfolding worksheet_of
      filled_three = sym (ap filled tries_three)

-- the last line that the count reaches is the last try
pub last_line : (l : List Try) → 1 ≤ length l → length l ≤ 3 → get_or (filled l).tries (length l - 1) blank_try ≡ last_try l
last_line [] h k = absurd (omega arith)
last_line (t ∷ []) h k = refl
last_line (t ∷ (u ∷ [])) h k = refl
last_line (t ∷ (u ∷ (v ∷ []))) h k = refl
last_line (t ∷ (u ∷ (v ∷ (w ∷ l)))) h k = absurd (omega arith)

module _ (q : Stretch) where
  -- of a worksheet as it is defined: the count, and the line that it reaches
  module _ (w : Worksheet) (is : w ≡ worksheet_of q) where
    pub count_is : w.count ≡ length (tries q)
    unfolding worksheet_of
    count_is = ap (λ (v : Worksheet). v.count) is

    pub last_is : get_or w.tries (w.count - 1) blank_try ≡ last_try (tries q)
    unfolding worksheet_of
    last_is =
        ap (λ (v : Worksheet). get_or v.tries (v.count - 1) blank_try) is
        ∙ last_line (tries q) (tries_count q).0 (tries_count q).1

    -- the line that the count reaches, the third at most
    pub reached_is : get_or w.tries (min w.count 3 - 1) blank_try ≡ last_try (tries q)
    reached_is = let count : min w.count 3 ≡ w.count = omega (arith, count_is, tries_count q) in rw count last_is

  pub last_line_is : get_or (worksheet_of q).tries ((worksheet_of q).count - 1) blank_try ≡ last_try (tries q)
  last_line_is = last_is (worksheet_of q) refl

  -- the depth is the answer of the last line
  pub work_of_last : work_depth q ≡ answer_of (get_or (worksheet_of q).tries ((worksheet_of q).count - 1) blank_try) (worksheet_of q).count
  unfolding work_depth
  work_of_last = sym (ap₂ answer_of last_line_is (count_is (worksheet_of q) refl))

  -- the columns of a cut are the worksheet's count
  pub columns_are : (f : DepthFigures) → Counted q (Ok f) → f.columns ≡ (worksheet_of q).count
  columns_are f counted = counted ∙ sym (count_is (worksheet_of q) refl)
