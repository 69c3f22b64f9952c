-- By how much the cut grows in each pair: the sheets are read from their bytes, and their designs are starred cases.
use Rattle.std.specs.Prelude.{Ok}
use mathlib.Core.Path.{◌≡◌, refl, sym, ap, ◌∙◌}
use mathlib.Core.List.{List}
use Prim.Native.Nat.{ℕ, suc, ◌+◌}
use native.Mathlib.Omega.{arith}
use lib.Dec.{T, ltb→lt}
use lib.IntN.{ℤ}
use Rattle.laws.specs.Choice.{◌<ᵇ◌}
use Rattle.laws.specs.Each.{Each, ◌&◌}
use Rattle.laws.specs.Every.{every}
use Rattle.laws.specs.First.{first_from}
use Rattle.sheet.specs.Bits.{starts, joined, cut}
use Rattle.sheet.specs.Fields.{count, fields, field_at, width, least, greatest, pair_bad, bad_at, first_bad}
use Rattle.sheet.specs.Packing.{listed, number_of, groups_of, bytes_of}
use Rattle.sheet.specs.Sheets.{level_source_of, sheet_of, sheet_from, bed_figure, figures_of, read_groups, read_of}
use Rattle.design.specs.Design.{design_of}
use Rattle.design.specs.Growth.{Growth, draft_as_much, draft_more, allowance_as_much, allowance_more, lanes_as_much, lanes_more, growths, Grown}
use Rattle.design.specs.Harder.{figure_in, Raised}
use Rattle.design.specs.Numbers.{numbers_of}
use Rattle.design.specs.Refusals.{sheet_in}
use Rattle.design.specs.Starred.{writing, starred_numbers}
use Rattle.design.proofs.harder.Pairs.{agrees, else_equal, number_in, numbers_at, code_is, cut_is}
use Rattle.design.proofs.Starred.{starred}

abbrev before : Growth → List ℕ
before pair = writing pair.easy

abbrev after : Growth → List ℕ
after pair = writing pair.hard

record Pair (pair : Growth) : Type 0 where
  raised : Raised pair.field (before pair) (after pair)
  figure_grown : figure_in (before pair) pair.field + pair.figure ≡ figure_in (after pair) pair.field

apart : (pair : Growth) → read_of (before pair) ≡ Ok (sheet_in (before pair)) → read_of (after pair) ≡ Ok (sheet_in (after pair))
    → T (figure_in (before pair) pair.field <ᵇ figure_in (after pair) pair.field)
    → T (every (suc count) (agrees pair.field (before pair) (after pair)))
    → figure_in (before pair) pair.field + pair.figure ≡ figure_in (after pair) pair.field → Pair pair
apart pair read read' greater agree grown =
    record {
      raised = record {
        easy_read = read;
        hard_read = read';
        greater = ltb→lt (figure_in (before pair) pair.field) (figure_in (after pair) pair.field) greater;
        else_equal = else_equal pair.field (before pair) (after pair) agree;
      };
      figure_grown = grown;
    }

pairs : Each Pair growths
unfolding starts joined cut first_from fields field_at width least greatest pair_bad bad_at first_bad listed number_of groups_of bytes_of level_source_of sheet_of sheet_from bed_figure figures_of read_groups read_of
pairs =
    apart draft_as_much refl refl tt tt refl & apart draft_more refl refl tt tt refl
    & apart allowance_as_much refl refl tt tt refl & apart allowance_more refl refl tt tt refl
    & apart lanes_as_much refl refl tt tt refl & apart lanes_more refl refl tt tt refl & tt

-- the numbers of its two designs, over any table
module _ (pair : Growth) (is : Pair pair) (easy hard : List ℤ) (easy-numbers : (table : List ℕ) → numbers_of (design_of (before pair) table) ≡ easy)
    (hard-numbers : (table : List ℕ) → numbers_of (design_of (after pair) table) ≡ hard) where
  grown : number_in 0 easy ≡ 0 → number_in 0 hard ≡ 0 → number_in 5 easy + pair.cut ≡ number_in 5 hard → Grown pair
  grown answered answered' cut_grown =
      record {
        raised = is.raised;
        figure_grown = is.figure_grown;
        answered = λ table.
            (sym (code_is _) ∙ ap (number_in 0) (easy-numbers table) ∙ answered, sym (code_is _) ∙ ap (number_in 0) (hard-numbers table) ∙ answered');
        cut_grown = λ table.
            let easy-cut = sym (cut_is (design_of (before pair) table)) ∙ ap (number_in 5) (easy-numbers table) in
            let hard-cut = sym (cut_is (design_of (after pair) table)) ∙ ap (number_in 5) (hard-numbers table) in
            omega arith;
      }

pub each_grown : Each Grown growths
each_grown =
    grown draft_as_much pairs.0 (numbers_at 24 starred_numbers) (numbers_at 0 starred_numbers) (λ table. ap (numbers_at 24) (starred table)) (λ table. ap (numbers_at 0) (starred table)) refl refl refl
    & grown draft_more pairs.1.0 (numbers_at 0 starred_numbers) (numbers_at 25 starred_numbers) (λ table. ap (numbers_at 0) (starred table)) (λ table. ap (numbers_at 25) (starred table)) refl refl refl
    & grown allowance_as_much pairs.1.1.0 (numbers_at 0 starred_numbers) (numbers_at 26 starred_numbers) (λ table. ap (numbers_at 0) (starred table)) (λ table. ap (numbers_at 26) (starred table)) refl refl refl
    & grown allowance_more pairs.1.1.1.0 (numbers_at 4 starred_numbers) (numbers_at 27 starred_numbers) (λ table. ap (numbers_at 4) (starred table)) (λ table. ap (numbers_at 27) (starred table)) refl refl refl
    & grown lanes_as_much pairs.1.1.1.1.0 (numbers_at 28 starred_numbers) (numbers_at 29 starred_numbers) (λ table. ap (numbers_at 28) (starred table)) (λ table. ap (numbers_at 29) (starred table)) refl refl refl
    & grown lanes_more pairs.1.1.1.1.1.0 (numbers_at 0 starred_numbers) (numbers_at 1 starred_numbers) (λ table. ap (numbers_at 0) (starred table)) (λ table. ap (numbers_at 1) (starred table)) refl refl refl
    & tt
