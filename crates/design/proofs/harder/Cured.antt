-- What a greater figure can cure, by pairs that are computed: a longer ship 18, so demand 3 asks of the shorter that it passes it; a wider one 16 and
-- 17, so demand 3 leaves both out.
use Rattle.std.specs.Prelude.{Result, Ok, Err}
use mathlib.Core.Path.{◌≡◌, refl, sym, ap, ◌∙◌}
use mathlib.Core.List.{List, []}
use mathlib.Core.Logic.{inl, inr}
use Prim.Native.Nat.{ℕ, ◌*◌, ◌≤◌}
use native.Mathlib.Omega.{arith}
use lib.Dec.{T, lit<, ltb→lt, leb→le}
use lib.IntN.{ℤ}
use Rattle.laws.specs.Choice.{◌<ᵇ◌, ◌≤ᵇ◌}
use Rattle.laws.specs.Every.{every}
use Rattle.laws.specs.First.{first_from}
use Rattle.laws.proofs.Every.{every_at}
use Rattle.sheet.specs.Bits.{starts, joined, cut as group}
use Rattle.sheet.specs.CaseS.{altered_s}
use Rattle.sheet.specs.Fields.{fields, nth, field_at, width as field_width, least, greatest, pair_bad, bad_at, first_bad}
use Rattle.sheet.specs.Packing.{size, Bytes, listed, number_of, groups_of, bytes_of}
use Rattle.sheet.specs.Sheets.{level_source_of, sheet_of, sheet_from, bed_figure, figures_of, read_groups, read_of}
use Rattle.design.specs.Design.{design_of}
use Rattle.design.specs.Harder.{cut, width, Harder, Sixteen, Seventeen, BySpeed, NoEasier, no_less, refused, cured, Passes, BothPass, AnyTwo, NeverEasier, NeverEasierBut, ◌never_lessens◌}
use Rattle.design.specs.Numbers.{code_of}
use Rattle.design.specs.Refusals.{reason_number, sheet_in}
use Rattle.design.specs.Starred.{writing}
use Rattle.design.specs.declared.Figures.{Figures}
use Rattle.design.specs.declared.Reason.{Reason}
use Rattle.design.proofs.answers.Numbers.{refused_some}
use Rattle.design.proofs.harder.Pairs.{else_equal, number_at, code_is}
use Rattle.design.proofs.Starred.{starred}

bytes : (sheet : List ℕ) → T (every size (λ (k : ℕ). nth sheet k <ᵇ 256)) → Bytes sheet
bytes sheet t k h = ltb→lt (nth sheet k) 256 (every_at size (λ (j : ℕ). nth sheet j <ᵇ 256) t k h)

passes : (sheet : List ℕ) → T (3 * (sheet_in sheet).beam ≤ᵇ (sheet_in sheet).length) → Passes sheet
passes sheet t under = omega (arith, leb→le (3 * (sheet_in sheet).beam) (sheet_in sheet).length t)

-- a refusal that is not left out, and then an answer, is easier
module _ (LeftOut : Reason → Type 0) (figure : Figures → ℤ) (number : ℕ) (some : 1 ≤ number) (kept : (r : Reason) → reason_number r ≡ number → ¬ LeftOut r) where
  easier : (a b : Result Figures Reason) → code_of a ≡ number → code_of b ≡ 0 → ¬ NoEasier LeftOut figure a b
  easier (Ok f) (Ok g) refusal answer (no_less le) = omega arith
  easier a (Err r) refusal answer refused = refused_some r answer
  easier (Err r) (Ok g) refusal answer (cured left) = kept r refusal left

-- S with a beam of 40 m: refused by 18 at a length of 119.99 m, answered at 120 m
abbrev shorter : List ℕ
shorter = writing (altered_s 1000 11999 4000 8 500 30 0 1 0 0 0)

abbrev longer : List ℕ
longer = writing (altered_s 1000 12000 4000 8 500 30 0 1 0 0 0)

-- S with a slope of 4 and a bed of 1 m: too fast at a beam of 12 m, answered at 14 m
abbrev narrow : List ℕ
narrow = writing (altered_s 1000 20000 1200 8 100 30 0 1 0 0 4)

abbrev wide : List ℕ
wide = writing (altered_s 1000 20000 1400 8 100 30 0 1 0 0 4)

-- with a bed of 2 m: narrower than the table at a beam of 10 m, answered at 12 m
abbrev outside : List ℕ
outside = writing (altered_s 1000 20000 1000 8 200 30 0 1 0 0 4)

abbrev inside : List ℕ
inside = writing (altered_s 1000 20000 1200 8 200 30 0 1 0 0 4)

record Pair (k : ℕ) (easy hard : List ℕ) : Type 0 where
  easy_bytes : Bytes easy
  hard_bytes : Bytes hard
  harder : Harder k easy hard

longer_pair : Pair 3 shorter longer
unfolding starts joined group first_from fields field_at field_width least greatest pair_bad bad_at first_bad listed number_of groups_of bytes_of level_source_of sheet_of sheet_from bed_figure figures_of read_groups read_of
longer_pair = record {
  easy_bytes = bytes shorter tt;
  hard_bytes = bytes longer tt;
  harder = record { raised = record { easy_read = refl; hard_read = refl; greater = lit< tt; else_equal = else_equal 3 shorter longer tt }; same_lanes = refl };
}

wide_pair : Pair 4 narrow wide
unfolding starts joined group first_from fields field_at field_width least greatest pair_bad bad_at first_bad listed number_of groups_of bytes_of level_source_of sheet_of sheet_from bed_figure figures_of read_groups read_of
wide_pair = record {
  easy_bytes = bytes narrow tt;
  hard_bytes = bytes wide tt;
  harder = record { raised = record { easy_read = refl; hard_read = refl; greater = lit< tt; else_equal = else_equal 4 narrow wide tt }; same_lanes = refl };
}

inside_pair : Pair 4 outside inside
unfolding starts joined group first_from fields field_at field_width least greatest pair_bad bad_at first_bad listed number_of groups_of bytes_of level_source_of sheet_of sheet_from bed_figure figures_of read_groups read_of
inside_pair = record {
  easy_bytes = bytes outside tt;
  hard_bytes = bytes inside tt;
  harder = record { raised = record { easy_read = refl; hard_read = refl; greater = lit< tt; else_equal = else_equal 4 outside inside tt }; same_lanes = refl };
}

both_pass : BothPass narrow wide × BothPass outside inside
unfolding starts joined group fields field_at field_width listed number_of groups_of bytes_of sheet_of bed_figure figures_of
both_pass = ((passes narrow tt, passes wide tt), (passes outside tt, passes inside tt))

pub longer_cures_18 : ¬ NeverEasier AnyTwo (3 never_lessens cut)
longer_cures_18 never_easier =
    easier BySpeed cut 18 (omega arith) (λ r e left. go r e left) (design_of shorter []) (design_of longer [])
    (sym (code_is _) ∙ ap (number_at 12 0) (starred [])) (sym (code_is _) ∙ ap (number_at 13 0) (starred []))
    (never_easier shorter longer [] longer_pair.easy_bytes longer_pair.hard_bytes longer_pair.harder tt)
  where
    go : (r : Reason) → reason_number r ≡ 18 → ¬ BySpeed r
    go r e (inl sixteen) = omega arith
    go r e (inr seventeen) = omega arith

pub wider_cures_17 : ¬ NeverEasierBut Sixteen BothPass (4 never_lessens width)
wider_cures_17 never_easier =
    easier Sixteen width 17 (omega arith) (λ r e sixteen. omega arith) (design_of narrow []) (design_of wide [])
    (sym (code_is _) ∙ ap (number_at 18 0) (starred [])) (sym (code_is _) ∙ ap (number_at 19 0) (starred []))
    (never_easier narrow wide [] wide_pair.easy_bytes wide_pair.hard_bytes wide_pair.harder both_pass.0)

pub wider_cures_16 : ¬ NeverEasierBut Seventeen BothPass (4 never_lessens width)
wider_cures_16 never_easier =
    easier Seventeen width 16 (omega arith) (λ r e seventeen. omega arith) (design_of outside []) (design_of inside [])
    (sym (code_is _) ∙ ap (number_at 21 0) (starred [])) (sym (code_is _) ∙ ap (number_at 20 0) (starred []))
    (never_easier outside inside [] inside_pair.easy_bytes inside_pair.hard_bytes inside_pair.harder both_pass.1)
