-- By how much a greater draft, a greater wave allowance and a second lane deepen the cut: each is an instance of the one comparison of two cuts.
use Rattle.std.specs.Prelude.{Result, Ok, Err}
use mathlib.Core.Path.{◌≡◌, refl, ap, ◌∙◌}
use mathlib.Core.Bool.{true}
use mathlib.Core.List.{List}
use mathlib.Core.Logic.{inl, inr}
use Prim.Native.Nat.{ℕ, ◌+◌, ◌≤◌}
use native.Mathlib.Omega.{arith}
use lib.Dec.{leb→le}
use Rattle.laws.specs.Each.{Each, ◌&◌}
use Rattle.sheet.specs.Packing.{Bytes}
use Rattle.sheet.specs.Sheets.{sheet_of}
use Rattle.lanes.specs.Lanes.{lanes_of}
use Rattle.lanes.specs.declared.Lanes.TheVariants.{Two}
use Rattle.lanes.proofs.Promises.{two_named}
use Rattle.depth.specs.Squat.{squat_reading}
use Rattle.depth.proofs.Promises.{two_lanes_read_most}
use Rattle.design.specs.Design.{lanes_for, design_of}
use Rattle.design.specs.Refusals.{sheet_in, level_in}
use Rattle.design.specs.Answers.{FiguresAre}
use Rattle.design.specs.Harder.{cut, figure_in, Raised, BySpeed, NoEasier, no_less, refused, cured}
use Rattle.design.specs.Growth.{Deeper, increase, CentimetreForCentimetre, loads, NamesTwo}
use Rattle.design.specs.declared.Figures.{Figures}
use Rattle.design.proofs.rows.Exactly.{Ended, design_ended}
use Rattle.design.proofs.harder.Compared.{weighs, hardens, compared}
use Rattle.design.proofs.harder.Rows.{cut_grows}
use Rattle.design.proofs.harder.Never.{deepens_where}
use Rattle.design.specs.declared.Reason.{Reason}

-- what two answers say of each other, where both are answered and the cuts are known to be that far apart
both_answered : (easy hard table : List ℕ) (cm : ℕ)
    → ((f g : Figures) → FiguresAre (sheet_in easy) (level_in (sheet_in easy) table) f → FiguresAre (sheet_in hard) (level_in (sheet_in hard) table) g → f.cut.0 + cm ≤ g.cut.0)
    → (a b : Result Figures Reason) → Ended easy table a → Ended hard table b → Deeper cm a b
both_answered easy hard table cm grows (Ok f) (Ok g) (inl t) (inl u) = grows f g t.1 u.1
both_answered easy hard table cm grows (Ok f) (Ok g) (inr t) u = absurd t.1
both_answered easy hard table cm grows (Ok f) (Ok g) (inl t) (inr u) = absurd u.1
both_answered easy hard table cm grows (Ok f) (Err r) t u = tt
both_answered easy hard table cm grows (Err r) (Ok g) t u = tt
both_answered easy hard table cm grows (Err r) (Err r') t u = tt

-- draft and wave allowance: each is a summand of the need, and neither is of the lane rule
module _ (k : ℕ) (is : weighs k ≡ true) (too : hardens k ≡ true)
    (summand : (easy hard : List ℕ) → figure_in easy 2 ≤ figure_in hard 2 → figure_in easy 8 ≤ figure_in hard 8
    → figure_in easy 2 + figure_in easy 8 + increase k easy hard ≤ figure_in hard 2 + figure_in hard 8) where
  lanes_same : (easy hard : List ℕ) → Raised k easy hard → lanes_for (sheet_in easy) ≡ lanes_for (sheet_in hard)
  unfolding sheet_of
  lanes_same easy hard h =
      let c = compared weighs k easy hard is h in
      let named = c.same 11 refl in
      let channel = c.same 12 refl in
      let ships = c.same 13 refl in
      let speed = c.same 5 refl in
      cc

  deepens : CentimetreForCentimetre k
  unfolding sheet_of
  deepens easy hard table small small' h =
      let c = compared hardens k easy hard too h in
      let reading = ap squat_reading (lanes_same easy hard h) in
      both_answered easy hard table (increase k easy hard)
      (cut_grows easy hard table h.easy_read (omega arith) c (increase k easy hard) (summand easy hard (c.rises 2 refl) (c.rises 8 refl)))
      (design_of easy table) (design_of hard table) (design_ended easy table small) (design_ended hard table small')

pub each_centimetre : Each CentimetreForCentimetre loads
each_centimetre = deepens 2 refl refl (λ easy hard draft wave. omega arith) & deepens 8 refl refl (λ easy hard draft wave. omega arith) & tt

-- what is no easier is no shallower
no_shallower : (a b : Result Figures Reason) → NoEasier BySpeed cut a b → Deeper 0 a b
no_shallower (Ok f) (Ok g) (no_less no-less-cut) = let at_most = leb→le f.cut.0 g.cut.0 no-less-cut.le in omega arith
no_shallower (Ok f) (Err r) refused = tt
no_shallower (Err r) (Ok g) (cured left) = tt
no_shallower (Err r) (Err r') refused = tt

-- two lanes that are named read the greatest squat
module _ (fewer two table : List ℕ) (small : Bytes fewer) (small' : Bytes two) (h : NamesTwo fewer two) where
  comes_to_two : lanes_for (sheet_in two) ≡ Two
  unfolding sheet_of
  comes_to_two =
      ap (λ (named : ℕ). lanes_of named (sheet_in two).channel (sheet_in two).ships (sheet_in two).speed) h.named ∙ two_named _ _ _

  reads_no_less : squat_reading (lanes_for (sheet_in fewer)) ≤ squat_reading (lanes_for (sheet_in two))
  reads_no_less = rw comes_to_two (two_lanes_read_most (lanes_for (sheet_in fewer)))

  pub two_never_easier : NoEasier BySpeed cut (design_of fewer table) (design_of two table)
  two_never_easier = deepens_where 11 refl fewer two table small small' h.raised reads_no_less (λ longer. absurd (omega arith))

  pub two_never_shallower : Deeper 0 (design_of fewer table) (design_of two table)
  two_never_shallower = no_shallower (design_of fewer table) (design_of two table) two_never_easier
