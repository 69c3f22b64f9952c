-- A greater figure never makes a design easier: of the fields that deepen it never lessens the cut, of those that widen never the width. Only a
-- longer ship can pass 18 where the other does not, so of the shorter it is asked to pass.
use mathlib.Core.Path.{◌≡◌, refl, ap}
use mathlib.Core.Bool.{Bool, true, false}
use mathlib.Core.List.{List}
use mathlib.Core.Logic.{◌≢◌}
use Prim.Native.Nat.{ℕ, ◌≤◌}
use native.Mathlib.Omega.{arith}
use borrow.Author.Tests.{eqb-true, eqb-false}
use Rattle.laws.specs.Choice.{◌=ᵇ◌}
use Rattle.laws.specs.Each.{Each, ◌&◌}
use Rattle.laws.proofs.Each.{each_implied}
use Rattle.sheet.specs.Packing.{Bytes}
use Rattle.sheet.specs.Sheets.{sheet_of}
use Rattle.depth.specs.Squat.{squat_reading}
use Rattle.design.specs.Design.{lanes_for, design_of}
use Rattle.design.specs.Refusals.{sheet_in}
use Rattle.design.specs.Harder.{cut, width, hardenings, Hardening, Raised, Harder, BySpeed, NoEasier, Passes, BothPass, EasierPasses, AnyTwo, NeverEasier, ◌never_lessens◌}
use Rattle.design.proofs.rows.Exactly.{design_ended, design_exactly}
use Rattle.design.proofs.harder.Compared.{widens, hardens, compared}
use Rattle.design.proofs.harder.Rows.{level_in_same, no_easier, cut_rises}
use Rattle.design.proofs.harder.Widths.{width_rises}

-- where the length is the greater figure, the shorter ship passes 18
abbrev pub ShorterPasses : ℕ → List ℕ → List ℕ → Type 0
ShorterPasses k easy hard = k ≡ 3 → Passes easy

passes_too : (k : ℕ) → hardens k ≡ true → (easy hard : List ℕ) → Raised k easy hard → ShorterPasses k easy hard → Passes hard → Passes easy
unfolding sheet_of
passes_too k is easy hard h shorter passes = go (k =ᵇ 3) refl
  where
    go : (b : Bool) → (k =ᵇ 3) ≡ b → Passes easy
    go true longer = shorter (eqb-true k 3 longer)
    go false other =
        let length = h.else_equal 3 (omega arith) (omega arith) (λ three. eqb-false k 3 other (omega arith)) in
        let beam = (compared hardens k easy hard is h).rises 4 refl in
        λ under. passes (omega arith)

-- where the harder sheet reads no less of the squat table, as in the same lanes
pub deepens_where : (k : ℕ) → hardens k ≡ true → (easy hard table : List ℕ) → Bytes easy → Bytes hard → Raised k easy hard
    → squat_reading (lanes_for (sheet_in easy)) ≤ squat_reading (lanes_for (sheet_in hard)) → ShorterPasses k easy hard
    → NoEasier BySpeed cut (design_of easy table) (design_of hard table)
deepens_where k is easy hard table small small' h reading shorter =
    let c = compared hardens k easy hard is h in
    no_easier easy hard table h.easy_read reading c small (passes_too k is easy hard h shorter) cut
    (cut_rises easy hard table h.easy_read reading c)
    (design_of easy table) (design_of hard table) (design_exactly easy table small) (design_ended easy table small) (design_ended hard table small')

same_reading : {k : ℕ} {easy hard : List ℕ} → Harder k easy hard → squat_reading (lanes_for (sheet_in easy)) ≤ squat_reading (lanes_for (sheet_in hard))
same_reading h = let same = ap squat_reading h.same_lanes in omega arith

deepens : (k : ℕ) → hardens k ≡ true → NeverEasier (ShorterPasses k) (k never_lessens cut)
deepens k is easy hard table small small' h = deepens_where k is easy hard table small small' h.raised (same_reading h)

broadens : (k : ℕ) → widens k ≡ true → hardens k ≡ true → NeverEasier (ShorterPasses k) (k never_lessens width)
broadens k is too easy hard table small small' h shorter =
    let c = compared hardens k easy hard too h.raised in
    no_easier easy hard table h.raised.easy_read (same_reading h) c small (passes_too k too easy hard h.raised shorter) width
    (λ f g there are are'. width_rises easy hard table h.same_lanes (compared widens k easy hard is h.raised)
    (level_in_same easy hard table h.raised.easy_read (same_reading h) c) f g are are' there)
    (design_of easy table) (design_of hard table) (design_exactly easy table small) (design_ended easy table small) (design_ended hard table small')

abbrev Shown : Hardening → Type 0
Shown h = NeverEasier (ShorterPasses h.field) h

shown : Each Shown hardenings
shown =
    deepens 2 refl & deepens 3 refl & deepens 5 refl & deepens 8 refl & deepens 9 refl & deepens 7 refl
    & broadens 4 refl refl & broadens 16 refl refl & broadens 17 refl refl & broadens 18 refl refl & broadens 19 refl refl & tt

-- the sentences that it gives, each of other pairs
pub of_two_that_pass : Each (NeverEasier BothPass) hardenings
of_two_that_pass =
    each_implied Shown (NeverEasier BothPass) (λ h is easy hard table small small' harder both. is easy hard table small small' harder (λ longer. both.0))
    hardenings shown

pub easier_passes : Each (NeverEasier EasierPasses) hardenings
easier_passes =
    each_implied Shown (NeverEasier EasierPasses) (λ h is easy hard table small small' harder passes. is easy hard table small small' harder (λ longer. passes))
    hardenings shown

abbrev Unlonger : Hardening → Type 0
Unlonger h = h.field ≢ 3 → NeverEasier AnyTwo h

pub any_but_longer : Each Unlonger hardenings
any_but_longer =
    each_implied Shown Unlonger
    (λ h is other easy hard table small small' harder any. is easy hard table small small' harder (λ longer. absurd (other longer)))
    hardenings shown
