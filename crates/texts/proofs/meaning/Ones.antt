-- One text each: texts with the same kept lines say the same, and texts that say the same have the same kept lines, titles aside.
use Rattle.std.specs.Prelude.{Ok}
use mathlib.Core.Path.{◌≡◌, refl, ap, sym, ◌∙◌}
use mathlib.Core.List.{List, [], ◌∷◌, ◌++◌, map, flatten}
use Prim.Native.Nat.{ℕ}
use native.Mathlib.Omega.{arith}
use lib.ListN.{length, take, drop, length-append}
use lib.Seq.{take_at, drop_at}
use Rattle.laws.proofs.Never.{never}
use Rattle.laws.specs.Each.{Each}
use Rattle.sheet.specs.Packing.{size}
use Rattle.sheet.specs.Sheets.{sheet_of, figures_of, read_of}
use Rattle.typed.specs.Rows.{bytes_of}
use Rattle.typed.specs.Reading.{stands}
use Rattle.texts.specs.Cutting.{begins_sheet}
use Rattle.texts.specs.Shown.{sheet_text}
use Rattle.texts.specs.Texts.{beginning, all_of}
use Rattle.texts.specs.Typed.{kept, faults_of, sheets_of, Faultless, bytes_by, typed_bytes, sheet_lines, Titled, lines_of_all, SheetFigures}
use Rattle.texts.specs.declared.Found.{Found}
use Rattle.texts.specs.declared.Stage.TheVariants.{Between}
use Rattle.texts.proofs.meaning.Complete.{complete}
use Rattle.texts.proofs.meaning.Keeping.{sheets_from, sheets_of_text, faultless_clear}
use Rattle.texts.proofs.meaning.Places.{its_figures, its_length, read_again, bytes_of_text}
use Rattle.texts.proofs.meaning.Wholes.{each_fine}

-- texts with the same kept lines
module _ (text other : List ℕ) (same : kept text ≡ kept other) where
  pub same_sheets : sheets_of (all_of text) ≡ sheets_of (all_of other)
  same_sheets = sheets_of_text text ∙ ap (sheets_from Between beginning.figures) same ∙ sym (sheets_of_text other)

  pub same_faultless : Faultless text → Faultless other
  same_faultless none = (faultless_clear other).1 (rw same at ((faultless_clear text).0 none))

module _ (text other : List ℕ) (same : kept text ≡ kept other) where
  pub same_bytes : typed_bytes text ≡ typed_bytes other
  unfolding typed_bytes Faultless
  same_bytes =
      rw (same_sheets text other same)
      (go (faults_of (all_of text)) (faults_of (all_of other)) (same_faultless text other same) (same_faultless other text (sym same)))
    where
      go : (f g : List Found) → (f ≡ [] → g ≡ []) → (g ≡ [] → f ≡ []) → bytes_by f (sheets_of (all_of other)) ≡ bytes_by g (sheets_of (all_of other))
      go [] [] p q = refl
      go [] (b ∷ g) p q = let e : b ∷ g ≡ [] = p refl in never cc
      go (a ∷ f) [] p q = let e : a ∷ f ≡ [] = q refl in never cc
      go (a ∷ f) (b ∷ g) p q = refl

-- figures with the same lines
alone : List ℕ → Titled
alone figures = record { title = bytes_of "sheet"; figures = figures }

alone_lines : (figures : List ℕ) → lines_of_all (alone figures ∷ []) ≡ bytes_of "sheet" ∷ (sheet_lines figures ++ [])
unfolding lines_of_all alone
alone_lines figures = refl

alone_sheets : (figures : List ℕ) → SheetFigures figures → sheets_from Between beginning.figures (lines_of_all (alone figures ∷ [])) ≡ figures ∷ []
unfolding alone begins_sheet stands
alone_sheets figures fine = (complete (alone figures ∷ []) (record { begins = refl; figures_fine = fine }, tt) beginning.figures refl).1

pub figures_of_lines : (figures others : List ℕ) → SheetFigures figures → SheetFigures others → sheet_lines figures ≡ sheet_lines others → figures ≡ others
figures_of_lines figures others f g e =
    let lines : lines_of_all (alone figures ∷ []) ≡ lines_of_all (alone others ∷ []) = alone_lines figures ∙ rw e refl ∙ sym (alone_lines others) in
    let both : figures ∷ [] ≡ others ∷ [] = sym (alone_sheets figures f) ∙ ap (sheets_from Between beginning.figures) lines ∙ alone_sheets others g in
    cc

-- figures with the same bytes
pub figures_of_bytes : (figures others : List ℕ) → SheetFigures figures → SheetFigures others → sheet_text figures ≡ sheet_text others → figures ≡ others
figures_of_bytes figures others f g e =
    let good : Ok (sheet_of figures) ≡ Ok (sheet_of others) = sym (read_again figures f) ∙ ap read_of e ∙ read_again others g in
    let sheets : sheet_of figures ≡ sheet_of others = cc in
    sym (its_figures figures f) ∙ ap figures_of sheets ∙ its_figures others g

all_of_bytes : (sheets others : List (List ℕ)) → Each SheetFigures sheets → Each SheetFigures others
    → flatten (map sheet_text sheets) ≡ flatten (map sheet_text others) → sheets ≡ others
unfolding flatten
all_of_bytes [] [] p q e = refl
all_of_bytes [] (b ∷ others) p q e =
    absurd (omega (arith, ap length e, length-append (sheet_text b) (flatten (map sheet_text others)), its_length b q.0))
all_of_bytes (a ∷ sheets) [] p q e =
    absurd (omega (arith, ap length e, length-append (sheet_text a) (flatten (map sheet_text sheets)), its_length a p.0))
all_of_bytes (a ∷ sheets) (b ∷ others) p q e =
    let first : sheet_text a ≡ sheet_text b =
    sym (take_at (sheet_text a) (flatten (map sheet_text sheets)) size (its_length a p.0))
    ∙ ap (take size) e
    ∙ take_at (sheet_text b) (flatten (map sheet_text others)) size (its_length b q.0) in
    let rest : flatten (map sheet_text sheets) ≡ flatten (map sheet_text others) =
    sym (drop_at (sheet_text a) (flatten (map sheet_text sheets)) size (its_length a p.0))
    ∙ ap (drop size) e
    ∙ drop_at (sheet_text b) (flatten (map sheet_text others)) size (its_length b q.0) in
    rw (figures_of_bytes a b p.0 q.0 first, all_of_bytes sheets others p.1 q.1 rest)

-- so two texts without a fault that have the same bytes have the same sheets
pub sheets_of_bytes : (text other : List ℕ) → Faultless text → Faultless other → typed_bytes text ≡ typed_bytes other
    → sheets_of (all_of text) ≡ sheets_of (all_of other)
sheets_of_bytes text other p q e =
    all_of_bytes (sheets_of (all_of text)) (sheets_of (all_of other)) (each_fine text p) (each_fine other q)
    (sym (bytes_of_text text p) ∙ e ∙ bytes_of_text other q)
