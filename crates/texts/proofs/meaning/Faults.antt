-- Where a fault is told: its line has its number, and its bytes are that line's; no bytes of a text with a fault.
use mathlib.Core.Path.{◌≡◌, refl, ap, sym, ◌∙◌}
use mathlib.Core.Bool.{Bool, true, false}
use mathlib.Core.List.{List, [], ◌∷◌}
use Prim.Native.Nat.{ℕ, suc, ◌+◌, ◌-◌, ◌≤◌, ◌<◌}
use native.Mathlib.Numerals.{add-one}
use native.Mathlib.Omega.{arith}
use borrow.Author.Tests.{lt-ltb}
use lib.ListN.{length, get_or, drop, length-drop}
use lib.Seq.{drop-cons}
use Rattle.laws.proofs.Each.{each_append}
use Rattle.laws.specs.Choice.{ifᵇ◌then◌else◌}
use Rattle.laws.specs.Each.{Each}
use Rattle.typed.specs.Rows.{bytes_of}
use Rattle.texts.specs.Cutting.{line_of, lines_of, bare, next_number}
use Rattle.texts.specs.Messages.{quoted_text, stood_text}
use Rattle.texts.specs.Steps.{fault_number}
use Rattle.texts.specs.Texts.{beginning, happened_in, if_happened, turn_on, ended_at, all_of}
use Rattle.texts.specs.Typed.{all_from, faults_of, sheets_of, bytes_by, Faultless, typed_bytes, PlaceIn, on_line, behind_last}
use Rattle.texts.specs.declared.Cursor.{Cursor}
use Rattle.texts.specs.declared.Found.{Found}
use Rattle.texts.specs.declared.LineFault.{LineFault}
use Rattle.texts.specs.declared.LineFault.TheVariants.{NoSheet, Missing, NoName, Twice, Misplaced, NoFigure, NoUnit, OutOfRange, Disagrees}
use Rattle.texts.specs.declared.Place.{Place}
use Rattle.texts.proofs.cutting.Lines.{bare_line_front}
use Rattle.texts.proofs.meaning.Cuts.{place_behind, lines_from, lines_end}
use Rattle.texts.proofs.meaning.Stepping.{turn_at, all_line, all_end, by_lines, all_from_beginning}

-- the bytes of a text with a fault
pub no_bytes : (text : List ℕ) → (Faultless text → ⊥) → typed_bytes text ≡ []
unfolding typed_bytes Faultless
no_bytes text some = go (faults_of (all_of text)) some
  where
    go : (faults : List Found) → (faults ≡ [] → ⊥) → bytes_by faults (sheets_of (all_of text)) ≡ []
    go [] some = absurd (some refl)
    go (fault ∷ faults) some = refl

-- the numbers of the faults
pub number_within : (fault : LineFault) → (1 ≤ fault_number fault) × (fault_number fault ≤ 9)
number_within NoSheet = (omega arith, omega arith)
number_within Missing = (omega arith, omega arith)
number_within NoName = (omega arith, omega arith)
number_within Twice = (omega arith, omega arith)
number_within Misplaced = (omega arith, omega arith)
number_within NoFigure = (omega arith, omega arith)
number_within NoUnit = (omega arith, omega arith)
number_within OutOfRange = (omega arith, omega arith)
number_within Disagrees = (omega arith, omega arith)

-- all faults in the order of their numbers
faults : List LineFault
faults = NoSheet ∷ Missing ∷ NoName ∷ Twice ∷ Misplaced ∷ NoFigure ∷ NoUnit ∷ OutOfRange ∷ Disagrees ∷ []

fault_back : (fault : LineFault) → get_or faults (fault_number fault - 1) NoSheet ≡ fault
unfolding faults
fault_back NoSheet = refl
fault_back Missing = refl
fault_back NoName = refl
fault_back Twice = refl
fault_back Misplaced = refl
fault_back NoFigure = refl
fault_back NoUnit = refl
fault_back OutOfRange = refl
fault_back Disagrees = refl

pub number_one : (fault other : LineFault) → fault_number fault ≡ fault_number other → fault ≡ other
number_one fault other e = sym (fault_back fault) ∙ ap (λ (n : ℕ). get_or faults (n - 1) NoSheet) e ∙ fault_back other

-- the number of the next line, while there are numbers
next_number_lem : (n : ℕ) → n < 4294967295 → next_number n ≡ n + 1
unfolding next_number
next_number_lem n h = rw (lt-ltb n 4294967295 h)

-- a cursor that has counted its lines
module _ (text : List ℕ) (few : length (lines_of text) < 4294967295) where
  pub record Counted (c : Cursor) : Type 0 where
    pub left : lines_of (drop c.at text) ≡ drop c.lines (lines_of text)
    pub up_to : c.lines ≤ length (lines_of text)

  told_if : (found : Found) → PlaceIn text found.place → Each (λ f. PlaceIn text f.place) (if_happened found)
  told_if found p = go (happened_in found.event)
    where
      go : (b : Bool) → Each (λ f. PlaceIn text f.place) (ifᵇ b then found ∷ [] else [])
      go true = (p, tt)
      go false = tt

  -- behind the last line all lines are counted
  end_place : (c : Cursor) → length text ≤ c.at → Counted c → PlaceIn text (ended_at c).place
  unfolding ended_at
  end_place c h n =
      let none : drop c.lines (lines_of text) ≡ [] = sym n.left ∙ lines_end text c.at h in
      let all : c.lines ≡ length (lines_of text) = omega (arith, ap length none, length-drop c.lines (lines_of text), n.up_to) in
      behind_last refl (next_number_lem c.lines (omega arith) ∙ omega arith)

  -- the line at a cursor is that of the next number
  pub record AtLine (c : Cursor) : Type 0 where
    pub another : c.lines < length (lines_of text)
    pub this : get_or (lines_of text) c.lines [] ≡ line_of (drop c.at text)
    pub rest : lines_of (drop (place_behind text c.at) text) ≡ drop (c.lines + 1) (lines_of text)

  at_line : (c : Cursor) → c.at < length text → Counted c → AtLine c
  at_line c h n =
      let here : drop c.lines (lines_of text) ≡ line_of (drop c.at text) ∷ lines_of (drop (place_behind text c.at) text) = sym n.left ∙ lines_from text c.at h in
      let more : c.lines < length (lines_of text) = omega (arith, ap length here, length-drop c.lines (lines_of text)) in
      let cut : drop c.lines (lines_of text) ≡ get_or (lines_of text) c.lines [] ∷ drop (suc c.lines) (lines_of text) = drop-cons (lines_of text) c.lines [] more in
      record { another = more; this = cc; rest = rw (add-one c.lines) cc }

  line_place : (c : Cursor) → AtLine c → PlaceIn text (turn_at text c).place
  unfolding turn_on
  line_place c a =
      let number : next_number c.lines ≡ c.lines + 1 = next_number_lem c.lines (omega (arith, a.another)) in
      let size : c.at + length (bare (line_of (drop c.at text))) - c.at ≡ length (bare (line_of (drop c.at text))) = omega arith in
      let index : c.lines + 1 - 1 ≡ c.lines = omega arith in
      on_line refl (rw number (omega arith)) (rw number (omega (arith, a.another)))
      (rw (number, size, index, a.this) (bare_line_front (drop c.at text)))

  counts_on : (c : Cursor) → AtLine c → Counted (turn_at text c).cursor
  unfolding turn_on
  counts_on c a =
      let number : next_number c.lines ≡ c.lines + 1 = next_number_lem c.lines (omega (arith, a.another)) in
      record { left = rw number a.rest; up_to = rw number (omega (arith, a.another)) }

  told_end : (c : Cursor) → length text ≤ c.at → Counted c → Each (λ f. PlaceIn text f.place) (all_from text c)
  told_end c h n = rw (all_end text c h) (told_if (ended_at c) (end_place c h n))

  told_line : (c : Cursor) → c.at < length text → (Counted (turn_at text c).cursor → Each (λ f. PlaceIn text f.place) (all_from text (turn_at text c).cursor))
      → Counted c → Each (λ f. PlaceIn text f.place) (all_from text c)
  told_line c h further n =
      let a = at_line c h n in
      rw (all_line text c h)
      (each_append (λ f. PlaceIn text f.place) (if_happened (turn_at text c)) (all_from text (turn_at text c).cursor)
      (told_if (turn_at text c) (line_place c a)) (further (counts_on c a)))

  pub all_places : Each (λ f. PlaceIn text f.place) (all_of text)
  all_places =
      rw (all_from_beginning text)
      (by_lines text (λ c. Counted c → Each (λ f. PlaceIn text f.place) (all_from text c)) told_end told_line beginning
      (record { left = refl; up_to = omega arith }))

-- what a message quotes is the line of its number
pub stood_there : (text : List ℕ) (place : Place) → PlaceIn text place
    → stood_text text place ≡ (ifᵇ place.ended then bytes_of "the text ends" else quoted_text (bare (get_or (lines_of text) (place.line - 1) [])))
unfolding stood_text
stood_there text place (on_line e low high same) = rw (e, same)
stood_there text place (behind_last e n) = rw e
