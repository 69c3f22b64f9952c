-- A text that is typed, step by step: whether a fault is among what was found, and the bytes of the sheets that were.
-- What is left after a step is the rest of what was left before it.
use Rattle.std.specs.Prelude.{Option, Some, None, is_some}
use mathlib.Core.Path.{◌≡◌, refl, sym, ap, ◌∙◌}
use mathlib.Core.Bool.{Bool, true, false, not, ◌||◌}
use mathlib.Core.List.{List, [], ◌∷◌, ◌++◌, map, map-append}
use mathlib.Core.Logic.{◌↔◌}
use Prim.Native.Nat.{ℕ, ◌≤◌, ◌<◌}
use native.Mathlib.Omega.{arith}
use lib.ListN.{length, replicate, length-replicate}
use Rattle.laws.specs.Choice.{ifᵇ◌then◌else◌}
use Rattle.laws.proofs.Never.{never}
use Rattle.lines.specs.Lines.{place_within, buffer_within}
use Rattle.texts.specs.Shown.{sheet_bytes, sheet_text}
use Rattle.texts.specs.Texts.{happened_in, beginning, next_of, all_of}
use Rattle.texts.specs.Typed.{Faultless, all_from, fault_in, faults_of, sheet_in, sheets_of, typed_bytes}
use Rattle.texts.specs.declared.Cursor.{Cursor}
use Rattle.texts.specs.declared.Event.{Event}
use Rattle.texts.specs.declared.Event.TheVariants.{Sheet, Fault}
use Rattle.texts.specs.declared.Found.{Found}
use Rattle.texts.proofs.Promises.{all_from_its_beginning, next_is_first, nothing_is_last}
use Rattle.channel.specs.Output.{Lines, standing, place_for, with_line, with_lines, written}
use Rattle.channel.specs.Typing.{is_over, is_fault, any_fault, bytes_of_sheets, TypedOut}
use Rattle.channel.proofs.Lines.{line_put, all_lines, lines_in_two}

-- so many zeros, stated of any number: the great one of the longest text must not be computed
pub zeros_long : (n : ℕ) → n ≡ length (replicate {A = ℕ} n 0)
zeros_long n = sym (length-replicate {A = ℕ} n 0)

goes_on : (event : Option Event) → is_over event ≡ false → happened_in event ≡ true
goes_on None e = never cc
goes_on (Some event) e = refl

is_over_lem : (event : Option Event) → is_over event ≡ true → happened_in event ≡ false
is_over_lem None e = refl
is_over_lem (Some event) e = never cc

-- by the library's question
pub asked_over : (event : Option Event) (none : Bool) → is_some event ≡ not none → is_over event ≡ none
asked_over None true e = refl
asked_over None false e = never cc
asked_over (Some event) true e = never cc
asked_over (Some event) false e = refl

module _ (text : List ℕ) (cursor : Cursor) (found : Found) (f : found ≡ next_of text cursor) where
  -- one more was found
  pub one_found : is_over found.event ≡ false → all_from text cursor ≡ found ∷ all_from text found.cursor
  one_found e =
      let h : happened_in (next_of text cursor).event ≡ true = goes_on (next_of text cursor).event (sym (ap (λ (g : Found). is_over g.event) f) ∙ e) in
      next_is_first text cursor h ∙ ap (λ (g : Found). g ∷ all_from text g.cursor) (sym f)

  -- nothing more was
  pub none_found : is_over found.event ≡ true → all_from text cursor ≡ []
  none_found e = nothing_is_last text cursor (is_over_lem (next_of text cursor).event (sym (ap (λ (g : Found). is_over g.event) f) ∙ e))

  pub fewer_left : is_over found.event ≡ false → length (all_from text found.cursor) < length (all_from text cursor)
  fewer_left e = omega (arith, ap length (one_found e))

  -- whether a fault was told, or is among what is left
  pub fault_told : (told later : Bool) → is_over found.event ≡ false → later ≡ (told || is_fault found.event)
      → (ifᵇ later then true else any_fault (all_from text found.cursor)) ≡ (ifᵇ told then true else any_fault (all_from text cursor))
  unfolding any_fault
  fault_told told later e l = rw (one_found e, l) (go told (is_fault found.event) (any_fault (all_from text found.cursor)))
    where
      go : (a b c : Bool) → (ifᵇ (a || b) then true else c) ≡ (ifᵇ a then true else (ifᵇ b then true else c))
      go true b c = refl
      go false true c = refl
      go false false c = refl

  pub all_told : (told : Bool) → is_over found.event ≡ true → told ≡ (ifᵇ told then true else any_fault (all_from text cursor))
  unfolding any_fault
  all_told told e = rw (none_found e) (go told)
    where
      go : (a : Bool) → a ≡ (ifᵇ a then true else false)
      go true = refl
      go false = refl

  -- the sheets that are left are put behind those that were
  pub sheet_put : (l after : Lines) → is_over found.event ≡ false → after ≡ with_lines sheet_bytes (map sheet_text (sheet_in found.event found.cursor.figures)) l
      → with_lines sheet_bytes (bytes_of_sheets (all_from text found.cursor)) after ≡ with_lines sheet_bytes (bytes_of_sheets (all_from text cursor)) l
  unfolding sheets_of
  sheet_put l after e p =
      let now = sheet_in found.event found.cursor.figures in
      let rest = sheets_of (all_from text found.cursor) in
      rw (one_found e, p, map-append sheet_text now rest) (sym (lines_in_two sheet_bytes (map sheet_text now) (map sheet_text rest) l))

  pub sheets_put : (l : Lines) → is_over found.event ≡ true → l ≡ with_lines sheet_bytes (bytes_of_sheets (all_from text cursor)) l
  unfolding sheets_of with_lines
  sheets_put l e = rw (none_found e)

-- a sheet's bytes, by the place for them
pub figures_put : (figures : List ℕ) (l : Lines) (at after : ℕ) (later : List ℕ) → at ≡ place_for sheet_bytes l.buffer l.at
    → after ≡ place_within sheet_bytes (sheet_text figures) at l.buffer → later ≡ buffer_within sheet_bytes (sheet_text figures) at l.buffer
    → ◌≡◌ {A = Lines} (record { at = after; buffer = later }) (with_line sheet_bytes (sheet_text figures) l)
figures_put figures = line_put sheet_bytes (sheet_text figures)

-- what is put of an event
pub nothing_put : (l : Lines) → l ≡ with_lines sheet_bytes [] l
unfolding with_lines
nothing_put l = refl

pub one_put : (text : List ℕ) (l : Lines) → with_line sheet_bytes text l ≡ with_lines sheet_bytes (text ∷ []) l
unfolding with_lines
one_put text l = refl

-- before the first step all is left
pub all_left : (text : List ℕ) (cursor : Cursor) → cursor ≡ beginning → all_from text cursor ≡ all_of text
all_left text cursor e = ap (all_from text) e ∙ sym (all_from_its_beginning text)

-- no fault is among what was found
no_fault : (all : List Found) → any_fault all ≡ false → faults_of all ≡ []
unfolding any_fault faults_of
no_fault [] e = refl
no_fault (found ∷ all) e = go found.event e (no_fault all)
  where
    go : (event : Option Event) → (ifᵇ is_fault event then true else any_fault all) ≡ false → (any_fault all ≡ false → faults_of all ≡ [])
        → fault_in event found ++ faults_of all ≡ []
    go None e further = further e
    go (Some Sheet) e further = further e
    go (Some (Fault fault row)) e further = never cc

none_told : (all : List Found) → faults_of all ≡ [] → any_fault all ≡ false
unfolding any_fault faults_of
none_told [] e = refl
none_told (found ∷ all) e = go found.event e (none_told all)
  where
    go : (event : Option Event) → fault_in event found ++ faults_of all ≡ [] → (faults_of all ≡ [] → any_fault all ≡ false)
        → (ifᵇ is_fault event then true else any_fault all) ≡ false
    go None e further = further e
    go (Some Sheet) e further = further e
    go (Some (Fault fault row)) e further = never cc

pub none_told_exactly : (text : List ℕ) → (any_fault (all_of text) ≡ false) ↔ Faultless text
unfolding Faultless
none_told_exactly text = (no_fault (all_of text), none_told (all_of text))

-- what was written and what stands are the bytes of a text without a fault
pub bytes_out : (text buffer later : List ℕ) (rest : ℕ) → sheet_bytes ≤ length buffer → any_fault (all_of text) ≡ false
    → ◌≡◌ {A = Lines} (record { at = rest; buffer = later }) (with_lines sheet_bytes (bytes_of_sheets (all_of text)) (record { at = 0; buffer = buffer }))
    → TypedOut text buffer (Some rest) later
unfolding typed_bytes
bytes_out text buffer later rest space none put =
    let first : Lines = record { at = 0; buffer = buffer } in
    let lines = bytes_of_sheets (all_of text) in
    ap (λ (l : Lines). written sheet_bytes lines first ++ standing l) put
    ∙ all_lines sheet_bytes lines first space
    ∙ rw (no_fault (all_of text) none)
