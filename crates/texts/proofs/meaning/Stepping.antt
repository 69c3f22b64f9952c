-- A text read step by step: each step finds the first of what is left, and what it leaves is the rest.
use Rattle.std.specs.Prelude.{Option, Some, None, is_some}
use mathlib.Core.Path.{◌≡◌, refl}
use mathlib.Core.Bool.{Bool, true, false}
use mathlib.Core.List.{List, [], ◌∷◌, ◌++◌}
use Prim.Native.Nat.{ℕ, zero, suc, ◌+◌, ◌≤◌, ◌<◌}
use native.Mathlib.Nat.{le_refl}
use native.Mathlib.Omega.{arith}
use borrow.Author.Tests.{ltb-true, ltb-false}
use lib.Dec.{ltb}
use lib.ListN.{length, drop}
use Rattle.laws.proofs.Never.{never}
use Rattle.laws.specs.Choice.{ifᵇ◌then◌else◌}
use Rattle.texts.specs.Cutting.{line_of}
use Rattle.texts.specs.Texts.{beginning, happened_in, if_happened, turn_on, ended_at, found_in, next_of, all_in, all_of}
use Rattle.texts.specs.Typed.{all_from}
use Rattle.texts.specs.declared.Cursor.{Cursor}
use Rattle.texts.specs.declared.Event.{Event}
use Rattle.texts.specs.declared.Found.{Found}
use Rattle.texts.specs.declared.Stage.TheVariants.{Between}
use Rattle.texts.proofs.meaning.Cuts.{place_behind, lines_from, lines_end, place_on}

-- something is found exactly where an event stands
pub is_happened : (event : Option Event) → is_some event ≡ happened_in event
is_happened None = refl
is_happened (Some event) = refl

module _ (text : List ℕ) where
  -- what the line at a cursor brings
  abbrev pub turn_at : Cursor → Found
  turn_at c = turn_on (length text) c (line_of (drop c.at text))

  -- the reading goes on behind that line
  turn_place : (c : Cursor) → (turn_at c).cursor.at ≡ place_behind text c.at
  unfolding turn_on
  turn_place c = refl

  -- the next thing is on this line, or from the next on
  pub next_line : (c : Cursor) → c.at < length text
      → next_of text c ≡ (ifᵇ happened_in (turn_at c).event then turn_at c else next_of text (turn_at c).cursor)
  unfolding next_of found_in turn_on
  next_line c h = rw (lines_from text c.at h)

  pub all_line : (c : Cursor) → c.at < length text → all_from text c ≡ if_happened (turn_at c) ++ all_from text (turn_at c).cursor
  unfolding all_from all_in turn_on
  all_line c h = rw (lines_from text c.at h)

  -- behind the last line
  pub next_end : (c : Cursor) → length text ≤ c.at → next_of text c ≡ ended_at c
  unfolding next_of found_in
  next_end c h = rw (lines_end text c.at h)

  pub all_end : (c : Cursor) → length text ≤ c.at → all_from text c ≡ if_happened (ended_at c)
  unfolding all_from all_in
  all_end c h = rw (lines_end text c.at h)

  -- the two ways of a cursor, by how much of the text is left
  module _ (P : Cursor → Type 0)
      (over : (c : Cursor) → length text ≤ c.at → P c)
      (on : (c : Cursor) → c.at < length text → P (turn_at c).cursor → P c) where
    within : (n : ℕ) (c : Cursor) → length text ≤ c.at + n → P c
    within zero c h = over c (omega arith)
    within (suc n) c h = go (ltb c.at (length text)) refl (λ l. within n (turn_at c).cursor l)
      where
        go : (b : Bool) → ltb c.at (length text) ≡ b → (length text ≤ (turn_at c).cursor.at + n → P (turn_at c).cursor) → P c
        go true e further =
            let l : c.at < length text = ltb-true c.at (length text) e in
            on c l (further (omega (arith, turn_place c, place_on text c.at l)))
        go false e further = over c (ltb-false c.at (length text) e)

    pub by_lines : (c : Cursor) → P c
    by_lines c = within (length text) c (omega arith)

  -- what is found is the first of all that is left, and the rest is left behind it; or nothing is found and nothing is left
  pub data Taken (found : Found) (all : List Found) : Type 0 where
    first : happened_in found.event ≡ true → all ≡ found ∷ all_from text found.cursor → Taken found all
    none : happened_in found.event ≡ false → all ≡ [] → Taken found all

  -- nothing is left behind the end
  over_end : (c : Cursor) → length text ≤ c.at → all_from text (ended_at c).cursor ≡ []
  unfolding ended_at
  over_end c h = all_end (record { at = c.at; lines = c.lines; stage = Between; figures = c.figures }) h

  taken_end : (c : Cursor) → length text ≤ c.at → Taken (next_of text c) (all_from text c)
  taken_end c h = rw (next_end c h, all_end c h) (go (happened_in (ended_at c).event) refl)
    where
      go : (b : Bool) → happened_in (ended_at c).event ≡ b → Taken (ended_at c) (ifᵇ b then ended_at c ∷ [] else [])
      go true e = first e (rw (over_end c h))
      go false e = none e refl

  taken_line : (c : Cursor) → c.at < length text → Taken (next_of text (turn_at c).cursor) (all_from text (turn_at c).cursor)
      → Taken (next_of text c) (all_from text c)
  taken_line c h further = rw (next_line c h, all_line c h) (go (happened_in (turn_at c).event) refl further)
    where
      go : (b : Bool) → happened_in (turn_at c).event ≡ b → Taken (next_of text (turn_at c).cursor) (all_from text (turn_at c).cursor)
          → Taken (ifᵇ b then turn_at c else next_of text (turn_at c).cursor) ((ifᵇ b then turn_at c ∷ [] else []) ++ all_from text (turn_at c).cursor)
      go true e further = first e refl
      go false e further = further

  taken : (c : Cursor) → Taken (next_of text c) (all_from text c)
  taken = by_lines (λ c. Taken (next_of text c) (all_from text c)) taken_end taken_line

  pub all_next : (c : Cursor) → happened_in (next_of text c).event ≡ true → all_from text c ≡ next_of text c ∷ all_from text (next_of text c).cursor
  all_next c h = go (taken c)
    where
      go : Taken (next_of text c) (all_from text c) → all_from text c ≡ next_of text c ∷ all_from text (next_of text c).cursor
      go (first p e) = e
      go (none p e) = never cc

  pub all_over : (c : Cursor) → happened_in (next_of text c).event ≡ false → all_from text c ≡ []
  all_over c h = go (taken c)
    where
      go : Taken (next_of text c) (all_from text c) → all_from text c ≡ []
      go (first p e) = never cc
      go (none p e) = e

  -- the reading never goes back
  moves_end : (c : Cursor) → length text ≤ c.at → c.at ≤ (next_of text c).cursor.at
  unfolding ended_at
  moves_end c h = rw (next_end c h) (le_refl c.at)

  moves_line : (c : Cursor) → c.at < length text → (turn_at c).cursor.at ≤ (next_of text (turn_at c).cursor).cursor.at
      → c.at ≤ (next_of text c).cursor.at
  moves_line c h further =
      rw (next_line c h) (go (happened_in (turn_at c).event) (omega (arith, turn_place c, place_on text c.at h)) further)
    where
      go : (b : Bool) → c.at ≤ (turn_at c).cursor.at → (turn_at c).cursor.at ≤ (next_of text (turn_at c).cursor).cursor.at
          → c.at ≤ (ifᵇ b then turn_at c else next_of text (turn_at c).cursor).cursor.at
      go true l further = l
      go false l further = omega arith

  pub moves_on : (c : Cursor) → c.at ≤ (next_of text c).cursor.at
  moves_on = by_lines (λ c. c.at ≤ (next_of text c).cursor.at) moves_end moves_line

  -- all that a text brings is all from its beginning on
  pub all_from_beginning : all_of text ≡ all_from text beginning
  unfolding all_of all_from
  all_from_beginning = refl
