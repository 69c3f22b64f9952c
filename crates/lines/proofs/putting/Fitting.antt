-- Whether there is room for a text, what its putting comes to either way, and what it keeps: the bytes before it and after it, and the
-- whole buffer where there is less. By the two cases, for any room.
use mathlib.Core.Path.{◌≡◌, refl, sym, ◌∙◌}
use mathlib.Core.Bool.{Bool, true, false}
use mathlib.Core.List.{List, ◌++◌}
use mathlib.Core.Logic.{◌↔◌}
use Prim.Native.Nat.{ℕ, ◌+◌, ◌≤◌, ◌<◌}
use native.Mathlib.Omega.{arith}
use borrow.Author.Tests.{le-leb, lt-leb, leb-true}
use lib.Dec.{leb}
use lib.ListN.{length, take, drop}
use Rattle.lines.specs.Lines.{with_text, place_within, buffer_within, Put}
use Rattle.lines.proofs.decimals.Digits.{below_or}
use Rattle.lines.proofs.putting.Placing.{put_length, head_stands, no_shorter, before_stays, text_stands, after_stays}

-- a call that asks whether there is less, and goes on, has room
pub room : (size at bytes : ℕ) {fits : Bool} → fits ≡ leb (at + size) bytes → fits ≡ true → at + size ≤ bytes
room size at bytes {fits} e t = leb-true (at + size) bytes (sym e ∙ t)

module _ (size : ℕ) (line : List ℕ) (at : ℕ) (buffer : List ℕ) where
  -- what a call answers, and what the buffer then holds
  abbrev pub Answered : ℕ → List ℕ → Type 0
  Answered end later = (end ≡ place_within size line at buffer) × (later ≡ buffer_within size line at buffer)

  module _ {fits : Bool} (e : fits ≡ leb (at + size) (length buffer)) where
    pub unfit : fits ≡ false → Answered at buffer
    unfolding place_within buffer_within
    unfit t = rw (← e, t) (refl, refl)

    pub fitting : fits ≡ true → {end : ℕ} {later : List ℕ} → Put buffer at line later end → Answered end later
    unfolding place_within buffer_within
    fitting t p = rw (← e, t) (p.after, p.holds)

  -- the same of a call that asks nothing, where there is room
  pub put_within : {end : ℕ} {later : List ℕ} → at + size ≤ length buffer → Answered end later → Put buffer at line later end
  unfolding place_within buffer_within
  put_within h a = let e = le-leb (at + size) (length buffer) h in record { after = rw e at a.0; holds = rw e at a.1 }

  -- what holds where there is room and where there is less
  either : (P : ℕ → List ℕ → Type 0) → (at + size ≤ length buffer → P (at + length line) (with_text at line buffer))
      → (length buffer < at + size → P at buffer) → P (place_within size line at buffer) (buffer_within size line at buffer)
  unfolding place_within buffer_within
  either P put kept =
      below_or (length buffer) (at + size)
      (λ h. rw (lt-leb (at + size) (length buffer) h) (kept h))
      (λ h. rw (le-leb (at + size) (length buffer) h) (put h))

  pub buffer_unfit : length buffer < at + size → buffer_within size line at buffer ≡ buffer
  buffer_unfit l = either (λ end later. later ≡ buffer) (λ h. absurd (omega arith)) (λ h. refl)

  -- a text that is not empty leaves its place exactly when there is room
  pub same_place_exactly : 0 < length line → (place_within size line at buffer ≡ at) ↔ (length buffer < at + size)
  same_place_exactly some =
      either (λ end later. (end ≡ at) ↔ (length buffer < at + size))
      (λ h. (λ e. absurd (omega arith), λ l. absurd (omega arith)))
      (λ h. (λ e. h, λ l. refl))

  -- the text stands behind what stood before its place, and no byte is lost
  pub line_behind : at + size ≤ length buffer → take (place_within size line at buffer) (buffer_within size line at buffer) ≡ take at buffer ++ line
  line_behind fits =
      either (λ end later. take end later ≡ take at buffer ++ line) (λ h. head_stands buffer at line (omega arith)) (λ h. absurd (omega arith))

  pub none_lost : length buffer ≤ length (buffer_within size line at buffer)
  none_lost = either (λ end later. length buffer ≤ length later) (λ h. no_shorter buffer at line (omega arith)) (λ h. omega arith)

  module _ (short : length line ≤ size) where
    pub before_kept : take at (buffer_within size line at buffer) ≡ take at buffer
    before_kept = either (λ end later. take at later ≡ take at buffer) (λ h. before_stays buffer at line (omega arith)) (λ h. refl)

    pub after_kept : drop (place_within size line at buffer) (buffer_within size line at buffer) ≡ drop (place_within size line at buffer) buffer
    after_kept = either (λ end later. drop end later ≡ drop end buffer) (λ h. after_stays buffer at line (omega arith)) (λ h. refl)

    pub length_kept : length (buffer_within size line at buffer) ≡ length buffer
    length_kept = either (λ end later. length later ≡ length buffer) (λ h. put_length buffer at line (omega arith)) (λ h. refl)

    pub line_stands : at + size ≤ length buffer → take (length line) (drop at (buffer_within size line at buffer)) ≡ line
    line_stands fits =
        either (λ end later. take (length line) (drop at later) ≡ line) (λ h. text_stands buffer at line (omega arith)) (λ h. absurd (omega arith))

    pub place_within_lem : at ≤ length buffer → place_within size line at buffer ≤ length buffer
    place_within_lem within = either (λ end later. end ≤ length buffer) (λ h. omega arith) (λ h. within)
