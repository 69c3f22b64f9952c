-- A text put at a place of a buffer: byte by byte, one text after another, and what stays as it was.
-- By the lengths of the parts.
use mathlib.Core.Path.{◌≡◌, refl, ap, sym, ◌∙◌}
use mathlib.Core.List.{List, [], ◌∷◌, ◌++◌, append_assoc}
use Prim.Native.Nat.{ℕ, suc, ◌+◌, ◌-◌, ◌≤◌, ◌<◌}
use native.Mathlib.Nat.{add-zero}
use borrow.Rule.Slice.PartMut.{put_mid}
use native.Mathlib.Omega.{arith}
use lib.ListN.{length, take, drop, set, get_or, length-append, length-drop, take-append-drop}
use lib.Seq.{length-take-le, take_at, drop_at, drop-drop, take-suc, set_at}
use Rattle.lines.specs.Lines.{with_text, Put}

module _ (buffer : List ℕ) (at : ℕ) (text : List ℕ) where
  split : with_text at text buffer ≡ (take at buffer ++ text) ++ drop (at + length text) buffer
  unfolding with_text
  split = simp append_assoc

  -- a text at a place of the buffer, however long the text is
  module _ (within : at ≤ length buffer) where
    head_length : length (take at buffer ++ text) ≡ at + length text
    head_length = rw (length-append, length-take-le at buffer)

    pub head_stands : take (at + length text) (with_text at text buffer) ≡ take at buffer ++ text
    head_stands = rw split (take_at (take at buffer ++ text) (drop (at + length text) buffer) (at + length text) head_length)

    pub no_shorter : length buffer ≤ length (with_text at text buffer)
    no_shorter = rw (split, length-append, head_length, length-drop) (omega arith)

  module _ (fits : at + length text ≤ length buffer) where
    pub put_length : length (with_text at text buffer) ≡ length buffer
    put_length = rw (split, length-append, head_length (omega arith), length-drop) (omega arith)

    -- what stands before the text, the text, and what stands after it
    pub before_stays : take at (with_text at text buffer) ≡ take at buffer
    unfolding with_text
    before_stays = take_at (take at buffer) (text ++ drop (at + length text) buffer) at (length-take-le at buffer (omega arith))

    pub text_stands : take (length text) (drop at (with_text at text buffer)) ≡ text
    unfolding with_text
    text_stands =
        rw (drop_at (take at buffer) (text ++ drop (at + length text) buffer) at (length-take-le at buffer (omega arith)))
        (take_at text (drop (at + length text) buffer) (length text) refl)

    pub after_stays : drop (at + length text) (with_text at text buffer) ≡ drop (at + length text) buffer
    after_stays = rw split (drop_at (take at buffer ++ text) (drop (at + length text) buffer) (at + length text) (head_length (omega arith)))

    -- a text behind the text
    text_on : (more : List ℕ) → with_text (at + length text) more (with_text at text buffer) ≡ with_text at (text ++ more) buffer
    unfolding with_text
    text_on more =
        let n : at + length text + length more ≡ at + length (text ++ more) = omega (arith, length-append text more) in
        let rest : drop (at + length text + length more) (with_text at text buffer) ≡ drop (at + length (text ++ more)) buffer =
        rw (← drop-drop (length more) (at + length text) (with_text at text buffer), after_stays, drop-drop, n) in
        rw (head_stands (omega arith), rest) (simp append_assoc)

-- a buffer is as long after a text that fits as before
pub put_long : {buffer text later : List ℕ} {at end : ℕ} → Put buffer at text later end → at + length text ≤ length buffer → length later ≡ length buffer
put_long {buffer} {text} {at = at} p h = ap length p.holds ∙ put_length buffer at text h

pub put_none : {buffer : List ℕ} {at : ℕ} → Put buffer at [] buffer at
unfolding with_text
put_none {buffer} {at} = record { after = omega arith; holds = rw add-zero (sym (take-append-drop at buffer)) }

-- a text copied over as many bytes
pub put_part : (buffer : List ℕ) (at : ℕ) (text : List ℕ) → Put buffer at text (put_mid at (at + length text - at) buffer text) (at + length text)
unfolding with_text
put_part buffer at text =
    let e : at + length text - at ≡ length text = omega arith in
    record { after = refl; holds = rw (e, drop-drop) }

module _ {buffer : List ℕ} {at : ℕ} where
  -- a byte in front of a text that stands
  pub byte_before : {text later : List ℕ} {byte place end : ℕ} → Put buffer place text later end → place ≡ at + 1 → at < length buffer
      → Put buffer at (byte ∷ text) (set later at byte) end
  unfolding with_text
  byte_before {text} {byte = byte} {place} p e h =
      let f : place ≡ suc at = omega arith in
      let n : place + length text ≡ at + length (byte ∷ text) = omega arith in
      record {
        after = omega arith;
        holds = rw (p.holds, n, f, take-suc buffer at 0 h, append_assoc)
            (set_at (take at buffer) (get_or buffer at 0) (text ++ drop (at + length (byte ∷ text)) buffer) byte at (length-take-le at buffer (omega arith)));
      }

  pub put_byte : {byte : ℕ} → at < length buffer → Put buffer at (byte ∷ []) (set buffer at byte) (at + 1)
  put_byte h = byte_before put_none refl h

  -- a text and then another
  pub put_on : {text more middle later : List ℕ} {end last : ℕ} → Put buffer at text middle end → Put middle end more later last → end ≤ length buffer
      → Put buffer at (text ++ more) later last
  put_on {text} {more} p q fits =
      record {
        after = omega (arith, length-append text more);
        holds = q.holds ∙ rw (p.after, p.holds) (text_on buffer at text (omega arith) more);
      }

-- a byte and then a text, a text and then a byte
pub byte_then : {buffer text later : List ℕ} {at byte end : ℕ} → Put (set buffer at byte) (at + 1) text later end → at < length buffer
    → Put buffer at (byte ∷ text) later end
byte_then p h = put_on (put_byte h) p (omega arith)

pub then_byte : {buffer text later : List ℕ} {at end : ℕ} (byte : ℕ) → Put buffer at text later end → end < length buffer
    → Put buffer at (text ++ byte ∷ []) (set later end byte) (end + 1)
then_byte {buffer} {text} {at = at} byte p h =
    let long = ap length p.holds ∙ put_length buffer at text (omega arith) in
    put_on p (put_byte (omega arith)) (omega arith)
