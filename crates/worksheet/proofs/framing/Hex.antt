-- The digits of bytes, put one byte behind another.
use mathlib.Core.Path.{◌≡◌, refl}
use mathlib.Core.List.{List, [], ◌∷◌, ◌++◌, map-append, append_assoc, append-nil, flatten}
use Prim.Native.Nat.{ℕ, ◌+◌, ◌≤◌, ◌<◌}
use native.Mathlib.Numerals.{add-one}
use lib.ListN.{length, take, get_or}
use lib.Seq.{take-suc}
use Rattle.lines.specs.Lines.{Put}
use Rattle.lines.proofs.putting.Placing.{put_none, put_on}
use Rattle.worksheet.specs.Framing.{hex_byte, hex_text}

flatten_append : (first second : List (List ℕ)) → flatten (first ++ second) ≡ flatten first ++ flatten second
unfolding flatten
flatten_append [] second = refl
flatten_append (text ∷ first) second = rw (flatten_append first second, append_assoc)

digits_more : (bytes : List ℕ) (i : ℕ) → i < length bytes → hex_text (take (i + 1) bytes) ≡ hex_text (take i bytes) ++ hex_byte (get_or bytes i 0)
unfolding hex_text flatten
digits_more bytes i h = rw (add-one, take-suc bytes i 0 h, map-append, flatten_append, append-nil)

pub no_digits : (bytes : List ℕ) {buffer : List ℕ} {at : ℕ} → Put buffer at (hex_text (take 0 bytes)) buffer at
unfolding hex_text flatten
no_digits bytes = put_none

pub one_more : (bytes : List ℕ) (i : ℕ) {buffer middle later : List ℕ} {at end last : ℕ} → i < length bytes → Put buffer at (hex_text (take i bytes)) middle end
    → Put middle end (hex_byte (get_or bytes i 0)) later last → end ≤ length buffer → Put buffer at (hex_text (take (i + 1) bytes)) later last
one_more bytes i h p q fits = rw (digits_more bytes i h) (put_on p q fits)
