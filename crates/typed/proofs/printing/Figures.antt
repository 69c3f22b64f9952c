-- A figure put as its row has it: its decimals behind a point, its word, its level.
use mathlib.Core.Path.{◌≡◌}
use mathlib.Core.List.{List, [], ◌∷◌, ◌++◌}
use Prim.Native.Nat.{ℕ, ◌+◌, ◌-◌, ◌*◌, ◌/◌, ◌%◌, ◌≤◌, ◌<◌}
use native.Mathlib.Omega.{arith}
use borrow.Author.Tests.{ne_eqb, lt-ltb, le-ltb}
use lib.ListN.{length, take, drop, set, length-take, drop_of_length-le}
use Rattle.lines.specs.Decimals.{byte_of, minus, count_text}
use Rattle.lines.specs.Lines.{Put}
use Rattle.lines.proofs.putting.Placing.{then_byte}
use Rattle.typed.specs.Rows.{bytes_of}
use Rattle.typed.specs.Lines.{point, token, tenths_text, hundredths_text, level_zero, level_text, word_text, figure_by, figure_text}
use Rattle.typed.specs.declared.Kind.{Kind}
use Rattle.typed.specs.declared.table.Row.{Row}

-- its decimals behind a point
module _ {buffer later : List ℕ} {at end : ℕ} (n : ℕ) where
  pub tenths_stand : Put buffer at (count_text (n / 10)) later end → end + 1 < length buffer
      → Put buffer at (tenths_text n) (set (set later end point) (end + 1) (byte_of (n % 10))) (end + 2)
  unfolding tenths_text
  tenths_stand p h =
      let e : (end + 1) + 1 ≡ end + 2 = omega arith in
      rw e at (then_byte (byte_of (n % 10)) (then_byte point p (omega arith)) h)

  pub hundredths_stand : Put buffer at (count_text (n / 100)) later end → end + 2 < length buffer
      → Put buffer at (hundredths_text n) (set (set (set later end point) (end + 1) (byte_of (n / 10 % 10))) (end + 2) (byte_of (n % 10))) (end + 3)
  unfolding hundredths_text
  hundredths_stand p h =
      let e : (end + 1) + 1 ≡ end + 2 = omega arith in
      let f : (end + 2) + 1 ≡ end + 3 = omega arith in
      let first = rw e at (then_byte (byte_of (n / 10 % 10)) (then_byte point p (omega arith)) (omega arith)) in
      rw f at (then_byte (byte_of (n % 10)) first h)

-- a level off the record, below 0 and from 0 on
module _ (n : ℕ) where
  pub level_record : n ≡ 0 → level_text n ≡ bytes_of "record"
  unfolding level_text
  level_record e = rw e

  pub level_below : (n ≡ 0 → ⊥) → n < level_zero → level_text n ≡ bytes_of "given " ++ minus ∷ count_text (level_zero - n)
  unfolding level_text
  level_below other h = rw (ne_eqb n 0 other, lt-ltb n level_zero h)

  pub level_above : level_zero ≤ n → level_text n ≡ bytes_of "given " ++ count_text (n - level_zero)
  unfolding level_text
  level_above h = rw (ne_eqb n 0 (λ e. omega arith), le-ltb n level_zero h)

-- a word, and none past the words
module _ (words : List ℕ) (n : ℕ) where
  pub no_word : length words ≤ 16 * n → word_text words n ≡ []
  unfolding word_text token
  no_word h = rw (drop_of_length-le words h)

  pub word_part : token (take (16 * n + 16 - 16 * n) (drop (16 * n) words)) ≡ word_text words n
  unfolding word_text
  word_part = let e : 16 * n + 16 - 16 * n ≡ 16 = omega arith in rw e

  pub word_end : (at : ℕ) {end : ℕ} → end ≤ at + length (take (16 * n + 16 - 16 * n) (drop (16 * n) words)) → end ≤ at + 28
  word_end at h = omega (arith, length-take (16 * n + 16 - 16 * n) (drop (16 * n) words))

-- a figure by its row's kind
pub figure_by_lem : (r : Row) (n : ℕ) {kind : Kind} → r.kind ≡ kind → figure_text r n ≡ figure_by kind r.words n
unfolding figure_text
figure_by_lem r n e = rw e
