-- The lines of a row's words, one after another up to the first word that is not there.
use mathlib.Core.Path.{◌≡◌, refl, sym, ◌∙◌}
use mathlib.Core.List.{List, [], ◌++◌, append_assoc, append-nil}
use Prim.Native.Nat.{ℕ, suc, ◌+◌, ◌-◌, ◌*◌, ◌≤◌, ◌<◌}
use native.Mathlib.Omega.{arith}
use borrow.Author.Tests.{eq-eqb, ne_eqb}
use lib.ListN.{length, get_or}
use Rattle.lines.specs.Lines.{space, Put}
use Rattle.lines.proofs.putting.Placing.{put_none, put_on}
use Rattle.typed.specs.Rows.{bytes_of}
use Rattle.typed.specs.Lines.{row_text, words_from}
use Rattle.typed.specs.declared.table.Row.{Row}

-- the lines of the words before j stand at a place, and those from j on are still to be put
pub record Worded (r : Row) (buffer : List ℕ) (at j : ℕ) (later : List ℕ) (end : ℕ) : Type 0 where
  pub text : List ℕ
  pub left : words_from r 1 5 ≡ text ++ words_from r j (6 - j)
  pub holds : Put buffer at text later end

pub none_worded : (r : Row) {buffer : List ℕ} {at : ℕ} → Worded r buffer at 1 buffer at
none_worded r = record { text = []; left = refl; holds = put_none }

module _ {r : Row} {buffer middle : List ℕ} {at j end : ℕ} (w : Worded r buffer at j middle end) where
  pub one_worded : {between later : List ℕ} {front last : ℕ} → j < 6 → (get_or r.words (16 * j) 0 ≡ space → ⊥)
      → Put middle end (bytes_of " | ") between front → Put between front (row_text r j) later last → front ≤ length middle → end ≤ length buffer
      → Worded r buffer at (j + 1) later last
  unfolding words_from
  one_worded h other p q inner outer =
      let e : 6 - j ≡ suc (6 - (j + 1)) = omega arith in
      record {
        text = w.text ++ (bytes_of " | " ++ row_text r j);
        left = w.left ∙ rw (e, ne_eqb (get_or r.words (16 * j) 0) space other) (sym (append_assoc w.text (bytes_of " | " ++ row_text r j) _));
        holds = put_on w.holds (put_on p q inner) outer;
      }

  pub space_worded : j < 6 → get_or r.words (16 * j) 0 ≡ space → Put buffer at (words_from r 1 5) middle end
  unfolding words_from
  space_worded h same =
      let e : 6 - j ≡ suc (5 - j) = omega arith in
      let all : words_from r 1 5 ≡ w.text = w.left ∙ rw (e, eq-eqb (get_or r.words (16 * j) 0) space same, append-nil) in
      rw all w.holds

  pub all_worded : 6 ≤ j → Put buffer at (words_from r 1 5) middle end
  unfolding words_from
  all_worded h =
      let e : 6 - j ≡ 0 = omega arith in
      let all : words_from r 1 5 ≡ w.text = w.left ∙ rw (e, append-nil) in
      rw all w.holds
