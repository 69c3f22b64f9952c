-- The lines of the rows, one after another: those passed stand, and those that are left follow.
use mathlib.Core.Path.{◌≡◌, sym, ◌∙◌}
use mathlib.Core.List.{List, [], ◌++◌, append_assoc, append-nil}
use Prim.Native.Nat.{ℕ, suc, ◌+◌, ◌-◌, ◌≤◌, ◌<◌}
use native.Mathlib.Omega.{arith}
use lib.ListN.{length}
use Rattle.lines.specs.Lines.{Put}
use Rattle.lines.proofs.putting.Placing.{put_on}
use Rattle.typed.specs.Rows.{count}

-- of a whole text, what comes before the row after the first i stands at a place, and the rows from it on are still to be put
pub record Rowed (whole : List ℕ) (from : ℕ → ℕ → List ℕ) (buffer : List ℕ) (at i : ℕ) (later : List ℕ) (end : ℕ) : Type 0 where
  pub text : List ℕ
  pub left : whole ≡ text ++ from i (count - i)
  pub holds : Put buffer at text later end

module _ {whole : List ℕ} {from : ℕ → ℕ → List ℕ} {buffer middle : List ℕ} {at i end : ℕ} (w : Rowed whole from buffer at i middle end) where
  pub one_rowed : {line later : List ℕ} {last : ℕ} → i < count → ((most : ℕ) → from i (suc most) ≡ line ++ from (i + 1) most)
      → Put middle end line later last → end ≤ length buffer → Rowed whole from buffer at (i + 1) later last
  one_rowed {line} h step p fits =
      let e : count - i ≡ suc (count - (i + 1)) = omega arith in
      record {
        text = w.text ++ line;
        left = w.left ∙ rw (e, step (count - (i + 1))) (sym (append_assoc w.text line _));
        holds = put_on w.holds p fits;
      }

  pub all_rowed : count ≤ i → from i 0 ≡ [] → Put buffer at whole middle end
  all_rowed h none =
      let e : count - i ≡ 0 = omega arith in
      let all : whole ≡ w.text = w.left ∙ rw (e, none, append-nil) in
      rw all w.holds
