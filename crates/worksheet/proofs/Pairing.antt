-- The lines of the two columns, one after another: those passed stand, and those that are left follow; and so many spaces of a longer run.
use mathlib.Core.Path.{◌≡◌, refl, ap, sym, ◌∙◌}
use mathlib.Core.List.{List, [], ◌∷◌, ◌++◌, append_assoc, append-nil}
use Prim.Native.Nat.{ℕ, zero, suc, ◌+◌, ◌-◌, ◌≤◌, ◌<◌}
use native.Mathlib.Omega.{arith}
use lib.ListN.{length, take, replicate}
use Rattle.lines.specs.Lines.{Put}
use Rattle.lines.proofs.putting.Placing.{put_on}

pub so_many : (n m : ℕ) → n ≤ m → take n (replicate {A = ℕ} m 32) ≡ replicate n 32
so_many zero m h = refl
so_many (suc n) zero h = absurd (omega arith)
so_many (suc n) (suc m) h = ap (λ (rest : List ℕ). 32 ∷ rest) (so_many n m (omega arith))

-- of a whole text, what comes before the line after the first i stands at a place, and the lines from it on, up to so many, are still to be put
pub record Lined (most : ℕ) (whole : List ℕ) (from : ℕ → ℕ → List ℕ) (buffer : List ℕ) (at i : ℕ) (later : List ℕ) (end : ℕ) : Type 0 where
  pub text : List ℕ
  pub left : whole ≡ text ++ from i (most - i)
  pub holds : Put buffer at text later end

module _ {most : ℕ} {whole : List ℕ} {from : ℕ → ℕ → List ℕ} {buffer middle : List ℕ} {at i end : ℕ} (w : Lined most whole from buffer at i middle end) where
  pub one_lined : {line later : List ℕ} {last : ℕ} → i < most → ((rest : ℕ) → from i (suc rest) ≡ line ++ from (i + 1) rest)
      → Put middle end line later last → end ≤ length buffer → Lined most whole from buffer at (i + 1) later last
  one_lined {line} h step p fits =
      let e : most - i ≡ suc (most - (i + 1)) = omega arith in
      record {
        text = w.text ++ line;
        left = w.left ∙ rw (e, step (most - (i + 1))) (sym (append_assoc w.text line _));
        holds = put_on w.holds p fits;
      }

  pub all_lined : most ≤ i → from i 0 ≡ [] → Put buffer at whole middle end
  all_lined h none =
      let e : most - i ≡ 0 = omega arith in
      let all : whole ≡ w.text = w.left ∙ rw (e, none, append-nil) in
      rw all w.holds
