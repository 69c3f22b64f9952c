-- A filled text, one byte or one blank after another: what was put, and what is still to be.
use mathlib.Core.Path.{◌≡◌, refl, ap, ◌∙◌}
use mathlib.Core.List.{List, [], ◌∷◌, ◌++◌, append_assoc, append-nil}
use Prim.Native.Nat.{ℕ, ◌≤◌}
use borrow.Author.Tests.{ne_eqb}
use lib.ListN.{length, drop}
use Rattle.laws.specs.Each.{Each}
use Rattle.lines.specs.Lines.{Put}
use Rattle.lines.proofs.putting.Placing.{put_none, put_on}
use Rattle.blanks.specs.Blanks.{blank_byte, width_of, blank_text, next_text, filled}
use Rattle.blanks.specs.declared.Figure.{Figure}

module _ (words : List ℕ) where
  pub plain_byte : (byte : ℕ) (text : List ℕ) (figures : List Figure) → (byte ≡ blank_byte → ⊥)
      → filled words (byte ∷ text) figures ≡ byte ∷ filled words text figures
  unfolding filled
  plain_byte byte [] figures other = rw (ne_eqb byte blank_byte other)
  plain_byte byte (next ∷ text) figures other = rw (ne_eqb byte blank_byte other)

  pub one_blank : (text : List ℕ) (figures : List Figure)
      → filled words (blank_byte ∷ text) figures ≡ next_text words text figures ++ filled words (drop 1 text) (drop 1 figures)
  unfolding filled next_text
  one_blank [] figures = refl
  one_blank (next ∷ text) figures = refl

  -- a text without a blank stands as it is
  pub no_blank : (text : List ℕ) (figures : List Figure) → Each (λ (byte : ℕ). byte ≡ blank_byte → ⊥) text → filled words text figures ≡ text
  unfolding filled
  no_blank [] figures each = refl
  no_blank (byte ∷ text) figures each = plain_byte byte text figures each.0 ∙ ap (λ (rest : List ℕ). byte ∷ rest) (no_blank text figures each.1)

-- A text stands at a place up to the rest of it, with figures in its blanks up to those that are left, and the rest is still to be put.
pub record Filling (words text : List ℕ) (figures : List Figure) (buffer : List ℕ) (at : ℕ) (rest : List ℕ) (left : List Figure) (later : List ℕ) (end : ℕ) : Type 0 where
  pub done : List ℕ
  pub whole : filled words text figures ≡ done ++ filled words rest left
  pub holds : Put buffer at done later end

pub none_filled : {words text : List ℕ} {figures : List Figure} {buffer : List ℕ} {at : ℕ} → Filling words text figures buffer at text figures buffer at
none_filled = record { done = []; whole = refl; holds = put_none }

module _ {words text : List ℕ} {figures : List Figure} {buffer middle : List ℕ} {at end : ℕ} {rest : List ℕ} {left : List Figure} where
  pub byte_filled : {byte : ℕ} {later : List ℕ} {last : ℕ} → Filling words text figures buffer at (byte ∷ rest) left middle end → (byte ≡ blank_byte → ⊥)
      → Put middle end (byte ∷ []) later last → end ≤ length buffer → Filling words text figures buffer at rest left later last
  byte_filled {byte} f other p fits =
      record {
        done = f.done ++ byte ∷ [];
        whole = f.whole ∙ rw (plain_byte words byte rest left other, append_assoc);
        holds = put_on f.holds p fits;
      }

  pub blank_filled : {width : ℕ} {figure : Figure} {later : List ℕ} {last : ℕ} → Filling words text figures buffer at (blank_byte ∷ width ∷ rest) (figure ∷ left) middle end
      → Put middle end (blank_text words (width_of width) figure) later last → end ≤ length buffer → Filling words text figures buffer at rest left later last
  unfolding next_text
  blank_filled {width} {figure} f p fits =
      record {
        done = f.done ++ blank_text words (width_of width) figure;
        whole = f.whole ∙ rw (one_blank words (width ∷ rest) (figure ∷ left), append_assoc);
        holds = put_on f.holds p fits;
      }

-- a blank stays empty where the figures end, or the text
pub past_figures : {words text rest : List ℕ} {figures : List Figure} {buffer later : List ℕ} {at end width : ℕ}
    → Filling words text figures buffer at (blank_byte ∷ width ∷ rest) [] later end → Filling words text figures buffer at rest [] later end
unfolding next_text
past_figures {words} {rest = rest} {width = width} f = record { done = f.done; whole = f.whole ∙ rw (one_blank words (width ∷ rest) []); holds = f.holds }

pub all_filled : {words text : List ℕ} {figures left : List Figure} {buffer later : List ℕ} {at end : ℕ} → Filling words text figures buffer at [] left later end
    → Put buffer at (filled words text figures) later end
unfolding filled
all_filled f = rw (f.whole, append-nil f.done) f.holds

pub ends_in_blank : {words text : List ℕ} {figures left : List Figure} {buffer later : List ℕ} {at end : ℕ}
    → Filling words text figures buffer at (blank_byte ∷ []) left later end → Put buffer at (filled words text figures) later end
unfolding filled
ends_in_blank f = rw (f.whole, append-nil f.done) f.holds
