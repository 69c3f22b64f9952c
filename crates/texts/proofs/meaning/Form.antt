-- The empty form, as it is: a comment and a line for each row; its first row says no figure, so it has a fault.
use mathlib.Core.Path.{◌≡◌, refl, ap, ◌∙◌}
use mathlib.Core.Bool.{Bool, true, false, ◌&&◌}
use mathlib.Core.List.{List, [], ◌∷◌, ◌++◌, append_assoc, flatten}
use Prim.Native.Nat.{ℕ, zero, suc, ◌+◌, ◌≤◌}
use native.Mathlib.Omega.{arith}
use lib.Dec.{T, leb→le}
use Rattle.laws.proofs.Each.{each_append, each_implied}
use Rattle.laws.proofs.Every.{both_left, both_right}
use Rattle.laws.specs.Choice.{◌≤ᵇ◌}
use Rattle.laws.specs.Each.{Each, ◌&◌}
use Rattle.typed.specs.Rows.{bytes_of, count, rows, row_at}
use Rattle.typed.specs.Lines.{token, behind, unit_text, name_text, blank_row, blank_text, expected_text}
use Rattle.typed.specs.Reading.{stands}
use Rattle.typed.proofs.Promises.{blank_in_print, expected_in_print, blank_says_none}
use Rattle.texts.specs.Cutting.{newline, lines_of, blank, passed_over, begins_sheet}
use Rattle.texts.specs.Shown.{form_row, form_rows, form_text}
use Rattle.texts.specs.Steps.{row_step}
use Rattle.texts.specs.Texts.{beginning}
use Rattle.texts.specs.Typed.{kept_of, kept, Faultless, text_of, OneLine}
use Rattle.texts.specs.declared.Stage.TheVariants.{Between, InRow}
use Rattle.texts.proofs.meaning.Keeping.{Clear, faultless_clear}
use Rattle.texts.proofs.meaning.Sound.{begin_step_lem, other_step_lem}
use Rattle.texts.proofs.meaning.Writing.{lines_of_text, printed_line}

-- the comment of a row, and the lines of some rows from one on
abbrev comment : ℕ → List ℕ
comment i = bytes_of "# " ++ expected_text i

abbrev form_lines : ℕ → ℕ → List (List ℕ)
form_lines i zero = []
form_lines i (suc m) = comment i ∷ blank_text i ∷ form_lines (i + 1) m

abbrev first_comment : List ℕ
first_comment = bytes_of "# Put a figure or a word in the place of each _; the line above says which. A name may stand behind sheet."

two_lines : (a b rest : List ℕ) → (((a ++ newline ∷ []) ++ b) ++ newline ∷ []) ++ rest ≡ a ++ (newline ∷ (b ++ (newline ∷ rest)))
two_lines a b rest =
    append_assoc ((a ++ newline ∷ []) ++ b) (newline ∷ []) rest
    ∙ append_assoc (a ++ newline ∷ []) b (newline ∷ rest)
    ∙ append_assoc a (newline ∷ []) (b ++ (newline ∷ rest))

form_rows_lem : (i m : ℕ) → form_rows i m ≡ text_of (form_lines i m)
unfolding form_rows form_row text_of
form_rows_lem i zero = refl
form_rows_lem i (suc m) = rw (form_rows_lem (i + 1) m) (two_lines (comment i) (blank_text i) (text_of (form_lines (i + 1) m)))

form_text_lem : form_text ≡ text_of (first_comment ∷ bytes_of "sheet" ∷ form_lines 0 count)
unfolding form_text text_of
form_text_lem = rw (form_rows_lem 0 count)

-- tested by computing
from_space : List ℕ → Bool
from_space [] = true
from_space (b ∷ line) = (32 ≤ᵇ b) && from_space line

each_from_space : (line : List ℕ) → T (from_space line) → Each (λ (b : ℕ). 32 ≤ b) line
unfolding from_space
each_from_space [] t = tt
each_from_space (b ∷ line) t =
    (leb→le 32 b (both_left (32 ≤ᵇ b) (from_space line) t), each_from_space line (both_right (32 ≤ᵇ b) (from_space line) t))

first_line : OneLine first_comment
unfolding from_space
first_line = printed_line first_comment (each_from_space first_comment tt)

title_line : OneLine (bytes_of "sheet")
unfolding from_space
title_line = printed_line (bytes_of "sheet") (each_from_space (bytes_of "sheet") tt)

printed : (line : List ℕ) → Each (λ (b : ℕ). (32 ≤ b) × (b ≤ 126)) line → OneLine line
printed line p = printed_line line (each_implied (λ (b : ℕ). (32 ≤ b) × (b ≤ 126)) (λ (b : ℕ). 32 ≤ b) (λ b h. h.0) line p)

comment_line : (i : ℕ) → OneLine (comment i)
comment_line i =
    printed_line (comment i)
    (each_append (λ (b : ℕ). 32 ≤ b) (bytes_of "# ") (expected_text i) (omega arith & omega arith & tt)
    (each_implied (λ (b : ℕ). (32 ≤ b) × (b ≤ 126)) (λ (b : ℕ). 32 ≤ b) (λ b t. t.0) (expected_text i) (expected_in_print i)))

form_lines_lem : (i m : ℕ) → Each OneLine (form_lines i m)
form_lines_lem i zero = tt
form_lines_lem i (suc m) =
    (comment_line i, (printed (blank_text i) (blank_in_print i), form_lines_lem (i + 1) m))

-- the first kept lines of the form
lines_of_form : lines_of form_text ≡ first_comment ∷ bytes_of "sheet" ∷ form_lines 0 count
lines_of_form =
    rw form_text_lem
    (lines_of_text (first_comment ∷ bytes_of "sheet" ∷ form_lines 0 count) (first_line, (title_line, form_lines_lem 0 count)))

-- a line that begins with `#` is passed over, and the form's first row is not
passed : (line rest : List ℕ) (lines : List (List ℕ)) → line ≡ 35 ∷ rest → OneLine line → kept_of (line ∷ lines) ≡ kept_of lines
unfolding kept_of passed_over
passed line rest lines e one = rw (one.no_return, e)

stays : (line : List ℕ) (lines : List (List ℕ)) → OneLine line → passed_over line ≡ false → kept_of (line ∷ lines) ≡ line ∷ kept_of lines
unfolding kept_of
stays line lines one e = rw (one.no_return, e)

title_stays : passed_over (bytes_of "sheet") ≡ false
unfolding passed_over blank
title_stays = refl

row_stays : passed_over (blank_text 0) ≡ false
unfolding passed_over blank blank_text blank_row name_text unit_text behind token row_at rows flatten
row_stays = refl

row_begins_none : begins_sheet (blank_text 0) ≡ false
unfolding begins_sheet stands blank_text blank_row name_text unit_text behind token row_at rows flatten
row_begins_none = refl

title_begins : begins_sheet (bytes_of "sheet") ≡ true
unfolding begins_sheet stands
title_begins = refl

kept_form : kept form_text ≡ bytes_of "sheet" ∷ blank_text 0 ∷ kept_of (form_lines 1 27)
unfolding kept
kept_form =
    rw lines_of_form
    (passed first_comment _ (bytes_of "sheet" ∷ form_lines 0 count) refl first_line
    ∙ stays (bytes_of "sheet") (form_lines 0 count) title_line title_stays
    ∙ ap (λ (l : List (List ℕ)). bytes_of "sheet" ∷ l)
    (passed (comment 0) (32 ∷ expected_text 0) (blank_text 0 ∷ form_lines 1 27) refl (comment_line 0)
    ∙ stays (blank_text 0) (form_lines 1 27) (printed (blank_text 0) (blank_in_print 0)) row_stays))

no_clear : (figures : List ℕ) (lines : List (List ℕ)) → Clear Between figures (bytes_of "sheet" ∷ blank_text 0 ∷ lines) → ⊥
unfolding row_step
no_clear figures lines clear =
    let behind_title : Clear (InRow 0) figures (blank_text 0 ∷ lines) = rw (begin_step_lem Between figures (bytes_of "sheet") title_begins) at clear.1 in
    rw (other_step_lem (InRow 0) figures (blank_text 0) row_begins_none, blank_says_none 0 (omega arith)) at behind_title.0

pub form_refused : Faultless form_text → ⊥
form_refused none = no_clear beginning.figures (kept_of (form_lines 1 27)) (rw kept_form at ((faultless_clear form_text).0 none))
