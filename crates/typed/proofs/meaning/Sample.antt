-- The lines of S, what is expected in each row and the empty form, computed over the whole table; and some lines more.
use Rattle.std.specs.Prelude.{Err}
use mathlib.Core.Path.{◌≡◌, refl, ap, ◌∙◌}
use mathlib.Core.List.{List, [], ◌∷◌, ◌++◌, map, flatten, map-append}
use Prim.Native.Nat.{ℕ, ◌/◌, ◌%◌, ◌≤◌}
use native.Mathlib.Omega.{arith}
use lib.ListN.{get_or, take, drop}
use Rattle.lines.specs.Decimals.{digits_within, digits, byte_of, count_text}
use Rattle.lines.proofs.decimals.Digits.{digits_more}
use Rattle.sheet.specs.Fields.{fields, field_at, least, greatest, range_of}
use Rattle.sheet.specs.Sheets.{bed_figure, figures_of}
use Rattle.typed.specs.Rows.{bytes_of, rows, row_at, values_of}
use Rattle.typed.specs.Lines.{token, tenths_text, hundredths_text, level_text, word_text, figure_text, behind, unit_text, name_text, front_text, row_text, line_text, blank_row, blank_text, words_from, span_text, lines_text, expected_text}
use Rattle.typed.specs.Reading.{stands, in_number, digit_on, digits_read, guessed, entry_on, entry_by, entry_of}
use Rattle.typed.specs.declared.EntryFault.TheVariants.{NoFigure}
use Rattle.typed.proofs.meaning.Starred.{figures_of_s, texts_from, in_each_row, lines_of_s, expected_texts, blank_lines}

pub lines_s : in_each_row (λ i. line_text i (get_or figures_of_s i 0)) ≡ map bytes_of lines_of_s
unfolding bed_figure figures_of line_text row_text front_text name_text figure_text unit_text behind token count_text digits digits_within tenths_text hundredths_text level_text word_text row_at rows flatten
lines_s = refl

-- The digits of a large figure are found one at a time: computed at once, its divisions, as many as the figure, are nested too deep.
count_more : (n : ℕ) → 10 ≤ n → count_text n ≡ count_text (n / 10) ++ byte_of (n % 10) ∷ []
unfolding count_text
count_more n h = rw (digits_more n h) (map-append byte_of (digits (n / 10)) (n % 10 ∷ []))

count_most : (n : ℕ) (text : List ℕ) → 10 ≤ n → count_text (n / 10) ≡ text → count_text n ≡ text ++ byte_of (n % 10) ∷ []
count_most n text h e = rw (count_more n h, e)

count_6000 : count_text 6000 ≡ bytes_of "6000"
unfolding count_text digits digits_within
count_6000 = refl

count_600000 : count_text 600000 ≡ bytes_of "600000"
count_600000 = count_most 600000 (bytes_of "60000") (omega arith) (count_most 60000 (bytes_of "6000") (omega arith) count_6000)

count_2000 : count_text 2000 ≡ bytes_of "2000"
unfolding count_text digits digits_within
count_2000 = refl

count_200000 : count_text 200000 ≡ bytes_of "200000"
count_200000 = count_most 200000 (bytes_of "20000") (omega arith) (count_most 20000 (bytes_of "2000") (omega arith) count_2000)

-- the two rows that have such a figure
of_ends : (a b c d : List ℕ) → a ≡ c → b ≡ d → (a ++ bytes_of " .. ") ++ b ≡ (c ++ bytes_of " .. ") ++ d
of_ends a b c d p q = rw (p, q)

deadweight_least : row_text (row_at 0) 1 ≡ bytes_of "deadweight 1 t"
unfolding row_text front_text name_text figure_text unit_text behind token count_text digits digits_within row_at rows flatten
deadweight_least = refl

deadweight_parts : row_text (row_at 0) 600000 ≡ (bytes_of "deadweight " ++ count_text 600000) ++ bytes_of " t"
unfolding row_text front_text name_text figure_text unit_text behind token row_at rows flatten
deadweight_parts = refl

deadweight_greatest : row_text (row_at 0) 600000 ≡ bytes_of "deadweight 600000 t"
deadweight_greatest = deadweight_parts ∙ ap (λ (s : List ℕ). (bytes_of "deadweight " ++ s) ++ bytes_of " t") count_600000

pub deadweight_expected : expected_text 0 ≡ bytes_of "deadweight 1 t .. deadweight 600000 t"
unfolding expected_text lines_text span_text values_of range_of least greatest field_at fields row_at rows
deadweight_expected =
    of_ends (row_text (row_at 0) 1) (row_text (row_at 0) 600000) (bytes_of "deadweight 1 t") (bytes_of "deadweight 600000 t")
    deadweight_least deadweight_greatest

channel_least : row_text (row_at 11) 1 ≡ bytes_of "channel-length 1 m"
unfolding row_text front_text name_text figure_text unit_text behind token count_text digits digits_within row_at rows flatten
channel_least = refl

channel_parts : row_text (row_at 11) 200000 ≡ (bytes_of "channel-length " ++ count_text 200000) ++ bytes_of " m"
unfolding row_text front_text name_text figure_text unit_text behind token row_at rows flatten
channel_parts = refl

channel_greatest : row_text (row_at 11) 200000 ≡ bytes_of "channel-length 200000 m"
channel_greatest = channel_parts ∙ ap (λ (s : List ℕ). (bytes_of "channel-length " ++ s) ++ bytes_of " m") count_200000

channel_expected : expected_text 11 ≡ bytes_of "channel-length 1 m .. channel-length 200000 m"
unfolding expected_text lines_text span_text values_of range_of least greatest field_at fields row_at rows
channel_expected =
    of_ends (row_text (row_at 11) 1) (row_text (row_at 11) 200000) (bytes_of "channel-length 1 m") (bytes_of "channel-length 200000 m")
    channel_least channel_greatest

-- the rows between and behind them
between_expected : texts_from expected_text 1 10 ≡ map bytes_of (take 10 (drop 1 expected_texts))
unfolding expected_text lines_text span_text words_from values_of range_of least greatest field_at fields row_text front_text name_text figure_text unit_text behind token count_text digits digits_within tenths_text hundredths_text level_text word_text row_at rows flatten
between_expected = refl

behind_expected : texts_from expected_text 12 16 ≡ map bytes_of (drop 12 expected_texts)
unfolding expected_text lines_text span_text words_from values_of range_of least greatest field_at fields row_text front_text name_text figure_text unit_text behind token count_text digits digits_within tenths_text hundredths_text level_text word_text row_at rows flatten
behind_expected = refl

together : (a c : List ℕ) (b d : List (List ℕ)) (a' c' : List ℕ) (b' d' : List (List ℕ))
    → a ≡ a' → b ≡ b' → c ≡ c' → d ≡ d' → a ∷ (b ++ c ∷ d) ≡ a' ∷ (b' ++ c' ∷ d')
together a c b d a' c' b' d' p q r s = rw (p, q, r, s)

pub expected_texts_lem : in_each_row expected_text ≡ map bytes_of expected_texts
expected_texts_lem =
    together (expected_text 0) (expected_text 11) (texts_from expected_text 1 10) (texts_from expected_text 12 16)
    (bytes_of "deadweight 1 t .. deadweight 600000 t") (bytes_of "channel-length 1 m .. channel-length 200000 m")
    (map bytes_of (take 10 (drop 1 expected_texts))) (map bytes_of (drop 12 expected_texts))
    deadweight_expected between_expected channel_expected behind_expected

pub blank_lines_lem : in_each_row blank_text ≡ map bytes_of blank_lines
unfolding blank_text blank_row name_text unit_text behind token row_at rows flatten
blank_lines_lem = refl

-- half a knot, a level below 0 and one off the record, and a word with a unit
pub tenths_line : line_text 17 5 ≡ bytes_of "along-current 0.5 kn"
unfolding line_text row_text front_text name_text figure_text unit_text behind token count_text digits digits_within tenths_text row_at rows flatten
tenths_line = refl

pub below_line : line_text 26 489 ≡ bytes_of "level given -12 cm"
unfolding line_text row_text front_text name_text figure_text unit_text behind token count_text digits digits_within level_text row_at rows flatten
below_line = refl

pub record_line : line_text 26 0 ≡ bytes_of "level record"
unfolding line_text row_text front_text name_text figure_text unit_text behind token level_text row_at rows flatten
record_line = refl

pub word_line : line_text 9 1 ≡ bytes_of "interval 0.33 yr"
unfolding line_text row_text front_text name_text figure_text unit_text behind token word_text row_at rows flatten
word_line = refl

-- the definition's line that is turned away: tenths without their digit
pub no_tenths : entry_of 16 (bytes_of "cross-current 1 kn") ≡ (Err NoFigure)
unfolding entry_of entry_by entry_on guessed digits_read in_number digit_on stands front_text name_text figure_text token count_text digits digits_within tenths_text row_at rows flatten
no_tenths = refl
