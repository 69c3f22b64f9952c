-- What the lines promise, in the definition's words (the printing program). Each proof stands where it is cited.
use mathlib.Core.Path.{◌≡◌}
use mathlib.Core.Bool.{Bool}
use mathlib.Core.List.{List, [], ◌∷◌, ◌++◌, map, Memᴰ}
use mathlib.Core.Logic.{◌↔◌}
use Prim.Native.Nat.{ℕ, ◌+◌, ◌*◌, ◌^◌, ◌≤◌, ◌<◌}
use lib.IntN.{ℤ, pos}
use lib.ListN.{length, take, drop}
use lib.Signed.{◌<ℤ◌}
use mir.Syntax.{w32}
use mir.Val.{SFits}
use Rattle.laws.specs.Choice.{◌≤ᵇ◌}
use Rattle.laws.proofs.Unique.{one_answer}
use Rattle.laws.specs.Each.{Each}
use Rattle.engine.specs.Numbers.{plain_count}
use Rattle.lines.specs.Decimals.{digits, value_of, Decimal, minus, count_text, number_text}
use Rattle.sheet.specs.CaseS.{sheet_s}
use Rattle.sheet.specs.Packing.{Bytes}
use Rattle.design.specs.Design.{design_of}
use Rattle.design.specs.Numbers.{number_count, numbers_of}
use Rattle.design.specs.Starred.{writing}
use Rattle.design.proofs.Promises.{all_numbers, numbers_fit}
use Rattle.lines.specs.Starred.{numbers_of_s, line_of_s}
use Rattle.lines.specs.Lines.{newline, spaced, levels_line, sheet_line, both_line, line_in, route_line, both_route_line, route_line_in, line_bytes, count_bytes, number_bytes, place_within, buffer_within, place_after, buffer_after, Put}
use Rattle.lines.specs.declared.Form.{Form}
use Rattle.lines.proofs.decimals.Meaning.{digits_value, digits_decimal, decimal_only}
use Rattle.lines.proofs.decimals.Texts.{count_text_one, number_text_one, minus_negative}
use Rattle.lines.proofs.wholes.OneLine.{sheet_line_one, both_line_one, levels_line_one, route_line_one, both_route_line_one}
use Rattle.lines.proofs.wholes.Longer.{longer_sheet_line, longer_route_line}
use Rattle.lines.proofs.wholes.Sizes.{count_at_most_20, sheet_line_size, both_line_size, levels_line_size, route_line_size, both_route_line_size}
use Rattle.lines.proofs.putting.Fitting.{same_place_exactly, buffer_unfit, before_kept, line_stands, line_behind, none_lost, after_kept, length_kept, place_within_lem, put_within}
use Rattle.lines.proofs.putting.Signs.{number_at_most}
use Rattle.lines.proofs.wholes.Sample.{first_line, numbers_s, line_s, last_line}

-- The digits of a number mean it.
pub digits_mean : (n : ℕ) → value_of (digits n) ≡ n
digits_mean = digits_value

-- They are digits from 0 to 9 with no leading zero but for 0 itself, and no others are that and mean the number.
pub in_decimal : (n : ℕ) → Decimal (digits n) n
in_decimal = digits_decimal

pub one_decimal : (n : ℕ) (ds : List ℕ) → Decimal ds n → ds ≡ digits n
one_decimal = decimal_only

-- Two numbers with the same text are equal.
pub count_of_text : (m n : ℕ) → count_text m ≡ count_text n → m ≡ n
count_of_text = count_text_one

pub number_of_text : (y z : ℤ) → number_text y ≡ number_text z → y ≡ z
number_of_text = number_text_one

-- A minus stands in a number's text exactly when it is negative.
pub minus_exactly : (z : ℤ) → Memᴰ minus (number_text z) ↔ (z <ℤ pos 0)
minus_exactly = minus_negative

-- Two lines with the same text say the same.
pub sheet_of_line : (i j : ℕ) (numbers others : List ℤ) → sheet_line i numbers ≡ sheet_line j others → (i ≡ j) × (numbers ≡ others)
sheet_of_line = sheet_line_one

-- of both engines where the sheets have as many numbers, as all have.
pub both_of_line : (i j : ℕ) (numbers others : List ℤ) (plain more : List ℕ) → length numbers ≡ length others
    → both_line i numbers plain ≡ both_line j others more → (i ≡ j) × (numbers ≡ others) × (plain ≡ more)
both_of_line = both_line_one

pub levels_of_line : (added missing refused a m r : ℕ) → levels_line added missing refused ≡ levels_line a m r
    → (added ≡ a) × (missing ≡ m) × (refused ≡ r)
levels_of_line = levels_line_one

pub route_of_line : (sheets answered class s a c : ℕ) → route_line sheets answered class ≡ route_line s a c
    → (sheets ≡ s) × (answered ≡ a) × (class ≡ c)
route_of_line = route_line_one

pub both_route_of_line : (sheets answered class agreed s a c g : ℕ) → both_route_line sheets answered class agreed ≡ both_route_line s a c g
    → (sheets ≡ s) × (answered ≡ a) × (class ≡ c) × (agreed ≡ g)
both_route_of_line = both_route_line_one

-- The line by both engines is the one by the worksheet alone, with the plain engine's numbers before its newline.
pub both_line_longer : (index : ℕ) (numbers : List ℤ) (plain : List ℕ)
    → (text : List ℕ) × (sheet_line index numbers ≡ text ++ newline ∷ []) × (both_line index numbers plain ≡ text ++ (spaced (map count_text plain) ++ newline ∷ []))
both_line_longer = longer_sheet_line

pub both_route_line_longer : (sheets answered class agreed : ℕ)
    → (text : List ℕ) × (route_line sheets answered class ≡ text ++ newline ∷ []) × (both_route_line sheets answered class agreed ≡ text ++ (spaced (count_text agreed ∷ []) ++ newline ∷ []))
both_route_line_longer = longer_route_line

-- No line is longer than its 240 bytes: a sheet's has at most 177, the first and the last at most 65; by both engines a sheet's has at most 240 and the last 86.
pub sheet_line_fits : (index : ℕ) (numbers : List ℤ) → index < 2 ^ 64 → length numbers ≡ number_count → Each (SFits w32) numbers
    → length (sheet_line index numbers) ≤ 12 * number_count + 21
sheet_line_fits = sheet_line_size

-- So has the line of a design.
pub design_line_fits : (index : ℕ) (bytes table : List ℕ) → index < 2 ^ 64 → Bytes bytes
    → length (sheet_line index (numbers_of (design_of bytes table))) ≤ 12 * number_count + 21
design_line_fits index bytes table held small =
    sheet_line_fits index (numbers_of (design_of bytes table)) held (all_numbers (design_of bytes table)) (numbers_fit bytes table small)

pub both_line_fits : (index : ℕ) (numbers : List ℤ) (plain : List ℕ) → index < 2 ^ 64 → length numbers ≡ number_count → Each (SFits w32) numbers
    → length plain ≡ plain_count → Each (λ (n : ℕ). n < 2 ^ 64) plain → length (both_line index numbers plain) ≤ line_bytes
both_line_fits = both_line_size

pub levels_line_fits : (added missing refused : ℕ) → added < 2 ^ 64 → missing < 2 ^ 64 → refused < 2 ^ 64
    → length (levels_line added missing refused) ≤ 65
levels_line_fits = levels_line_size

pub route_line_fits : (sheets answered class : ℕ) → sheets < 2 ^ 64 → answered < 2 ^ 64 → class < 2 ^ 64
    → length (route_line sheets answered class) ≤ 65
route_line_fits = route_line_size

pub both_route_line_fits : (sheets answered class agreed : ℕ) → sheets < 2 ^ 64 → answered < 2 ^ 64 → class < 2 ^ 64 → agreed < 2 ^ 64
    → length (both_route_line sheets answered class agreed) ≤ 86
both_route_line_fits sheets answered class agreed s a c g = both_route_line_size sheets answered class s a c agreed g

-- The same place is answered exactly when fewer than 240 bytes are left from it, and then nothing is written.
pub unfit_exactly : (line : List ℕ) (at : ℕ) (buffer : List ℕ) → 0 < length line → (place_after line at buffer ≡ at) ↔ (length buffer < at + line_bytes)
unfit_exactly = same_place_exactly line_bytes

pub unfit_changes_nothing : (line : List ℕ) (at : ℕ) (buffer : List ℕ) → length buffer < at + line_bytes → buffer_after line at buffer ≡ buffer
unfit_changes_nothing = buffer_unfit line_bytes

-- Otherwise the line stands at its place.
pub line_at_its_place : (line : List ℕ) (at : ℕ) (buffer : List ℕ) → length line ≤ line_bytes → at + line_bytes ≤ length buffer
    → take (length line) (drop at (buffer_after line at buffer)) ≡ line
line_at_its_place = line_stands line_bytes

-- It stands behind what stood before its place.
pub line_behind_text : (line : List ℕ) (at : ℕ) (buffer : List ℕ) → at + line_bytes ≤ length buffer
    → take (place_after line at buffer) (buffer_after line at buffer) ≡ take at buffer ++ line
line_behind_text = line_behind line_bytes

-- Every byte before the line and after it stays as it was, and none is added or lost.
pub before_untouched : (line : List ℕ) (at : ℕ) (buffer : List ℕ) → length line ≤ line_bytes → take at (buffer_after line at buffer) ≡ take at buffer
before_untouched = before_kept line_bytes

pub after_untouched : (line : List ℕ) (at : ℕ) (buffer : List ℕ) → length line ≤ line_bytes
    → drop (place_after line at buffer) (buffer_after line at buffer) ≡ drop (place_after line at buffer) buffer
after_untouched = after_kept line_bytes

pub as_long_as_before : (line : List ℕ) (at : ℕ) (buffer : List ℕ) → length line ≤ line_bytes → length (buffer_after line at buffer) ≡ length buffer
as_long_as_before = length_kept line_bytes

pub no_byte_lost : (line : List ℕ) (at : ℕ) (buffer : List ℕ) → length buffer ≤ length (buffer_after line at buffer)
no_byte_lost = none_lost line_bytes

-- The place after a line lies in the buffer.
pub next_place_within : (line : List ℕ) (at : ℕ) (buffer : List ℕ) → length line ≤ line_bytes → at ≤ length buffer
    → place_after line at buffer ≤ length buffer
next_place_within = place_within_lem line_bytes

-- A count where there is room for it: its text stands at the place, and the place after it is answered.
pub count_put : (count at : ℕ) (buffer later : List ℕ) (end : ℕ) → at + count_bytes ≤ length buffer → end ≡ place_within count_bytes (count_text count) at buffer
    → later ≡ buffer_within count_bytes (count_text count) at buffer → Put buffer at (count_text count) later end
count_put count at buffer later end h e f = put_within count_bytes (count_text count) at buffer h (e, f)

-- A signed number likewise.
pub number_put : (number : ℤ) (at : ℕ) (buffer later : List ℕ) (end : ℕ) → at + number_bytes ≤ length buffer → end ≡ place_within number_bytes (number_text number) at buffer
    → later ≡ buffer_within number_bytes (number_text number) at buffer → Put buffer at (number_text number) later end
number_put number at buffer later end h e f = put_within number_bytes (number_text number) at buffer h (e, f)

-- Bytes likewise.
pub bytes_put : (text : List ℕ) (at : ℕ) (buffer later : List ℕ) (end : ℕ) → at + length text ≤ length buffer → end ≡ place_within (length text) text at buffer
    → later ≡ buffer_within (length text) text at buffer → Put buffer at text later end
bytes_put text at buffer later end h e f = put_within (length text) text at buffer h (e, f)

-- A count of 64 bits has at most 20 digits.
pub count_fits : (count : ℕ) → count < 2 ^ 64 → length (count_text count) ≤ count_bytes
count_fits = count_at_most_20

-- A number of 32 bits has at most 10, and a sign.
pub number_fits : (number : ℤ) → SFits w32 number → length (number_text number) ≤ 11
number_fits = number_at_most

-- One answered place and one later content of the buffer, for each of the six calls.
pub decimal_place_unique : (count at : ℕ) (buffer : List ℕ) (r s : ℕ)
    → r ≡ place_within count_bytes (count_text count) at buffer → s ≡ place_within count_bytes (count_text count) at buffer → r ≡ s
decimal_place_unique count at buffer = one_answer

pub decimal_buffer_unique : (count at : ℕ) (buffer now later : List ℕ)
    → now ≡ buffer_within count_bytes (count_text count) at buffer → later ≡ buffer_within count_bytes (count_text count) at buffer → now ≡ later
decimal_buffer_unique count at buffer = one_answer

pub signed_place_unique : (number : ℤ) (at : ℕ) (buffer : List ℕ) (r s : ℕ)
    → r ≡ place_within number_bytes (number_text number) at buffer → s ≡ place_within number_bytes (number_text number) at buffer → r ≡ s
signed_place_unique number at buffer = one_answer

pub signed_buffer_unique : (number : ℤ) (at : ℕ) (buffer now later : List ℕ)
    → now ≡ buffer_within number_bytes (number_text number) at buffer → later ≡ buffer_within number_bytes (number_text number) at buffer → now ≡ later
signed_buffer_unique number at buffer = one_answer

pub bytes_place_unique : (text : List ℕ) (at : ℕ) (buffer : List ℕ) (r s : ℕ)
    → r ≡ place_within (length text) text at buffer → s ≡ place_within (length text) text at buffer → r ≡ s
bytes_place_unique text at buffer = one_answer

pub bytes_buffer_unique : (text : List ℕ) (at : ℕ) (buffer now later : List ℕ)
    → now ≡ buffer_within (length text) text at buffer → later ≡ buffer_within (length text) text at buffer → now ≡ later
bytes_buffer_unique text at buffer = one_answer

pub room_unique : (bytes at room : ℕ) (r s : Bool) → r ≡ (at + room ≤ᵇ bytes) → s ≡ (at + room ≤ᵇ bytes) → r ≡ s
room_unique bytes at room = one_answer

pub sheet_place_unique : (form : Form) (index : ℕ) (numbers : List ℤ) (plain : List ℕ) (at : ℕ) (buffer : List ℕ) (r s : ℕ)
    → r ≡ place_after (line_in form index numbers plain) at buffer → s ≡ place_after (line_in form index numbers plain) at buffer → r ≡ s
sheet_place_unique form index numbers plain at buffer = one_answer

pub sheet_buffer_unique : (form : Form) (index : ℕ) (numbers : List ℤ) (plain : List ℕ) (at : ℕ) (buffer now later : List ℕ)
    → now ≡ buffer_after (line_in form index numbers plain) at buffer → later ≡ buffer_after (line_in form index numbers plain) at buffer → now ≡ later
sheet_buffer_unique form index numbers plain at buffer = one_answer

pub levels_place_unique : (added missing refused at : ℕ) (buffer : List ℕ) (r s : ℕ)
    → r ≡ place_after (levels_line added missing refused) at buffer → s ≡ place_after (levels_line added missing refused) at buffer → r ≡ s
levels_place_unique added missing refused at buffer = one_answer

pub levels_buffer_unique : (added missing refused at : ℕ) (buffer now later : List ℕ)
    → now ≡ buffer_after (levels_line added missing refused) at buffer → later ≡ buffer_after (levels_line added missing refused) at buffer
    → now ≡ later
levels_buffer_unique added missing refused at buffer = one_answer

pub route_place_unique : (form : Form) (sheets answered class agreed at : ℕ) (buffer : List ℕ) (r s : ℕ)
    → r ≡ place_after (route_line_in form sheets answered class agreed) at buffer → s ≡ place_after (route_line_in form sheets answered class agreed) at buffer → r ≡ s
route_place_unique form sheets answered class agreed at buffer = one_answer

pub route_buffer_unique : (form : Form) (sheets answered class agreed at : ℕ) (buffer now later : List ℕ)
    → now ≡ buffer_after (route_line_in form sheets answered class agreed) at buffer → later ≡ buffer_after (route_line_in form sheets answered class agreed) at buffer
    → now ≡ later
route_buffer_unique form sheets answered class agreed at buffer = one_answer

-- The lines of the definition's sample: L 0 0 0, the numbers and the line of S's design over any table, R 1 1 0.
pub starred_levels : levels_line 0 0 0 ≡ 76 ∷ 32 ∷ 48 ∷ 32 ∷ 48 ∷ 32 ∷ 48 ∷ 10 ∷ []
starred_levels = first_line

pub starred_numbers : (table : List ℕ) → numbers_of (design_of (writing sheet_s) table) ≡ numbers_of_s
starred_numbers = numbers_s

pub starred_sheet : (table : List ℕ) → sheet_line 1 (numbers_of (design_of (writing sheet_s) table)) ≡ line_of_s
starred_sheet = line_s

pub starred_route : route_line 1 1 0 ≡ 82 ∷ 32 ∷ 49 ∷ 32 ∷ 49 ∷ 32 ∷ 48 ∷ 10 ∷ []
starred_route = last_line
