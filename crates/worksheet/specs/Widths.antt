-- The width: each item with its band, the sum and its one rounding (section 15.8).
use Rattle.std.specs.Prelude.{ℕ, ◌+◌, ◌*◌, List, [], ◌∷◌, ◌++◌}
use Rattle.blanks.specs.declared.Figure.{Figure}
use Rattle.blanks.specs.declared.Figure.TheVariants.{Count, Word}
use Rattle.datum.specs.declared.CrossCurrent.{CrossCurrent}
use Rattle.lanes.specs.Lanes.{lane_count}
use Rattle.lanes.specs.declared.Lanes.{Lanes}
use Rattle.lanes.specs.declared.Lanes.TheVariants.{One, Two}
use Rattle.typed.specs.Rows.{bytes_of}
use Rattle.width.specs.Width.{items_of, lane_and_added, tenths_of, width_of}
use Rattle.width.specs.declared.Entries.{Entries}
use Rattle.width.specs.declared.Items.{Items}
use Rattle.width.specs.declared.SpeedBand.{SpeedBand}
use Rattle.width.specs.declared.SpeedBand.TheVariants.{Moderate, Slow}
use Rattle.width.specs.declared.Stretch.{Stretch}
use Rattle.width.specs.declared.Water.{Water}
use Rattle.width.specs.declared.Water.TheVariants.{Open, Sheltered}
use Rattle.worksheet.specs.Filling.{with, worded}
use Rattle.worksheet.specs.Items.{item_line}
use Rattle.worksheet.specs.Words.{words, handling_words, wind_words, cross_words, along_words, wave_words, aids_words, bed_words, depth_words, cargo_words, banks_words, passing_words, traffic_words, times_words}

-- the words of the head, by their numbers
abbrev pub head_words : List ℕ
head_words = words "moderate" ++ (words "slow" ++ (words "open" ++ words "sheltered"))

abbrev pub band_word : SpeedBand → Figure
band_word Moderate = Word 0
band_word Slow = Word 1

abbrev pub water_word : Water → Figure
water_word Open = Word 2
water_word Sheltered = Word 3

-- the beam, the speed and the water, and the head of the items
unfoldable pub width_head : ℕ → Entries → List ℕ
width_head beam e =
    worded head_words
    "WIDTH in tenths of the beam, %0 cm: %0 speed, %0 water\n  annex A  item            band                      tenths         cm\n"
    (Count beam ∷ band_word e.band ∷ water_word e.water ∷ [])

-- the items of the ship and the weather
unfoldable pub ship_items : Stretch → Items → CrossCurrent → ℕ → List ℕ
ship_items q i cross wave =
    (((item_line (bytes_of "  WBM      lane            ") (handling_words q.handling) i.lane q.beam
    ++ item_line (bytes_of "  (b)      cross wind      ") (wind_words q.wind) i.wind q.beam)
    ++ item_line (bytes_of "  (c)      cross current   ") (cross_words cross) i.cross q.beam)
    ++ item_line (bytes_of "  (d)      along current   ") (along_words q.along) i.along q.beam)
    ++ item_line (bytes_of "  (e)      wave            ") (wave_words wave) i.wave q.beam

-- those of the aids, the bed, the depth and the cargo
unfoldable pub bed_items : Stretch → Items → Water → List ℕ
bed_items q i water =
    ((item_line (bytes_of "  (f)      aids            ") (aids_words q.aids) i.aids q.beam
    ++ item_line (bytes_of "  (g)      bed             ") (bed_words q.draft q.sailing q.bottom) i.bed q.beam)
    ++ item_line (bytes_of "  (h)      sailing depth   ") (depth_words water q.draft q.sailing) i.depth q.beam)
    ++ item_line (bytes_of "  (i)      cargo           ") (cargo_words q.cargo) i.cargo q.beam

-- the tenths of the nine, once or twice
unfoldable pub nine_tenths : Items → Lanes → ℕ
nine_tenths i lanes = lane_and_added i * lane_count lanes

-- the nine once or twice, and the banks
unfoldable pub lane_items : Stretch → Items → List ℕ
lane_items q i =
    item_line (bytes_of "           the nine above  ") (times_words q.lanes) (nine_tenths i q.lanes) q.beam
    ++ item_line (bytes_of "  WBr WBg  banks           ") (banks_words q.left q.right) i.banks q.beam

-- what two lanes need between them
unfoldable pub between_items : Stretch → Items → SpeedBand → List ℕ
between_items q i band =
    item_line (bytes_of "  Wp       passing         ") (passing_words band) i.passing q.beam
    ++ item_line (bytes_of "  Wp       traffic         ") (traffic_words q.ships) i.traffic q.beam

-- its tenths
abbrev pub between_tenths : Lanes → Items → ℕ
between_tenths One i = 0
between_tenths Two i = i.passing + i.traffic

abbrev pub passing_items : Lanes → Stretch → Items → SpeedBand → List ℕ
passing_items One q i band = []
passing_items Two q i band = between_items q i band

-- the items of a width, in their order
unfoldable pub items_text : Stretch → Entries → Items → CrossCurrent → ℕ → List ℕ
items_text q e i cross wave =
    ((ship_items q i cross wave ++ bed_items q i e.water) ++ lane_items q i) ++ passing_items q.lanes q i e.band

-- all tenths, and the width that they come to
unfoldable pub width_sum : Stretch → Entries → Items → List ℕ
width_sum q e i =
    with "  sum %0 tenths x beam %0 cm / 10, rounded up: width %0 cm\n" (Count (tenths_of q.lanes i) ∷ Count q.beam ∷ Count (width_of q e) ∷ [])

unfoldable pub width_part : Stretch → Entries → CrossCurrent → ℕ → List ℕ
width_part q e cross wave = (width_head q.beam e ++ items_text q e (items_of q e) cross wave) ++ width_sum q e (items_of q e)
