-- The table of fields, and when a field is bad (sections 1.1 and 1.2).
use Rattle.std.specs.Prelude.{◌≡◌, Bool, false, ◌||◌, ◌&&◌, not, List, [], ◌∷◌, ◌≢◌, ℕ, zero, suc, ◌-◌, ◌<◌, get_or, Option, Some, None, Result, Ok, Err}
use Rattle.std.specs.Bool.{beq}
use Rattle.laws.specs.Choice.{ifᵇ◌then◌else◌, ◌≤ᵇ◌, ◌<ᵇ◌, ◌=ᵇ◌}
use Rattle.laws.specs.First.{first_of}
use Rattle.sheet.specs.declared.Range.{Range}
use Rattle.sheet.specs.declared.FieldFault.{FieldFault}
use Rattle.sheet.specs.declared.FieldFault.TheVariants.{Outside, Disagrees}
use Rattle.sheet.specs.declared.fields.Field.{Field}

-- a field's bits, its least and its greatest value
infix 80 ◌bits◌upto◌
abbrev pub ◌bits◌upto◌ : ℕ → ℕ → ℕ → Field
wide bits least upto greatest = record { bits = wide; least = least; greatest = greatest }

-- the fields in the order of their numbers
unfoldable pub fields : List Field
fields =
    20 bits 1 upto 600000  -- 1 deadweight, t
    ∷ 12 bits 700 upto 2500  -- 2 draft, cm
    ∷ 16 bits 2000 upto 40000  -- 3 length, cm
    ∷ 13 bits 500 upto 7000  -- 4 beam, cm
    ∷ 4 bits 2 upto 12  -- 5 speed, knots
    ∷ 12 bits 0 upto 3000  -- 6 natural bed below chart datum, cm
    ∷ 2 bits 0 upto 3  -- 7 soil grade
    ∷ 9 bits 0 upto 300  -- 8 wave allowance z2, cm
    ∷ 10 bits 0 upto 900  -- 9 silting P, per mille a year
    ∷ 3 bits 0 upto 5  -- 10 dredging interval
    ∷ 2 bits 0 upto 2  -- 11 lanes
    ∷ 18 bits 1 upto 200000  -- 12 channel length, m
    ∷ 15 bits 0 upto 20000  -- 13 ships a day, hundredths
    ∷ 1 bits 0 upto 1  -- 14 water
    ∷ 2 bits 0 upto 2  -- 15 handling
    ∷ 7 bits 0 upto 99  -- 16 cross wind, knots
    ∷ 6 bits 0 upto 60  -- 17 cross current, tenths of a knot
    ∷ 6 bits 0 upto 60  -- 18 along current, tenths of a knot
    ∷ 11 bits 0 upto 1500  -- 19 wave height, cm
    ∷ 2 bits 0 upto 3  -- 20 aids
    ∷ 2 bits 0 upto 2  -- 21 bed
    ∷ 2 bits 0 upto 2  -- 22 cargo
    ∷ 1 bits 0 upto 1  -- 23 left bank
    ∷ 1 bits 0 upto 1  -- 24 right bank
    ∷ 8 bits 0 upto 180  -- 25 turn, degrees
    ∷ 15 bits 0 upto 20000  -- 26 radius, m
    ∷ 1 bits 0 upto 1  -- 27 level source
    ∷ 11 bits 0 upto 2000  -- 28 level plus 500, cm
    ∷ 5 bits 0 upto 30  -- 29 side slope
    ∷ []

-- how many fields there are, and how many groups of bits, the spare bits with them
abbrev pub count : ℕ
count = 29

abbrev pub groups : ℕ
groups = suc count

abbrev pub spare_bits : ℕ
spare_bits = 7

-- the field after the first k
unfoldable pub field_at : ℕ → Field
unfolding fields
field_at k = get_or fields k (0 bits 0 upto 0)

-- the bits of the group after the first k
unfoldable pub width : ℕ → ℕ
width k = ifᵇ k <ᵇ count then (field_at k).bits else spare_bits

unfoldable pub least : ℕ → ℕ
least k = (field_at k).least

unfoldable pub greatest : ℕ → ℕ
greatest k = (field_at k).greatest

-- what stands after the first k
abbrev pub nth : List ℕ → ℕ → ℕ
nth l k = get_or l k 0

-- a field by its number
abbrev pub field : List ℕ → ℕ → ℕ
field figures number = nth figures (number - 1)

-- The field after the first k is bad against another: turn and radius are both 0 or both not, else field 26 is bad;
-- source 0 demands that field 28 be 0, else it is bad.
unfoldable pub pair_bad : List ℕ → ℕ → Bool
pair_bad figures k =
    ifᵇ k =ᵇ 25
    then not (beq (field figures 25 =ᵇ 0) (field figures 26 =ᵇ 0))
    else (ifᵇ k =ᵇ 27 then (field figures 27 =ᵇ 0) && not (field figures 28 =ᵇ 0) else false)

-- the field after the first k is bad: outside its values, or against another
unfoldable pub bad_at : List ℕ → ℕ → Bool
bad_at figures k = (nth figures k <ᵇ least k) || ((greatest k <ᵇ nth figures k) || pair_bad figures k)

-- the same without the pairs
unfoldable pub outside_at : List ℕ → ℕ → Bool
outside_at figures k = (nth figures k <ᵇ least k) || (greatest k <ᵇ nth figures k)

-- the values of the field after the first k
unfoldable pub range_of : ℕ → Range
range_of k = record { least = least k; greatest = greatest k }

-- how the figure after the first k stands; past the fields nothing is wrong
unfoldable pub standing_of : List ℕ → ℕ → Result (Unit {0}) FieldFault
standing_of figures k =
    ifᵇ count ≤ᵇ k
    then Ok tt
    else (ifᵇ outside_at figures k then Err Outside else (ifᵇ pair_bad figures k then Err Disagrees else Ok tt))

-- the number of the first bad field, 0 where there is none
unfoldable pub first_bad : List ℕ → ℕ
first_bad figures = first_of (bad_at figures) count

-- such a number as the code has it, none for 0; here 0 stays, since the rows and `Valid` are said by it
abbrev pub named : ℕ → Option ℕ
named zero = None
named (suc k) = Some (suc k)

-- field number k of the figures is bad, as the definition says it
pub data Bad (figures : List ℕ) : ℕ → Type 0 where
  too_small : (k : ℕ) → k < count → nth figures k < least k → Bad figures (suc k)
  too_great : (k : ℕ) → k < count → greatest k < nth figures k → Bad figures (suc k)
  turn_without_radius : field figures 25 ≢ 0 → field figures 26 ≡ 0 → Bad figures 26
  radius_without_turn : field figures 25 ≡ 0 → field figures 26 ≢ 0 → Bad figures 26
  figure_without_source : field figures 27 ≡ 0 → field figures 28 ≢ 0 → Bad figures 28
