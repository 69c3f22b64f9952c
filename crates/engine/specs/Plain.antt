-- The plain engine: each cut from 1 to 3,000 is tried against the definition (section 4.6), and the first that meets it is taken.
-- Where none does, the rules of the columns say why (section 4.7). `Meaning.antt` has what it comes to, with no word of a search.
use Rattle.std.specs.Prelude.{ℕ, zero, suc, ◌+◌, Bool, false, Option, Some, None, Result, Ok, Err}
use Rattle.laws.specs.Choice.{ifᵇ◌then◌else◌, ◌≤ᵇ◌, ◌<ᵇ◌}
use Rattle.laws.specs.First.{first_from}
use Rattle.datum.specs.Datum.{below}
use Rattle.depth.specs.declared.Stretch.{Stretch}
use Rattle.depth.specs.declared.Column.{Column}
use Rattle.depth.specs.declared.Column.TheVariants.{A}
use Rattle.depth.specs.declared.DepthFault.{DepthFault}
use Rattle.depth.specs.declared.DepthFault.TheVariants.{NoSquatEntry, SiltOver, CutOver}
use Rattle.depth.specs.Squat.{none}
use Rattle.depth.specs.Depth.{z3, natural_of, column_of, sailing, z4, own_column}
use Rattle.engine.specs.declared.PlainFigures.{PlainFigures}

-- what was found: one more than a depth, or 0 for none
abbrev pub found : ℕ → Option ℕ
found zero = None
found (suc d) = Some d

-- the first of so many depths from d on that passes a test
unfoldable pub first_depth : (ℕ → Bool) → ℕ → ℕ → Option ℕ
first_depth passes d many = found (first_from passes d many)

-- a figure: over 3,000, or it falls in a column; where none was found, its silt is over 120
abbrev pub by_figure : ℕ → Option ℕ → Result Column DepthFault
by_figure natural (Some d) = ifᵇ 3000 <ᵇ d then Err CutOver else Ok (column_of natural d)
by_figure natural None = Err SiltOver

-- a column that fails gives its fault, and one whose figure falls elsewhere asks there
abbrev pub by_ruling : (Column → DepthFault) → Result Column DepthFault → DepthFault
by_ruling there (Err fault) = fault
by_ruling there (Ok c) = there c

module _ (q : Stretch) where
  -- a cut d is deep enough in a column: at least s + z4, the z4 of d itself
  unfoldable pub deep : Column → ℕ → Bool
  deep c d = sailing q c + z4 q c d ≤ᵇ d

  -- a column serves a cut d: it has an entry, z4 is at most 120, and d is deep enough
  unfoldable pub serves : Column → ℕ → Bool
  serves c d = ifᵇ none ≤ᵇ z3 q c then false else (ifᵇ 120 <ᵇ z4 q c d then false else deep c d)

  -- a cut meets the definition: the column in which it falls serves it
  unfoldable pub meets : ℕ → Bool
  meets d = serves (own_column q d) d

  -- the first cut from 1 to 3,000 that does
  unfoldable pub first_cut : Option ℕ
  first_cut = first_depth meets 1 3000

  -- the figure of a column, where its z4 is at most 120: the first d from s to s + 120 that is deep enough
  unfoldable pub first_figure : Column → Option ℕ
  first_figure c = first_depth (deep c) (sailing q c) 121

  -- the rules of a column in their order: an entry, silt of at most 120, a figure of at most 3,000; and then where that falls
  unfoldable pub ruling_of : Column → Result Column DepthFault
  ruling_of c = ifᵇ none ≤ᵇ z3 q c then Err NoSquatEntry else by_figure (natural_of q) (first_figure c)

  -- from a column on, the fault of the first of so many that fails
  unfoldable pub reason_from : ℕ → Column → DepthFault
  reason_from zero c = CutOver
  reason_from (suc many) c = by_ruling (reason_from many) (ruling_of c)

  -- why no cut meets the definition: from column A on; no figure falls back, so that three columns are enough
  unfoldable pub reason_of : DepthFault
  reason_of = reason_from 3 A

  -- the figures of a cut: itself, and the s of its column
  unfoldable pub figures_at : ℕ → PlainFigures
  figures_at d = record { cut = below d; sailing = below (sailing q (own_column q d)) }

  abbrev pub by_search : Option ℕ → Result PlainFigures DepthFault
  by_search (Some d) = Ok (figures_at d)
  by_search None = Err reason_of

  -- the depth of a stretch
  unfoldable pub plain_depth : Result PlainFigures DepthFault
  plain_depth = by_search first_cut
