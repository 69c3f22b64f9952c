-- What demand 3 compares: an easier stretch and a harder one, and their widths.
use Rattle.std.specs.Prelude.{◌≡◌, ℕ, ◌≤◌, Result, Ok, Err}
use Rattle.datum.specs.declared.AlongCurrent.{AlongCurrent}
use Rattle.width.specs.declared.Stretch.{Stretch}
use Rattle.width.specs.declared.Entries.{Entries}
use Rattle.width.specs.Width.{width_of}
use Rattle.width.specs.declared.WidthFault.{WidthFault}
use Rattle.width.specs.declared.WidthFault.TheVariants.{NoWidthEntry}

-- a stretch with another beam, wind and along current, and all else, its sailing depth too, as it was
abbrev pub changed : Stretch → ℕ → ℕ → AlongCurrent → Stretch
changed s beam wind along =
    record {
      beam = beam;
      draft = s.draft;
      handling = s.handling;
      wind = wind;
      along = along;
      aids = s.aids;
      bottom = s.bottom;
      cargo = s.cargo;
      left = s.left;
      right = s.right;
      ships = s.ships;
      lanes = s.lanes;
      sailing = s.sailing;
    }

-- a harder stretch: none of the three is less, and all else is equal
pub record Harder (easy hard : Stretch) : Type 0 where
  pub beam : easy.beam ≤ hard.beam
  pub wind : easy.wind ≤ hard.wind
  pub along : easy.along.0 ≤ hard.along.0
  pub equal : hard ≡ changed easy hard.beam hard.wind hard.along

-- no narrower: without entries where the other is, and else without them or at least as wide
pub data NoNarrower (easy hard : Stretch) : Result Entries WidthFault → Result Entries WidthFault → Type 0 where
  as_wide : {e h : Entries} → width_of easy e ≤ width_of hard h → NoNarrower easy hard (Ok e) (Ok h)
  refused : {a : Result Entries WidthFault} → NoNarrower easy hard a (Err NoWidthEntry)
