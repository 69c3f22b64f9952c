-- The worksheet ends at the least number that meets a rule, for any rule `Fit column number` that only gets harder from column to column and any
-- line that tells the least number that fits its column: each number that is good lies at the column tried or past it.
use Rattle.std.specs.Prelude.{Result, Ok, Err}
use mathlib.Core.Path.{◌≡◌, refl, sym, subst}
use mathlib.Core.Bool.{Bool, true, false}
use mathlib.Core.List.{List, [], ◌∷◌}
use Prim.Native.Nat.{ℕ, zero, suc, ◌+◌, ◌≤◌, ◌<◌, zero-le}
use native.Mathlib.Omega.{arith}
use Rattle.laws.proofs.Never.{never}
use Rattle.laws.specs.Choice.{ifᵇ◌then◌else◌}
use Rattle.laws.specs.Extremes.{Least}
use Rattle.depth.specs.declared.Column.{Column}
use Rattle.depth.specs.declared.Column.TheVariants.{A}
use Rattle.depth.specs.declared.Try.{Try}
use Rattle.depth.specs.declared.Finding.TheVariants.{Stays, Moves}
use Rattle.depth.specs.Squat.{column_number}
use Rattle.depth.specs.Worksheet.{finding_of, is_move, moves_on, walk, last_try, Forward}
use Rattle.depth.proofs.squat.Columns.{column_most}
use Rattle.depth.proofs.walks.Tries.{last_later, forward_later}
use Rattle.depth.specs.declared.Finding.{Finding}
use Rattle.depth.specs.declared.DepthFault.{DepthFault}

module _ (own : ℕ → Column) (Fit : Column → ℕ → Type 0) (Good : ℕ → Type 0) (line : Column → Try) where
  -- what a column's line tells, by its finding
  abbrev pub Tells : Column → Try → Result Finding DepthFault → Type 0
  Tells c t (Ok Stays) = Least (Fit c) t.figure.0 × Good t.figure.0 × (own t.figure.0 ≡ c)
  Tells c t (Ok Moves) = Least (Fit c) t.figure.0 × (t.falls_in ≡ own t.figure.0) × (column_number t.falls_in ≡ column_number c → ⊥)
  Tells c t (Err fault) = (d : ℕ) → Fit c d → Good d → ⊥

  -- what the last try says, by its finding: it has the least good number, of its own column; or there is none; and it never moves
  abbrev pub Ends : Try → Result Finding DepthFault → Type 0
  Ends t (Ok Stays) = Least Good t.figure.0 × (t ≡ line (own t.figure.0))
  Ends t (Ok Moves) = ⊥
  Ends t (Err fault) = (d : ℕ) → Good d → ⊥

  -- the tries of a walk: they go forward, and the last says what it must
  pub record Walked (l : List Try) : Type 0 where
    pub ends : Ends (last_try l) (finding_of (last_try l))
    pub forward : Forward l

  module _ (own-up : (d e : ℕ) → d ≤ e → column_number (own d) ≤ column_number (own e))
      (down : (c c' : Column) (d : ℕ) → column_number c ≤ column_number c' → Fit c' d → Fit c d)
      (fits : (d : ℕ) → Good d → Fit (own d) d)
      (is-line : (c : Column) → (line c).column ≡ c)
      (tells : (c : Column) → Tells c (line c) (finding_of (line c))) where
    -- every good number lies at column c or past it, and so does every number that fits c
    record Begun (c : Column) : Type 0 where
      pub good_past : (d : ℕ) → Good d → column_number c ≤ column_number (own d)
      pub fit_past : (d : ℕ) → Fit c d → column_number c ≤ column_number (own d)

    -- the least number of a column is below every good one
    under : (c : Column) (d e : ℕ) → Begun c → Least (Fit c) d → Good e → d ≤ e
    under c d e b l g = l.least e (down c (own e) e (b.good_past e g) (fits e g))

    next : (c : Column) (d : ℕ) → Begun c → Least (Fit c) d → Begun (own d)
    next c d b l = record {
      good_past = λ e g. own-up d e (under c d e b l g);
      fit_past = λ e f. own-up d e (l.least e (down c (own d) e (b.fit_past d l.holds) f));
    }

    -- where a column moves, the worksheet begins again in a later one
    moved : (c : Column) → Begun c → Tells c (line c) (Ok Moves) → Begun (line c).falls_in × (column_number c < column_number (line c).falls_in)
    moved c b t =
        let h : column_number c ≤ column_number (own (line c).figure.0) = b.fit_past _ t.0.holds in
        let e : column_number (line c).falls_in ≡ column_number (own (line c).figure.0) = rw t.1 in
        let other = t.2 in
        (subst Begun (sym t.1) (next c _ b t.0), omega arith)

    -- a column that ends the worksheet
    stopped : (c : Column) → Begun c → (f : Result Finding DepthFault) → is_move f ≡ false → Tells c (line c) f → Ends (line c) f
    stopped c b (Ok Stays) e t = (record { holds = t.1; least = λ d g. under c _ d b t.0 g }, rw t.2)
    stopped c b (Ok Moves) e t = never cc
    stopped c b (Err fault) e t = λ d g. t d (down c (own d) d (b.good_past d g) (fits d g)) g

    ended : (c : Column) → Begun c → moves_on (line c) ≡ false → Ends (line c) (finding_of (line c))
    unfolding moves_on
    ended c b e = stopped c b (finding_of (line c)) e (tells c)

    moving : (c : Column) (f : Result Finding DepthFault) → is_move f ≡ true → Tells c (line c) f → Tells c (line c) (Ok Moves)
    moving c (Ok Stays) e t = never cc
    moving c (Ok Moves) e t = t
    moving c (Err fault) e t = never cc

    goes_on : (c : Column) → Begun c → moves_on (line c) ≡ true → Begun (line c).falls_in × (column_number c < column_number (line c).falls_in)
    unfolding moves_on
    goes_on c b e = moved c b (moving c (finding_of (line c)) e (tells c))

    one : (c : Column) → Begun c → moves_on (line c) ≡ false → Walked (line c ∷ [])
    one c b e = record { ends = ended c b e; forward = tt }

    more : (often : ℕ) (c c' : Column) → column_number c < column_number c' → Walked (walk line often c') → Walked (line c ∷ walk line often c')
    more often c c' h w = record {
      ends = rw (last_later (line c) line often c') w.ends;
      forward = forward_later (line c) line often c' (rw (is-line c, is-line c') h) w.forward;
    }

    walked : (often : ℕ) (c : Column) → Begun c → 2 ≤ often + column_number c → Walked (walk line often c)
    unfolding walk
    walked zero c b h = go (moves_on (line c)) refl
      where
        go : (t : Bool) → moves_on (line c) ≡ t → Walked (line c ∷ [])
        go true e = absurd (omega (arith, (goes_on c b e).1, column_most (line c).falls_in))
        go false e = one c b e
    walked (suc often) c b h =
        go (moves_on (line c)) refl (λ b' lt. walked often (line c).falls_in b' (omega arith))
      where
        go : (t : Bool) → moves_on (line c) ≡ t
            → (Begun (line c).falls_in → column_number c < column_number (line c).falls_in → Walked (walk line often (line c).falls_in))
            → Walked (line c ∷ (ifᵇ t then walk line often (line c).falls_in else []))
        go true e r = let g = goes_on c b e in more often c (line c).falls_in g.1 (r g.0 g.1)
        go false e r = one c b e

    pub walk_right : Walked (walk line 2 A)
    walk_right = walked 2 A (record { good_past = λ d g. zero-le; fit_past = λ d f. zero-le }) (omega arith)
