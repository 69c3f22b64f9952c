-- The fields of a sheet, filled row by row: what a row's figure changes, what it leaves, and when the fields are fine.
use Rattle.std.specs.Prelude.{Ok, Err}
use mathlib.Core.Path.{◌≡◌, refl, ap, sym, ◌∙◌}
use mathlib.Core.Bool.{Bool, true, false, ◌||◌, ◌&&◌, not, beq}
use mathlib.Core.List.{List}
use Prim.Native.Nat.{ℕ, ◌+◌, ◌-◌, ◌/◌, ◌%◌, ◌≤◌, ◌<◌}
use native.Mathlib.Omega.{arith}
use borrow.Author.Tests.{lt-ltb, lt-leb, ltb-true, ltb-false, eqb-true, eqb-false}
use lib.Dec.{ltb, eqb}
use lib.ListN.{length, set, length-set}
use lib.Seq.{get_or-set_same, get_or-set_other}
use Rattle.laws.proofs.First.{is_none, none_is}
use Rattle.laws.proofs.Never.{never}
use Rattle.laws.specs.Choice.{ifᵇ◌then◌else◌, ◌<ᵇ◌, ◌=ᵇ◌}
use Rattle.sheet.specs.Fields.{fields, field_at, nth, least, greatest, outside_at, pair_bad, bad_at, standing_of, first_bad, count as field_count}
use Rattle.sheet.specs.declared.FieldFault.TheVariants.{Outside, Disagrees}
use Rattle.typed.specs.Rows.{count, level_row}
use Rattle.texts.specs.Shown.{row_figure}
use Rattle.texts.specs.Steps.{stored, field_of}

-- a row before the level's, the level's, and the one behind it
pub data RowCase (k : ℕ) : Type 0 where
  before_level : k < level_row → RowCase k
  at_level : k ≡ level_row → RowCase k
  behind_level : k ≡ 27 → RowCase k

pub row_case : (k : ℕ) → k < count → RowCase k
row_case k h = go (ltb k level_row) (eqb k level_row) refl refl
  where
    go : (a b : Bool) → ltb k level_row ≡ a → eqb k level_row ≡ b → RowCase k
    go true b p q = before_level (ltb-true k level_row p)
    go false true p q = at_level (eqb-true k level_row q)
    go false false p q =
        let l : level_row ≤ k = ltb-false k level_row p in
        let d : k ≡ level_row → ⊥ = eqb-false k level_row q in
        behind_level (omega arith)

-- how many fields the first k rows have
abbrev pub filled : ℕ → ℕ
filled k = k + k / 27

-- the field of a row is the last of those
pub field_of_lem : (k : ℕ) → k < count → field_of k + 1 ≡ filled (k + 1)
unfolding field_of
field_of_lem k h = go (row_case k h)
  where
    go : RowCase k → (ifᵇ k <ᵇ level_row then k else (ifᵇ k <ᵇ count then k + 1 else field_count)) + 1 ≡ filled (k + 1)
    go (before_level l) = rw (lt-ltb k level_row l) (omega arith)
    go (at_level e) = rw e
    go (behind_level e) = rw e

pub stored_before_level : (figures : List ℕ) (k n : ℕ) → k < level_row → stored figures k n ≡ set figures k n
unfolding stored
stored_before_level figures k n l = rw (lt-ltb k level_row l)

module _ (figures : List ℕ) (k n : ℕ) (h : k < count) where
  pub stored_length : length (stored figures k n) ≡ length figures
  unfolding stored
  stored_length = go (row_case k h)
    where
      go : RowCase k → length (stored figures k n) ≡ length figures
      go (before_level l) = rw (stored_before_level figures k n l) (length-set figures k n)
      go (at_level e) = rw (e, length-set, length-set)
      go (behind_level e) = rw (e, length-set)

  -- the fields of the rows before stay
  pub stored_before : (j : ℕ) → j < filled k → nth (stored figures k n) j ≡ nth figures j
  unfolding stored
  stored_before j l = go (row_case k h)
    where
      go : RowCase k → nth (stored figures k n) j ≡ nth figures j
      go (before_level b) = rw (stored_before_level figures k n b) (get_or-set_other figures k j n 0 (λ (e : j ≡ k). omega arith))
      go (at_level e) =
          rw (e, get_or-set_other (set figures 26 (ifᵇ n =ᵇ 0 then 0 else 1)) 27 j (n - 1) 0 (λ (d : j ≡ 27). omega arith))
          (get_or-set_other figures 26 j (ifᵇ n =ᵇ 0 then 0 else 1) 0 (λ (d : j ≡ 26). omega arith))
      go (behind_level e) = rw e (get_or-set_other figures 28 j n 0 (λ (d : j ≡ 28). omega arith))

-- two lists of figures agree in their first fields
abbrev pub Agree : ℕ → List ℕ → List ℕ → Type 0
Agree n a b = (j : ℕ) → j < n → nth a j ≡ nth b j

-- what is tested of a field looks no further than the field
pub bad_same : (a b : List ℕ) (k : ℕ) → Agree (k + 1) a b → bad_at a k ≡ bad_at b k
unfolding bad_at pair_bad
bad_same a b k same = rw (same k (omega arith)) (ap (λ (t : Bool). (nth b k <ᵇ least k) || ((greatest k <ᵇ nth b k) || t)) (go (eqb k 25) (eqb k 27) refl refl))
  where
    go : (s t : Bool) → eqb k 25 ≡ s → eqb k 27 ≡ t
        → (ifᵇ s then not (beq (nth a 24 =ᵇ 0) (nth a 25 =ᵇ 0)) else (ifᵇ t then (nth a 26 =ᵇ 0) && not (nth a 27 =ᵇ 0) else false))
        ≡ (ifᵇ s then not (beq (nth b 24 =ᵇ 0) (nth b 25 =ᵇ 0)) else (ifᵇ t then (nth b 26 =ᵇ 0) && not (nth b 27 =ᵇ 0) else false))
    go true t p q =
        let e : k ≡ 25 = eqb-true k 25 p in
        rw (same 24 (omega arith), same 25 (omega arith))
    go false true p q =
        let e : k ≡ 27 = eqb-true k 27 q in
        rw (same 26 (omega arith), same 27 (omega arith))
    go false false p q = refl

-- the figure of a row looks no further than the row's fields
pub row_same : (a b : List ℕ) (k : ℕ) → k < count → Agree (filled (k + 1)) a b → row_figure a k ≡ row_figure b k
unfolding row_figure
row_same a b k h same = go (row_case k h)
  where
    go : RowCase k → row_figure a k ≡ row_figure b k
    go (before_level l) = rw (lt-ltb k level_row l) (same k (omega arith))
    go (at_level e) = rw (e, same 26 (omega arith), same 27 (omega arith))
    go (behind_level e) = rw e (same 28 (omega arith))

-- a field stands well exactly when it is not bad
pub not_bad_fine : (figures : List ℕ) (k : ℕ) → k < field_count → bad_at figures k ≡ false → standing_of figures k ≡ Ok tt
unfolding standing_of bad_at outside_at
not_bad_fine figures k h e = rw (lt-leb field_count k h) (go (nth figures k <ᵇ least k) (greatest k <ᵇ nth figures k) (pair_bad figures k) e)
  where
    go : (a b p : Bool) → (a || (b || p)) ≡ false → (ifᵇ a || b then Err Outside else (ifᵇ p then Err Disagrees else Ok (tt {0}))) ≡ Ok (tt {0})
    go true b p e = never cc
    go false true p e = never cc
    go false false true e = never cc
    go false false false e = refl

pub fine_not_bad : (figures : List ℕ) (k : ℕ) → k < field_count → standing_of figures k ≡ Ok tt → bad_at figures k ≡ false
unfolding standing_of bad_at outside_at
fine_not_bad figures k h e = go (nth figures k <ᵇ least k) (greatest k <ᵇ nth figures k) (pair_bad figures k) (rw (lt-leb field_count k h) at e)
  where
    go : (a b p : Bool) → (ifᵇ a || b then Err Outside else (ifᵇ p then Err Disagrees else Ok (tt {0}))) ≡ Ok (tt {0}) → (a || (b || p)) ≡ false
    go true b p e = never cc
    go false true p e = never cc
    go false false true e = never cc
    go false false false e = refl

-- a field that is not bad is within its values
pub not_bad_within : (figures : List ℕ) (k : ℕ) → bad_at figures k ≡ false → nth figures k ≤ greatest k
unfolding bad_at
not_bad_within figures k e = ltb-false (greatest k) (nth figures k) (go (nth figures k <ᵇ least k) (greatest k <ᵇ nth figures k) (pair_bad figures k) e)
  where
    go : (a b p : Bool) → (a || (b || p)) ≡ false → b ≡ false
    go true b p e = never cc
    go false true p e = never cc
    go false false p e = refl

-- the level's field is at most 2,000
pub level_within : (figures : List ℕ) → bad_at figures 27 ≡ false → nth figures 27 ≤ 2000
unfolding greatest field_at fields
level_within figures e = not_bad_within figures 27 e

-- the level's figure from its two fields
level_back : (v : List ℕ) (n : ℕ) → nth v 26 ≡ (ifᵇ n =ᵇ 0 then 0 else 1) → nth v 27 ≡ n - 1 → nth v 27 ≤ 2000 → row_figure v level_row ≡ n
unfolding row_figure
level_back v n source level small = rw (source, level) (go (eqb n 0) refl)
  where
    go : (b : Bool) → eqb n 0 ≡ b → (ifᵇ (ifᵇ b then 0 else 1) =ᵇ 0 then 0 else (n - 1) % 65536 + 1) ≡ n
    go true p = sym (eqb-true n 0 p)
    go false p =
        let some : n ≡ 0 → ⊥ = eqb-false n 0 p in
        let few : n - 1 ≤ 2000 = rw level at small in
        omega arith

module _ (figures : List ℕ) (n : ℕ) (long : length figures ≡ field_count) where
  pub source_stored : nth (stored figures level_row n) 26 ≡ (ifᵇ n =ᵇ 0 then 0 else 1)
  unfolding stored
  source_stored =
      get_or-set_other (set figures 26 (ifᵇ n =ᵇ 0 then 0 else 1)) 27 26 (n - 1) 0 (λ e. omega arith)
      ∙ get_or-set_same figures 26 (ifᵇ n =ᵇ 0 then 0 else 1) 0 (omega arith)

  pub level_stored : nth (stored figures level_row n) 27 ≡ n - 1
  unfolding stored
  level_stored = get_or-set_same (set figures 26 (ifᵇ n =ᵇ 0 then 0 else 1)) 27 (n - 1) 0 (rw length-set (omega arith))

  pub last_stored : nth (stored figures 27 n) 28 ≡ n
  unfolding stored
  last_stored = get_or-set_same figures 28 n 0 (omega arith)

-- the source of a level is 0 or 1, and tested against no other field
source_fine : (v : List ℕ) (b : Bool) → nth v 26 ≡ (ifᵇ b then 0 else 1) → bad_at v 26 ≡ false
unfolding bad_at pair_bad least greatest field_at fields
source_fine v true e = rw e
source_fine v false e = rw e

module _ (figures : List ℕ) (k n : ℕ) (h : k < count) (long : length figures ≡ field_count) where
  -- the figure of the row that was filled, where it is fine, is the one it was filled with
  pub stored_figure : bad_at (stored figures k n) (field_of k) ≡ false → row_figure (stored figures k n) k ≡ n
  unfolding row_figure field_of
  stored_figure fine = go (row_case k h) fine
    where
      go : RowCase k → bad_at (stored figures k n) (field_of k) ≡ false → row_figure (stored figures k n) k ≡ n
      go (before_level l) fine = rw (lt-ltb k level_row l, stored_before_level figures k n l) (get_or-set_same figures k n 0 (omega arith))
      go (at_level e) fine =
          rw e (level_back (stored figures level_row n) n (source_stored figures n long) (level_stored figures n long)
          (level_within (stored figures level_row n) (rw e at fine)))
      go (behind_level e) fine = rw e (last_stored figures n long)

  -- with the row that was filled, all fields so far are fine
  pub stored_fine : ((j : ℕ) → j < filled k → bad_at figures j ≡ false) → bad_at (stored figures k n) (field_of k) ≡ false
      → (j : ℕ) → j < filled (k + 1) → bad_at (stored figures k n) j ≡ false
  stored_fine past here j l = go (ltb j (filled k)) (eqb j (field_of k)) refl refl
    where
      go : (a b : Bool) → ltb j (filled k) ≡ a → eqb j (field_of k) ≡ b → bad_at (stored figures k n) j ≡ false
      go true b p q =
          let l : j < filled k = ltb-true j (filled k) p in
          bad_same (stored figures k n) figures j (λ i m. stored_before figures k n h i (omega arith)) ∙ past j l
      go false true p q = rw (eqb-true j (field_of k) q) here
      go false false p q =
          let m : filled k ≤ j = ltb-false j (filled k) p in
          let d : j ≡ field_of k → ⊥ = eqb-false j (field_of k) q in
          let f : field_of k + 1 ≡ filled (k + 1) = field_of_lem k h in
          let e : k ≡ level_row = omega arith in
          let i : j ≡ 26 = omega arith in
          rw (e, i) (source_fine (stored figures level_row n) (n =ᵇ 0) (source_stored figures n long))

-- figures of which no field is bad
pub none_bad_first : (figures : List ℕ) → ((j : ℕ) → j < field_count → bad_at figures j ≡ false) → first_bad figures ≡ 0
unfolding first_bad
none_bad_first figures fine = none_is (bad_at figures) field_count fine

pub first_none_bad : (figures : List ℕ) → first_bad figures ≡ 0 → (j : ℕ) → j < field_count → bad_at figures j ≡ false
unfolding first_bad
first_none_bad figures e = is_none (bad_at figures) field_count e
