-- A text put at the front of an array is what stands there: the words that are looked for, and what a line says of a row.
use Rattle.std.specs.Prelude.{Ok, Err}
use mathlib.Core.Path.{◌≡◌, sym, ◌∙◌}
use mathlib.Core.Bool.{Bool, true, false}
use mathlib.Core.List.{List}
use Prim.Native.Nat.{ℕ, ◌+◌, ◌-◌, ◌*◌, ◌≤◌}
use native.Mathlib.Omega.{arith}
use borrow.Author.Tests.{eq-eqb, ne_eqb}
use borrow.Author.Rules.{part_to_end}
use lib.ListN.{length, take, drop}
use Rattle.lines.specs.Lines.{Put}
use Rattle.lines.proofs.putting.Placing.{head_stands, put_on}
use Rattle.typed.specs.Lines.{token, word_text, figure_text, unit_text, name_text, front_text, row_text}
use Rattle.typed.specs.Reading.{stands, same, word_stands, guessed, entry_on, entry_by}
use Rattle.typed.specs.declared.EntryFault.TheVariants.{NoName, NoFigure, NoUnit}
use Rattle.typed.specs.declared.table.Row.{Row}
use Rattle.typed.proofs.reading.Standing.{no_longer}

pub front_is : {buffer text later : List ℕ} {end : ℕ} → Put buffer 0 text later end → end ≤ length buffer → take end later ≡ text
front_is {buffer} {text} {end = end} p h =
    let e : end ≡ 0 + length text = omega arith in
    rw (e, p.holds) (head_stands buffer 0 text (omega arith))

-- the word of a code
module _ (words bytes : List ℕ) (j : ℕ) {word : List ℕ} (p : word ≡ token (take (16 * j + 16 - 16 * j) (drop (16 * j) words))) where
  word_is : word ≡ word_text words j
  unfolding word_text
  word_is = let e : 16 * j + 16 - 16 * j ≡ 16 = omega arith in rw e at p

  pub no_word : length word ≡ 0 → false ≡ word_stands words bytes j
  unfolding word_stands
  no_word none = rw (← word_is, eq-eqb (length word) 0 none)

  pub word_by : {r : Bool} → (length word ≡ 0 → ⊥) → r ≡ stands word bytes → r ≡ word_stands words bytes j
  unfolding word_stands
  word_by some e = rw (← word_is, ne_eqb (length word) 0 some) e

-- What a line says of a row, by each way out. First the name is put and compared.
module _ (row : Row) (line : List ℕ) {zeros named : List ℕ} {name : ℕ} (p : Put zeros 0 (name_text row) named name) (held : name ≤ length zeros)
    {there : Bool} (asked : there ≡ stands (take name named) line) where
  name_asked : there ≡ stands (name_text row) line
  name_asked = rw (front_is p held) at asked

  pub no_name : there ≡ false → (Err NoName) ≡ entry_by row line
  unfolding entry_by
  no_name e = rw (sym name_asked ∙ e)

  module _ (has : there ≡ true) where
    pub name_within : name ≤ length line
    name_within = omega (arith, p.after, no_longer (name_text row) line (sym name_asked ∙ has))

    -- then the figure that is guessed from what stands behind the name
    module _ {n : ℕ} (guess : n ≡ guessed row (take (length line - name) (drop name line))) {fronted : List ℕ} {front : ℕ}
        (q : Put named name (figure_text row n) fronted front) (held₁ : front ≤ length zeros)
        {there₁ : Bool} (asked₁ : there₁ ≡ stands (take front fronted) line) where
      entry_on_lem : entry_on row line n ≡ entry_by row line
      unfolding entry_by
      entry_on_lem =
          let long : name ≡ length (name_text row) = omega (arith, p.after) in
          let behind : n ≡ guessed row (drop (length (name_text row)) line) = rw (part_to_end line name, long) at guess in
          rw (sym name_asked ∙ has, behind)

      front_put : Put zeros 0 (front_text row n) fronted front
      unfolding front_text
      front_put = put_on p q held

      front_asked : there₁ ≡ stands (front_text row n) line
      front_asked = rw (front_is front_put held₁) at asked₁

      pub no_figure : there₁ ≡ false → (Err NoFigure) ≡ entry_by row line
      unfolding entry_on
      no_figure e = rw (← entry_on_lem, sym front_asked ∙ e)

      -- and last the unit
      module _ (has₁ : there₁ ≡ true) {whole : List ℕ} {end : ℕ} (s : Put fronted front (unit_text row n) whole end) (held₂ : end ≤ length zeros)
          {there₂ : Bool} (asked₂ : there₂ ≡ same (take end whole) line) where
        row_put : Put zeros 0 (row_text row n) whole end
        unfolding row_text
        row_put = put_on front_put s held₁

        row_asked : there₂ ≡ same (row_text row n) line
        row_asked = rw (front_is row_put held₂) at asked₂

        pub no_unit : there₂ ≡ false → (Err NoUnit) ≡ entry_by row line
        unfolding entry_on
        no_unit e = rw (← entry_on_lem, sym front_asked ∙ has₁, sym row_asked ∙ e)

        pub figure_read : there₂ ≡ true → Ok n ≡ entry_by row line
        unfolding entry_on
        figure_read e = rw (← entry_on_lem, sym front_asked ∙ has₁, sym row_asked ∙ e)
