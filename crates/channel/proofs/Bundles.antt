-- Sheets with their names, one after another: of bytes by the law of sheets taken, of a text by what is found; and what was written and what stands
-- is the text of the worksheets, by the law of lines in a buffer.
use Rattle.std.specs.Prelude.{Option, Some, None, Result}
use mathlib.Core.Path.{◌≡◌, refl, sym, ap, ap₂, subst, ◌∙◌}
use mathlib.Core.Bool.{false, true}
use mathlib.Core.List.{List, [], ◌∷◌, ◌++◌}
use Prim.Native.Nat.{ℕ, ◌≤◌}
use lib.ListN.{length}
use Rattle.design.specs.Design.{design_at}
use Rattle.gauge.specs.Table.{empty_table}
use Rattle.gauge.specs.Designing.{level_steps}
use Rattle.gauge.specs.declared.LevelSteps.{LevelSteps}
use Rattle.lines.specs.Lines.{place_within, buffer_within}
use Rattle.record.specs.declared.Counts.{Counts}
use Rattle.texts.specs.Texts.{next_of, all_of, beginning}
use Rattle.texts.specs.Typed.{all_from}
use Rattle.texts.specs.declared.Cursor.{Cursor}
use Rattle.texts.specs.declared.Found.{Found}
use Rattle.worksheet.specs.Framing.{page_bytes}
use Rattle.worksheet.specs.Routes.{none_yet, with_stretch, route_head}
use Rattle.worksheet.specs.declared.Greatest.{Greatest}
use Rattle.channel.specs.Input.{ToItsEnd}
use Rattle.channel.specs.Output.{Lines, place_for, standing, with_line, with_lines, written}
use Rattle.channel.specs.Route.{no_sheets, with_sheet}
use Rattle.channel.specs.Printing.{file_block, FileAdded}
use Rattle.channel.specs.Text.{record_table, record_counts}
use Rattle.channel.specs.Typing.{is_over, any_fault, lines_at}
use Rattle.channel.specs.Worksheets.{Named, unnamed, name_of, bytes_for, named_from, named_of, text_by, Progress, progress, at_first, one_put, all_put, texts_of, route_of, greatest_of, head_put, foot_of, foot_put, worksheet_lines, worksheets_text, WorksheetsOut, Accepted, FaultlessOut, OverRecord}
use Rattle.channel.specs.declared.output.Out.{Out}
use Rattle.channel.specs.declared.route.Route.{Route}
use Rattle.channel.specs.declared.worksheets.Pass.{Pass}
use Rattle.channel.specs.declared.worksheets.Pass.TheVariants.{Pages, Stretches}
use Rattle.channel.specs.declared.worksheets.Source.{Source}
use Rattle.channel.specs.declared.worksheets.Source.TheVariants.{Typed}
use Rattle.channel.specs.declared.worksheets.State.{State}
use Rattle.channel.proofs.Blocks.{brought}
use Rattle.channel.proofs.Faults.{one_found, none_found, all_left, none_told_exactly}
use Rattle.channel.proofs.Lines.{all_lines, lines_in_two}
use Rattle.channel.proofs.Taking.{Putting}
use Rattle.design.specs.declared.Reason.{Reason}
use Rattle.design.specs.declared.Figures.{Figures}

module _ (pass : Pass) (steps : LevelSteps) where
  -- one sheet, from its parts
  pub one_more : (name sheet : List ℕ) (p : Progress) (answer : Result Figures Reason) (route : Route) (greatest : Greatest) (at after : ℕ) (later : List ℕ)
      → answer ≡ design_at sheet steps.read → route ≡ with_sheet p.route answer → greatest ≡ with_stretch p.greatest answer
      → at ≡ place_for page_bytes p.lines.buffer p.lines.at
      → after ≡ place_within page_bytes (text_by pass steps route.sheets name sheet answer) at p.lines.buffer
      → later ≡ buffer_within page_bytes (text_by pass steps route.sheets name sheet answer) at p.lines.buffer
      → ◌≡◌ {A = Progress} (record { route = route; greatest = greatest; lines = record { at = after; buffer = later } }) (one_put pass steps name sheet p)
  unfolding one_put with_line
  one_more name sheet p answer route greatest at after later a r g e f h = rw (h, f, e, g, r, a)

  -- bytes, which have no names
  pub unnamed_in_two : (first second : List (List ℕ)) (p : Progress)
      → all_put pass steps (unnamed (first ++ second)) p ≡ all_put pass steps (unnamed second) (all_put pass steps (unnamed first) p)
  unfolding unnamed all_put
  unnamed_in_two [] second p = refl
  unnamed_in_two (sheet ∷ first) second p = unnamed_in_two first second (one_put pass steps [] sheet p)

  pub none_unnamed : (p : Progress) → all_put pass steps (unnamed []) p ≡ p
  unfolding unnamed all_put
  none_unnamed p = refl

  abbrev pub bundles : Putting Progress
  bundles = record { put = λ (sheets : List (List ℕ)) (p : Progress). all_put pass steps (unnamed sheets) p; none = none_unnamed; in_turn_lem = unnamed_in_two }

  pub one_unnamed : (sheet : List ℕ) (p : Progress) → one_put pass steps [] sheet p ≡ all_put pass steps (unnamed (sheet ∷ [])) p
  unfolding unnamed all_put
  one_unnamed sheet p = refl

  -- a text, by what is found
  module _ (text : List ℕ) (cursor : Cursor) (found : Found) (f : found ≡ next_of text cursor) where
    pub named_more : (p q : Progress) → is_over found.event ≡ false → q ≡ one_put pass steps (name_of text cursor.at) (bytes_for found.cursor.figures) p
        → all_put pass steps (named_from text found.cursor (all_from text found.cursor)) q
        ≡ all_put pass steps (named_from text cursor (all_from text cursor)) p
    unfolding named_from all_put
    named_more p q e put = rw (one_found text cursor found f e, put)

    pub none_named : (p : Progress) → is_over found.event ≡ true → p ≡ all_put pass steps (named_from text cursor (all_from text cursor)) p
    unfolding named_from all_put
    none_named p e = rw (none_found text cursor found f e)

  pub all_named : (text : List ℕ) (cursor : Cursor) (p : Progress) → cursor ≡ beginning
      → all_put pass steps (named_from text cursor (all_from text cursor)) p ≡ all_put pass steps (named_of text) p
  unfolding named_of
  all_named text cursor p e = ap₂ (λ (c : Cursor) (all : List Found). all_put pass steps (named_from text c all) p) e (all_left text cursor e)

  -- what all sheets put: the route, its greatest figures, and their texts
  pub put_apart : (items : List Named) (p : Progress)
      → all_put pass steps items p
      ≡ record { route = route_of steps p.route items; greatest = greatest_of steps p.greatest items; lines = with_lines page_bytes (texts_of pass steps p.route items) p.lines }
  unfolding all_put route_of greatest_of texts_of with_lines one_put
  put_apart [] p = refl
  put_apart (item ∷ items) p = put_apart items (one_put pass steps item.name item.bytes p)

-- the pages, the head of the route, its stretches and its end
module _ (steps : LevelSteps) (counts : Counts) (items : List Named) where
  abbrev pub in_turn : Lines → Lines
  in_turn l = foot_put counts (all_put Stretches steps items (at_first (head_put (all_put Pages steps items (at_first l)).lines)))

  all_in_turn : (l : Lines) → in_turn l ≡ with_lines page_bytes (worksheet_lines steps counts items) l
  unfolding worksheet_lines foot_put head_put with_lines
  all_in_turn l =
      rw (put_apart Pages steps items (at_first l), put_apart Stretches steps items (at_first (with_line page_bytes (route_head 1) (with_lines page_bytes (texts_of Pages steps no_sheets items) l))))
      (sym (lines_in_two page_bytes (texts_of Pages steps no_sheets items) (route_head 1 ∷ (texts_of Stretches steps no_sheets items ++ foot_of counts (route_of steps no_sheets items) (greatest_of steps none_yet items) ∷ [])) l
      ∙ lines_in_two page_bytes (texts_of Stretches steps no_sheets items) (foot_of counts (route_of steps no_sheets items) (greatest_of steps none_yet items) ∷ [])
      (with_line page_bytes (route_head 1) (with_lines page_bytes (texts_of Pages steps no_sheets items) l))))

  pub whole_text : (buffer later : List ℕ) (rest : ℕ) → page_bytes ≤ length buffer
      → ◌≡◌ {A = Lines} (record { at = rest; buffer = later }) (in_turn (record { at = 0; buffer = buffer }))
      → ◌≡◌ {A = List ℕ} (written page_bytes (worksheet_lines steps counts items) (record { at = 0; buffer = buffer }) ++ standing (record { at = rest; buffer = later })) (worksheets_text steps counts items)
  unfolding worksheets_text
  whole_text buffer later rest space put =
      let first : Lines = record { at = 0; buffer = buffer } in
      ap (λ (l : Lines). written page_bytes (worksheet_lines steps counts items) first ++ standing l) (put ∙ all_in_turn first)
      ∙ all_lines page_bytes (worksheet_lines steps counts items) first space

  -- before the first sheet
  begun : (s : State) (out : Out) (buffer : List ℕ) → s.out ≡ out → s.route ≡ no_sheets → s.greatest ≡ none_yet → progress s buffer ≡ at_first (lines_at out buffer)
  begun s out buffer o r g = rw (o, r, g)

  -- the parts as the program puts them
  pub in_turn_lem : (first pages again stretches : State) (out head : Out) (b0 b1 b2 b3 : List ℕ) (last : Lines)
      → (first.out ≡ out) × ((first.route ≡ no_sheets) × (first.greatest ≡ none_yet)) → progress pages b1 ≡ all_put Pages steps items (progress first b0)
      → lines_at head b2 ≡ head_put (lines_at pages.out b1) → (again.out ≡ head) × ((again.route ≡ no_sheets) × (again.greatest ≡ none_yet))
      → progress stretches b3 ≡ all_put Stretches steps items (progress again b2) → last ≡ foot_put counts (progress stretches b3)
      → last ≡ in_turn (lines_at out b0)
  in_turn_lem first pages again stretches out head b0 b1 b2 b3 last f pg h a st l =
      let at-pages = pg ∙ ap (all_put Pages steps items) (begun first out b0 f.0 f.1.0 f.1.1) in
      let at_head = h ∙ ap (λ (p : Progress). head_put p.lines) at-pages in
      l ∙ ap (foot_put counts) (st ∙ ap (all_put Stretches steps items) (begun again head b2 a.0 a.1.0 a.1.1 ∙ ap at_first at_head))

-- of an input that is accepted, and over a record
module _ (source : Source) (input buffer later : List ℕ) where
  pub accepted : (steps : LevelSteps) (counts : Counts) (text : Option ℕ) → Accepted source input → WorksheetsOut source steps counts input buffer text later
      → FaultlessOut source steps counts input buffer text later
  accepted steps counts (Some rest) a out = (a, out)
  accepted steps counts None a out = tt

  pub over_file : (table : List ℕ) (steps : LevelSteps) (counts : Counts) (text : Option ℕ) → ToItsEnd file_block (FileAdded empty_table counts table)
      → steps ≡ level_steps table → FaultlessOut source steps counts input buffer text later → OverRecord source input buffer text later
  over_file table steps counts None read e out = tt
  over_file table steps counts (Some rest) read e out =
      brought file_block (FileAdded empty_table counts table)
      (λ (file : List ℕ). FaultlessOut source (level_steps (record_table file)) (record_counts file) input buffer (Some rest) later)
      (λ file f. subst (λ (st : LevelSteps). FaultlessOut source st (record_counts file) input buffer (Some rest) later) (e ∙ ap level_steps f.added)
      (subst (λ (ct : Counts). FaultlessOut source steps ct input buffer (Some rest) later) f.counted out))
      read

-- a typed text in which no fault was told
pub accepted_text : (text : List ℕ) → any_fault (all_of text) ≡ false → Accepted Typed text
accepted_text text e = (none_told_exactly text).0 e
