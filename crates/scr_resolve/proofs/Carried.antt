-- What each line keeps at its place is kept by all lines to the end.
use Rattle.std.proofs.Common.{◌≡◌, Bool, true, false, List, [], ◌∷◌, Option, Some, None, refl, subst}
use Rattle.std.specs.Option.{option_map_or}
use Rattle.std.specs.List.{list_all}
use Rattle.std.proofs.lemmas.Bool.{and_parts}
use Rattle.scr_parse.specs.declared.draft.Statement.{Statement}
use Rattle.scr_parse.specs.declared.draft.Numbered.{Numbered}
use Rattle.scr_parse.specs.declared.place.Place.{Place}
use Rattle.scr_parse.specs.declared.place.Place.TheVariants as p
use Rattle.scr_parse.specs.declared.place.Counts.{Counts}
use Rattle.scr_parse.specs.Limits.{is_statement_within, no_counts, counted, is_count_within}
use Rattle.scr_parse.specs.Nesting.{is_statement_shallow}
use Rattle.scr_parse.specs.Readable.{is_statement_spelt, is_line_readable, is_line_shallow, place_after, is_after, is_placed, are_counts_within, IsReadable}
use Rattle.scr_scope.specs.declared.known.Known.{Known}
use Rattle.scr_scope.specs.Meanings.{nothing}
use Rattle.scr_resolve.specs.Lines.{after}
use Rattle.scr_resolve.specs.Draft.{Resolves, no_more, one_more}
use Rattle.scr_resolve.proofs.Passes.{Passes, passes}

-- a line of a text that is read, at its place, without a fault
pub record IsLine (place next : Place) (counts : Counts) (known : Known) (line : Statement) : Type 0 where
  pub passes : Passes known line
  pub within : is_statement_within line ≡ true
  pub spelt : is_statement_spelt line ≡ true
  pub shallow : is_statement_shallow line ≡ true
  pub placed : place_after place line ≡ Some next
  pub few : is_count_within (counted counts line) ≡ true

-- what holds at the end
pub record AtEnd (P : Place → Counts → Known → Type 0) (last : Known) : Type 0 where
  pub counts : Counts
  pub holds : P p.After counts last

after_is : (place : Place) → is_after place ≡ true → place ≡ p.After
after_is p.After h = refl
after_is place h = absurd (cc)

found_next : (f : Place → Bool) (o : Option Place) → option_map_or f o false ≡ true → (next : Place) × (o ≡ Some next) × (f next ≡ true)
found_next f None h = absurd (cc)
found_next f (Some next) h = (next, refl, h)

abbrev pub Step : (Place → Counts → Known → Type 0) → Type 0
Step P = (place next : Place) (counts : Counts) (known : Known) (line : Statement) → IsLine place next counts known line → P place counts known
    → P next (counted counts line) (after known line)

all_carried : (P : Place → Counts → Known → Type 0) → Step P → (place : Place) (counts : Counts) (known last : Known) (lines : List Numbered) → Resolves known lines last
    → list_all is_line_readable lines ≡ true → list_all is_line_shallow lines ≡ true → is_placed place lines ≡ true → are_counts_within counts lines ≡ true
    → P place counts known → AtEnd P last
all_carried P step place counts known last [] no_more r s e c h = record { counts = counts; holds = subst (λ q. P q counts known) (after_is place e) h }
all_carried P step place counts known last (line ∷ more) (one_more f d) r s e c h =
    let next = found_next (λ next. is_placed next more) (place_after place line.statement) e in
    let readable = and_parts (is_line_readable line) (list_all is_line_readable more) r in
    let parts = and_parts (is_statement_within line.statement) (is_statement_spelt line.statement) readable.0 in
    let shallow = and_parts (is_line_shallow line) (list_all is_line_shallow more) s in
    let few = and_parts (is_count_within (counted counts line.statement)) (are_counts_within (counted counts line.statement) more) c in
    let here : IsLine place next.0 counts known line.statement = record {
      passes = passes known line.statement f;
      within = parts.0;
      spelt = parts.1;
      shallow = shallow.0;
      placed = next.1;
      few = few.0;
    } in
    all_carried P step next.0 (counted counts line.statement) (after known line.statement) last more d readable.1 shallow.1 next.2 few.1
    (step place next.0 counts known line.statement here h)

-- from before the first line
pub carried : (P : Place → Counts → Known → Type 0) → Step P → (lines : List Numbered) (last : Known) → Resolves nothing lines last → IsReadable lines
    → P p.Start no_counts nothing → AtEnd P last
carried P step lines last d r h = all_carried P step p.Start no_counts nothing last lines d r.statements r.shallow r.places r.counts h
