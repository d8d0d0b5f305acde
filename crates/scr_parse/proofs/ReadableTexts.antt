-- The statements of a text that is read are readable.
use Rattle.std.proofs.Common.{◌≡◌, ℕ, ◌≤◌, ℤ, pos, Bool, true, false, ◌&&◌, List, [], ◌∷◌, length, refl, ap, subst, ◌∙◌, inl, inr, arith}
use Rattle.std.specs.Prelude.{if◌then◌else◌, int_le, nat_le, count_by, Option, Some, None}
use Rattle.std.specs.Option.{option_map_or, option_and_then}
use Rattle.std.specs.List.{list_all}
use Rattle.std.proofs.lemmas.Bool.{and_parts, leb-true}
use Rattle.std.proofs.lemmas.Bool.Decides.{nat_tests}
use Rattle.std.proofs.lemmas.Int.{ints}
use Rattle.std.proofs.lemmas.List.Folds.{list_all-map}
use Rattle.scr_tokens.specs.declared.word.Token.{Token}
use Rattle.scr_tokens.specs.declared.word.Word.{Word}
use Rattle.scr_tokens.specs.declared.word.Word.TheVariants as w
use Rattle.scr_tokens.specs.declared.word.Sign.TheVariants as s
use Rattle.scr_tokens.specs.declared.word.Keyword.TheVariants as keyword
use Rattle.scr_tokens.specs.Tokens.{IsLexed}
use Rattle.scr_spec.specs.declared.table.Heading.{Heading}
use Rattle.scr_spec.proofs.Passing.{and_true}
use Rattle.scr_spec.specs.NameSpace.{is_name}
use Rattle.scr_spec.specs.Types.{is_narrow}
use Rattle.scr_parse.specs.declared.draft.DraftKind.{DraftKind}
use Rattle.scr_parse.specs.declared.draft.DraftValue.{DraftValue}
use Rattle.scr_parse.specs.declared.draft.DraftPrim.{DraftPrim}
use Rattle.scr_parse.specs.declared.draft.DraftCell.{DraftCell}
use Rattle.scr_parse.specs.declared.draft.Statement.{Statement}
use Rattle.scr_parse.specs.declared.draft.Statement.TheVariants as st
use Rattle.scr_parse.specs.declared.draft.Numbered.{Numbered}
use Rattle.scr_parse.specs.declared.place.Place.{Place}
use Rattle.scr_parse.specs.declared.place.Place.TheVariants as p
use Rattle.scr_parse.specs.declared.place.Position.{Position}
use Rattle.scr_parse.specs.Words.{words, IsNatural}
use Rattle.scr_parse.specs.Limits.{is_bar, is_nested_within, is_negated_within, is_line_within, is_statement_within, counted, is_count_within}
use Rattle.scr_parse.specs.Nesting.{is_prim_shallow, is_cell_shallow, is_statement_shallow}
use Rattle.scr_parse.specs.Events.{event_of}
use Rattle.scr_parse.specs.Forms.{Bounds, bounds, TypeRest, range, labels, ConstRest, constant, Initial, initial, Typed, plain, with_init, VariableRest, variable, ClassRest, class, HeadRest, without_class, over_class, RowRest, without_modes, with_modes, FromRest, transition, expects_row, Form, specification, type, const, monitored, mode_class, term, controlled, nat, condition_head, event_head, modes_head, row, values, from_to, end, finish}
use Rattle.scr_parse.specs.Text.{Says, blank, says, Reads, no_line, line_more, TextReads}
use Rattle.scr_parse.specs.Readable.{is_line_shallow, are_some, is_side_spelt, is_event_spelt, is_cell_spelt, is_kind_spelt, is_value_spelt, is_statement_spelt, is_line_readable, row_heading, is_cell_of, place_after, is_after, is_placed, are_counts_within, IsReadable, ReadsReadable}
use Rattle.scr_parse.proofs.SoundWords.{is_word_sound, words_sound}
use Rattle.scr_parse.proofs.Nestings.{IsOutside, past, event_deep, cells_deep, names_outside}
use Rattle.scr_parse.proofs.ReadableParts.{AreSmall, first, behind, natural_narrow, names_small, braced_small, int_small, kind_small, value_small, event_small, cells_small, sides_small, cells_heading}

-- ---- what stands behind the first word of a line

bounds_small : {n : ℕ} {from : List Word} {lo hi : ℤ} → Bounds from lo hi → AreSmall n from → (is_narrow lo ≡ true) × (is_narrow hi ≡ true)
bounds_small (bounds i j) k = let one = int_small i k in (one.0, (int_small j (behind one.1)).0)

type_small : {n : ℕ} {from : List Word} {statement : Statement} → TypeRest from statement → AreSmall n from → is_statement_spelt statement ≡ true
type_small (range {name = name} {from = from} {lo = lo} {hi = hi} d) k =
    let ends = bounds_small d (behind (behind k)) in
    and_true (is_name name && is_narrow lo) (is_narrow hi) (and_true (is_name name) (is_narrow lo) (first (w.Name name) (w.Sign s.Equal ∷ from) k) ends.0) ends.1
type_small (labels {name = name} {names = names} {from = from} d) k =
    and_true (is_name name) (are_some is_name names) (first (w.Name name) (w.Sign s.Equal ∷ from) k) (braced_small d (behind (behind k))).0

const_small : {n : ℕ} {from : List Word} {name : List ℕ} {value : ℤ} → ConstRest from name value → AreSmall n from → is_statement_spelt (st.Constant name value) ≡ true
const_small (constant {name = name} {from = from} {value = value} i) k =
    and_true (is_name name) (is_narrow value) (first (w.Name name) (w.Sign s.Equal ∷ from) k) (int_small i (behind (behind k))).0

initial_small : {n : ℕ} {from : List Word} {init : DraftValue} → Initial from init → AreSmall n from → is_value_spelt init ≡ true
initial_small (initial d) k = (value_small d (behind k)).0

typed_small : {n : ℕ} {from : List Word} {kind : DraftKind} {init : Option DraftValue} → Typed from kind init → AreSmall n from
    → (is_kind_spelt kind ≡ true) × (option_map_or is_value_spelt init true ≡ true)
typed_small (plain d) k = ((kind_small d k).0, refl)
typed_small (with_init d i) k = let one = kind_small d k in (one.0, initial_small i one.1)

variable_small : {n : ℕ} {from : List Word} {name : List ℕ} {kind : DraftKind} {init : Option DraftValue} → VariableRest from name kind init → AreSmall n from
    → ((is_name name && is_kind_spelt kind) ≡ true) × (option_map_or is_value_spelt init true ≡ true)
variable_small (variable {name = name} {from = from} {kind = kind} d) k =
    let parts = typed_small d (behind (behind k)) in
    (and_true (is_name name) (is_kind_spelt kind) (first (w.Name name) (w.Sign s.Colon ∷ from) k) parts.0, parts.1)

class_small : {n : ℕ} {from : List Word} {name mode : List ℕ} {modes : List (List ℕ)} → ClassRest from name modes mode → AreSmall n from
    → is_statement_spelt (st.Class name modes mode) ≡ true
class_small (class {name = name} {first = mode} {modes = modes} {from = from} d) k =
    let list = braced_small d (behind (behind k)) in
    and_true (is_name name && are_some is_name modes) (is_name mode)
    (and_true (is_name name) (are_some is_name modes) (first (w.Name name) (w.Sign s.Equal ∷ from) k) list.0) (first (w.Name mode) [] (behind list.1))

head_small : {n : ℕ} {from : List Word} {name : List ℕ} {over : Option (List ℕ)} → HeadRest from name over → AreSmall n from
    → (is_name name && option_map_or is_name over true) ≡ true
head_small (without_class {name = name}) k = and_true (is_name name) true (first (w.Name name) [] k) refl
head_small (over_class {name = name} {over = over}) k =
    and_true (is_name name) (is_name over) (first (w.Name name) (w.Reserved keyword.Over ∷ w.Name over ∷ []) k) (first (w.Name over) [] (behind (behind k)))

-- at least one is each of them
some_all : {X : Type 0} (test : X → Bool) (xs : List X) → are_some test xs ≡ true → list_all test xs ≡ true
some_all test [] h = refl
some_all test (x ∷ xs) h = h

within_16 : (n : ℕ) → n ≤ 16 → nat_le n 16 ≡ true
within_16 n h = grind (arith, nat_tests)

row_small : {heading : Heading} {from : List Word} {modes : List (List ℕ)} {cells : List DraftCell} → RowRest heading from modes cells → AreSmall 15 from
    → is_statement_spelt (st.Row modes cells) ≡ true
row_small (without_modes {cells = cells} d) k =
    let right = cells_small d 15 (behind k) in
    and_true (are_some is_cell_spelt cells) (nat_le (length cells) 16) right.0 (within_16 (length cells) right.1)
row_small (with_modes {modes = modes} {cells = cells} d e) k =
    let named = names_small d k in
    let right = cells_small e 15 (behind named.1) in
    and_true (list_all is_name modes && are_some is_cell_spelt cells) (nat_le (length cells) 16)
    (and_true (list_all is_name modes) (are_some is_cell_spelt cells) (some_all is_name modes named.0) right.0) (within_16 (length cells) right.1)

row_heading_cells : {heading : Heading} {from : List Word} {modes : List (List ℕ)} {cells : List DraftCell} → RowRest heading from modes cells → list_all (is_cell_of heading) cells ≡ true
row_heading_cells (without_modes d) = cells_heading d
row_heading_cells (with_modes d e) = cells_heading e

from_small : {n : ℕ} {from : List Word} {source target : List ℕ} {prims : List DraftPrim} → FromRest from source target prims → AreSmall n from
    → is_statement_spelt (st.Transition source target (event_of prims)) ≡ true
from_small (transition {source = source} {target = target} {from = from} {prims = prims} d) k =
    and_true (is_name source && is_name target) (is_event_spelt (event_of prims))
    (and_true (is_name source) (is_name target) (first (w.Name source) (w.Reserved keyword.To ∷ w.Name target ∷ w.Sign s.Colon ∷ from) k)
    (first (w.Name target) (w.Sign s.Colon ∷ from) (behind (behind k))))
    (event_small d (behind (behind (behind (behind k))))).0

-- ---- a line

natural_test : (n : ℤ) → IsNatural n → int_le (pos 0) n ≡ true
natural_test n h = grind (arith, ints, nat_tests)

-- a form of small words
form_small : {place next : Place} {from : List Word} {statement : Statement} → Form place from statement next → AreSmall 15 from → is_statement_spelt statement ≡ true
form_small (specification {name = name}) k = first (w.Name name) [] (behind k)
form_small (type d) k = type_small d (behind k)
form_small (const d) k = const_small d (behind k)
form_small (monitored {name = name} {kind = kind} {init = init} d) k =
    let parts = variable_small d (behind k) in and_true (is_name name && is_kind_spelt kind) (is_value_spelt init) parts.0 parts.1
form_small (mode_class d) k = class_small d (behind k)
form_small (term {name = name} {kind = kind} {init = init} d) k =
    let parts = variable_small d (behind k) in and_true (is_name name && is_kind_spelt kind) (option_map_or is_value_spelt init true) parts.0 parts.1
form_small (controlled {name = name} {kind = kind} {init = init} d) k =
    let parts = variable_small d (behind k) in and_true (is_name name && is_kind_spelt kind) (option_map_or is_value_spelt init true) parts.0 parts.1
form_small (nat {name = name} {n = n} i) k =
    let right = natural_narrow n (first (w.Number n) [] (behind (behind (behind k)))) i in
    and_true (is_name name && int_le (pos 0) n) (is_narrow n)
    (and_true (is_name name) (int_le (pos 0) n) (first (w.Name name) (w.Reserved keyword.Step ∷ w.Number n ∷ []) (behind k)) (natural_test n i)) right
form_small (condition_head e d) k = head_small d (behind k)
form_small (event_head e d) k = head_small d (behind k)
form_small (modes_head {name = name} e) k = and_true (is_name name) true (first (w.Name name) [] (behind k)) refl
form_small (row e d) k = row_small d (behind k)
form_small (values {sides = sides} d) k =
    let right = sides_small d 15 (behind k) in and_true (are_some (is_side_spelt true) sides) (nat_le (length sides) 16) right.0 (within_16 (length sides) right.1)
form_small (from_to d) k = from_small d (behind k)
form_small (end e) k = refl
form_small (finish e) k = refl

-- a choice that is taken
taken : {b : Bool} {x : Place} → b ≡ true → (if b then Some x else None) ≡ Some x
taken {b} {x} e = ap (λ t. let o : Option Place = if t then Some x else None in o) e

-- a row at its place
row_placed : (place : Place) (heading : Heading) (modes : List (List ℕ)) (cells : List DraftCell) → row_heading place ≡ Some heading → list_all (is_cell_of heading) cells ≡ true
    → place_after place (st.Row modes cells) ≡ Some (p.Rows heading)
row_placed place heading modes cells e g =
    ap (λ o. option_and_then (λ heading. let r : Option Place = if list_all (is_cell_of heading) cells then Some (p.Rows heading) else None in r) o) e ∙ taken g

expected : {heading : Heading} {place : Place} → expects_row heading place → row_heading place ≡ Some heading
expected (inl e) = ap row_heading e
expected (inr e) = ap row_heading e

-- the place behind a form is the place behind its statement
form_placed : {place next : Place} {from : List Word} {statement : Statement} → Form place from statement next → place_after place statement ≡ Some next
form_placed specification = refl
form_placed (type (range d)) = refl
form_placed (type (labels d)) = refl
form_placed (const d) = refl
form_placed (monitored d) = refl
form_placed (mode_class d) = refl
form_placed (term d) = refl
form_placed (controlled d) = refl
form_placed (nat i) = refl
form_placed (condition_head e d) = taken e
form_placed (event_head e d) = taken e
form_placed (modes_head e) = taken e
form_placed {place} (row {heading = heading} {modes = modes} {cells = cells} e d) = row_placed place heading modes cells (expected e) (row_heading_cells d)
form_placed (values d) = refl
form_placed (from_to d) = refl
form_placed (end e) = taken e
form_placed (finish e) = taken e

-- the tokens of a line are small words
pub tokens_small : {line : List ℕ} {tokens : List Token} → IsLexed line tokens → is_line_within (words tokens) ≡ true → AreSmall 15 (words tokens)
tokens_small {line} {tokens} l h = record {
  small = list_all-map is_word_sound (λ t. t.word) tokens ∙ words_sound l;
  few = leb-true _ _ (and_parts (is_nested_within 0 (words tokens) && is_negated_within 0 (words tokens)) (nat_le (count_by is_bar (words tokens)) 15) h).1;
}

line_readable : {position next : Position} {line : List ℕ} {tokens : List Token} {statement : Statement} → IsLexed line tokens → Says position (words tokens) statement next
    → (is_statement_within statement && is_statement_spelt statement) ≡ true
line_readable {statement = statement} l s = and_true (is_statement_within statement) (is_statement_spelt statement) s.within (form_small s.form (tokens_small l s.line_within))

-- ---- the depth of a line

row_deep : {heading : Heading} {from : List Word} {modes : List (List ℕ)} {cells : List DraftCell} → RowRest heading from modes cells → IsOutside from
    → list_all is_cell_shallow cells ≡ true
row_deep (without_modes {from = from} d) k = cells_deep d (past (w.Sign s.Colon) from refl k)
row_deep (with_modes {mid = mid} d e) k = cells_deep e (past (w.Sign s.Colon) mid refl (names_outside d k))

from_deep : {from : List Word} {source target : List ℕ} {prims : List DraftPrim} → FromRest from source target prims → IsOutside from → list_all is_prim_shallow prims ≡ true
from_deep (transition {source = source} {target = target} {from = from} d) k =
    let one = past (w.Name source) (w.Reserved keyword.To ∷ w.Name target ∷ w.Sign s.Colon ∷ from) refl k in
    let two = past (w.Reserved keyword.To) (w.Name target ∷ w.Sign s.Colon ∷ from) refl one in
    let more = past (w.Name target) (w.Sign s.Colon ∷ from) refl two in
    (event_deep d (past (w.Sign s.Colon) from refl more)).0

form_deep : {place next : Place} {from : List Word} {statement : Statement} → Form place from statement next → IsOutside from → is_statement_shallow statement ≡ true
form_deep specification k = refl
form_deep (type (range d)) k = refl
form_deep (type (labels d)) k = refl
form_deep (const d) k = refl
form_deep (monitored d) k = refl
form_deep (mode_class d) k = refl
form_deep (term d) k = refl
form_deep (controlled d) k = refl
form_deep (nat i) k = refl
form_deep (condition_head e d) k = refl
form_deep (event_head e d) k = refl
form_deep (modes_head e) k = refl
form_deep (row {from = from} e d) k = row_deep d (past (w.Reserved keyword.Row) from refl k)
form_deep (values d) k = refl
form_deep (from_to {from = from} d) k = from_deep d (past (w.Reserved keyword.From) from refl k)
form_deep (end e) k = refl
form_deep (finish e) k = refl

-- no parenthesis is open, and no NOT came
line_outside : (from : List Word) → is_line_within from ≡ true → IsOutside from
line_outside from h =
    let both = and_parts (is_nested_within 0 from) (is_negated_within 0 from)
    (and_parts (is_nested_within 0 from && is_negated_within 0 from) (nat_le (count_by is_bar from) 15) h).0 in
    record { nots = 0; limited = record { nested = both.0; negated = both.1; few_open = omega arith; few_nots = omega arith } }

-- ---- the lines

statements_readable : {position last : Position} {n : ℕ} {ls : List (List ℕ)} {draft : List Numbered} → Reads position n ls draft last → list_all is_line_readable draft ≡ true
statements_readable no_line = refl
statements_readable (line_more (blank l) more) = statements_readable more
statements_readable (line_more {draft = draft} (says {statement = statement} l s) more) =
    and_true (is_statement_within statement && is_statement_spelt statement) (list_all is_line_readable draft) (line_readable l s) (statements_readable more)

statements_shallow : {position last : Position} {n : ℕ} {ls : List (List ℕ)} {draft : List Numbered} → Reads position n ls draft last → list_all is_line_shallow draft ≡ true
statements_shallow no_line = refl
statements_shallow (line_more (blank l) more) = statements_shallow more
statements_shallow (line_more {draft = draft} (says {tokens = tokens} {statement = statement} l s) more) =
    and_true (is_statement_shallow statement) (list_all is_line_shallow draft) (form_deep s.form (line_outside (words tokens) s.line_within)) (statements_shallow more)

lines_placed : {position last : Position} {n : ℕ} {ls : List (List ℕ)} {draft : List Numbered} → Reads position n ls draft last → last.place ≡ p.After → is_placed position.place draft ≡ true
lines_placed no_line e = ap is_after e
lines_placed (line_more (blank l) more) e = lines_placed more e
lines_placed (line_more {draft = draft} (says l s) more) e = ap (λ o. option_map_or (λ next. is_placed next draft) o false) (form_placed s.form) ∙ lines_placed more e

counts_kept : {position last : Position} {n : ℕ} {ls : List (List ℕ)} {draft : List Numbered} → Reads position n ls draft last → are_counts_within position.counts draft ≡ true
counts_kept no_line = refl
counts_kept (line_more (blank l) more) = counts_kept more
counts_kept {position} (line_more {next = next} {draft = draft} (says {statement = statement} l s) more) =
    let next_counts = counted position.counts statement in
    and_true (is_count_within next_counts) (are_counts_within next_counts draft)
    (subst (λ counts. is_count_within counts ≡ true) s.counts s.count_within) (subst (λ counts. are_counts_within counts draft ≡ true) s.counts (counts_kept more))

-- ---- a text

pub readable : (text : List ℕ) (draft : List Numbered) → TextReads text draft → IsReadable draft
readable text draft r = record {
  statements = statements_readable r.lines.lines;
  shallow = statements_shallow r.lines.lines;
  places = lines_placed r.lines.lines r.lines.finished;
  counts = counts_kept r.lines.lines;
}

pub reads_readable : ReadsReadable
reads_readable = readable
