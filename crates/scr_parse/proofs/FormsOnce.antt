-- The parts of a line and its form are one thing.
use Rattle.std.proofs.Common.{◌≡◌, ℕ, ℤ, List, [], ◌∷◌, refl, sym, ap, ap₂, subst, inl, inr}
use Rattle.std.specs.Prelude.{Option, Some}
use Rattle.scr_tokens.specs.declared.word.Word.{Word}
use Rattle.scr_tokens.specs.declared.word.Word.TheVariants as w
use Rattle.scr_parse.specs.declared.draft.DraftKind.{DraftKind}
use Rattle.scr_parse.specs.declared.draft.DraftValue.{DraftValue}
use Rattle.scr_parse.specs.declared.draft.DraftValue.TheVariants as value
use Rattle.scr_parse.specs.declared.draft.Statement.{Statement}
use Rattle.scr_parse.specs.declared.draft.Statement.TheVariants as st
use Rattle.scr_parse.specs.Forms.{Bounds, bounds, TypeRest, range, labels, ConstRest, constant, Initial, initial, Typed, plain, with_init, VariableRest, variable, ClassRest, class, HeadRest, without_class, over_class, RowRest, without_modes, with_modes, FromRest, transition, expects_row, Form, specification, type, const, monitored, mode_class, term, controlled, nat, condition_head, event_head, modes_head, row, values, from_to, end, finish}
use Rattle.scr_spec.specs.declared.spec.Role.{Role}
use Rattle.scr_spec.specs.declared.table.Heading.{Heading}
use Rattle.scr_spec.specs.declared.table.Heading.TheVariants as h
use Rattle.scr_parse.specs.declared.draft.DraftCell.{DraftCell}
use Rattle.scr_parse.specs.declared.draft.DraftPrim.{DraftPrim}
use Rattle.scr_parse.specs.declared.place.Place.{Place}
use Rattle.scr_parse.specs.declared.place.Place.TheVariants as p
use Rattle.scr_parse.specs.Events.{event_of}
use Rattle.scr_parse.proofs.Once.{behind, event_once, cells_from, cells_once, sides_once}
use Rattle.scr_parse.specs.Names.{Names, last_name, name_comma, Braced, braced, Int, plain_int, minus_int, KindOf, boolean, named_kind, Value, number_value, named_value, true_value, false_value}

-- ---- names, numbers, types and values

pub names_once : {from rest other : List Word} {ns ms : List (List ℕ)} → Names from ns rest → Names from ms other → (ns ≡ ms) × (rest ≡ other)
names_once (last_name n) (last_name m) = (refl, refl)
names_once (last_name n) (name_comma d) = absurd (n _ refl)
names_once (name_comma d) (last_name n) = absurd (n _ refl)
names_once (name_comma {name = n} d) (name_comma e) = let same = names_once d e in (ap (λ ns. n ∷ ns) same.0, same.1)

-- the name in front
named : {a b : List Word} {name label : List ℕ} → w.Name name ∷ a ≡ w.Name label ∷ b → name ≡ label
named e = cc

pub braced_once : {from rest other : List Word} {ns ms : List (List ℕ)} → Braced from ns rest → Braced from ms other → (ns ≡ ms) × (rest ≡ other)
braced_once (braced d) (braced e) = let same = names_once d e in (same.0, behind same.1)

pub int_once : {from rest other : List Word} {u v : ℤ} → Int from u rest → Int from v other → (u ≡ v) × (rest ≡ other)
int_once (plain_int n) (plain_int m) = (refl, refl)
int_once (minus_int n) (minus_int m) = (refl, refl)

pub kind_once : {from rest other : List Word} {i j : DraftKind} → KindOf from i rest → KindOf from j other → (i ≡ j) × (rest ≡ other)
kind_once boolean boolean = (refl, refl)
kind_once named_kind named_kind = (refl, refl)

pub value_once : {from rest other : List Word} {u v : DraftValue} → Value from u rest → Value from v other → (u ≡ v) × (rest ≡ other)
value_once (number_value i) (number_value j) = let same = int_once i j in (ap value.Number same.0, same.1)
value_once (number_value i) named_value = elim i [ ]
value_once (number_value i) true_value = elim i [ ]
value_once (number_value i) false_value = elim i [ ]
value_once named_value (number_value i) = elim i [ ]
value_once true_value (number_value i) = elim i [ ]
value_once false_value (number_value i) = elim i [ ]
value_once named_value named_value = (refl, refl)
value_once true_value true_value = (refl, refl)
value_once false_value false_value = (refl, refl)

-- ---- declarations

int_from : {a b rest : List Word} {v : ℤ} → a ≡ b → Int b v rest → Int a v rest
int_from {rest = rest} {v} e i = subst (λ from. Int from v rest) (sym e) i

pub bounds_once : {from : List Word} {lo hi u v : ℤ} → Bounds from lo hi → Bounds from u v → (lo ≡ u) × (hi ≡ v)
bounds_once (bounds i j) (bounds k l) = let same = int_once i k in (same.0, (int_once j (int_from (behind same.1) l)).0)

-- a range does not begin with a brace
no_bounds : {from rest : List Word} {names : List (List ℕ)} {lo hi : ℤ} → Bounds from lo hi → Braced from names rest → ⊥
no_bounds (bounds i j) (braced d) = elim i [ ]

pub type_once : {from : List Word} {a b : Statement} → TypeRest from a → TypeRest from b → a ≡ b
type_once (range {name = name} d) (range e) = let same = bounds_once d e in ap₂ (λ lo hi. st.Range name lo hi) same.0 same.1
type_once (range d) (labels e) = absurd (no_bounds d e)
type_once (labels d) (range e) = absurd (no_bounds e d)
type_once (labels {name = name} d) (labels e) = ap (λ names. st.Labels name names) (braced_once d e).0

pub const_once : {from : List Word} {name label : List ℕ} {u v : ℤ} → ConstRest from name u → ConstRest from label v → (name ≡ label) × (u ≡ v)
const_once (constant i) (constant j) = (refl, (int_once i j).0)

initial_once : {from : List Word} {u v : DraftValue} → Initial from u → Initial from v → u ≡ v
initial_once (initial d) (initial e) = (value_once d e).0

initial_from : {a b : List Word} {v : DraftValue} → a ≡ b → Initial b v → Initial a v
initial_from {v = v} e i = subst (λ from. Initial from v) (sym e) i

-- INIT is not the end of a line
no_initial : {from : List Word} {v : DraftValue} → [] ≡ from → Initial from v → ⊥
no_initial e i = elim (initial_from e i) [ ]

typed_once : {from : List Word} {i j : DraftKind} {u v : Option DraftValue} → Typed from i u → Typed from j v → (i ≡ j) × (u ≡ v)
typed_once (plain d) (plain e) = ((kind_once d e).0, refl)
typed_once (plain d) (with_init e i) = absurd (no_initial (kind_once d e).1 i)
typed_once (with_init d i) (plain e) = absurd (no_initial (kind_once e d).1 i)
typed_once (with_init d i) (with_init e j) = let same = kind_once d e in (same.0, ap (λ v. Some v) (initial_once i (initial_from same.1 j)))

pub variable_once : {from : List Word} {name label : List ℕ} {i j : DraftKind} {u v : Option DraftValue} → VariableRest from name i u → VariableRest from label j v
    → (name ≡ label) × (i ≡ j) × (u ≡ v)
variable_once (variable d) (variable e) = let same = typed_once d e in (refl, same.0, same.1)

pub class_once : {from : List Word} {name label first mode : List ℕ} {modes members : List (List ℕ)} → ClassRest from name modes first → ClassRest from label members mode
    → (name ≡ label) × (modes ≡ members) × (first ≡ mode)
class_once (class d) (class e) = let same = braced_once d e in (refl, same.0, named (behind same.1))

-- ---- tables

pub head_once : {from : List Word} {name label : List ℕ} {over class : Option (List ℕ)} → HeadRest from name over → HeadRest from label class → (name ≡ label) × (over ≡ class)
head_once without_class without_class = (refl, refl)
head_once over_class over_class = (refl, refl)

pub row_once : {heading : Heading} {from : List Word} {modes members : List (List ℕ)} {cells others : List DraftCell} → RowRest heading from modes cells
    → RowRest heading from members others → (modes ≡ members) × (cells ≡ others)
row_once (without_modes c) (without_modes d) = (refl, cells_once c d)
row_once (without_modes c) (with_modes n d) = elim n [ ]
row_once (with_modes n c) (without_modes d) = elim n [ ]
row_once (with_modes n c) (with_modes m d) = let same = names_once n m in (same.0, cells_once c (cells_from (behind same.1) d))

pub from_once : {words : List Word} {source target start stop : List ℕ} {prims others : List DraftPrim} → FromRest words source target prims
    → FromRest words start stop others → (source ≡ start) × (target ≡ stop) × (prims ≡ others)
from_once (transition d) (transition e) = (refl, refl, (event_once d e).0)

-- ---- a line

-- a place expects the rows of one heading
pub heading_once : {heading other : Heading} {place : Place} → expects_row heading place → expects_row other place → heading ≡ other
heading_once (inl e) (inl f) = cc
heading_once (inl e) (inr f) = cc
heading_once (inr e) (inl f) = cc
heading_once (inr e) (inr f) = cc

row_same : {heading other : Heading} {words : List Word} {modes members : List (List ℕ)} {cells others : List DraftCell} → heading ≡ other → RowRest heading words modes cells
    → RowRest other words members others → (st.Row modes cells ≡ st.Row members others) × (p.Rows heading ≡ p.Rows other)
row_same {heading} {words = words} {modes} {members} {cells} {others} e d f =
    let same = row_once d (subst (λ heading. RowRest heading words members others) (sym e) f) in
    (ap₂ (λ modes cells. st.Row modes cells) same.0 same.1, ap p.Rows e)

variable_same : {role : Role} {name label : List ℕ} {i j : DraftKind} {u v : Option DraftValue} → (name ≡ label) × (i ≡ j) × (u ≡ v)
    → st.Variable role name i u ≡ st.Variable role label j v
variable_same (e, f, g) = cc

class_same : {name label first mode : List ℕ} {modes members : List (List ℕ)} → (name ≡ label) × (modes ≡ members) × (first ≡ mode)
    → st.Class name modes first ≡ st.Class label members mode
class_same (e, f, g) = cc

from_same : {source target start stop : List ℕ} {prims others : List DraftPrim} → (source ≡ start) × (target ≡ stop) × (prims ≡ others)
    → st.Transition source target (event_of prims) ≡ st.Transition start stop (event_of others)
from_same (e, f, g) = let h = ap event_of g in cc

pub form_once : {place next other : Place} {words : List Word} {a b : Statement} → Form place words a next → Form place words b other → (a ≡ b) × (next ≡ other)
form_once specification specification = (refl, refl)
form_once (type d) (type e) = (type_once d e, refl)
form_once (const d) (const e) = let same = const_once d e in (ap₂ (λ name value. st.Constant name value) same.0 same.1, refl)
form_once (monitored d) (monitored e) = (variable_same (variable_once d e), refl)
form_once (mode_class d) (mode_class e) = (class_same (class_once d e), refl)
form_once (term d) (term e) = (variable_same (variable_once d e), refl)
form_once (controlled d) (controlled e) = (variable_same (variable_once d e), refl)
form_once (nat i) (nat j) = (refl, refl)
form_once (condition_head i d) (condition_head j e) = let same = head_once d e in (ap₂ (λ name over. st.Head h.Condition name over) same.0 same.1, refl)
form_once (event_head i d) (event_head j e) = let same = head_once d e in (ap₂ (λ name over. st.Head h.Event name over) same.0 same.1, refl)
form_once (modes_head i) (modes_head j) = (refl, refl)
form_once (row i d) (row j e) = row_same (heading_once i j) d e
form_once (values d) (values e) = (ap (λ sides. st.Values sides) (sides_once d e), refl)
form_once (from_to d) (from_to e) = (from_same (from_once d e), refl)
form_once (end i) (end j) = (refl, refl)
form_once (finish i) (finish j) = (refl, refl)
