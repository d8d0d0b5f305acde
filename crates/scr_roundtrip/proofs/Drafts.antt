-- The statements that the canonical lines say: the parts of a specification with names in the place of numbers.
use Rattle.std.specs.Prelude.{ℕ, ℤ, pos, Bool, true, false, ◌&&◌, ◌||◌, nat_le, length, List, [], ◌∷◌, ◌++◌, map, Option, Some, None, slice_get, slice_index_or}
use Rattle.std.specs.List.{list_all, flat_map}
use Rattle.std.specs.Option.{option_map, option_map_or}
use Rattle.std.specs.Ordering.{int_eq}
use Rattle.scr_spec.specs.Data.{Data}
use Rattle.scr_spec.specs.declared.cond.Operand.{Operand}
use Rattle.scr_spec.specs.declared.cond.Operand.TheVariants.{One, Truth, Constant, Label, Variable, Primed}
use Rattle.scr_spec.specs.declared.cond.Item.{Item}
use Rattle.scr_spec.specs.declared.cond.Expr.{Expr}
use Rattle.scr_spec.specs.declared.cond.Cond.{Cond, fold-Cond}
use Rattle.scr_spec.specs.declared.cond.Cond.TheOpen as c
use Rattle.scr_spec.specs.Formed.{is_unprimed}
use Rattle.scr_spec.specs.declared.spec.Shape.{Shape}
use Rattle.scr_spec.specs.declared.spec.Shape.TheVariants.{Range, Labels}
use Rattle.scr_spec.specs.declared.spec.TypeDef.{TypeDef}
use Rattle.scr_spec.specs.declared.spec.Constant.{Constant as SpecConstant}
use Rattle.scr_spec.specs.declared.spec.Kind.{Kind}
use Rattle.scr_spec.specs.declared.spec.Kind.TheVariants.{Boolean, Named, Modes}
use Rattle.scr_spec.specs.declared.spec.Variable.{Variable as SpecVariable}
use Rattle.scr_spec.specs.declared.table.Change.{Change}
use Rattle.scr_spec.specs.declared.table.Change.TheVariants.{Becomes, Ceases, Changes, Never}
use Rattle.scr_spec.specs.declared.table.Primitive.{Primitive}
use Rattle.scr_spec.specs.declared.table.Event.{Event}
use Rattle.scr_spec.specs.declared.table.Cell.{Cell}
use Rattle.scr_spec.specs.declared.table.Cell.TheVariants as cell
use Rattle.scr_spec.specs.declared.table.Row.{Row}
use Rattle.scr_spec.specs.declared.table.Heading.{Heading}
use Rattle.scr_spec.specs.declared.table.Heading.TheVariants as h
use Rattle.scr_spec.specs.declared.table.Table.{Table}
use Rattle.scr_parse.specs.declared.draft.DraftChange.{DraftChange}
use Rattle.scr_parse.specs.declared.draft.DraftChange.TheVariants as change
use Rattle.scr_parse.specs.declared.draft.DraftPrim.{DraftPrim}
use Rattle.scr_parse.specs.declared.draft.DraftEvent.{DraftEvent}
use Rattle.scr_parse.specs.declared.draft.DraftCell.{DraftCell}
use Rattle.scr_parse.specs.declared.draft.DraftCell.TheVariants as cells
use Rattle.scr_parse.specs.declared.draft.DraftKind.TheVariants as kind
use Rattle.scr_parse.specs.declared.draft.DraftValue.{DraftValue}
use Rattle.scr_parse.specs.declared.draft.DraftValue.TheVariants as value
use Rattle.scr_parse.specs.declared.draft.Statement.{Statement}
use Rattle.scr_parse.specs.declared.draft.Statement.TheVariants as st
use Rattle.scr_parse.specs.Events.{prim_of, event_of}
use Rattle.scr_scope.specs.Names.{Name}
use Rattle.scr_parse.specs.declared.draft.DraftOperand.{DraftOperand}
use Rattle.scr_parse.specs.declared.draft.DraftOperand.TheVariants as o
use Rattle.scr_parse.specs.declared.draft.DraftItem.{DraftItem}
use Rattle.scr_parse.specs.declared.draft.DraftSide.{DraftSide}
use Rattle.scr_parse.specs.declared.draft.DraftCond.{DraftCond}
use Rattle.scr_parse.specs.declared.draft.DraftCond.TheVariants as d
use Rattle.scr_parse.specs.Sides.{item_of, side_of}
use Rattle.scr_printer.specs.Names.{type_name, constant_name, variable_name, name_at, label_name, mode_name}

-- ---- sides

abbrev pub draft_operand : Data → Operand → DraftOperand
draft_operand spec One = o.One
draft_operand spec (Truth b) = o.Truth b
draft_operand spec (Constant k) = o.Plain (constant_name spec k)
draft_operand spec (Label owner code) = o.Plain (label_name spec owner code)
draft_operand spec (Variable v) = o.Plain (variable_name spec v)
draft_operand spec (Primed v) = o.Primed (variable_name spec v)

abbrev pub draft_item : Data → Item → DraftItem
draft_item spec item = item_of item.factor (draft_operand spec item.operand)

abbrev pub draft_side : Data → Expr → DraftSide
draft_side spec e = side_of (map (draft_item spec) e.items)

-- TRUE and FALSE have no other factor than 1
abbrev pub is_amount_spelt : ℤ → Operand → Bool
is_amount_spelt factor One = true
is_amount_spelt factor (Truth b) = int_eq factor (pos 1)
is_amount_spelt factor (Constant k) = true
is_amount_spelt factor (Label owner code) = true
is_amount_spelt factor (Variable v) = true
is_amount_spelt factor (Primed v) = true

-- the item has a form, where primes are allowed or not
abbrev pub is_item_good : Bool → Item → Bool
is_item_good primes item = is_amount_spelt item.factor item.operand && (primes || is_unprimed item.operand)

abbrev pub is_side_good : Bool → Expr → Bool
is_side_good primes e = nat_le 1 (length e.items) && list_all (is_item_good primes) e.items

-- ---- conditions

abbrev pub alone : DraftOperand → DraftCond
alone operand = d.Alone (side_of (item_of (pos 1) operand ∷ []))

abbrev pub draft_step : Data → c.Cond-F DraftCond → DraftCond
draft_step spec (c.Truth b) = alone (o.Truth b)
draft_step spec (c.Holds v) = alone (o.Plain (variable_name spec v))
draft_step spec (c.Compare l relation m) = d.Compare (draft_side spec l) relation (draft_side spec m)
draft_step spec (c.Not e) = d.Not e
draft_step spec (c.And es) = d.And es
draft_step spec (c.Or es) = d.Or es

abbrev pub draft_cond : Data → Cond → DraftCond
draft_cond spec e = fold-Cond DraftCond (draft_step spec) e

-- the condition has a form: its sides have one, and AND and OR join at least two
abbrev pub good_step : c.Cond-F Bool → Bool
good_step (c.Truth b) = true
good_step (c.Holds v) = true
good_step (c.Compare l relation m) = is_side_good false l && is_side_good false m
good_step (c.Not t) = t
good_step (c.And ts) = nat_le 2 (length ts) && list_all (λ t. t) ts
good_step (c.Or ts) = nat_le 2 (length ts) && list_all (λ t. t) ts

abbrev pub is_cond_good : Cond → Bool
is_cond_good e = fold-Cond Bool good_step e

-- ---- events and cells

abbrev pub draft_change : Data → Change → DraftChange
draft_change spec (Becomes e) = change.Becomes (draft_cond spec e)
draft_change spec (Ceases e) = change.Ceases (draft_cond spec e)
draft_change spec (Changes v) = change.Changes (variable_name spec v)
draft_change spec Never = change.Never

abbrev pub draft_prim : Data → Primitive → DraftPrim
draft_prim spec p = prim_of (draft_change spec p.change) (option_map (draft_cond spec) p.guard)

abbrev pub draft_event : Data → Event → DraftEvent
draft_event spec e = event_of (map (draft_prim spec) e.prims)

abbrev pub draft_cell : Data → Cell → DraftCell
draft_cell spec (cell.Cond e) = cells.Cond (draft_cond spec e)
draft_cell spec (cell.Event e) = cells.Event (draft_event spec e)

-- the event of a cell of a mode table
abbrev pub cell_event : Cell → Event
cell_event (cell.Cond e) = record { prims = [] }
cell_event (cell.Event e) = e

-- ---- declarations

abbrev pub draft_shape : Name → Shape → Statement
draft_shape name (Range r) = st.Range name r.lo r.hi
draft_shape name (Labels names) = st.Labels name names

abbrev pub draft_type : TypeDef → Statement
draft_type t = draft_shape t.name t.shape

abbrev pub draft_constant : SpecConstant → Statement
draft_constant x = st.Constant x.name x.value

abbrev pub draft_shape_value : Shape → ℤ → DraftValue
draft_shape_value (Range r) code = value.Number code
draft_shape_value (Labels names) code = value.Named (name_at names code)

abbrev pub draft_value : List TypeDef → Kind → ℤ → DraftValue
draft_value types Boolean code = value.Truth (int_eq code (pos 1))
draft_value types (Named k) code = option_map_or (λ t. draft_shape_value t.shape code) (slice_get types k) (value.Number code)
draft_value types (Modes names) code = value.Named (name_at names code)

abbrev pub draft_init : List TypeDef → SpecVariable → Option DraftValue
draft_init types x = option_map (draft_value types x.kind) x.init

abbrev pub first_mode : List Name → Option ℤ → Name
first_mode names init = option_map_or (name_at names) init []

abbrev pub draft_variable : Data → SpecVariable → Kind → Statement
draft_variable spec x Boolean = st.Variable x.role x.name kind.Boolean (draft_init spec.types x)
draft_variable spec x (Named k) = st.Variable x.role x.name (kind.Named (type_name spec k)) (draft_init spec.types x)
draft_variable spec x (Modes names) = st.Class x.name names (first_mode names x.init)

abbrev pub draft_variables : Data → SpecVariable → List Statement
draft_variables spec x = draft_variable spec x x.kind ∷ option_map_or (λ step. st.Nat x.name step ∷ []) x.bound []

-- ---- tables

abbrev pub draft_over : Data → Heading → Option ℕ → Option Name
draft_over spec h.Modes class = None
draft_over spec heading class = option_map (variable_name spec) class

abbrev pub draft_head : Data → Table → Statement
draft_head spec t = st.Head t.heading (variable_name spec t.variable) (draft_over spec t.heading t.class)

abbrev pub draft_modes : Data → Option ℕ → List ℤ → List Name
draft_modes spec None modes = []
draft_modes spec (Some v) modes = map (mode_name spec v) modes

abbrev pub draft_row : Data → Option ℕ → Row → Statement
draft_row spec class row = st.Row (draft_modes spec class row.modes) (map (draft_cell spec) row.cells)

abbrev pub draft_values : Data → List Expr → Statement
draft_values spec values = st.Values (map (draft_side spec) values)

abbrev pub draft_transition : Data → ℕ → ℤ → ℤ → Cell → Statement
draft_transition spec v source target x = st.Transition (mode_name spec v source) (mode_name spec v target) (draft_event spec (cell_event x))

abbrev pub draft_targets : Data → ℕ → ℤ → List ℤ → List Cell → List Statement
draft_targets spec v source [] xs = []
draft_targets spec v source (target ∷ targets) [] = []
draft_targets spec v source (target ∷ targets) (x ∷ xs) = draft_transition spec v source target x ∷ draft_targets spec v source targets xs

abbrev pub draft_source : Data → ℕ → Row → List Statement
draft_source spec v row = draft_targets spec v (slice_index_or row.modes 0 (pos 0)) row.targets row.cells

abbrev pub draft_body : Data → Heading → Table → List Statement
draft_body spec h.Condition t = map (draft_row spec t.class) t.rows ++ draft_values spec t.values ∷ []
draft_body spec h.Event t = map (draft_row spec t.class) t.rows ++ draft_values spec t.values ∷ []
draft_body spec h.Modes t = flat_map (draft_source spec t.variable) t.rows

abbrev pub draft_table : Data → Table → List Statement
draft_table spec t = draft_head spec t ∷ (draft_body spec t.heading t ++ st.End ∷ [])

-- ---- all lines

abbrev pub statements_of : Data → List Statement
statements_of spec =
    st.Specification spec.name ∷ (map draft_type spec.types ++ (map draft_constant spec.constants ++ (flat_map (draft_variables spec) spec.variables
    ++ (flat_map (draft_table spec) spec.tables ++ st.Finish ∷ []))))
