-- What a table says after an old state depends on what it reads in the new state alone.
use Rattle.std.proofs.Common.{◌≡◌, ℕ, ℤ, pos, ◌+ℤ◌, ◌*ℤ◌, Bool, true, false, not, ◌&&◌, ◌||◌, List, [], ◌∷◌, map, fold, refl, sym, ap, subst, ◌∙◌}
use Rattle.std.specs.Prelude.{nat_eq, Option, Some, None, slice_get}
use Rattle.std.specs.Option.{option_map_or}
use Rattle.std.specs.Ordering.{int_eq}
use Rattle.std.specs.List.{list_all, list_any}
use Rattle.std.proofs.lemmas.Bool.{eq-eqb, or_left, or_right, and_left, and_right}
use Rattle.std.proofs.lemmas.Bool.Decides.{Decides-int_eq}
use Rattle.scr_spec.specs.Data.{Data}
use Rattle.scr_spec.specs.declared.cond.Operand.{Operand}
use Rattle.scr_spec.specs.declared.cond.Operand.TheVariants.{One, Truth as Flag, Constant, Label, Variable, Primed}
use Rattle.scr_spec.specs.declared.cond.Item.{Item}
use Rattle.scr_spec.specs.declared.cond.Expr.{Expr}
use Rattle.base.specs.declared.relation.Relation.{Relation}
use Rattle.scr_spec.specs.declared.cond.Cond.{Cond, fold-roll-Cond, ind-Cond}
use Rattle.scr_spec.specs.declared.cond.Cond.TheOpen as cond
use Rattle.scr_spec.specs.declared.cond.Cond.TheFolds.{map-Cond}
use Rattle.scr_spec.specs.declared.table.Change.{Change}
use Rattle.scr_spec.specs.declared.table.Change.TheVariants.{Becomes, Ceases, Changes, Never}
use Rattle.scr_spec.specs.declared.table.Primitive.{Primitive}
use Rattle.scr_spec.specs.declared.table.Event.{Event}
use Rattle.scr_spec.specs.declared.table.Cell.{Cell}
use Rattle.scr_spec.specs.declared.table.Cell.TheVariants as cell
use Rattle.scr_spec.specs.declared.table.Row.{Row}
use Rattle.scr_spec.specs.declared.table.Heading.{Heading}
use Rattle.scr_spec.specs.declared.table.Heading.TheVariants as heading
use Rattle.scr_spec.specs.declared.table.Table.{Table}
use Rattle.base.specs.Relations.{stands_in}
use Rattle.scr_spec.specs.Meaning.{Codes, code_of, operand_value, item_value, side_value, truth_step, is_true}
use Rattle.scr_spec.specs.Events.{change_holds, guard_holds, prim_holds, event_true}
use Rattle.scr_spec.specs.Cells.{in_modes, looked_at, cell_true, row_cell_true}
use Rattle.scr_spec.specs.Relations.{cell_value}
use Rattle.scr_depend.specs.Reads.{operand_names, operand_primes, item_names, item_primes, side_names, side_primes, names_step, cond_names, change_reads, prim_reads, event_reads, cell_reads, row_reads, value_reads, is_class, class_reads, table_reads}
use Rattle.run_step.proofs.Lists.{get_any, any_there}

-- both states give the variable the same code
abbrev pub Same : Codes → Codes → ℕ → Type 0
Same s t w = code_of s w ≡ code_of t w

-- and each variable that passes the test
abbrev pub Agree : (ℕ → Bool) → Codes → Codes → Type 0
Agree reads s t = (w : ℕ) → reads w ≡ true → Same s t w

-- ---- lists

-- sums, where each summand depends on what is read in it
fold_same : {X : Type 0} (reads : ℕ → X → Bool) (P : ℕ → Type 0) (f g : X → ℤ) → ((x : X) → ((w : ℕ) → reads w x ≡ true → P w) → f x ≡ g x) → (xs : List X) (a : ℤ)
    → ((w : ℕ) → list_any (reads w) xs ≡ true → P w) → fold (λ sum x. sum +ℤ f x) a xs ≡ fold (λ sum x. sum +ℤ g x) a xs
fold_same reads P f g one [] a h = refl
fold_same reads P f g one (x ∷ xs) a h =
    ap (λ z. fold (λ sum y. sum +ℤ f y) (a +ℤ z) xs) (one x (λ w e. h w (or_left (reads w x) (list_any (reads w) xs) e)))
    ∙ fold_same reads P f g one xs (a +ℤ g x) (λ w e. h w (or_right (reads w x) (list_any (reads w) xs) e))

any_same : {X : Type 0} (reads : ℕ → X → Bool) (P : ℕ → Type 0) (f g : X → Bool) → ((x : X) → ((w : ℕ) → reads w x ≡ true → P w) → f x ≡ g x) → (xs : List X)
    → ((w : ℕ) → list_any (reads w) xs ≡ true → P w) → list_any f xs ≡ list_any g xs
any_same reads P f g one [] h = refl
any_same reads P f g one (x ∷ xs) h =
    ap (λ b. b || list_any f xs) (one x (λ w e. h w (or_left (reads w x) (list_any (reads w) xs) e)))
    ∙ ap (λ b. g x || b) (any_same reads P f g one xs (λ w e. h w (or_right (reads w x) (list_any (reads w) xs) e)))

-- ---- sides

named_same : (s t : Codes) (v : ℕ) → ((w : ℕ) → nat_eq v w ≡ true → Same s t w) → Same s t v
named_same s t v h = h v (eq-eqb v v refl)

operand_same : (spec : Data) (s t : Codes) (o : Operand) → ((w : ℕ) → operand_names w o ≡ true → Same s t w) → operand_value spec s s o ≡ operand_value spec t t o
operand_same spec s t One h = refl
operand_same spec s t (Flag b) h = refl
operand_same spec s t (Constant k) h = refl
operand_same spec s t (Label owner code) h = refl
operand_same spec s t (Variable v) h = named_same s t v h
operand_same spec s t (Primed v) h = named_same s t v h

side_same : (spec : Data) (s t : Codes) (e : Expr) → Agree (λ w. side_names w e) s t → side_value spec s s e ≡ side_value spec t t e
side_same spec s t e h =
    fold_same item_names (Same s t) (item_value spec s s) (item_value spec t t) (λ (x : Item) k. ap (λ z. x.factor *ℤ z) (operand_same spec s t x.operand k)) e.items (pos 0) h

primed_same : (spec : Data) (old s t : Codes) (o : Operand) → ((w : ℕ) → operand_primes w o ≡ true → Same s t w) → operand_value spec old s o ≡ operand_value spec old t o
primed_same spec old s t One h = refl
primed_same spec old s t (Flag b) h = refl
primed_same spec old s t (Constant k) h = refl
primed_same spec old s t (Label owner code) h = refl
primed_same spec old s t (Variable v) h = refl
primed_same spec old s t (Primed v) h = named_same s t v h

side_primed_same : (spec : Data) (old s t : Codes) (e : Expr) → Agree (λ w. side_primes w e) s t → side_value spec old s e ≡ side_value spec old t e
side_primed_same spec old s t e h =
    fold_same item_primes (Same s t) (item_value spec old s) (item_value spec old t) (λ (x : Item) k. ap (λ z. x.factor *ℤ z) (primed_same spec old s t x.operand k)) e.items (pos 0) h

-- ---- conditions

members_all : {E : Type 0} (spec : Data) (s t : Codes) (p : E → Cond) → ((e : E) → Agree (λ w. cond_names w (p e)) s t → is_true spec s (p e) ≡ is_true spec t (p e)) → (es : List E)
    → ((w : ℕ) → list_any (λ b. b) (map (cond_names w) (map p es)) ≡ true → Same s t w)
    → list_all (λ b. b) (map (is_true spec s) (map p es)) ≡ list_all (λ b. b) (map (is_true spec t) (map p es))
members_all spec s t p each [] h = refl
members_all spec s t p each (e ∷ es) h =
    let rest = λ (w : ℕ). list_any (λ b. b) (map (cond_names w) (map p es)) in
    ap (λ b. b && list_all (λ c. c) (map (is_true spec s) (map p es))) (each e (λ w k. h w (or_left (cond_names w (p e)) (rest w) k)))
    ∙ ap (λ b. is_true spec t (p e) && b) (members_all spec s t p each es (λ w k. h w (or_right (cond_names w (p e)) (rest w) k)))

members_any : {E : Type 0} (spec : Data) (s t : Codes) (p : E → Cond) → ((e : E) → Agree (λ w. cond_names w (p e)) s t → is_true spec s (p e) ≡ is_true spec t (p e)) → (es : List E)
    → ((w : ℕ) → list_any (λ b. b) (map (cond_names w) (map p es)) ≡ true → Same s t w)
    → list_any (λ b. b) (map (is_true spec s) (map p es)) ≡ list_any (λ b. b) (map (is_true spec t) (map p es))
members_any spec s t p each [] h = refl
members_any spec s t p each (e ∷ es) h =
    let rest = λ (w : ℕ). list_any (λ b. b) (map (cond_names w) (map p es)) in
    ap (λ b. b || list_any (λ c. c) (map (is_true spec s) (map p es))) (each e (λ w k. h w (or_left (cond_names w (p e)) (rest w) k)))
    ∙ ap (λ b. is_true spec t (p e) || b) (members_any spec s t p each es (λ w k. h w (or_right (cond_names w (p e)) (rest w) k)))

compare_same : (spec : Data) (s t : Codes) (l : Expr) (r : Relation) (m : Expr) → Agree (λ w. side_names w l || side_names w m) s t
    → stands_in r (side_value spec s s l) (side_value spec s s m) ≡ stands_in r (side_value spec t t l) (side_value spec t t m)
compare_same spec s t l r m h =
    ap (λ z. stands_in r z (side_value spec s s m)) (side_same spec s t l (λ w k. h w (or_left (side_names w l) (side_names w m) k)))
    ∙ ap (λ z. stands_in r (side_value spec t t l) z) (side_same spec s t m (λ w k. h w (or_right (side_names w l) (side_names w m) k)))

layer_same : {E : Type 0} (spec : Data) (s t : Codes) (p : E → Cond) → ((e : E) → Agree (λ w. cond_names w (p e)) s t → is_true spec s (p e) ≡ is_true spec t (p e)) → (y : cond.Cond-F E)
    → ((w : ℕ) → names_step w (map-Cond Cond Bool (cond_names w) (map-Cond E Cond p y)) ≡ true → Same s t w)
    → truth_step spec s (map-Cond Cond Bool (is_true spec s) (map-Cond E Cond p y)) ≡ truth_step spec t (map-Cond Cond Bool (is_true spec t) (map-Cond E Cond p y))
layer_same spec s t p each (cond.Truth b) h = refl
layer_same spec s t p each (cond.Holds v) h = ap (λ z. int_eq z (pos 1)) (named_same s t v h)
layer_same spec s t p each (cond.Compare l r m) h = compare_same spec s t l r m h
layer_same spec s t p each (cond.Not e) h = ap not (each e h)
layer_same spec s t p each (cond.And es) h = members_all spec s t p each es h
layer_same spec s t p each (cond.Or es) h = members_any spec s t p each es h

pub cond_same : (spec : Data) (s t : Codes) (c : Cond) → Agree (λ w. cond_names w c) s t → is_true spec s c ≡ is_true spec t c
cond_same spec s t c =
    ind-Cond (λ d. ((w : ℕ) → cond_names w d ≡ true → Same s t w) → is_true spec s d ≡ is_true spec t d)
    (λ x y e h.
    fold-roll-Cond Bool (truth_step spec s) x
    ∙ subst (λ z. ((w : ℕ) → names_step w (map-Cond Cond Bool (cond_names w) z) ≡ true → Same s t w)
    → truth_step spec s (map-Cond Cond Bool (is_true spec s) z) ≡ truth_step spec t (map-Cond Cond Bool (is_true spec t) z)) e
    (layer_same spec s t (λ d. d.0) (λ d. d.1) y)
    (λ w k. h w (fold-roll-Cond Bool (names_step w) x ∙ k))
    ∙ sym (fold-roll-Cond Bool (truth_step spec t) x))
    c

-- ---- events

change_same : (spec : Data) (old s t : Codes) (d : Change) → Agree (λ w. change_reads w d) s t → change_holds spec old s d ≡ change_holds spec old t d
change_same spec old s t (Becomes c) h = ap (λ b. not (is_true spec old c) && b) (cond_same spec s t c h)
change_same spec old s t (Ceases c) h = ap (λ b. is_true spec old c && not b) (cond_same spec s t c h)
change_same spec old s t (Changes v) h = ap (λ z. not (int_eq (code_of old v) z)) (named_same s t v h)
change_same spec old s t Never h = refl

prim_same : (spec : Data) (old s t : Codes) (p : Primitive) → Agree (λ w. prim_reads w p) s t → prim_holds spec old s p ≡ prim_holds spec old t p
prim_same spec old s t p h = ap (λ b. b && guard_holds spec old p.guard) (change_same spec old s t p.change h)

event_same : (spec : Data) (old s t : Codes) (e : Event) → Agree (λ w. event_reads w e) s t → event_true spec old s e ≡ event_true spec old t e
event_same spec old s t e h = any_same prim_reads (Same s t) (prim_holds spec old s) (prim_holds spec old t) (prim_same spec old s t) e.prims h

-- ---- cells

cell_same : (spec : Data) (h : Heading) (old s t : Codes) (c : Cell) → Agree (λ w. cell_reads w c) s t → cell_true spec h old s c ≡ cell_true spec h old t c
cell_same spec heading.Condition old s t (cell.Cond c) h = cond_same spec s t c h
cell_same spec heading.Condition old s t (cell.Event e) h = refl
cell_same spec heading.Event old s t (cell.Cond c) h = refl
cell_same spec heading.Event old s t (cell.Event e) h = event_same spec old s t e h
cell_same spec heading.Modes old s t (cell.Cond c) h = refl
cell_same spec heading.Modes old s t (cell.Event e) h = event_same spec old s t e h

option_cell_same : (spec : Data) (h : Heading) (old s t : Codes) (o : Option Cell) → Agree (λ w. option_map_or (cell_reads w) o false) s t
    → option_map_or (cell_true spec h old s) o false ≡ option_map_or (cell_true spec h old t) o false
option_cell_same spec h old s t None k = refl
option_cell_same spec h old s t (Some c) k = cell_same spec h old s t c k

class_same : (s t : Codes) (class : Option ℕ) (modes : List ℤ) → Agree (λ w. is_class w class) s t → in_modes class modes s ≡ in_modes class modes t
class_same s t None modes h = refl
class_same s t (Some v) modes h = ap (λ z. list_any (λ mode. int_eq z mode) modes) (named_same s t v h)

modes_same : (h : Heading) (old s t : Codes) (class : Option ℕ) (modes : List ℤ) → Agree (λ w. class_reads h w class) s t
    → in_modes class modes (looked_at h old s) ≡ in_modes class modes (looked_at h old t)
modes_same heading.Condition old s t class modes h = class_same s t class modes h
modes_same heading.Event old s t class modes h = refl
modes_same heading.Modes old s t class modes h = refl

-- what a table reads, part by part
pub record AgreeParts (table : Table) (s t : Codes) : Type 0 where
  pub class : Agree (λ w. class_reads table.heading w table.class) s t
  pub rows : Agree (λ w. list_any (row_reads w) table.rows) s t
  pub values : Agree (λ w. list_any (value_reads table.heading w) table.values) s t

pub agree_parts : (table : Table) (s t : Codes) → Agree (λ w. table_reads w table) s t → AgreeParts table s t
unfolding table_reads
agree_parts table s t h =
    let class = λ (w : ℕ). class_reads table.heading w table.class in
    let rows = λ (w : ℕ). list_any (row_reads w) table.rows in
    let values = λ (w : ℕ). list_any (value_reads table.heading w) table.values in
    record {
      class = λ w k. h w (or_left (class w) (rows w || values w) k);
      rows = λ w k. h w (or_right (class w) (rows w || values w) (or_left (rows w) (values w) k));
      values = λ w k. h w (or_right (class w) (rows w || values w) (or_right (rows w) (values w) k));
    }

pub row_cell_same : (spec : Data) (table : Table) (old s t : Codes) (row column : ℕ) (it : Row) → AgreeParts table s t → slice_get table.rows row ≡ Some it
    → row_cell_true spec table old s column it ≡ row_cell_true spec table old t column it
row_cell_same spec table old s t row column it parts there =
    let one : Agree (λ w. option_map_or (cell_reads w) (slice_get it.cells column) false) s t =
    λ w k. parts.rows w (any_there (row_reads w) table.rows row it there (get_any (cell_reads w) it.cells column (slice_get it.cells column) refl k)) in
    ap (λ b. b && option_map_or (cell_true spec table.heading old s) (slice_get it.cells column) false) (modes_same table.heading old s t table.class it.modes parts.class)
    ∙ ap (λ b. in_modes table.class it.modes (looked_at table.heading old t) && b) (option_cell_same spec table.heading old s t (slice_get it.cells column) one)

-- ---- values

option_side_same : (spec : Data) (s t : Codes) (o : Option Expr) → Agree (λ w. option_map_or (side_names w) o false) s t
    → option_map_or (side_value spec s s) o (pos 0) ≡ option_map_or (side_value spec t t) o (pos 0)
option_side_same spec s t None h = refl
option_side_same spec s t (Some e) h = side_same spec s t e h

option_primed_same : (spec : Data) (old s t : Codes) (o : Option Expr) → Agree (λ w. option_map_or (side_primes w) o false) s t
    → option_map_or (side_value spec old s) o (pos 0) ≡ option_map_or (side_value spec old t) o (pos 0)
option_primed_same spec old s t None h = refl
option_primed_same spec old s t (Some e) h = side_primed_same spec old s t e h

pub value_same : (spec : Data) (table : Table) (h : Heading) (old s t : Codes) (it : Row) (column : ℕ) → Agree (λ w. list_any (value_reads h w) table.values) s t
    → cell_value spec table it column h old s ≡ cell_value spec table it column h old t
value_same spec table heading.Condition old s t it column h =
    option_side_same spec s t (slice_get table.values column) (λ w k. h w (get_any (side_names w) table.values column (slice_get table.values column) refl k))
value_same spec table heading.Event old s t it column h =
    option_primed_same spec old s t (slice_get table.values column) (λ w k. h w (get_any (side_primes w) table.values column (slice_get table.values column) refl k))
value_same spec table heading.Modes old s t it column h = refl

-- ---- where nothing that is read changes, no event happens

change_still : (spec : Data) (s t : Codes) (d : Change) → Agree (λ w. change_reads w d) s t → change_holds spec s t d ≡ false
change_still spec s t (Becomes c) h = ap (λ b. not b && is_true spec t c) (cond_same spec s t c h) ∙ elim (is_true spec t c) as (λ b. not b && b ≡ false) [ true ↦ refl | false ↦ refl ]
change_still spec s t (Ceases c) h = ap (λ b. b && not (is_true spec t c)) (cond_same spec s t c h) ∙ elim (is_true spec t c) as (λ b. b && not b ≡ false) [ true ↦ refl | false ↦ refl ]
change_still spec s t (Changes v) h = ap (λ z. not (int_eq z (code_of t v))) (named_same s t v h) ∙ ap not ((Decides-int_eq (code_of t v) (code_of t v)).1 refl)
change_still spec s t Never h = refl

any_still : {X : Type 0} (reads : ℕ → X → Bool) (P : ℕ → Type 0) (f : X → Bool) → ((x : X) → ((w : ℕ) → reads w x ≡ true → P w) → f x ≡ false) → (xs : List X)
    → ((w : ℕ) → list_any (reads w) xs ≡ true → P w) → list_any f xs ≡ false
any_still reads P f one [] h = refl
any_still reads P f one (x ∷ xs) h =
    ap (λ b. b || list_any f xs) (one x (λ w e. h w (or_left (reads w x) (list_any (reads w) xs) e)))
    ∙ any_still reads P f one xs (λ w e. h w (or_right (reads w x) (list_any (reads w) xs) e))

prim_still : (spec : Data) (s t : Codes) (p : Primitive) → Agree (λ w. prim_reads w p) s t → prim_holds spec s t p ≡ false
prim_still spec s t p h = and_left _ (guard_holds spec s p.guard) (change_still spec s t p.change h)

event_still : (spec : Data) (s t : Codes) (e : Event) → Agree (λ w. event_reads w e) s t → event_true spec s t e ≡ false
event_still spec s t e h = any_still prim_reads (Same s t) (prim_holds spec s t) (prim_still spec s t) e.prims h

-- a table with events
abbrev pub HasEvents : Heading → Type 0
HasEvents heading.Condition = ⊥
HasEvents heading.Event = Unit {0}
HasEvents heading.Modes = Unit {0}

cell_still : (spec : Data) (h : Heading) (s t : Codes) (c : Cell) → HasEvents h → Agree (λ w. cell_reads w c) s t → cell_true spec h s t c ≡ false
cell_still spec heading.Condition s t c events h = absurd events
cell_still spec heading.Event s t (cell.Cond c) events h = refl
cell_still spec heading.Event s t (cell.Event e) events h = event_still spec s t e h
cell_still spec heading.Modes s t (cell.Cond c) events h = refl
cell_still spec heading.Modes s t (cell.Event e) events h = event_still spec s t e h

option_still : (spec : Data) (h : Heading) (s t : Codes) (o : Option Cell) → HasEvents h → Agree (λ w. option_map_or (cell_reads w) o false) s t
    → option_map_or (cell_true spec h s t) o false ≡ false
option_still spec h s t None events k = refl
option_still spec h s t (Some c) events k = cell_still spec h s t c events k

pub row_cell_still : (spec : Data) (table : Table) (s t : Codes) (row column : ℕ) (it : Row) → HasEvents table.heading → AgreeParts table s t → slice_get table.rows row ≡ Some it
    → row_cell_true spec table s t column it ≡ false
row_cell_still spec table s t row column it events parts there =
    let one : Agree (λ w. option_map_or (cell_reads w) (slice_get it.cells column) false) s t =
    λ w k. parts.rows w (any_there (row_reads w) table.rows row it there (get_any (cell_reads w) it.cells column (slice_get it.cells column) refl k)) in
    and_right (in_modes table.class it.modes (looked_at table.heading s t)) _ (option_still spec table.heading s t (slice_get it.cells column) events one)
