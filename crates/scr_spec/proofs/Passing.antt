-- A test that follows from another one passes where that passes.
use Rattle.std.proofs.Common.{◌≡◌, Bool, true, ◌&&◌, List, [], ◌∷◌, Option, Some, None, refl, ap, ◌∙◌}
use Rattle.std.specs.Option.{option_map_or}
use Rattle.std.specs.List.{list_all}
use Rattle.std.proofs.lemmas.Bool.{and_parts}
use Rattle.scr_spec.specs.declared.cond.Cond.{Cond}
use Rattle.scr_spec.specs.declared.table.Change.{Change}
use Rattle.scr_spec.specs.declared.table.Change.TheVariants.{Becomes, Ceases, Changes, Never}
use Rattle.scr_spec.specs.declared.table.Primitive.{Primitive}
use Rattle.scr_spec.specs.declared.table.Cell.{Cell}
use Rattle.scr_spec.specs.declared.table.Cell.TheVariants as cell
use Rattle.scr_spec.specs.declared.table.Row.{Row}
use Rattle.scr_spec.specs.declared.table.Table.{Table}
use Rattle.scr_spec.specs.Parts.{change_passes, prim_passes, cell_passes, row_passes, conds_pass}

pub and_true : (a b : Bool) → a ≡ true → b ≡ true → (a && b) ≡ true
and_true a b h k = ap (λ x. x && b) h ∙ k

-- of each member
pub all_imply : {X : Type 0} (p q : X → Bool) → ((x : X) → p x ≡ true → q x ≡ true) → (xs : List X) → list_all p xs ≡ true → list_all q xs ≡ true
all_imply p q f [] h = refl
all_imply p q f (x ∷ xs) h = let b = and_parts (p x) (list_all p xs) h in and_true _ _ (f x (b.0)) (all_imply p q f xs (b.1))

-- of what may be there
pub some_imply : {X : Type 0} (p q : X → Bool) → ((x : X) → p x ≡ true → q x ≡ true) → (o : Option X) → option_map_or p o true ≡ true → option_map_or q o true ≡ true
some_imply p q f None h = refl
some_imply p q f (Some x) h = f x h

change_imply : (p q : Cond → Bool) → ((c : Cond) → p c ≡ true → q c ≡ true) → (d : Change) → change_passes p d ≡ true → change_passes q d ≡ true
change_imply p q f (Becomes c) h = f c h
change_imply p q f (Ceases c) h = f c h
change_imply p q f (Changes v) h = refl
change_imply p q f Never h = refl

prim_imply : (p q : Cond → Bool) → ((c : Cond) → p c ≡ true → q c ≡ true) → (e : Primitive) → prim_passes p e ≡ true → prim_passes q e ≡ true
prim_imply p q f e h =
    let b = and_parts (change_passes p e.change) (option_map_or p e.guard true) h in
    and_true _ _ (change_imply p q f e.change (b.0)) (some_imply p q f e.guard (b.1))

cell_imply : (p q : Cond → Bool) → ((c : Cond) → p c ≡ true → q c ≡ true) → (d : Cell) → cell_passes p d ≡ true → cell_passes q d ≡ true
cell_imply p q f (cell.Cond c) h = f c h
cell_imply p q f (cell.Event e) h = all_imply (prim_passes p) (prim_passes q) (prim_imply p q f) e.prims h

row_imply : (p q : Cond → Bool) → ((c : Cond) → p c ≡ true → q c ≡ true) → (r : Row) → row_passes p r ≡ true → row_passes q r ≡ true
row_imply p q f r h = all_imply (cell_passes p) (cell_passes q) (cell_imply p q f) r.cells h

-- of each condition of a table
pub conds_imply : (p q : Cond → Bool) → ((c : Cond) → p c ≡ true → q c ≡ true) → (t : Table) → conds_pass p t ≡ true → conds_pass q t ≡ true
conds_imply p q f t h = all_imply (row_passes p) (row_passes q) (row_imply p q f) t.rows h
