-- The lines that `runc` writes.
use Rattle.std.specs.Prelude.{◌≡◌, ℕ, ℤ, if◌then◌else◌, List, [], ◌∷◌, ◌++◌, codes, decimal, eqb}
use Rattle.std.specs.Fmt.{signed_decimal}
use Rattle.std.specs.List.{flat_map, zip, filter_map, starts_with}
use Rattle.c_subset.specs.declared.unit.CObject.{CObject}
use Rattle.c_subset.specs.declared.unit.CItem.{CItem}
use Rattle.c_subset.specs.declared.unit.CUnit.{CUnit}
use Rattle.c_subset.specs.Parts.{object_of}
use Rattle.c_subset.specs.Meaning.{Objects}

-- a space, the object and its number, where the name begins with `v_`
abbrev pub object_text : CObject × ℤ → List ℕ
object_text (object, z) = if starts_with eqb object.name (codes "v_") then codes " " ++ object.name ++ codes "=" ++ signed_decimal z else []

-- the objects among these items, with the numbers of the row in turn
abbrev pub items_text : List CItem → Objects → List ℕ
items_text items row = flat_map object_text (zip (filter_map object_of items) row)

-- how many calls were made, and the number of each object whose name begins with `v_`
abbrev pub objects_text : CUnit → ℕ → Objects → List ℕ
objects_text unit number row = decimal number ++ items_text unit.items row ++ codes "\n"

-- a call that has no meaning, by how many calls there are up to it
abbrev pub overflow_text : ℕ → List ℕ
overflow_text call = codes "call " ++ decimal call ++ codes ": overflow\n"

-- a text that is no unit
abbrev pub refused_text : ℕ → List ℕ
refused_text line = codes "code line " ++ decimal line ++ codes ": refused\n"

-- the text of the item was put behind what was there, and these numbers are left for the items behind it
abbrev pub IsPut : List ℕ → List ℕ → CItem → Objects → Objects → Type 0
IsPut before after item row more = (items : List CItem) → after ++ items_text items more ≡ before ++ items_text (item ∷ items) row
