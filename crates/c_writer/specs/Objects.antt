-- The names in the unit of a specification. A variable has two objects: one with its new code, and one in which its old
-- code is saved.
use Rattle.std.specs.Prelude.{ℕ, List, ◌++◌, codes}
use Rattle.scr_spec.specs.Data.{Data}
use Rattle.scr_spec.specs.Names.{variable_name}
use Rattle.c_writer.specs.declared.objects.Moment.{Moment}
use Rattle.c_writer.specs.declared.objects.Moment.TheVariants.{Old, New}

abbrev pub new_name : List ℕ → List ℕ
new_name name = codes "v_" ++ name

abbrev pub old_name : List ℕ → List ℕ
old_name name = codes "o_" ++ name

-- the object with the new code of a variable
abbrev pub new_object : Data → ℕ → List ℕ
new_object spec v = new_name (variable_name spec v)

-- the object with its old code
abbrev pub old_object : Data → ℕ → List ℕ
old_object spec v = old_name (variable_name spec v)

-- the object of the code in the old state, or in the new one
abbrev pub object_of : Data → Moment → ℕ → List ℕ
object_of spec Old = old_object spec
object_of spec New = new_object spec

abbrev pub save_name : List ℕ
save_name = codes "save"

abbrev pub step_name : List ℕ
step_name = codes "step"

-- the parameter of a setter
abbrev pub argument_name : List ℕ
argument_name = codes "a"
