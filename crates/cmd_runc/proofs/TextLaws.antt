-- The texts of the objects, one item after another.
use Rattle.std.proofs.Common.{◌≡◌, ℕ, ℤ, List, [], ◌∷◌, ◌++◌, refl, sym, ap, ◌∙◌, append_assoc}
use Rattle.std.specs.List.{flat_map, zip, filter_map}
use Rattle.c_subset.specs.declared.unit.CObject.{CObject}
use Rattle.c_subset.specs.declared.unit.CFunction.{CFunction}
use Rattle.c_subset.specs.declared.unit.CItem.TheVariants.{Object, Function}
use Rattle.c_subset.specs.Parts.{object_of}
use Rattle.c_subset.specs.Meaning.{Objects}
use Rattle.cmd_runc.specs.Texts.{object_text, items_text, IsPut}

pub function_put : (before : List ℕ) (f : CFunction) (row : Objects) → IsPut before before (Function f) row row
function_put before f row = λ items. refl

nothing : (objects : List CObject) → flat_map object_text (zip objects []) ≡ []
nothing [] = refl
nothing (o ∷ os) = refl

pub none_put : (before : List ℕ) (o : CObject) (row : Objects) → row ≡ [] → IsPut before before (Object o) row row
none_put before o row e = λ items.
    ap (λ r. before ++ items_text items r) e ∙ ap (λ t. before ++ t) (nothing (filter_map object_of items) ∙ sym (nothing (o ∷ filter_map object_of items)))
    ∙ ap (λ r. before ++ items_text (Object o ∷ items) r) (sym e)

pub object_put : (before after : List ℕ) (o : CObject) (row more : Objects) (z : ℤ) → row ≡ z ∷ more → after ≡ before ++ object_text (o, z) → IsPut before after (Object o) row more
object_put before after o row more z e put = λ items.
    ap (λ t. t ++ items_text items more) put ∙ append_assoc before (object_text (o, z)) (items_text items more)
    ∙ ap (λ r. before ++ items_text (Object o ∷ items) r) (sym e)

pub ruleset put_laws = (function_put, none_put, object_put)
