-- The names that a specification declares.
pub use Rattle.base.specs.Bytes.{is_spelt}
use Rattle.std.specs.Prelude.{ℕ, Bool, ◌&&◌, nat_le, List, [], ◌∷◌, ◌++◌, length, is_none}
use Rattle.std.specs.List.{flat_map}
use Rattle.base.specs.declared.limits.TheConstants.{NAME_LIMIT}
use Rattle.scr_tokens.specs.Words.{keyword_of}
use Rattle.scr_spec.specs.declared.spec.TypeDef.{TypeDef}
use Rattle.scr_spec.specs.declared.spec.Constant.{Constant}
use Rattle.scr_spec.specs.declared.spec.Variable.{Variable}
use Rattle.scr_spec.specs.Data.{Data}
use Rattle.scr_spec.specs.Types.{shape_labels, kind_modes}

-- within the limit on names, and no reserved word
abbrev pub is_name : List ℕ → Bool
is_name bytes = is_spelt bytes && nat_le (length bytes) NAME_LIMIT && is_none (keyword_of bytes)

-- a type and its enumerators
abbrev pub type_names : TypeDef → List (List ℕ)
type_names t = t.name ∷ shape_labels t.shape

abbrev pub constant_names : Constant → List (List ℕ)
constant_names c = c.name ∷ []

-- a variable, and the modes of a class
abbrev pub variable_names : Variable → List (List ℕ)
variable_names x = x.name ∷ kind_modes x.kind

-- all names of the one space; the name of the specification is not in it
abbrev pub declared_names : Data → List (List ℕ)
declared_names spec = flat_map type_names spec.types ++ flat_map constant_names spec.constants ++ flat_map variable_names spec.variables
