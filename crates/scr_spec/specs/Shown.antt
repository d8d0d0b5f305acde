-- The parts of a specification.
use Rattle.scr_spec.specs.Data.{Data}
use Rattle.scr_spec.specs.declared.spec.Spec.{Spec}

abbrev pub data_of : Spec → Data
data_of spec = record { name = spec.name; types = spec.types; constants = spec.constants; variables = spec.variables; tables = spec.tables }
