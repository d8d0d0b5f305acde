use Rattle.std.proofs.Common.{rules}
use Rattle.scr_spec.specs.Data.{Data}
use Rattle.scr_spec.specs.Shown.{data_of}
use Rattle.scr_slice.specs.Slices.{IsSlice}
use Rattle.scr_slice.proofs.Sounds.{slice_sound}
use Rattle.scr_slice.proofs.part.slice.Goals as goal

pub invariant_of-result : goal.invariant_of-result
invariant_of-result c =
    let made : Data = record { name = c.in_ok-name.name; types = c.in_ok-types.types; constants = c.in_ok-constants.constants; variables = c.in_ok-variables.variables; tables = c.in_ok-tables.tables } in
    let is : IsSlice (data_of c.args.checked.now.spec) c.args.keep.now made = record { name = search rules; types = search rules; constants = search rules; variables = search rules; tables = search rules } in
    record { sound = slice_sound (data_of c.args.checked.now.spec) c.args.keep.now made is c.requires c.args.checked.now.spec.sound }

pub returns : goal.returns
returns c = record { name = search rules; types = search rules; constants = search rules; variables = search rules; tables = search rules }
