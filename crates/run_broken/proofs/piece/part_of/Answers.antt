use Rattle.std.proofs.Common.{subst}
use Rattle.scr_spec.specs.Shown.{data_of}
use Rattle.scr_depend.specs.Dependencies.{graph_of}
use Rattle.scr_depend.specs.Results.{IsFaultOf}
use Rattle.run_broken.proofs.Pieces.{slice_right, no_cycle}
use Rattle.run_broken.proofs.piece.part_of.Goals as goal

pub new-requires-clause-right : goal.new-requires-clause-right
new-requires-clause-right c = slice_right c.args.checked.now c.args.keep.now (data_of c.in_ok-part.part) c.requires c.in_ok-part.ensures c.in_ok-part.part.sound

pub unreachable-requires : goal.unreachable-requires
unreachable-requires c =
    no_cycle c.args.checked.now c.args.keep.now (data_of c.in_ok-part.part) c.requires c.in_ok-part.ensures c.in-Err-Circular.field-0-0
    (subst (IsFaultOf (graph_of (data_of c.in_ok-part.part))) c.in-Err-Circular.field-0-is c.in-Err-Circular.ensures.fault)
