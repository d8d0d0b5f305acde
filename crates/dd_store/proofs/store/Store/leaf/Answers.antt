use Rattle.std.proofs.Common.{Bool, true, false, arith}
use mir.Val.{bool_byte}
use Rattle.dd_tree.specs.Tree.{leaf}
use Rattle.dd_store.specs.Held.{Held, Has}
use Rattle.dd_store.proofs.Trees.{at_false, at_true, length-trees}
use Rattle.dd_store.proofs.store.Store.leaf.Goals as goal

-- each leaf has its number
has_leaf : (held : Held) (b : Bool) → Has held (bool_byte b) (leaf b)
has_leaf held false = record { known = omega (arith, length-trees held); tree = at_false held }
has_leaf held true = record { known = omega (arith, length-trees held); tree = at_true held }

pub returns : goal.returns
returns c held = has_leaf held c.args.value
