-- A formula that has been listed.
use Rattle.std.proofs.Common.{ℕ, sym, ◌∙◌}
use Rattle.dd_formula.specs.declared.formula.Formula.{Formula}
use Rattle.dd_store.specs.Held.{Held, Has}
use Rattle.dd_build.specs.Built.{Keeps}
use Rattle.dd_build.specs.Formulas.{formula_tree, IsListed}
use Rattle.dd_build.proofs.FormulaTrees.{same_tree}

module _ (old new : Held) (f : Formula) (id : ℕ) (keeps : Keeps old new) (built : IsListed old new f id) where
  -- the number has its tree
  pub has_own_tree : Has new id (formula_tree new f)
  has_own_tree = record { known = built.has.known; tree = built.has.tree ∙ sym (same_tree old new keeps f) }
