-- The formula of a condition that joins others, by those of its members.
use Rattle.std.proofs.Common.{◌≡◌, List, map, sym, ap, ◌∙◌}
use Rattle.scr_spec.specs.Data.{Data}
use Rattle.scr_spec.specs.declared.cond.Cond.{Cond, fold-roll-Cond}
use Rattle.scr_spec.specs.declared.cond.Cond.TheVariants.{And, Or, rolls-And, rolls-Or}
use Rattle.scr_spec.specs.declared.cond.Cond.TheOpen as layer
use Rattle.dd_formula.specs.declared.formula.Formula.{Formula}
use Rattle.dd_formula.specs.Joined.{all_of, any_of}
use Rattle.prove_formula.specs.declared.side.Reading.{Reading}
use Rattle.prove_formula.specs.Conditions.{formula_read, condition_step}

-- joined by AND
pub formula_read-And : (spec : Data) (r : Reading) (cs : List Cond) → formula_read spec r (And cs) ≡ all_of (map (formula_read spec r) cs)
formula_read-And spec r cs =
    ap (formula_read spec r) (sym (rolls-And cs)) ∙ fold-roll-Cond Formula (condition_step spec r) (layer.And cs)

-- joined by OR
pub formula_read-Or : (spec : Data) (r : Reading) (cs : List Cond) → formula_read spec r (Or cs) ≡ any_of (map (formula_read spec r) cs)
formula_read-Or spec r cs =
    ap (formula_read spec r) (sym (rolls-Or cs)) ∙ fold-roll-Cond Formula (condition_step spec r) (layer.Or cs)

pub ruleset condition_laws = (formula_read-And, formula_read-Or)
