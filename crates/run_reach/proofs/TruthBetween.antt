-- AND and OR between two states.
use Rattle.std.proofs.Common.{◌≡◌, List, sym, ap, ◌∙◌, Bool}
use Rattle.std.specs.List.{list_all, list_any}
use Rattle.std.proofs.lemmas.List.Folds.{list_all-map}
use Rattle.dd_formula.proofs.Lists.{list_any-map}
use Rattle.scr_spec.specs.Data.{Data}
use Rattle.scr_spec.specs.declared.cond.Cond.{Cond, fold-roll-Cond}
use Rattle.scr_spec.specs.declared.cond.Cond.TheVariants.{And, Or, rolls-And, rolls-Or}
use Rattle.scr_spec.specs.declared.cond.Cond.TheOpen as layer
use Rattle.scr_spec.specs.Meaning.{Codes}
use Rattle.prove_formula.specs.Between.{is_true_between, between_step}

-- AND is true where each member is
pub between-And : (spec : Data) (old new : Codes) (cs : List Cond) → is_true_between spec old new (And cs) ≡ list_all (is_true_between spec old new) cs
between-And spec old new cs =
    ap (is_true_between spec old new) (sym (rolls-And cs)) ∙ fold-roll-Cond Bool (between_step spec old new) (layer.And cs) ∙ list_all-map (λ t. t) (is_true_between spec old new) cs

-- OR is true where some member is
pub between-Or : (spec : Data) (old new : Codes) (cs : List Cond) → is_true_between spec old new (Or cs) ≡ list_any (is_true_between spec old new) cs
between-Or spec old new cs =
    ap (is_true_between spec old new) (sym (rolls-Or cs)) ∙ fold-roll-Cond Bool (between_step spec old new) (layer.Or cs) ∙ list_any-map (λ t. t) (is_true_between spec old new) cs

pub ruleset between_laws = (between-And, between-Or)
