-- The truth of a condition that joins others, by the truth of each.
use Rattle.std.specs.Prelude.{◌≡◌, Bool, List}
use Rattle.std.specs.List.{list_all, list_any}
use Rattle.std.proofs.Common.{sym, ap, ◌∙◌}
use Rattle.std.proofs.lemmas.List.Folds.{list_all-map}
use Rattle.dd_formula.proofs.Lists.{list_any-map}
use Rattle.scr_spec.specs.Data.{Data}
use Rattle.scr_spec.specs.declared.cond.Cond.{Cond, fold-roll-Cond}
use Rattle.scr_spec.specs.declared.cond.Cond.TheVariants.{And, Or, rolls-And, rolls-Or}
use Rattle.scr_spec.specs.declared.cond.Cond.TheOpen as layer
use Rattle.scr_spec.specs.Meaning.{Codes, is_true, truth_step}
use Rattle.scr_spec.specs.Over.{is_cond_over, over_step}

-- AND is true where each member is
pub is_true-And : (spec : Data) (at : Codes) (cs : List Cond) → is_true spec at (And cs) ≡ list_all (is_true spec at) cs
is_true-And spec at cs =
    ap (is_true spec at) (sym (rolls-And cs)) ∙ fold-roll-Cond Bool (truth_step spec at) (layer.And cs) ∙ list_all-map (λ t. t) (is_true spec at) cs

-- OR is true where some member is
pub is_true-Or : (spec : Data) (at : Codes) (cs : List Cond) → is_true spec at (Or cs) ≡ list_any (is_true spec at) cs
is_true-Or spec at cs =
    ap (is_true spec at) (sym (rolls-Or cs)) ∙ fold-roll-Cond Bool (truth_step spec at) (layer.Or cs) ∙ list_any-map (λ t. t) (is_true spec at) cs

-- AND is over a specification where each member is
pub is_cond_over-And : (spec : Data) (cs : List Cond) → is_cond_over spec (And cs) ≡ list_all (is_cond_over spec) cs
is_cond_over-And spec cs =
    ap (is_cond_over spec) (sym (rolls-And cs)) ∙ fold-roll-Cond Bool (over_step spec) (layer.And cs) ∙ list_all-map (λ t. t) (is_cond_over spec) cs

-- OR is where each member is
pub is_cond_over-Or : (spec : Data) (cs : List Cond) → is_cond_over spec (Or cs) ≡ list_all (is_cond_over spec) cs
is_cond_over-Or spec cs =
    ap (is_cond_over spec) (sym (rolls-Or cs)) ∙ fold-roll-Cond Bool (over_step spec) (layer.Or cs) ∙ list_all-map (λ t. t) (is_cond_over spec) cs

-- the four equations
pub ruleset cond_laws = (is_true-And, is_true-Or, is_cond_over-And, is_cond_over-Or)
