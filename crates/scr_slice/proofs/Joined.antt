-- A condition that joins others: with other numbers, and what it mentions.
use Rattle.std.proofs.Common.{◌≡◌, ℕ, Bool, List, map, sym, ap, ◌∙◌}
use Rattle.std.specs.List.{list_any}
use Rattle.base.specs.declared.relation.Relation.{Relation}
use Rattle.scr_spec.specs.declared.cond.Expr.{Expr}
use Rattle.scr_spec.specs.declared.cond.Cond.{Cond, fold-roll-Cond}
use Rattle.scr_spec.specs.declared.cond.Cond.TheVariants.{Truth, Holds, Compare, Not, And, Or, rolls-Truth, rolls-Holds, rolls-Compare, rolls-Not, rolls-And, rolls-Or}
use Rattle.scr_spec.specs.declared.cond.Cond.TheOpen as layer
use Rattle.dd_formula.proofs.Lists.{list_any-map}
use Rattle.scr_slice.specs.Mentions.{mentions_step, cond_mentions}
use Rattle.scr_slice.specs.Renumbered.{side_with, cond_with, step_with}

module _ (number : ℕ → ℕ) where
  pub cond_with-Truth : (b : Bool) → cond_with number (Truth b) ≡ Truth b
  cond_with-Truth b = ap (cond_with number) (sym (rolls-Truth b)) ∙ fold-roll-Cond Cond (step_with number) (layer.Truth b) ∙ rolls-Truth b

  pub cond_with-Holds : (v : ℕ) → cond_with number (Holds v) ≡ Holds (number v)
  cond_with-Holds v = ap (cond_with number) (sym (rolls-Holds v)) ∙ fold-roll-Cond Cond (step_with number) (layer.Holds v) ∙ rolls-Holds (number v)

  pub cond_with-Compare : (l : Expr) (r : Relation) (m : Expr) → cond_with number (Compare l r m) ≡ Compare (side_with number l) r (side_with number m)
  cond_with-Compare l r m =
      ap (cond_with number) (sym (rolls-Compare l r m)) ∙ fold-roll-Cond Cond (step_with number) (layer.Compare l r m) ∙ rolls-Compare (side_with number l) r (side_with number m)

  pub cond_with-Not : (c : Cond) → cond_with number (Not c) ≡ Not (cond_with number c)
  cond_with-Not c = ap (cond_with number) (sym (rolls-Not c)) ∙ fold-roll-Cond Cond (step_with number) (layer.Not c) ∙ rolls-Not (cond_with number c)

  pub cond_with-And : (cs : List Cond) → cond_with number (And cs) ≡ And (map (cond_with number) cs)
  cond_with-And cs = ap (cond_with number) (sym (rolls-And cs)) ∙ fold-roll-Cond Cond (step_with number) (layer.And cs) ∙ rolls-And (map (cond_with number) cs)

  pub cond_with-Or : (cs : List Cond) → cond_with number (Or cs) ≡ Or (map (cond_with number) cs)
  cond_with-Or cs = ap (cond_with number) (sym (rolls-Or cs)) ∙ fold-roll-Cond Cond (step_with number) (layer.Or cs) ∙ rolls-Or (map (cond_with number) cs)

pub ruleset with_laws = (cond_with-Truth, cond_with-Holds, cond_with-Compare, cond_with-Not, cond_with-And, cond_with-Or)

-- ---- what it mentions

pub cond_mentions-And : (w : ℕ) (cs : List Cond) → cond_mentions w (And cs) ≡ list_any (cond_mentions w) cs
cond_mentions-And w cs =
    ap (cond_mentions w) (sym (rolls-And cs)) ∙ fold-roll-Cond Bool (mentions_step w) (layer.And cs) ∙ list_any-map (λ t. t) (cond_mentions w) cs

pub cond_mentions-Or : (w : ℕ) (cs : List Cond) → cond_mentions w (Or cs) ≡ list_any (cond_mentions w) cs
cond_mentions-Or w cs =
    ap (cond_mentions w) (sym (rolls-Or cs)) ∙ fold-roll-Cond Bool (mentions_step w) (layer.Or cs) ∙ list_any-map (λ t. t) (cond_mentions w) cs

pub ruleset mentions_laws = (cond_mentions-And, cond_mentions-Or)
