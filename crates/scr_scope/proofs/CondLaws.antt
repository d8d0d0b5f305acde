-- A condition that joins others, by each of them.
use Rattle.std.specs.Prelude.{◌≡◌, Bool, List, [], ◌∷◌, map, Option, refl}
use Rattle.std.specs.Option.{option_or}
use Rattle.std.specs.List.{list_all}
use Rattle.std.proofs.Common.{sym, ap, ◌∙◌}
use Rattle.std.proofs.lemmas.List.Folds.{list_all-map}
use Rattle.scr_spec.specs.declared.cond.Cond.{Cond}
use Rattle.scr_spec.specs.declared.cond.Cond.TheVariants as cond
use Rattle.scr_parse.specs.declared.draft.DraftCond.{DraftCond, fold-DraftCond, fold-roll-DraftCond}
use Rattle.scr_parse.specs.declared.draft.DraftCond.TheVariants.{And, Or, rolls-And, rolls-Or}
use Rattle.scr_parse.specs.declared.draft.DraftCond.TheOpen as layer
use Rattle.scr_scope.specs.declared.known.Known.{Known}
use Rattle.scr_scope.specs.Names.{Name}
use Rattle.scr_scope.specs.First.{first_in}
use Rattle.scr_scope.specs.Conditions.{unknown_cond, unknown_step, is_typed_cond, typed_step, is_narrow_cond, narrow_step, cond_of, cond_step}

first_in-map : {X Y Z : Type 0} (f : X → Option Z) (h : Y → X) (ys : List Y) → first_in f (map h ys) ≡ first_in (λ y. f (h y)) ys
first_in-map f h [] = refl
first_in-map f h (y ∷ ys) = ap (option_or (f (h y))) (first_in-map f h ys)

-- any fold at And and at Or
fold_and : (A : Type 0) (step : layer.DraftCond-F A → A) (cs : List DraftCond) → fold-DraftCond A step (And cs) ≡ step (layer.And (map (fold-DraftCond A step) cs))
fold_and A step cs = ap (fold-DraftCond A step) (sym (rolls-And cs)) ∙ fold-roll-DraftCond A step (layer.And cs)

fold_or : (A : Type 0) (step : layer.DraftCond-F A → A) (cs : List DraftCond) → fold-DraftCond A step (Or cs) ≡ step (layer.Or (map (fold-DraftCond A step) cs))
fold_or A step cs = ap (fold-DraftCond A step) (sym (rolls-Or cs)) ∙ fold-roll-DraftCond A step (layer.Or cs)

pub unknown_cond-And : (known : Known) (cs : List DraftCond) → unknown_cond known (And cs) ≡ first_in (unknown_cond known) cs
unknown_cond-And known cs = fold_and (Option Name) (unknown_step known) cs ∙ first_in-map (λ o. o) (unknown_cond known) cs

pub unknown_cond-Or : (known : Known) (cs : List DraftCond) → unknown_cond known (Or cs) ≡ first_in (unknown_cond known) cs
unknown_cond-Or known cs = fold_or (Option Name) (unknown_step known) cs ∙ first_in-map (λ o. o) (unknown_cond known) cs

pub is_typed_cond-And : (known : Known) (cs : List DraftCond) → is_typed_cond known (And cs) ≡ list_all (is_typed_cond known) cs
is_typed_cond-And known cs = fold_and Bool (typed_step known) cs ∙ list_all-map (λ t. t) (is_typed_cond known) cs

pub is_typed_cond-Or : (known : Known) (cs : List DraftCond) → is_typed_cond known (Or cs) ≡ list_all (is_typed_cond known) cs
is_typed_cond-Or known cs = fold_or Bool (typed_step known) cs ∙ list_all-map (λ t. t) (is_typed_cond known) cs

pub is_narrow_cond-And : (known : Known) (cs : List DraftCond) → is_narrow_cond known (And cs) ≡ list_all (is_narrow_cond known) cs
is_narrow_cond-And known cs = fold_and Bool (narrow_step known) cs ∙ list_all-map (λ t. t) (is_narrow_cond known) cs

pub is_narrow_cond-Or : (known : Known) (cs : List DraftCond) → is_narrow_cond known (Or cs) ≡ list_all (is_narrow_cond known) cs
is_narrow_cond-Or known cs = fold_or Bool (narrow_step known) cs ∙ list_all-map (λ t. t) (is_narrow_cond known) cs

pub cond_of-And : (known : Known) (cs : List DraftCond) → cond_of known (And cs) ≡ cond.And (map (cond_of known) cs)
cond_of-And known cs = fold_and Cond (cond_step known) cs

pub cond_of-Or : (known : Known) (cs : List DraftCond) → cond_of known (Or cs) ≡ cond.Or (map (cond_of known) cs)
cond_of-Or known cs = fold_or Cond (cond_step known) cs

pub ruleset unknown_laws = (unknown_cond-And, unknown_cond-Or)

pub ruleset typed_laws = (is_typed_cond-And, is_typed_cond-Or)

pub ruleset narrow_laws = (is_narrow_cond-And, is_narrow_cond-Or)

pub ruleset made_laws = (cond_of-And, cond_of-Or)
