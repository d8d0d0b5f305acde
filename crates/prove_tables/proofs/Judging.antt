-- The verdict on goals, as their formulas are listed one after another.
use Rattle.std.proofs.Common.{◌≡◌, ℕ, ◌+◌, ◌<◌, ◌≤◌, List, length, get_or, map, Some, refl, sym, ap, ◌∙◌, arith}
use Rattle.std.specs.Prelude.{slice_get}
use Rattle.std.proofs.lemmas.List.{length-map, get_or-map}
use Rattle.scr_spec.specs.Data.{Data}
use Rattle.scr_spec.proofs.Lookup.{get_read}
use Rattle.scr_depend.specs.Dependencies.{graph_of}
use Rattle.scr_depend.specs.Needs.{IsNeed}
use Rattle.dd_formula.specs.declared.formula.Formula.{Formula}
use Rattle.prove_goals.specs.declared.goal.Goal.{Goal}
use Rattle.prove_goals.specs.Goals.{goals_of}
use Rattle.prove_goals.specs.Formulas.{goal_formula_of}
use Rattle.dd_store.specs.Held.{Held}
use Rattle.dd_build.specs.Formulas.{AreOver, listing_trees}
use Rattle.prove_decide.specs.declared.witness.Witness.{Witness}
use Rattle.prove_tables.specs.declared.verdict.Verdict.TheVariants.{Yes, No, Undecided}
use Rattle.prove_decide.specs.Levels.{level_domains}
use Rattle.prove_tables.specs.Verdicts.{HasVerdict}
use Rattle.prove_decide.specs.Decisions.{IsExcluded, IsFound, IsBare}
use Rattle.prove_decide.proofs.Progress.{IsThrough, IsThrough-start, all_passed, passes_limit, fails_at, IsThrough-next}

-- the first i goals of v have been listed, and none of them fails
pub record IsJudging (held : Held) (spec : Data) (order need : List ℕ) (v limit i : ℕ) : Type 0 where
  pub needed : IsNeed (graph_of spec) v need
  pub through : IsThrough held (level_domains spec) limit (map (goal_formula_of spec order need v) (goals_of spec v)) i

pub IsJudging-start : (held : Held) (spec : Data) (order need : List ℕ) (v limit : ℕ) → IsNeed (graph_of spec) v need → IsBare (level_domains spec) limit held → IsJudging held spec order need v limit 0
IsJudging-start held spec order need v limit needed bare = record {
  needed = needed;
  through = IsThrough-start held (level_domains spec) limit (map (goal_formula_of spec order need v) (goals_of spec v)) bare.domains bare.limited bare.trees_are bare.is_held;
}

-- a mapped member
pub mapped_there : {X Y : Type 0} (h : X → Y) (xs : List X) (i : ℕ) (x : X) (y : Y) → i < length xs → x ≡ get_or xs i x → y ≡ h x → slice_get (map h xs) i ≡ Some y
mapped_there h xs i x y lt e is = get_read (map h xs) i y (omega (arith, lt, length-map xs h)) (is ∙ ap h e ∙ sym (get_or-map h xs i x y lt))

module _ (held : Held) (spec : Data) (order need : List ℕ) (v limit i : ℕ) (j : IsJudging held spec order need v limit i) where
  -- all pass
  pub judged_yes : length (goals_of spec v) ≤ i → HasVerdict spec order v limit Yes
  judged_yes le = record {
    need = need;
    needed = j.needed;
    verdict_is = all_passed held (level_domains spec) limit (map (goal_formula_of spec order need v) (goals_of spec v)) i j.through (omega (arith, le, length-map (goals_of spec v) (goal_formula_of spec order need v)));
  }

  module _ (goal : Goal) (lt : i < length (goals_of spec v)) (is : goal ≡ get_or (goals_of spec v) i goal) where
    -- the formula of the goal
    abbrev f : Formula
    f = goal_formula_of spec order need v goal

    -- the formula of the goal comes next
    there : slice_get (map (goal_formula_of spec order need v) (goals_of spec v)) i ≡ Some f
    there = mapped_there (goal_formula_of spec order need v) (goals_of spec v) i goal f lt is refl

    pub judged_undecided : AreOver held (listing_trees held f) → HasVerdict spec order v limit Undecided
    judged_undecided over = record {
      need = need;
      needed = j.needed;
      verdict_is = passes_limit held (level_domains spec) limit (map (goal_formula_of spec order need v) (goals_of spec v)) i j.through f there over;
    }

    pub judged_no : (new : Held) (w : Witness) → IsFound held new f w → HasVerdict spec order v limit (No goal w)
    judged_no new w found = record {
      need = need;
      needed = j.needed;
      verdict_is = record {
        number = i;
        there = get_read (goals_of spec v) i goal lt is;
        fails = fails_at held (level_domains spec) limit (map (goal_formula_of spec order need v) (goals_of spec v)) i j.through f there new w found;
      };
    }

    pub IsJudging-next : (new : Held) → IsExcluded held new f → IsJudging new spec order need v limit (i + 1)
    IsJudging-next new excluded = record {
      needed = j.needed;
      through = IsThrough-next held (level_domains spec) limit (map (goal_formula_of spec order need v) (goals_of spec v)) i j.through f there new excluded;
    }
