use Rattle.std.proofs.Common.{◌≡◌, ◌≤◌, map, sym, ap, subst, ◌∙◌}
use Rattle.std.specs.List.{AllByRecursion}
use Rattle.scr_spec.specs.Shown.{data_of}
use Rattle.scr_spec.specs.Domains.{IsTyped}
use Rattle.run_cover.specs.Cells.{cells_of}
use Rattle.scr_spec.specs.declared.spec.Spec.{Spec}
use Rattle.run_cover.specs.Counts.{counted}
use Rattle.run_cover.specs.Tallies.{IsOfStates}
use Rattle.run_cover.proofs.Tallied.{all_none, of_none}
use Rattle.run_cover.proofs.tally.Tally.new.Goals as goal

pub invariant_of-result : goal.invariant_of-result
invariant_of-result c =
    let spec = data_of c.args.checked.now.spec in
    let none : c.in_ok-counts.counts ≡ map (λ cell. counted cell 0) (cells_of spec) =
    c.in_ok-counts.ensures ∙ ap (λ (q : Spec). map (λ cell. counted cell 0) (cells_of (data_of q))) c.spec.ensures in
    record {
      of_states = subst (λ counts. ∥ IsOfStates spec counts c.in_ok-at.at.codes 0 ∥₁) (sym none) (of_none spec c.in_ok-at.at.codes);
      typed = subst (IsTyped spec) (sym c.in_ok-at.ensures) c.requires;
      below = subst (λ counts. AllByRecursion (λ n. n.times ≤ 0) counts) (sym none) (all_none (cells_of spec));
    }
