use Rattle.std.proofs.Common.{◌≡◌, ◌≤◌, ◌+◌, map, sym, ap, subst, ◌∙◌}
use Rattle.std.specs.List.{AllByRecursion}
use Rattle.scr_spec.specs.Shown.{data_of}
use Rattle.scr_spec.specs.Domains.{IsTyped}
use Rattle.scr_spec.specs.declared.spec.Spec.{Spec}
use Rattle.run_cover.specs.Counts.{raised}
use Rattle.run_cover.specs.Tallies.{IsOfStates}
use Rattle.run_cover.proofs.Tallied.{all_raised, of_noted}
use Rattle.run_cover.proofs.tally.Tally.note.Goals as goal

pub invariant_of-self : goal.invariant_of-self
invariant_of-self c =
    let s = c.args.self.now in
    let spec = data_of s.checked.now.spec in
    let next = c.args.next.now.codes in
    let grown : c.raise_all.new.counts ≡ map (raised spec s.at.codes next) s.counts = c.raise_all.ensures ∙ ap (λ (q : Spec). map (raised (data_of q) s.at.codes next) s.counts) c.spec.ensures in
    record {
      of_states = subst (λ codes. ∥ IsOfStates spec c.raise_all.new.counts codes (s.notes + 1) ∥₁) (sym c.copy_codes.ensures)
          (subst (λ counts. ∥ IsOfStates spec counts next (s.notes + 1) ∥₁) (sym grown) (of_noted spec s.counts s.at.codes s.notes next s.of_states));
      typed = subst (IsTyped spec) (sym c.copy_codes.ensures) c.requires.typed;
      below = subst (λ counts. AllByRecursion (λ n. n.times ≤ s.notes + 1) counts) (sym c.raise_all.ensures)
          (all_raised s.notes (data_of c.spec.result.now) s.at.codes c.args.next.now.codes s.counts s.below);
    }
