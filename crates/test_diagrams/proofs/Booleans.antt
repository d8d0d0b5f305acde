-- Atoms on levels of Booleans.
use Rattle.std.proofs.Common.{◌≡◌, ℕ, ◌<◌, pos, true, length, ltb, refl, ap, ◌∙◌, arith}
use Rattle.std.proofs.lemmas.Bool.{and_from, lt-ltb}
use Rattle.std.proofs.lemmas.List.{get_or-map, get_or-replicate, length-replicate}
use Rattle.dd_formula.specs.declared.domain.Domain.{Domain}
use Rattle.dd_formula.specs.Domains.{domain_bound}
use Rattle.dd_build.specs.Atoms.{bound_of, IsAtomOver}
use Rattle.test_diagrams.specs.Worked.{levels_to, one_at}

-- the codes of a Boolean are at most 1
bound_one : (n i : ℕ) → i < n → bound_of (levels_to n (pos 1)) i ≡ 1
bound_one n i lt =
    let d : Domain = record { lo = pos 0; hi = pos 1 } in
    get_or-map domain_bound (levels_to n (pos 1)) i d 0 (omega (arith, length-replicate n d)) ∙ ap domain_bound (get_or-replicate {A = Domain} n i d d lt)

-- so that a level is 1 is an atom on them
pub over_one : (n i : ℕ) → i < n → IsAtomOver (levels_to n (pos 1)) (one_at i)
over_one n i lt =
    let d : Domain = record { lo = pos 0; hi = pos 1 } in
    let inside : ltb i (length (levels_to n (pos 1))) ≡ true = lt-ltb _ _ (omega (arith, length-replicate n d)) in
    let bound = bound_one n i lt in
    and_from _ _ (and_from _ _ inside refl) (lt-ltb _ _ (omega (arith, bound)))
