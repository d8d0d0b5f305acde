use Rattle.std.proofs.Common.{rules, ◌≡◌, ℕ, zero, suc, ◌-◌, ◌++◌, ℤ, pos, List, [], ◌∷◌, length, take, replicate, w64, to_z, of_z, FitsSigned, ap, ap₂, subst, refl, ◌∙◌, arith, IfOk}
use Rattle.std.proofs.lemmas.Int.{to_z-of_z}
use Rattle.dd_formula.specs.declared.domain.Domain.{Domain}
use Rattle.test_diagrams.specs.Worked.{levels_to}
use Rattle.test_diagrams.proofs.stores.equal_levels.Goals as goal

-- the domain of each level
abbrev to : ℤ → Domain
to greatest = record { lo = pos 0; hi = greatest }

-- none of no elements
none_of : (k : ℕ) → take k (let none : List Domain = [] in none) ≡ []
none_of zero = refl
none_of (suc k) = refl

-- no elements, and so many behind them
grown : (count len : ℕ) (items : List Domain) (d e : Domain) → items ≡ [] → len ≡ 0 → d ≡ e → take count items ++ replicate (count - len) d ≡ replicate count e
grown count len items d e none zero_long same =
    let whole : count - len ≡ count = omega (arith, zero_long) in
    ap₂ (λ (xs : List Domain) (n : ℕ). take count xs ++ replicate n d) none whole ∙ ap (λ xs. xs ++ replicate count d) (none_of count) ∙ ap (replicate count) same

pub returns-clause-domains : goal.returns-clause-domains
returns-clause-domains c =
    let fits : FitsSigned w64 c.args.greatest = search rules in
    let made : c.resize.new.self.items ≡ levels_to c.args.count c.args.greatest =
    c.in_ok-resize.ensures.items ∙ grown c.args.count _ c.new-domains.result.items (to (to_z w64 (of_z w64 c.args.greatest))) (to c.args.greatest) c.new-domains.ensures.items c.new-domains.ensures.len (ap to (to_z-of_z w64 c.args.greatest fits)) in
    subst (λ ds. IfOk c.new.result (λ store. store.domains ≡ ds)) made c.new.ensures.domains
