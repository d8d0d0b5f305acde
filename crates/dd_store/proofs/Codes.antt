-- The codes of a level.
use Rattle.std.proofs.Common.{◌≡◌, ℕ, ℤ, pos, negsuc, ◌<◌, ◌^◌, ◌≤ℤ◌, ◌+ℤ◌, List, length, get_or, FitsSigned, to_z, of_z, w64, sym, ap, ap₂, subst, ◌∙◌, arith}
use Rattle.std.proofs.lemmas.Int.{ints, to_z-of_z, to_z_pos}
use Rattle.std.proofs.lemmas.List.{get_or-map}
use Rattle.std.specs.List.{All}
use Rattle.dd_formula.specs.declared.domain.Domain.{Domain}
use Rattle.dd_store.specs.Domains.{size_of, sizes_of, low_of, code_at, IsDomain}

-- a domain in place of one that is not there
pub no_domain : Domain
no_domain = record { lo = pos 0; hi = pos 0 }

-- the domain of a level
abbrev pub domain_at : List Domain → ℕ → Domain
domain_at ds l = get_or ds l no_domain

-- it has 1 to 8,192 codes
pub IsDomain-at : (ds : List Domain) (l : ℕ) → All IsDomain ds → l < length ds → IsDomain (domain_at ds l)
IsDomain-at ds l h lt = h l no_domain lt

-- how many codes the level has
pub size_at : (ds : List Domain) (l : ℕ) → l < length ds → get_or (sizes_of ds) l 0 ≡ size_of (domain_at ds l)
size_at ds l lt = get_or-map size_of ds l no_domain 0 lt

-- its least code
pub low_at : (ds : List Domain) (l : ℕ) → l < length ds → low_of ds l ≡ (domain_at ds l).lo
low_at ds l lt = get_or-map (λ (d : Domain). d.lo) ds l no_domain (pos 0) lt

-- no code of a domain is above its greatest
pub code_within : (d : Domain) (p : ℕ) → IsDomain d → p < size_of d → (d.lo +ℤ pos p) ≤ℤ d.hi
code_within d p h lt = omega (arith, ints, h.some)

-- the code at a position of a level is one of its domain
pub code_at-within : (ds : List Domain) (l p : ℕ) → All IsDomain ds → l < length ds → p < get_or (sizes_of ds) l 0 → code_at ds l p ≤ℤ (domain_at ds l).hi
code_at-within ds l p h lt small =
    subst (λ low. (low +ℤ pos p) ≤ℤ (domain_at ds l).hi) (sym (low_at ds l lt))
    (code_within (domain_at ds l) p (IsDomain-at ds l h lt) (subst (λ n. p < n) (size_at ds l lt) small))

-- a number between two of 64 bits
fits_between : (a b c : ℤ) → a ≤ℤ b → b ≤ℤ c → FitsSigned w64 a → FitsSigned w64 c → FitsSigned w64 b
fits_between (pos a) (pos b) (pos c) le ge fa fc = record { sfits = omega (arith, ints, ge, fc.sfits) }
fits_between (pos a) (pos b) (negsuc c) le ge fa fc = absurd (omega (arith, ints, ge))
fits_between (pos a) (negsuc b) c le ge fa fc = absurd (omega (arith, ints, le))
fits_between (negsuc a) (pos b) (pos c) le ge fa fc = record { sfits = omega (arith, ints, ge, fc.sfits) }
fits_between (negsuc a) (pos b) (negsuc c) le ge fa fc = absurd (omega (arith, ints, ge))
fits_between (negsuc a) (negsuc b) c le ge fa fc = record { sfits = omega (arith, ints, le, fa.sfits) }

-- a code as it is reckoned
pub record IsReckoned (ds : List Domain) (l p : ℕ) (low code : ℤ) : Type 0 where
  pub fits : FitsSigned w64 code
  pub is : to_z w64 (of_z w64 code) ≡ code_at ds l p

-- from the least one and a position
pub reckoned : (ds : List Domain) (l p : ℕ) (d : Domain) → All IsDomain ds → l < length ds → p < get_or (sizes_of ds) l 0 → d ≡ get_or ds l d → FitsSigned w64 d.lo → FitsSigned w64 d.hi
    → IsReckoned ds l p d.lo (to_z w64 (of_z w64 d.lo) +ℤ to_z w64 p)
reckoned ds l p d h lt small e fl fh =
    let own : get_or (sizes_of ds) l 0 ≡ size_of d = get_or-map size_of ds l d 0 lt ∙ ap size_of (sym e) in
    let low : low_of ds l ≡ d.lo = get_or-map (λ (x : Domain). x.lo) ds l d (pos 0) lt ∙ ap (λ (x : Domain). x.lo) (sym e) in
    let is_domain : IsDomain d = subst IsDomain (sym e) (h l d lt) in
    let within = code_within d p is_domain (omega (arith, own)) in
    let few : p < 2 ^ 63 = omega (arith, own, is_domain.few) in
    let fits : FitsSigned w64 (d.lo +ℤ pos p) = fits_between d.lo (d.lo +ℤ pos p) d.hi (omega (arith, ints)) within fl fh in
    let same : to_z w64 (of_z w64 d.lo) +ℤ to_z w64 p ≡ d.lo +ℤ pos p = ap₂ (λ x y. x +ℤ y) (to_z-of_z w64 d.lo fl) (to_z_pos w64 p few) in
    record {
      fits = subst (FitsSigned w64) (sym same) fits;
      is = ap (λ z. to_z w64 (of_z w64 z)) same ∙ to_z-of_z w64 (d.lo +ℤ pos p) fits ∙ ap (λ z. z +ℤ pos p) (sym low);
    }
