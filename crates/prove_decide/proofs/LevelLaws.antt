-- The levels of a specification: how many codes they have, and that its formulas are over them.
use Rattle.std.proofs.Common.{◌≡◌, ℕ, ℤ, pos, ◌*◌, ◌/◌, ◌<◌, ◌≤◌, ◌^◌, ◌-ℤ◌, ◌≤ℤ◌, ◌&&◌, unsigned_abs, true, List, [], ◌∷◌, length, get_or, Option, Some, None, refl, sym, ap, subst, ◌∙◌, arith, IsTrue}
use Rattle.std.specs.Prelude.{int_le, nat_le, nat_lt, slice_get, sum_by}
use Rattle.std.specs.Option.{option_map_or}
use Rattle.std.specs.List.{All, list_all}
use Rattle.std.proofs.lemmas.Bool.{and_parts, and_from, leb-true, ltb-true, lt-ltb}
use Rattle.std.proofs.lemmas.Int.{ints}
use Rattle.std.proofs.lemmas.List.{get_or-map}
use Rattle.std.proofs.lemmas.List.FromFn.{get_or-map-range_with_len, length-map-range_with_len}
use Rattle.std.proofs.lemmas.List.Sums.{sum_by-cons}
use Rattle.dd_formula.specs.declared.domain.Domain.{Domain}
use Rattle.scr_spec.specs.declared.spec.Shape.{Shape}
use Rattle.scr_spec.specs.declared.spec.Shape.TheVariants.{Range, Labels}
use Rattle.scr_spec.specs.declared.spec.TypeDef.{TypeDef}
use Rattle.scr_spec.specs.declared.spec.Kind.{Kind}
use Rattle.scr_spec.specs.declared.spec.Kind.TheVariants.{Boolean, Named, Modes}
use Rattle.scr_spec.specs.declared.spec.Variable.{Variable}
use Rattle.scr_spec.specs.Data.{Data}
use Rattle.scr_spec.specs.Sound.{IsSound}
use Rattle.scr_spec.specs.Types.{is_narrow, is_list_sound, is_shape_sound, is_type_sound, is_kind_sound}
use Rattle.scr_spec.specs.Domains.{list_domain, shape_domain, kind_domain, no_domain, domain_of}
use Rattle.dd_formula.specs.Domains.{domain_bound}
use Rattle.scr_spec.specs.Over.{variable_bound}
use Rattle.scr_spec.proofs.Lookup.{all_get}
use Rattle.dd_formula.specs.declared.formula.Term.{Term}
use Rattle.dd_formula.specs.declared.formula.Linear.{Linear}
use Rattle.dd_formula.specs.declared.formula.Formula.{Formula}
use Rattle.dd_formula.specs.Measure.{all_atoms}
use Rattle.prove_formula.specs.Measure as own
use Rattle.prove_formula.specs.Measure.{is_own_level, greatest_measure, IsOver}
use Rattle.dd_store.specs.Domains.{IsDomain}
use Rattle.dd_build.specs.Atoms as over
use Rattle.dd_build.specs.Atoms.{bound_of}
use Rattle.dd_build.specs.Formulas.{IsFormulaOver, AreFormulasOver}
use Rattle.prove_decide.specs.Levels.{level_domain, level_domains}
use Rattle.prove_decide.proofs.AtomTests.{all_atoms-implies}

-- ---- 1 to 8,192 codes

le_from : (a b : ℤ) → int_le a b ≡ true → a ≤ℤ b
le_from a b h = grind (arith, ints)

list_codes : (n : ℕ) → 1 ≤ n → n ≤ 64 → IsDomain (record { lo = pos 0; hi = pos n -ℤ pos 1 })
list_codes n some few = record { some = omega (arith, ints, some); few = omega (arith, ints, some, few) }

names_codes : (names : List (List ℕ)) → IsTrue (is_list_sound names) → IsDomain (list_domain names)
names_codes names h =
    let both = and_parts (nat_le 1 (length names)) (nat_le (length names) 64) h in
    list_codes (length names) (leb-true _ _ both.0) (leb-true _ _ both.1)

range_codes : (lo hi : ℤ) → lo ≤ℤ hi → (hi -ℤ lo) ≤ℤ pos 8191 → IsDomain (record { lo = lo; hi = hi })
range_codes lo hi some few = record { some = some; few = omega (arith, ints, some, few) }

shape_codes : (s : Shape) → IsTrue (is_shape_sound s) → IsDomain (shape_domain s)
shape_codes (Range d) h =
    let three = and_parts (is_narrow d.lo && is_narrow d.hi && int_le d.lo d.hi) (int_le (d.hi -ℤ d.lo) (pos 8191)) h in
    let ends = and_parts (is_narrow d.lo && is_narrow d.hi) (int_le d.lo d.hi) three.0 in
    range_codes d.lo d.hi (le_from d.lo d.hi ends.1) (le_from (d.hi -ℤ d.lo) (pos 8191) three.1)
shape_codes (Labels names) h = names_codes names h

one_code : IsDomain no_domain
one_code = record { some = omega (arith, ints); few = omega (arith, ints) }

type_codes : (types : List TypeDef) (k : ℕ) (o : Option TypeDef) → slice_get types k ≡ o → IsTrue (list_all is_type_sound types)
    → IsDomain (option_map_or (λ t. shape_domain t.shape) o no_domain)
type_codes types k None e h = one_code
type_codes types k (Some t) e h = shape_codes t.shape (all_get is_type_sound types k t h e)

kind_codes : (types : List TypeDef) (kind : Kind) → IsTrue (list_all is_type_sound types) → IsTrue (is_kind_sound types kind) → IsDomain (kind_domain types kind)
kind_codes types Boolean h k = record { some = omega (arith, ints); few = omega (arith, ints) }
kind_codes types (Named n) h k = type_codes types n (slice_get types n) refl h
kind_codes types (Modes names) h k = names_codes names k

variable_codes : (spec : Data) → IsSound spec → (v : ℕ) (o : Option Variable) → slice_get spec.variables v ≡ o
    → IsDomain (option_map_or (λ x. kind_domain spec.types x.kind) o no_domain)
variable_codes spec sound v None e = one_code
variable_codes spec sound v (Some x) e =
    kind_codes spec.types x.kind sound.types (all_get (λ x. is_kind_sound spec.types x.kind) spec.variables v x sound.kinds e)

-- how many levels there are
pub how_many : (spec : Data) → length (level_domains spec) ≡ 2 * length spec.variables
how_many spec = length-map-range_with_len (level_domain spec) 0 (2 * length spec.variables)

-- the domain of a level
pub level_there : (spec : Data) (l : ℕ) (d : Domain) → l < 2 * length spec.variables → get_or (level_domains spec) l d ≡ domain_of spec (l / 2)
level_there spec l d lt = get_or-map-range_with_len (level_domain spec) 0 (2 * length spec.variables) l l d lt (omega arith)

-- each level has 1 to 8,192 codes
pub level_codes : (spec : Data) → IsSound spec → All IsDomain (level_domains spec)
level_codes spec sound l d lt =
    subst IsDomain (sym (level_there spec l d (omega (arith, lt, how_many spec)))) (variable_codes spec sound (l / 2) (slice_get spec.variables (l / 2)) refl)

-- ---- formulas over the levels

-- the greatest absolute code of a level
bound_there : (spec : Data) (l : ℕ) → l < 2 * length spec.variables → bound_of (level_domains spec) l ≡ variable_bound spec (l / 2)
bound_there spec l lt =
    let none : Domain = no_domain in
    get_or-map domain_bound (level_domains spec) l none 0 (omega (arith, lt, how_many spec)) ∙ ap domain_bound (level_there spec l none lt)

terms_there : (spec : Data) (ts : List Term) → IsTrue (list_all (is_own_level spec) ts)
    → IsTrue (list_all (λ (term : Term). nat_lt term.level (length (level_domains spec))) ts)
terms_there spec [] h = refl
terms_there spec (t ∷ ts) h =
    let both = and_parts (is_own_level spec t) (list_all (is_own_level spec) ts) h in
    and_from _ _ (ap (λ n. nat_lt t.level n) (how_many spec) ∙ both.0) (terms_there spec ts both.1)

terms_measure : (spec : Data) (ts : List Term) → IsTrue (list_all (is_own_level spec) ts)
    → sum_by (over.term_measure (level_domains spec)) ts ≡ sum_by (own.term_measure spec) ts
terms_measure spec [] h = refl
terms_measure spec (t ∷ ts) h =
    let both = and_parts (is_own_level spec t) (list_all (is_own_level spec) ts) h in
    let here : over.term_measure (level_domains spec) t ≡ own.term_measure spec t =
    ap (λ b. unsigned_abs t.factor * b) (bound_there spec t.level (ltb-true t.level (2 * length spec.variables) both.0)) in
    let rest = terms_measure spec ts both.1 in
    let left = sum_by-cons (over.term_measure (level_domains spec)) t ts in
    let right = sum_by-cons (own.term_measure spec) t ts in
    omega (arith, here, rest, left, right)

atom_there : (spec : Data) (a : Linear) → own.is_atom_over spec a ≡ true → over.is_atom_over (level_domains spec) a ≡ true
atom_there spec a h =
    let both = and_parts (list_all (is_own_level spec) a.terms) (nat_le (own.measure spec a) greatest_measure) h in
    let small = leb-true (own.measure spec a) greatest_measure both.1 in
    let same = terms_measure spec a.terms both.0 in
    and_from _ _ (terms_there spec a.terms both.0) (lt-ltb (over.measure (level_domains spec) a) (2 ^ 62) (omega (arith, small, same)))

-- a formula of the specification is one over its levels
pub over_levels : (spec : Data) (f : Formula) → IsOver spec f → IsFormulaOver (level_domains spec) f
over_levels spec f h = all_atoms-implies (own.is_atom_over spec) (over.is_atom_over (level_domains spec)) (atom_there spec) f h

-- so are several
pub all_over_levels : (spec : Data) (fs : List Formula) → IsTrue (list_all (all_atoms (own.is_atom_over spec)) fs) → AreFormulasOver (level_domains spec) fs
all_over_levels spec [] h = refl
all_over_levels spec (f ∷ fs) h =
    let both = and_parts (all_atoms (own.is_atom_over spec) f) (list_all (all_atoms (own.is_atom_over spec)) fs) h in
    and_from _ _ (over_levels spec f both.0) (all_over_levels spec fs both.1)
