-- Values of variables are codes of theirs, and codes and bounds are narrow.
use Rattle.std.proofs.Common.{◌≡◌, ℕ, ◌<◌, ◌≤◌, ℤ, pos, ◌-ℤ◌, true, false, ◌&&◌, List, [], length, refl, sym, subst, arith, inl, inr}
use Rattle.std.specs.Prelude.{Option, Some, None, slice_get, unsigned_abs, int_le, if◌then◌else◌, codes, MatchOption}
use Rattle.std.specs.Option.{option_map, option_map_or, option_and_then}
use Rattle.std.specs.List.{position}
use Rattle.std.specs.Str.{bytes_eq}
use Rattle.std.proofs.lemmas.Bool.{and_parts, leb-true, cases_lt}
use Rattle.std.proofs.lemmas.Int.{ints}
use Rattle.std.proofs.lemmas.List.{get_or_past}
use Rattle.std.proofs.lemmas.List.Quantifiers.{position-Some}
use Rattle.scr_spec.specs.Data.{Data}
use Rattle.dd_formula.specs.declared.domain.Domain.{Domain}
use Rattle.scr_spec.specs.declared.spec.Shape.{Shape}
use Rattle.scr_spec.specs.declared.spec.Shape.TheVariants.{Range, Labels}
use Rattle.scr_spec.specs.declared.spec.TypeDef.{TypeDef}
use Rattle.scr_spec.specs.declared.spec.Kind.{Kind}
use Rattle.scr_spec.specs.declared.spec.Kind.TheVariants.{Boolean, Named, Modes}
use Rattle.scr_spec.specs.declared.spec.Variable.{Variable}
use Rattle.scr_spec.specs.Meaning.{Codes, code_of}
use Rattle.scr_spec.specs.Domains.{list_domain, shape_domain, no_domain, kind_domain, domain_of, IsWithin, IsTyped}
use Rattle.dd_formula.specs.Domains.{is_within}
use Rattle.dd_formula.specs.Domains.{domain_bound}
use Rattle.scr_spec.specs.Roles.{is_monitored_role}
use Rattle.scr_spec.specs.Types.{is_narrow, is_integer_kind, is_bound_sound}
use Rattle.scr_spec.specs.Sound.{IsSound}
use Rattle.scr_spec.proofs.Lookup.{all_get}
use Rattle.scr_spec.proofs.Narrow.{variable_narrow}
use Rattle.scr_depend.specs.Related.{bound_of}
use Rattle.run_step.proofs.Order.{test_within}
use Rattle.base_script.specs.Words.{is_number}
use Rattle.run_script.specs.Values.{number_value, truth_value, range_value, label_value, shape_value, kind_value, value_of}
use Rattle.scr_spec.proofs.Sizes.{code_bounded}

-- ---- values

truth_within : (types : List TypeDef) (word : List ℕ) (code : ℤ) → truth_value word ≡ Some code → IsWithin (kind_domain types Boolean) code
truth_within types word code h =
    elim (bytes_eq word (codes "TRUE")) as (λ t. (if t then Some (pos 1) else (if bytes_eq word (codes "FALSE") then Some (pos 0) else None)) ≡ Some code → IsWithin (kind_domain types Boolean) code) [
      | true ↦ λ k. let e : pos 1 ≡ code = cc in subst (IsWithin (kind_domain types Boolean)) e (record { least = grind (arith, ints); most = grind (arith, ints) })
      | false ↦ λ k.
          elim (bytes_eq word (codes "FALSE")) as (λ s. (if s then Some (pos 0) else None) ≡ Some code → IsWithin (kind_domain types Boolean) code) [
            | true ↦ λ m. let e : pos 0 ≡ code = cc in subst (IsWithin (kind_domain types Boolean)) e (record { least = grind (arith, ints); most = grind (arith, ints) })
            | false ↦ λ m. cc
          ] k
    ] h

range_within : (d : Domain) (word : List ℕ) (code : ℤ) → range_value d word ≡ Some code → IsWithin d code
range_within d word code h =
    elim (is_number word && is_within d (number_value word)) as (λ t. (is_number word && is_within d (number_value word)) ≡ t → (if t then Some (number_value word) else None) ≡ Some code → IsWithin d code) [
      | true ↦ λ e k. let same : number_value word ≡ code = cc in subst (IsWithin d) same (test_within d (number_value word) ((and_parts (is_number word) (is_within d (number_value word)) e).1))
      | false ↦ λ e k. cc
    ] refl h

place_within : (i n : ℕ) → i < n → IsWithin (record { lo = pos 0; hi = pos n -ℤ pos 1 }) (pos i)
place_within i n h = record { least = grind (arith, ints); most = grind (arith, ints) }

label_within : (names : List (List ℕ)) (word : List ℕ) (code : ℤ) → label_value names word ≡ Some code → IsWithin (list_domain names) code
label_within names word code h =
    elim (position (λ name. bytes_eq name word) names) as (λ o. position (λ name. bytes_eq name word) names ≡ o → option_map (λ i. pos i) o ≡ Some code → IsWithin (list_domain names) code) [
      | None ↦ λ e k. cc
      | Some i ↦ λ e k. let same : pos i ≡ code = cc in subst (IsWithin (list_domain names)) same (place_within i (length names) ((position-Some (λ (name : List ℕ). bytes_eq name word) names i [] e).0))
    ] refl h

shape_within : (s : Shape) (word : List ℕ) (code : ℤ) → shape_value s word ≡ Some code → IsWithin (shape_domain s) code
shape_within (Range d) word code h = range_within d word code h
shape_within (Labels names) word code h = label_within names word code h

type_within : (o : Option TypeDef) (word : List ℕ) (code : ℤ) → option_and_then (λ t. shape_value t.shape word) o ≡ Some code → IsWithin (option_map_or (λ t. shape_domain t.shape) o no_domain) code
type_within None word code h = cc
type_within (Some t) word code h = shape_within t.shape word code h

kind_within : (types : List TypeDef) (kind : Kind) (word : List ℕ) (code : ℤ) → kind_value types kind word ≡ Some code → IsWithin (kind_domain types kind) code
kind_within types Boolean word code h = truth_within types word code h
kind_within types (Named k) word code h = type_within (slice_get types k) word code h
kind_within types (Modes names) word code h = label_within names word code h

found_within : (types : List TypeDef) (o : Option Variable) (word : List ℕ) (code : ℤ) → option_and_then (λ (x : Variable). kind_value types x.kind word) o ≡ Some code
    → IsWithin (option_map_or (λ (x : Variable). kind_domain types x.kind) o no_domain) code
found_within types None word code h = cc
found_within types (Some x) word code h = kind_within types x.kind word code h

pub value_within : (spec : Data) (v : ℕ) (word : List ℕ) (code : ℤ) → value_of spec v word ≡ Some code → IsWithin (domain_of spec v) code
value_within spec v word code h = found_within spec.types (slice_get spec.variables v) word code h

-- ---- sizes

within_narrow : (spec : Data) (v : ℕ) (code : ℤ) → IsSound spec → IsWithin (domain_of spec v) code → unsigned_abs code ≤ 1000000
within_narrow spec v code sound h =
    let a = code_bounded (domain_of spec v) code h in
    let b = variable_narrow spec sound v in
    omega (arith, a, b)

pub value_narrow : (spec : Data) (v : ℕ) (word : List ℕ) (code : ℤ) → IsSound spec → value_of spec v word ≡ Some code → unsigned_abs code ≤ 1000000
value_narrow spec v word code sound h = within_narrow spec v code sound (value_within spec v word code h)

pub code_narrow : (spec : Data) (at : Codes) (v : ℕ) → IsSound spec → IsTyped spec at → unsigned_abs (code_of at v) ≤ 1000000
code_narrow spec at v sound typed =
    elim (cases_lt v (length spec.variables)) [
      | inl there ↦ within_narrow spec v (code_of at v) sound (typed.within v there)
      | inr past ↦
          let none : code_of at v ≡ pos 0 = get_or_past at v (pos 0) (omega (arith, past, typed.one_each)) in
          let small : unsigned_abs (pos 0) ≤ 1000000 = omega arith in
          subst (λ (z : ℤ). unsigned_abs z ≤ 1000000) (sym none) small
    ]

bound_found : (types : List TypeDef) (x : Variable) (o : Option ℤ) → option_map_or (λ k. is_monitored_role x.role && is_integer_kind types x.kind && int_le (pos 1) k && is_narrow k) o true ≡ true
    → MatchOption o (Unit {0}) (λ k. unsigned_abs k ≤ 1000000)
bound_found types x None h = tt
bound_found types x (Some k) h = leb-true _ _ ((and_parts (is_monitored_role x.role && is_integer_kind types x.kind && int_le (pos 1) k) (is_narrow k) h).1)

bound_at : (spec : Data) (v : ℕ) (o : Option Variable) → IsSound spec → slice_get spec.variables v ≡ o → MatchOption (option_map_or (λ (x : Variable). x.bound) o None) (Unit {0}) (λ k. unsigned_abs k ≤ 1000000)
bound_at spec v None sound e = tt
bound_at spec v (Some x) sound e = bound_found spec.types x x.bound (all_get (is_bound_sound spec.types) spec.variables v x sound.bounds e)

pub bound_narrow : (spec : Data) (v : ℕ) → IsSound spec → MatchOption (bound_of spec v) (Unit {0}) (λ k. unsigned_abs k ≤ 1000000)
bound_narrow spec v sound = bound_at spec v (slice_get spec.variables v) sound refl

pub ruleset narrow_laws = (value_narrow, code_narrow, bound_narrow)
