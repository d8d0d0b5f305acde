-- The codes from which an initial state is made.
use Rattle.std.proofs.Common.{◌≡◌, ℕ, ◌≤◌, ℤ, pos, ◌-ℤ◌, ◌≤ℤ◌, ◌&&◌, true, List, length, refl, sym, ap, subst, ◌∙◌, arith, inl, inr}
use Rattle.std.specs.Prelude.{Option, Some, None, slice_get, unwrap_or, int_le, nat_le}
use Rattle.std.specs.Option.{option_map_or, option_map}
use Rattle.std.specs.List.{list_all}
use Rattle.std.proofs.lemmas.Bool.{and_parts, leb-true}
use Rattle.std.proofs.lemmas.Int.{ints}
use Rattle.std.proofs.lemmas.List.{length-map}
use Rattle.std.proofs.lemmas.Option.{slice_get-map, slice_get_cases, get_or_from_slice_get}
use Rattle.scr_spec.specs.Data.{Data}
use Rattle.dd_formula.specs.declared.domain.Domain.{Domain}
use Rattle.scr_spec.specs.declared.spec.Shape.{Shape}
use Rattle.scr_spec.specs.declared.spec.Shape.TheVariants.{Range, Labels}
use Rattle.scr_spec.specs.declared.spec.TypeDef.{TypeDef}
use Rattle.scr_spec.specs.declared.spec.Kind.{Kind}
use Rattle.scr_spec.specs.declared.spec.Kind.TheVariants.{Boolean, Named, Modes}
use Rattle.scr_spec.specs.declared.spec.Variable.{Variable}
use Rattle.scr_spec.specs.Meaning.{code_of}
use Rattle.scr_spec.specs.Types.{is_narrow, is_range_sound, is_list_sound, is_shape_sound, is_type_sound, is_kind_sound}
use Rattle.scr_spec.specs.Domains.{list_domain, shape_domain, no_domain, kind_domain, domain_of, IsTyped, IsWithin}
use Rattle.scr_spec.specs.Sound.{IsSound}
use Rattle.scr_spec.proofs.Lookup.{all_get}
use Rattle.run_step.specs.Settled.{IsBegun, start_code, start_codes}
use Rattle.run_step.proofs.Order.{le_from, init_within}

-- ---- each variable has a least code

abbrev HasLeast : Domain → Type 0
HasLeast d = IsWithin d d.lo

least_from : (d : Domain) → d.lo ≤ℤ d.hi → HasLeast d
least_from d h = record { least = grind (arith, ints); most = h }

first_place : (n : ℕ) → 1 ≤ n → pos 0 ≤ℤ (pos n -ℤ pos 1)
first_place n h = grind (arith, ints)

list_least : (names : List (List ℕ)) → is_list_sound names ≡ true → HasLeast (list_domain names)
list_least names h = least_from (list_domain names) (first_place (length names) (leb-true _ _ ((and_parts (nat_le 1 (length names)) (nat_le (length names) 64) h).0)))

range_least : (d : Domain) → is_range_sound d ≡ true → HasLeast d
range_least d h =
    let three = (and_parts (is_narrow d.lo && is_narrow d.hi && int_le d.lo d.hi) (int_le (d.hi -ℤ d.lo) (pos 8191)) h).0 in
    least_from d (le_from d.lo d.hi ((and_parts (is_narrow d.lo && is_narrow d.hi) (int_le d.lo d.hi) three).1))

shape_least : (s : Shape) → is_shape_sound s ≡ true → HasLeast (shape_domain s)
shape_least (Range d) h = range_least d h
shape_least (Labels names) h = list_least names h

none_least : HasLeast no_domain
none_least = least_from no_domain (grind (arith, ints))

type_least : (types : List TypeDef) (k : ℕ) (o : Option TypeDef) → slice_get types k ≡ o → list_all is_type_sound types ≡ true
    → HasLeast (option_map_or (λ t. shape_domain t.shape) o no_domain)
type_least types k None e h = none_least
type_least types k (Some t) e h = shape_least t.shape (all_get is_type_sound types k t h e)

kind_least : (types : List TypeDef) (kind : Kind) → list_all is_type_sound types ≡ true → is_kind_sound types kind ≡ true → HasLeast (kind_domain types kind)
kind_least types Boolean h k = least_from (kind_domain types Boolean) (grind (arith, ints))
kind_least types (Named n) h k = type_least types n (slice_get types n) refl h
kind_least types (Modes names) h k = list_least names k

-- ---- the codes at the start

start_at : (spec : Data) (v : ℕ) (x : Variable) → slice_get spec.variables v ≡ Some x → code_of (start_codes spec) v ≡ start_code spec.types x
start_at spec v x e =
    get_or_from_slice_get (start_codes spec) v (start_code spec.types x) (pos 0) (slice_get-map (start_code spec.types) spec.variables v ∙ ap (option_map (start_code spec.types)) e)

start_init : (o : Option ℤ) (code least : ℤ) → o ≡ Some code → unwrap_or o least ≡ code
start_init o code least e = ap (λ (q : Option ℤ). unwrap_or q least) e

start_within : (spec : Data) (v : ℕ) (x : Variable) (o : Option ℤ) → IsSound spec → slice_get spec.variables v ≡ Some x → x.init ≡ o → IsWithin (kind_domain spec.types x.kind) (unwrap_or o (kind_domain spec.types x.kind).lo)
start_within spec v x None sound e i = kind_least spec.types x.kind sound.types (all_get (λ (y : Variable). is_kind_sound spec.types y.kind) spec.variables v x sound.kinds e)
start_within spec v x (Some code) sound e i =
    subst (λ d. IsWithin d code) (ap (λ (q : Option Variable). option_map_or (λ (y : Variable). kind_domain spec.types y.kind) q no_domain) e)
    (init_within spec v code sound (ap (λ (q : Option Variable). option_map_or (λ (y : Variable). y.init) q None) e ∙ i))

start_typed : (spec : Data) → IsSound spec → IsTyped spec (start_codes spec)
start_typed spec sound = record {
  one_each = length-map spec.variables (start_code spec.types);
  within = λ v there.
      elim (slice_get_cases spec.variables v).1 [
        | inl found ↦
            subst (λ (z : ℤ). IsWithin (domain_of spec v) z) (sym (start_at spec v found.0 found.2))
            (subst (λ d. IsWithin d (start_code spec.types found.0)) (sym (ap (λ (q : Option Variable). option_map_or (λ (y : Variable). kind_domain spec.types y.kind) q no_domain) found.2))
            (start_within spec v found.0 found.0.init sound found.2 refl))
        | inr past ↦ absurd (omega (arith, there, past.0))
      ];
}

start_written : (spec : Data) (v : ℕ) (code : ℤ) (o : Option Variable) → slice_get spec.variables v ≡ o → option_map_or (λ (y : Variable). y.init) o None ≡ Some code → code_of (start_codes spec) v ≡ code
start_written spec v code None e h = cc
start_written spec v code (Some x) e h = start_at spec v x e ∙ start_init x.init code (kind_domain spec.types x.kind).lo h

pub begun_first : (spec : Data) (list : List ℕ) → IsSound spec → IsBegun spec list 0 (start_codes spec)
begun_first spec list sound = record {
  typed = start_typed spec sound;
  written = λ v code init. start_written spec v code (slice_get spec.variables v) refl init;
  own = λ j below condition. absurd (omega arith);
}
