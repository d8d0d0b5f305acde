-- Each variable has a type that is there, the right kind for its role, a bound that it may have, and an initial value of
-- its own where it has one.
use Rattle.std.proofs.Common.{◌≡◌, ℕ, ◌<◌, ◌≤◌, ℤ, pos, Bool, true, false, not, ◌&&◌, ◌||◌, List, [], ◌∷◌, ◌++◌, length, Option, Some, None, is_some, refl, sym, ap, ◌∙◌, arith, ◌-ℤ◌}
use Rattle.std.specs.Prelude.{nat_lt, nat_le, int_le, int_lt, slice_get, slice_set, unwrap_or, position}
use Rattle.std.specs.Ordering.{int_eq}
use Rattle.std.specs.Option.{option_map, option_map_or, option_and_then}
use Rattle.std.specs.List.{list_all}
use Rattle.std.specs.Str.{bytes_eq}
use Rattle.std.proofs.lemmas.Bool.{and_parts, leb-true, eqb-true}
use Rattle.std.proofs.lemmas.Int.{ints}
use Rattle.std.proofs.lemmas.List.Quantifiers.{position-Some}
use Rattle.scr_spec.specs.declared.cond.Owner.TheVariants as owner
use Rattle.scr_spec.specs.declared.sort.Sort.TheVariants as sort
use Rattle.scr_spec.specs.declared.spec.Shape.{Shape}
use Rattle.scr_spec.specs.declared.spec.Shape.TheVariants.{Range, Labels}
use Rattle.scr_spec.specs.declared.spec.Role.{Role}
use Rattle.scr_spec.specs.declared.spec.Role.TheVariants as role
use Rattle.scr_spec.specs.declared.spec.Kind.{Kind}
use Rattle.scr_spec.specs.declared.spec.Kind.TheVariants as kind
use Rattle.scr_spec.specs.declared.spec.TypeDef.{TypeDef}
use Rattle.scr_spec.specs.declared.spec.Variable.{Variable}
use Rattle.scr_spec.specs.Data.{Data}
use Rattle.scr_spec.specs.Roles.{is_monitored_role, is_class_role, is_computed_role}
use Rattle.scr_spec.specs.Sorts.{is_sort, shape_range, type_range, type_sort, kind_range}
use Rattle.scr_spec.specs.Domains.{list_domain, shape_domain, no_domain, kind_domain}
use Rattle.dd_formula.specs.Domains.{is_within}
use Rattle.scr_spec.specs.Types.{is_narrow, is_list_sound, is_kind_sound, is_integer_kind, is_bound_sound, shape_labels}
use Rattle.scr_spec.specs.Over.{labels_of, is_place}
use Rattle.scr_spec.specs.NameSpace.{is_name}
use Rattle.scr_spec.specs.Initial.{is_init_there, is_init_sound, is_kind_of_role}
use Rattle.scr_spec.proofs.Passing.{and_true, all_imply}
use Rattle.scr_parse.specs.declared.draft.DraftKind.{DraftKind}
use Rattle.scr_parse.specs.declared.draft.DraftKind.TheVariants as drawn
use Rattle.scr_parse.specs.declared.draft.DraftValue.{DraftValue}
use Rattle.scr_parse.specs.declared.draft.DraftValue.TheVariants as value
use Rattle.scr_parse.specs.declared.draft.Statement.{Statement}
use Rattle.scr_parse.specs.declared.draft.Statement.TheVariants as s
use Rattle.scr_parse.specs.declared.place.Place.{Place}
use Rattle.scr_parse.specs.declared.place.Counts.{Counts}
use Rattle.scr_parse.specs.Readable.{are_some, is_kind_spelt, is_init_spelt}
use Rattle.scr_scope.specs.declared.known.Known.{Known}
use Rattle.scr_scope.specs.declared.meaning.Meaning.{Meaning}
use Rattle.scr_scope.specs.declared.meaning.Meaning.TheVariants as m
use Rattle.scr_scope.specs.Names.{Name}
use Rattle.scr_scope.specs.Meanings.{seen, meant, type_meant, type_named, variable_named}
use Rattle.scr_scope.specs.Declarations.{no_type, fixed_sort, value_sort, is_init_typed, takes_bound, kind_of, fixed_code, value_code, is_init_within, init_code, place_of, bounded, with_bound_at}
use Rattle.scr_resolve.specs.Lines.{after}
use Rattle.scr_scope.proofs.There.{is_there, NamesThere, meant_there}
use Rattle.scr_scope.proofs.ThereAfter.{declared_there, longer, place_below}
use Rattle.scr_resolve.proofs.Passes.{first_none, second_none, unless_none}
use Rattle.scr_resolve.proofs.NamesAt.{NamesAt, at_after}
use Rattle.scr_resolve.proofs.Carried.{IsLine, Step}
use Rattle.scr_resolve.proofs.Grown.{get_grown, get_there, push_all, set_all, all_at}
use Rattle.scr_resolve.proofs.TypesKept.{list_sound}

-- the rules on a variable
pub record IsKept (types : List TypeDef) (x : Variable) : Type 0 where
  pub kind : is_kind_sound types x.kind ≡ true
  pub role : is_kind_of_role x.role x.kind ≡ true
  pub bound : is_bound_sound types x ≡ true
  pub there : is_init_there x ≡ true
  pub init : is_init_sound types x ≡ true

abbrev pub is_kept : List TypeDef → Variable → Bool
is_kept types x = is_kind_sound types x.kind && is_kind_of_role x.role x.kind && is_bound_sound types x && is_init_there x && is_init_sound types x

pub kept_parts : (types : List TypeDef) (x : Variable) → is_kept types x ≡ true → IsKept types x
kept_parts types x h =
    let a = and_parts (is_kind_sound types x.kind && is_kind_of_role x.role x.kind && is_bound_sound types x && is_init_there x) (is_init_sound types x) h in
    let b = and_parts (is_kind_sound types x.kind && is_kind_of_role x.role x.kind && is_bound_sound types x) (is_init_there x) (a.0) in
    let c = and_parts (is_kind_sound types x.kind && is_kind_of_role x.role x.kind) (is_bound_sound types x) (b.0) in
    let d = and_parts (is_kind_sound types x.kind) (is_kind_of_role x.role x.kind) (c.0) in
    record { kind = d.0; role = d.1; bound = c.1; there = b.1; init = a.1 }

pub kept_whole : (types : List TypeDef) (x : Variable) → IsKept types x → is_kept types x ≡ true
kept_whole types x h = and_true _ _ (and_true _ _ (and_true _ _ (and_true _ _ h.kind h.role) h.bound) h.there) h.init

-- ---- more types

record IsSame (more types : List TypeDef) (kind : Kind) : Type 0 where
  sound : is_kind_sound more kind ≡ true
  integer : is_integer_kind more kind ≡ is_integer_kind types kind
  domain : kind_domain more kind ≡ kind_domain types kind

kind_same : (types : List TypeDef) (t : TypeDef) (k : Kind) → is_kind_sound types k ≡ true → IsSame (types ++ t ∷ []) types k
kind_same types t kind.Boolean h = record { sound = refl; integer = refl; domain = refl }
kind_same types t (kind.Modes names) h = record { sound = h; integer = refl; domain = refl }
kind_same types t (kind.Named k) h = by (slice_get types k) refl (get_there types k h)
  where
    by : (o : Option TypeDef) → slice_get types k ≡ o → is_some o ≡ true → IsSame (types ++ t ∷ []) types (kind.Named k)
    by None e g = absurd (cc)
    by (Some u) e g =
        let same : slice_get (types ++ t ∷ []) k ≡ slice_get types k = get_grown types (t ∷ []) k u e ∙ sym e in
        record {
          sound = longer types t k h;
          integer = ap (λ o. is_some (option_and_then (λ (t : TypeDef). shape_range t.shape) o)) same;
          domain = ap (λ o. option_map_or (λ (t : TypeDef). shape_domain t.shape) o no_domain) same;
        }

variable_same : (types : List TypeDef) (t : TypeDef) (x : Variable) → is_kept types x ≡ true → is_kept (types ++ t ∷ []) x ≡ true
variable_same types t x h =
    let p = kept_parts types x h in
    let same = kind_same types t x.kind p.kind in
    kept_whole (types ++ t ∷ []) x (record {
      kind = same.sound;
      role = p.role;
      bound = ap (λ b. option_map_or (λ k. is_monitored_role x.role && b && int_le (pos 1) k && is_narrow k) x.bound true) same.integer ∙ p.bound;
      there = p.there;
      init = ap (λ d. option_map_or (is_within d) x.init true) same.domain ∙ p.init;
    })

-- ---- a bound

-- a bound may stand here
abbrev is_bindable : List TypeDef → Variable → Bool
is_bindable types x = is_monitored_role x.role && is_integer_kind types x.kind

above_zero : (step : ℤ) → int_le (pos 0) step ≡ true → not (int_eq step (pos 0)) ≡ true → int_le (pos 1) step ≡ true
above_zero step h k = grind (arith, ints)

bounded_kept : (types : List TypeDef) (x : Variable) (step : ℤ) → is_kept types x ≡ true → is_bindable types x ≡ true → int_le (pos 1) step ≡ true → is_narrow step ≡ true
    → is_kept types (bounded step x) ≡ true
bounded_kept types x step h i j k =
    let p = kept_parts types x h in
    kept_whole types (bounded step x) (record { kind = p.kind; role = p.role; bound = and_true _ _ (and_true _ _ i j) k; there = p.there; init = p.init })

bound_by : (known : Known) (step : ℤ) (v : ℕ) (o : Option Variable) → slice_get known.variables v ≡ o → list_all (is_kept known.types) known.variables ≡ true
    → option_map_or (is_bindable known.types) o false ≡ true → int_le (pos 1) step ≡ true → is_narrow step ≡ true
    → list_all (is_kept known.types) (option_map_or (λ x. slice_set known.variables v (bounded step x)) o known.variables) ≡ true
bound_by known step v None e h i j k = h
bound_by known step v (Some x) e h i j k = set_all (is_kept known.types) known.variables v (bounded step x) h (bounded_kept known.types x step (all_at (is_kept known.types) known.variables v x h e) i j k)

bound_kept : (known : Known) (step : ℤ) (o : Option ℕ) → list_all (is_kept known.types) known.variables ≡ true → option_map_or (is_bindable known.types) (option_and_then (slice_get known.variables) o) false ≡ true
    → int_le (pos 1) step ≡ true → is_narrow step ≡ true
    → list_all (is_kept (option_map_or (with_bound_at known step) o known).types) (option_map_or (with_bound_at known step) o known).variables ≡ true
bound_kept known step None h i j k = h
bound_kept known step (Some v) h i j k = bound_by known step v (slice_get known.variables v) refl h i j k

-- ---- initial values

-- a place in a list is one of its codes
place_within : (names : List Name) (place : ℕ) → is_place names (pos place) ≡ true → is_within (list_domain names) (pos place) ≡ true
place_within names place h =
    let p = and_parts (int_le (pos 0) (pos place)) (int_lt (pos place) (pos (length names))) h in
    let q = p.1 in
    and_true (int_le (pos 0) (pos place)) (int_le (pos place) (pos (length names) -ℤ pos 1)) (p.0) (grind (arith, ints))

-- a label of the type with this number, behind INIT
label_by : (known : Known) (k : ℕ) (names : List Name) (o : Option Meaning) → labels_of (seen known) (owner.Named k) ≡ names → option_map_or (is_there (seen known)) o true ≡ true
    → is_sort (sort.Labels (owner.Named k)) (option_and_then fixed_sort o) ≡ true → is_within (list_domain names) (option_map_or (fixed_code known) o (pos 0)) ≡ true
label_by known k names None e t h = absurd (cc)
label_by known k names (Some (m.Type j)) e t h = absurd (cc)
label_by known k names (Some (m.Constant j)) e t h = absurd (cc)
label_by known k names (Some (m.Label (owner.Named j) place)) e t h =
    let same : k ≡ j = eqb-true k j h in
    place_within names place (ap (λ l. is_place l (pos place)) (sym e ∙ ap (λ i. labels_of (seen known) (owner.Named i)) same) ∙ t)
label_by known k names (Some (m.Label (owner.Class v) place)) e t h = absurd (cc)
label_by known k names (Some (m.Variable v)) e t h = absurd (cc)

-- a value of a declared type
named_within : (known : Known) (k : ℕ) (shape : Shape) (v : DraftValue) → labels_of (seen known) (owner.Named k) ≡ shape_labels shape → NamesThere known
    → is_sort (option_map_or (λ d. sort.Integer) (shape_range shape) (sort.Labels (owner.Named k))) (value_sort known v) ≡ true
    → option_map_or (λ d. is_within d (value_code known v)) (shape_range shape) true ≡ true → is_within (shape_domain shape) (value_code known v) ≡ true
named_within known k (Range d) v e t h w = w
named_within known k (Labels names) (value.Number n) e t h w = absurd (cc)
named_within known k (Labels names) (value.Truth b) e t h w = absurd (cc)
named_within known k (Labels names) (value.Named n) e t h w = label_by known k names (meant known n) e (meant_there known t n) h

not_boolean : (known : Known) (o : Option Meaning) → is_sort sort.Boolean (option_and_then fixed_sort o) ≡ true → ⊥
not_boolean known None h = cc
not_boolean known (Some (m.Type j)) h = cc
not_boolean known (Some (m.Constant j)) h = cc
not_boolean known (Some (m.Label o place)) h = cc
not_boolean known (Some (m.Variable v)) h = cc

boolean_within : (known : Known) (v : DraftValue) → is_sort sort.Boolean (value_sort known v) ≡ true → is_within (kind_domain known.types kind.Boolean) (value_code known v) ≡ true
boolean_within known (value.Number n) h = absurd (cc)
boolean_within known (value.Truth true) h = refl
boolean_within known (value.Truth false) h = refl
boolean_within known (value.Named n) h = absurd (not_boolean known (meant known n) h)

-- ---- a variable that is declared

type_by : (spec : Data) (o : Option Meaning) → option_map_or (is_there spec) o true ≡ true → option_map_or (λ k. nat_lt k (length spec.types)) (option_and_then type_meant o) true ≡ true
type_by spec None h = refl
type_by spec (Some (m.Type k)) h = h
type_by spec (Some (m.Constant k)) h = refl
type_by spec (Some (m.Label o place)) h = refl
type_by spec (Some (m.Variable v)) h = refl

not_class : (r : Role) (init : Option DraftValue) → is_init_spelt r init ≡ true → not (is_class_role r) ≡ true
not_class role.Monitored init h = refl
not_class role.Mode init h = absurd (cc)
not_class role.Term init h = refl
not_class role.Controlled init h = refl

init_there : (known : Known) (r : Role) (init : Option DraftValue) → is_init_spelt r init ≡ true → (is_computed_role r || is_some (init_code known init)) ≡ true
init_there known role.Monitored None h = absurd (cc)
init_there known role.Monitored (Some v) h = refl
init_there known role.Mode init h = absurd (cc)
init_there known role.Term init h = refl
init_there known role.Controlled init h = refl

-- a value of the type that stands at this number
value_by : (known : Known) (k : ℕ) (v : DraftValue) (o : Option TypeDef) → is_some o ≡ true → NamesThere known → labels_of (seen known) (owner.Named k) ≡ option_map_or (λ t. shape_labels t.shape) o []
    → is_sort (option_map_or (λ d. sort.Integer) (option_and_then (λ t. shape_range t.shape) o) (sort.Labels (owner.Named k))) (value_sort known v) ≡ true
    → option_map_or (λ d. is_within d (value_code known v)) (option_and_then (λ t. shape_range t.shape) o) true ≡ true
    → is_within (option_map_or (λ t. shape_domain t.shape) o no_domain) (value_code known v) ≡ true
value_by known k v None g t e h w = absurd (cc)
value_by known k v (Some u) g t e h w = named_within known k u.shape v e t h w

-- where the type has the number
named_init : (known : Known) (k : ℕ) (v : DraftValue) → nat_lt k (length known.types) ≡ true → NamesThere known → is_sort (type_sort known.types k) (value_sort known v) ≡ true
    → option_map_or (λ d. is_within d (value_code known v)) (type_range known.types k) true ≡ true → is_within (kind_domain known.types (kind.Named k)) (value_code known v) ≡ true
named_init known k v g t h w = value_by known k v (slice_get known.types k) (get_there known.types k g) t refl h w

-- a variable as its line declares it
abbrev made : Known → Role → Name → Kind → Option DraftValue → Variable
made known r n kind init = record { name = n; role = r; kind = kind; init = init_code known init; bound = None }

boolean_declared : (known : Known) (r : Role) (n : Name) (init : Option DraftValue) → is_init_typed known drawn.Boolean init ≡ true → is_init_spelt r init ≡ true → is_kept known.types (made known r n kind.Boolean init) ≡ true
boolean_declared known r n None h i = kept_whole known.types (made known r n kind.Boolean None) (record { kind = refl; role = not_class r None i; bound = refl; there = init_there known r None i; init = refl })
boolean_declared known r n (Some v) h i =
    kept_whole known.types (made known r n kind.Boolean (Some v)) (record { kind = refl; role = not_class r (Some v) i; bound = refl; there = init_there known r (Some v) i; init = boolean_within known v h })

numbered : (known : Known) (r : Role) (n : Name) (k : ℕ) (init : Option DraftValue) → nat_lt k (length known.types) ≡ true → NamesThere known
    → option_map_or (λ v. is_sort (type_sort known.types k) (value_sort known v)) init true ≡ true
    → option_map_or (λ v. option_map_or (λ d. is_within d (value_code known v)) (type_range known.types k) true) init true ≡ true → is_init_spelt r init ≡ true
    → is_kept known.types (made known r n (kind.Named k) init) ≡ true
numbered known r n k None g t h w i = kept_whole known.types (made known r n (kind.Named k) None) (record { kind = g; role = not_class r None i; bound = refl; there = init_there known r None i; init = refl })
numbered known r n k (Some v) g t h w i =
    kept_whole known.types (made known r n (kind.Named k) (Some v)) (record { kind = g; role = not_class r (Some v) i; bound = refl; there = init_there known r (Some v) i; init = named_init known k v g t h w })

named_declared : (known : Known) (r : Role) (n : Name) (o : Option ℕ) (init : Option DraftValue) → is_some o ≡ true → option_map_or (λ k. nat_lt k (length known.types)) o true ≡ true → NamesThere known
    → option_map_or (λ v. option_map_or (λ s. is_sort s (value_sort known v)) (option_map (type_sort known.types) o) false) init true ≡ true
    → option_map_or (λ v. option_map_or (λ d. is_within d (value_code known v)) (kind_range known.types (option_map_or kind.Named o kind.Boolean)) true) init true ≡ true → is_init_spelt r init ≡ true
    → is_kept known.types (made known r n (option_map_or kind.Named o kind.Boolean) init) ≡ true
named_declared known r n None init e g t h w i = absurd (cc)
named_declared known r n (Some k) init e g t h w i = numbered known r n k init g t h w i

-- the tests of a value that may be there
typed_some : (known : Known) (k : Name) (init : Option DraftValue) → is_init_typed known (drawn.Named k) init ≡ true
    → option_map_or (λ v. option_map_or (λ s. is_sort s (value_sort known v)) (option_map (type_sort known.types) (type_named known k)) false) init true ≡ true
typed_some known k None h = refl
typed_some known k (Some v) h = h

within_some : (known : Known) (k : Name) (init : Option DraftValue) → is_init_within known (drawn.Named k) init ≡ true
    → option_map_or (λ v. option_map_or (λ d. is_within d (value_code known v)) (kind_range known.types (option_map_or kind.Named (type_named known k) kind.Boolean)) true) init true ≡ true
within_some known k None h = refl
within_some known k (Some v) h = h

declared : (known : Known) (r : Role) (n : Name) (k : DraftKind) (init : Option DraftValue) → NamesThere known → no_type known k ≡ None → is_init_typed known k init ≡ true → is_init_within known k init ≡ true
    → is_init_spelt r init ≡ true → is_kept known.types (made known r n (kind_of known k) init) ≡ true
declared known r n drawn.Boolean init t e h w i = boolean_declared known r n init h i
declared known r n (drawn.Named k) init t e h w i =
    named_declared known r n (type_named known k) init (unless_none (is_some (type_named known k)) k e) (type_by (seen known) (meant known k) (meant_there known t k)) t
    (typed_some known k init h) (within_some known k init w) i

-- ---- a mode class

-- the variable of a MODECLASS line
abbrev class_of : Name → List Name → Name → Variable
class_of n modes init = record { name = n; role = role.Mode; kind = kind.Modes modes; init = Some (pos (place_of modes init)); bound = None }

place_small : (p : Name → Bool) (names : List Name) (o : Option ℕ) → position p names ≡ o → 1 ≤ length names → unwrap_or o 0 < length names
place_small p names None e h = omega arith
place_small p names (Some i) e h = (position-Some p names i [] e).0

class_kept : (types : List TypeDef) (n : Name) (modes : List Name) (init : Name) → is_list_sound modes ≡ true → is_kept types (class_of n modes init) ≡ true
class_kept types n modes init h =
    let p = and_parts (nat_le 1 (length modes)) (nat_le (length modes) 64) h in
    let small = place_small (λ other. bytes_eq other init) modes (position (λ other. bytes_eq other init) modes) refl (leb-true 1 (length modes) (p.0)) in
    kept_whole types (class_of n modes init) (record { kind = h; role = refl; bound = refl; there = refl; init = place_within modes (place_of modes init) (place_below modes (place_of modes init) small) })

-- ---- each line

pub record VariablesKept (known : Known) : Type 0 where
  pub names : NamesThere known
  pub labels : NamesAt known
  pub variables : list_all (is_kept known.types) known.variables ≡ true

more_types : (known : Known) (t : TypeDef) → list_all (is_kept known.types) known.variables ≡ true → list_all (is_kept (known.types ++ t ∷ [])) known.variables ≡ true
more_types known t h = all_imply (is_kept known.types) (is_kept (known.types ++ t ∷ [])) (variable_same known.types t) known.variables h

variables_after : (place next : Place) (counts : Counts) (known : Known) (line : Statement) → IsLine place next counts known line → NamesThere known → list_all (is_kept known.types) known.variables ≡ true
    → list_all (is_kept (after known line).types) (after known line).variables ≡ true
unfolding after
variables_after place next counts known (s.Specification n) t a h = h
variables_after place next counts known (s.Range n lo hi) t a h = more_types known _ h
variables_after place next counts known (s.Labels n labels) t a h = more_types known _ h
variables_after place next counts known (s.Constant n v) t a h = h
variables_after place next counts known (s.Variable r n kind init) t a h =
    push_all (is_kept known.types) known.variables _ h
    (declared known r n kind init a (first_none (no_type known kind) _ t.passes.ill) (unless_none (is_init_typed known kind init) n (second_none (no_type known kind) _ t.passes.ill))
    (unless_none (is_init_within known kind init) n t.passes.outside) ((and_parts (is_name n && is_kind_spelt kind) (is_init_spelt r init) t.spelt).1))
variables_after place next counts known (s.Class n modes init) t a h =
    let p = and_parts (is_name n && are_some is_name modes) (is_name init) t.spelt in
    push_all (is_kept known.types) known.variables _ h (class_kept known.types n modes init (list_sound modes ((and_parts (is_name n) (are_some is_name modes) (p.0)).1) t.within))
variables_after place next counts known (s.Head heading n class) t a h = h
variables_after place next counts known (s.Nat n step) t a h =
    let p = and_parts (is_name n && int_le (pos 0) step) (is_narrow step) t.spelt in
    bound_kept known step (variable_named known n) h (unless_none (takes_bound known n) n t.passes.ill)
    (above_zero step ((and_parts (is_name n) (int_le (pos 0) step) (p.0)).1) (unless_none (not (int_eq step (pos 0))) n t.passes.outside)) (p.1)
variables_after place next counts known (s.Row modes cells) t a h = h
variables_after place next counts known (s.Values sides) t a h = h
variables_after place next counts known (s.Transition source target e) t a h = h
variables_after place next counts known s.End t a h = h
variables_after place next counts known s.Finish t a h = h

there_after : Step (λ place counts known. NamesThere known)
unfolding after
there_after place next counts known (s.Specification n) t h = declared_there known (s.Specification n) h
there_after place next counts known (s.Range n lo hi) t h = declared_there known (s.Range n lo hi) h
there_after place next counts known (s.Labels n labels) t h = declared_there known (s.Labels n labels) h
there_after place next counts known (s.Constant n v) t h = declared_there known (s.Constant n v) h
there_after place next counts known (s.Variable r n kind init) t h = declared_there known (s.Variable r n kind init) h
there_after place next counts known (s.Class n modes init) t h = declared_there known (s.Class n modes init) h
there_after place next counts known (s.Head heading n class) t h = h
there_after place next counts known (s.Nat n step) t h = declared_there known (s.Nat n step) h
there_after place next counts known (s.Row modes cells) t h = h
there_after place next counts known (s.Values sides) t h = h
there_after place next counts known (s.Transition source target e) t h = h
there_after place next counts known s.End t h = h
there_after place next counts known s.Finish t h = h

pub variables_kept : Step (λ place counts known. VariablesKept known)
variables_kept place next counts known line t h = record { names = there_after place next counts known line t h.names; labels = at_after place next counts known line t h.labels; variables = variables_after place next counts known line t h.names h.variables }
