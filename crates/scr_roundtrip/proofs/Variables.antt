-- The lines that declare variables resolve to these.
use Rattle.std.proofs.Common.{◌≡◌, ℕ, ℤ, pos, negsuc, ◌<◌, ◌-ℤ◌, Bool, true, false, not, ◌&&◌, ◌||◌, List, [], ◌∷◌, ◌++◌, length, Option, Some, None, refl, sym, ap, ap₂, subst, ◌∙◌, arith}
use Rattle.std.specs.Prelude.{nat_lt, nat_eq, int_le, is_some, if◌then◌else◌, slice_get, slice_set, slice_index_or}
use Rattle.std.specs.Option.{option_or, option_map, option_map_or, option_and_then}
use Rattle.std.specs.Ordering.{int_eq}
use Rattle.std.specs.Str.{bytes_eq}
use Rattle.std.proofs.lemmas.Bool.{and_parts}
use Rattle.std.proofs.lemmas.Int.{ints}
use Rattle.scr_spec.specs.Data.{Data}
use Rattle.scr_spec.specs.declared.cond.Owner.TheVariants as owner
use Rattle.scr_spec.specs.declared.sort.Sort.TheVariants as sort
use Rattle.scr_spec.specs.declared.spec.Shape.{Shape}
use Rattle.scr_spec.specs.declared.spec.Shape.TheVariants.{Range, Labels}
use Rattle.scr_spec.specs.declared.spec.TypeDef.{TypeDef}
use Rattle.scr_spec.specs.declared.spec.Kind.{Kind}
use Rattle.scr_spec.specs.declared.spec.Kind.TheVariants.{Boolean, Named}
use Rattle.scr_spec.specs.declared.spec.Variable.{Variable}
use Rattle.scr_spec.specs.Types.{is_integer_kind, shape_labels}
use Rattle.scr_spec.specs.Roles.{is_monitored_role}
use Rattle.scr_resolve.proofs.Grown.{get_last}
use Rattle.scr_resolve.proofs.NamesAt.{bytes_same}
use Rattle.scr_spec.specs.Sorts.{is_sort, kind_sort, kind_range, shape_range, type_range, type_sort}
use Rattle.scr_spec.specs.Meaning.{truth_code}
use Rattle.scr_spec.specs.Domains.{shape_domain, no_domain, kind_domain}
use Rattle.dd_formula.specs.Domains.{is_within}
use Rattle.scr_spec.specs.Over.{labels_of}
use Rattle.scr_scope.specs.declared.known.Known.{Known}
use Rattle.scr_scope.specs.declared.meaning.Meaning.{Meaning}
use Rattle.scr_scope.specs.declared.meaning.Meaning.TheVariants as m
use Rattle.scr_scope.specs.Names.{Name, NameList, meaning_of, is_known, with_name}
use Rattle.scr_scope.specs.Declarations.{unknown_value, unknown_init, drawn_sort, fixed_sort, value_sort, is_value_typed, is_init_typed, kind_of, fixed_code, value_code, is_init_within, init_code, variable_of, bounded, with_bound_at}
use Rattle.scr_scope.specs.Meanings.{unknown, type_meant, type_named, variable_meant, variable_named}
use Rattle.scr_parse.specs.declared.draft.DraftKind.{DraftKind}
use Rattle.scr_parse.specs.declared.draft.DraftValue.TheVariants as value
use Rattle.scr_roundtrip.proofs.Resolved.{no_unknown}
use Rattle.scr_roundtrip.proofs.Named.{found, names_in}
use Rattle.scr_roundtrip.proofs.Declared.{Runs, step, runs_to, no_statement, no_fault, not_again, name_added}
use Rattle.scr_parse.specs.declared.draft.DraftKind.TheVariants as drawn
use Rattle.scr_parse.specs.declared.draft.Statement.{Statement}
use Rattle.scr_parse.specs.declared.draft.Statement.TheVariants as st
use Rattle.scr_resolve.specs.Lines.{after}
use Rattle.scr_scope.specs.First.{unless}
use Rattle.scr_spec.specs.Distinct.{are_distinct}
use Rattle.scr_spec.specs.declared.spec.Role.{Role}
use Rattle.scr_printer.specs.Names.{type_name}
use Rattle.scr_roundtrip.proofs.Drafts.{draft_shape_value, draft_value}

-- ---- what the lines before give

-- the names of the types and of their labels stand for these
pub record AreSettled (spec : Data) (es : NameList) : Type 0 where
  pub types : (j : ℕ) → nat_lt j (length spec.types) ≡ true → meaning_of es (type_name spec j) ≡ Some (m.Type j)
  pub labels : (j n : ℕ) → n < length (labels_of spec (owner.Named j)) → meaning_of es (slice_index_or (labels_of spec (owner.Named j)) n []) ≡ Some (m.Label (owner.Named j) n)

by_first : (same : Bool) (first x : Meaning) (a b : Option Meaning) → (a ≡ Some x → b ≡ Some x) → (if same then Some first else a) ≡ Some x → (if same then Some first else b) ≡ Some x
by_first true first x a b f h = h
by_first false first x a b f h = f h

-- a name that is declared keeps its meaning where more are declared
pub meaning_kept : (es more : NameList) (n : Name) (x : Meaning) → meaning_of es n ≡ Some x → meaning_of (es ++ more) n ≡ Some x
meaning_kept [] more n x h = absurd (cc)
meaning_kept (e ∷ es) more n x h = by_first (bytes_eq n e.0) e.1 x (meaning_of es n) (meaning_of (es ++ more) n) (meaning_kept es more n x) h

pub settled_more : (spec : Data) (es more : NameList) → AreSettled spec es → AreSettled spec (es ++ more)
settled_more spec es more settled = record {
  types = λ j h. meaning_kept es more (type_name spec j) (m.Type j) (settled.types j h);
  labels = λ j n h. meaning_kept es more _ (m.Label (owner.Named j) n) (settled.labels j n h);
}

-- behind all types and constants, and these variables
abbrev pub with_variables : Data → NameList → List Variable → Known
with_variables spec es past = record { title = spec.name; names = es; types = spec.types; constants = spec.constants; variables = past; tables = []; current = None }

-- ---- initial values

-- TRUE and FALSE are 1 and 0
truth_back : (code : ℤ) (one : Bool) → int_eq code (pos 1) ≡ one → is_within (kind_domain [] Boolean) code ≡ true → truth_code one ≡ code
truth_back code true e h = grind (arith, ints)
truth_back code false e h = grind (arith, ints)

pub place_below : (n k : ℕ) → int_le (pos n) (pos k -ℤ pos 1) ≡ true → n < k
place_below n k h = omega (arith, ints, h)

pub record IsValueBack (known : Known) (j : ℕ) (shape : Shape) (code : ℤ) : Type 0 where
  pub typed : is_sort (option_map_or (λ d. sort.Integer) (shape_range shape) (sort.Labels (owner.Named j))) (value_sort known (draft_shape_value shape code)) ≡ true
  pub coded : value_code known (draft_shape_value shape code) ≡ code
  pub within : option_map_or (λ d. is_within d (value_code known (draft_shape_value shape code))) (shape_range shape) true ≡ true

same_number : (j : ℕ) → nat_eq j j ≡ true
same_number j = grind arith

shape_value_back : (spec : Data) (es : NameList) (past : List Variable) (j : ℕ) (shape : Shape) (code : ℤ)
    → ((n : ℕ) → n < length (shape_labels shape) → meaning_of es (slice_index_or (shape_labels shape) n []) ≡ Some (m.Label (owner.Named j) n))
    → is_within (shape_domain shape) code ≡ true → IsValueBack (with_variables spec es past) j shape code
shape_value_back spec es past j (Range d) code labels h = record { typed = refl; coded = refl; within = h }
shape_value_back spec es past j (Labels names) (pos n) labels h =
    let below = place_below n (length names) ((and_parts (int_le (pos 0) (pos n)) (int_le (pos n) (pos (length names) -ℤ pos 1)) h).1) in
    let is = labels n below in
    record {
      typed = ap (λ o. is_sort (sort.Labels (owner.Named j)) (option_and_then fixed_sort o)) is ∙ same_number j;
      coded = ap (λ o. option_map_or (fixed_code (with_variables spec es past)) o (pos 0)) is;
      within = refl;
    }
shape_value_back spec es past j (Labels names) (negsuc n) labels h = absurd (cc)

-- ---- the value of a declared type

got_labels : (spec : Data) (es : NameList) → AreSettled spec es → (j : ℕ) (t : TypeDef) → slice_get spec.types j ≡ Some t
    → (n : ℕ) → n < length (shape_labels t.shape) → meaning_of es (slice_index_or (shape_labels t.shape) n []) ≡ Some (m.Label (owner.Named j) n)
got_labels spec es settled j t e =
    subst (λ o. (n : ℕ) → n < length (option_map_or (λ (t : TypeDef). shape_labels t.shape) o [])
    → meaning_of es (slice_index_or (option_map_or (λ (t : TypeDef). shape_labels t.shape) o []) n []) ≡ Some (m.Label (owner.Named j) n)) e (settled.labels j)

got_within : (spec : Data) (j : ℕ) (t : TypeDef) (code : ℤ) → slice_get spec.types j ≡ Some t → is_within (kind_domain spec.types (Named j)) code ≡ true → is_within (shape_domain t.shape) code ≡ true
got_within spec j t code e h = subst (λ o. is_within (option_map_or (λ (t : TypeDef). shape_domain t.shape) o no_domain) code ≡ true) e h

-- the initial value of a variable of a declared type
pub record IsInitBack (spec : Data) (known : Known) (n : Name) (x : Kind) (init : Option ℤ) : Type 0 where
  pub names_known : unknown_init known (option_map (draft_value spec.types x) init) ≡ None
  pub typed : (q : DraftKind) → drawn_sort known q ≡ Some (kind_sort spec.types 0 x) → is_init_typed known q (option_map (draft_value spec.types x) init) ≡ true
  pub coded : init_code known (option_map (draft_value spec.types x) init) ≡ init
  pub within : (q : DraftKind) → kind_of known q ≡ x → is_init_within known q (option_map (draft_value spec.types x) init) ≡ true

boolean_back : (spec : Data) (es : NameList) (past : List Variable) (n : Name) (init : Option ℤ) → option_map_or (is_within (kind_domain spec.types Boolean)) init true ≡ true
    → IsInitBack spec (with_variables spec es past) n Boolean init
boolean_back spec es past n None h = record { names_known = refl; typed = λ q e. refl; coded = refl; within = λ q e. refl }
boolean_back spec es past n (Some code) h = record {
  names_known = refl;
  typed = λ q e. ap (λ o. option_map_or (λ s. is_sort s (Some sort.Boolean)) o false) e;
  coded = ap Some (truth_back code (int_eq code (pos 1)) refl h);
  within = λ q e. ap (λ x. option_map_or (λ d. is_within d (truth_code (int_eq code (pos 1)))) (kind_range spec.types x) true) e;
}

pub known_label : (known : Known) (n : Name) (x : Meaning) → meaning_of known.names n ≡ Some x → unknown known n ≡ None
known_label known n x h = no_unknown known n (ap is_some h)

shape_known : (spec : Data) (es : NameList) (past : List Variable) (j : ℕ) (shape : Shape) (code : ℤ)
    → ((n : ℕ) → n < length (shape_labels shape) → meaning_of es (slice_index_or (shape_labels shape) n []) ≡ Some (m.Label (owner.Named j) n))
    → is_within (shape_domain shape) code ≡ true → unknown_value (with_variables spec es past) (draft_shape_value shape code) ≡ None
shape_known spec es past j (Range d) code labels h = refl
shape_known spec es past j (Labels names) (pos n) labels h =
    known_label (with_variables spec es past) (slice_index_or names n []) (m.Label (owner.Named j) n)
    (labels n (place_below n (length names) ((and_parts (int_le (pos 0) (pos n)) (int_le (pos n) (pos (length names) -ℤ pos 1)) h).1)))
shape_known spec es past j (Labels names) (negsuc n) labels h = absurd (cc)

named_some : (spec : Data) (es : NameList) → AreSettled spec es → (past : List Variable) (n : Name) (j : ℕ) (code : ℤ) (t : TypeDef) → slice_get spec.types j ≡ Some t
    → is_within (kind_domain spec.types (Named j)) code ≡ true → IsInitBack spec (with_variables spec es past) n (Named j) (Some code)
named_some spec es settled past n j code t e h =
    let known = with_variables spec es past in
    let back = shape_value_back spec es past j t.shape code (got_labels spec es settled j t e) (got_within spec j t code e h) in
    let value : draft_value spec.types (Named j) code ≡ draft_shape_value t.shape code = ap (λ o. option_map_or (λ (t : TypeDef). draft_shape_value t.shape code) o (value.Number code)) e in
    let range : type_range spec.types j ≡ shape_range t.shape = ap (option_and_then (λ (t : TypeDef). shape_range t.shape)) e in
    record {
      names_known = ap (unknown_value known) value ∙ shape_known spec es past j t.shape code (got_labels spec es settled j t e) (got_within spec j t code e h);
      typed = λ q g. ap (λ v. is_value_typed known q v) value ∙ ap (λ o. option_map_or (λ s. is_sort s (value_sort known (draft_shape_value t.shape code))) o false) g
          ∙ ap (λ r. is_sort (option_map_or (λ d. sort.Integer) r (sort.Labels (owner.Named j))) (value_sort known (draft_shape_value t.shape code))) range ∙ back.typed;
      coded = ap Some (ap (value_code known) value ∙ back.coded);
      within = λ q g. ap (λ v. is_init_within known q (Some v)) value ∙ ap (λ x. option_map_or (λ d. is_within d (value_code known (draft_shape_value t.shape code))) (kind_range spec.types x) true) g
          ∙ ap (λ r. option_map_or (λ d. is_within d (value_code known (draft_shape_value t.shape code))) r true) range ∙ back.within;
    }

named_back : (spec : Data) (es : NameList) → AreSettled spec es → (past : List Variable) (n : Name) (j : ℕ) (init : Option ℤ) → nat_lt j (length spec.types) ≡ true
    → option_map_or (is_within (kind_domain spec.types (Named j))) init true ≡ true → IsInitBack spec (with_variables spec es past) n (Named j) init
named_back spec es settled past n j None there h = record { names_known = refl; typed = λ q e. refl; coded = refl; within = λ q e. refl }
named_back spec es settled past n j (Some code) there h = let got = found spec.types j there in named_some spec es settled past n j code (got.0) (got.1) h

-- ---- the lines of variables that are no mode class

pub none_first : {X : Type 0} (a b : Option X) → a ≡ None → b ≡ None → option_or a b ≡ None
none_first a b h g = ap (λ o. option_or o b) h ∙ g

pub right_none : (right : Bool) (n : Name) → right ≡ true → unless right n ≡ None
right_none right n h = ap (λ r. unless r n) h

pub boolean_line : (spec : Data) (es : NameList) (past : List Variable) (role : Role) (name : Name) (init : Option ℤ) (later : List Name)
    → are_distinct bytes_eq (names_in es ++ name ∷ later) ≡ true → option_map_or (is_within (kind_domain spec.types Boolean)) init true ≡ true
    → Runs (with_variables spec es past) (st.Variable role name drawn.Boolean (option_map (draft_value spec.types Boolean) init) ∷ [])
    (with_variables spec (es ++ (name, m.Variable (length past)) ∷ []) (past ++ record { name = name; role = role; kind = Boolean; init = init; bound = None } ∷ []))
unfolding after
boolean_line spec es past role name init later once h =
    let known = with_variables spec es past in
    let back = boolean_back spec es past name init h in
    step
    (no_fault known (st.Variable role name drawn.Boolean (option_map (draft_value spec.types Boolean) init)) (not_again es [] (name ∷ []) later once) back.names_known
    (right_none _ name (back.typed drawn.Boolean refl)) (right_none _ name (back.within drawn.Boolean refl)) refl refl refl)
    (runs_to (ap₂ (λ es i. with_variables spec es (past ++ record { name = name; role = role; kind = Boolean; init = i; bound = None } ∷ [])) (name_added es later name (m.Variable (length past)) once) back.coded)
    (no_statement (after known (st.Variable role name drawn.Boolean (option_map (draft_value spec.types Boolean) init)))))

pub named_line : (spec : Data) (es : NameList) → AreSettled spec es → (past : List Variable) (role : Role) (name : Name) (j : ℕ) (init : Option ℤ) (later : List Name)
    → are_distinct bytes_eq (names_in es ++ name ∷ later) ≡ true → nat_lt j (length spec.types) ≡ true → option_map_or (is_within (kind_domain spec.types (Named j))) init true ≡ true
    → Runs (with_variables spec es past) (st.Variable role name (drawn.Named (type_name spec j)) (option_map (draft_value spec.types (Named j)) init) ∷ [])
    (with_variables spec (es ++ (name, m.Variable (length past)) ∷ []) (past ++ record { name = name; role = role; kind = Named j; init = init; bound = None } ∷ []))
unfolding after
named_line spec es settled past role name j init later once there h =
    let known = with_variables spec es past in
    let back = named_back spec es settled past name j init there h in
    let number : type_named known (type_name spec j) ≡ Some j = ap (option_and_then type_meant) (settled.types j there) in
    let kind_is : kind_of known (drawn.Named (type_name spec j)) ≡ Named j = ap (λ o. option_map_or Named o Boolean) number in
    let sort_is : drawn_sort known (drawn.Named (type_name spec j)) ≡ Some (type_sort spec.types j) = ap (option_map (type_sort spec.types)) number in
    let line : Statement = st.Variable role name (drawn.Named (type_name spec j)) (option_map (draft_value spec.types (Named j)) init) in
    step
    (no_fault known line (not_again es [] (name ∷ []) later once)
    (none_first _ _ (known_label known (type_name spec j) (m.Type j) (settled.types j there)) back.names_known)
    (none_first _ _ (right_none _ (type_name spec j) (ap is_some number)) (right_none _ name (back.typed (drawn.Named (type_name spec j)) sort_is)))
    (right_none _ name (back.within (drawn.Named (type_name spec j)) kind_is)) refl refl refl)
    (runs_to (ap₂ (λ es i. with_variables spec es (past ++ record { name = name; role = role; kind = Named j; init = i; bound = None } ∷ [])) (name_added es later name (m.Variable (length past)) once) back.coded)
    (runs_to (ap (λ x. with_variables spec (with_name es name (m.Variable (length past)))
    (past ++ record { name = name; role = role; kind = x; init = init_code known (option_map (draft_value spec.types (Named j)) init); bound = None } ∷ [])) kind_is)
    (no_statement (after known line))))

-- ---- the line of a bound

at_end : (same : Bool) (first x : Meaning) (a b : Option Meaning) → (same || is_some a) ≡ false → (is_some a ≡ false → b ≡ Some x) → (if same then Some first else b) ≡ Some x
at_end true first x a b h f = absurd (cc)
at_end false first x a b h f = f h

some_of : (same : Bool) (first : Meaning) (a : Option Meaning) → is_some (if same then Some first else a) ≡ (same || is_some a)
some_of true first a = refl
some_of false first a = refl

-- a name that is added last has its meaning, where it was not declared
pub meaning_last : (es : NameList) (n : Name) (x : Meaning) → is_known es n ≡ false → meaning_of (es ++ (n, x) ∷ []) n ≡ Some x
meaning_last [] n x h = ap (λ same. if same then Some x else None) (bytes_same n n refl)
meaning_last (e ∷ es) n x h =
    at_end (bytes_eq n e.0) e.1 x (meaning_of es n) (meaning_of (es ++ (n, x) ∷ []) n) (sym (some_of (bytes_eq n e.0) e.1 (meaning_of es n)) ∙ h) (meaning_last es n x)

set_last : (past : List Variable) (x y : Variable) → slice_set (past ++ x ∷ []) (length past) y ≡ past ++ y ∷ []
set_last [] x y = refl
set_last (z ∷ past) x y = ap (λ more. z ∷ more) (set_last past x y)

not_zero : (z : ℤ) → int_le (pos 1) z ≡ true → not (int_eq z (pos 0)) ≡ true
not_zero z h = grind (arith, ints)

pub bound_run : (spec : Data) (es : NameList) (past : List Variable) (x : Variable) (step_size : ℤ) → meaning_of es x.name ≡ Some (m.Variable (length past)) → x.bound ≡ None
    → (is_monitored_role x.role && is_integer_kind spec.types x.kind) ≡ true → int_le (pos 1) step_size ≡ true
    → Runs (with_variables spec es (past ++ x ∷ [])) (st.Nat x.name step_size ∷ []) (with_variables spec es (past ++ bounded step_size x ∷ []))
unfolding after
bound_run spec es past x step_size there unbound takes h =
    let known = with_variables spec es (past ++ x ∷ []) in
    let number : variable_named known x.name ≡ Some (length past) = ap (option_and_then variable_meant) there in
    let got : variable_of known x.name ≡ Some x = ap (option_and_then (slice_get (past ++ x ∷ []))) number ∙ get_last past x in
    step
    (no_fault known (st.Nat x.name step_size)
    (right_none _ x.name (ap (λ o. not (option_map_or (λ (x : Variable). is_some x.bound) o false)) got ∙ ap (λ o. not (is_some o)) unbound))
    (known_label known x.name (m.Variable (length past)) there)
    (right_none _ x.name (ap (λ o. option_map_or (λ (x : Variable). is_monitored_role x.role && is_integer_kind spec.types x.kind) o false) got ∙ takes))
    (right_none _ x.name (not_zero step_size h)) refl refl refl)
    (runs_to (ap (λ o. option_map_or (with_bound_at known step_size) o known) number
    ∙ ap (λ o. with_variables spec es (option_map_or (λ y. slice_set (past ++ x ∷ []) (length past) (bounded step_size y)) o (past ++ x ∷ []))) (get_last past x)
    ∙ ap (with_variables spec es) (set_last past x (bounded step_size x)))
    (no_statement (after known (st.Nat x.name step_size))))
