-- What an order says of the places of variables, and what a specification says of their tables.
use Rattle.std.proofs.Common.{◌≡◌, ℕ, ◌<◌, ◌≤◌, ◌⊎◌, ℤ, ◌≤ℤ◌, Bool, true, false, not, ◌||◌, List, [], ◌∷◌, length, get_or, refl, sym, ap, subst, ◌∙◌, arith, inl, inr}
use Rattle.std.specs.Prelude.{Option, Some, None, slice_get, int_le, nat_eq, is_none, is_some}
use Rattle.std.specs.Option.{option_map_or}
use Rattle.std.proofs.Props.{props}
use Rattle.std.proofs.Math.Logic.{∥∥₁_elim}
use Rattle.std.proofs.lemmas.Bool.{and_parts, both_ways, eqb-true, false≢true, not-true}
use Rattle.std.proofs.lemmas.List.{take_all}
use Rattle.std.proofs.lemmas.List.Elements.{recursion_from_All}
use Rattle.std.proofs.lemmas.Int.{ints}
use Rattle.std.proofs.lemmas.Option.{slice_get_within, slice_get_cases}
use Rattle.scr_spec.specs.Data.{Data}
use Rattle.scr_spec.specs.declared.spec.Role.{Role}
use Rattle.scr_spec.specs.declared.spec.Role.TheVariants as role
use Rattle.scr_spec.specs.declared.spec.Variable.{Variable}
use Rattle.scr_spec.specs.declared.spec.TypeDef.{TypeDef}
use Rattle.dd_formula.specs.declared.domain.Domain.{Domain}
use Rattle.scr_spec.specs.Domains.{kind_domain, no_domain, domain_of, IsWithin}
use Rattle.dd_formula.specs.Domains.{is_within}
use Rattle.scr_spec.specs.Initial.{is_init_there, is_init_sound}
use Rattle.scr_spec.specs.declared.table.Heading.{Heading}
use Rattle.scr_spec.specs.declared.table.Heading.TheVariants.{Condition, Event, Modes}
use Rattle.scr_spec.specs.declared.table.Table.{Table}
use Rattle.scr_spec.specs.Roles.{is_monitored_role, is_computed_role, is_class_role}
use Rattle.scr_spec.specs.Tables.{is_headed, is_head_sound}
use Rattle.scr_spec.specs.Relations.{is_monitored, is_dependent, table_of, is_condition, has_condition_table}
use Rattle.scr_spec.specs.Sound.{IsSound}
use Rattle.scr_spec.proofs.Found.{all_find}
use Rattle.scr_spec.proofs.Kept.{rules_kept}
use Rattle.scr_spec.proofs.Lookup.{all_get}
use Rattle.scr_depend.specs.Graphs as graphs
use Rattle.scr_depend.specs.Dependencies.{reads_in, graph_of}
use Rattle.scr_depend.specs.Walks.{Walk, Needs}
use Rattle.scr_depend.specs.Orders.{IsOrder}
use Rattle.scr_depend.specs.Laws.{IsWhole, StandsBehindReads}
use Rattle.scr_depend.specs.Meets.{AreRight, MeetsChecks, CoversAt}
use Rattle.scr_depend.proofs.Dependent.{find_passes, place_of_table, whole_graph, one_order}
use Rattle.scr_depend.proofs.Places.{place, among_at}
use Rattle.run_step.specs.Runs.{init_of}
use Rattle.run_step.proofs.Lists.{find_there, each_found}

-- ---- variables

there_cases : (o : Option Variable) → option_map_or (λ (x : Variable). not (is_monitored_role x.role)) o false ≡ true → option_map_or (λ (x : Variable). is_monitored_role x.role) o false ≡ false
there_cases None h = refl
there_cases (Some x) h = not-true _ h

-- a dependent variable is not monitored
pub not_both : (spec : Data) (v : ℕ) → is_dependent spec v ≡ true → is_monitored spec v ≡ true → ⊥
not_both spec v d m = both_ways (is_monitored spec v) (there_cases (slice_get spec.variables v) d) m

role_cases : (b : Bool) → (b ≡ true) ⊎ (not b ≡ true)
role_cases true = inl refl
role_cases false = inr refl

at_place : (p : Variable → Bool) (o : Option Variable) (x : Variable) → o ≡ Some x → p x ≡ true → option_map_or p o false ≡ true
at_place p o x e h = ap (λ (q : Option Variable). option_map_or p q false) e ∙ h

-- a variable is one or the other
pub one_of : (spec : Data) (v : ℕ) → v < length spec.variables → (is_monitored spec v ≡ true) ⊎ (is_dependent spec v ≡ true)
one_of spec v within =
    elim (slice_get_cases spec.variables v).1 [
      | inl found ↦ elim (role_cases (is_monitored_role found.0.role)) [
        | inl m ↦ inl (at_place (λ (x : Variable). is_monitored_role x.role) (slice_get spec.variables v) found.0 found.2 m)
        | inr d ↦ inr (at_place (λ (x : Variable). not (is_monitored_role x.role)) (slice_get spec.variables v) found.0 found.2 d)
      ]
      | inr past ↦ absurd (omega (arith, within, past.0))
    ]

-- a test passes at a variable that is there
passing_there : (p : Variable → Bool) (xs : List Variable) (v : ℕ) → option_map_or p (slice_get xs v) false ≡ true → (x : Variable) × (slice_get xs v ≡ Some x) × (p x ≡ true) × (v < length xs)
passing_there p xs v h =
    let at : (o : Option Variable) → slice_get xs v ≡ o → option_map_or p o false ≡ true → (x : Variable) × (slice_get xs v ≡ Some x) × (p x ≡ true) × (v < length xs) = λ o.
    elim o as (λ q. slice_get xs v ≡ q → option_map_or p q false ≡ true → (x : Variable) × (slice_get xs v ≡ Some x) × (p x ≡ true) × (v < length xs)) [
      | None ↦ λ e k. absurd (false≢true k)
      | Some x ↦ λ e k. (x, e, k, slice_get_within xs v x e)
    ] in
    at (slice_get xs v) refl h

pub dependent_within : (spec : Data) (v : ℕ) → is_dependent spec v ≡ true → v < length spec.variables
dependent_within spec v h = (passing_there (λ (x : Variable). not (is_monitored_role x.role)) spec.variables v h).3

pub monitored_within : (spec : Data) (v : ℕ) → is_monitored spec v ≡ true → v < length spec.variables
monitored_within spec v h = (passing_there (λ (x : Variable). is_monitored_role x.role) spec.variables v h).3

-- ---- tables

pub table_variable : (spec : Data) (v : ℕ) (t : Table) → table_of spec v ≡ Some t → t.variable ≡ v
table_variable spec v t found = eqb-true t.variable v (find_passes (λ (u : Table). nat_eq u.variable v) spec.tables t found)

-- a dependent variable has a table
pub tabled : (spec : Data) (v : ℕ) → IsSound spec → is_dependent spec v ≡ true → (t : Table) × (table_of spec v ≡ Some t)
tabled spec v sound h =
    let there = passing_there (λ (x : Variable). not (is_monitored_role x.role)) spec.variables v h in
    find_there (λ (t : Table). nat_eq t.variable v) spec.tables ((rules_kept spec sound).tabled.each_tabled v there.0 there.1 (not-true _ there.2))

condition_heading : (h : Heading) → is_condition h ≡ true → h ≡ Condition
condition_heading Condition h = refl
condition_heading Event h = absurd (false≢true h)
condition_heading Modes h = absurd (false≢true h)

-- the variable of a condition table
pub condition_table : (spec : Data) (v : ℕ) → has_condition_table spec v ≡ true → (t : Table) × (table_of spec v ≡ Some t) × (t.heading ≡ Condition)
condition_table spec v h =
    let at : (o : Option Table) → table_of spec v ≡ o → option_map_or (λ (t : Table). is_condition t.heading) o false ≡ true → (t : Table) × (table_of spec v ≡ Some t) × (t.heading ≡ Condition) = λ o.
    elim o as (λ q. table_of spec v ≡ q → option_map_or (λ (t : Table). is_condition t.heading) q false ≡ true → (t : Table) × (table_of spec v ≡ Some t) × (t.heading ≡ Condition)) [
      | None ↦ λ e k. absurd (false≢true k)
      | Some t ↦ λ e k. (t, e, condition_heading t.heading k)
    ] in
    at (table_of spec v) refl h

-- of one that is found
pub condition_at : (spec : Data) (v : ℕ) (t : Table) → table_of spec v ≡ Some t → has_condition_table spec v ≡ is_condition t.heading
condition_at spec v t found = ap (λ (o : Option Table). option_map_or (λ (t : Table). is_condition t.heading) o false) found

-- it stands at a variable for such a table
headed : (spec : Data) (v : ℕ) (t : Table) → IsSound spec → table_of spec v ≡ Some t → option_map_or (is_headed t.heading) (slice_get spec.variables v) false ≡ true
headed spec v t sound found =
    subst (λ (u : ℕ). option_map_or (is_headed t.heading) (slice_get spec.variables u) false ≡ true) (table_variable spec v t found)
    (all_find (is_head_sound spec) (λ (u : Table). nat_eq u.variable v) spec.tables t (rules_kept spec sound).tabled.heads found)

-- and so a dependent one
pub table_depends : (spec : Data) (v : ℕ) (t : Table) → IsSound spec → table_of spec v ≡ Some t → is_dependent spec v ≡ true
table_depends = place_of_table

-- ---- initial values

some_value : {X : Type 0} (o : Option X) → is_some o ≡ true → (x : X) × (o ≡ Some x)
some_value None h = absurd (false≢true h)
some_value (Some x) h = (x, refl)

none_value : {X : Type 0} (o : Option X) → is_none o ≡ true → o ≡ None
none_value None h = refl
none_value (Some x) h = absurd (false≢true h)

init_at : (spec : Data) (v : ℕ) (x : Variable) → slice_get spec.variables v ≡ Some x → init_of spec v ≡ x.init
init_at spec v x e = ap (λ (o : Option Variable). option_map_or (λ (y : Variable). y.init) o None) e

uncomputed_init : (r : Role) (b : Bool) → is_computed_role r || b ≡ true → is_computed_role r ≡ false → b ≡ true
uncomputed_init r b h k = sym (ap (λ c. c || b) k) ∙ h

monitored_uncomputed : (r : Role) → is_monitored_role r ≡ true → is_computed_role r ≡ false
monitored_uncomputed role.Monitored h = refl
monitored_uncomputed role.Mode h = absurd (false≢true h)
monitored_uncomputed role.Term h = absurd (false≢true h)
monitored_uncomputed role.Controlled h = absurd (false≢true h)

class_uncomputed : (r : Role) → is_class_role r ≡ true → is_computed_role r ≡ false
class_uncomputed role.Monitored h = absurd (false≢true h)
class_uncomputed role.Mode h = refl
class_uncomputed role.Term h = absurd (false≢true h)
class_uncomputed role.Controlled h = absurd (false≢true h)

-- a monitored variable has an initial value
pub monitored_init : (spec : Data) (v : ℕ) → IsSound spec → is_monitored spec v ≡ true → (code : ℤ) × (init_of spec v ≡ Some code)
monitored_init spec v sound h =
    let there = passing_there (λ (x : Variable). is_monitored_role x.role) spec.variables v h in
    let init = all_get is_init_there spec.variables v there.0 (rules_kept spec sound).declared.initial there.1 in
    let w = some_value there.0.init (uncomputed_init there.0.role (is_some there.0.init) init (monitored_uncomputed there.0.role there.2)) in
    (w.0, init_at spec v there.0 there.1 ∙ w.1)

headed_init : (h : Heading) (x : Variable) → is_condition h ≡ false → is_init_there x ≡ true → is_headed h x ≡ true → is_some x.init ≡ true
headed_init Condition x c i h = absurd (false≢true (sym c))
headed_init Event x c i h = (and_parts (is_computed_role x.role) (is_some x.init) h).1
headed_init Modes x c i h = uncomputed_init x.role (is_some x.init) i (class_uncomputed x.role h)

-- and so has one with an event or mode table
pub event_init : (spec : Data) (v : ℕ) (t : Table) → IsSound spec → table_of spec v ≡ Some t → is_condition t.heading ≡ false → (code : ℤ) × (init_of spec v ≡ Some code)
event_init spec v t sound found event =
    let there = passing_there (is_headed t.heading) spec.variables v (headed spec v t sound found) in
    let init = all_get is_init_there spec.variables v there.0 (rules_kept spec sound).declared.initial there.1 in
    let w = some_value there.0.init (headed_init t.heading there.0 event init there.2) in
    (w.0, init_at spec v there.0 there.1 ∙ w.1)

-- one with a condition table has none
pub condition_init : (spec : Data) (v : ℕ) (t : Table) → IsSound spec → table_of spec v ≡ Some t → t.heading ≡ Condition → init_of spec v ≡ None
condition_init spec v t sound found e =
    let there = passing_there (is_headed Condition) spec.variables v (subst (λ h. option_map_or (is_headed h) (slice_get spec.variables v) false ≡ true) e (headed spec v t sound found)) in
    init_at spec v there.0 there.1 ∙ none_value there.0.init (and_parts (is_computed_role there.0.role) (is_none there.0.init) there.2).1

within_at : (types : List TypeDef) (x : Variable) (o : Option ℤ) (code : ℤ) → o ≡ Some code → option_map_or (is_within (kind_domain types x.kind)) o true ≡ true → is_within (kind_domain types x.kind) code ≡ true
within_at types x o code e h = sym (ap (λ (q : Option ℤ). option_map_or (is_within (kind_domain types x.kind)) q true) e) ∙ h

-- what the tests of a domain say
pub le_from : (x y : ℤ) → int_le x y ≡ true → x ≤ℤ y
le_from x y h = grind (arith, ints)

pub test_within : (d : Domain) (code : ℤ) → is_within d code ≡ true → IsWithin d code
test_within d code h =
    let both = and_parts (int_le d.lo code) (int_le code d.hi) h in
    record { least = le_from d.lo code both.0; most = le_from code d.hi both.1 }

-- a written initial value is one of the variable's codes
pub init_within : (spec : Data) (v : ℕ) (code : ℤ) → IsSound spec → init_of spec v ≡ Some code → IsWithin (domain_of spec v) code
init_within spec v code sound e =
    let at : (o : Option Variable) → slice_get spec.variables v ≡ o → option_map_or (λ (y : Variable). y.init) o None ≡ Some code → IsWithin (option_map_or (λ (y : Variable). kind_domain spec.types y.kind) o no_domain) code = λ o.
    elim o as (λ q. slice_get spec.variables v ≡ q → option_map_or (λ (y : Variable). y.init) q None ≡ Some code → IsWithin (option_map_or (λ (y : Variable). kind_domain spec.types y.kind) q no_domain) code) [
      | None ↦ λ there k. cc
      | Some x ↦ λ there k. test_within (kind_domain spec.types x.kind) code (within_at spec.types x x.init code k (all_get (is_init_sound spec.types) spec.variables v x (rules_kept spec sound).declared.initial_within there))
    ] in
    at (slice_get spec.variables v) refl e

-- ---- checks

covers_prop : (spec : Data) (t : Table) (h : Heading) → IsProp (CoversAt spec t h)
covers_prop spec t Condition = hlevel props
covers_prop spec t Event = hlevel props
covers_prop spec t Modes = hlevel props

checks_prop : (spec : Data) (t : Table) → IsProp (MeetsChecks spec t)
checks_prop spec t = hlevel (props, covers_prop)

-- the table of a variable passed its checks
pub checked : (spec : Data) (v : ℕ) (t : Table) → ∥ AreRight spec ∥₁ → table_of spec v ≡ Some t → MeetsChecks spec t
checked spec v t right found =
    ∥∥₁_elim right (checks_prop spec t) (λ r. each_found (MeetsChecks spec) (λ (u : Table). nat_eq u.variable v) spec.tables t (recursion_from_All (MeetsChecks spec) spec.tables r) found)

-- ---- places

-- where each variable stands, and what stands before it
pub record Placed (spec : Data) (list : List ℕ) : Type 0 where
  pub place_of : (v : ℕ) → is_dependent spec v ≡ true → (i : ℕ) × (i < length list) × (get_or list i 0 ≡ v)
  pub dependent : (i : ℕ) → i < length list → is_dependent spec (get_or list i 0) ≡ true
  pub once : (i j : ℕ) → i < length list → j < i → get_or list j 0 ≡ get_or list i 0 → ⊥
  pub before : (i w : ℕ) → i < length list → reads_in spec (get_or list i 0) w ≡ true → (is_monitored spec w ≡ true) ⊎ ((j : ℕ) × (j < i) × (get_or list j 0 ≡ w))
  pub needed : (i w : ℕ) → i < length list → Needs (graph_of spec) (get_or list i 0) w → (j : ℕ) × (j < i) × (get_or list j 0 ≡ w)

needed_before : (spec : Data) (list : List ℕ) → IsWhole spec → StandsBehindReads (graph_of spec) list → (path : List ℕ) (v w i : ℕ) → i < length list → get_or list i 0 ≡ v → 0 < length path
    → graphs.is_dependent (graph_of spec) w ≡ true → Walk (graph_of spec) v path w → (j : ℕ) × (j < i) × (get_or list j 0 ≡ w)
needed_before spec list whole stands [] v w i within here some depends walk = absurd (omega arith)
needed_before spec list whole stands (u ∷ []) v w i within here some depends walk =
    let read : graphs.reads (graph_of spec) (get_or list i 0) w ≡ true = subst (λ (y : ℕ). graphs.reads (graph_of spec) (get_or list i 0) y ≡ true) walk.1 (subst (λ (y : ℕ). graphs.reads (graph_of spec) y u ≡ true) (sym here) walk.0) in
    place list w i (omega arith) (stands.behind i w within read depends)
needed_before spec list whole stands (u ∷ x ∷ rest) v w i within here some depends walk =
    let reader : graphs.is_dependent (graph_of spec) u ≡ true = whole.readers u x walk.1.0 in
    let read : graphs.reads (graph_of spec) (get_or list i 0) u ≡ true = subst (λ (y : ℕ). graphs.reads (graph_of spec) y u ≡ true) (sym here) walk.0 in
    let p : (j : ℕ) × (j < i) × (get_or list j 0 ≡ u) = place list u i (omega arith) (stands.behind i u within read reader) in
    let q : (j : ℕ) × (j < p.0) × (get_or list j 0 ≡ w) = needed_before spec list whole stands (x ∷ rest) u w p.0 (omega (arith, p.1)) p.2 (omega arith) depends walk.1 in
    (q.0, omega (arith, p.1, q.1), q.2)

before_at : (spec : Data) (list : List ℕ) → IsWhole spec → StandsBehindReads (graph_of spec) list → (i w : ℕ) → i < length list → reads_in spec (get_or list i 0) w ≡ true
    → (is_monitored spec w ≡ true) ⊎ ((j : ℕ) × (j < i) × (get_or list j 0 ≡ w))
before_at spec list whole stands i w within read =
    let in_graph : graphs.reads (graph_of spec) (get_or list i 0) w ≡ true = (whole.reading (get_or list i 0) w).1 read in
    elim (one_of spec w (whole.declared (get_or list i 0) w in_graph)) [
      | inl monitored ↦ inl monitored
      | inr dependent ↦ inr (place list w i (omega arith) (stands.behind i w within in_graph (whole.dependents w ∙ dependent)))
    ]

pub placed : (spec : Data) (list : List ℕ) → IsSound spec → IsOrder (graph_of spec) list → Placed spec list
placed spec list sound ordered =
    let whole : IsWhole spec = whole_graph.whole spec sound in
    let stands : StandsBehindReads (graph_of spec) list = one_order.behind spec list ordered in
    record {
      place_of = λ v depends. place list v (length list) (omega arith) (ap (λ (xs : List ℕ). graphs.is_among xs v) (take_all (length list) list (omega arith)) ∙ ordered.whole v (whole.dependents v ∙ depends));
      dependent = λ i within. sym (whole.dependents (get_or list i 0)) ∙ (stands.members (get_or list i 0)).0 (among_at list i 0 within);
      once = stands.once;
      before = before_at spec list whole stands;
      needed = λ i w within need. needed_before spec list whole stands need.1.0 (get_or list i 0) w i within refl need.1.1 need.0 need.1.2;
    }

-- what a variable reads is not the variable itself, and none behind it
pub read_before : (spec : Data) (list : List ℕ) → Placed spec list → (i k w : ℕ) → i < length list → k ≤ i → reads_in spec (get_or list k 0) w ≡ true → w ≡ get_or list i 0 → ⊥
read_before spec list place i k w within below read same =
    elim (place.before k w (omega arith) read) [
      | inl monitored ↦ not_both spec (get_or list i 0) (place.dependent i within) (subst (λ (u : ℕ). is_monitored spec u ≡ true) same monitored)
      | inr p ↦ place.once i p.0 within (omega (arith, p.1)) (p.2 ∙ same)
    ]
