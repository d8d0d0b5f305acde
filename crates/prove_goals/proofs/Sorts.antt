-- A value for which no goal asks is in the domain of its variable by its sort, or by the rules of a specification.
use Rattle.std.proofs.Common.{◌≡◌, ℕ, ◌<◌, ℤ, pos, ◌+ℤ◌, ◌-ℤ◌, ◌*ℤ◌, ◌≤ℤ◌, Bool, true, false, ◌&&◌, ◌||◌, List, [], ◌∷◌, length, Option, Some, None, refl, sym, ap, subst, ◌∙◌, inl, inr, arith}
use Rattle.std.specs.Prelude.{slice_get, nat_eq, nat_lt, int_le, int_lt, fold, is_some, if◌then◌else◌}
use Rattle.std.specs.Option.{option_map_or, option_map, option_and_then}
use Rattle.std.specs.Ordering.{int_eq}
use Rattle.std.specs.List.{list_all, list_any}
use Rattle.std.proofs.lemmas.Int.{ints}
use Rattle.std.proofs.lemmas.Bool.{and_parts, false≢true}
use Rattle.std.proofs.lemmas.Bool.Decides.{nat_tests, Decides-int_eq}
use Rattle.std.proofs.lemmas.Option.{slice_get_within, slice_get_cases}
use Rattle.scr_spec.specs.Data.{Data}
use Rattle.dd_formula.specs.declared.domain.Domain.{Domain}
use Rattle.scr_spec.specs.declared.spec.Shape.{Shape}
use Rattle.scr_spec.specs.declared.spec.Shape.TheVariants as shape
use Rattle.scr_spec.specs.declared.spec.TypeDef.{TypeDef}
use Rattle.scr_spec.specs.declared.spec.Kind.{Kind}
use Rattle.scr_spec.specs.declared.spec.Kind.TheVariants as kind
use Rattle.scr_spec.specs.declared.spec.Variable.{Variable as Declared}
use Rattle.scr_spec.specs.declared.sort.Sort.{Sort}
use Rattle.scr_spec.specs.declared.sort.Sort.TheVariants as sort
use Rattle.scr_spec.specs.declared.cond.Owner.{Owner}
use Rattle.scr_spec.specs.declared.cond.Owner.TheVariants as owner
use Rattle.scr_spec.specs.declared.cond.Operand.{Operand}
use Rattle.scr_spec.specs.declared.cond.Operand.TheVariants.{One, Truth as Flag, Constant, Label, Variable, Primed}
use Rattle.scr_spec.specs.declared.cond.Item.{Item}
use Rattle.scr_spec.specs.declared.cond.Expr.{Expr}
use Rattle.scr_spec.specs.declared.table.Heading.{Heading}
use Rattle.scr_spec.specs.Meaning.{Codes, code_of, truth_code, operand_value, item_value, side_value}
use Rattle.scr_spec.specs.Domains.{IsTyped, IsWithin, domain_of, kind_domain, list_domain, shape_domain, no_domain}
use Rattle.dd_formula.specs.Domains.{is_within}
use Rattle.scr_spec.specs.Types.{shape_labels, is_kind_sound}
use Rattle.scr_spec.specs.Over.{labels_of, is_place, is_operand_over, is_item_over, is_side_over}
use Rattle.scr_spec.specs.Sorts.{same_owner, same_sort, is_sort, shape_range, type_sort, kind_sort, variable_sort, kind_range, variable_range}
use Rattle.scr_spec.specs.Typed.{operand_sort, single_sort, item_sort, factor_of, side_sort}
use Rattle.scr_spec.specs.Formed.{is_side_formed}
use Rattle.scr_spec.specs.Values.{is_variable, names_variable, is_value_typed, is_value_primed_in, is_value_inside, is_value_sound}
use Rattle.scr_spec.specs.Sound.{IsSound}
use Rattle.scr_spec.proofs.Lookup.{all_get}
use Rattle.prove_goals.proofs.PairTruth.{int_le_tells}
use Rattle.prove_goals.proofs.Ranges.{none_some, same_some}

-- ---- small steps

or_false : (b c : Bool) → (b || c) ≡ false → (b ≡ false) × (c ≡ false)
or_false true c h = absurd (false≢true (sym h))
or_false false c h = (refl, h)

below_last : (n : ℕ) (z : ℤ) → int_lt z (pos n) ≡ true → z ≤ℤ (pos n -ℤ pos 1)
below_last n z h = grind (arith, ints)

one_time : (z : ℤ) → pos 0 +ℤ pos 1 *ℤ z ≡ z
one_time z = omega (arith, ints)

-- ---- the codes of a sort

abbrev is_integer : Sort → Bool
is_integer sort.Integer = true
is_integer sort.Boolean = false
is_integer (sort.Labels o) = false

-- those of a sort other than the integers
abbrev sort_domain : Data → Sort → Domain
sort_domain spec sort.Integer = no_domain
sort_domain spec sort.Boolean = record { lo = pos 0; hi = pos 1 }
sort_domain spec (sort.Labels o) = list_domain (labels_of spec o)

less_true : (j k : ℕ) → nat_lt j k ≡ true → j < k
less_true j k h = grind (arith, nat_tests)

nat_same : (j k : ℕ) → nat_eq j k ≡ true → j ≡ k
nat_same j k h = grind (arith, nat_tests)

same_list : (spec : Data) (o p : Owner) → same_owner o p ≡ true → labels_of spec o ≡ labels_of spec p
same_list spec (owner.Named j) (owner.Named k) h = ap (λ n. labels_of spec (owner.Named n)) (nat_same j k h)
same_list spec (owner.Named j) (owner.Class k) h = absurd (false≢true h)
same_list spec (owner.Class j) (owner.Named k) h = absurd (false≢true h)
same_list spec (owner.Class j) (owner.Class k) h = ap (λ n. labels_of spec (owner.Class n)) (nat_same j k h)

same_codes : (spec : Data) (s t : Sort) → same_sort s t ≡ true → sort_domain spec t ≡ sort_domain spec s
same_codes spec sort.Integer sort.Integer h = refl
same_codes spec sort.Integer sort.Boolean h = absurd (false≢true h)
same_codes spec sort.Integer (sort.Labels p) h = absurd (false≢true h)
same_codes spec sort.Boolean sort.Integer h = absurd (false≢true h)
same_codes spec sort.Boolean sort.Boolean h = refl
same_codes spec sort.Boolean (sort.Labels p) h = absurd (false≢true h)
same_codes spec (sort.Labels o) sort.Integer h = absurd (false≢true h)
same_codes spec (sort.Labels o) sort.Boolean h = absurd (false≢true h)
same_codes spec (sort.Labels o) (sort.Labels p) h = ap list_domain (sym (same_list spec o p h))

same_integer : (s t : Sort) → same_sort s t ≡ true → is_integer s ≡ false → is_integer t ≡ false
same_integer sort.Integer t h k = absurd (false≢true (sym k))
same_integer sort.Boolean sort.Integer h k = absurd (false≢true h)
same_integer sort.Boolean sort.Boolean h k = refl
same_integer sort.Boolean (sort.Labels p) h k = absurd (false≢true h)
same_integer (sort.Labels o) sort.Integer h k = absurd (false≢true h)
same_integer (sort.Labels o) sort.Boolean h k = absurd (false≢true h)
same_integer (sort.Labels o) (sort.Labels p) h k = refl

-- ---- variables

-- by the shape of the type with this number
named_shape : (spec : Data) (n : ℕ) (s : Shape) (t : TypeDef) → slice_get spec.types n ≡ Some t → t.shape ≡ s → is_integer (type_sort spec.types n) ≡ false
    → kind_domain spec.types (kind.Named n) ≡ sort_domain spec (type_sort spec.types n)
named_shape spec n (shape.Range d) t e f h = absurd (false≢true (sym h ∙ rw (e, f) refl))
named_shape spec n (shape.Labels names) t e f h =
    let listed : labels_of spec (owner.Named n) ≡ names = ap (λ o. option_map_or (λ t. shape_labels t.shape) o []) e ∙ ap shape_labels f in
    let codes : kind_domain spec.types (kind.Named n) ≡ list_domain names = ap (λ o. option_map_or (λ t. shape_domain t.shape) o no_domain) e ∙ ap shape_domain f in
    let other = sort.Labels (owner.Named n) in
    let sorted : type_sort spec.types n ≡ other
    = ap (λ o. option_map_or (λ d. sort.Integer) (option_and_then (λ t. shape_range t.shape) o) other) e ∙ ap (λ s. option_map_or (λ d. sort.Integer) (shape_range s) other) f in
    codes ∙ sym (ap (sort_domain spec) sorted ∙ ap list_domain listed)

named_there : (spec : Data) (n : ℕ) → n < length spec.types → is_integer (type_sort spec.types n) ≡ false → kind_domain spec.types (kind.Named n) ≡ sort_domain spec (type_sort spec.types n)
named_there spec n lt h =
    elim ((slice_get_cases spec.types n).1) [
      | inl there ↦ named_shape spec n (there.0).shape there.0 there.2 refl h
      | inr past ↦ absurd (omega (arith, lt, past.0))
    ]

-- the codes of a kind are those of its sort
kind_codes : (spec : Data) (v : ℕ) (x : Declared) (k : Kind) → slice_get spec.variables v ≡ Some x → x.kind ≡ k → is_kind_sound spec.types k ≡ true → is_integer (kind_sort spec.types v k) ≡ false
    → kind_domain spec.types k ≡ sort_domain spec (kind_sort spec.types v k)
kind_codes spec v x kind.Boolean e f sound h = refl
kind_codes spec v x (kind.Named n) e f sound h = named_there spec n (less_true n (length spec.types) sound) h
kind_codes spec v x (kind.Modes names) e f sound h = rw (e, f) refl

-- the codes of a variable are those of its sort
sorted_at : (spec : Data) (v : ℕ) (s : Sort) (o : Option Declared) → slice_get spec.variables v ≡ o → IsSound spec → option_map (λ x. kind_sort spec.types v x.kind) o ≡ Some s → is_integer s ≡ false
    → (v < length spec.variables) × (option_map_or (λ x. kind_domain spec.types x.kind) o no_domain ≡ sort_domain spec s)
sorted_at spec v s None e sound f h = absurd (none_some f)
sorted_at spec v s (Some x) e sound f h =
    let same : kind_sort spec.types v x.kind ≡ s = same_some f in
    let there = all_get (λ (y : Declared). is_kind_sound spec.types y.kind) spec.variables v x sound.kinds e in
    (slice_get_within spec.variables v x e, kind_codes spec v x x.kind e refl there (ap is_integer same ∙ h) ∙ ap (sort_domain spec) same)

variable_codes : (spec : Data) (v : ℕ) (s : Sort) → IsSound spec → variable_sort spec.types spec.variables v ≡ Some s → is_integer s ≡ false
    → (v < length spec.variables) × (domain_of spec v ≡ sort_domain spec s)
variable_codes spec v s sound f h = sorted_at spec v s (slice_get spec.variables v) refl sound f h

-- ---- values

pub place_within : (names : List (List ℕ)) (code : ℤ) → is_place names code ≡ true → IsWithin (list_domain names) code
place_within names code h =
    let both = and_parts (int_le (pos 0) code) (int_lt code (pos (length names))) h in
    record { least = (int_le_tells (pos 0) code).0 both.0; most = below_last (length names) code both.1 }

truth_within : (b : Bool) → IsWithin (record { lo = pos 0; hi = pos 1 }) (truth_code b)
truth_within true = record { least = omega (arith, ints); most = omega (arith, ints) }
truth_within false = record { least = omega (arith, ints); most = omega (arith, ints) }

module _ (spec : Data) (sound : IsSound spec) where
  code_within : (at : Codes) (v : ℕ) (s : Sort) → IsTyped spec at → variable_sort spec.types spec.variables v ≡ Some s → is_integer s ≡ false → IsWithin (sort_domain spec s) (code_of at v)
  code_within at v s typed f h =
      let w = variable_codes spec v s sound f h in
      subst (λ d. IsWithin d (code_of at v)) w.1 (typed.within v w.0)

  -- an operand has a code of its sort
  operand_within : (old new : Codes) (o : Operand) (s : Sort) → IsTyped spec old → IsTyped spec new → is_operand_over spec o ≡ true → operand_sort spec o ≡ Some s → is_integer s ≡ false
      → IsWithin (sort_domain spec s) (operand_value spec old new o)
  operand_within old new One s hs ht over f h = absurd (false≢true (sym h ∙ ap is_integer (sym (same_some f))))
  operand_within old new (Flag b) s hs ht over f h = subst (λ s. IsWithin (sort_domain spec s) (truth_code b)) (same_some f) (truth_within b)
  operand_within old new (Constant k) s hs ht over f h = absurd (false≢true (sym h ∙ ap is_integer (sym (same_some f))))
  operand_within old new (Label owner code) s hs ht over f h = subst (λ s. IsWithin (sort_domain spec s) code) (same_some f) (place_within (labels_of spec owner) code over)
  operand_within old new (Variable v) s hs ht over f h = code_within old v s hs f h
  operand_within old new (Primed v) s hs ht over f h = code_within new v s ht f h

  -- a side of such a sort is one operand
  alone : (old new : Codes) (items : List Item) (s : Sort) → IsTyped spec old → IsTyped spec new → list_all (is_item_over spec) items ≡ true → single_sort factor_of (item_sort spec) items ≡ Some s
      → is_integer s ≡ false → IsWithin (sort_domain spec s) (side_value spec old new (record { items = items }))
  alone old new [] s hs ht over f h = absurd (none_some f)
  alone old new (i ∷ j ∷ is) s hs ht over f h = absurd (none_some f)
  alone old new (i ∷ []) s hs ht over f h =
      elim (int_eq i.factor (pos 1)) as (λ b. int_eq i.factor (pos 1) ≡ b → (if b then item_sort spec i else None) ≡ Some s → IsWithin (sort_domain spec s) (side_value spec old new (record { items = i ∷ [] }))) [
        | true ↦ λ one g.
            let item = (and_parts (is_item_over spec i) true over).0 in
            let there = (and_parts (is_operand_over spec i.operand) _ item).0 in
            let z = operand_value spec old new i.operand in
            let same : z ≡ side_value spec old new (record { items = i ∷ [] }) = sym (ap (λ k. pos 0 +ℤ k *ℤ z) ((Decides-int_eq i.factor (pos 1)).0 one) ∙ one_time z) in
            subst (λ y. IsWithin (sort_domain spec s) y) same (operand_within old new i.operand s hs ht there g h)
        | false ↦ λ other g. absurd (none_some g)
      ] refl f

  side_within : (old new : Codes) (e : Expr) (s : Sort) → IsTyped spec old → IsTyped spec new → is_side_over spec e ≡ true → side_sort spec e ≡ Some s → is_integer s ≡ false
      → IsWithin (sort_domain spec s) (side_value spec old new e)
  side_within old new e s hs ht over f h =
      let over_items = (and_parts (list_all (is_item_over spec) e.items) _ over).0 in
      elim (list_all (λ i. is_sort sort.Integer (item_sort spec i)) e.items) as (λ b. (if b then Some sort.Integer else single_sort factor_of (item_sort spec) e.items) ≡ Some s → IsWithin (sort_domain spec s) (side_value spec old new e)) [
        | true ↦ λ g. absurd (false≢true (sym h ∙ ap is_integer (sym (same_some g))))
        | false ↦ λ g. alone old new e.items s hs ht over_items g h
      ] f

-- ---- a value without a variable is the same in all states

fixed_operand : (spec : Data) (s t u w : Codes) (o : Operand) → is_variable o ≡ false → operand_value spec s t o ≡ operand_value spec u w o
fixed_operand spec s t u w One h = refl
fixed_operand spec s t u w (Flag b) h = refl
fixed_operand spec s t u w (Constant k) h = refl
fixed_operand spec s t u w (Label owner code) h = refl
fixed_operand spec s t u w (Variable v) h = absurd (false≢true (sym h))
fixed_operand spec s t u w (Primed v) h = absurd (false≢true (sym h))

fixed_items : (spec : Data) (s t u w : Codes) (items : List Item) (sum : ℤ) → list_any (λ item. is_variable item.operand) items ≡ false
    → fold (λ sum item. sum +ℤ item_value spec s t item) sum items ≡ fold (λ sum item. sum +ℤ item_value spec u w item) sum items
fixed_items spec s t u w [] sum h = refl
fixed_items spec s t u w (i ∷ is) sum h =
    let both = or_false (is_variable i.operand) (list_any (λ item. is_variable item.operand) is) h in
    let here : item_value spec s t i ≡ item_value spec u w i = ap (λ z. i.factor *ℤ z) (fixed_operand spec s t u w i.operand both.0) in
    ap (λ z. fold (λ sum item. sum +ℤ item_value spec s t item) (sum +ℤ z) is) here ∙ fixed_items spec s t u w is (sum +ℤ item_value spec u w i) both.1

fixed_side : (spec : Data) (s t u w : Codes) (e : Expr) → names_variable e ≡ false → side_value spec s t e ≡ side_value spec u w e
fixed_side spec s t u w e h = fixed_items spec s t u w e.items (pos 0) h

-- ---- integers

named_range : (spec : Data) (n : ℕ) (d : Domain) (o : Option TypeDef) → option_and_then (λ t. shape_range t.shape) o ≡ Some d → option_map_or (λ t. shape_domain t.shape) o no_domain ≡ d
named_range spec n d None f = absurd (none_some f)
named_range spec n d (Some t) f = shape_by t.shape f
  where
    shape_by : (s : Shape) → shape_range s ≡ Some d → shape_domain s ≡ d
    shape_by (shape.Range c) g = same_some g
    shape_by (shape.Labels names) g = absurd (none_some g)

kind_within : (spec : Data) (d : Domain) (k : Kind) → kind_range spec.types k ≡ Some d → kind_domain spec.types k ≡ d
kind_within spec d kind.Boolean f = absurd (none_some f)
kind_within spec d (kind.Named n) f = named_range spec n d (slice_get spec.types n) f
kind_within spec d (kind.Modes names) f = absurd (none_some f)

range_codes : (spec : Data) (d : Domain) (o : Option Declared) → option_and_then (λ x. kind_range spec.types x.kind) o ≡ Some d → option_map_or (λ x. kind_domain spec.types x.kind) o no_domain ≡ d
range_codes spec d None f = absurd (none_some f)
range_codes spec d (Some x) f = kind_within spec d x.kind f

-- a variable without a range has another sort
kind_other : (spec : Data) (v : ℕ) (k : Kind) → kind_range spec.types k ≡ None → is_integer (kind_sort spec.types v k) ≡ false
kind_other spec v kind.Boolean f = refl
kind_other spec v (kind.Named n) f = ap (λ o. is_integer (option_map_or (λ d. sort.Integer) o (sort.Labels (owner.Named n)))) f
kind_other spec v (kind.Modes names) f = refl

other_sort : (spec : Data) (v : ℕ) (s : Sort) (o : Option Declared) → option_and_then (λ x. kind_range spec.types x.kind) o ≡ None → option_map (λ x. kind_sort spec.types v x.kind) o ≡ Some s → is_integer s ≡ false
other_sort spec v s None f g = absurd (none_some g)
other_sort spec v s (Some x) f g = ap is_integer (sym (same_some g)) ∙ kind_other spec v x.kind f

-- ---- a value of a table

module _ (spec : Data) (sound : IsSound spec) (v : ℕ) (e : Expr) (old new : Codes) (hs : IsTyped spec old) (ht : IsTyped spec new) where
  by_goal : (d : Domain) → variable_range spec.types spec.variables v ≡ Some d → (names_variable e || is_within d (side_value spec [] [] e)) ≡ true
      → (names_variable e ≡ true → IsWithin (domain_of spec v) (side_value spec old new e)) → IsWithin (domain_of spec v) (side_value spec old new e)
  by_goal d f inside asked =
      elim (names_variable e) as (λ b. names_variable e ≡ b → (b || is_within d (side_value spec [] [] e)) ≡ true → IsWithin (domain_of spec v) (side_value spec old new e)) [
        | true ↦ λ named h. asked named
        | false ↦ λ fixed h.
            let z = side_value spec [] [] e in
            let both = and_parts (int_le d.lo z) (int_le z d.hi) h in
            let w : IsWithin d z = record { least = (int_le_tells d.lo z).0 both.0; most = (int_le_tells z d.hi).0 both.1 } in
            subst (λ c. IsWithin c (side_value spec old new e)) (sym (range_codes spec d (slice_get spec.variables v) f)) (subst (λ y. IsWithin d y) (fixed_side spec [] [] old new e fixed) w)
      ] refl inside

  by_sort : (s : Sort) (o : Option Sort) → variable_sort spec.types spec.variables v ≡ Some s → is_integer s ≡ false → side_sort spec e ≡ o → is_sort s o ≡ true → is_side_over spec e ≡ true
      → IsWithin (domain_of spec v) (side_value spec old new e)
  by_sort s None f h g same over = absurd (false≢true same)
  by_sort s (Some t) f h g same over =
      let codes = sym ((variable_codes spec v s sound f h).1) in
      subst (λ d. IsWithin d (side_value spec old new e)) (same_codes spec s t same ∙ codes) (side_within spec sound old new e t hs ht over g (same_integer s t same h))

  by_range : (o : Option Domain) → variable_range spec.types spec.variables v ≡ o → (p : Option Sort) → variable_sort spec.types spec.variables v ≡ p
      → option_map_or (λ s. is_sort s (side_sort spec e)) p false ≡ true → option_map_or (λ d. names_variable e || is_within d (side_value spec [] [] e)) o true ≡ true → is_side_over spec e ≡ true
      → (is_some o ≡ true → names_variable e ≡ true → IsWithin (domain_of spec v) (side_value spec old new e)) → IsWithin (domain_of spec v) (side_value spec old new e)
  by_range (Some d) f p g typed inside over asked = by_goal d f inside (asked refl)
  by_range None f None g typed inside over asked = absurd (false≢true typed)
  by_range None f (Some s) g typed inside over asked = by_sort s (side_sort spec e) g (other_sort spec v s (slice_get spec.variables v) f g) refl typed over

  -- it is in the domain of the variable, where it is so wherever a goal asks for it
  pub value_within : (h : Heading) → is_value_sound spec h v e ≡ true → is_side_over spec e ≡ true
      → (is_some (variable_range spec.types spec.variables v) ≡ true → names_variable e ≡ true → IsWithin (domain_of spec v) (side_value spec old new e)) → IsWithin (domain_of spec v) (side_value spec old new e)
  value_within h rules over asked =
      let outer = and_parts (is_side_formed e && is_value_typed spec v e && is_value_primed_in h e) (is_value_inside spec v e) rules in
      let inner = and_parts (is_side_formed e && is_value_typed spec v e) (is_value_primed_in h e) outer.0 in
      let typed = (and_parts (is_side_formed e) (is_value_typed spec v e) inner.0).1 in
      by_range (variable_range spec.types spec.variables v) refl (variable_sort spec.types spec.variables v) refl typed outer.1 over asked
