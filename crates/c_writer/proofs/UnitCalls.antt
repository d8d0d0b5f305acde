-- What the functions of the unit of a specification do.
use Rattle.std.proofs.Common.{◌≡◌, ℕ, zero, suc, ◌+◌, ◌<◌, ℤ, pos, Bool, true, false, cond, ◌||◌, List, [], ◌∷◌, ◌++◌, map, length, Option, Some, None, inl, inr, refl, sym, ap, subst, ◌∙◌, arith}
use Rattle.std.specs.Prelude.{fold, slice_set, nat_eq, codes}
use Rattle.std.specs.Option.{option_and_then}
use Rattle.std.specs.List.{list_any, flat_map, filter, filter_map, range_with_len, AllByRecursion as Each}
use Rattle.std.specs.Str.{bytes_eq}
use Rattle.std.proofs.lemmas.Bool.{cases_eq, cases_order, eqb-true, eq-eqb, or_left, or_right, or_parts, false≢true}
use Rattle.std.proofs.lemmas.List.{append-nil, length-set, get_or-set_same, get_or-set_other, ext_get_or, append_cancel_left, map-append}
use Rattle.std.proofs.lemmas.List.Elements.{filter_map-append}
use Rattle.std.proofs.Math.Bool.{or-false}
use Rattle.std.proofs.lemmas.List.FromFn.{fill_by_all}
use Rattle.scr_spec.specs.Data.{Data}
use Rattle.scr_spec.specs.Names.{variable_name}
use Rattle.scr_spec.specs.Meaning.{Codes, code_of}
use Rattle.scr_spec.specs.Relations.{is_monitored}
use Rattle.scr_spec.specs.Sound.{IsSound}
use Rattle.c_subset.specs.declared.expr.CExpr.TheVariants.{Name}
use Rattle.c_subset.specs.declared.stmt.CStmt.TheVariants.{Assign, Call}
use Rattle.c_subset.specs.declared.unit.CObject.{CObject}
use Rattle.c_subset.specs.declared.unit.CFunction.{CFunction}
use Rattle.c_subset.specs.declared.unit.CItem.TheVariants.{Function}
use Rattle.c_subset.specs.Parts.{object_of, function_of, objects, functions, object_names}
use Rattle.c_subset.specs.Meaning.{Objects, Names, object_value, name_value}
use Rattle.c_subset.specs.Statements.{Calls, assign, block_effect, body_effect, with_function, no_calls, calls_of}
use Rattle.c_subset.specs.Runs.{initial_objects, call_effect, setter as setter_name}
use Rattle.c_writer.specs.Objects.{new_object, old_object, save_name, step_name, argument_name}
use Rattle.c_writer.specs.Tables.{variable_stmts}
use Rattle.c_writer.specs.Units.{variables_of, object_item, save_stmt, save_function, step_function, setter, setter_item, setters, unit_of}
use Rattle.c_writer.proofs.Meanings.{number_of-Name, effect_of-Assign, effect_of-Call, block_then}
use Rattle.c_writer.proofs.Places.{one_name, differ, same_bytes, all_objects, new_value, new_assigned, old_assigned}
use Rattle.c_writer.proofs.StepRuns.{plain_names}

below_other : (w a : ℕ) → w < a + 1 → (w ≡ a → ⊥) → w < a
below_other w a less d = elim (cases_order w a) [ inl e ↦ absurd (d e) | inr other ↦ elim other [ inl below ↦ below | inr above ↦ absurd (omega (arith, less, above)) ] ]

-- ---- save

save_from : (calls : Calls) (spec : Data) (codes : Codes) → IsSound spec → length codes ≡ length spec.variables → (k a : ℕ) (o : Codes) → a + k ≡ length spec.variables → length o ≡ length spec.variables
    → ((w : ℕ) → w < a → code_of o w ≡ code_of codes w)
    → block_effect (plain_names spec) calls (map (save_stmt spec) (range_with_len a k)) (codes ++ o) ≡ Some (codes ++ codes)
save_from calls spec codes sound n zero a o e m saved = ap (λ c. Some (codes ++ c)) (ext_get_or (pos 0) o codes (m ∙ sym n) (λ w lt. saved w (omega (arith, e, m, lt))))
save_from calls spec codes sound n (suc k) a o e m saved =
    let lt : a < length spec.variables = omega (arith, e) in
    let z = code_of codes a in
    let next = slice_set o a z in
    block_then (plain_names spec) calls (save_stmt spec a) (map (save_stmt spec) (range_with_len (a + 1) k)) (codes ++ o) (codes ++ next)
    (effect_of-Assign (plain_names spec) calls (old_object spec a) (Name (new_object spec a)) (codes ++ o)
    ∙ ap (option_and_then (λ x. assign (all_objects spec) (old_object spec a) x (codes ++ o))) (number_of-Name (plain_names spec) (codes ++ o) (new_object spec a) ∙ new_value spec codes o a sound n lt)
    ∙ old_assigned spec codes o a z sound n lt)
    ∙ save_from calls spec codes sound n k (a + 1) next (omega (arith, e)) (length-set o a z ∙ m)
    (λ w less. elim (cases_eq w a) [
      | inl f ↦ subst (λ v. code_of next v ≡ code_of codes v) (sym f) (get_or-set_same o a z (pos 0) (omega (arith, m, lt)))
      | inr d ↦ get_or-set_other o a w z (pos 0) d ∙ saved w (below_other w a less d)
    ])

-- the new codes become old ones
save_effect : (calls : Calls) (spec : Data) (codes o : Codes) → IsSound spec → length codes ≡ length spec.variables → length o ≡ length spec.variables
    → body_effect (all_objects spec) calls (save_function spec) None (codes ++ o) ≡ Some (codes ++ codes)
save_effect calls spec codes o sound n m = save_from calls spec codes sound n (length spec.variables) 0 o (omega arith) m (λ w lt. absurd (omega (arith, lt)))

-- ---- names of functions

abbrev pub second_byte : List ℕ → ℕ
second_byte [] = 0
second_byte (a ∷ []) = 0
second_byte (a ∷ b ∷ bytes) = b

pub apart : (xs ys : List ℕ) (a b : ℕ) → second_byte xs ≡ a → second_byte ys ≡ b → (a ≡ b → ⊥) → bytes_eq xs ys ≡ false
apart xs ys a b e f d = differ xs ys (λ h. d (sym e ∙ ap second_byte h ∙ f))

pub step_no_save : bytes_eq step_name save_name ≡ false
step_no_save = apart step_name save_name 116 97 refl refl (λ e. omega (arith, e))

pub setter_no_save : (name : List ℕ) → bytes_eq (setter_name name) save_name ≡ false
setter_no_save name = apart (setter_name name) save_name 101 97 refl refl (λ e. omega (arith, e))

pub setter_no_step : (name : List ℕ) → bytes_eq (setter_name name) step_name ≡ false
setter_no_step name = apart (setter_name name) step_name 101 116 refl refl (λ e. omega (arith, e))

pub setters_differ : (spec : Data) (x y : ℕ) → IsSound spec → x < length spec.variables → y < length spec.variables → (x ≡ y → ⊥) → bytes_eq (setter_name (variable_name spec y)) (setter_name (variable_name spec x)) ≡ false
setters_differ spec x y sound lx ly d = differ _ _ (λ e. d (one_name spec x y sound lx ly (sym (append_cancel_left (codes "set_") (variable_name spec y) (variable_name spec x) e))))

-- ---- calls

-- what the two functions do that each setter calls
record Reaches (spec : Data) (old mid new : Codes) (calls : Calls) : Type 0 where
  saves : (o : Codes) → length o ≡ length spec.variables → calls save_name None (old ++ o) ≡ Some (old ++ old)
  steps : calls step_name None (mid ++ old) ≡ Some (new ++ old)

called : (objects : List (List ℕ)) (calls : Calls) (f : CFunction) (argument : Option ℤ) (row : Objects) → with_function objects calls f f.name argument row ≡ body_effect objects calls f argument row
called objects calls f argument row = ap (λ b. cond b (body_effect objects calls f argument row) (calls f.name argument row)) (same_bytes f.name)

passed : (objects : List (List ℕ)) (calls : Calls) (f : CFunction) (name : List ℕ) (argument : Option ℤ) (row : Objects) → bytes_eq f.name name ≡ false
    → with_function objects calls f name argument row ≡ calls name argument row
passed objects calls f name argument row e = ap (λ b. cond b (body_effect objects calls f argument row) (calls name argument row)) e

-- the calls of the first two functions
abbrev base_calls : Data → List ℕ → Calls
base_calls spec order = with_function (all_objects spec) (with_function (all_objects spec) no_calls (save_function spec)) (step_function spec order)

base_reaches : (spec : Data) (order : List ℕ) (old mid new : Codes) → IsSound spec → length old ≡ length spec.variables
    → ((calls : Calls) → block_effect (plain_names spec) calls (flat_map (variable_stmts spec) order) (mid ++ old) ≡ Some (new ++ old))
    → Reaches spec old mid new (base_calls spec order)
base_reaches spec order old mid new sound n step = record {
  saves = λ o m.
      passed (all_objects spec) (with_function (all_objects spec) no_calls (save_function spec)) (step_function spec order) save_name None (old ++ o) step_no_save
      ∙ called (all_objects spec) no_calls (save_function spec) None (old ++ o)
      ∙ save_effect no_calls spec old o sound n m;
  steps = called (all_objects spec) (with_function (all_objects spec) no_calls (save_function spec)) (step_function spec order) None (mid ++ old) ∙ step (with_function (all_objects spec) no_calls (save_function spec));
}

still_reaches : (spec : Data) (old mid new : Codes) (calls : Calls) (y : ℕ) → Reaches spec old mid new calls → Reaches spec old mid new (with_function (all_objects spec) calls (setter spec y))
still_reaches spec old mid new calls y r = record {
  saves = λ o m. passed (all_objects spec) calls (setter spec y) save_name None (old ++ o) (setter_no_save (variable_name spec y)) ∙ r.saves o m;
  steps = passed (all_objects spec) calls (setter spec y) step_name None (mid ++ old) (setter_no_step (variable_name spec y)) ∙ r.steps;
}

-- ---- one input

abbrev argument_names : Data → ℤ → Names
argument_names spec a = record { objects = all_objects spec; parameter = Some (argument_name, a) }

argument_read : (spec : Data) (a : ℤ) (row : Objects) → name_value (argument_names spec a) row argument_name ≡ Some a
argument_read spec a row = ap (λ b. cond b (Some a) (object_value (all_objects spec) row argument_name)) (same_bytes argument_name)

-- the old codes are saved, the variable takes its new code, and the others follow
setter_effect : (spec : Data) (old new : Codes) (x : ℕ) (a : ℤ) (calls : Calls) (o : Codes) → IsSound spec → length old ≡ length spec.variables → length o ≡ length spec.variables → x < length spec.variables
    → Reaches spec old (slice_set old x a) new calls → body_effect (all_objects spec) calls (setter spec x) (Some a) (old ++ o) ≡ Some (new ++ old)
setter_effect spec old new x a calls o sound n m lt r =
    let names = argument_names spec a in
    let mid = slice_set old x a in
    block_then names calls (Call save_name None) (Assign (new_object spec x) (Name argument_name) ∷ Call step_name None ∷ []) (old ++ o) (old ++ old)
    (effect_of-Call names calls save_name None (old ++ o) ∙ r.saves o m)
    ∙ block_then names calls (Assign (new_object spec x) (Name argument_name)) (Call step_name None ∷ []) (old ++ old) (mid ++ old)
    (effect_of-Assign names calls (new_object spec x) (Name argument_name) (old ++ old)
    ∙ ap (option_and_then (λ z. assign (all_objects spec) (new_object spec x) z (old ++ old))) (number_of-Name names (old ++ old) argument_name ∙ argument_read spec a (old ++ old))
    ∙ new_assigned spec old old x a sound n lt)
    ∙ block_then names calls (Call step_name None) [] (mid ++ old) (new ++ old) (effect_of-Call names calls step_name None (mid ++ old) ∙ r.steps)

-- setters of other variables are passed over
setters_passed : (spec : Data) (x : ℕ) (a : ℤ) (row : Objects) → IsSound spec → x < length spec.variables → (ys : List ℕ) → Each (λ y. y < length spec.variables) ys → list_any (nat_eq x) ys ≡ false → (calls : Calls)
    → fold (with_function (all_objects spec)) calls (map (setter spec) ys) (setter_name (variable_name spec x)) (Some a) row ≡ calls (setter_name (variable_name spec x)) (Some a) row
setters_passed spec x a row sound lt [] inside none calls = refl
setters_passed spec x a row sound lt (y ∷ ys) inside none calls =
    let both = or_parts (nat_eq x y) (list_any (nat_eq x) ys) none in
    setters_passed spec x a row sound lt ys inside.1 both.1 (with_function (all_objects spec) calls (setter spec y))
    ∙ passed (all_objects spec) calls (setter spec y) (setter_name (variable_name spec x)) (Some a) row
    (setters_differ spec x y sound lt inside.0 (λ e. false≢true (sym both.0 ∙ eq-eqb x y e)))

setters_reached : (spec : Data) (old new : Codes) (x : ℕ) (a : ℤ) (o : Codes) → IsSound spec → length old ≡ length spec.variables → length o ≡ length spec.variables → x < length spec.variables
    → (ys : List ℕ) → Each (λ y. y < length spec.variables) ys → list_any (nat_eq x) ys ≡ true → (calls : Calls) → Reaches spec old (slice_set old x a) new calls
    → fold (with_function (all_objects spec)) calls (map (setter spec) ys) (setter_name (variable_name spec x)) (Some a) (old ++ o) ≡ Some (new ++ old)
setters_reached spec old new x a o sound n m lt [] inside there calls r = absurd (false≢true there)
setters_reached spec old new x a o sound n m lt (y ∷ ys) inside there calls r =
    let next = with_function (all_objects spec) calls (setter spec y) in
    elim (list_any (nat_eq x) ys) as (λ b. list_any (nat_eq x) ys ≡ b → nat_eq x y || b ≡ true
    → fold (with_function (all_objects spec)) next (map (setter spec) ys) (setter_name (variable_name spec x)) (Some a) (old ++ o) ≡ Some (new ++ old)) [
      | true ↦ λ later k. setters_reached spec old new x a o sound n m lt ys inside.1 later next (still_reaches spec old (slice_set old x a) new calls y r)
      | false ↦ λ none k.
          let same : y ≡ x = sym (eqb-true x y (sym (or-false (nat_eq x y)) ∙ k)) in
          setters_passed spec x a (old ++ o) sound lt ys inside.1 none next
          ∙ ap (λ v. with_function (all_objects spec) calls (setter spec v) (setter_name (variable_name spec x)) (Some a) (old ++ o)) same
          ∙ called (all_objects spec) calls (setter spec x) (Some a) (old ++ o)
          ∙ setter_effect spec old new x a calls o sound n m lt r
    ] refl there

-- ---- the parts of the unit

no_functions : (object : ℕ → List ℕ) (first : Codes) (vs : List ℕ) → filter_map function_of (map (object_item object first) vs) ≡ []
no_functions object first [] = refl
no_functions object first (v ∷ vs) = no_functions object first vs

setters_listed : (spec : Data) (vs : List ℕ) → filter_map function_of (map (setter_item spec) vs) ≡ map (setter spec) vs
setters_listed spec [] = refl
setters_listed spec (v ∷ vs) = ap (λ fs. setter spec v ∷ fs) (setters_listed spec vs)

-- the monitored variables
abbrev pub monitored_of : Data → List ℕ
monitored_of spec = filter (is_monitored spec) (variables_of spec)

unit_functions : (spec : Data) (order : List ℕ) (first : Codes) → functions (unit_of spec order first) ≡ save_function spec ∷ step_function spec order ∷ map (setter spec) (monitored_of spec)
unit_functions spec order first =
    let news = map (object_item (new_object spec) first) (variables_of spec) in
    let olds = map (object_item (old_object spec) first) (variables_of spec) in
    let rest = Function (save_function spec) ∷ Function (step_function spec order) ∷ setters spec in
    filter_map-append function_of (news ++ olds) rest
    ∙ ap (λ fs. fs ++ filter_map function_of rest)
    (filter_map-append function_of news olds ∙ ap (λ fs. fs ++ filter_map function_of olds) (no_functions (new_object spec) first (variables_of spec)) ∙ no_functions (old_object spec) first (variables_of spec))
    ∙ ap (λ fs. save_function spec ∷ step_function spec order ∷ fs) (setters_listed spec (monitored_of spec))

objects_listed : (object : ℕ → List ℕ) (first : Codes) (vs : List ℕ) → filter_map object_of (map (object_item object first) vs) ≡ map (λ v. record { name = object v; init = code_of first v }) vs
objects_listed object first [] = refl
objects_listed object first (v ∷ vs) = ap (λ os. record { name = object v; init = code_of first v } ∷ os) (objects_listed object first vs)

no_objects : (spec : Data) (vs : List ℕ) → filter_map object_of (map (setter_item spec) vs) ≡ []
no_objects spec [] = refl
no_objects spec (v ∷ vs) = no_objects spec vs

-- an object of a variable
abbrev object_at : (ℕ → List ℕ) → Codes → ℕ → CObject
object_at object first v = record { name = object v; init = code_of first v }

unit_objects : (spec : Data) (order : List ℕ) (first : Codes)
    → objects (unit_of spec order first) ≡ map (object_at (new_object spec) first) (variables_of spec) ++ map (object_at (old_object spec) first) (variables_of spec)
unit_objects spec order first =
    let news = map (object_item (new_object spec) first) (variables_of spec) in
    let olds = map (object_item (old_object spec) first) (variables_of spec) in
    let rest = Function (save_function spec) ∷ Function (step_function spec order) ∷ setters spec in
    filter_map-append object_of (news ++ olds) rest
    ∙ ap (λ os. filter_map object_of (news ++ olds) ++ os) (no_objects spec (monitored_of spec))
    ∙ append-nil (filter_map object_of (news ++ olds))
    ∙ filter_map-append object_of news olds
    ∙ ap (λ os. os ++ filter_map object_of olds) (objects_listed (new_object spec) first (variables_of spec))
    ∙ ap (λ os. map (object_at (new_object spec) first) (variables_of spec) ++ os) (objects_listed (old_object spec) first (variables_of spec))

names_listed : (object : ℕ → List ℕ) (first : Codes) (vs : List ℕ) → map (λ (o : CObject). o.name) (map (object_at object first) vs) ≡ map object vs
names_listed object first [] = refl
names_listed object first (v ∷ vs) = ap (λ ns. object v ∷ ns) (names_listed object first vs)

pub unit_names : (spec : Data) (order : List ℕ) (first : Codes) → object_names (unit_of spec order first) ≡ all_objects spec
unit_names spec order first =
    ap (map (λ (o : CObject). o.name)) (unit_objects spec order first)
    ∙ map-append (λ (o : CObject). o.name) (map (object_at (new_object spec) first) (variables_of spec)) (map (object_at (old_object spec) first) (variables_of spec))
    ∙ ap (λ ns. ns ++ map (λ (o : CObject). o.name) (map (object_at (old_object spec) first) (variables_of spec))) (names_listed (new_object spec) first (variables_of spec))
    ∙ ap (λ ns. map (new_object spec) (variables_of spec) ++ ns) (names_listed (old_object spec) first (variables_of spec))

inits_listed : (object : ℕ → List ℕ) (first : Codes) (vs : List ℕ) → map (λ (o : CObject). o.init) (map (object_at object first) vs) ≡ map (code_of first) vs
inits_listed object first [] = refl
inits_listed object first (v ∷ vs) = ap (λ ns. code_of first v ∷ ns) (inits_listed object first vs)

read_back : (spec : Data) (first : Codes) → length first ≡ length spec.variables → map (code_of first) (variables_of spec) ≡ first
read_back spec first n = sym (fill_by_all (code_of first) first (length spec.variables) (pos 0) n (λ k lt. refl))

-- the initialisers are the first codes, twice
pub unit_starts : (spec : Data) (order : List ℕ) (first : Codes) → length first ≡ length spec.variables → initial_objects (unit_of spec order first) ≡ first ++ first
unit_starts spec order first n =
    ap (map (λ (o : CObject). o.init)) (unit_objects spec order first)
    ∙ map-append (λ (o : CObject). o.init) (map (object_at (new_object spec) first) (variables_of spec)) (map (object_at (old_object spec) first) (variables_of spec))
    ∙ ap (λ ns. ns ++ map (λ (o : CObject). o.init) (map (object_at (old_object spec) first) (variables_of spec))) (inits_listed (new_object spec) first (variables_of spec) ∙ read_back spec first n)
    ∙ ap (λ ns. first ++ ns) (inits_listed (old_object spec) first (variables_of spec) ∙ read_back spec first n)

-- ---- a call

kept_inside : (spec : Data) (a : ℕ) (ys : List ℕ) (b : Bool) → a < length spec.variables → Each (λ y. y < length spec.variables) ys → Each (λ y. y < length spec.variables) (cond b (a ∷ ys) ys)
kept_inside spec a ys true lt each = (lt, each)
kept_inside spec a ys false lt each = each

kept_here : (spec : Data) (x a : ℕ) (ys : List ℕ) (b : Bool) → b ≡ true → x ≡ a → list_any (nat_eq x) (cond b (a ∷ ys) ys) ≡ true
kept_here spec x a ys true f e = or_left _ _ (eq-eqb x a e)
kept_here spec x a ys false f e = absurd (false≢true f)

kept_later : (spec : Data) (x a : ℕ) (ys : List ℕ) (b : Bool) → list_any (nat_eq x) ys ≡ true → list_any (nat_eq x) (cond b (a ∷ ys) ys) ≡ true
kept_later spec x a ys true h = or_right _ _ h
kept_later spec x a ys false h = h

range_inside : (spec : Data) (a k : ℕ) → a + k ≡ length spec.variables → Each (λ y. y < length spec.variables) (filter (is_monitored spec) (range_with_len a k))
range_inside spec a zero e = tt
range_inside spec a (suc k) e =
    let rest = range_inside spec (a + 1) k (omega (arith, e)) in
    kept_inside spec a (filter (is_monitored spec) (range_with_len (a + 1) k)) (is_monitored spec a) (omega (arith, e)) rest

range_has : (spec : Data) (x : ℕ) → is_monitored spec x ≡ true → (k a : ℕ) → (x < a → ⊥) → x < a + k → list_any (nat_eq x) (filter (is_monitored spec) (range_with_len a k)) ≡ true
range_has spec x monitored zero a above below = absurd (above (omega (arith, below)))
range_has spec x monitored (suc k) a above below =
    elim (cases_eq x a) [
      | inl e ↦ kept_here spec x a (filter (is_monitored spec) (range_with_len (a + 1) k)) (is_monitored spec a) (subst (λ v. is_monitored spec v ≡ true) e monitored) e
      | inr d ↦ kept_later spec x a (filter (is_monitored spec) (range_with_len (a + 1) k)) (is_monitored spec a) (range_has spec x monitored k (a + 1) (λ l. above (below_other x a l d)) (omega (arith, below)))
    ]

-- the call of a setter makes one step
pub unit_call : (spec : Data) (order : List ℕ) (first old new : Codes) (x : ℕ) (a : ℤ) (o : Codes) → IsSound spec → length old ≡ length spec.variables → length o ≡ length spec.variables → x < length spec.variables
    → is_monitored spec x ≡ true
    → ((calls : Calls) → block_effect (plain_names spec) calls (flat_map (variable_stmts spec) order) (slice_set old x a ++ old) ≡ Some (new ++ old))
    → call_effect (unit_of spec order first) (setter_name (variable_name spec x)) a (old ++ o) ≡ Some (new ++ old)
unit_call spec order first old new x a o sound n m lt monitored step =
    ap (λ ns. calls_of ns (functions (unit_of spec order first)) (setter_name (variable_name spec x)) (Some a) (old ++ o)) (unit_names spec order first)
    ∙ ap (λ fs. calls_of (all_objects spec) fs (setter_name (variable_name spec x)) (Some a) (old ++ o)) (unit_functions spec order first)
    ∙ setters_reached spec old new x a o sound n m lt (monitored_of spec) (range_inside spec 0 (length spec.variables) (omega arith))
    (range_has spec x monitored (length spec.variables) 0 (λ l. omega (arith, l)) (omega (arith, lt))) (base_calls spec order) (base_reaches spec order old (slice_set old x a) new sound n step)
