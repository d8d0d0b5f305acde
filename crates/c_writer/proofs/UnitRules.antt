-- The unit of a specification keeps all rules of C.
use Rattle.std.proofs.Common.{◌≡◌, ℕ, zero, suc, ◌+◌, ◌*◌, ◌<◌, ◌≤◌, Bool, true, false, cond, List, [], ◌∷◌, ◌++◌, map, length, get_or, Some, None, refl, sym, ap, ◌∙◌, arith}
use Rattle.std.specs.Prelude.{find}
use Rattle.std.specs.Option.{option_or}
use Rattle.std.specs.List.{filter, range_with_len, AllByRecursion as Each}
use Rattle.std.specs.Str.{bytes_eq}
use Rattle.std.proofs.lemmas.Bool.{and_from, or_from, leb-true, le-leb}
use Rattle.std.proofs.lemmas.List.{append_assoc, map-append}
use Rattle.std.proofs.lemmas.List.Folds.{list_any-append, find-append}
use Rattle.scr_spec.specs.Data.{Data}
use Rattle.scr_spec.specs.Names.{variable_name}
use Rattle.scr_spec.specs.Meaning.{Codes, code_of}
use Rattle.scr_spec.specs.Domains.{IsTyped, domain_of}
use Rattle.scr_spec.specs.Relations.{is_monitored}
use Rattle.scr_spec.specs.Sound.{IsSound}
use Rattle.scr_spec.proofs.Narrow.{variable_narrow}
use Rattle.scr_depend.proofs.Count.{count_below, count_below_all, without, without_other, count_without}
use Rattle.scr_depend.specs.declared.order.Order.{Order}
use Rattle.scr_depend.specs.Passes.{PassesChecks}
use Rattle.run_step.proofs.Order.{dependent_within}
use Rattle.c_subset.specs.declared.unit.CFunction.{CFunction}
use Rattle.c_subset.specs.declared.unit.CItem.TheVariants.{Function}
use Rattle.c_subset.specs.Names.{is_among}
use Rattle.c_subset.specs.Kinds.{is_number_in_range}
use Rattle.c_subset.specs.Scope.{Known, Scope}
use Rattle.c_subset.specs.Rules.{known_of, with_item, is_function, are_items, is_unit}
use Rattle.c_subset.specs.Runs.{setter as setter_name}
use Rattle.c_writer.specs.Objects.{new_object, old_object, save_name, step_name, argument_name}
use Rattle.c_writer.specs.Units.{variables_of, object_item, save_function, step_function, setter, setter_item, setters, unit_of}
use Rattle.c_writer.specs.Laws.{UnitKeepsRules}
use Rattle.scr_spec.proofs.Sizes.{code_bounded}
use Rattle.c_writer.proofs.StmtRules.{AreStmts}
use Rattle.c_writer.proofs.TableRules.{variables_at}
use Rattle.c_writer.proofs.Places.{differ, same_bytes, all_objects, new_differ, old_differ, new_old}
use Rattle.c_writer.proofs.UnitCalls.{apart, setters_differ, step_no_save, setter_no_save, setter_no_step}
use Rattle.c_writer.proofs.Checks.{order_placed, order_dependent}
use Rattle.c_writer.proofs.ItemRules.{variable_plain, new_valid, old_valid, save_valid, step_valid, apart_first, none_of, no_object, new_there, has_objects, function_names, IsFree, objects_scope, objects_right, plain_function, saves_at, IsKnown, IsSetterScope, setter_right}

-- ---- the order is no longer than the list of variables

abbrev AllDiffer : List ℕ → Type 0
AllDiffer [] = Unit {0}
AllDiffer (x ∷ xs) = Each (λ y. y ≡ x → ⊥) xs × AllDiffer xs

each_index : (P : ℕ → Type 0) (xs : List ℕ) → ((i : ℕ) → i < length xs → P (get_or xs i 0)) → Each P xs
each_index P [] f = tt
each_index P (x ∷ xs) f = (f 0 (omega arith), each_index P xs (λ i lt. f (suc i) (omega (arith, lt))))

differ_index : (xs : List ℕ) → ((i j : ℕ) → i < length xs → j < i → get_or xs j 0 ≡ get_or xs i 0 → ⊥) → AllDiffer xs
differ_index [] f = tt
differ_index (x ∷ xs) f =
    (each_index (λ y. y ≡ x → ⊥) xs (λ i lt e. f (suc i) 0 (omega (arith, lt)) (omega arith) (sym e)), differ_index xs (λ i j lt less e. f (suc i) (suc j) (omega (arith, lt)) (omega (arith, less)) e))

-- below n, and the test passes
abbrev Fits : ℕ → (ℕ → Bool) → ℕ → Type 0
Fits n p x = (x < n) × (p x ≡ true)

fits_without : (n : ℕ) (p : ℕ → Bool) (u : ℕ) (xs : List ℕ) → Each (Fits n p) xs → Each (λ y. y ≡ u → ⊥) xs → Each (Fits n (without p u)) xs
fits_without n p u [] each other = tt
fits_without n p u (x ∷ xs) each other = ((each.0.0, without_other p u x each.0.1 other.0), fits_without n p u xs each.1 other.1)

at_most : (n : ℕ) (p : ℕ → Bool) (xs : List ℕ) → Each (Fits n p) xs → AllDiffer xs → length xs ≤ count_below p n
at_most n p [] each differ = omega arith
at_most n p (x ∷ xs) each differ =
    let rest : length xs ≤ count_below (without p x) n = at_most n (without p x) xs (fits_without n p x xs each.1 differ.0) differ.1 in
    let less = count_without p x n each.0.0 each.0.1 in
    omega (arith, rest, less)

order_short : (spec : Data) (order : Order) → PassesChecks spec order → length order.list ≤ length spec.variables
order_short spec order passes =
    let n = length spec.variables in
    let placed = order_placed spec order passes in
    let each = each_index (Fits n (λ x. true)) order.list (λ i lt. (dependent_within spec (get_or order.list i 0) (order_dependent spec order passes i lt), refl)) in
    let fits = at_most n (λ x. true) order.list each (differ_index order.list placed.once) in
    let all = count_below_all (λ x. true) n in
    omega (arith, fits, all)

-- ---- one more setter

still_known : (scope : Scope) (f : CFunction) (name : List ℕ) (most : ℕ) → IsKnown scope name most → IsKnown (with_item scope (Function f)) name most
still_known scope f name most k = record {
  it = k.it;
  found = find-append (λ (g : Known). bytes_eq g.name name) scope.functions (known_of scope f ∷ []) ∙ ap (λ o. option_or o (find (λ (g : Known). bytes_eq g.name name) (known_of scope f ∷ []))) k.found;
  plain = k.plain;
  light = k.light;
  low = k.low;
}

names_after : (scope : Scope) (f : CFunction) → function_names (with_item scope (Function f)) ≡ function_names scope ++ f.name ∷ []
names_after scope f = map-append (λ (g : Known). g.name) scope.functions (known_of scope f ∷ [])

next_scope : (scope : Scope) (spec : Data) (y : ℕ) → IsSetterScope scope spec → IsSetterScope (with_item scope (Function (setter spec y))) spec
next_scope scope spec y s = record {
  objects_are = s.objects_are;
  save = still_known scope (setter spec y) save_name 128 s.save;
  step = still_known scope (setter spec y) step_name 262272 s.step;
  no_function = ap (λ ns. is_among ns argument_name) (names_after scope (setter spec y))
      ∙ list_any-append (bytes_eq argument_name) (function_names scope) (setter_name (variable_name spec y) ∷ [])
      ∙ or_from _ _ s.no_function (or_from _ _ (apart_first argument_name (setter_name (variable_name spec y)) 97 115 refl refl (λ e. omega (arith, e))) refl);
}

next_free : (scope : Scope) (spec : Data) (y z : ℕ) → IsSound spec → y < length spec.variables → z < length spec.variables → (y ≡ z → ⊥) → IsFree scope (setter_name (variable_name spec z))
    → IsFree (with_item scope (Function (setter spec y))) (setter_name (variable_name spec z))
next_free scope spec y z sound ly lz d free =
    let name = setter_name (variable_name spec z) in
    record {
      no_object = free.no_object;
      no_function = ap (λ ns. is_among ns name) (names_after scope (setter spec y))
          ∙ list_any-append (bytes_eq name) (function_names scope) (setter_name (variable_name spec y) ∷ [])
          ∙ or_from _ _ free.no_function (or_from _ _ (setters_differ spec y z sound ly lz d) refl);
      no_parameter = list_any-append (bytes_eq name) scope.parameters (argument_name ∷ [])
          ∙ or_from _ _ free.no_parameter (or_from _ _ (apart_first name argument_name 115 97 refl refl (λ e. omega (arith, e))) refl);
    }

chosen : (scope : Scope) (spec : Data) (a : ℕ) (rest : List ℕ) (b : Bool) → is_function scope (setter spec a) ≡ true → are_items (with_item scope (Function (setter spec a))) (map (setter_item spec) rest) ≡ true
    → are_items scope (map (setter_item spec) rest) ≡ true → are_items scope (map (setter_item spec) (cond b (a ∷ rest) rest)) ≡ true
chosen scope spec a rest true here with_it without_it = and_from _ _ here with_it
chosen scope spec a rest false here with_it without_it = without_it

setters_from : (spec : Data) → IsSound spec → (k a : ℕ) → a + k ≡ length spec.variables → (scope : Scope) → IsSetterScope scope spec
    → ((j : ℕ) → a ≤ j → j < length spec.variables → IsFree scope (setter_name (variable_name spec j))) → are_items scope (map (setter_item spec) (filter (is_monitored spec) (range_with_len a k))) ≡ true
setters_from spec sound zero a e scope s free = refl
setters_from spec sound (suc k) a e scope s free =
    let lt : a < length spec.variables = omega (arith, e) in
    let next = with_item scope (Function (setter spec a)) in
    let more : a + 1 + k ≡ length spec.variables = omega (arith, e) in
    chosen scope spec a (filter (is_monitored spec) (range_with_len (a + 1) k)) (is_monitored spec a)
    (setter_right scope spec a sound lt s (free a (omega arith) lt))
    (setters_from spec sound k (a + 1) more next (next_scope scope spec a s) (λ j low high. next_free scope spec a j sound lt high (λ f. omega (arith, f, low)) (free j (omega (arith, low)) high)))
    (setters_from spec sound k (a + 1) more scope s (λ j low high. free j (omega (arith, low)) high))

-- ---- the unit

abbrev first_scope : Data → Scope
first_scope spec = objects_scope (all_objects spec)

abbrev second_scope : Data → Scope
second_scope spec = with_item (first_scope spec) (Function (save_function spec))

abbrev third_scope : Data → List ℕ → Scope
third_scope spec order = with_item (second_scope spec) (Function (step_function spec order))

save_at : (spec : Data) → AreStmts 200 (first_scope spec) (all_objects spec) ((save_function spec).body) (length spec.variables)
save_at spec = saves_at (first_scope spec) spec refl (length spec.variables) 0 (omega arith)

step_at : (spec : Data) (order : List ℕ) → IsSound spec → AreStmts 200 (second_scope spec) (all_objects spec) ((step_function spec order).body) (2049 * length order)
step_at spec order sound = variables_at (second_scope spec) (all_objects spec) spec order sound (has_objects spec) (λ u lt. new_there spec u lt)

save_no_step : bytes_eq save_name step_name ≡ false
save_no_step = apart save_name step_name 97 116 refl refl (λ e. omega (arith, e))

setter_scope : (spec : Data) (order : List ℕ) → IsSound spec → length spec.variables ≤ 128 → length order ≤ 128 → IsSetterScope (third_scope spec order) spec
setter_scope spec order sound few short =
    let s = save_at spec in
    let t = step_at spec order sound in
    let a = s.light in
    let b = s.calls in
    let c = t.light in
    let d = t.calls in
    record {
      objects_are = refl;
      save = record {
        it = known_of (first_scope spec) (save_function spec);
        found = ap (λ x. cond x (Some (known_of (first_scope spec) (save_function spec))) (find (λ (g : Known). bytes_eq g.name save_name) (known_of (second_scope spec) (step_function spec order) ∷ []))) (same_bytes save_name);
        plain = refl;
        light = omega (arith, a, few);
        low = omega (arith, b);
      };
      step = record {
        it = known_of (second_scope spec) (step_function spec order);
        found = ap (λ x. cond x (Some (known_of (first_scope spec) (save_function spec))) (find (λ (g : Known). bytes_eq g.name step_name) (known_of (second_scope spec) (step_function spec order) ∷ []))) save_no_step
            ∙ ap (λ x. cond x (Some (known_of (second_scope spec) (step_function spec order))) None) (same_bytes step_name);
        plain = refl;
        light = omega (arith, c, short);
        low = omega (arith, d);
      };
      no_function = or_from _ _ (apart_first argument_name save_name 97 115 refl refl (λ e. omega (arith, e))) (or_from _ _ (apart_first argument_name step_name 97 115 refl refl (λ e. omega (arith, e))) refl);
    }

functions_right : (spec : Data) (order : List ℕ) → IsSound spec → length spec.variables ≤ 128 → length order ≤ 128
    → are_items (first_scope spec) (Function (save_function spec) ∷ Function (step_function spec order) ∷ setters spec) ≡ true
functions_right spec order sound few short =
    let save_ok = plain_function (first_scope spec) (save_function spec) (length spec.variables) refl save_valid
    (record { no_object = no_object spec save_name 115 refl (λ e. omega (arith, e)) (λ e. omega (arith, e)); no_function = refl; no_parameter = refl }) (save_at spec) (omega (arith, few)) in
    let step_ok = plain_function (second_scope spec) (step_function spec order) (2049 * length order) refl step_valid
    (record { no_object = no_object spec step_name 115 refl (λ e. omega (arith, e)) (λ e. omega (arith, e)); no_function = or_from _ _ step_no_save refl; no_parameter = refl })
    (step_at spec order sound) (omega (arith, short)) in
    let setters_ok = setters_from spec sound (length spec.variables) 0 (omega arith) (third_scope spec order) (setter_scope spec order sound few short)
    (λ j low high. record {
      no_object = no_object spec (setter_name (variable_name spec j)) 115 refl (λ e. omega (arith, e)) (λ e. omega (arith, e));
      no_function = or_from _ _ (setter_no_save (variable_name spec j)) (or_from _ _ (setter_no_step (variable_name spec j)) refl);
      no_parameter = refl;
    }) in
    and_from _ _ save_ok (and_from _ _ step_ok setters_ok)

code_in_range : (spec : Data) (first : Codes) (v : ℕ) → IsSound spec → IsTyped spec first → v < length spec.variables → is_number_in_range (code_of first v) ≡ true
code_in_range spec first v sound typed lt =
    let bound = code_bounded (domain_of spec v) (code_of first v) (typed.within v lt) in
    let narrow = variable_narrow spec sound v in
    le-leb _ _ (omega (arith, bound, narrow))

pub unit_is_right : (spec : Data) (order : Order) (first : Codes) → PassesChecks spec order → IsTyped spec first → is_unit (unit_of spec order.list first) ≡ true
unit_is_right spec order first passes typed =
    let sound = passes.sound in
    let n = length spec.variables in
    let few : n ≤ 128 = leb-true _ _ sound.few in
    let long = order_short spec order passes in
    let short : length order.list ≤ 128 = omega (arith, few, long) in
    let news = map (object_item (new_object spec) first) (variables_of spec) in
    let olds = map (object_item (old_object spec) first) (variables_of spec) in
    let rest = Function (save_function spec) ∷ Function (step_function spec order.list) ∷ setters spec in
    ap (are_items (objects_scope [])) (append_assoc news olds rest)
    ∙ objects_right (new_object spec) first n (olds ++ rest) (λ j lt. new_valid (variable_name spec j) (variable_plain spec j sound lt)) (λ i j li lj d. new_differ spec i j sound li lj d)
    (λ j lt. code_in_range spec first j sound typed lt) n 0 (omega arith) [] (λ j low high. refl)
    (objects_right (old_object spec) first n rest (λ j lt. old_valid (variable_name spec j) (variable_plain spec j sound lt)) (λ i j li lj d. old_differ spec i j sound li lj d)
    (λ j lt. code_in_range spec first j sound typed lt) n 0 (omega arith) (map (new_object spec) (variables_of spec))
    (λ j low high. none_of (bytes_eq (old_object spec j)) (new_object spec) n 0 (λ i l h. differ _ _ (λ e. new_old (variable_name spec i) (variable_name spec j) (sym e))))
    (functions_right spec order.list sound few short))

pub unit_kept : UnitKeepsRules
unit_kept = record { kept = λ spec order first passes initial. unit_is_right spec order first passes initial.typed }
