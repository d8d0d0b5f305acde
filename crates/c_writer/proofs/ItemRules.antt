-- The unit of a specification keeps the rules of C.
use Rattle.std.proofs.Common.{◌≡◌, ℕ, zero, suc, ◌+◌, ◌<◌, ◌≤◌, Bool, true, false, not, ◌&&◌, List, [], ◌∷◌, ◌++◌, map, length, Some, None, refl, sym, ap, subst, ◌∙◌, arith}
use Rattle.std.specs.Prelude.{nat_le, is_none, slice_get}
use Rattle.std.specs.Option.{option_map_or}
use Rattle.std.specs.List.{list_all, list_any, flat_map, range_with_len}
use Rattle.std.specs.Char.{is_ascii_alphabetic}
use Rattle.std.specs.Str.{bytes_eq}
use Rattle.std.proofs.lemmas.Bool.{and_parts, and_from, or_left, or_from, leb-true, le-leb}
use Rattle.std.proofs.lemmas.List.{append-nil, append_assoc}
use Rattle.std.proofs.lemmas.List.Folds.{list_all-append, list_any-append, list_any_at}
use Rattle.std.proofs.lemmas.List.Sums.{sum_by-cons}
use Rattle.base.specs.Bytes.{is_word_byte}
use Rattle.scr_tokens.specs.Words.{keyword_of}
use Rattle.scr_spec.specs.Data.{Data}
use Rattle.scr_spec.specs.Names.{variable_name}
use Rattle.scr_spec.specs.declared.spec.Variable.{Variable}
use Rattle.scr_spec.specs.Meaning.{Codes, code_of}
use Rattle.scr_spec.specs.Types.{kind_modes}
use Rattle.scr_spec.specs.NameSpace.{is_spelt, is_name, type_names, constant_names, variable_names}
use Rattle.scr_spec.specs.Sound.{IsSound}
use Rattle.scr_spec.proofs.Kept.{rules_kept}
use Rattle.c_subset.specs.declared.expr.CExpr.TheVariants.{Name}
use Rattle.c_subset.specs.declared.stmt.CStmt.TheVariants.{Assign, Call}
use Rattle.c_subset.specs.declared.unit.CFunction.{CFunction}
use Rattle.c_subset.specs.declared.unit.CItem.{CItem}
use Rattle.c_subset.specs.Names.{keywords, is_word, is_among, is_c_name}
use Rattle.c_subset.specs.Kinds.{is_number_in_range}
use Rattle.c_subset.specs.Nesting.{open_stmt_step, open_function}
use Rattle.c_subset.specs.Scope.{Known, Scope, known, is_item_name}
use Rattle.c_subset.specs.Measures.{weight_step, stmt_weight, body_weight, depth_step, stmt_depth, body_depth}
use Rattle.c_subset.specs.Rules.{rule_step, is_stmt, is_argument, is_new, is_parameter, number_names, is_function, are_items}
use Rattle.c_subset.specs.Unrolled.{of_stmt-Call}
use Rattle.c_subset.specs.Runs.{setter as setter_name}
use Rattle.c_writer.specs.Objects.{new_name, old_name, new_object, old_object, save_name, step_name, argument_name}
use Rattle.c_writer.specs.Units.{variables_of, object_item, save_stmt, setter}
use Rattle.c_writer.proofs.Shapes.{name_at, weaker}
use Rattle.c_writer.proofs.CellShapes.{HasObjects}
use Rattle.c_writer.proofs.StmtRules.{AreStmts, no_stmts, heavier, stmts_append, assign_at}
use Rattle.c_writer.proofs.Places.{found_name, first_byte, differ, same_bytes, all_objects, new_at, old_at, objects_length}

-- ---- names

word_from : (bytes : List ℕ) → is_spelt bytes ≡ true → list_all is_word_byte bytes ≡ true
word_from [] h = refl
word_from (b ∷ bytes) h =
    let both = and_parts (is_ascii_alphabetic b) (list_all is_word_byte bytes) h in
    and_from _ _ (or_left _ _ (or_left _ _ both.0)) both.1

-- letters, digits and `_`, and at most 24 of them
pub record IsPlainName (name : List ℕ) : Type 0 where
  pub words : list_all is_word_byte name ≡ true
  pub short : length name ≤ 24

plain_from : (name : List ℕ) → is_name name ≡ true → IsPlainName name
plain_from name h =
    let two = (and_parts (is_spelt name && nat_le (length name) 24) (is_none (keyword_of name)) h).0 in
    let both = and_parts (is_spelt name) (nat_le (length name) 24) two in
    record { words = word_from name both.0; short = leb-true _ _ both.1 }

flat_names : (p : List ℕ → Bool) (vs : List Variable) → list_all p (flat_map variable_names vs) ≡ true → (k : ℕ) (x : Variable) → slice_get vs k ≡ Some x → p x.name ≡ true
flat_names p [] h k x e = cc
flat_names p (v ∷ vs) h zero x e = let same : v ≡ x = cc in ap (λ (u : Variable). p u.name) (sym same) ∙ (and_parts (p v.name) (list_all p (kind_modes v.kind ++ flat_map variable_names vs)) h).0
flat_names p (v ∷ vs) h (suc k) x e =
    let rest = (and_parts (p v.name) (list_all p (kind_modes v.kind ++ flat_map variable_names vs)) h).1 in
    flat_names p vs (and_parts (list_all p (kind_modes v.kind)) (list_all p (flat_map variable_names vs)) (sym (list_all-append p (kind_modes v.kind) (flat_map variable_names vs)) ∙ rest)).1 k x e

pub variable_plain : (spec : Data) (v : ℕ) → IsSound spec → v < length spec.variables → IsPlainName (variable_name spec v)
variable_plain spec v sound lt =
    let all = (rules_kept spec sound).named.names in
    let types = flat_map type_names spec.types in
    let constants = flat_map constant_names spec.constants in
    let variables = flat_map variable_names spec.variables in
    let mine = (and_parts (list_all is_name (types ++ constants)) (list_all is_name variables) (sym (list_all-append is_name (types ++ constants) variables) ∙ all)).1 in
    let x = found_name spec.variables v (slice_get spec.variables v) refl lt in
    subst IsPlainName (sym x.2) (plain_from (x.0.name) (flat_names is_name spec.variables mine v x.0 x.1))

pub new_valid : (name : List ℕ) → IsPlainName name → is_c_name (new_name name) ≡ true
unfolding keywords
new_valid name p = let s = p.short in and_from _ _ (and_from (is_word (new_name name)) (nat_le (length (new_name name)) 31) p.words (le-leb _ _ (omega (arith, s)))) refl

pub old_valid : (name : List ℕ) → IsPlainName name → is_c_name (old_name name) ≡ true
unfolding keywords
old_valid name p = let s = p.short in and_from _ _ (and_from (is_word (old_name name)) (nat_le (length (old_name name)) 31) p.words (le-leb _ _ (omega (arith, s)))) refl

pub setter_valid : (name : List ℕ) → IsPlainName name → is_c_name (setter_name name) ≡ true
unfolding keywords
setter_valid name p = let s = p.short in and_from _ _ (and_from (is_word (setter_name name)) (nat_le (length (setter_name name)) 31) p.words (le-leb _ _ (omega (arith, s)))) refl

pub save_valid : is_c_name save_name ≡ true
unfolding keywords
save_valid = refl

pub step_valid : is_c_name step_name ≡ true
unfolding keywords
step_valid = refl

argument_valid : is_c_name argument_name ≡ true
unfolding keywords
argument_valid = refl

-- ---- names apart

pub apart_first : (xs ys : List ℕ) (a b : ℕ) → first_byte xs ≡ a → first_byte ys ≡ b → (a ≡ b → ⊥) → bytes_eq xs ys ≡ false
apart_first xs ys a b e f d = differ xs ys (λ h. d (sym e ∙ ap first_byte h ∙ f))

-- a name that begins with none of `v` and `o` is none of an object
pub none_of : (p : List ℕ → Bool) (object : ℕ → List ℕ) (k a : ℕ) → ((j : ℕ) → a ≤ j → j < a + k → p (object j) ≡ false) → list_any p (map object (range_with_len a k)) ≡ false
none_of p object zero a h = refl
none_of p object (suc k) a h = or_from _ _ (h a (omega arith) (omega arith)) (none_of p object k (a + 1) (λ j low high. h j (omega (arith, low)) (omega (arith, high))))

pub no_object : (spec : Data) (name : List ℕ) (b : ℕ) → first_byte name ≡ b → (b ≡ 118 → ⊥) → (b ≡ 111 → ⊥) → is_among (all_objects spec) name ≡ false
no_object spec name b e d f =
    list_any-append (bytes_eq name) (map (new_object spec) (variables_of spec)) (map (old_object spec) (variables_of spec))
    ∙ or_from _ _
    (none_of (bytes_eq name) (new_object spec) (length spec.variables) 0 (λ j low high. apart_first name (new_object spec j) b 118 e refl d))
    (none_of (bytes_eq name) (old_object spec) (length spec.variables) 0 (λ j low high. apart_first name (old_object spec j) b 111 e refl f))

-- ---- objects are there

pub new_there : (spec : Data) (v : ℕ) → v < length spec.variables → is_among (all_objects spec) (new_object spec v) ≡ true
new_there spec v lt =
    list_any_at (bytes_eq (new_object spec v)) (all_objects spec) v [] (omega (arith, objects_length spec, lt)) (ap (bytes_eq (new_object spec v)) (new_at spec v lt) ∙ same_bytes (new_object spec v))

pub old_there : (spec : Data) (v : ℕ) → v < length spec.variables → is_among (all_objects spec) (old_object spec v) ≡ true
old_there spec v lt =
    list_any_at (bytes_eq (old_object spec v)) (all_objects spec) (length spec.variables + v) [] (omega (arith, objects_length spec, lt))
    (ap (bytes_eq (old_object spec v)) (old_at spec v lt) ∙ same_bytes (old_object spec v))

pub has_objects : (spec : Data) → HasObjects (all_objects spec) spec
has_objects spec = record { news = λ v lt. new_there spec v lt; olds = λ v lt. old_there spec v lt }

-- ---- scopes

abbrev pub function_names : Scope → List (List ℕ)
function_names scope = map (λ (f : Known). f.name) scope.functions

pub record IsFree (scope : Scope) (name : List ℕ) : Type 0 where
  pub no_object : is_among scope.objects name ≡ false
  pub no_function : is_among (function_names scope) name ≡ false
  pub no_parameter : is_among scope.parameters name ≡ false

new_in : (scope : Scope) (name : List ℕ) → is_c_name name ≡ true → IsFree scope name → is_new scope name ≡ true
new_in scope name c f =
    and_from _ _ c (ap not
    (list_any-append (bytes_eq name) (scope.objects ++ function_names scope) scope.parameters
    ∙ or_from _ _ (list_any-append (bytes_eq name) scope.objects (function_names scope) ∙ or_from _ _ f.no_object f.no_function) f.no_parameter))

abbrev pub objects_scope : List (List ℕ) → Scope
objects_scope names = record { objects = names; functions = []; parameters = [] }

-- ---- the objects

one_more_free : (object : ℕ → List ℕ) (names : List (List ℕ)) (a j : ℕ) → is_among names (object j) ≡ false → bytes_eq (object j) (object a) ≡ false → is_among (names ++ object a ∷ []) (object j) ≡ false
one_more_free object names a j h k = list_any-append (bytes_eq (object j)) names (object a ∷ []) ∙ or_from _ _ h (or_from _ _ k refl)

pub objects_right : (object : ℕ → List ℕ) (first : Codes) (n : ℕ) (rest : List CItem) → ((j : ℕ) → j < n → is_c_name (object j) ≡ true) → ((i j : ℕ) → i < n → j < n → (i ≡ j → ⊥) → bytes_eq (object i) (object j) ≡ false)
    → ((j : ℕ) → j < n → is_number_in_range (code_of first j) ≡ true)
    → (k a : ℕ) → a + k ≡ n → (names : List (List ℕ)) → ((j : ℕ) → a ≤ j → j < n → is_among names (object j) ≡ false)
    → are_items (objects_scope (names ++ map object (range_with_len a k))) rest ≡ true → are_items (objects_scope names) (map (object_item object first) (range_with_len a k) ++ rest) ≡ true
objects_right object first n rest valid apart range zero a e names free right = ap (λ ns. are_items (objects_scope ns) rest) (sym (append-nil names)) ∙ right
objects_right object first n rest valid apart range (suc k) a e names free right =
    let lt : a < n = omega (arith, e) in
    and_from _ _
    (and_from _ _ (new_in (objects_scope names) (object a) (valid a lt) (record { no_object = free a (omega arith) lt; no_function = refl; no_parameter = refl })) (range a lt))
    (objects_right object first n rest valid apart range k (a + 1) (omega (arith, e)) (names ++ object a ∷ [])
    (λ j low high. one_more_free object names a j (free j (omega (arith, low)) high) (apart j a high lt (λ s. omega (arith, s, low))))
    (ap (λ ns. are_items (objects_scope ns) rest) (append_assoc names (object a ∷ []) (map object (range_with_len (a + 1) k))) ∙ right))

-- ---- functions without a parameter

pub plain_function : (scope : Scope) (f : CFunction) (w : ℕ) → f.parameter ≡ None → is_c_name f.name ≡ true → IsFree scope f.name → AreStmts 200 scope scope.objects f.body w → w ≤ 1000000 → is_function scope f ≡ true
plain_function scope f w e c free stmts light =
    let a = stmts.light in
    let b = stmts.calls in
    let o = stmts.opens in
    let weight : nat_le (body_weight scope f.body) 1000000 ≡ true = le-leb (body_weight scope f.body) 1000000 (omega (arith, a, light)) in
    let depth : nat_le (body_depth scope f.body) 256 ≡ true = le-leb (body_depth scope f.body) 256 (omega (arith, b)) in
    let nesting : nat_le (open_function f) 256 ≡ true = le-leb (open_function f) 256 (omega (arith, o)) in
    and_from _ _ (and_from _ _ (and_from _ _ (new_in scope f.name c free) (ap (λ p. option_map_or (is_parameter scope f.name) p true) e))
    (ap (λ p. list_all (is_stmt scope (number_names scope p)) f.body) e ∙ stmts.rules))
    (and_from _ _ (and_from _ _ weight depth) nesting)

pub saves_at : (scope : Scope) (spec : Data) → scope.objects ≡ all_objects spec → (k a : ℕ) → a + k ≡ length spec.variables → AreStmts 200 scope scope.objects (map (save_stmt spec) (range_with_len a k)) k
saves_at scope spec s zero a e = no_stmts 200 scope scope.objects
saves_at scope spec s (suc k) a e =
    let lt : a < length spec.variables = omega (arith, e) in
    let there : is_among scope.objects (old_object spec a) ≡ true = ap (λ ns. is_among ns (old_object spec a)) s ∙ old_there spec a lt in
    let read : is_among scope.objects (new_object spec a) ≡ true = ap (λ ns. is_among ns (new_object spec a)) s ∙ new_there spec a lt in
    heavier 200 scope scope.objects (map (save_stmt spec) (range_with_len a (suc k))) (1 + k) (suc k) (omega arith)
    (stmts_append 200 scope scope.objects (save_stmt spec a ∷ []) (map (save_stmt spec) (range_with_len (a + 1) k)) 1 k
    (assign_at 200 scope scope.objects (old_object spec a) (Name (new_object spec a)) there (weaker scope.objects (Name (new_object spec a)) 6 0 (omega arith) (name_at scope.objects (new_object spec a) read)))
    (saves_at scope spec s k (a + 1) (omega (arith, e))))

-- ---- setters

-- a function without a parameter that is known, and weighs no more
pub record IsKnown (scope : Scope) (name : List ℕ) (most : ℕ) : Type 0 where
  pub it : Known
  pub found : known scope name ≡ Some it
  pub plain : it.takes ≡ false
  pub light : it.weight ≤ most
  pub low : it.depth ≤ 1

pub record IsSetterScope (scope : Scope) (spec : Data) : Type 0 where
  pub objects_are : scope.objects ≡ all_objects spec
  pub save : IsKnown scope save_name 128
  pub step : IsKnown scope step_name 262272
  pub no_function : is_among (function_names scope) argument_name ≡ false

call_rule : (scope : Scope) (names : List (List ℕ)) (name : List ℕ) (most : ℕ) → IsKnown scope name most → is_stmt scope names (Call name None) ≡ true
call_rule scope names name most k =
    of_stmt-Call Bool (rule_step scope names) name None ∙ ap (λ o. option_map_or (λ (f : Known). is_argument names f.takes None) o false) k.found ∙ ap not k.plain

call_weight : (scope : Scope) (name : List ℕ) (most : ℕ) → IsKnown scope name most → stmt_weight scope (Call name None) ≤ 1 + most
call_weight scope name most k =
    let e = of_stmt-Call ℕ (weight_step scope) name None in
    let f = ap (λ o. option_map_or (λ (g : Known). g.weight) o 0) k.found in
    let l = k.light in
    omega (arith, e, f, l)

call_depth : (scope : Scope) (name : List ℕ) (most : ℕ) → IsKnown scope name most → stmt_depth scope (Call name None) ≤ 1
call_depth scope name most k =
    let e = of_stmt-Call ℕ (depth_step scope) name None in
    let f = ap (λ o. option_map_or (λ (g : Known). g.depth) o 0) k.found in
    let l = k.low in
    omega (arith, e, f, l)

pub setter_right : (scope : Scope) (spec : Data) (x : ℕ) → IsSound spec → x < length spec.variables → IsSetterScope scope spec → IsFree scope (setter_name (variable_name spec x)) → is_function scope (setter spec x) ≡ true
setter_right scope spec x sound lt s free =
    let name = setter_name (variable_name spec x) in
    let names = argument_name ∷ scope.objects in
    let n = new_object spec x in
    let there : is_among scope.objects n ≡ true = ap (λ ns. is_among ns n) s.objects_are ∙ new_there spec x lt in
    let number = name_at names argument_name (or_left (bytes_eq argument_name argument_name) (is_among scope.objects argument_name) (same_bytes argument_name)) in
    let assigned = assign_at 200 scope names n (Name argument_name) there (weaker names (Name argument_name) 6 0 (omega arith) number) in
    let no_object : is_among scope.objects argument_name ≡ false = ap (λ ns. is_among ns argument_name) s.objects_are ∙ no_object spec argument_name 97 refl (λ e. omega (arith, e)) (λ e. omega (arith, e)) in
    let no_item : is_item_name scope argument_name ≡ false = list_any-append (bytes_eq argument_name) scope.objects (function_names scope) ∙ or_from _ _ no_object s.no_function in
    let other : bytes_eq name argument_name ≡ false = apart_first name argument_name 115 97 refl refl (λ e. omega (arith, e)) in
    let save_weight = call_weight scope save_name 128 s.save in
    let step_weight = call_weight scope step_name 262272 s.step in
    let assign_weight = assigned.light in
    let save_depth = call_depth scope save_name 128 s.save in
    let step_depth = call_depth scope step_name 262272 s.step in
    let assign_depth = assigned.calls in
    let save_open = of_stmt-Call ℕ open_stmt_step save_name None in
    let step_open = of_stmt-Call ℕ open_stmt_step step_name None in
    let assign_open = assigned.opens in
    let c = Call save_name None in
    let d = Assign n (Name argument_name) in
    let e = Call step_name None in
    let w1 = sum_by-cons (stmt_weight scope) c (d ∷ e ∷ []) in
    let w2 = sum_by-cons (stmt_weight scope) d (e ∷ []) in
    let w3 = sum_by-cons (stmt_weight scope) e [] in
    let w4 = sum_by-cons (stmt_weight scope) d [] in
    let f = setter spec x in
    let weight : nat_le (body_weight scope f.body) 1000000 ≡ true = le-leb (body_weight scope f.body) 1000000 (omega (arith, w1, w2, w3, w4, save_weight, step_weight, assign_weight)) in
    let depth : nat_le (body_depth scope f.body) 256 ≡ true = le-leb (body_depth scope f.body) 256 (omega (arith, save_depth, step_depth, assign_depth)) in
    let nesting : nat_le (open_function f) 256 ≡ true = le-leb (open_function f) 256 (omega (arith, save_open, step_open, assign_open)) in
    and_from _ _
    (and_from _ _ (and_from _ _ (new_in scope name (setter_valid (variable_name spec x) (variable_plain spec x sound lt)) free)
    (and_from _ _ (and_from _ _ argument_valid (ap not no_item)) (ap not other)))
    (and_from _ _ (call_rule scope names save_name 128 s.save) (and_from _ _ (and_parts (is_stmt scope names d) true assigned.rules).0 (and_from _ _ (call_rule scope names step_name 262272 s.step) refl))))
    (and_from _ _ (and_from _ _ weight depth) nesting)
