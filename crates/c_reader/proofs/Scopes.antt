-- Scopes that tell names apart in the same way give the same rules.
use Rattle.std.specs.Prelude.{◌≡◌, ℕ, Bool, true, false, not, ◌&&◌, ◌||◌, suc, nat_le, sum_by, List, [], ◌∷◌, ◌++◌, map, Option, None, Some, is_some}
use Rattle.std.specs.List.{list_all}
use Rattle.std.specs.Option.{option_map_or, option_to_list}
use Rattle.std.specs.Str.{bytes_eq}
use Rattle.std.proofs.Common.{refl, sym, ap, ap₂, ◌∙◌}
use Rattle.std.proofs.Math.Path.{fun_ext}
use Rattle.std.proofs.lemmas.List.Folds.{list_any-append}
use Rattle.std.proofs.lemmas.List.Sums.{fold-append}
use Rattle.c_subset.specs.declared.stmt.CStmt.{CStmt}
use Rattle.c_subset.specs.declared.stmt.CStmt.TheOpen.{CStmt-F, Assign, If, Call, Switch}
use Rattle.c_subset.specs.declared.unit.CItem.{CItem}
use Rattle.c_subset.specs.declared.unit.CItem.TheVariants.{Object, Function}
use Rattle.c_subset.specs.declared.unit.CFunction.{CFunction}
use Rattle.c_subset.specs.Parts.{Clause, of_stmt}
use Rattle.c_subset.specs.Names.{is_among, is_c_name}
use Rattle.c_subset.specs.Kinds.{is_number_in_range}
use Rattle.c_subset.specs.Nesting.{greatest, open_function}
use Rattle.c_subset.specs.Scope.{Known, Scope, no_scope, is_item_name, is_taken}
use Rattle.c_subset.specs.Measures.{weight_step, body_weight, depth_step, body_depth}
use Rattle.c_subset.specs.Rules.{rule_step, is_stmt, number_names, is_new, is_parameter, is_body, is_within_limits, is_item, known_of, with_item, are_items}
use Rattle.c_subset.specs.Items.{scope_after, are_items-append}
use Rattle.c_reader.specs.Kept.{Like}

-- ---- what does not depend on parameters

module _ (a b : Scope) (objects : a.objects ≡ b.objects) (functions : a.functions ≡ b.functions) where
  same_rule : (names : List (List ℕ)) (layer : CStmt-F Bool (Clause Bool)) → rule_step a names layer ≡ rule_step b names layer
  same_rule names (Assign n e) = rw objects refl
  same_rule names (If e xs ys) = refl
  same_rule names (Call n argument) = rw functions refl
  same_rule names (Switch e cs) = refl

  same_stmt : (names : List (List ℕ)) → is_stmt a names ≡ is_stmt b names
  same_stmt names = ap (λ (step : CStmt-F Bool (Clause Bool) → Bool). of_stmt Bool step) (fun_ext (same_rule names))

  same_weights : (layer : CStmt-F ℕ (Clause ℕ)) → weight_step a layer ≡ weight_step b layer
  same_weights (Assign n e) = refl
  same_weights (If e xs ys) = refl
  same_weights (Call n argument) = rw functions refl
  same_weights (Switch e cs) = refl

  same_depths : (layer : CStmt-F ℕ (Clause ℕ)) → depth_step a layer ≡ depth_step b layer
  same_depths (Assign n e) = refl
  same_depths (If e xs ys) = refl
  same_depths (Call n argument) = rw functions refl
  same_depths (Switch e cs) = refl

  same_weight : (body : List CStmt) → body_weight a body ≡ body_weight b body
  same_weight body = ap (λ (step : CStmt-F ℕ (Clause ℕ) → ℕ). sum_by (of_stmt ℕ step) body) (fun_ext same_weights)

  same_depth : (body : List CStmt) → body_depth a body ≡ body_depth b body
  same_depth body = ap (λ (step : CStmt-F ℕ (Clause ℕ) → ℕ). suc (greatest (map (of_stmt ℕ step) body))) (fun_ext same_depths)

  same_known : (f : CFunction) → known_of a f ≡ known_of b f
  same_known f = ap₂ (λ w d. record { name = f.name; takes = is_some f.parameter; weight = w; depth = d }) (same_weight f.body) (same_depth f.body)

  same_limits : (f : CFunction) → is_within_limits a f ≡ is_within_limits b f
  same_limits f = ap₂ (λ w d. nat_le w 1000000 && nat_le d 256 && nat_le (open_function f) 256) (same_weight f.body) (same_depth f.body)

  same_names : (parameter : Option (List ℕ)) → number_names a parameter ≡ number_names b parameter
  same_names parameter = ap (λ ns. option_to_list parameter ++ ns) objects

  same_body : (parameter : Option (List ℕ)) (body : List CStmt) → is_body a parameter body ≡ is_body b parameter body
  same_body parameter body =
      ap (λ ns. list_all (is_stmt a ns) body) (same_names parameter) ∙ ap (λ (p : CStmt → Bool). list_all p body) (same_stmt (number_names b parameter))

  same_item_names : a.objects ++ map (λ (f : Known). f.name) a.functions ≡ b.objects ++ map (λ (f : Known). f.name) b.functions
  same_item_names = ap₂ (λ ns fs. ns ++ map (λ (f : Known). f.name) fs) objects functions

  same_parameter : (n m : List ℕ) → is_parameter a n m ≡ is_parameter b n m
  same_parameter n m = ap (λ ns. is_c_name m && not (is_among ns m) && not (bytes_eq n m)) same_item_names

  same_given : (n : List ℕ) (p : Option (List ℕ)) → option_map_or (is_parameter a n) p true ≡ option_map_or (is_parameter b n) p true
  same_given n None = refl
  same_given n (Some m) = same_parameter n m

-- ---- names

taken_parts : (scope : Scope) (n : List ℕ) → is_taken scope n ≡ (is_item_name scope n || is_among scope.parameters n)
taken_parts scope n = list_any-append (bytes_eq n) (scope.objects ++ map (λ (f : Known). f.name) scope.functions) scope.parameters

same_taken : {a b : Scope} → Like a b → (n : List ℕ) → is_taken a n ≡ is_taken b n
same_taken {a} {b} h n =
    taken_parts a n ∙ ap₂ (λ x y. x || y) (ap (λ ns. is_among ns n) (same_item_names a b h.objects h.functions)) (h.parameters n) ∙ sym (taken_parts b n)

same_new : {a b : Scope} → Like a b → (n : List ℕ) → is_new a n ≡ is_new b n
same_new h n = ap (λ t. is_c_name n && not t) (same_taken h n)

-- ---- items

pub same_item : {a b : Scope} → Like a b → (x : CItem) → is_item a x ≡ is_item b x
same_item h (Object o) = ap (λ t. t && is_number_in_range o.init) (same_new h o.name)
same_item {a} {b} h (Function f) =
    ap₂ (λ x y. x && y)
    (ap₂ (λ x y. x && y) (ap₂ (λ x y. x && y) (same_new h f.name) (same_given a b h.objects h.functions f.name f.parameter)) (same_body a b h.objects h.functions f.parameter f.body))
    (same_limits a b h.objects h.functions f)

pub like_joined : {a b c : Scope} → Like a b → Like b c → Like a c
like_joined h g =
    record { objects = h.objects ∙ g.objects; functions = h.functions ∙ g.functions; parameters = λ n. h.parameters n ∙ g.parameters n }

pub like_same : {a b : Scope} → a ≡ b → Like a b
like_same e =
    record { objects = ap (λ (s : Scope). s.objects) e; functions = ap (λ (s : Scope). s.functions) e; parameters = λ n. ap (λ (s : Scope). is_among s.parameters n) e }

more_among : (xs ys zs : List (List ℕ)) (n : List ℕ) → is_among xs n ≡ is_among ys n → is_among (xs ++ zs) n ≡ is_among (ys ++ zs) n
more_among xs ys zs n h = list_any-append (bytes_eq n) xs zs ∙ ap (λ b. b || is_among zs n) h ∙ sym (list_any-append (bytes_eq n) ys zs)

pub like_with : {a b : Scope} → Like a b → (x : CItem) → Like (with_item a x) (with_item b x)
like_with h (Object o) = record { objects = ap (λ ns. ns ++ o.name ∷ []) h.objects; functions = h.functions; parameters = h.parameters }
like_with {a} {b} h (Function f) =
    record {
      objects = h.objects;
      functions = ap₂ (λ fs k. fs ++ k ∷ []) h.functions (same_known a b h.objects h.functions f);
      parameters = λ n. more_among a.parameters b.parameters (option_to_list f.parameter) n (h.parameters n);
    }

-- ---- one more item

and_true : (b : Bool) → (b && true) ≡ b
and_true true = refl
and_true false = refl

-- items and one more are right where the items are, and the one behind them
pub items_next : (items : List CItem) (x : CItem) → are_items no_scope items ≡ true → are_items no_scope (items ++ x ∷ []) ≡ is_item (scope_after no_scope items) x
items_next items x h =
    are_items-append no_scope items (x ∷ []) ∙ ap (λ b. b && (is_item (scope_after no_scope items) x && true)) h ∙ and_true (is_item (scope_after no_scope items) x)

pub scope_next : (items : List CItem) (x : CItem) → scope_after no_scope (items ++ x ∷ []) ≡ with_item (scope_after no_scope items) x
scope_next items x = fold-append with_item no_scope items (x ∷ [])
