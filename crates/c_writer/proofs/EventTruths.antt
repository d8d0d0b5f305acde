-- The expression of an event is true where the event happens.
use Rattle.std.proofs.Common.{◌≡◌, ℕ, ◌<◌, ℤ, Bool, true, false, cond, not, ◌&&◌, List, [], ◌∷◌, ◌++◌, map, length, Option, Some, None, refl, sym, ap, ◌∙◌, arith, IsTrue}
use Rattle.std.specs.Option.{option_map_or, option_map, option_and_then}
use Rattle.std.specs.Ordering.{int_eq}
use Rattle.std.specs.List.{list_all, list_any}
use Rattle.std.proofs.lemmas.Bool.{and_parts, ltb-true, eq-eqb, or_left, or_right}
use Rattle.std.proofs.lemmas.Int.{ints}
use Rattle.std.proofs.lemmas.List.{map-append}
use Rattle.std.proofs.lemmas.List.Folds.{list_all-append}
use Rattle.base.specs.declared.relation.Relation.TheVariants.{Differ}
use Rattle.scr_spec.specs.Data.{Data}
use Rattle.scr_spec.specs.declared.cond.Cond.{Cond}
use Rattle.scr_spec.specs.declared.table.Change.{Change}
use Rattle.scr_spec.specs.declared.table.Change.TheVariants.{Becomes, Ceases, Changes, Never}
use Rattle.scr_spec.specs.declared.table.Primitive.{Primitive}
use Rattle.scr_spec.specs.declared.table.Event.{Event}
use Rattle.scr_spec.specs.Meaning.{Codes, code_of, is_true}
use Rattle.scr_spec.specs.Domains.{IsTyped}
use Rattle.scr_spec.specs.Over.{is_cond_over}
use Rattle.scr_spec.specs.Typed.{is_cond_typed}
use Rattle.scr_spec.specs.Parts.{change_passes, prim_passes}
use Rattle.scr_spec.specs.Events.{change_holds, guard_holds, prim_holds, event_true, is_change_over, is_guard_over, is_prim_over, is_event_over}
use Rattle.scr_depend.specs.Reads.{cond_names, change_reads, prim_reads, event_reads}
use Rattle.c_subset.specs.declared.expr.CExpr.{CExpr}
use Rattle.c_subset.specs.declared.expr.CExpr.TheVariants.{Name, Not}
use Rattle.c_subset.specs.Meaning.{Objects, Names, name_value, all_true, some_true, truth_of}
use Rattle.c_writer.specs.Objects.{new_object, old_object}
use Rattle.c_writer.specs.Conditions.{cond_expr, conjunction, disjunction, change_exprs, guard_exprs, prim_expr, event_expr}
use Rattle.c_writer.proofs.Meanings.{number_of-Name, truth_of-Not, truth_of-And, truth_of-Or}
use Rattle.c_writer.proofs.ConditionTruths.{some_step, relate_truth, truth_truth, AreShown, cond_truth}

-- the objects of the old codes
abbrev pub OldShown : Names → Objects → Data → Codes → Type 0
OldShown names row spec old = (w : ℕ) → w < length spec.variables → name_value names row (old_object spec w) ≡ Some (code_of old w)

-- ---- members in a row

pub all_known : (bs : List Bool) → all_true (map (λ b. Some b) bs) ≡ Some (list_all (λ b. b) bs)
all_known [] = refl
all_known (true ∷ bs) = all_known bs
all_known (false ∷ bs) = refl

alone_all : (o : Option Bool) → o ≡ option_and_then (λ b. cond b (Some true) (Some false)) o
alone_all None = refl
alone_all (Some true) = refl
alone_all (Some false) = refl

conjunction_truth : (names : Names) (row : Objects) (es : List CExpr) → truth_of names row (conjunction es) ≡ all_true (map (truth_of names row) es)
conjunction_truth names row [] = truth_truth names row true
conjunction_truth names row (e ∷ []) = alone_all (truth_of names row e)
conjunction_truth names row (e ∷ f ∷ es) = truth_of-And names row (e ∷ f ∷ es)

disjunction_truth : (names : Names) (row : Objects) (es : List CExpr) → truth_of names row (disjunction es) ≡ some_true (map (truth_of names row) es)
disjunction_truth names row [] = truth_truth names row false
disjunction_truth names row (e ∷ []) = alone_all (truth_of names row e)
disjunction_truth names row (e ∷ f ∷ es) = truth_of-Or names row (e ∷ f ∷ es)

-- ---- changes and guards

abbrev change_bools : Data → Codes → Codes → Change → List Bool
change_bools spec old new (Becomes c) = not (is_true spec old c) ∷ is_true spec new c ∷ []
change_bools spec old new (Ceases c) = is_true spec old c ∷ not (is_true spec new c) ∷ []
change_bools spec old new (Changes v) = not (int_eq (code_of new v) (code_of old v)) ∷ []
change_bools spec old new Never = false ∷ []

abbrev guard_bools : Data → Codes → Option Cond → List Bool
guard_bools spec old None = []
guard_bools spec old (Some d) = is_true spec old d ∷ []

and_unit : (a : Bool) → a && true ≡ a
and_unit true = refl
and_unit false = refl

pub swapped : (x y : ℤ) → int_eq x y ≡ int_eq y x
swapped x y = grind (arith, ints)

change_all : (spec : Data) (old new : Codes) (c : Change) → list_all (λ b. b) (change_bools spec old new c) ≡ change_holds spec old new c
change_all spec old new (Becomes c) = ap (λ b. not (is_true spec old c) && b) (and_unit (is_true spec new c))
change_all spec old new (Ceases c) = ap (λ b. is_true spec old c && b) (and_unit (not (is_true spec new c)))
change_all spec old new (Changes v) = and_unit (not (int_eq (code_of new v) (code_of old v))) ∙ ap not (swapped (code_of new v) (code_of old v))
change_all spec old new Never = refl

guard_all : (spec : Data) (old : Codes) (g : Option Cond) → list_all (λ b. b) (guard_bools spec old g) ≡ guard_holds spec old g
guard_all spec old None = refl
guard_all spec old (Some d) = and_unit (is_true spec old d)

one_known : (p : Option Bool) (a : Bool) → p ≡ Some a → ◌≡◌ {A = List (Option Bool)} (p ∷ []) (Some a ∷ [])
one_known p a e = ap (λ x. x ∷ []) e

pub two_known : (p q : Option Bool) (a b : Bool) → p ≡ Some a → q ≡ Some b → ◌≡◌ {A = List (Option Bool)} (p ∷ q ∷ []) (Some a ∷ Some b ∷ [])
two_known p q a b e f = ap (λ x. x ∷ q ∷ []) e ∙ ap (λ x. Some a ∷ x ∷ []) f

negation : (names : Names) (row : Objects) (e : CExpr) (b : Bool) → truth_of names row e ≡ Some b → truth_of names row (Not e) ≡ Some (not b)
negation names row e b h = truth_of-Not names row e ∙ ap (option_map not) h

-- what is asked of the parts of an event
pub record IsPrimReady (names : Names) (row : Objects) (spec : Data) (old new : Codes) (p : Primitive) : Type 0 where
  pub over : IsTrue (is_prim_over spec p)
  pub typed : IsTrue (prim_passes (is_cond_typed spec) p)
  pub shown : AreShown names row spec (new_object spec) new (λ w. prim_reads w p)

old_truth : (names : Names) (row : Objects) (spec : Data) (old : Codes) (c : Cond) → IsTyped spec old → OldShown names row spec old → IsTrue (is_cond_over spec c) → IsTrue (is_cond_typed spec c)
    → truth_of names row (cond_expr spec (old_object spec) c) ≡ Some (is_true spec old c)
old_truth names row spec old c t saved over typed = cond_truth names row spec (old_object spec) old t c (record { over = over; typed = typed; shown = λ w lt h. saved w lt })

new_truth : (names : Names) (row : Objects) (spec : Data) (new : Codes) (c : Cond) → IsTyped spec new → AreShown names row spec (new_object spec) new (λ w. cond_names w c) → IsTrue (is_cond_over spec c)
    → IsTrue (is_cond_typed spec c) → truth_of names row (cond_expr spec (new_object spec) c) ≡ Some (is_true spec new c)
new_truth names row spec new c t shown over typed = cond_truth names row spec (new_object spec) new t c (record { over = over; typed = typed; shown = shown })

change_truths : (names : Names) (row : Objects) (spec : Data) (old new : Codes) (c : Change) → IsTyped spec old → IsTyped spec new → OldShown names row spec old
    → IsTrue (is_change_over spec c) → IsTrue (change_passes (is_cond_typed spec) c) → AreShown names row spec (new_object spec) new (λ w. change_reads w c)
    → map (truth_of names row) (change_exprs spec c) ≡ map (λ b. Some b) (change_bools spec old new c)
change_truths names row spec old new (Becomes c) t u saved over typed shown =
    two_known _ _ (not (is_true spec old c)) (is_true spec new c)
    (negation names row (cond_expr spec (old_object spec) c) (is_true spec old c) (old_truth names row spec old c t saved over typed)) (new_truth names row spec new c u shown over typed)
change_truths names row spec old new (Ceases c) t u saved over typed shown =
    two_known _ _ (is_true spec old c) (not (is_true spec new c))
    (old_truth names row spec old c t saved over typed) (negation names row (cond_expr spec (new_object spec) c) (is_true spec new c) (new_truth names row spec new c u shown over typed))
change_truths names row spec old new (Changes v) t u saved over typed shown =
    one_known _ (not (int_eq (code_of new v) (code_of old v)))
    (relate_truth names row (Name (new_object spec v)) Differ (Name (old_object spec v)) (code_of new v) (code_of old v)
    (number_of-Name names row (new_object spec v) ∙ shown v (ltb-true _ _ over) (eq-eqb v v refl))
    (number_of-Name names row (old_object spec v) ∙ saved v (ltb-true _ _ over)))
change_truths names row spec old new Never t u saved over typed shown = one_known _ false (truth_truth names row false)

guard_truths : (names : Names) (row : Objects) (spec : Data) (old : Codes) (g : Option Cond) → IsTyped spec old → OldShown names row spec old
    → IsTrue (is_guard_over spec g) → IsTrue (option_map_or (is_cond_typed spec) g true) → map (truth_of names row) (guard_exprs spec g) ≡ map (λ b. Some b) (guard_bools spec old g)
guard_truths names row spec old None t saved over typed = refl
guard_truths names row spec old (Some d) t saved over typed = one_known _ (is_true spec old d) (old_truth names row spec old d t saved over typed)

-- ---- events

prim_truth : (names : Names) (row : Objects) (spec : Data) (old new : Codes) (p : Primitive) → IsTyped spec old → IsTyped spec new → OldShown names row spec old → IsPrimReady names row spec old new p
    → truth_of names row (prim_expr spec p) ≡ Some (prim_holds spec old new p)
prim_truth names row spec old new p t u saved r =
    let over = and_parts (is_change_over spec p.change) (is_guard_over spec p.guard) r.over in
    let typed = and_parts (change_passes (is_cond_typed spec) p.change) (option_map_or (is_cond_typed spec) p.guard true) r.typed in
    let bs = change_bools spec old new p.change in
    let ds = guard_bools spec old p.guard in
    let cs = change_exprs spec p.change in
    let gs = guard_exprs spec p.guard in
    let e = change_truths names row spec old new p.change t u saved over.0 typed.0 r.shown in
    let f = guard_truths names row spec old p.guard t saved over.1 typed.1 in
    conjunction_truth names row (cs ++ gs)
    ∙ ap all_true (map-append (truth_of names row) cs gs ∙ ap (λ x. x ++ map (truth_of names row) gs) e ∙ ap (λ x. map (λ b. Some b) bs ++ x) f ∙ sym (map-append (λ b. Some b) bs ds))
    ∙ all_known (bs ++ ds)
    ∙ ap (λ b. Some b) (list_all-append (λ b. b) bs ds ∙ ap (λ b. b && list_all (λ b. b) ds) (change_all spec old new p.change) ∙ ap (λ b. change_holds spec old new p.change && b) (guard_all spec old p.guard))

prims_truth : (names : Names) (row : Objects) (spec : Data) (old new : Codes) (ps : List Primitive) → IsTyped spec old → IsTyped spec new → OldShown names row spec old
    → IsTrue (list_all (is_prim_over spec) ps) → IsTrue (list_all (prim_passes (is_cond_typed spec)) ps) → AreShown names row spec (new_object spec) new (λ w. list_any (prim_reads w) ps)
    → some_true (map (truth_of names row) (map (prim_expr spec) ps)) ≡ Some (list_any (prim_holds spec old new) ps)
prims_truth names row spec old new [] t u saved over typed shown = refl
prims_truth names row spec old new (p ∷ ps) t u saved over typed shown =
    let o = and_parts (is_prim_over spec p) (list_all (is_prim_over spec) ps) over in
    let k = and_parts (prim_passes (is_cond_typed spec) p) (list_all (prim_passes (is_cond_typed spec)) ps) typed in
    let here = prim_truth names row spec old new p t u saved (record { over = o.0; typed = k.0; shown = λ w lt h. shown w lt (or_left _ _ h) }) in
    let rest = prims_truth names row spec old new ps t u saved o.1 k.1 (λ w lt h. shown w lt (or_right _ _ h)) in
    ap (option_and_then (λ b. cond b (Some true) (some_true (map (truth_of names row) (map (prim_expr spec) ps))))) here
    ∙ some_step (prim_holds spec old new p) (list_any (prim_holds spec old new) ps) _ rest

pub event_truth : (names : Names) (row : Objects) (spec : Data) (old new : Codes) (e : Event) → IsTyped spec old → IsTyped spec new → OldShown names row spec old
    → IsTrue (is_event_over spec e) → IsTrue (list_all (prim_passes (is_cond_typed spec)) e.prims) → AreShown names row spec (new_object spec) new (λ w. event_reads w e)
    → truth_of names row (event_expr spec e) ≡ Some (event_true spec old new e)
event_truth names row spec old new e t u saved over typed shown =
    disjunction_truth names row (map (prim_expr spec) e.prims) ∙ prims_truth names row spec old new e.prims t u saved over typed shown
