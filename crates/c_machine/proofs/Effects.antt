-- What statements do, form by form, and member by member of a list.
use Rattle.std.specs.Prelude.{◌≡◌, ℕ, ℤ, suc, ◌+◌, ◌<◌, Bool, true, false, cond, List, [], ◌∷◌, ◌++◌, fold, map, take, drop, length, get_or, Option, Some, None, slice_get, slice_set}
use Rattle.std.specs.Option.{option_and_then, option_map}
use Rattle.std.proofs.Common.{refl, sym, ap, ◌∙◌, arith}
use Rattle.std.proofs.lemmas.List.{take_more, map-append, take-append-drop}
use Rattle.std.proofs.lemmas.List.Sums.{fold-append}
use Rattle.std.proofs.Math.Seq.{drop-cons}
use Rattle.c_subset.specs.Parts.{Clause}
use Rattle.c_subset.specs.Meaning.{Objects}
use Rattle.c_subset.specs.Statements.{Effect, in_row, from_label}
use Rattle.c_subset.specs.Unrolled.{map_same}
use Rattle.c_machine.specs.declared.code.Value.{Value}
use Rattle.c_machine.specs.declared.code.Action.{Action, fold-roll-Action}
use Rattle.c_machine.specs.declared.code.Case.{Case}
use Rattle.c_machine.specs.declared.code.Routine.{Routine}
use Rattle.c_machine.specs.declared.code.Action.TheVariants as a
use Rattle.c_machine.specs.declared.code.Action.TheOpen as layer
use Rattle.c_machine.specs.declared.code.Action.TheFolds.{fold-Case, fold_out-Case}
use Rattle.c_machine.specs.Values.{value_number, value_truth}
use Rattle.c_machine.specs.Actions.{Reply, case_step, reply_at, called, action_step, action_effect, actions_effect, fits, reply_of, replies_of}
use Rattle.c_machine.specs.Runs.{case_effect, rest}
use Rattle.c_machine.proofs.Growing.{grow_at}

-- ---- one layer

pub effect-Assign : (replies : List Reply) (argument : Option ℤ) (i : ℕ) (v : Value)
    → action_effect replies argument (a.Assign i v) ≡ action_step replies argument (layer.Assign i v)
effect-Assign replies argument i v =
    ap (action_effect replies argument) (sym (a.rolls-Assign i v)) ∙ fold-roll-Action Effect (Clause Effect) (action_step replies argument) case_step (layer.Assign i v)

pub effect-If : (replies : List Reply) (argument : Option ℤ) (v : Value) (xs ys : List Action)
    → action_effect replies argument (a.If v xs ys) ≡ action_step replies argument (layer.If v (map (action_effect replies argument) xs) (map (action_effect replies argument) ys))
effect-If replies argument v xs ys =
    ap (action_effect replies argument) (sym (a.rolls-If v xs ys)) ∙ fold-roll-Action Effect (Clause Effect) (action_step replies argument) case_step (layer.If v xs ys)

pub effect-Call : (replies : List Reply) (argument : Option ℤ) (k : ℕ) (v : Option Value) → action_effect replies argument (a.Call k v) ≡ called replies argument k v
effect-Call replies argument k v =
    ap (action_effect replies argument) (sym (a.rolls-Call k v)) ∙ fold-roll-Action Effect (Clause Effect) (action_step replies argument) case_step (layer.Call k v)

pub effect-Unknown : (replies : List Reply) (argument : Option ℤ) → action_effect replies argument a.Unknown ≡ action_step replies argument layer.Unknown
effect-Unknown replies argument =
    ap (action_effect replies argument) (sym a.rolls-Unknown) ∙ fold-roll-Action Effect (Clause Effect) (action_step replies argument) case_step layer.Unknown

pub effect-Switch : (replies : List Reply) (argument : Option ℤ) (v : Value) (cs : List Case)
    → action_effect replies argument (a.Switch v cs) ≡ action_step replies argument (layer.Switch v (map (case_effect replies argument) cs))
effect-Switch replies argument v cs =
    ap (action_effect replies argument) (sym (a.rolls-Switch v cs)) ∙ fold-roll-Action Effect (Clause Effect) (action_step replies argument) case_step (layer.Switch v cs)
    ∙ ap (λ us. action_step replies argument (layer.Switch v us))
    (map_same (fold-Case Effect (Clause Effect) (action_step replies argument) case_step) (case_effect replies argument)
    (fold_out-Case Effect (Clause Effect) (action_step replies argument) case_step) cs)

-- ---- at a row

pub at-Assign : (replies : List Reply) (argument : Option ℤ) (i : ℕ) (v : Value) (row : Objects)
    → action_effect replies argument (a.Assign i v) row ≡ option_map (λ z. slice_set row i z) (value_number argument row v)
at-Assign replies argument i v row = ap (λ (f : Effect). f row) (effect-Assign replies argument i v)

pub at-If : (replies : List Reply) (argument : Option ℤ) (v : Value) (xs ys : List Action) (row : Objects)
    → action_effect replies argument (a.If v xs ys) row
    ≡ option_and_then (λ b. cond b (actions_effect replies argument xs row) (actions_effect replies argument ys row)) (value_truth argument row v)
at-If replies argument v xs ys row = ap (λ (f : Effect). f row) (effect-If replies argument v xs ys)

pub at-Call : (replies : List Reply) (argument : Option ℤ) (k : ℕ) (v : Option Value) (row : Objects)
    → action_effect replies argument (a.Call k v) row ≡ called replies argument k v row
at-Call replies argument k v row = ap (λ (f : Effect). f row) (effect-Call replies argument k v)

pub at-Unknown : (replies : List Reply) (argument : Option ℤ) (row : Objects) → action_effect replies argument a.Unknown row ≡ None
at-Unknown replies argument row = ap (λ (f : Effect). f row) (effect-Unknown replies argument)

pub at-Switch : (replies : List Reply) (argument : Option ℤ) (v : Value) (cs : List Case) (row : Objects)
    → action_effect replies argument (a.Switch v cs) row ≡ option_and_then (λ z. from_label z (map (case_effect replies argument) cs) row) (value_number argument row v)
at-Switch replies argument v cs row = ap (λ (f : Effect). f row) (effect-Switch replies argument v cs)

pub ruleset effect_laws = (at-Assign, at-If, at-Call, at-Unknown, at-Switch)

-- ---- statements in a row

abbrev next : Option Objects → Effect → Option Objects
next r effect = option_and_then effect r

-- no meaning stays no meaning
none_stays : (effects : List Effect) → fold next None effects ≡ None
none_stays [] = refl
none_stays (e ∷ effects) = none_stays effects

list_around : {X Y : Type 0} (f : X → Y) (xs : List X) (i : ℕ) (d : X) → i < length xs → map f xs ≡ map f (take i xs) ++ f (get_or xs i d) ∷ map f (drop (suc i) xs)
list_around f xs i d h =
    ap (map f) (sym (take-append-drop i xs)) ∙ map-append f (take i xs) (drop i xs) ∙ ap (λ ys. map f (take i xs) ++ map f ys) (drop-cons xs i d h)

list_up_to : {X Y : Type 0} (f : X → Y) (xs : List X) (i : ℕ) (d : X) → i < length xs → map f (take (i + 1) xs) ≡ map f (take i xs) ++ f (get_or xs i d) ∷ []
list_up_to f xs i d h = ap (map f) (take_more xs i d h) ∙ map-append f (take i xs) (get_or xs i d ∷ [])

-- one more
pub in_row_more : {X : Type 0} (f : X → Effect) (xs : List X) (i : ℕ) (d : X) (row mid : Objects) → i < length xs → in_row (map f (take i xs)) row ≡ Some mid
    → in_row (map f (take (i + 1) xs)) row ≡ f (get_or xs i d) mid
in_row_more f xs i d row mid h before =
    ap (λ es. in_row es row) (list_up_to f xs i d h) ∙ fold-append next (Some row) (map f (take i xs)) (f (get_or xs i d) ∷ [])
    ∙ ap (λ r. fold next r (f (get_or xs i d) ∷ [])) before

-- one that has no meaning
pub in_row_none : {X : Type 0} (f : X → Effect) (xs : List X) (i : ℕ) (d : X) (row mid : Objects) → i < length xs → in_row (map f (take i xs)) row ≡ Some mid
    → f (get_or xs i d) mid ≡ None → in_row (map f xs) row ≡ None
in_row_none f xs i d row mid h before none =
    ap (λ es. in_row es row) (list_around f xs i d h) ∙ fold-append next (Some row) (map f (take i xs)) (f (get_or xs i d) ∷ map f (drop (suc i) xs))
    ∙ ap (λ r. fold next r (f (get_or xs i d) ∷ map f (drop (suc i) xs))) before ∙ ap (λ r. fold next r (map f (drop (suc i) xs))) none
    ∙ none_stays (map f (drop (suc i) xs))

pub ruleset row_laws = (in_row_more, in_row_none)

-- ---- clauses

-- the clause at hand and those behind it
pub rest_at : {X : Type 0} (f : X → Clause Effect) (xs : List X) (i : ℕ) (d : X) (inside : Bool) (z : ℤ) (row : Objects) → i < length xs
    → rest inside z (map f (drop i xs)) row ≡ rest inside z (f (get_or xs i d) ∷ map f (drop (suc i) xs)) row
rest_at f xs i d inside z row h = ap (λ ys. rest inside z (map f ys) row) (drop-cons xs i d h)

pub ruleset case_laws = (rest_at)

-- ---- functions

-- a function calls those before it
pub replies_at : (routines : List Routine) (k : ℕ) → slice_get (replies_of routines) k ≡ option_map (reply_of (replies_of (take k routines))) (slice_get routines k)
replies_at routines k = grow_at reply_of [] routines k k (omega arith)

reply_there : (routines : List Routine) (k : ℕ) (routine : Routine) (argument : Option ℤ) (row : Objects) → slice_get routines k ≡ Some routine
    → reply_at (replies_of routines) k argument row ≡ reply_of (replies_of (take k routines)) routine argument row
reply_there routines k routine argument row e =
    ap (λ (o : Option Reply). option_and_then (λ (reply : Reply). reply argument row) o) (replies_at routines k ∙ ap (option_map (reply_of (replies_of (take k routines)))) e)

pub reply_fits : (routines : List Routine) (k : ℕ) (routine : Routine) (argument : Option ℤ) (row : Objects) → slice_get routines k ≡ Some routine
    → fits routine.takes argument ≡ true → reply_at (replies_of routines) k argument row ≡ actions_effect (replies_of (take k routines)) argument routine.body row
reply_fits routines k routine argument row e h =
    reply_there routines k routine argument row e ∙ ap (λ b. cond b (actions_effect (replies_of (take k routines)) argument routine.body row) None) h

pub reply_unfit : (routines : List Routine) (k : ℕ) (routine : Routine) (argument : Option ℤ) (row : Objects) → slice_get routines k ≡ Some routine
    → fits routine.takes argument ≡ false → reply_at (replies_of routines) k argument row ≡ None
reply_unfit routines k routine argument row e h =
    reply_there routines k routine argument row e ∙ ap (λ b. cond b (actions_effect (replies_of (take k routines)) argument routine.body row) None) h

pub reply_missing : (routines : List Routine) (k : ℕ) (argument : Option ℤ) (row : Objects) → slice_get routines k ≡ None
    → reply_at (replies_of routines) k argument row ≡ None
reply_missing routines k argument row e =
    ap (λ (o : Option Reply). option_and_then (λ (reply : Reply). reply argument row) o) (replies_at routines k ∙ ap (option_map (reply_of (replies_of (take k routines)))) e)
