-- The lines of all variables resolve to these, a mode class with its modes.
use Rattle.std.proofs.Common.{◌≡◌, ℕ, ℤ, pos, negsuc, zero, suc, ◌+◌, ◌<◌, ◌-ℤ◌, Bool, true, false, not, ◌&&◌, ◌||◌, cond, List, [], ◌∷◌, ◌++◌, length, Option, Some, None, refl, sym, ap, ap₂, ◌∙◌, append_assoc, arith, append-nil}
use Rattle.std.specs.Prelude.{nat_lt, int_le, if◌then◌else◌, is_some, unwrap_or, slice_index_or}
use Rattle.std.specs.Option.{option_map_or}
use Rattle.std.specs.Str.{bytes_eq}
use Rattle.std.specs.List.{list_all, list_any, flat_map, position_or_len}
use Rattle.std.proofs.lemmas.Bool.{and_parts, lt-ltb}
use Rattle.std.proofs.lemmas.List.Folds.{list_any-append}
use Rattle.scr_spec.specs.Data.{Data}
use Rattle.scr_spec.specs.declared.cond.Owner.TheVariants as owner
use Rattle.scr_spec.specs.declared.spec.TypeDef.{TypeDef}
use Rattle.scr_spec.specs.declared.spec.Kind.{Kind}
use Rattle.scr_spec.specs.declared.spec.Kind.TheVariants.{Boolean, Named, Modes}
use Rattle.scr_spec.specs.declared.spec.Role.{Role}
use Rattle.scr_spec.specs.declared.spec.Role.TheVariants as role
use Rattle.scr_spec.specs.declared.spec.Variable.{Variable}
use Rattle.scr_spec.specs.Domains.{list_domain, kind_domain}
use Rattle.dd_formula.specs.Domains.{is_within}
use Rattle.scr_spec.specs.Distinct.{are_distinct}
use Rattle.scr_spec.specs.NameSpace.{variable_names}
use Rattle.scr_spec.specs.Initial.{is_init_there, is_init_sound, is_kind_of_role}
use Rattle.scr_spec.specs.Types.{is_kind_sound, is_bound_sound, is_narrow, is_integer_kind, kind_modes}
use Rattle.scr_spec.specs.Roles.{is_monitored_role}
use Rattle.scr_parse.specs.declared.draft.Statement.TheVariants as st
use Rattle.scr_scope.specs.declared.meaning.Meaning.TheVariants as m
use Rattle.scr_scope.specs.Names.{Name, NameList, meaning_of}
use Rattle.scr_scope.specs.Meanings.{unknown}
use Rattle.scr_scope.specs.Declarations.{with_labels, place_of}
use Rattle.scr_resolve.specs.Lines.{after}
use Rattle.scr_resolve.proofs.NamesAt.{bytes_same}
use Rattle.scr_scope.specs.Entries.{label_entries, variable_entries}
use Rattle.scr_roundtrip.proofs.Drafts.{first_mode, draft_variable, draft_variables}
use Rattle.scr_roundtrip.proofs.Named.{names_in, names_append, label_names, or_right}
use Rattle.scr_roundtrip.proofs.Declared.{Runs, step, runs_to, runs_join, no_statement, no_fault, not_again, name_added, labels_added, one_in, or_none, unknown_yet}
use Rattle.scr_roundtrip.proofs.Variables.{AreSettled, settled_more, with_variables, place_below, right_none, meaning_kept, meaning_last, boolean_line, named_line, bound_run}

-- ---- the place of a mode

not_in : (a : Name) (names : List Name) (n : ℕ) → list_any (bytes_eq a) names ≡ false → n < length names → bytes_eq a (slice_index_or names n []) ≡ false
not_in a [] n h g = absurd (omega arith)
not_in a (x ∷ names) zero h g = (or_none (bytes_eq a x) (list_any (bytes_eq a) names) h).0
not_in a (x ∷ names) (suc n) h g = not_in a names n ((or_none (bytes_eq a x) (list_any (bytes_eq a) names) h).1) (omega arith)

pub is_in : (names : List Name) (n : ℕ) → n < length names → list_any (bytes_eq (slice_index_or names n [])) names ≡ true
is_in [] n g = absurd (omega arith)
is_in (x ∷ names) zero g = ap (λ b. b || list_any (bytes_eq x) names) (bytes_same x x refl)
is_in (x ∷ names) (suc n) g = or_right (bytes_eq (slice_index_or names n []) x) _ (is_in names n (omega arith))

first_place : (names : List Name) (n : ℕ) → n < length names → are_distinct bytes_eq names ≡ true → position_or_len (λ other. bytes_eq other (slice_index_or names n [])) names ≡ n
first_place [] n g d = absurd (omega arith)
first_place (x ∷ names) zero g d = rw (bytes_same x x refl) refl
first_place (x ∷ names) (suc n) g d =
    let parts = and_parts (not (list_any (bytes_eq x) names)) (are_distinct bytes_eq names) d in
    let apart = not_in x names n (not_false (list_any (bytes_eq x) names) (parts.0)) (omega arith) in
    let more = first_place names n (omega arith) (parts.1) in
    rw apart (omega (arith, more))
  where
    not_false : (b : Bool) → not b ≡ true → b ≡ false
    not_false true h = absurd (cc)
    not_false false h = refl

pub place_back : (names : List Name) (n : ℕ) → n < length names → are_distinct bytes_eq names ≡ true → place_of names (slice_index_or names n []) ≡ n
place_back names n g d =
    ap (λ i. unwrap_or (cond (nat_lt i (length names)) (Some i) None) 0) (first_place names n g d) ∙ ap (λ b. unwrap_or (cond b (Some n) None) 0) (lt-ltb n (length names) g)

-- ---- distinct names

pub distinct_right : (a b : List Name) → are_distinct bytes_eq (a ++ b) ≡ true → are_distinct bytes_eq b ≡ true
distinct_right [] b d = d
distinct_right (x ∷ a) b d = distinct_right a b ((and_parts (not (list_any (bytes_eq x) (a ++ b))) (are_distinct bytes_eq (a ++ b)) d).1)

pub distinct_left : (a b : List Name) → are_distinct bytes_eq (a ++ b) ≡ true → are_distinct bytes_eq a ≡ true
distinct_left [] b d = refl
distinct_left (x ∷ a) b d =
    let parts = and_parts (not (list_any (bytes_eq x) (a ++ b))) (are_distinct bytes_eq (a ++ b)) d in
    ap₂ (λ p q. p && q) (less (list_any (bytes_eq x) a) (list_any (bytes_eq x) b) (ap not (sym (list_any-append (bytes_eq x) a b)) ∙ parts.0)) (distinct_left a b (parts.1))
  where
    less : (p q : Bool) → not (p || q) ≡ true → not p ≡ true
    less true q h = h
    less false q h = refl

-- ---- the line of a mode class

abbrev pub variable_entry : ℕ → Name → Kind → NameList
variable_entry v name kind = (name, m.Variable v) ∷ label_entries (owner.Class v) 0 (kind_modes kind)

pub class_line : (spec : Data) (es : NameList) (past : List Variable) (name : Name) (names : List Name) (n : ℕ) (later : List Name)
    → are_distinct bytes_eq (names_in es ++ ((name ∷ names) ++ later)) ≡ true → n < length names
    → Runs (with_variables spec es past) (st.Class name names (slice_index_or names n []) ∷ [])
    (with_variables spec (es ++ variable_entry (length past) name (Modes names)) (past ++ record { name = name; role = role.Mode; kind = Modes names; init = Some (pos n); bound = None } ∷ []))
unfolding after
class_line spec es past name names n later once g =
    let known = with_variables spec es past in
    let init = slice_index_or names n [] in
    let there = is_in names n g in
    let entry : NameList = (name, m.Variable (length past)) ∷ [] in
    let next : are_distinct bytes_eq (names_in (es ++ entry) ++ (names ++ later)) ≡ true =
    ap (λ ns. are_distinct bytes_eq (ns ++ (names ++ later))) (one_in es name (m.Variable (length past))) ∙ ap (are_distinct bytes_eq) (append_assoc (names_in es) (name ∷ []) (names ++ later)) ∙ once in
    let own = distinct_left names later (distinct_right (name ∷ []) (names ++ later) (distinct_right (names_in es) (name ∷ (names ++ later)) once)) in
    step
    (no_fault known (st.Class name names init) (not_again es [] (name ∷ names) later once)
    (ap (λ there. if there then None else unknown known init) (or_right (bytes_eq init name) _ there))
    (right_none _ name there) refl refl refl refl)
    (runs_to (ap₂ (λ es i. with_variables spec es (past ++ record { name = name; role = role.Mode; kind = Modes names; init = Some (pos i); bound = None } ∷ []))
    (ap (λ es. with_labels es (owner.Class (length past)) 0 names) (name_added es (names ++ later) name (m.Variable (length past)) once)
    ∙ labels_added (es ++ entry) names later (owner.Class (length past)) 0 next ∙ append_assoc es entry (label_entries (owner.Class (length past)) 0 names))
    (place_back names n g own))
    (no_statement (after known (st.Class name names init))))

-- ---- the lines of a variable

-- the rules that a variable keeps
abbrev pub is_variable_kept : List TypeDef → Variable → Bool
is_variable_kept types x = ((is_kind_sound types x.kind && is_kind_of_role x.role x.kind) && (is_init_there x && is_init_sound types x)) && is_bound_sound types x

-- without its bound
abbrev unbounded : Name → Role → Kind → Option ℤ → Variable
unbounded name r kind init = record { name = name; role = r; kind = kind; init = init; bound = None }

mode_init : (spec : Data) (es : NameList) (past : List Variable) (name : Name) (names : List Name) (init : Option ℤ) (later : List Name)
    → are_distinct bytes_eq (names_in es ++ ((name ∷ names) ++ later)) ≡ true → is_some init ≡ true → option_map_or (is_within (list_domain names)) init true ≡ true
    → Runs (with_variables spec es past) (st.Class name names (first_mode names init) ∷ [])
    (with_variables spec (es ++ variable_entry (length past) name (Modes names)) (past ++ unbounded name role.Mode (Modes names) init ∷ []))
mode_init spec es past name names None later once there h = absurd (cc)
mode_init spec es past name names (Some (negsuc n)) later once there h = absurd (cc)
mode_init spec es past name names (Some (pos n)) later once there h =
    class_line spec es past name names n later once (place_below n (length names) ((and_parts (int_le (pos 0) (pos n)) (int_le (pos n) (pos (length names) -ℤ pos 1)) h).1))

kind_line : (spec : Data) (es : NameList) → AreSettled spec es → (past : List Variable) (name : Name) (r : Role) (kind : Kind) (init : Option ℤ) (later : List Name)
    → are_distinct bytes_eq (names_in es ++ ((name ∷ kind_modes kind) ++ later)) ≡ true → is_kind_sound spec.types kind ≡ true → is_kind_of_role r kind ≡ true
    → is_init_there (unbounded name r kind init) ≡ true → option_map_or (is_within (kind_domain spec.types kind)) init true ≡ true
    → Runs (with_variables spec es past) (draft_variable spec (unbounded name r kind init) kind ∷ [])
    (with_variables spec (es ++ variable_entry (length past) name kind) (past ++ unbounded name r kind init ∷ []))
kind_line spec es settled past name r Boolean init later once sound of there h = boolean_line spec es past r name init later once h
kind_line spec es settled past name r (Named j) init later once sound of there h = named_line spec es settled past r name j init later once sound h
kind_line spec es settled past name role.Mode (Modes names) init later once sound of there h = mode_init spec es past name names init later once there h
kind_line spec es settled past name role.Monitored (Modes names) init later once sound of there h = absurd (cc)
kind_line spec es settled past name role.Term (Modes names) init later once sound of there h = absurd (cc)
kind_line spec es settled past name role.Controlled (Modes names) init later once sound of there h = absurd (cc)

own_meaning : (es : NameList) (name : Name) (v : ℕ) (kind : Kind) (later : List Name) → are_distinct bytes_eq (names_in es ++ name ∷ later) ≡ true
    → meaning_of (es ++ variable_entry v name kind) name ≡ Some (m.Variable v)
own_meaning es name v kind later once =
    ap (λ es. meaning_of es name) (sym (append_assoc es ((name, m.Variable v) ∷ []) (label_entries (owner.Class v) 0 (kind_modes kind))))
    ∙ meaning_kept (es ++ (name, m.Variable v) ∷ []) (label_entries (owner.Class v) 0 (kind_modes kind)) name (m.Variable v) (meaning_last es name (m.Variable v) (unknown_yet es later name once))

variable_run : (spec : Data) (es : NameList) → AreSettled spec es → (past : List Variable) (name : Name) (r : Role) (kind : Kind) (init bound : Option ℤ) (later : List Name)
    → are_distinct bytes_eq (names_in es ++ ((name ∷ kind_modes kind) ++ later)) ≡ true
    → is_variable_kept spec.types (record { name = name; role = r; kind = kind; init = init; bound = bound }) ≡ true
    → Runs (with_variables spec es past) (draft_variables spec (record { name = name; role = r; kind = kind; init = init; bound = bound }))
    (with_variables spec (es ++ variable_entry (length past) name kind) (past ++ record { name = name; role = r; kind = kind; init = init; bound = bound } ∷ []))
variable_run spec es settled past name r kind init None later once h =
    let x = unbounded name r kind init in
    let all = and_parts ((is_kind_sound spec.types kind && is_kind_of_role r kind) && (is_init_there x && is_init_sound spec.types x)) true h in
    let halves = and_parts (is_kind_sound spec.types kind && is_kind_of_role r kind) (is_init_there x && is_init_sound spec.types x) (all.0) in
    let kinds = and_parts (is_kind_sound spec.types kind) (is_kind_of_role r kind) (halves.0) in
    let inits = and_parts (is_init_there x) (is_init_sound spec.types x) (halves.1) in
    kind_line spec es settled past name r kind init later once (kinds.0) (kinds.1) (inits.0) (inits.1)
variable_run spec es settled past name r kind init (Some size) later once h =
    let x = unbounded name r kind init in
    let takes = is_monitored_role r && is_integer_kind spec.types kind && int_le (pos 1) size && is_narrow size in
    let all = and_parts ((is_kind_sound spec.types kind && is_kind_of_role r kind) && (is_init_there x && is_init_sound spec.types x)) takes h in
    let halves = and_parts (is_kind_sound spec.types kind && is_kind_of_role r kind) (is_init_there x && is_init_sound spec.types x) (all.0) in
    let kinds = and_parts (is_kind_sound spec.types kind) (is_kind_of_role r kind) (halves.0) in
    let inits = and_parts (is_init_there x) (is_init_sound spec.types x) (halves.1) in
    let three = and_parts (is_monitored_role r && is_integer_kind spec.types kind && int_le (pos 1) size) (is_narrow size) (all.1) in
    let two = and_parts (is_monitored_role r && is_integer_kind spec.types kind) (int_le (pos 1) size) (three.0) in
    runs_join (kind_line spec es settled past name r kind init later once (kinds.0) (kinds.1) (inits.0) (inits.1))
    (bound_run spec (es ++ variable_entry (length past) name kind) past x size (own_meaning es name (length past) kind (kind_modes kind ++ later) once) refl (two.0) (two.1))

-- ---- the lines of all variables

longer : (past : List Variable) (x : Variable) → length (past ++ x ∷ []) ≡ length past + 1
longer [] x = refl
longer (y ∷ past) x = let e = longer past x in omega arith

entry_named : (v : ℕ) (x : Variable) → names_in (variable_entry v x.name x.kind) ≡ variable_names x
entry_named v x = ap (λ more. x.name ∷ more) (label_names (owner.Class v) 0 (kind_modes x.kind))

pub variables_run : (spec : Data) (es : NameList) → AreSettled spec es → (past xs : List Variable) (later : List Name) → list_all (is_variable_kept spec.types) xs ≡ true
    → are_distinct bytes_eq (names_in es ++ (flat_map variable_names xs ++ later)) ≡ true
    → Runs (with_variables spec es past) (flat_map (draft_variables spec) xs) (with_variables spec (es ++ variable_entries (length past) xs) (past ++ xs))
variables_run spec es settled past [] later h once = runs_to (ap₂ (with_variables spec) (sym (append-nil es)) (sym (append-nil past))) (no_statement (with_variables spec es past))
variables_run spec es settled past (x ∷ xs) later h once =
    let parts = and_parts (is_variable_kept spec.types x) (list_all (is_variable_kept spec.types) xs) h in
    let here : are_distinct bytes_eq (names_in es ++ (variable_names x ++ (flat_map variable_names xs ++ later))) ≡ true =
    ap (λ ns. are_distinct bytes_eq (names_in es ++ ns)) (sym (append_assoc (variable_names x) (flat_map variable_names xs) later)) ∙ once in
    let entry = variable_entry (length past) x.name x.kind in
    let next : are_distinct bytes_eq (names_in (es ++ entry) ++ (flat_map variable_names xs ++ later)) ≡ true =
    ap (λ ns. are_distinct bytes_eq (ns ++ (flat_map variable_names xs ++ later))) (names_append es entry ∙ ap (λ ns. names_in es ++ ns) (entry_named (length past) x))
    ∙ ap (are_distinct bytes_eq) (append_assoc (names_in es) (variable_names x) (flat_map variable_names xs ++ later)) ∙ here in
    let rest = variables_run spec (es ++ entry) (settled_more spec es entry settled) (past ++ x ∷ []) xs later (parts.1) next in
    runs_join (variable_run spec es settled past x.name x.role x.kind x.init x.bound (flat_map variable_names xs ++ later) here (parts.0))
    (runs_to (ap₂ (with_variables spec)
    (ap (λ n. (es ++ entry) ++ variable_entries n xs) (longer past x) ∙ append_assoc es entry (variable_entries (length past + 1) xs)) (append_assoc past (x ∷ []) xs)) rest)
