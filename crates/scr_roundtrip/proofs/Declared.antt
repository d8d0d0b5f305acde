-- The lines that declare types and constants resolve to these.
use Rattle.std.proofs.Common.{◌≡◌, ℕ, ◌+◌, Bool, true, false, not, ◌&&◌, ◌||◌, List, [], ◌∷◌, ◌++◌, length, map, Option, Some, None, refl, sym, ap, ap₂, subst, ◌∙◌, append_assoc, arith, append-nil}
use Rattle.std.specs.Prelude.{int_le, is_some, if◌then◌else◌}
use Rattle.std.specs.Str.{bytes_eq}
use Rattle.std.specs.List.{list_all, list_any, flat_map}
use Rattle.std.proofs.lemmas.Bool.{and_parts}
use Rattle.std.proofs.lemmas.List.Folds.{list_any-append}
use Rattle.scr_spec.specs.declared.cond.Owner.{Owner}
use Rattle.scr_spec.specs.declared.cond.Owner.TheVariants as owner
use Rattle.scr_spec.specs.declared.spec.Shape.{Shape}
use Rattle.scr_spec.specs.declared.spec.Shape.TheVariants.{Range, Labels}
use Rattle.scr_spec.specs.declared.spec.TypeDef.{TypeDef}
use Rattle.scr_spec.specs.declared.spec.Constant.{Constant}
use Rattle.scr_spec.specs.NameSpace.{type_names, constant_names}
use Rattle.scr_spec.specs.Types.{is_narrow, is_shape_sound, is_type_sound, shape_labels}
use Rattle.scr_spec.specs.Distinct.{are_distinct}
use Rattle.scr_parse.specs.declared.draft.Statement.{Statement}
use Rattle.scr_scope.specs.declared.known.Known.{Known}
use Rattle.scr_scope.specs.declared.meaning.Meaning.{Meaning}
use Rattle.scr_scope.specs.declared.meaning.Meaning.TheVariants as m
use Rattle.scr_scope.specs.Names.{Name, NameList, meaning_of, is_known, with_name}
use Rattle.scr_scope.specs.First.{unless, first_again}
use Rattle.scr_scope.specs.Declarations.{with_labels}
use Rattle.scr_resolve.specs.Lines.{duplicate_in, unknown_in, ill_in, outside_in, wide_in, mode_in, table_in, fault_in, after}
use Rattle.scr_resolve.specs.Draft.{Resolves, no_more, one_more}
use Rattle.scr_resolve.proofs.NamesAt.{same_bytes, bytes_same}
use Rattle.scr_roundtrip.proofs.Drafts.{draft_shape, draft_type, draft_constant}
use Rattle.scr_roundtrip.proofs.TextRead.{numbered_from}
use Rattle.scr_scope.specs.Entries.{label_entries, type_entries, constant_entries}
use Rattle.scr_roundtrip.proofs.Named.{names_in, label_names, names_append, or_right, not_both}

-- ---- statements one after another

pub data Runs : Known → List Statement → Known → Type 0 where
  no_line : {known : Known} → Runs known [] known
  step : {known last : Known} {statement : Statement} {more : List Statement} → fault_in known statement ≡ None → Runs (after known statement) more last → Runs known (statement ∷ more) last

pub runs_resolve : {known last : Known} {statements : List Statement} → Runs known statements last → (n : ℕ) → Resolves known (numbered_from n statements) last
runs_resolve no_line n = no_more
runs_resolve (step h more) n = one_more h (runs_resolve more (n + 1))

pub runs_join : {known mid last : Known} {a b : List Statement} → Runs known a mid → Runs mid b last → Runs known (a ++ b) last
runs_join no_line g = g
runs_join (step h more) g = step h (runs_join more g)

pub runs_from : {a b last : Known} {statements : List Statement} → a ≡ b → Runs b statements last → Runs a statements last
runs_from {last = last} {statements = statements} e r = subst (λ known. Runs known statements last) (sym e) r

pub runs_to : {known a b : Known} {statements : List Statement} → a ≡ b → Runs known statements a → Runs known statements b
runs_to {known} {statements = statements} e r = subst (λ last. Runs known statements last) e r

pub no_statement : (known : Known) → Runs known [] known
no_statement known = no_line

-- a line that breaks no rule of any kind has no fault
pub no_fault : (known : Known) (line : Statement) → duplicate_in known line ≡ None → unknown_in known line ≡ None → ill_in known line ≡ None → outside_in known line ≡ None
    → wide_in known line ≡ None → mode_in known line ≡ None → table_in known line ≡ None → fault_in known line ≡ None
unfolding fault_in
no_fault known line a b c d e f g = rw (a, b, c, d, e, f, g) refl

-- ---- new names

pub not_true : (b : Bool) → (b ≡ true → ⊥) → b ≡ false
not_true true h = absurd (h refl)
not_true false h = refl

any_at : (n : Name) (before later : List Name) (other : Name) → bytes_eq n other ≡ true → list_any (bytes_eq n) (before ++ other ∷ later) ≡ true
any_at n [] later other h = ap (λ b. b || list_any (bytes_eq n) later) h
any_at n (x ∷ before) later other h = or_right (bytes_eq n x) _ (any_at n before later other h)

-- a name that is declared once is not among those before it
fresh : (before later : List Name) (n : Name) → are_distinct bytes_eq (before ++ n ∷ later) ≡ true → list_any (bytes_eq n) before ≡ false
fresh [] later n d = refl
fresh (b ∷ before) later n d =
    let parts = and_parts (not (list_any (bytes_eq b) (before ++ n ∷ later))) (are_distinct bytes_eq (before ++ n ∷ later)) d in
    let apart = not_true (bytes_eq n b) (λ same.
    let is : b ≡ n = sym (same_bytes n b same) in
    not_both (list_any (bytes_eq b) (before ++ n ∷ later)) (parts.0) (any_at b before later n (bytes_same b n is))) in
    ap (λ x. x || list_any (bytes_eq n) before) apart ∙ fresh before later n (parts.1)

known_some : (same : Bool) (first : Meaning) (more : Option Meaning) → is_some (if same then Some first else more) ≡ (same || is_some more)
known_some true first more = refl
known_some false first more = refl

known_in : (es : NameList) (n : Name) → is_known es n ≡ list_any (bytes_eq n) (names_in es)
known_in [] n = refl
known_in (e ∷ es) n = known_some (bytes_eq n e.0) e.1 (meaning_of es n) ∙ ap (λ b. bytes_eq n e.0 || b) (known_in es n)

pub unknown_yet : (es : NameList) (later : List Name) (n : Name) → are_distinct bytes_eq (names_in es ++ n ∷ later) ≡ true → is_known es n ≡ false
unknown_yet es later n d = known_in es n ∙ fresh (names_in es) later n d

pub or_none : (a b : Bool) → (a || b) ≡ false → (a ≡ false) × (b ≡ false)
or_none true b h = absurd (cc)
or_none false b h = (refl, h)

again_step : (a b : Bool) (n : Name) (more : Option Name) → a ≡ false → b ≡ false → more ≡ None → (if a || b then Some n else more) ≡ None
again_step a b n more h g i = rw (h, g, i) refl

pub not_again : (es : NameList) (before ns later : List Name) → are_distinct bytes_eq (names_in es ++ (before ++ (ns ++ later))) ≡ true → first_again es before ns ≡ None
not_again es before [] later d = refl
not_again es before (n ∷ ns) later d =
    let whole : names_in es ++ (before ++ (n ∷ (ns ++ later))) ≡ (names_in es ++ before) ++ n ∷ (ns ++ later) = sym (append_assoc (names_in es) before (n ∷ (ns ++ later))) in
    let new = fresh (names_in es ++ before) (ns ++ later) n (sym (ap (are_distinct bytes_eq) whole) ∙ d) in
    let both = or_none (list_any (bytes_eq n) (names_in es)) (list_any (bytes_eq n) before) (sym (list_any-append (bytes_eq n) (names_in es) before) ∙ new) in
    again_step (is_known es n) (list_any (bytes_eq n) before) n (first_again es (before ++ n ∷ []) ns) (known_in es n ∙ both.0) (both.1)
    (not_again es (before ++ n ∷ []) ns later (ap (λ names. are_distinct bytes_eq (names_in es ++ names)) (append_assoc before (n ∷ []) (ns ++ later)) ∙ d))

pub name_added : (es : NameList) (later : List Name) (n : Name) (x : Meaning) → are_distinct bytes_eq (names_in es ++ n ∷ later) ≡ true → with_name es n x ≡ es ++ (n, x) ∷ []
name_added es later n x d = ap (λ there. if there then es else es ++ (n, x) ∷ []) (unknown_yet es later n d)

pub one_in : (es : NameList) (n : Name) (x : Meaning) → names_in (es ++ (n, x) ∷ []) ≡ names_in es ++ n ∷ []
one_in es n x = names_append es ((n, x) ∷ [])

pub labels_added : (es : NameList) (ns later : List Name) (who : Owner) (i : ℕ) → are_distinct bytes_eq (names_in es ++ (ns ++ later)) ≡ true → with_labels es who i ns ≡ es ++ label_entries who i ns
labels_added es [] later who i d = sym (append-nil es)
labels_added es (n ∷ ns) later who i d =
    let entry : NameList = (n, m.Label who i) ∷ [] in
    let next : are_distinct bytes_eq (names_in (es ++ entry) ++ (ns ++ later)) ≡ true =
    ap (λ names. are_distinct bytes_eq (names ++ (ns ++ later))) (one_in es n (m.Label who i)) ∙ ap (are_distinct bytes_eq) (append_assoc (names_in es) (n ∷ []) (ns ++ later)) ∙ d in
    ap (λ es. with_labels es who (i + 1) ns) (name_added es (ns ++ later) n (m.Label who i) d)
    ∙ labels_added (es ++ entry) ns later who (i + 1) next ∙ append_assoc es entry (label_entries who (i + 1) ns)

-- ---- types

-- behind these types
abbrev pub with_types : Name → NameList → List TypeDef → Known
with_types title es types = record { title = title; names = es; types = types; constants = []; variables = []; tables = []; current = None }

abbrev pub type_entry : ℕ → TypeDef → NameList
type_entry k t = (t.name, m.Type k) ∷ label_entries (owner.Named k) 0 (shape_labels t.shape)

in_order : (title : Name) (es : NameList) (done : List TypeDef) (name : Name) (shape : Shape) → is_shape_sound shape ≡ true → (later : List Name)
    → are_distinct bytes_eq (names_in es ++ ((name ∷ shape_labels shape) ++ later)) ≡ true → fault_in (with_types title es done) (draft_shape name shape) ≡ None
in_order title es done name (Range d) h later once =
    let parts = and_parts (is_narrow d.lo && is_narrow d.hi && int_le d.lo d.hi) _ h in
    let order = (and_parts (is_narrow d.lo && is_narrow d.hi) (int_le d.lo d.hi) (parts.0)).1 in
    no_fault (with_types title es done) (draft_shape name (Range d)) (not_again es [] (name ∷ []) later once) refl refl (ap (λ right. unless right name) order) refl refl refl
in_order title es done name (Labels names) h later once =
    no_fault (with_types title es done) (draft_shape name (Labels names)) (not_again es [] (name ∷ names) later once) refl refl refl refl refl refl

type_after : (title : Name) (es : NameList) (done : List TypeDef) (name : Name) (shape : Shape) (later : List Name)
    → are_distinct bytes_eq (names_in es ++ ((name ∷ shape_labels shape) ++ later)) ≡ true
    → after (with_types title es done) (draft_shape name shape)
    ≡ with_types title (es ++ ((name, m.Type (length done)) ∷ label_entries (owner.Named (length done)) 0 (shape_labels shape))) (done ++ record { name = name; shape = shape } ∷ [])
unfolding after
type_after title es done name (Range d) later once = ap (λ es. with_types title es (done ++ record { name = name; shape = Range d } ∷ [])) (name_added es later name (m.Type (length done)) once)
type_after title es done name (Labels names) later once =
    let entry : NameList = (name, m.Type (length done)) ∷ [] in
    let next : are_distinct bytes_eq (names_in (es ++ entry) ++ (names ++ later)) ≡ true =
    ap (λ ns. are_distinct bytes_eq (ns ++ (names ++ later))) (one_in es name (m.Type (length done))) ∙ ap (are_distinct bytes_eq) (append_assoc (names_in es) (name ∷ []) (names ++ later)) ∙ once in
    ap (λ es. with_types title es (done ++ record { name = name; shape = Labels names } ∷ []))
    (ap (λ es. with_labels es (owner.Named (length done)) 0 names) (name_added es (names ++ later) name (m.Type (length done)) once)
    ∙ labels_added (es ++ entry) names later (owner.Named (length done)) 0 next ∙ append_assoc es entry (label_entries (owner.Named (length done)) 0 names))

entry_names : (k : ℕ) (t : TypeDef) → names_in (type_entry k t) ≡ type_names t
entry_names k t = ap (λ more. t.name ∷ more) (label_names (owner.Named k) 0 (shape_labels t.shape))

more_length : (done : List TypeDef) (t : TypeDef) → length (done ++ t ∷ []) ≡ length done + 1
more_length [] t = refl
more_length (x ∷ done) t = let e = more_length done t in omega arith

pub types_run : (title : Name) (es : NameList) (done ts : List TypeDef) (later : List Name) → list_all is_type_sound ts ≡ true
    → are_distinct bytes_eq (names_in es ++ (flat_map type_names ts ++ later)) ≡ true
    → Runs (with_types title es done) (map draft_type ts) (with_types title (es ++ type_entries (length done) ts) (done ++ ts))
types_run title es done [] later h once = runs_to (ap₂ (with_types title) (sym (append-nil es)) (sym (append-nil done))) (no_statement (with_types title es done))
types_run title es done (t ∷ ts) later h once =
    let parts = and_parts (is_type_sound t) (list_all is_type_sound ts) h in
    let here : are_distinct bytes_eq (names_in es ++ (type_names t ++ (flat_map type_names ts ++ later))) ≡ true =
    ap (λ ns. are_distinct bytes_eq (names_in es ++ ns)) (sym (append_assoc (type_names t) (flat_map type_names ts) later)) ∙ once in
    let entry = type_entry (length done) t in
    let next : are_distinct bytes_eq (names_in (es ++ entry) ++ (flat_map type_names ts ++ later)) ≡ true =
    ap (λ ns. are_distinct bytes_eq (ns ++ (flat_map type_names ts ++ later))) (names_append es entry ∙ ap (λ ns. names_in es ++ ns) (entry_names (length done) t))
    ∙ ap (are_distinct bytes_eq) (append_assoc (names_in es) (type_names t) (flat_map type_names ts ++ later)) ∙ here in
    let rest = types_run title (es ++ entry) (done ++ t ∷ []) ts later (parts.1) next in
    step (in_order title es done t.name t.shape (parts.0) (flat_map type_names ts ++ later) here)
    (runs_from (type_after title es done t.name t.shape (flat_map type_names ts ++ later) here)
    (runs_to (ap₂ (with_types title)
    (ap (λ n. (es ++ entry) ++ type_entries n ts) (more_length done t) ∙ append_assoc es entry (type_entries (length done + 1) ts)) (append_assoc done (t ∷ []) ts)) rest))

-- ---- constants

-- behind all types and these constants
abbrev pub with_constants : Name → NameList → List TypeDef → List Constant → Known
with_constants title es types constants = record { title = title; names = es; types = types; constants = constants; variables = []; tables = []; current = None }

constant_after : (title : Name) (es : NameList) (types : List TypeDef) (past : List Constant) (x : Constant) (later : List Name) → are_distinct bytes_eq (names_in es ++ x.name ∷ later) ≡ true
    → after (with_constants title es types past) (draft_constant x) ≡ with_constants title (es ++ (x.name, m.Constant (length past)) ∷ []) types (past ++ x ∷ [])
unfolding after
constant_after title es types past x later once = ap (λ es. with_constants title es types (past ++ x ∷ [])) (name_added es later x.name (m.Constant (length past)) once)

pub one_longer : (past : List Constant) (x : Constant) → length (past ++ x ∷ []) ≡ length past + 1
one_longer [] x = refl
one_longer (y ∷ past) x = let e = one_longer past x in omega arith

pub constants_run : (title : Name) (es : NameList) (types : List TypeDef) (past xs : List Constant) (later : List Name)
    → are_distinct bytes_eq (names_in es ++ (flat_map constant_names xs ++ later)) ≡ true
    → Runs (with_constants title es types past) (map draft_constant xs) (with_constants title (es ++ constant_entries (length past) xs) types (past ++ xs))
constants_run title es types past [] later once =
    runs_to (ap₂ (λ es constants. with_constants title es types constants) (sym (append-nil es)) (sym (append-nil past))) (no_statement (with_constants title es types past))
constants_run title es types past (x ∷ xs) later once =
    let entry : NameList = (x.name, m.Constant (length past)) ∷ [] in
    let next : are_distinct bytes_eq (names_in (es ++ entry) ++ (flat_map constant_names xs ++ later)) ≡ true =
    ap (λ ns. are_distinct bytes_eq (ns ++ (flat_map constant_names xs ++ later))) (one_in es x.name (m.Constant (length past)))
    ∙ ap (are_distinct bytes_eq) (append_assoc (names_in es) (x.name ∷ []) (flat_map constant_names xs ++ later)) ∙ once in
    let rest = constants_run title (es ++ entry) types (past ++ x ∷ []) xs later next in
    step (no_fault (with_constants title es types past) (draft_constant x) (not_again es [] (x.name ∷ []) (flat_map constant_names xs ++ later) once) refl refl refl refl refl refl)
    (runs_from (constant_after title es types past x (flat_map constant_names xs ++ later) once)
    (runs_to (ap₂ (λ es constants. with_constants title es types constants)
    (ap (λ n. (es ++ entry) ++ constant_entries n xs) (one_longer past x) ∙ append_assoc es entry (constant_entries (length past + 1) xs)) (append_assoc past (x ∷ []) xs)) rest))
