-- Names that are declared one after another.
use Rattle.std.proofs.Common.{◌≡◌, ℕ, ◌+◌, Bool, true, IsTrue, List, [], ◌∷◌, ◌++◌, refl, sym, ap, subst, ◌∙◌}
use Rattle.std.specs.List.{list_all}
use Rattle.std.proofs.lemmas.Bool.{and_parts}
use Rattle.scr_spec.specs.declared.cond.Owner.{Owner}
use Rattle.scr_spec.specs.declared.spec.TypeDef.{TypeDef}
use Rattle.scr_spec.specs.declared.spec.Variable.{Variable}
use Rattle.scr_scope.specs.declared.meaning.Meaning.TheVariants as m
use Rattle.scr_scope.specs.Names.{Name, NameList, with_name}
use Rattle.scr_scope.specs.Declarations.{with_labels}
use Rattle.scr_scope.specs.Entries.{label_entries, entries_of_type, type_entries, entries_of_variable, variable_entries, with_entries}

pub entries_append : (names es fs : NameList) → with_entries names (es ++ fs) ≡ with_entries (with_entries names es) fs
entries_append names [] fs = refl
entries_append names (e ∷ es) fs = entries_append (with_name names e.0 e.1) es fs

pub labels_entered : (names : NameList) (who : Owner) (i : ℕ) (ns : List Name) → with_labels names who i ns ≡ with_entries names (label_entries who i ns)
labels_entered names who i [] = refl
labels_entered names who i (n ∷ ns) = labels_entered (with_name names n (m.Label who i)) who (i + 1) ns

-- one more type or variable

pub types_step : (names : NameList) {new all : NameList} {ts more : List TypeDef} (k : ℕ) (t : TypeDef) → ts ≡ t ∷ more → new ≡ with_entries names (entries_of_type k t)
    → with_entries names (type_entries k ts) ≡ all → with_entries new (type_entries (k + 1) more) ≡ all
types_step names {more = more} k t next added h =
    ap (λ ns. with_entries ns (type_entries (k + 1) more)) added ∙ sym (entries_append names (entries_of_type k t) (type_entries (k + 1) more))
    ∙ sym (ap (λ ts. with_entries names (type_entries k ts)) next) ∙ h

pub variables_step : (names : NameList) {new all : NameList} {xs more : List Variable} (v : ℕ) (x : Variable) → xs ≡ x ∷ more → new ≡ with_entries names (entries_of_variable v x)
    → with_entries names (variable_entries v xs) ≡ all → with_entries new (variable_entries (v + 1) more) ≡ all
variables_step names {more = more} v x next added h =
    ap (λ ns. with_entries ns (variable_entries (v + 1) more)) added ∙ sym (entries_append names (entries_of_variable v x) (variable_entries (v + 1) more))
    ∙ sym (ap (λ xs. with_entries names (variable_entries v xs)) next) ∙ h

pub tested_behind : {X : Type 0} (test : X → Bool) (x : X) {all more : List X} → all ≡ x ∷ more → IsTrue (list_all test all) → IsTrue (list_all test more)
tested_behind test x {more = more} e h = (and_parts (test x) (list_all test more) (subst (λ xs. list_all test xs ≡ true) e h)).1
