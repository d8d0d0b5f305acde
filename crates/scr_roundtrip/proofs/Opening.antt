-- The lines that declare resolve: from nothing to all names of the specification.
use Rattle.std.proofs.Common.{◌≡◌, ℕ, zero, suc, ◌+◌, ◌<◌, true, ◌&&◌, List, [], ◌∷◌, ◌++◌, length, map, Option, Some, None, refl, inl, inr, sym, ap, ap₂, subst, ◌∙◌, append_assoc, arith, append-nil}
use Rattle.std.specs.Prelude.{nat_lt, slice_get, slice_index_or}
use Rattle.std.specs.Option.{option_map_or}
use Rattle.std.specs.Str.{bytes_eq}
use Rattle.std.specs.List.{list_all, flat_map}
use Rattle.scr_spec.specs.Data.{Data}
use Rattle.scr_spec.specs.declared.cond.Owner.TheVariants as owner
use Rattle.scr_spec.specs.declared.spec.TypeDef.{TypeDef}
use Rattle.scr_spec.specs.Distinct.{are_distinct}
use Rattle.scr_spec.specs.NameSpace.{type_names, constant_names, variable_names, declared_names}
use Rattle.scr_spec.specs.Initial.{is_init_there, is_init_sound, is_kind_of_role}
use Rattle.scr_spec.specs.Types.{is_kind_sound, is_bound_sound, shape_labels}
use Rattle.scr_spec.specs.Sound.{IsSound}
use Rattle.scr_spec.proofs.Kept.{rules_kept}
use Rattle.scr_parse.specs.declared.draft.Statement.{Statement}
use Rattle.scr_parse.specs.declared.draft.Statement.TheVariants as st
use Rattle.scr_scope.specs.declared.known.Known.{Known}
use Rattle.scr_scope.specs.declared.meaning.Meaning.TheVariants as m
use Rattle.scr_scope.specs.Names.{NameList, meaning_of}
use Rattle.scr_scope.specs.Meanings.{nothing}
use Rattle.scr_resolve.specs.Lines.{after}
use Rattle.scr_scope.specs.Entries.{label_entries, type_entries, constant_entries, entries_of}
use Rattle.scr_printer.specs.Names.{type_name}
use Rattle.scr_roundtrip.proofs.Drafts.{draft_type, draft_constant, draft_variables}
use Rattle.scr_roundtrip.proofs.Good.{all_both}
use Rattle.scr_roundtrip.proofs.Resolved.{state}
use Rattle.scr_roundtrip.proofs.Named.{Has, has_left, has_right, has_meaning, names_in, names_append, types_named, constants_named, type_label_has, found, more_one, no_more, zero_more}
use Rattle.scr_roundtrip.proofs.Declared.{Runs, step, runs_join, no_fault, with_types, types_run, constants_run}
use Rattle.scr_roundtrip.proofs.Variables.{AreSettled}
use Rattle.scr_roundtrip.proofs.Classes.{distinct_left, is_variable_kept, variables_run}

-- ---- types and constants settle the names of types and enumerators

type_has : (k : ℕ) (ts : List TypeDef) (j : ℕ) (t : TypeDef) → slice_get ts j ≡ Some t → Has (type_entries k ts) t.name (m.Type (k + j))
type_has k [] j t h = absurd (cc)
type_has k (y ∷ ts) zero t h = let same : y ≡ t = cc in inl (ap (λ (t : TypeDef). t.name) same, ap m.Type (no_more k))
type_has k (y ∷ ts) (suc j) t h =
    inr (has_right (label_entries (owner.Named k) 0 (shape_labels y.shape)) (type_entries (k + 1) ts) t.name (m.Type (k + suc j))
    (subst (λ n. Has (type_entries (k + 1) ts) t.name (m.Type n)) (more_one k j) (type_has (k + 1) ts j t h)))

-- the types and the constants
abbrev fixed_entries : Data → NameList
fixed_entries spec = type_entries 0 spec.types ++ constant_entries 0 spec.constants

fixed_named : (spec : Data) → names_in (fixed_entries spec) ≡ flat_map type_names spec.types ++ flat_map constant_names spec.constants
fixed_named spec = names_append (type_entries 0 spec.types) (constant_entries 0 spec.constants) ∙ ap₂ (λ a b. a ++ b) (types_named 0 spec.types) (constants_named 0 spec.constants)

fixed_once : (spec : Data) → are_distinct bytes_eq (declared_names spec) ≡ true → are_distinct bytes_eq (names_in (fixed_entries spec)) ≡ true
fixed_once spec once =
    ap (are_distinct bytes_eq) (fixed_named spec) ∙ distinct_left (flat_map type_names spec.types ++ flat_map constant_names spec.constants) (flat_map variable_names spec.variables) once

settled_type : (spec : Data) → are_distinct bytes_eq (declared_names spec) ≡ true → (j : ℕ) → nat_lt j (length spec.types) ≡ true → meaning_of (fixed_entries spec) (type_name spec j) ≡ Some (m.Type j)
settled_type spec once j h =
    let got = found spec.types j h in
    ap (λ o. meaning_of (fixed_entries spec) (option_map_or (λ (t : TypeDef). t.name) o [])) (got.1)
    ∙ has_meaning (fixed_entries spec) (got.0).name (m.Type (0 + j)) (fixed_once spec once)
    (has_left (type_entries 0 spec.types) (constant_entries 0 spec.constants) (got.0).name (m.Type (0 + j)) (type_has 0 spec.types j (got.0) (got.1)))
    ∙ ap (λ j. Some (m.Type j)) (zero_more j)

settled_label : (spec : Data) → are_distinct bytes_eq (declared_names spec) ≡ true → (j n : ℕ) (o : Option TypeDef) → slice_get spec.types j ≡ o
    → n < length (option_map_or (λ (t : TypeDef). shape_labels t.shape) o [])
    → meaning_of (fixed_entries spec) (slice_index_or (option_map_or (λ (t : TypeDef). shape_labels t.shape) o []) n []) ≡ Some (m.Label (owner.Named j) n)
settled_label spec once j n None e h = absurd (omega arith)
settled_label spec once j n (Some t) e h =
    has_meaning (fixed_entries spec) (slice_index_or (shape_labels t.shape) n []) (m.Label (owner.Named (0 + j)) n) (fixed_once spec once)
    (has_left (type_entries 0 spec.types) (constant_entries 0 spec.constants) (slice_index_or (shape_labels t.shape) n []) (m.Label (owner.Named (0 + j)) n)
    (type_label_has 0 spec.types j t n e h))
    ∙ ap (λ j. Some (m.Label (owner.Named j) n)) (zero_more j)

settled : (spec : Data) → are_distinct bytes_eq (declared_names spec) ≡ true → AreSettled spec (fixed_entries spec)
settled spec once = record {
  types = λ j h. settled_type spec once j h;
  labels = λ j n h. settled_label spec once j n (slice_get spec.types j) refl h;
}

-- ---- the rules of variables

variables_kept : (spec : Data) → IsSound spec → list_all (is_variable_kept spec.types) spec.variables ≡ true
variables_kept spec sound =
    let rules = rules_kept spec sound in
    all_both (λ x. (is_kind_sound spec.types x.kind && is_kind_of_role x.role x.kind) && (is_init_there x && is_init_sound spec.types x)) (is_bound_sound spec.types) spec.variables
    (all_both (λ x. is_kind_sound spec.types x.kind && is_kind_of_role x.role x.kind) (λ x. is_init_there x && is_init_sound spec.types x) spec.variables
    (all_both (λ x. is_kind_sound spec.types x.kind) (λ x. is_kind_of_role x.role x.kind) spec.variables sound.kinds rules.declared.roles)
    (all_both is_init_there (is_init_sound spec.types) spec.variables rules.declared.initial rules.declared.initial_within))
    sound.bounds

-- ---- all declarations

title_first : (spec : Data) (rest : List Statement) (last : Known) → Runs (with_types spec.name [] []) rest last → Runs nothing (st.Specification spec.name ∷ rest) last
unfolding after
title_first spec rest last more = step (no_fault nothing (st.Specification spec.name) refl refl refl refl refl refl refl) more

pub declarations : (spec : Data) → IsSound spec → (rest : List Statement) (last : Known) → Runs (state spec (entries_of spec) [] None) rest last
    → Runs nothing (st.Specification spec.name ∷ (map draft_type spec.types ++ (map draft_constant spec.constants ++ (flat_map (draft_variables spec) spec.variables ++ rest)))) last
declarations spec sound rest last more =
    let once = (rules_kept spec sound).named.once in
    let types = flat_map type_names spec.types in
    let constants = flat_map constant_names spec.constants in
    let variables = flat_map variable_names spec.variables in
    let for_types : are_distinct bytes_eq (types ++ (constants ++ variables)) ≡ true = ap (are_distinct bytes_eq) (sym (append_assoc types constants variables)) ∙ once in
    let for_constants : are_distinct bytes_eq (names_in (type_entries 0 spec.types) ++ (constants ++ variables)) ≡ true = ap (λ ns. are_distinct bytes_eq (ns ++ (constants ++ variables))) (types_named 0 spec.types) ∙ for_types in
    let for_variables : are_distinct bytes_eq (names_in (fixed_entries spec) ++ (variables ++ [])) ≡ true =
    ap₂ (λ a b. are_distinct bytes_eq (a ++ b)) (fixed_named spec) (append-nil variables) ∙ once in
    title_first spec _ last
    (runs_join (types_run spec.name [] [] spec.types (constants ++ variables) sound.types for_types)
    (runs_join (constants_run spec.name (type_entries 0 spec.types) spec.types [] spec.constants variables for_constants)
    (runs_join (variables_run spec (fixed_entries spec) (settled spec once) [] spec.variables [] (variables_kept spec sound) for_variables) more)))
