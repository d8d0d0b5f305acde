-- Each declared name is a name of a text, and so is that of the specification.
use Rattle.std.proofs.Common.{◌≡◌, ℕ, ℤ, Bool, true, false, ◌&&◌, List, [], ◌∷◌, ◌++◌, Option, Some, None, refl, sym, ap, ◌∙◌, inl, inr, ◌⊎◌}
use Rattle.std.specs.Prelude.{slice_get, slice_set}
use Rattle.std.specs.Option.{option_map_or}
use Rattle.std.specs.List.{list_all, flat_map}
use Rattle.std.proofs.lemmas.Bool.{and_parts}
use Rattle.std.proofs.lemmas.List.Folds.{list_all-append}
use Rattle.scr_spec.specs.declared.spec.Kind.TheVariants as kind
use Rattle.scr_spec.specs.declared.spec.TypeDef.{TypeDef}
use Rattle.scr_spec.specs.declared.spec.Constant.{Constant}
use Rattle.scr_spec.specs.declared.spec.Variable.{Variable}
use Rattle.scr_spec.specs.Types.{kind_modes}
use Rattle.scr_spec.specs.NameSpace.{is_name, type_names, constant_names, variable_names, declared_names}
use Rattle.scr_spec.proofs.Passing.{and_true}
use Rattle.scr_parse.specs.declared.draft.DraftKind.{DraftKind}
use Rattle.scr_parse.specs.declared.draft.DraftKind.TheVariants as drawn
use Rattle.scr_parse.specs.declared.draft.Statement.{Statement}
use Rattle.scr_parse.specs.declared.draft.Statement.TheVariants as s
use Rattle.scr_parse.specs.declared.place.Place.{Place}
use Rattle.scr_parse.specs.declared.place.Counts.{Counts}
use Rattle.scr_parse.specs.declared.place.Place.TheVariants as p
use Rattle.scr_parse.specs.Readable.{are_some, is_kind_spelt, is_init_spelt, place_after}
use Rattle.scr_scope.proofs.KeptForms.{some_all}
use Rattle.scr_scope.specs.declared.known.Known.{Known}
use Rattle.scr_scope.specs.Meanings.{seen, type_named, variable_named}
use Rattle.scr_scope.specs.Declarations.{kind_of, bounded, with_bound_at}
use Rattle.scr_resolve.specs.Lines.{after}
use Rattle.scr_resolve.proofs.Carried.{IsLine, Step}
use Rattle.scr_resolve.proofs.Grown.{push_all, set_all, all_at}

-- ---- the name of the specification

-- the first line gives it
abbrev is_title : Statement → Bool
is_title (s.Specification n) = true
is_title (s.Range n lo hi) = false
is_title (s.Labels n labels) = false
is_title (s.Constant n v) = false
is_title (s.Variable r n kind init) = false
is_title (s.Class n modes init) = false
is_title (s.Head heading n class) = false
is_title (s.Nat n step) = false
is_title (s.Row modes cells) = false
is_title (s.Values sides) = false
is_title (s.Transition source target e) = false
is_title s.End = false
is_title s.Finish = false

first_line : (next : Place) (line : Statement) → place_after p.Start line ≡ Some next → is_title line ≡ true
first_line next (s.Specification n) h = refl
first_line next (s.Range n lo hi) h = absurd (cc)
first_line next (s.Labels n labels) h = absurd (cc)
first_line next (s.Constant n v) h = absurd (cc)
first_line next (s.Variable r n kind init) h = absurd (cc)
first_line next (s.Class n modes init) h = absurd (cc)
first_line next (s.Head heading n class) h = absurd (cc)
first_line next (s.Nat n step) h = absurd (cc)
first_line next (s.Row modes cells) h = absurd (cc)
first_line next (s.Values sides) h = absurd (cc)
first_line next (s.Transition source target e) h = absurd (cc)
first_line next s.End h = absurd (cc)
first_line next s.Finish h = absurd (cc)

abbrev pub IsTitled : Place → Known → Type 0
IsTitled place known = (place ≡ p.Start) ⊎ (is_name known.title ≡ true)

-- a line that gives no title keeps it
keeps_title : (place next : Place) (counts : Counts) (known : Known) (line : Statement) → is_title line ≡ false → IsLine place next counts known line → (after known line).title ≡ known.title → IsTitled place known → IsTitled next (after known line)
keeps_title place next counts known line h t e (inl g) = absurd (let i : is_title line ≡ true = first_line next line (sym (ap (λ q. place_after q line) g) ∙ t.placed) in let j : true ≡ false = sym i ∙ h in cc)
keeps_title place next counts known line h t e (inr g) = inr (ap is_name e ∙ g)

bound_title : (known : Known) (step : ℤ) (o : Option ℕ) → (option_map_or (with_bound_at known step) o known).title ≡ known.title
bound_title known step None = refl
bound_title known step (Some v) = refl

pub title_kept : Step (λ place counts known. IsTitled place known)
unfolding after
title_kept place next counts known (s.Specification n) t h = inr t.spelt
title_kept place next counts known (s.Range n lo hi) t h = keeps_title place next counts known (s.Range n lo hi) refl t refl h
title_kept place next counts known (s.Labels n labels) t h = keeps_title place next counts known (s.Labels n labels) refl t refl h
title_kept place next counts known (s.Constant n v) t h = keeps_title place next counts known (s.Constant n v) refl t refl h
title_kept place next counts known (s.Variable r n kind init) t h = keeps_title place next counts known (s.Variable r n kind init) refl t refl h
title_kept place next counts known (s.Class n modes init) t h = keeps_title place next counts known (s.Class n modes init) refl t refl h
title_kept place next counts known (s.Head heading n class) t h = keeps_title place next counts known (s.Head heading n class) refl t refl h
title_kept place next counts known (s.Nat n step) t h = keeps_title place next counts known (s.Nat n step) refl t (bound_title known step (variable_named known n)) h
title_kept place next counts known (s.Row modes cells) t h = keeps_title place next counts known (s.Row modes cells) refl t refl h
title_kept place next counts known (s.Values sides) t h = keeps_title place next counts known (s.Values sides) refl t refl h
title_kept place next counts known (s.Transition source target e) t h = keeps_title place next counts known (s.Transition source target e) refl t refl h
title_kept place next counts known s.End t h = keeps_title place next counts known s.End refl t refl h
title_kept place next counts known s.Finish t h = keeps_title place next counts known s.Finish refl t refl h

-- ---- declared names

abbrev is_type_named : TypeDef → Bool
is_type_named t = list_all is_name (type_names t)

abbrev is_constant_named : Constant → Bool
is_constant_named c = list_all is_name (constant_names c)

abbrev is_variable_named : Variable → Bool
is_variable_named x = list_all is_name (variable_names x)

pub record AreNamed (known : Known) : Type 0 where
  pub types : list_all is_type_named known.types ≡ true
  pub constants : list_all is_constant_named known.constants ≡ true
  pub variables : list_all is_variable_named known.variables ≡ true

-- a variable that is no class has no modes
pub plain_modes : (known : Known) (k : DraftKind) → kind_modes (kind_of known k) ≡ []
plain_modes known drawn.Boolean = refl
plain_modes known (drawn.Named n) = by (type_named known n)
  where
    by : (o : Option ℕ) → kind_modes (option_map_or kind.Named o kind.Boolean) ≡ []
    by None = refl
    by (Some k) = refl

bound_by : (known : Known) (step : ℤ) (v : ℕ) (o : Option Variable) → slice_get known.variables v ≡ o → list_all is_variable_named known.variables ≡ true
    → list_all is_variable_named (option_map_or (λ x. slice_set known.variables v (bounded step x)) o known.variables) ≡ true
bound_by known step v None e h = h
bound_by known step v (Some x) e h = set_all is_variable_named known.variables v (bounded step x) h (all_at is_variable_named known.variables v x h e)

bound_named : (known : Known) (step : ℤ) (o : Option ℕ) → AreNamed known → AreNamed (option_map_or (with_bound_at known step) o known)
bound_named known step None h = h
bound_named known step (Some v) h = record { types = h.types; constants = h.constants; variables = bound_by known step v (slice_get known.variables v) refl h.variables }

pub named_kept : Step (λ place counts known. AreNamed known)
unfolding after
named_kept place next counts known (s.Specification n) t h = record { types = h.types; constants = h.constants; variables = h.variables }
named_kept place next counts known (s.Range n lo hi) t h =
    let a = and_parts (is_name n && _) _ t.spelt in
    record { types = push_all is_type_named known.types _ h.types (and_true _ _ ((and_parts (is_name n) _ (a.0)).0) refl); constants = h.constants; variables = h.variables }
named_kept place next counts known (s.Labels n labels) t h =
    let a = and_parts (is_name n) (are_some is_name labels) t.spelt in
    record { types = push_all is_type_named known.types _ h.types (and_true _ _ (a.0) (some_all is_name labels (a.1))); constants = h.constants; variables = h.variables }
named_kept place next counts known (s.Constant n v) t h =
    record { types = h.types; constants = push_all is_constant_named known.constants _ h.constants (and_true _ _ ((and_parts (is_name n) _ t.spelt).0) refl); variables = h.variables }
named_kept place next counts known (s.Variable r n kind init) t h =
    let a = and_parts (is_name n && is_kind_spelt kind) (is_init_spelt r init) t.spelt in
    record {
      types = h.types;
      constants = h.constants;
      variables = push_all is_variable_named known.variables _ h.variables (and_true _ _ ((and_parts (is_name n) (is_kind_spelt kind) (a.0)).0) (ap (list_all is_name) (plain_modes known kind)));
    }
named_kept place next counts known (s.Class n modes init) t h =
    let a = and_parts (is_name n && are_some is_name modes) (is_name init) t.spelt in
    let b = and_parts (is_name n) (are_some is_name modes) (a.0) in
    record { types = h.types; constants = h.constants; variables = push_all is_variable_named known.variables _ h.variables (and_true _ _ (b.0) (some_all is_name modes (b.1))) }
named_kept place next counts known (s.Head heading n class) t h = record { types = h.types; constants = h.constants; variables = h.variables }
named_kept place next counts known (s.Nat n step) t h = bound_named known step (variable_named known n) h
named_kept place next counts known (s.Row modes cells) t h = record { types = h.types; constants = h.constants; variables = h.variables }
named_kept place next counts known (s.Values sides) t h = record { types = h.types; constants = h.constants; variables = h.variables }
named_kept place next counts known (s.Transition source target e) t h = record { types = h.types; constants = h.constants; variables = h.variables }
named_kept place next counts known s.End t h = record { types = h.types; constants = h.constants; variables = h.variables }
named_kept place next counts known s.Finish t h = h

all_flat : {X Y : Type 0} (q : Y → Bool) (f : X → List Y) (xs : List X) → list_all (λ x. list_all q (f x)) xs ≡ true → list_all q (flat_map f xs) ≡ true
all_flat q f [] h = refl
all_flat q f (x ∷ xs) h =
    let a = and_parts (list_all q (f x)) (list_all (λ x. list_all q (f x)) xs) h in
    list_all-append q (f x) (flat_map f xs) ∙ and_true _ _ (a.0) (all_flat q f xs (a.1))

pub names_are : (known : Known) → AreNamed known → list_all is_name (declared_names (seen known)) ≡ true
names_are known h =
    list_all-append is_name (flat_map type_names known.types ++ flat_map constant_names known.constants) (flat_map variable_names known.variables)
    ∙ and_true _ _
    (list_all-append is_name (flat_map type_names known.types) (flat_map constant_names known.constants)
    ∙ and_true _ _ (all_flat is_name type_names known.types h.types) (all_flat is_name constant_names known.constants h.constants))
    (all_flat is_name variable_names known.variables h.variables)
