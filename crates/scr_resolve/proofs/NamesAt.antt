-- Each declared label stands at its place in its list.
use Rattle.std.proofs.Common.{◌≡◌, ℕ, zero, suc, ◌+◌, ℤ, Bool, true, false, if◌then◌else◌, List, [], ◌∷◌, ◌++◌, length, Option, Some, None, refl, sym, ap, ◌∙◌, arith}
use Rattle.std.specs.Prelude.{slice_get}
use Rattle.std.specs.Option.{option_map_or}
use Rattle.std.specs.List.{list_all}
use Rattle.std.specs.Str.{bytes_eq}
use Rattle.std.proofs.lemmas.Bool.{and_parts}
use Rattle.std.proofs.lemmas.List.Folds.{list_all-append}
use Rattle.std.proofs.lemmas.Slice.Eq.{bytes_eq-Decides}
use Rattle.scr_spec.specs.Data.{Data}
use Rattle.scr_spec.specs.declared.cond.Owner.{Owner}
use Rattle.scr_spec.specs.declared.cond.Owner.TheVariants as owner
use Rattle.scr_spec.specs.declared.spec.TypeDef.{TypeDef}
use Rattle.scr_spec.specs.declared.spec.Variable.{Variable}
use Rattle.scr_spec.specs.Types.{shape_labels, kind_modes}
use Rattle.scr_spec.specs.Over.{labels_of}
use Rattle.scr_spec.proofs.Passing.{and_true, all_imply}
use Rattle.scr_parse.specs.declared.draft.Statement.{Statement}
use Rattle.scr_parse.specs.declared.draft.Statement.TheVariants as s
use Rattle.scr_scope.specs.declared.meaning.Meaning.{Meaning}
use Rattle.scr_scope.specs.declared.meaning.Meaning.TheVariants as m
use Rattle.scr_scope.specs.declared.known.Known.{Known}
use Rattle.scr_scope.specs.Names.{Name, NameList, meaning_of, is_known, with_name}
use Rattle.scr_scope.specs.Meanings.{seen, nothing, meant, variable_named}
use Rattle.scr_scope.specs.Declarations.{with_labels, with_bound_at, with_declaration}
use Rattle.scr_scope.proofs.ThereAfter.{list_at, last_list, same_lists}
use Rattle.scr_resolve.specs.Lines.{after}
use Rattle.scr_resolve.proofs.Carried.{Step}

-- the name is the one at this place
abbrev pub is_at_place : Name → List Name → ℕ → Bool
is_at_place n names place = option_map_or (bytes_eq n) (slice_get names place) false

-- a label is the one at its place
abbrev pub is_at : Data → Name → Meaning → Bool
is_at spec n (m.Type k) = true
is_at spec n (m.Constant k) = true
is_at spec n (m.Label o place) = is_at_place n (labels_of spec o) place
is_at spec n (m.Variable v) = true

abbrev pub are_at : Data → NameList → Bool
are_at spec names = list_all (λ e. is_at spec e.0 e.1) names

abbrev pub NamesAt : Known → Type 0
NamesAt known = are_at (seen known) known.names ≡ true

-- ---- names that are bytes alike

pub same_bytes : (a b : Name) → bytes_eq a b ≡ true → a ≡ b
same_bytes a b e = (bytes_eq-Decides a b).0 e

pub bytes_same : (a b : Name) → a ≡ b → bytes_eq a b ≡ true
bytes_same a b e = (bytes_eq-Decides a b).1 e

-- ---- what a name stands for

found_at : (spec : Data) (names : NameList) (n : Name) → are_at spec names ≡ true → option_map_or (is_at spec n) (meaning_of names n) true ≡ true
found_at spec [] n h = refl
found_at spec (e ∷ es) n h =
    let p = and_parts (is_at spec e.0 e.1) (are_at spec es) h in
    by (bytes_eq n e.0) refl p.0 (found_at spec es n p.1)
  where
    by : (b : Bool) → bytes_eq n e.0 ≡ b → is_at spec e.0 e.1 ≡ true → option_map_or (is_at spec n) (meaning_of es n) true ≡ true
        → option_map_or (is_at spec n) (if b then Some e.1 else meaning_of es n) true ≡ true
    by true f first rest = ap (λ name. is_at spec name e.1) (same_bytes n e.0 f) ∙ first
    by false f first rest = rest

pub meant_at : (known : Known) → NamesAt known → (n : Name) → option_map_or (is_at (seen known) n) (meant known n) true ≡ true
meant_at known h n = found_at (seen known) known.names n h

-- ---- lists that grow at their end

at_kept : {X : Type 0} (labels : X → List Name) (xs : List X) (x : X) (k j : ℕ) (n : Name) → is_at_place n (list_at labels xs k) j ≡ true → is_at_place n (list_at labels (xs ++ x ∷ []) k) j ≡ true
at_kept labels [] x k j n h = absurd (cc)
at_kept labels (y ∷ ys) x zero j n h = h
at_kept labels (y ∷ ys) x (suc k) j n h = at_kept labels ys x k j n h

-- what stood at a place stands there
abbrev Stays : Data → Data → Type 0
Stays old new = (o : Owner) (j : ℕ) (n : Name) → is_at_place n (labels_of old o) j ≡ true → is_at_place n (labels_of new o) j ≡ true

still_at : (old new : Data) → Stays old new → (n : Name) (meaning : Meaning) → is_at old n meaning ≡ true → is_at new n meaning ≡ true
still_at old new g n (m.Type k) h = refl
still_at old new g n (m.Constant k) h = refl
still_at old new g n (m.Label o place) h = g o place n h
still_at old new g n (m.Variable v) h = refl

stay : (old new : Data) → Stays old new → (names : NameList) → are_at old names ≡ true → are_at new names ≡ true
stay old new g names h = all_imply (λ (e : Name × Meaning). is_at old e.0 e.1) (λ (e : Name × Meaning). is_at new e.0 e.1) (λ e k. still_at old new g e.0 e.1 k) names h

type_stays : (spec : Data) (t : TypeDef) → Stays spec (record spec { types = spec.types ++ t ∷ [] })
type_stays spec t (owner.Named k) j n h = at_kept (λ (x : TypeDef). shape_labels x.shape) spec.types t k j n h
type_stays spec t (owner.Class v) j n h = h

variable_stays : (spec : Data) (x : Variable) → Stays spec (record spec { variables = spec.variables ++ x ∷ [] })
variable_stays spec x (owner.Named k) j n h = h
variable_stays spec x (owner.Class v) j n h = at_kept (λ (y : Variable). kind_modes y.kind) spec.variables x v j n h

bound_stays : (known : Known) (step : ℤ) (v : ℕ) → Stays (seen known) (seen (with_bound_at known step v))
bound_stays known step v (owner.Named k) j n h = h
bound_stays known step v (owner.Class w) j n h =
    ap (λ list. is_at_place n list j) (same_lists known.variables v w step (slice_get known.variables v) refl) ∙ h

-- ---- names that are added

name_at : (spec : Data) (names : NameList) (n : Name) (meaning : Meaning) → are_at spec names ≡ true → is_at spec n meaning ≡ true → are_at spec (with_name names n meaning) ≡ true
name_at spec names n meaning h k = by (is_known names n)
  where
    by : (b : Bool) → are_at spec (if b then names else names ++ (n, meaning) ∷ []) ≡ true
    by true = h
    by false = list_all-append (λ (e : Name × Meaning). is_at spec e.0 e.1) names ((n, meaning) ∷ []) ∙ and_true _ _ h (and_true _ _ k refl)

labels_at : (spec : Data) (o : Owner) (names : NameList) (i : ℕ) (ns : List Name) → are_at spec names ≡ true
    → ((j : ℕ) → slice_get (labels_of spec o) (i + j) ≡ slice_get ns j) → are_at spec (with_labels names o i ns) ≡ true
labels_at spec o names i [] h k = h
labels_at spec o names i (n ∷ ns) h k =
    let here : i + 0 ≡ i = omega arith in
    let first : slice_get (labels_of spec o) i ≡ Some n = sym (ap (slice_get (labels_of spec o)) here) ∙ k 0 in
    labels_at spec o (with_name names n (m.Label o i)) (i + 1) ns
    (name_at spec names n (m.Label o i) h (ap (λ found. option_map_or (bytes_eq n) found false) first ∙ bytes_same n n refl))
    (λ j. let next : i + 1 + j ≡ i + suc j = omega arith in ap (slice_get (labels_of spec o)) next ∙ k (suc j))

list_stands : (spec : Data) (o : Owner) (names : NameList) (ns : List Name) → labels_of spec o ≡ ns → are_at spec names ≡ true → are_at spec (with_labels names o 0 ns) ≡ true
list_stands spec o names ns e h =
    labels_at spec o names 0 ns h (λ j. let from : 0 + j ≡ j = omega arith in ap (slice_get (labels_of spec o)) from ∙ ap (λ list. slice_get list j) e)

bound_at : (known : Known) (step : ℤ) (o : Option ℕ) → NamesAt known → NamesAt (option_map_or (with_bound_at known step) o known)
bound_at known step None h = h
bound_at known step (Some v) h = stay (seen known) (seen (with_bound_at known step v)) (bound_stays known step v) known.names h

-- ---- a line

pub nothing_at : NamesAt nothing
nothing_at = refl

pub declared_at : (known : Known) (line : Statement) → NamesAt known → NamesAt (with_declaration known line)
declared_at known (s.Specification n) h = h
declared_at known (s.Range n lo hi) h =
    let new = seen (with_declaration known (s.Range n lo hi)) in
    name_at new known.names n (m.Type (length known.types)) (stay (seen known) new (type_stays (seen known) _) known.names h) refl
declared_at known (s.Labels n labels) h =
    let new = seen (with_declaration known (s.Labels n labels)) in
    list_stands new (owner.Named (length known.types)) _ labels (last_list (λ (x : TypeDef). shape_labels x.shape) known.types _)
    (name_at new known.names n (m.Type (length known.types)) (stay (seen known) new (type_stays (seen known) _) known.names h) refl)
declared_at known (s.Constant n number) h =
    let new = seen (with_declaration known (s.Constant n number)) in
    name_at new known.names n (m.Constant (length known.constants)) h refl
declared_at known (s.Variable role n kind init) h =
    let new = seen (with_declaration known (s.Variable role n kind init)) in
    name_at new known.names n (m.Variable (length known.variables)) (stay (seen known) new (variable_stays (seen known) _) known.names h) refl
declared_at known (s.Class n modes init) h =
    let new = seen (with_declaration known (s.Class n modes init)) in
    list_stands new (owner.Class (length known.variables)) _ modes (last_list (λ (y : Variable). kind_modes y.kind) known.variables _)
    (name_at new known.names n (m.Variable (length known.variables)) (stay (seen known) new (variable_stays (seen known) _) known.names h) refl)
declared_at known (s.Nat n step) h = bound_at known step (variable_named known n) h
declared_at known (s.Head heading n class) h = h
declared_at known (s.Row modes cells) h = h
declared_at known (s.Values sides) h = h
declared_at known (s.Transition source target event) h = h
declared_at known s.End h = h
declared_at known s.Finish h = h

pub at_after : Step (λ place counts known. NamesAt known)
unfolding after
at_after place next counts known (s.Specification n) t h = declared_at known (s.Specification n) h
at_after place next counts known (s.Range n lo hi) t h = declared_at known (s.Range n lo hi) h
at_after place next counts known (s.Labels n labels) t h = declared_at known (s.Labels n labels) h
at_after place next counts known (s.Constant n number) t h = declared_at known (s.Constant n number) h
at_after place next counts known (s.Variable role n kind init) t h = declared_at known (s.Variable role n kind init) h
at_after place next counts known (s.Class n modes init) t h = declared_at known (s.Class n modes init) h
at_after place next counts known (s.Nat n step) t h = declared_at known (s.Nat n step) h
at_after place next counts known (s.Head heading n class) t h = h
at_after place next counts known (s.Row modes cells) t h = h
at_after place next counts known (s.Values sides) t h = h
at_after place next counts known (s.Transition source target event) t h = h
at_after place next counts known s.End t h = h
at_after place next counts known s.Finish t h = h
