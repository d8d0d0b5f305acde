-- After a line that declares, what the declared names stand for is there.
use Rattle.std.proofs.Common.{◌≡◌, ℕ, zero, suc, ◌≤◌, ◌+◌, ◌<◌, ℤ, pos, Bool, true, false, if◌then◌else◌, List, [], ◌∷◌, ◌++◌, length, Option, Some, None, refl, sym, ap, ◌∙◌, arith}
use Rattle.std.specs.Prelude.{nat_lt, int_le, int_lt, slice_get, slice_set}
use Rattle.std.specs.Option.{option_map_or}
use Rattle.std.proofs.lemmas.Bool.{and_parts, le-leb, ltb-true, lt-ltb}
use Rattle.std.proofs.lemmas.List.{length-append}
use Rattle.std.proofs.lemmas.List.Folds.{list_all-append}
use Rattle.scr_spec.specs.Data.{Data}
use Rattle.scr_spec.specs.declared.cond.Owner.{Owner}
use Rattle.scr_spec.specs.declared.cond.Owner.TheVariants as owner
use Rattle.scr_spec.specs.declared.spec.TypeDef.{TypeDef}
use Rattle.scr_spec.specs.declared.spec.Constant.{Constant}
use Rattle.scr_spec.specs.declared.spec.Variable.{Variable}
use Rattle.scr_spec.specs.Types.{shape_labels, kind_modes}
use Rattle.scr_spec.specs.Over.{labels_of, is_place}
use Rattle.scr_spec.proofs.Passing.{and_true, all_imply}
use Rattle.scr_parse.specs.declared.draft.Statement.{Statement}
use Rattle.scr_parse.specs.declared.draft.Statement.TheVariants as s
use Rattle.scr_scope.specs.declared.meaning.Meaning.{Meaning}
use Rattle.scr_scope.specs.declared.meaning.Meaning.TheVariants as m
use Rattle.scr_scope.specs.declared.known.Known.{Known}
use Rattle.scr_scope.specs.Names.{Name, NameList, is_known, with_name}
use Rattle.scr_scope.specs.Meanings.{seen, variable_named}
use Rattle.scr_scope.specs.Declarations.{with_labels, bounded, with_bound_at, with_declaration}
use Rattle.scr_scope.proofs.There.{is_there, are_there, NamesThere}

-- ---- places

pub place_below : (names : List Name) (j : ℕ) → j < length names → is_place names (pos j) ≡ true
place_below names j h = let low : 0 ≤ j = omega arith in and_true _ _ (le-leb 0 j low) (lt-ltb j (length names) h)

-- no list has no place
pub no_place : {A : Type 0} (j : ℕ) → is_place [] (pos j) ≡ true → A
no_place j h = let l = ltb-true j 0 ((and_parts (int_le (pos 0) (pos j)) (int_lt (pos j) (pos 0)) h).1) in absurd (omega arith)

-- ---- lists that grow at their end

pub longer : {X : Type 0} (xs : List X) (x : X) (k : ℕ) → nat_lt k (length xs) ≡ true → nat_lt k (length (xs ++ x ∷ [])) ≡ true
longer xs x k h = let n = length-append xs (x ∷ []) in let l = ltb-true k (length xs) h in lt-ltb k (length (xs ++ x ∷ [])) (omega arith)

pub last_there : {X : Type 0} (xs : List X) (x : X) → nat_lt (length xs) (length (xs ++ x ∷ [])) ≡ true
last_there xs x = let n = length-append xs (x ∷ []) in lt-ltb (length xs) (length (xs ++ x ∷ [])) (omega arith)

-- the list that the k-th gives
abbrev pub list_at : {X : Type 0} → (X → List Name) → List X → ℕ → List Name
list_at labels xs k = option_map_or labels (slice_get xs k) []

place_kept : {X : Type 0} (labels : X → List Name) (xs : List X) (x : X) (k j : ℕ) → is_place (list_at labels xs k) (pos j) ≡ true → is_place (list_at labels (xs ++ x ∷ []) k) (pos j) ≡ true
place_kept labels [] x k j h = no_place j h
place_kept labels (y ∷ ys) x zero j h = h
place_kept labels (y ∷ ys) x (suc k) j h = place_kept labels ys x k j h

pub last_list : {X : Type 0} (labels : X → List Name) (xs : List X) (x : X) → list_at labels (xs ++ x ∷ []) (length xs) ≡ labels x
last_list labels [] x = refl
last_list labels (y ∷ ys) x = last_list labels ys x

-- ---- the parts grow

-- what was there is there
record Grows (old new : Data) : Type 0 where
  types : (k : ℕ) → nat_lt k (length old.types) ≡ true → nat_lt k (length new.types) ≡ true
  constants : (k : ℕ) → nat_lt k (length old.constants) ≡ true → nat_lt k (length new.constants) ≡ true
  variables : (v : ℕ) → nat_lt v (length old.variables) ≡ true → nat_lt v (length new.variables) ≡ true
  labels : (o : Owner) (j : ℕ) → is_place (labels_of old o) (pos j) ≡ true → is_place (labels_of new o) (pos j) ≡ true

still_there : (old new : Data) → Grows old new → (meaning : Meaning) → is_there old meaning ≡ true → is_there new meaning ≡ true
still_there old new g (m.Type k) h = g.types k h
still_there old new g (m.Constant k) h = g.constants k h
still_there old new g (m.Label o place) h = g.labels o place h
still_there old new g (m.Variable v) h = g.variables v h

grown : (old new : Data) → Grows old new → (names : NameList) → are_there old names ≡ true → are_there new names ≡ true
grown old new g names h = all_imply (λ (e : Name × Meaning). is_there old e.1) (λ (e : Name × Meaning). is_there new e.1) (λ e k. still_there old new g (e.1) k) names h

with_type : (spec : Data) (t : TypeDef) → Grows spec (record spec { types = spec.types ++ t ∷ [] })
with_type spec t = record {
  types = longer spec.types t;
  constants = λ k h. h;
  variables = λ v h. h;
  labels = by;
}
  where
    by : (o : Owner) (j : ℕ) → is_place (labels_of spec o) (pos j) ≡ true → is_place (labels_of (record spec { types = spec.types ++ t ∷ [] }) o) (pos j) ≡ true
    by (owner.Named k) j h = place_kept (λ (x : TypeDef). shape_labels x.shape) spec.types t k j h
    by (owner.Class v) j h = h

with_variable_more : (spec : Data) (x : Variable) → Grows spec (record spec { variables = spec.variables ++ x ∷ [] })
with_variable_more spec x = record {
  types = λ k h. h;
  constants = λ k h. h;
  variables = longer spec.variables x;
  labels = by;
}
  where
    by : (o : Owner) (j : ℕ) → is_place (labels_of spec o) (pos j) ≡ true → is_place (labels_of (record spec { variables = spec.variables ++ x ∷ [] }) o) (pos j) ≡ true
    by (owner.Named k) j h = h
    by (owner.Class v) j h = place_kept (λ (y : Variable). kind_modes y.kind) spec.variables x v j h

-- ---- names

-- one more name
pub name_there : (spec : Data) (names : NameList) (n : Name) (meaning : Meaning) → are_there spec names ≡ true → is_there spec meaning ≡ true → are_there spec (with_name names n meaning) ≡ true
name_there spec names n meaning h k = by (is_known names n)
  where
    by : (b : Bool) → are_there spec (if b then names else names ++ (n, meaning) ∷ []) ≡ true
    by true = h
    by false = list_all-append (λ (e : Name × Meaning). is_there spec e.1) names ((n, meaning) ∷ []) ∙ and_true _ _ h (and_true _ _ k refl)

-- the names of a list, from a place on
labels_there : (spec : Data) (o : Owner) (names : NameList) (i : ℕ) (ns : List Name) → are_there spec names ≡ true → ((j : ℕ) → j < i + length ns → is_place (labels_of spec o) (pos j) ≡ true)
    → are_there spec (with_labels names o i ns) ≡ true
labels_there spec o names i [] h k = h
labels_there spec o names i (n ∷ ns) h k =
    labels_there spec o (with_name names n (m.Label o i)) (i + 1) ns (name_there spec names n (m.Label o i) h (k i (omega arith))) (λ j l. k j (omega arith))

-- the names of the last list
list_there : (spec : Data) (o : Owner) (names : NameList) (ns : List Name) → labels_of spec o ≡ ns → are_there spec names ≡ true → are_there spec (with_labels names o 0 ns) ≡ true
list_there spec o names ns e h = labels_there spec o names 0 ns h (λ j l. ap (λ list. is_place list (pos j)) e ∙ place_below ns j (omega arith))

-- ---- a bound changes no list

pub same_length : {X : Type 0} (xs : List X) (v : ℕ) (x : X) → length (slice_set xs v x) ≡ length xs
same_length [] v x = refl
same_length (y ∷ ys) zero x = refl
same_length (y ∷ ys) (suc v) x = ap suc (same_length ys v x)

pub same_lists : (xs : List Variable) (v w : ℕ) (step : ℤ) (o : Option Variable) → slice_get xs v ≡ o
    → list_at (λ (y : Variable). kind_modes y.kind) (option_map_or (λ x. slice_set xs v (bounded step x)) o xs) w ≡ list_at (λ (y : Variable). kind_modes y.kind) xs w
same_lists xs v w step None e = refl
same_lists xs v w step (Some x) e = by xs v w e
  where
    by : (ys : List Variable) (u t : ℕ) → slice_get ys u ≡ Some x → list_at (λ (y : Variable). kind_modes y.kind) (slice_set ys u (bounded step x)) t ≡ list_at (λ (y : Variable). kind_modes y.kind) ys t
    by [] u t f = refl
    by (y ∷ ys) zero zero f = ap (λ (p : Option Variable). option_map_or (λ (z : Variable). kind_modes z.kind) p []) (sym f)
    by (y ∷ ys) zero (suc t) f = refl
    by (y ∷ ys) (suc u) zero f = refl
    by (y ∷ ys) (suc u) (suc t) f = by ys u t f

bound_length : (xs : List Variable) (v : ℕ) (step : ℤ) (o : Option Variable) → length (option_map_or (λ x. slice_set xs v (bounded step x)) o xs) ≡ length xs
bound_length xs v step None = refl
bound_length xs v step (Some x) = same_length xs v (bounded step x)

bound_grows : (known : Known) (step : ℤ) (v : ℕ) → Grows (seen known) (seen (with_bound_at known step v))
bound_grows known step v = record {
  types = λ k h. h;
  constants = λ k h. h;
  variables = λ w h. ap (nat_lt w) (bound_length known.variables v step (slice_get known.variables v)) ∙ h;
  labels = by;
}
  where
    by : (o : Owner) (j : ℕ) → is_place (labels_of (seen known) o) (pos j) ≡ true → is_place (labels_of (seen (with_bound_at known step v)) o) (pos j) ≡ true
    by (owner.Named k) j h = h
    by (owner.Class w) j h = ap (λ list. is_place list (pos j)) (same_lists known.variables v w step (slice_get known.variables v) refl) ∙ h

bound_there : (known : Known) (step : ℤ) (o : Option ℕ) → NamesThere known → NamesThere (option_map_or (with_bound_at known step) o known)
bound_there known step None h = h
bound_there known step (Some v) h = grown (seen known) (seen (with_bound_at known step v)) (bound_grows known step v) known.names h

-- ---- a line

constant_more : (spec : Data) → (c : Constant) → Grows spec (record spec { constants = spec.constants ++ c ∷ [] })
constant_more spec c = record { types = λ k h. h; constants = longer spec.constants c; variables = λ v h. h; labels = λ o j h. h }

pub declared_there : (known : Known) (line : Statement) → NamesThere known → NamesThere (with_declaration known line)
declared_there known (s.Specification n) h = h
declared_there known (s.Range n lo hi) h =
    let new = seen (with_declaration known (s.Range n lo hi)) in
    name_there new known.names n (m.Type (length known.types)) (grown (seen known) new (with_type (seen known) _) known.names h) (last_there known.types _)
declared_there known (s.Labels n labels) h =
    let new = seen (with_declaration known (s.Labels n labels)) in
    list_there new (owner.Named (length known.types)) _ labels (last_list (λ (x : TypeDef). shape_labels x.shape) known.types _)
    (name_there new known.names n (m.Type (length known.types)) (grown (seen known) new (with_type (seen known) _) known.names h) (last_there known.types _))
declared_there known (s.Constant n number) h =
    let new = seen (with_declaration known (s.Constant n number)) in
    name_there new known.names n (m.Constant (length known.constants)) (grown (seen known) new (constant_more (seen known) _) known.names h) (last_there known.constants _)
declared_there known (s.Variable role n kind init) h =
    let new = seen (with_declaration known (s.Variable role n kind init)) in
    name_there new known.names n (m.Variable (length known.variables)) (grown (seen known) new (with_variable_more (seen known) _) known.names h) (last_there known.variables _)
declared_there known (s.Class n modes init) h =
    let new = seen (with_declaration known (s.Class n modes init)) in
    list_there new (owner.Class (length known.variables)) _ modes (last_list (λ (y : Variable). kind_modes y.kind) known.variables _)
    (name_there new known.names n (m.Variable (length known.variables)) (grown (seen known) new (with_variable_more (seen known) _) known.names h) (last_there known.variables _))
declared_there known (s.Nat n step) h = bound_there known step (variable_named known n) h
declared_there known (s.Head heading n class) h = h
declared_there known (s.Row modes cells) h = h
declared_there known (s.Values sides) h = h
declared_there known (s.Transition source target event) h = h
declared_there known s.End h = h
declared_there known s.Finish h = h
