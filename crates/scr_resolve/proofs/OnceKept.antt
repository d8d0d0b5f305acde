-- Each name is declared once.
use Rattle.std.proofs.Common.{◌≡◌, ℕ, zero, suc, ◌+◌, ◌≤◌, ℤ, Bool, true, false, not, ◌||◌, List, [], ◌∷◌, ◌++◌, Option, Some, None, is_some, refl, sym, ap, ◌∙◌, zero-add, arith}
use Rattle.std.specs.Prelude.{if◌then◌else◌, slice_get, slice_set}
use Rattle.std.specs.Option.{option_map_or}
use Rattle.std.specs.List.{list_any, flat_map}
use Rattle.std.specs.Str.{bytes_eq}
use Rattle.std.proofs.lemmas.List.Folds.{list_any-append}
use Rattle.scr_spec.specs.declared.cond.Owner.{Owner}
use Rattle.scr_spec.specs.declared.cond.Owner.TheVariants as owner
use Rattle.scr_spec.specs.declared.spec.TypeDef.{TypeDef}
use Rattle.scr_spec.specs.declared.spec.Constant.{Constant}
use Rattle.scr_spec.specs.declared.spec.Variable.{Variable}
use Rattle.scr_spec.specs.NameSpace.{type_names, constant_names, variable_names, declared_names}
use Rattle.scr_spec.specs.Distinct.{are_distinct}
use Rattle.scr_spec.proofs.Passing.{and_true}
use Rattle.scr_parse.specs.declared.draft.Statement.TheVariants as s
use Rattle.scr_scope.specs.declared.known.Known.{Known}
use Rattle.scr_scope.specs.declared.meaning.Meaning.{Meaning}
use Rattle.scr_scope.specs.declared.meaning.Meaning.TheVariants as m
use Rattle.scr_scope.specs.Names.{Name, NameList, meaning_of, is_known, with_name}
use Rattle.scr_scope.specs.First.{first_again}
use Rattle.scr_scope.specs.Meanings.{seen, variable_named}
use Rattle.scr_scope.specs.Declarations.{with_labels, bounded, with_bound_at}
use Rattle.scr_resolve.specs.Lines.{after}
use Rattle.scr_resolve.proofs.Carried.{Step}
use Rattle.scr_resolve.proofs.Truths.{or_none, or_assoc}
use Rattle.scr_resolve.proofs.NamesAt.{same_bytes, bytes_same}
use Rattle.scr_resolve.proofs.NamesKept.{plain_modes}

-- ---- how often a name stands in a list

abbrev bit : Bool → ℕ
bit true = 1
bit false = 0

abbrev times : Name → List Name → ℕ
times n [] = 0
times n (m ∷ ms) = bit (bytes_eq n m) + times n ms

clash : {b : Bool} → b ≡ true → b ≡ false → ⊥
clash h k = let g : true ≡ false = sym h ∙ k in cc

not_again : (a b : Bool) (n : Name) (rest : Option Name) → (if (a || b) then Some n else rest) ≡ None → (a ≡ false) × (b ≡ false) × (rest ≡ None)
not_again true b n rest e = absurd (cc)
not_again false true n rest e = absurd (cc)
not_again false false n rest e = (refl, refl, e)

last_any : (a b : Bool) → b ≡ true → (a || (b || false)) ≡ true
last_any true b e = refl
last_any false b e = ap (λ x. x || false) e

-- ---- names of one line

one_more_name : (names : NameList) (before : List Name) (n : Name) (ns : List Name) (q : Name) (b : Bool) → bytes_eq q n ≡ b → is_known names n ≡ false → list_any (bytes_eq n) before ≡ false
    → (is_known names q ≡ true → times q ns ≡ 0) → (list_any (bytes_eq q) (before ++ n ∷ []) ≡ true → times q ns ≡ 0) → times q ns ≡ bit (list_any (bytes_eq q) ns)
    → (is_known names q ≡ true → times q (n ∷ ns) ≡ 0) × (list_any (bytes_eq q) before ≡ true → times q (n ∷ ns) ≡ 0) × (times q (n ∷ ns) ≡ bit (list_any (bytes_eq q) (n ∷ ns)))
one_more_name names before n ns q true e k l f g t =
    let same = same_bytes q n e in
    let none : times q ns ≡ 0 = g (list_any-append (bytes_eq q) before (n ∷ []) ∙ last_any _ _ e) in (
      λ h. absurd (clash h (ap (is_known names) same ∙ k)),
      λ h. absurd (clash h (ap (λ x. list_any (bytes_eq x) before) same ∙ l)),
      ap (λ b. bit b + times q ns) e ∙ ap (λ z. 1 + z) none ∙ sym (ap (λ b. bit (b || list_any (bytes_eq q) ns)) e),
    )
one_more_name names before n ns q false e k l f g t = (
  λ h. ap (λ b. bit b + times q ns) e ∙ ap (λ z. 0 + z) (f h),
  λ h. ap (λ b. bit b + times q ns) e ∙ ap (λ z. 0 + z) (g (list_any-append (bytes_eq q) before (n ∷ []) ∙ ap (λ a. a || (bytes_eq q n || false)) h)),
  ap (λ b. bit b + times q ns) e ∙ zero-add (times q ns) ∙ t ∙ sym (ap (λ b. bit (b || list_any (bytes_eq q) ns)) e),
)

fresh : (names : NameList) (before ns : List Name) → first_again names before ns ≡ None → (q : Name)
    → (is_known names q ≡ true → times q ns ≡ 0) × (list_any (bytes_eq q) before ≡ true → times q ns ≡ 0) × (times q ns ≡ bit (list_any (bytes_eq q) ns))
fresh names before [] e q = (λ h. refl, λ h. refl, refl)
fresh names before (n ∷ ns) e q =
    let p = not_again (is_known names n) (list_any (bytes_eq n) before) n (first_again names (before ++ n ∷ []) ns) e in
    let r = fresh names (before ++ n ∷ []) ns p.2 q in
    one_more_name names before n ns q (bytes_eq q n) refl p.0 p.1 r.0 r.1 r.2

-- ---- names after one line

known_push : (names : NameList) (n : Name) (x : Meaning) (q : Name) → is_known (names ++ (n, x) ∷ []) q ≡ (is_known names q || bytes_eq q n)
known_push [] n x q = elim (bytes_eq q n) as (λ b. is_some (if b then Some x else None) ≡ b) [ true ↦ refl | false ↦ refl ]
known_push (e ∷ es) n x q =
    let rest = known_push es n x q in
    elim (bytes_eq q e.0) as (λ b. is_some (if b then Some e.1 else meaning_of (es ++ (n, x) ∷ []) q) ≡ (is_some (if b then Some e.1 else meaning_of es q) || bytes_eq q n)) [ true ↦ refl | false ↦ rest ]

stays : (a b : Bool) → (b ≡ true → a ≡ true) → a ≡ (a || b)
stays true b f = refl
stays false true f = f refl
stays false false f = refl

known_named : (names : NameList) (n : Name) (x : Meaning) (q : Name) → is_known (with_name names n x) q ≡ (is_known names q || bytes_eq q n)
known_named names n x q = by (is_known names n) refl
  where
    by : (b : Bool) → is_known names n ≡ b → is_known (if is_known names n then names else names ++ (n, x) ∷ []) q ≡ (is_known names q || bytes_eq q n)
    by true e = ap (λ b. is_known (if b then names else names ++ (n, x) ∷ []) q) e ∙ stays (is_known names q) (bytes_eq q n) (λ h. ap (is_known names) (same_bytes q n h) ∙ e)
    by false e = ap (λ b. is_known (if b then names else names ++ (n, x) ∷ []) q) e ∙ known_push names n x q

known_labelled : (names : NameList) (o : Owner) (i : ℕ) (ns : List Name) (q : Name) → is_known (with_labels names o i ns) q ≡ (is_known names q || list_any (bytes_eq q) ns)
known_labelled names o i [] q = or_none (is_known names q)
known_labelled names o i (n ∷ ns) q =
    known_labelled (with_name names n (m.Label o i)) o (i + 1) ns q ∙ ap (λ b. b || list_any (bytes_eq q) ns) (known_named names n (m.Label o i) q) ∙ or_assoc (is_known names q) (bytes_eq q n) (list_any (bytes_eq q) ns)

count_by_known : (k any : Bool) (t u : ℕ) → t ≡ bit k → (k ≡ true → u ≡ 0) → u ≡ bit any → t + u ≡ bit (k || any)
count_by_known true any t u e f g = ap (λ z. z + u) e ∙ ap (λ z. 1 + z) (f refl)
count_by_known false any t u e f g = ap (λ z. z + u) e ∙ zero-add u ∙ g

-- what a line declares is counted once
declared_once : (names : NameList) (n : Name) (x : Meaning) (o : Owner) (ls : List Name) → first_again names [] (n ∷ ls) ≡ None → (q : Name) (t : ℕ) → t ≡ bit (is_known names q)
    → t + times q (n ∷ ls) ≡ bit (is_known (with_labels (with_name names n x) o 0 ls) q)
declared_once names n x o ls e q t h =
    let f = fresh names [] (n ∷ ls) e q in
    count_by_known (is_known names q) (list_any (bytes_eq q) (n ∷ ls)) t (times q (n ∷ ls)) h f.0 f.2
    ∙ sym (ap bit (known_labelled (with_name names n x) o 0 ls q ∙ ap (λ b. b || list_any (bytes_eq q) ls) (known_named names n x q) ∙ or_assoc (is_known names q) (bytes_eq q n) (list_any (bytes_eq q) ls)))

-- ---- counts that grow

times-append : (q : Name) (xs ys : List Name) → times q (xs ++ ys) ≡ times q xs + times q ys
times-append q [] ys = sym (zero-add (times q ys))
times-append q (x ∷ xs) ys = let r = times-append q xs ys in omega arith

names_push : {X : Type 0} (f : X → List Name) (xs : List X) (x : X) (q : Name) → times q (flat_map f (xs ++ x ∷ [])) ≡ times q (flat_map f xs) + times q (f x)
names_push f [] x q = let r = times-append q (f x) [] in omega arith
names_push f (y ∷ xs) x q =
    let r = names_push f xs x q in
    let a = times-append q (f y) (flat_map f (xs ++ x ∷ [])) in
    let b = times-append q (f y) (flat_map f xs) in
    omega arith

more_first : (a b c a' u v : ℕ) → a' ≡ a + u → (a + (b + c)) + u ≡ v → a' + (b + c) ≡ v
more_first a b c a' u v e h = omega arith

more_second : (a b c b' u v : ℕ) → b' ≡ b + u → (a + (b + c)) + u ≡ v → a + (b' + c) ≡ v
more_second a b c b' u v e h = omega arith

more_third : (a b c c' u v : ℕ) → c' ≡ c + u → (a + (b + c)) + u ≡ v → a + (b + c') ≡ v
more_third a b c c' u v e h = omega arith

-- how often the name is declared
abbrev count_of : List TypeDef → List Constant → List Variable → Name → ℕ
count_of types constants variables n = times n (flat_map type_names types) + (times n (flat_map constant_names constants) + times n (flat_map variable_names variables))

-- once where it is known, and else never
abbrev pub AreCounted : Known → Type 0
AreCounted known = (q : Name) → count_of known.types known.constants known.variables q ≡ bit (is_known known.names q)

-- a bound leaves the names as they are
set_flat : (xs : List Variable) (v : ℕ) (x : Variable) (step : ℤ) → slice_get xs v ≡ Some x → flat_map variable_names (slice_set xs v (bounded step x)) ≡ flat_map variable_names xs
set_flat [] v x step e = refl
set_flat (y ∷ xs) zero x step e = sym (ap (λ o. option_map_or variable_names o [] ++ flat_map variable_names xs) e)
set_flat (y ∷ xs) (suc v) x step e = ap (λ l. variable_names y ++ l) (set_flat xs v x step e)

bound_by : (known : Known) (step : ℤ) (v : ℕ) (o : Option Variable) → slice_get known.variables v ≡ o
    → flat_map variable_names (option_map_or (λ x. slice_set known.variables v (bounded step x)) o known.variables) ≡ flat_map variable_names known.variables
bound_by known step v None e = refl
bound_by known step v (Some x) e = set_flat known.variables v x step e

bound_counted : (known : Known) (step : ℤ) (o : Option ℕ) → AreCounted known → AreCounted (option_map_or (with_bound_at known step) o known)
bound_counted known step None h q = h q
bound_counted known step (Some v) h q =
    ap (λ l. times q (flat_map type_names known.types) + (times q (flat_map constant_names known.constants) + times q l)) (bound_by known step v (slice_get known.variables v) refl) ∙ h q

pub counted_kept : Step (λ place counts known. AreCounted known)
unfolding after
counted_kept place next counts known (s.Specification n) t h q = h q
counted_kept place next counts known (s.Range n lo hi) t h q = more_first _ _ _ _ _ _ (names_push type_names known.types _ q) (declared_once known.names n _ (owner.Named 0) [] t.passes.duplicate q _ (h q))
counted_kept place next counts known (s.Labels n labels) t h q = more_first _ _ _ _ _ _ (names_push type_names known.types _ q) (declared_once known.names n _ _ labels t.passes.duplicate q _ (h q))
counted_kept place next counts known (s.Constant n v) t h q = more_second _ _ _ _ _ _ (names_push constant_names known.constants _ q) (declared_once known.names n _ (owner.Named 0) [] t.passes.duplicate q _ (h q))
counted_kept place next counts known (s.Variable r n k init) t h q =
    more_third _ _ _ _ _ _ (names_push variable_names known.variables _ q ∙ ap (λ l. times q (flat_map variable_names known.variables) + times q (n ∷ l)) (plain_modes known k))
    (declared_once known.names n _ (owner.Named 0) [] t.passes.duplicate q _ (h q))
counted_kept place next counts known (s.Class n modes init) t h q = more_third _ _ _ _ _ _ (names_push variable_names known.variables _ q) (declared_once known.names n _ _ modes t.passes.duplicate q _ (h q))
counted_kept place next counts known (s.Head heading n class) t h q = h q
counted_kept place next counts known (s.Nat n step) t h q = bound_counted known step (variable_named known n) h q
counted_kept place next counts known (s.Row modes cells) t h q = h q
counted_kept place next counts known (s.Values sides) t h q = h q
counted_kept place next counts known (s.Transition source target e) t h q = h q
counted_kept place next counts known s.End t h q = h q
counted_kept place next counts known s.Finish t h q = h q

-- ---- no name twice

bit_small : (b : Bool) → bit b ≤ 1
bit_small true = omega arith
bit_small false = omega arith

none_any : (n : Name) (ns : List Name) → times n ns ≡ 0 → list_any (bytes_eq n) ns ≡ false
none_any n [] h = refl
none_any n (m ∷ ms) h = by (bytes_eq n m) refl h (λ g. none_any n ms g)
  where
    by : (b : Bool) → bytes_eq n m ≡ b → bit (bytes_eq n m) + times n ms ≡ 0 → (times n ms ≡ 0 → list_any (bytes_eq n) ms ≡ false) → list_any (bytes_eq n) (m ∷ ms) ≡ false
    by true e g rest = let one : bit (bytes_eq n m) ≡ 1 = ap bit e in absurd (omega arith)
    by false e g rest = let none : bit (bytes_eq n m) ≡ 0 = ap bit e in ap (λ b. b || list_any (bytes_eq n) ms) e ∙ rest (omega arith)

distinct_from : (ns : List Name) → ((q : Name) → times q ns ≤ 1) → are_distinct bytes_eq ns ≡ true
distinct_from [] h = refl
distinct_from (n ∷ ns) h =
    let once = h n in
    let one : bit (bytes_eq n n) ≡ 1 = ap bit (bytes_same n n refl) in
    let none : times n ns ≡ 0 = omega arith in
    and_true (not (list_any (bytes_eq n) ns)) (are_distinct bytes_eq ns) (ap not (none_any n ns none)) (distinct_from ns (λ q. let g = h q in omega arith))

pub once_from : (known : Known) → AreCounted known → are_distinct bytes_eq (declared_names (seen known)) ≡ true
once_from known h =
    distinct_from (declared_names (seen known)) (λ q.
    let e = h q in
    let b = bit_small (is_known known.names q) in
    let i = times-append q (flat_map type_names known.types ++ flat_map constant_names known.constants) (flat_map variable_names known.variables) in
    let j = times-append q (flat_map type_names known.types) (flat_map constant_names known.constants) in
    omega arith)
