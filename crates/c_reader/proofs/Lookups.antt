-- Sets and maps by the bytes of names are seen as lists of names.
use Rattle.std.proofs.Common.{◌≡◌, ℕ, Bool, true, false, cond, not, ◌&&◌, ◌||◌, List, [], ◌∷◌, ◌++◌, map, Option, Some, None, is_some, refl, ap, sym, ◌∙◌}
use Rattle.std.specs.Prelude.{find}
use Rattle.std.specs.List.{list_any}
use Rattle.std.specs.Option.{option_map, option_map_or}
use Rattle.std.specs.Str.{bytes_eq}
use Rattle.std.specs.Map.{lookup}
use Rattle.std.specs.declared.vec.Vec.{Vec}
use Rattle.std.specs.declared.alloc.Global.{Global}
use Rattle.std.proofs.lemmas.Bool.{and_parts, or_parts, not-true, false_from_ne_true}
use Rattle.std.proofs.lemmas.List.{map-append}
use Rattle.std.proofs.lemmas.List.Folds.{list_any-append}
use Rattle.std.proofs.lemmas.Slice.Eq.{bytes_eq-Decides}
use Rattle.indexmap.specs.IndexMap.{insert_entry}
use Rattle.indexmap.specs.IndexSet.{insert_key}
use Rattle.c_subset.specs.declared.unit.CItem.{CItem}
use Rattle.c_subset.specs.declared.unit.CItem.TheVariants.{Function}
use Rattle.c_subset.specs.declared.unit.CFunction.{CFunction}
use Rattle.c_subset.specs.Names.{is_among, is_c_name}
use Rattle.c_subset.specs.Scope.{Known, Scope, known, is_item_name, is_taken}
use Rattle.c_subset.specs.Rules.{is_new, is_parameter, is_body, is_within_limits, is_function, is_item}
use Rattle.c_reader.specs.declared.declared.Signature.{Signature}
use Rattle.c_reader.specs.Kept.{name_of, known_by, signature_of, known_named}

abbrev pub Key : Type 0
Key = Vec ℕ Global

abbrev pub Entry : Type 0
Entry = Key × Signature

abbrev pub same_key : Key → Key → Bool
same_key a b = bytes_eq a.items b.items

eq_turned : (a b : List ℕ) → bytes_eq a b ≡ bytes_eq b a
eq_turned a b = by (bytes_eq a b) refl
  where
    by : (x : Bool) → bytes_eq a b ≡ x → bytes_eq a b ≡ bytes_eq b a
    by true p = p ∙ sym ((bytes_eq-Decides b a).1 (sym ((bytes_eq-Decides a b).0 p)))
    by false p =
        p ∙ sym (false_from_ne_true (bytes_eq b a) (λ q. let r : bytes_eq a b ≡ true = (bytes_eq-Decides a b).1 (sym ((bytes_eq-Decides b a).0 q)) in let wrong : true ≡ false = sym r ∙ p in cc))

-- ---- sets

pub contained : (ks : List Key) (q : List ℕ) → list_any (λ (k : Key). bytes_eq q k.items) ks ≡ is_among (map name_of ks) q
contained [] q = refl
contained (k ∷ ks) q = ap (λ b. bytes_eq q k.items || b) (contained ks q)

pub key_added : (ks ns : List Key) (k : Key) (n : List ℕ) → k.items ≡ n → is_among (map name_of ks) n ≡ false → ns ≡ insert_key same_key ks k
    → map name_of ns ≡ map name_of ks ++ n ∷ []
key_added ks ns k n e h f =
    let fresh : list_any (λ (x : Key). bytes_eq k.items x.items) ks ≡ false = contained ks k.items ∙ ap (is_among (map name_of ks)) e ∙ h in
    ap (map name_of) (f ∙ ap (λ b. cond b ks (ks ++ k ∷ [])) fresh) ∙ map-append name_of ks (k ∷ []) ∙ ap (λ m. map name_of ks ++ m ∷ []) e

or_false : (b : Bool) → (b || (false || false)) ≡ b
or_false true = refl
or_false false = refl

-- a name that is there already is found as before
again : (ns : List (List ℕ)) (n m : List ℕ) → is_among ns n ≡ true → is_among ns m ≡ is_among (ns ++ n ∷ []) m
again ns n m h = by (bytes_eq m n) refl ∙ sym (list_any-append (bytes_eq m) ns (n ∷ []))
  where
    by : (x : Bool) → bytes_eq m n ≡ x → is_among ns m ≡ (is_among ns m || (bytes_eq m n || false))
    by true p =
        let same : m ≡ n = (bytes_eq-Decides m n).0 p in
        let there : is_among ns m ≡ true = ap (is_among ns) same ∙ h in rw there refl
    by false p = sym (ap (λ b. is_among ns m || (b || false)) p ∙ or_false (is_among ns m))

pub name_added : (ks ns : List Key) (k : Key) (n : List ℕ) → k.items ≡ n → ns ≡ insert_key same_key ks k → (m : List ℕ)
    → is_among (map name_of ns) m ≡ is_among (map name_of ks ++ n ∷ []) m
name_added ks ns k n e f m = by (is_among (map name_of ks) n) refl
  where
    by : (x : Bool) → is_among (map name_of ks) n ≡ x → is_among (map name_of ns) m ≡ is_among (map name_of ks ++ n ∷ []) m
    by false p = ap (λ ns. is_among ns m) (key_added ks ns k n e p f)
    by true p =
        let there : list_any (λ (x : Key). bytes_eq k.items x.items) ks ≡ true = contained ks k.items ∙ ap (is_among (map name_of ks)) e ∙ p in
        ap (λ xs. is_among (map name_of xs) m) (f ∙ ap (λ b. cond b ks (ks ++ k ∷ [])) there) ∙ again (map name_of ks) n m p

-- ---- maps

pub found : (es : List Entry) (q : List ℕ) → lookup (λ (k : Key). bytes_eq q k.items) es ≡ option_map signature_of (find (λ (f : Known). bytes_eq f.name q) (map known_by es))
found [] q = refl
found (e ∷ es) q = by (found es q) (bytes_eq q e.0.items) refl
  where
    by : lookup (λ (k : Key). bytes_eq q k.items) es ≡ option_map signature_of (find (λ (f : Known). bytes_eq f.name q) (map known_by es)) → (b : Bool) → bytes_eq q e.0.items ≡ b → lookup (λ (k : Key). bytes_eq q k.items) (e ∷ es) ≡ option_map signature_of (find (λ (f : Known). bytes_eq f.name q) (map known_by (e ∷ es)))
    by rest true p = let t = sym (eq_turned q e.0.items) ∙ p in rw (p, t) refl
    by rest false p = let t = sym (eq_turned q e.0.items) ∙ p in rw (p, t) rest

-- the entries after a new name
added : (es : List Entry) (k : Key) (s : Signature) → is_some (lookup (λ (x : Key). bytes_eq k.items x.items) es) ≡ false
    → insert_entry same_key es k s ≡ es ++ (k, s) ∷ []
added [] k s h = refl
added (e ∷ es) k s h = by (λ g. added es k s g) (bytes_eq k.items e.0.items) refl
  where
    by : (is_some (lookup (λ (x : Key). bytes_eq k.items x.items) es) ≡ false → insert_entry same_key es k s ≡ es ++ (k, s) ∷ [])
        → (b : Bool) → bytes_eq k.items e.0.items ≡ b → insert_entry same_key (e ∷ es) k s ≡ e ∷ (es ++ (k, s) ∷ [])
    by rest true p = let no : true ≡ false = sym (ap (λ b. is_some (cond b (Some e.1) (lookup (λ (x : Key). bytes_eq k.items x.items) es))) p) ∙ h in absurd (cc)
    by rest false p =
        let h' : is_some (lookup (λ (x : Key). bytes_eq k.items x.items) es) ≡ false = sym (ap (λ b. is_some (cond b (Some e.1) (lookup (λ (x : Key). bytes_eq k.items x.items) es))) p) ∙ h in
        ap (λ b. cond b ((e.0, s) ∷ es) (e ∷ insert_entry same_key es k s)) p ∙ ap (λ l. e ∷ l) (rest h')

pub entry_added : (es fs : List Entry) (k : Key) (n : List ℕ) (s : Signature) → k.items ≡ n → find (λ (f : Known). bytes_eq f.name n) (map known_by es) ≡ None
    → fs ≡ insert_entry same_key es k s → map known_by fs ≡ map known_by es ++ known_named n s ∷ []
entry_added es fs k n s e h f =
    let none : lookup (λ (x : Key). bytes_eq k.items x.items) es ≡ None =
    found es k.items ∙ ap (λ q. option_map signature_of (find (λ (g : Known). bytes_eq g.name q) (map known_by es))) e ∙ ap (option_map signature_of) h in
    ap (map known_by) (f ∙ added es k s (ap is_some none)) ∙ map-append known_by es ((k, s) ∷ []) ∙ ap (λ m. map known_by es ++ known_named m s ∷ []) e

-- a function is known where its name is one of theirs
pub named : (fs : List Known) (n : List ℕ) → is_some (find (λ (f : Known). bytes_eq f.name n) fs) ≡ is_among (map (λ (f : Known). f.name) fs) n
named [] n = refl
named (f ∷ fs) n = by (named fs n) (bytes_eq n f.name) refl
  where
    by : is_some (find (λ (g : Known). bytes_eq g.name n) fs) ≡ is_among (map (λ (g : Known). g.name) fs) n → (b : Bool) → bytes_eq n f.name ≡ b → is_some (find (λ (g : Known). bytes_eq g.name n) (f ∷ fs)) ≡ is_among (map (λ (g : Known). g.name) (f ∷ fs)) n
    by rest true p = let t = sym (eq_turned n f.name) ∙ p in rw (p, t) refl
    by rest false p = let t = sym (eq_turned n f.name) ∙ p in rw (p, t) rest

is_some_mapped : {X Y : Type 0} (f : X → Y) (x : Option X) → is_some (option_map f x) ≡ is_some x
is_some_mapped f None = refl
is_some_mapped f (Some x) = refl

-- a name that is no object's is a function's or none
pub item_name : (scope : Scope) (n : List ℕ) {b : Bool} → is_among scope.objects n ≡ false → b ≡ is_some (option_map signature_of (known scope n)) → b ≡ is_item_name scope n
item_name scope n h e =
    e ∙ is_some_mapped signature_of (known scope n) ∙ named scope.functions n ∙ sym (ap (λ b. b || is_among (map (λ (f : Known). f.name) scope.functions) n) h)
    ∙ sym (list_any-append (bytes_eq n) scope.objects (map (λ (f : Known). f.name) scope.functions))

none_there : {X : Type 0} (x : Option X) → is_some x ≡ false → x ≡ None
none_there None h = refl
none_there (Some x) h = absurd (cc)

-- a new function has a name that no function has
pub new_function : (scope : Scope) (item : CItem) (f : CFunction) → is_item scope item ≡ true → item ≡ Function f → known scope f.name ≡ None
new_function scope item f h e =
    let right : is_function scope f ≡ true = ap (is_item scope) (sym e) ∙ h in
    let first = and_parts (is_new scope f.name && option_map_or (is_parameter scope f.name) f.parameter true && is_body scope f.parameter f.body) (is_within_limits scope f) right in
    let second = and_parts (is_new scope f.name && option_map_or (is_parameter scope f.name) f.parameter true) (is_body scope f.parameter f.body) first.0 in
    let third = and_parts (is_new scope f.name) (option_map_or (is_parameter scope f.name) f.parameter true) second.0 in
    let fourth = and_parts (is_c_name f.name) (not (is_taken scope f.name)) third.0 in
    let free = or_parts (is_among (scope.objects ++ map (λ (g : Known). g.name) scope.functions) f.name) (is_among scope.parameters f.name)
    (sym (list_any-append (bytes_eq f.name) (scope.objects ++ map (λ (g : Known). g.name) scope.functions) scope.parameters) ∙ not-true (is_taken scope f.name) fourth.1) in
    let other = or_parts (is_among scope.objects f.name) (is_among (map (λ (g : Known). g.name) scope.functions) f.name)
    (sym (list_any-append (bytes_eq f.name) scope.objects (map (λ (g : Known). g.name) scope.functions)) ∙ free.0) in
    none_there (known scope f.name) (named scope.functions f.name ∙ other.1)
