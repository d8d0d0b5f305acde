-- A map by the codes of states is seen as a tree.
use Rattle.std.proofs.Common.{◌≡◌, ℕ, zero, suc, ◌<◌, ℤ, Bool, true, false, cond, ◌||◌, List, [], ◌∷◌, ◌++◌, length, refl, ap, sym, subst, ◌∙◌, arith}
use Rattle.std.specs.Prelude.{Some, is_some, slice_get}
use Rattle.std.specs.Option.{option_map}
use Rattle.std.specs.Map.{lookup}
use Rattle.std.specs.Ordering.{int_eq}
use Rattle.std.specs.declared.vec.Vec.{Vec}
use Rattle.std.specs.declared.alloc.Global.{Global}
use Rattle.std.proofs.lemmas.Bool.{and_parts, and_from, or_right, both_ways, false≢true}
use Rattle.std.proofs.lemmas.Bool.Decides.{Decides-int_eq}
use Rattle.std.proofs.lemmas.Option.{slice_get-map, get_or_from_slice_get}
use lib.Pointwise.{pointwise}
use Rattle.indexmap.specs.IndexMap.{insert_entry}
use Rattle.scr_spec.specs.Meaning.{Codes}
use Rattle.run_reach.specs.declared.tree.Link.{Link}
use Rattle.run_reach.specs.Trees.{Tree, Entry, node_of, nodes_of, node_at, codes_at, no_link, has_codes, IsStored}

abbrev same : Codes → Codes → Bool
same a b = pointwise int_eq a b

-- ---- equal codes

pub codes_one : (a b : Codes) → pointwise int_eq a b ≡ true → a ≡ b
codes_one [] [] h = refl
codes_one [] (y ∷ b) h = absurd (false≢true h)
codes_one (x ∷ a) [] h = absurd (false≢true h)
codes_one (x ∷ a) (y ∷ b) h =
    let p = and_parts (int_eq x y) (pointwise int_eq a b) h in
    let e : x ≡ y = (Decides-int_eq x y).0 p.0 in
    ap (λ (z : ℤ). z ∷ a) e ∙ ap (λ (zs : Codes). y ∷ zs) (codes_one a b p.1)

pub codes_same : (a : Codes) → pointwise int_eq a a ≡ true
codes_same [] = refl
codes_same (x ∷ a) = and_from (int_eq x x) (pointwise int_eq a a) ((Decides-int_eq x x).1 refl) (codes_same a)

-- ---- the test whether a state is there

pub stored_has : (tree : Tree) (codes : Codes) (n : ℕ) → n < length tree → codes_at tree n ≡ codes → has_codes tree codes ≡ true
stored_has [] codes n h e = absurd (omega (arith, h))
stored_has (x ∷ tree) codes zero h e = ap (λ b. b || has_codes tree codes) (subst (λ (q : Codes). pointwise int_eq q x.0 ≡ true) e (codes_same x.0))
stored_has (x ∷ tree) codes (suc n) h e = or_right (pointwise int_eq codes x.0) (has_codes tree codes) (stored_has tree codes n (omega (arith, h)) e)

pub has_stored : (tree : Tree) (codes : Codes) → has_codes tree codes ≡ true → IsStored tree codes
has_stored [] codes h = absurd (false≢true h)
has_stored (x ∷ tree) codes h =
    elim (pointwise int_eq codes x.0) as (λ b. pointwise int_eq codes x.0 ≡ b → b || has_codes tree codes ≡ true → IsStored (x ∷ tree) codes) [
      | true ↦ λ e k. record { number = 0; within = omega arith; same = sym (codes_one codes x.0 e) }
      | false ↦ λ e k. let s = has_stored tree codes k in record { number = suc s.number; within = omega (arith, s.within); same = s.same }
    ] refl h

pub not_stored : (tree : Tree) (codes : Codes) → has_codes tree codes ≡ false → IsStored tree codes → ⊥
not_stored tree codes h s = both_ways (has_codes tree codes) h (stored_has tree codes s.number s.within s.same)

-- ---- the map

abbrev asks : Codes → Vec ℤ Global → Bool
asks q k = pointwise int_eq q k.items

pub found : (es : List Entry) (q : Codes) → is_some (lookup (λ (k : Vec ℤ Global). pointwise int_eq q k.items) es) ≡ has_codes (nodes_of es) q
found [] q = refl
found (e ∷ es) q =
    elim (pointwise int_eq q e.0.items) as (λ b. is_some (cond b (Some e.1) (lookup (λ (k : Vec ℤ Global). pointwise int_eq q k.items) es)) ≡ b || has_codes (nodes_of es) q) [
      | true ↦ refl
      | false ↦ found es q
    ]

map_push : (es : List Entry) (x : Entry) → nodes_of (es ++ x ∷ []) ≡ nodes_of es ++ node_of x ∷ []
map_push [] x = refl
map_push (e ∷ es) x = ap (λ (l : Tree). node_of e ∷ l) (map_push es x)

-- the entries after a new key
added : (es : List Entry) (k : Vec ℤ Global) (link : Link) → has_codes (nodes_of es) k.items ≡ false
    → insert_entry (λ (a b : Vec ℤ Global). pointwise int_eq a.items b.items) es k link ≡ es ++ (k, link) ∷ []
added [] k link h = refl
added (e ∷ es) k link h =
    elim (pointwise int_eq k.items e.0.items) as (λ b. b || has_codes (nodes_of es) k.items ≡ false
    → cond b ((e.0, link) ∷ es) (e ∷ insert_entry (λ (a c : Vec ℤ Global). pointwise int_eq a.items c.items) es k link) ≡ e ∷ (es ++ (k, link) ∷ [])) [
      | true ↦ λ g. cc
      | false ↦ λ g. ap (λ (l : List Entry). e ∷ l) (added es k link g)
    ] h

pub node_added : (es fs : List Entry) (k : Vec ℤ Global) (codes : Codes) (link : Link) → k.items ≡ codes → has_codes (nodes_of es) codes ≡ false
    → fs ≡ insert_entry (λ (a b : Vec ℤ Global). pointwise int_eq a.items b.items) es k link → nodes_of fs ≡ nodes_of es ++ (codes, link) ∷ []
node_added es fs k codes link e h f =
    let none : has_codes (nodes_of es) k.items ≡ false = subst (λ (q : Codes). has_codes (nodes_of es) q ≡ false) (sym e) h in
    ap nodes_of (f ∙ added es k link none) ∙ map_push es (k, link) ∙ ap (λ (q : Codes). nodes_of es ++ (q, link) ∷ []) e

-- what stands at a number
pub entry_node : (es : List Entry) (n : ℕ) (e : Entry) → slice_get es n ≡ Some e → node_at (nodes_of es) n ≡ node_of e
entry_node es n e h = get_or_from_slice_get (nodes_of es) n (node_of e) ([], no_link) (slice_get-map node_of es n ∙ ap (option_map node_of) h)
