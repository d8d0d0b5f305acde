-- Lists of conditions in which none stands twice.
use Rattle.std.proofs.Common.{◌≡◌, ℕ, ◌<◌, ◌≤◌, List, [], ◌∷◌, ◌++◌, length, get_or, sym, subst, arith}
use Rattle.std.specs.List.{Contains}
use Rattle.scr_spec.specs.declared.cond.Cond.{Cond}
use Rattle.prove_candidates.specs.New.{AddsNew, no_more, again, first}

-- ---- members

-- the member with this number is the condition
pub contains_here : (xs : List Cond) (c x : Cond) (i : ℕ) → i < length xs → x ≡ get_or xs i x → x ≡ c → Contains xs c
contains_here xs c x i lt at e = (i, lt, subst (λ (y : Cond). get_or xs i y ≡ y) e (sym at))

-- none of the first members is
abbrev pub NoneOf : List Cond → Cond → ℕ → Type 0
NoneOf xs c i = (k : ℕ) → k < i → get_or xs k c ≡ c → ⊥

pub not_contained : (xs : List Cond) (c : Cond) (i : ℕ) → length xs ≤ i → NoneOf xs c i → Contains xs c → ⊥
not_contained xs c i le none there = none there.0 (omega (arith, le, there.1)) there.2

pub ruleset contain_laws = (contains_here, not_contained)

-- ---- additions

pub adds_none : (before after : List Cond) → after ≡ before → AddsNew before [] after
adds_none before after e = subst (AddsNew before []) (sym e) no_more

pub adds_absent : (before after : List Cond) (c : Cond) → (Contains before c → ⊥) → after ≡ before ++ c ∷ [] → AddsNew before (c ∷ []) after
adds_absent before after c absent e = subst (AddsNew before (c ∷ [])) (sym e) (first absent no_more)

pub adds_present : (before after : List Cond) (c : Cond) → Contains before c → after ≡ before → AddsNew before (c ∷ []) after
adds_present before after c there e = subst (AddsNew before (c ∷ [])) (sym e) (again there no_more)

pub ruleset add_laws = (adds_none, adds_absent, adds_present)

-- one list of conditions after another
adds_then : {before middle after xs : List Cond} (ys : List Cond) → AddsNew before xs middle → AddsNew middle ys after → AddsNew before (xs ++ ys) after
adds_then ys no_more h = h
adds_then ys (again there rest) h = again there (adds_then ys rest h)
adds_then ys (first absent rest) h = first absent (adds_then ys rest h)

pub adds_append : {before middle after : List Cond} (xs ys : List Cond) → AddsNew before xs middle → AddsNew middle ys after → AddsNew before (xs ++ ys) after
adds_append xs ys h k = adds_then ys h k
