-- A map by the bytes of names is seen as a list of names with what they stand for.
use Rattle.std.proofs.Common.{◌≡◌, ℕ, Bool, true, false, cond, List, [], ◌∷◌, ◌++◌, Some, is_some, refl, ap, sym, ◌∙◌}
use Rattle.std.specs.Str.{bytes_eq}
use Rattle.std.specs.Map.{lookup}
use Rattle.std.specs.declared.vec.Vec.{Vec}
use Rattle.std.specs.declared.alloc.Global.{Global}
use Rattle.scr_scope.specs.declared.meaning.Meaning.{Meaning}
use Rattle.scr_scope.specs.Names.{Name, meaning_of, with_name, entry_of, entries_of, is_known}
use Rattle.indexmap.specs.IndexMap.{insert_entry}

abbrev pub Entry : Type 0
Entry = (Vec ℕ Global) × Meaning

pub found : (es : List Entry) (q : Name) → lookup (λ (k : Vec ℕ Global). bytes_eq q k.items) es ≡ meaning_of (entries_of es) q
found [] q = refl
found (e ∷ es) q = ap (λ r. cond (bytes_eq q e.0.items) (Some e.1) r) (found es q)

-- the entries after a new name
added : (es : List Entry) (k : Vec ℕ Global) (m : Meaning) → is_some (lookup (λ (x : Vec ℕ Global). bytes_eq k.items x.items) es) ≡ false
    → insert_entry (λ (a b : Vec ℕ Global). bytes_eq a.items b.items) es k m ≡ es ++ (k, m) ∷ []
added [] k m h = refl
added (e ∷ es) k m h = by (λ g. added es k m g) (bytes_eq k.items e.0.items) refl
  where
    by : (is_some (lookup (λ (x : Vec ℕ Global). bytes_eq k.items x.items) es) ≡ false → insert_entry (λ (a c : Vec ℕ Global). bytes_eq a.items c.items) es k m ≡ es ++ (k, m) ∷ [])
        → (b : Bool) → bytes_eq k.items e.0.items ≡ b → insert_entry (λ (a c : Vec ℕ Global). bytes_eq a.items c.items) (e ∷ es) k m ≡ e ∷ (es ++ (k, m) ∷ [])
    by rest true p = let no : true ≡ false = sym (ap (λ b. is_some (cond b (Some e.1) (lookup (λ (x : Vec ℕ Global). bytes_eq k.items x.items) es))) p) ∙ h in absurd (cc)
    by rest false p =
        let h' : is_some (lookup (λ (x : Vec ℕ Global). bytes_eq k.items x.items) es) ≡ false = sym (ap (λ b. is_some (cond b (Some e.1) (lookup (λ (x : Vec ℕ Global). bytes_eq k.items x.items) es))) p) ∙ h in
        ap (λ b. cond b ((e.0, m) ∷ es) (e ∷ insert_entry (λ (a c : Vec ℕ Global). bytes_eq a.items c.items) es k m)) p ∙ ap (λ l. e ∷ l) (rest h')

map_push : (es : List Entry) (x : Entry) → entries_of (es ++ x ∷ []) ≡ entries_of es ++ entry_of x ∷ []
map_push [] x = refl
map_push (e ∷ es) x = ap (λ l. entry_of e ∷ l) (map_push es x)

-- and the names after it
pub named : (es fs : List Entry) (k : Vec ℕ Global) (n : Name) (m : Meaning) → k.items ≡ n → is_some (lookup (λ (x : Vec ℕ Global). bytes_eq n x.items) es) ≡ false
    → fs ≡ insert_entry (λ (a b : Vec ℕ Global). bytes_eq a.items b.items) es k m → entries_of fs ≡ with_name (entries_of es) n m
named es fs k n m e h f =
    let h' : is_some (lookup (λ (x : Vec ℕ Global). bytes_eq k.items x.items) es) ≡ false = rw e h in
    let new : is_known (entries_of es) n ≡ false = ap is_some (sym (found es n)) ∙ h in
    ap entries_of (f ∙ added es k m h') ∙ map_push es (k, m) ∙ ap (λ q. entries_of es ++ (q, m) ∷ []) e ∙ sym (ap (λ b. cond b (entries_of es) (entries_of es ++ (n, m) ∷ [])) new)

pub kept : (es : List Entry) (n : Name) (m : Meaning) → is_some (lookup (λ (x : Vec ℕ Global). bytes_eq n x.items) es) ≡ true → entries_of es ≡ with_name (entries_of es) n m
kept es n m h = let there : is_known (entries_of es) n ≡ true = ap is_some (sym (found es n)) ∙ h in sym (ap (λ b. cond b (entries_of es) (entries_of es ++ (n, m) ∷ [])) there)
