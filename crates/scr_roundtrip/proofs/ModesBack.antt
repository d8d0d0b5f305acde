-- The modes of a row come back from their names.
use Rattle.std.proofs.Common.{◌≡◌, ℕ, ℤ, pos, negsuc, ◌<◌, Bool, true, false, not, ◌&&◌, ◌||◌, List, [], ◌∷◌, ◌++◌, length, map, Option, Some, None, refl, sym, ap, ap₂, ◌∙◌, append_assoc, arith}
use Rattle.std.specs.Prelude.{nat_eq, nat_le, int_le, int_lt, if◌then◌else◌, is_some}
use Rattle.std.specs.Option.{option_map, option_map_or, option_and_then}
use Rattle.std.specs.Ordering.{int_eq}
use Rattle.std.specs.Str.{bytes_eq}
use Rattle.std.specs.List.{list_all, list_any}
use Rattle.std.proofs.lemmas.Bool.{and_parts, ltb-true, eqb-true}
use Rattle.std.proofs.lemmas.List.{map-append}
use Rattle.std.proofs.lemmas.List.Folds.{list_any-append}
use Rattle.scr_spec.specs.Data.{Data}
use Rattle.scr_spec.specs.declared.cond.Owner.TheVariants as owner
use Rattle.scr_spec.specs.declared.cond.Expr.{Expr}
use Rattle.scr_spec.specs.declared.table.Row.{Row}
use Rattle.scr_spec.specs.declared.table.Heading.{Heading}
use Rattle.scr_spec.specs.declared.table.Table.{Table}
use Rattle.scr_spec.specs.Distinct.{are_distinct}
use Rattle.scr_spec.specs.NameSpace.{declared_names}
use Rattle.scr_spec.specs.Over.{modes_of, is_place}
use Rattle.scr_spec.specs.RowModes.{named_modes}
use Rattle.scr_spec.proofs.Passing.{and_true}
use Rattle.scr_scope.specs.declared.known.Known.{Known}
use Rattle.scr_scope.specs.declared.meaning.Meaning.TheVariants as m
use Rattle.scr_scope.specs.Names.{Name}
use Rattle.scr_scope.specs.First.{first_in}
use Rattle.scr_scope.specs.Meanings.{unknown}
use Rattle.scr_resolve.specs.Tables.{mode_meant, mode_named, is_used, is_free, is_mode, first_bad, bad_mode, is_empty, are_modes_placed}
use Rattle.scr_resolve.specs.Built.{mode_code}
use Rattle.scr_resolve.proofs.NamesAt.{same_bytes}
use Rattle.scr_resolve.proofs.RowModes.{same_code, code_same, used_named}
use Rattle.scr_printer.specs.Names.{mode_name}
use Rattle.scr_scope.specs.Entries.{entries_of}
use Rattle.scr_roundtrip.proofs.Drafts.{draft_modes}
use Rattle.scr_roundtrip.proofs.Resolved.{state, first_none}
use Rattle.scr_roundtrip.proofs.Named.{label_meaning, or_right, not_both}
use Rattle.scr_roundtrip.proofs.Declared.{or_none, not_true}
use Rattle.scr_roundtrip.proofs.Variables.{known_label}
use Rattle.scr_roundtrip.proofs.Heads.{table_with}

-- ---- one mode

pub record IsModeBack (known : Known) (v : ℕ) (n : Name) (code : ℤ) : Type 0 where
  pub mapped : option_map pos (mode_named known v n) ≡ Some code
  pub there : unknown known n ≡ None

same_class : (v : ℕ) → nat_eq v v ≡ true
same_class v = grind arith

pub mode_back : (spec : Data) → are_distinct bytes_eq (declared_names spec) ≡ true → (ts : List Table) (cur : Option Table) (v : ℕ) (code : ℤ) → is_place (modes_of spec v) code ≡ true
    → IsModeBack (state spec (entries_of spec) ts cur) v (mode_name spec v code) code
mode_back spec once ts cur v (pos n) h =
    let below : n < length (modes_of spec v) = ltb-true n (length (modes_of spec v)) ((and_parts (int_le (pos 0) (pos n)) (int_lt (pos n) (pos (length (modes_of spec v)))) h).1) in
    let is = label_meaning spec once (owner.Class v) n below in
    record {
      mapped = ap (λ o. option_map pos (option_and_then (mode_meant v) o)) is ∙ ap (λ b. option_map pos (if b then Some n else None)) (same_class v);
      there = known_label (state spec (entries_of spec) ts cur) (mode_name spec v (pos n)) (m.Label (owner.Class v) n) is;
    }
mode_back spec once ts cur v (negsuc n) h = absurd (cc)

coded_of : (o : Option ℕ) (code : ℤ) → option_map pos o ≡ Some code → option_map_or pos o (pos 0) ≡ code
coded_of None code h = absurd (cc)
coded_of (Some n) code h = let same : pos n ≡ code = cc in same

pub code_back : (known : Known) (v : ℕ) (n : Name) (code : ℤ) → IsModeBack known v n code → option_map_or pos (mode_named known v n) (pos 0) ≡ code
code_back known v n code back = coded_of (mode_named known v n) code back.mapped

some_of : (o : Option ℕ) (code : ℤ) → option_map pos o ≡ Some code → is_some o ≡ true
some_of None code h = absurd (cc)
some_of (Some n) code h = refl

pub is_mode_back : (known : Known) (v : ℕ) (n : Name) (code : ℤ) → IsModeBack known v n code → is_mode known v n ≡ true
is_mode_back known v n code back = some_of (mode_named known v n) code back.mapped

free_of : (rows : List Row) (o : Option ℕ) (code : ℤ) → option_map pos o ≡ Some code → option_map_or (λ place. not (is_used rows (pos place))) o false ≡ not (is_used rows code)
free_of rows None code h = absurd (cc)
free_of rows (Some n) code h = let same : pos n ≡ code = cc in ap (λ z. not (is_used rows z)) same

one_code : (a b : ℤ) (x : Option ℤ) → x ≡ Some a → x ≡ Some b → a ≡ b
one_code a b None h g = absurd (cc)
one_code a b (Some c) h g = let l : c ≡ a = cc in let r : c ≡ b = cc in sym l ∙ r

-- modes with the same name are the same
pub name_code : (known : Known) (v : ℕ) (p q : Name) (a b : ℤ) → IsModeBack known v p a → IsModeBack known v q b → p ≡ q → a ≡ b
name_code known v p q a b l r e = one_code a b (option_map pos (mode_named known v p)) l.mapped (ap (λ n. option_map pos (mode_named known v n)) e ∙ r.mapped)

-- ---- different modes have different names

pub apart_names : (spec : Data) → are_distinct bytes_eq (declared_names spec) ≡ true → (v : ℕ) (a b : ℤ) → is_place (modes_of spec v) a ≡ true → is_place (modes_of spec v) b ≡ true
    → int_eq a b ≡ false → bytes_eq (mode_name spec v a) (mode_name spec v b) ≡ false
apart_names spec once v a b h g e =
    not_true _ (λ same.
    let codes : a ≡ b = name_code (state spec (entries_of spec) [] None) v (mode_name spec v a) (mode_name spec v b) a b (mode_back spec once [] None v a h) (mode_back spec once [] None v b g)
    (same_bytes (mode_name spec v a) (mode_name spec v b) same) in
    let equal : int_eq a b ≡ true = code_same a b codes in absurd (cc))

not_before : (spec : Data) → are_distinct bytes_eq (declared_names spec) ≡ true → (v : ℕ) (a : ℤ) (past : List ℤ) → is_place (modes_of spec v) a ≡ true → list_all (is_place (modes_of spec v)) past ≡ true
    → list_any (int_eq a) past ≡ false → list_any (bytes_eq (mode_name spec v a)) (map (mode_name spec v) past) ≡ false
not_before spec once v a [] h g e = refl
not_before spec once v a (b ∷ past) h g e =
    let parts = and_parts (is_place (modes_of spec v) b) (list_all (is_place (modes_of spec v)) past) g in
    let both = or_none (int_eq a b) (list_any (int_eq a) past) e in
    ap₂ (λ p q. p || q) (apart_names spec once v a b h (parts.0) (both.0)) (not_before spec once v a past h (parts.1) (both.1))

-- ---- codes that stand once

any_code : (a : ℤ) (past later : List ℤ) (b : ℤ) → int_eq a b ≡ true → list_any (int_eq a) (past ++ b ∷ later) ≡ true
any_code a [] later b h = ap (λ t. t || list_any (int_eq a) later) h
any_code a (x ∷ past) later b h = or_right (int_eq a x) _ (any_code a past later b h)

-- a code that stands once is not among those before it
pub fresh_code : (past later : List ℤ) (a : ℤ) → are_distinct int_eq (past ++ a ∷ later) ≡ true → list_any (int_eq a) past ≡ false
fresh_code [] later a d = refl
fresh_code (b ∷ past) later a d =
    let parts = and_parts (not (list_any (int_eq b) (past ++ a ∷ later))) (are_distinct int_eq (past ++ a ∷ later)) d in
    let apart = not_true (int_eq a b) (λ same.
    let is : b ≡ a = sym (same_code a b same) in
    not_both (list_any (int_eq b) (past ++ a ∷ later)) (parts.0) (any_code b past later a (code_same b a is))) in
    ap (λ x. x || list_any (int_eq a) past) apart ∙ fresh_code past later a (parts.1)

-- ---- the modes of a row

if_right : {X : Type 0} (p q : Bool) (o : Option X) (x : X) → p ≡ true → q ≡ false → o ≡ None → (if p && not q then o else Some x) ≡ None
if_right p q o x h g e = rw (h, g, e) refl

modes_free : (spec : Data) → are_distinct bytes_eq (declared_names spec) ≡ true → (ts : List Table) (u : ℕ) (heading : Heading) (v : ℕ) (rows : List Row) (values : List Expr) (past modes later : List ℤ)
    → list_all (is_place (modes_of spec v)) past ≡ true → list_all (is_place (modes_of spec v)) modes ≡ true
    → are_distinct int_eq (named_modes rows ++ (past ++ (modes ++ later))) ≡ true
    → first_bad (state spec (entries_of spec) ts (Some (table_with u heading (Some v) rows values))) v (map (mode_name spec v) past) (map (mode_name spec v) modes) ≡ None
modes_free spec once ts u heading v rows values past [] later h g d = refl
modes_free spec once ts u heading v rows values past (a ∷ modes) later h g d =
    let known = state spec (entries_of spec) ts (Some (table_with u heading (Some v) rows values)) in
    let n = mode_name spec v a in
    let parts = and_parts (is_place (modes_of spec v) a) (list_all (is_place (modes_of spec v)) modes) g in
    let back = mode_back spec once ts (Some (table_with u heading (Some v) rows values)) v a (parts.0) in
    let new = fresh_code (named_modes rows ++ past) (modes ++ later) a (ap (are_distinct int_eq) (append_assoc (named_modes rows) past (a ∷ (modes ++ later))) ∙ d) in
    let both = or_none (list_any (int_eq a) (named_modes rows)) (list_any (int_eq a) past) (sym (list_any-append (int_eq a) (named_modes rows) past) ∙ new) in
    let unused : is_used rows a ≡ false = sym (used_named rows a) ∙ both.0 in
    let free : is_free known v n ≡ true = free_of rows (mode_named known v n) a back.mapped ∙ ap not unused in
    let more = modes_free spec once ts u heading v rows values (past ++ a ∷ []) modes later (all_more past a h (parts.0)) (parts.1)
    (ap (λ codes. are_distinct int_eq (named_modes rows ++ codes)) (append_assoc past (a ∷ []) (modes ++ later)) ∙ d) in
    if_right (is_free known v n) (list_any (bytes_eq n) (map (mode_name spec v) past)) (first_bad known v (map (mode_name spec v) past ++ n ∷ []) (map (mode_name spec v) modes)) n
    free (not_before spec once v a past (parts.0) h (both.1))
    (ap (λ names. first_bad known v names (map (mode_name spec v) modes)) (sym (map-append (mode_name spec v) past (a ∷ []))) ∙ more)
  where
    all_more : (xs : List ℤ) (x : ℤ) → list_all (is_place (modes_of spec v)) xs ≡ true → is_place (modes_of spec v) x ≡ true → list_all (is_place (modes_of spec v)) (xs ++ x ∷ []) ≡ true
    all_more [] x p q = and_true _ _ q refl
    all_more (y ∷ xs) x p q =
        let both = and_parts (is_place (modes_of spec v) y) (list_all (is_place (modes_of spec v)) xs) p in and_true _ _ (both.0) (all_more xs x (both.1) q)

pub record AreModesBack (known : Known) (ns : List Name) (modes : List ℤ) : Type 0 where
  pub names_known : first_in (unknown known) ns ≡ None
  pub coded : map (mode_code known) ns ≡ modes

modes_coded : (spec : Data) → are_distinct bytes_eq (declared_names spec) ≡ true → (ts : List Table) (u : ℕ) (heading : Heading) (v : ℕ) (rows : List Row) (values : List Expr) (modes : List ℤ)
    → list_all (is_place (modes_of spec v)) modes ≡ true
    → AreModesBack (state spec (entries_of spec) ts (Some (table_with u heading (Some v) rows values))) (map (mode_name spec v) modes) modes
modes_coded spec once ts u heading v rows values [] g = record { names_known = refl; coded = refl }
modes_coded spec once ts u heading v rows values (a ∷ modes) g =
    let known = state spec (entries_of spec) ts (Some (table_with u heading (Some v) rows values)) in
    let parts = and_parts (is_place (modes_of spec v) a) (list_all (is_place (modes_of spec v)) modes) g in
    let back = mode_back spec once ts (Some (table_with u heading (Some v) rows values)) v a (parts.0) in
    let more = modes_coded spec once ts u heading v rows values modes (parts.1) in
    record {
      names_known = first_none (unknown known) (mode_name spec v a) (map (mode_name spec v) modes) back.there more.names_known;
      coded = ap₂ (λ x xs. x ∷ xs) (code_back known v (mode_name spec v a) a back) more.coded;
    }

-- the modes of a row, in a table with a class or without
pub record IsRowPlaced (known : Known) (class : Option ℕ) (rows : List Row) (ns : List Name) (modes : List ℤ) : Type 0 where
  pub names_known : first_in (unknown known) ns ≡ None
  pub coded : map (mode_code known) ns ≡ modes
  pub free : bad_mode known ns ≡ None
  pub placed : are_modes_placed class rows ns ≡ true

some_named : (spec : Data) (v : ℕ) (modes : List ℤ) → nat_le 1 (length modes) ≡ true → not (is_empty (map (mode_name spec v) modes)) ≡ true
some_named spec v [] h = absurd (cc)
some_named spec v (a ∷ modes) h = refl

pub placed_over : (spec : Data) → are_distinct bytes_eq (declared_names spec) ≡ true → (ts : List Table) (u : ℕ) (heading : Heading) (v : ℕ) (rows : List Row) (values : List Expr) (modes later : List ℤ)
    → nat_le 1 (length modes) ≡ true → list_all (is_place (modes_of spec v)) modes ≡ true → are_distinct int_eq (named_modes rows ++ (modes ++ later)) ≡ true
    → IsRowPlaced (state spec (entries_of spec) ts (Some (table_with u heading (Some v) rows values))) (Some v) rows (draft_modes spec (Some v) modes) modes
placed_over spec once ts u heading v rows values modes later some places d =
    let back = modes_coded spec once ts u heading v rows values modes places in
    record {
      names_known = back.names_known;
      coded = back.coded;
      free = modes_free spec once ts u heading v rows values [] modes later refl places d;
      placed = some_named spec v modes some;
    }

pub no_modes : {X : Type 0} (xs : List X) → nat_eq (length xs) 0 ≡ true → [] ≡ xs
no_modes [] h = refl
no_modes (x ∷ xs) h = let e = eqb-true (length (x ∷ xs)) 0 h in absurd (omega (arith, e))

pub placed_alone : (spec : Data) (ts : List Table) (u : ℕ) (heading : Heading) (modes : List ℤ) → nat_eq (length modes) 0 ≡ true
    → IsRowPlaced (state spec (entries_of spec) ts (Some (table_with u heading None [] []))) None [] (draft_modes spec None modes) modes
placed_alone spec ts u heading modes h = record { names_known = refl; coded = no_modes modes h; free = refl; placed = refl }
