-- Transitions that are put into rows one after another give the rows of the lines, grouped.
use Rattle.std.proofs.Common.{◌≡◌, ℤ, Bool, true, false, not, ◌||◌, cond, if◌then◌else◌, List, [], ◌∷◌, ◌++◌, map, append_assoc, refl, sym, ap, ap₂, subst, ◌∙◌}
use Rattle.std.specs.Ordering.{int_eq}
use Rattle.std.specs.List.{filter, flat_map, fold, list_any}
use Rattle.std.proofs.lemmas.Bool.{and_parts}
use Rattle.std.proofs.lemmas.List.{append-nil, map-append}
use Rattle.std.proofs.lemmas.List.Elements.{filter-append}
use Rattle.std.proofs.lemmas.List.Folds.{list_any-append}
use Rattle.std.proofs.lemmas.List.Sums.{fold-append}
use Rattle.std.proofs.lemmas.Grind.{flat_map-append}
use Rattle.scr_spec.specs.declared.table.Cell.{Cell}
use Rattle.scr_spec.specs.declared.table.Cell.TheVariants as cell
use Rattle.scr_spec.specs.declared.table.Event.{Event}
use Rattle.scr_spec.specs.declared.table.Row.{Row}
use Rattle.scr_spec.specs.declared.table.Table.{Table}
use Rattle.scr_spec.specs.Distinct.{are_distinct}
use Rattle.scr_scope.specs.declared.known.Known.{Known}
use Rattle.scr_resolve.specs.Tables.{has_mode}
use Rattle.scr_resolve.specs.Built.{joined, cells_with, targets_with, row_with, row_from, rows_with, with_transition}
use Rattle.scr_resolve.specs.Grouped.{Transition, firsts, from_source, to_target, cell_of_lines, targets_of, row_of_lines, grouped, FromLine, said, at_table, RowsAreGrouped}
use Rattle.scr_resolve.proofs.Truths.{not_true, or_false, neither}
use Rattle.scr_resolve.proofs.RowModes.{same_code, code_same, other_code, targets_distinct}

-- ---- codes in order of their first appearance

firsts_more : (codes : List ℤ) (code : ℤ) → firsts (codes ++ code ∷ []) ≡ targets_with code (firsts codes)
firsts_more codes code = fold-append (λ (seen : List ℤ) (code : ℤ). targets_with code seen) [] codes (code ∷ [])

once_from : (seen codes : List ℤ) → are_distinct int_eq seen ≡ true → are_distinct int_eq (fold (λ (seen : List ℤ) (code : ℤ). targets_with code seen) seen codes) ≡ true
once_from seen [] h = h
once_from seen (code ∷ codes) h = once_from (targets_with code seen) codes (targets_distinct code seen h)

firsts_once : (codes : List ℤ) → are_distinct int_eq (firsts codes) ≡ true
firsts_once codes = once_from [] codes refl

-- a code that is not among them differs from one that is
apart : (x code : ℤ) (seen : List ℤ) → list_any (int_eq code) seen ≡ true → list_any (int_eq x) seen ≡ false → int_eq x code ≡ false
apart x code seen h k = by (int_eq x code) refl
  where
    by : (b : Bool) → int_eq x code ≡ b → b ≡ false
    by true e = let there : list_any (int_eq x) seen ≡ true = subst (λ c. list_any (int_eq c) seen ≡ true) (sym (same_code x code e)) h in absurd (cc)
    by false e = refl

none_with : (x code : ℤ) (seen : List ℤ) → list_any (int_eq x) (targets_with code seen) ≡ false → (list_any (int_eq x) seen ≡ false) × (int_eq x code ≡ false)
none_with x code seen = by (list_any (int_eq code) seen) refl
  where
    by : (b : Bool) → list_any (int_eq code) seen ≡ b → list_any (int_eq x) (if b then seen else seen ++ code ∷ []) ≡ false → (list_any (int_eq x) seen ≡ false) × (int_eq x code ≡ false)
    by true h k = (k, apart x code seen h k)
    by false h k =
        let parts = or_false (list_any (int_eq x) seen) (int_eq x code || false) (sym (list_any-append (int_eq x) seen (code ∷ [])) ∙ k) in
        (parts.0, (or_false (int_eq x code) false parts.1).0)

none_from : (x : ℤ) (seen codes : List ℤ) → list_any (int_eq x) (fold (λ (seen : List ℤ) (code : ℤ). targets_with code seen) seen codes) ≡ false
    → (list_any (int_eq x) seen ≡ false) × (list_any (int_eq x) codes ≡ false)
none_from x seen [] h = (h, refl)
none_from x seen (code ∷ codes) h =
    let rest = none_from x (targets_with code seen) codes h in let here = none_with x code seen rest.0 in (here.0, neither _ _ here.1 rest.1)

-- ---- lines of one source, or to one target

no_lines : (f : Transition → ℤ) (x : ℤ) (lines : List Transition) → list_any (int_eq x) (map f lines) ≡ false → filter (λ line. int_eq x (f line)) lines ≡ []
no_lines f x [] h = refl
no_lines f x (line ∷ lines) h =
    let parts = or_false (int_eq x (f line)) (list_any (int_eq x) (map f lines)) h in
    ap (λ b. cond b (line ∷ filter (λ line. int_eq x (f line)) lines) (filter (λ line. int_eq x (f line)) lines)) parts.0 ∙ no_lines f x lines parts.1

one_more : (p : Transition → Bool) (lines : List Transition) (line : Transition) → p line ≡ true → filter p (lines ++ line ∷ []) ≡ filter p lines ++ line ∷ []
one_more p lines line h = filter-append p lines (line ∷ []) ∙ ap (λ b. filter p lines ++ cond b (line ∷ []) []) h

no_more : (p : Transition → Bool) (lines : List Transition) (line : Transition) → p line ≡ false → filter p (lines ++ line ∷ []) ≡ filter p lines
no_more p lines line h = filter-append p lines (line ∷ []) ∙ ap (λ b. filter p lines ++ cond b (line ∷ []) []) h ∙ append-nil (filter p lines)

-- ---- something for each code, with one of them changed

untouched : {X : Type 0} (x : ℤ) (c d : ℤ → X) → ((y : ℤ) → int_eq x y ≡ false → d y ≡ c y) → (codes : List ℤ) → list_any (int_eq x) codes ≡ false → map c codes ≡ map d codes
untouched x c d other [] h = refl
untouched x c d other (y ∷ codes) h =
    let parts = or_false (int_eq x y) (list_any (int_eq x) codes) h in ap₂ (λ a b. a ∷ b) (sym (other y parts.0)) (untouched x c d other codes parts.1)

rest_not : (x y : ℤ) (codes : List ℤ) → x ≡ y → not (list_any (int_eq y) codes) ≡ true → list_any (int_eq x) codes ≡ false
rest_not x y codes e h = subst (λ z. list_any (int_eq z) codes ≡ false) (sym e) (not_true (list_any (int_eq y) codes) h)

-- ---- the cells of a row

cells_old : (x : ℤ) (e : Event) (c d : ℤ → Cell) → ((y : ℤ) → int_eq x y ≡ false → d y ≡ c y) → d x ≡ joined (c x) e → (codes : List ℤ) → are_distinct int_eq codes ≡ true
    → list_any (int_eq x) codes ≡ true → cells_with x e codes (map c codes) ≡ map d codes
cells_old x e c d other own [] h k = absurd (cc)
cells_old x e c d other own (y ∷ codes) h k = by (int_eq x y) refl (cells_old x e c d other own codes)
  where
    by : (b : Bool) → int_eq x y ≡ b → (are_distinct int_eq codes ≡ true → list_any (int_eq x) codes ≡ true → cells_with x e codes (map c codes) ≡ map d codes)
        → (if b then joined (c y) e ∷ map c codes else c y ∷ cells_with x e codes (map c codes)) ≡ d y ∷ map d codes
    by true f more =
        let same = same_code x y f in
        ap₂ (λ a b. a ∷ b) (subst (λ z. joined (c z) e ≡ d z) same (sym own))
        (untouched x c d other codes (rest_not x y codes same (and_parts (not (list_any (int_eq y) codes)) (are_distinct int_eq codes) h).0))
    by false f more =
        ap₂ (λ a b. a ∷ b) (sym (other y f))
        (more (and_parts (not (list_any (int_eq y) codes)) (are_distinct int_eq codes) h).1 (ap (λ b. b || list_any (int_eq x) codes) (sym f) ∙ k))

cells_new : (x : ℤ) (e : Event) (c d : ℤ → Cell) → ((y : ℤ) → int_eq x y ≡ false → d y ≡ c y) → d x ≡ cell.Event e → (codes : List ℤ) → list_any (int_eq x) codes ≡ false
    → cells_with x e codes (map c codes) ≡ map d (codes ++ x ∷ [])
cells_new x e c d other own [] h = ap (λ a. a ∷ []) (sym own)
cells_new x e c d other own (y ∷ codes) h =
    let parts = or_false (int_eq x y) (list_any (int_eq x) codes) h in
    ap (λ b. if b then joined (c y) e ∷ map c codes else c y ∷ cells_with x e codes (map c codes)) parts.0
    ∙ ap₂ (λ a b. a ∷ b) (sym (other y parts.0)) (cells_new x e c d other own codes parts.1)

cell_more : (lines : List Transition) (line : Transition) → cell_of_lines (lines ++ line ∷ []) ≡ joined (cell_of_lines lines) line.event
cell_more lines line =
    ap (λ prims. cell.Event (record { prims = prims }))
    (flat_map-append (λ (l : Transition). l.event.prims) lines (line ∷ []) ∙ ap (λ more. flat_map (λ (l : Transition). l.event.prims) lines ++ more) (append-nil line.event.prims))

cells_more : (own : List Transition) (line : Transition)
    → cells_with line.target line.event (targets_of own) (map (λ target. cell_of_lines (to_target target own)) (targets_of own))
    ≡ map (λ target. cell_of_lines (to_target target (own ++ line ∷ []))) (targets_with line.target (targets_of own))
cells_more own line = by (list_any (int_eq line.target) (targets_of own)) refl
  where
    by : (b : Bool) → list_any (int_eq line.target) (targets_of own) ≡ b
        → cells_with line.target line.event (targets_of own) (map (λ target. cell_of_lines (to_target target own)) (targets_of own))
        ≡ map (λ target. cell_of_lines (to_target target (own ++ line ∷ []))) (if b then targets_of own else targets_of own ++ line.target ∷ [])
    by true h =
        cells_old line.target line.event _ _ (λ y f. ap cell_of_lines (no_more (λ l. int_eq y l.target) own line (other_code line.target y f)))
        (ap cell_of_lines (one_more (λ l. int_eq line.target l.target) own line (code_same line.target line.target refl)) ∙ cell_more (to_target line.target own) line)
        (targets_of own) (firsts_once (map (λ l. l.target) own)) h
    by false h =
        cells_new line.target line.event _ _ (λ y f. ap cell_of_lines (no_more (λ l. int_eq y l.target) own line (other_code line.target y f)))
        (ap cell_of_lines (one_more (λ l. int_eq line.target l.target) own line (code_same line.target line.target refl))
        ∙ ap (λ ls. cell_of_lines (ls ++ line ∷ [])) (no_lines (λ l. l.target) line.target own (none_from line.target [] (map (λ l. l.target) own) h).1)
        ∙ cell_more [] line)
        (targets_of own) h

-- ---- rows

targets_more : (own : List Transition) (line : Transition) → targets_of (own ++ line ∷ []) ≡ targets_with line.target (targets_of own)
targets_more own line = ap firsts (map-append (λ (l : Transition). l.target) own (line ∷ [])) ∙ firsts_more (map (λ (l : Transition). l.target) own) line.target

row_more : (own : List Transition) (line : Transition) (x : ℤ) → row_of_lines (own ++ line ∷ []) x ≡ row_with line.target line.event (row_of_lines own x)
row_more own line x =
    ap₂ (λ cells targets. let row : Row = record { modes = x ∷ []; cells = cells; targets = targets } in row)
    (ap (map (λ target. cell_of_lines (to_target target (own ++ line ∷ [])))) (targets_more own line) ∙ sym (cells_more own line)) (targets_more own line)

row_first : (line : Transition) (x : ℤ) → row_of_lines (line ∷ []) x ≡ row_from x line.target line.event
row_first line x = row_more [] line x

is_mode : (x y : ℤ) (own : List Transition) → has_mode x (row_of_lines own y) ≡ int_eq x y
is_mode x y own = by (int_eq x y)
  where
    by : (b : Bool) → (b || false) ≡ b
    by true = refl
    by false = refl

rows_old : (x g : ℤ) (e : Event) (c d : ℤ → Row) → ((y : ℤ) → has_mode x (c y) ≡ int_eq x y) → ((y : ℤ) → int_eq x y ≡ false → d y ≡ c y) → d x ≡ row_with g e (c x) → (codes : List ℤ)
    → are_distinct int_eq codes ≡ true → list_any (int_eq x) codes ≡ true → rows_with x g e (map c codes) ≡ map d codes
rows_old x g e c d mode other own [] h k = absurd (cc)
rows_old x g e c d mode other own (y ∷ codes) h k =
    ap (λ b. if b then row_with g e (c y) ∷ map c codes else c y ∷ rows_with x g e (map c codes)) (mode y) ∙ by (int_eq x y) refl (rows_old x g e c d mode other own codes)
  where
    by : (b : Bool) → int_eq x y ≡ b → (are_distinct int_eq codes ≡ true → list_any (int_eq x) codes ≡ true → rows_with x g e (map c codes) ≡ map d codes)
        → (if b then row_with g e (c y) ∷ map c codes else c y ∷ rows_with x g e (map c codes)) ≡ d y ∷ map d codes
    by true f more =
        let same = same_code x y f in
        ap₂ (λ a b. a ∷ b) (subst (λ z. row_with g e (c z) ≡ d z) same (sym own))
        (untouched x c d other codes (rest_not x y codes same (and_parts (not (list_any (int_eq y) codes)) (are_distinct int_eq codes) h).0))
    by false f more =
        ap₂ (λ a b. a ∷ b) (sym (other y f))
        (more (and_parts (not (list_any (int_eq y) codes)) (are_distinct int_eq codes) h).1 (ap (λ b. b || list_any (int_eq x) codes) (sym f) ∙ k))

rows_new : (x g : ℤ) (e : Event) (c d : ℤ → Row) → ((y : ℤ) → has_mode x (c y) ≡ int_eq x y) → ((y : ℤ) → int_eq x y ≡ false → d y ≡ c y) → d x ≡ row_from x g e → (codes : List ℤ)
    → list_any (int_eq x) codes ≡ false → rows_with x g e (map c codes) ≡ map d (codes ++ x ∷ [])
rows_new x g e c d mode other own [] h = ap (λ a. a ∷ []) (sym own)
rows_new x g e c d mode other own (y ∷ codes) h =
    let parts = or_false (int_eq x y) (list_any (int_eq x) codes) h in
    ap (λ b. if b then row_with g e (c y) ∷ map c codes else c y ∷ rows_with x g e (map c codes)) (mode y ∙ parts.0)
    ∙ ap₂ (λ a b. a ∷ b) (sym (other y parts.0)) (rows_new x g e c d mode other own codes parts.1)

-- ---- one more line

grouped_more : (lines : List Transition) (line : Transition) → rows_with line.source line.target line.event (grouped lines) ≡ grouped (lines ++ line ∷ [])
grouped_more lines line =
    by (list_any (int_eq line.source) (firsts (map (λ l. l.source) lines))) refl
    ∙ ap (map (λ source. row_of_lines (from_source source (lines ++ line ∷ [])) source))
    (sym (ap firsts (map-append (λ (l : Transition). l.source) lines (line ∷ [])) ∙ firsts_more (map (λ (l : Transition). l.source) lines) line.source))
  where
    other : (y : ℤ) → int_eq line.source y ≡ false → row_of_lines (from_source y (lines ++ line ∷ [])) y ≡ row_of_lines (from_source y lines) y
    other y f = ap (λ own. row_of_lines own y) (no_more (λ l. int_eq y l.source) lines line (other_code line.source y f))

    own : from_source line.source (lines ++ line ∷ []) ≡ from_source line.source lines ++ line ∷ []
    own = one_more (λ l. int_eq line.source l.source) lines line (code_same line.source line.source refl)

    by : (b : Bool) → list_any (int_eq line.source) (firsts (map (λ l. l.source) lines)) ≡ b
        → rows_with line.source line.target line.event (grouped lines)
        ≡ map (λ source. row_of_lines (from_source source (lines ++ line ∷ [])) source) (if b then firsts (map (λ l. l.source) lines) else firsts (map (λ l. l.source) lines) ++ line.source ∷ [])
    by true h =
        rows_old line.source line.target line.event _ _ (λ y. is_mode line.source y (from_source y lines)) other
        (ap (λ own. row_of_lines own line.source) own ∙ row_more (from_source line.source lines) line line.source)
        (firsts (map (λ l. l.source) lines)) (firsts_once (map (λ l. l.source) lines)) h
    by false h =
        rows_new line.source line.target line.event _ _ (λ y. is_mode line.source y (from_source y lines)) other
        (ap (λ own. row_of_lines own line.source) own
        ∙ ap (λ ls. row_of_lines (ls ++ line ∷ []) line.source) (no_lines (λ l. l.source) line.source lines (none_from line.source [] (map (λ l. l.source) lines) h).1)
        ∙ row_first line line.source)
        (firsts (map (λ l. l.source) lines)) h

-- ---- all lines

lines_read : (known : Known) (table : Table) (done : List Transition) (lines : List FromLine)
    → fold (λ (known : Known) (line : FromLine). with_transition known line.source line.target line.event) (at_table known table (grouped done)) lines
    ≡ at_table known table (grouped (done ++ map (said (at_table known table [])) lines))
lines_read known table done [] = ap (λ ls. at_table known table (grouped ls)) (sym (append-nil done))
lines_read known table done (line ∷ lines) =
    let first = said (at_table known table []) line in
    ap (λ rows. fold (λ (known : Known) (line : FromLine). with_transition known line.source line.target line.event) (at_table known table rows) lines) (grouped_more done first)
    ∙ lines_read known table (done ++ first ∷ []) lines
    ∙ ap (λ ls. at_table known table (grouped ls)) (append_assoc done (first ∷ []) (map (said (at_table known table [])) lines))

pub rows_are_grouped : RowsAreGrouped
rows_are_grouped = record { rows = λ known table lines. lines_read known table [] lines }
