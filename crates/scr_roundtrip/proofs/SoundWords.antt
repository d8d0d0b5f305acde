-- The words of the canonical lines are names of the language and numbers up to 1,000,000.
use Rattle.std.proofs.Common.{◌≡◌, ℕ, ℤ, pos, negsuc, zero, suc, ◌<◌, ◌≤◌, Bool, true, false, ◌==◌, cond, List, [], ◌∷◌, ◌++◌, length, map, Option, Some, None, refl, sym, ap, subst, ◌∙◌, arith}
use Rattle.std.specs.Prelude.{nat_le, nat_lt, int_le, int_lt, unsigned_abs, is_some, slice_get, slice_index_or}
use Rattle.std.specs.Option.{option_map_or}
use Rattle.std.specs.List.{list_all, flat_map}
use Rattle.std.proofs.lemmas.Bool.{and_parts, leb-true, le-leb, ltb-true}
use Rattle.std.proofs.lemmas.List.Folds.{list_all-append}
use Rattle.scr_tokens.specs.declared.word.Word.{Word}
use Rattle.scr_tokens.specs.declared.word.Word.TheVariants as w
use Rattle.scr_tokens.specs.declared.word.Sign.TheVariants as s
use Rattle.scr_tokens.specs.declared.word.Keyword.TheVariants as k
use Rattle.scr_tokens.specs.Words.{relation_sign}
use Rattle.scr_spec.specs.Data.{Data}
use Rattle.scr_spec.specs.declared.cond.Owner.{Owner}
use Rattle.scr_spec.specs.declared.cond.Owner.TheVariants as owner
use Rattle.scr_spec.specs.declared.cond.Operand.{Operand}
use Rattle.scr_spec.specs.declared.cond.Operand.TheVariants as o
use Rattle.scr_spec.specs.declared.cond.Item.{Item}
use Rattle.scr_spec.specs.declared.cond.Expr.{Expr}
use Rattle.scr_spec.specs.declared.cond.Cond.{Cond, ind-Cond, fold-roll-Cond}
use Rattle.scr_spec.specs.declared.cond.Cond.TheOpen as c
use Rattle.scr_spec.specs.declared.cond.Cond.TheFolds.{map-Cond}
use Rattle.scr_spec.specs.declared.spec.TypeDef.{TypeDef}
use Rattle.scr_spec.specs.declared.spec.Constant.{Constant}
use Rattle.scr_spec.specs.declared.spec.Variable.{Variable}
use Rattle.scr_spec.specs.declared.table.Change.{Change}
use Rattle.scr_spec.specs.declared.table.Change.TheVariants.{Becomes, Ceases, Changes, Never}
use Rattle.scr_spec.specs.declared.table.Primitive.{Primitive}
use Rattle.scr_spec.specs.declared.table.Cell.{Cell}
use Rattle.scr_spec.specs.declared.table.Cell.TheVariants as cell
use Rattle.scr_spec.specs.NameSpace.{is_name, type_names, constant_names, variable_names, declared_names}
use Rattle.scr_spec.specs.Types.{is_narrow, shape_labels, kind_modes}
use Rattle.scr_spec.specs.Over.{labels_of, is_place, is_operand_over, is_item_over, is_side_over, over_step, is_cond_over, side_bound}
use Rattle.scr_spec.specs.Events.{is_change_over, is_guard_over, is_prim_over}
use Rattle.scr_spec.specs.Cells.{is_cell_over}
use Rattle.scr_printer.specs.declared.cond.Top.{Top}
use Rattle.scr_roundtrip.specs.Laws.{is_sound}
use Rattle.scr_printer.specs.Names.{type_name, constant_name, variable_name, name_at}
use Rattle.scr_printer.specs.Sides.{is_negative, minus_words, int_words, truth_word, operand_word, amount_words, item_words, first_words, sign_word, more_words, sum_words, side_words}
use Rattle.scr_printer.specs.Conds.{joined, in_parens, is_apart_in_and, is_apart_in_or, is_apart_in_not, Phrase, in_and, in_or, phrase_step, phrase_of, cond_words}
use Rattle.scr_printer.specs.Events.{change_words, guard_words, prim_words, cell_words}
use Rattle.scr_roundtrip.proofs.LinesRead.{is_there}
use Rattle.scr_spec.proofs.Passing.{and_true, all_imply}

-- ---- lists of words

abbrev pub are_sound : List Word → Bool
are_sound words = list_all is_sound words

pub both_sound : (a b : List Word) → are_sound a ≡ true → are_sound b ≡ true → are_sound (a ++ b) ≡ true
both_sound a b h g = list_all-append is_sound a b ∙ and_true (are_sound a) (are_sound b) h g

pub flat_sound : {X : Type 0} (f : X → List Word) (xs : List X) → list_all (λ x. are_sound (f x)) xs ≡ true → are_sound (flat_map f xs) ≡ true
flat_sound f [] h = refl
flat_sound f (x ∷ xs) h = let parts = and_parts (are_sound (f x)) (list_all (λ x. are_sound (f x)) xs) h in both_sound (f x) (flat_map f xs) (parts.0) (flat_sound f xs (parts.1))

with_word : (word : Word) (parts : List (List Word)) → is_sound word ≡ true → list_all are_sound parts ≡ true → are_sound (flat_map (λ other. word ∷ other) parts) ≡ true
with_word word [] h g = refl
with_word word (part ∷ parts) h g =
    let both = and_parts (are_sound part) (list_all are_sound parts) g in
    both_sound (word ∷ part) (flat_map (λ other. word ∷ other) parts) (and_true (is_sound word) (are_sound part) h (both.0)) (with_word word parts h (both.1))

pub joined_sound : (word : Word) (parts : List (List Word)) → is_sound word ≡ true → list_all are_sound parts ≡ true → are_sound (joined word parts) ≡ true
joined_sound word [] h g = refl
joined_sound word (part ∷ parts) h g =
    let both = and_parts (are_sound part) (list_all are_sound parts) g in both_sound part (flat_map (λ other. word ∷ other) parts) (both.0) (with_word word parts h (both.1))

pub map_sound : {X : Type 0} (f : X → List Word) (xs : List X) → list_all (λ x. are_sound (f x)) xs ≡ true → list_all are_sound (map f xs) ≡ true
map_sound f [] h = refl
map_sound f (x ∷ xs) h = let parts = and_parts (are_sound (f x)) (list_all (λ x. are_sound (f x)) xs) h in and_true _ _ (parts.0) (map_sound f xs (parts.1))

parens_sound : (apart : Bool) (words : List Word) → are_sound words ≡ true → are_sound (in_parens apart words) ≡ true
parens_sound true words h = both_sound words (w.Sign s.CloseParen ∷ []) h refl
parens_sound false words h = h

-- ---- numbers

natural_sound : (n : ℕ) → n ≤ 1000000 → is_sound (w.Number (pos n)) ≡ true
natural_sound n h = and_true (int_le (pos 0) (pos n)) (int_le (pos n) (pos 1000000)) (le-leb 0 n (omega arith)) (le-leb n 1000000 h)

minus_sound : (negative : Bool) → are_sound (minus_words negative) ≡ true
minus_sound true = refl
minus_sound false = refl

one_more : (word : Word) → is_sound word ≡ true → are_sound (word ∷ []) ≡ true
one_more word h = and_true (is_sound word) true h refl

pub int_sound : (z : ℤ) → is_narrow z ≡ true → are_sound (int_words z) ≡ true
int_sound z h = both_sound (minus_words (is_negative z)) (w.Number (pos (unsigned_abs z)) ∷ []) (minus_sound (is_negative z)) (one_more (w.Number (pos (unsigned_abs z))) (natural_sound (unsigned_abs z) (leb-true _ _ h)))

pub truth_sound : (b : Bool) → is_sound (truth_word b) ≡ true
truth_sound true = refl
truth_sound false = refl

-- ---- names

-- the names that are declared, part by part
pub record AreNames (spec : Data) : Type 0 where
  pub types : list_all (λ t. list_all is_name (type_names t)) spec.types ≡ true
  pub constants : list_all (λ x. list_all is_name (constant_names x)) spec.constants ≡ true
  pub variables : list_all (λ x. list_all is_name (variable_names x)) spec.variables ≡ true

flat_all : {X : Type 0} (f : X → List (List ℕ)) (xs : List X) → list_all is_name (flat_map f xs) ≡ true → list_all (λ x. list_all is_name (f x)) xs ≡ true
flat_all f [] h = refl
flat_all f (x ∷ xs) h =
    let parts = and_parts (list_all is_name (f x)) (list_all is_name (flat_map f xs)) (sym (list_all-append is_name (f x) (flat_map f xs)) ∙ h) in and_true _ _ (parts.0) (flat_all f xs (parts.1))

pub are_names : (spec : Data) → list_all is_name (declared_names spec) ≡ true → AreNames spec
are_names spec h =
    let types = flat_map type_names spec.types in
    let constants = flat_map constant_names spec.constants in
    let variables = flat_map variable_names spec.variables in
    let a = and_parts (list_all is_name (types ++ constants)) (list_all is_name variables) (sym (list_all-append is_name (types ++ constants) variables) ∙ h) in
    let b = and_parts (list_all is_name types) (list_all is_name constants) (sym (list_all-append is_name types constants) ∙ a.0) in
    record { types = flat_all type_names spec.types (b.0); constants = flat_all constant_names spec.constants (b.1); variables = flat_all variable_names spec.variables (a.1) }

-- what passes at each member passes at one that is looked up
pub at_get : {X : Type 0} (p : X → Bool) (xs : List X) (k : ℕ) → list_all p xs ≡ true → option_map_or p (slice_get xs k) true ≡ true
at_get p [] k h = refl
at_get p (x ∷ xs) zero h = (and_parts (p x) (list_all p xs) h).0
at_get p (x ∷ xs) (suc k) h = at_get p xs k ((and_parts (p x) (list_all p xs) h).1)

first_name : (name : List ℕ) (more : List (List ℕ)) → list_all is_name (name ∷ more) ≡ true → is_name name ≡ true
first_name name more h = (and_parts (is_name name) (list_all is_name more) h).0

later_names : (name : List ℕ) (more : List (List ℕ)) → list_all is_name (name ∷ more) ≡ true → list_all is_name more ≡ true
later_names name more h = (and_parts (is_name name) (list_all is_name more) h).1

named_at : {X : Type 0} (name : X → List ℕ) (o : Option X) → is_some o ≡ true → option_map_or (λ x. is_name (name x)) o true ≡ true → is_name (option_map_or name o []) ≡ true
named_at name None h g = absurd (cc)
named_at name (Some x) h g = g

pub variable_named : (spec : Data) → AreNames spec → (v : ℕ) → nat_lt v (length spec.variables) ≡ true → is_name (variable_name spec v) ≡ true
variable_named spec names v h =
    named_at (λ (x : Variable). x.name) (slice_get spec.variables v) (is_there v spec.variables h)
    (at_get (λ x. is_name x.name) spec.variables v (all_imply (λ x. list_all is_name (variable_names x)) (λ x. is_name x.name) (λ x g. first_name x.name (kind_modes x.kind) g) spec.variables names.variables))

pub constant_named : (spec : Data) → AreNames spec → (j : ℕ) → nat_lt j (length spec.constants) ≡ true → is_name (constant_name spec j) ≡ true
constant_named spec names j h =
    named_at (λ (x : Constant). x.name) (slice_get spec.constants j) (is_there j spec.constants h)
    (at_get (λ x. is_name x.name) spec.constants j (all_imply (λ x. list_all is_name (constant_names x)) (λ x. is_name x.name) (λ x g. first_name x.name [] g) spec.constants names.constants))

pub type_named : (spec : Data) → AreNames spec → (j : ℕ) → nat_lt j (length spec.types) ≡ true → is_name (type_name spec j) ≡ true
type_named spec names j h =
    named_at (λ (t : TypeDef). t.name) (slice_get spec.types j) (is_there j spec.types h)
    (at_get (λ t. is_name t.name) spec.types j (all_imply (λ t. list_all is_name (type_names t)) (λ t. is_name t.name) (λ t g. first_name t.name (shape_labels t.shape) g) spec.types names.types))

names_got : {X : Type 0} (f : X → List (List ℕ)) (o : Option X) → option_map_or (λ x. list_all is_name (f x)) o true ≡ true → list_all is_name (option_map_or f o []) ≡ true
names_got f None h = refl
names_got f (Some x) h = h

pub labels_named : (spec : Data) → AreNames spec → (who : Owner) → list_all is_name (labels_of spec who) ≡ true
labels_named spec names (owner.Named j) =
    names_got (λ (t : TypeDef). shape_labels t.shape) (slice_get spec.types j)
    (at_get (λ t. list_all is_name (shape_labels t.shape)) spec.types j
    (all_imply (λ t. list_all is_name (type_names t)) (λ t. list_all is_name (shape_labels t.shape)) (λ t g. later_names t.name (shape_labels t.shape) g) spec.types names.types))
labels_named spec names (owner.Class v) =
    names_got (λ (x : Variable). kind_modes x.kind) (slice_get spec.variables v)
    (at_get (λ x. list_all is_name (kind_modes x.kind)) spec.variables v
    (all_imply (λ x. list_all is_name (variable_names x)) (λ x. list_all is_name (kind_modes x.kind)) (λ x g. later_names x.name (kind_modes x.kind) g) spec.variables names.variables))

index_named : (names : List (List ℕ)) (n : ℕ) → n < length names → list_all is_name names ≡ true → is_name (slice_index_or names n []) ≡ true
index_named [] n h g = absurd (omega arith)
index_named (name ∷ names) zero h g = first_name name names g
index_named (name ∷ names) (suc n) h g = index_named names n (omega arith) (later_names name names g)

pub place_named : (names : List (List ℕ)) (code : ℤ) → is_place names code ≡ true → list_all is_name names ≡ true → is_name (name_at names code) ≡ true
place_named names (pos n) h g = index_named names n (ltb-true n (length names) ((and_parts (int_le (pos 0) (pos n)) (int_lt (pos n) (pos (length names))) h).1)) g
place_named names (negsuc n) h g = absurd (cc)

-- ---- sides

operand_sound : (spec : Data) → AreNames spec → (operand : Operand) → is_operand_over spec operand ≡ true → is_sound (operand_word spec operand) ≡ true
operand_sound spec names o.One h = refl
operand_sound spec names (o.Truth b) h = truth_sound b
operand_sound spec names (o.Constant j) h = constant_named spec names j h
operand_sound spec names (o.Label who code) h = place_named (labels_of spec who) code h (labels_named spec names who)
operand_sound spec names (o.Variable v) h = variable_named spec names v h
operand_sound spec names (o.Primed v) h = variable_named spec names v h

by_one : (one : Bool) (n : ℕ) (word : Word) → n ≤ 1000000 → is_sound word ≡ true → are_sound (cond one [] (w.Number (pos n) ∷ w.Sign s.Times ∷ []) ++ word ∷ []) ≡ true
by_one true n word h g = one_more word g
by_one false n word h g = and_true (is_sound (w.Number (pos n))) (are_sound (w.Sign s.Times ∷ word ∷ [])) (natural_sound n h) (one_more word g)

amount_sound : (spec : Data) → AreNames spec → (n : ℕ) (operand : Operand) → n ≤ 1000000 → is_operand_over spec operand ≡ true → are_sound (amount_words spec n operand) ≡ true
amount_sound spec names n o.One h g = one_more (w.Number (pos n)) (natural_sound n h)
amount_sound spec names n (o.Truth b) h g = by_one (n == 1) n (operand_word spec (o.Truth b)) h (truth_sound b)
amount_sound spec names n (o.Constant j) h g = by_one (n == 1) n (operand_word spec (o.Constant j)) h (operand_sound spec names (o.Constant j) g)
amount_sound spec names n (o.Label who code) h g = by_one (n == 1) n (operand_word spec (o.Label who code)) h (operand_sound spec names (o.Label who code) g)
amount_sound spec names n (o.Variable v) h g = by_one (n == 1) n (operand_word spec (o.Variable v)) h (operand_sound spec names (o.Variable v) g)
amount_sound spec names n (o.Primed v) h g = by_one (n == 1) n (operand_word spec (o.Primed v)) h (operand_sound spec names (o.Primed v) g)

item_sound : (spec : Data) → AreNames spec → (item : Item) → is_item_over spec item ≡ true → are_sound (item_words spec item) ≡ true
item_sound spec names item h =
    let parts = and_parts (is_operand_over spec item.operand) (nat_le (unsigned_abs item.factor) 1000000) h in
    amount_sound spec names (unsigned_abs item.factor) item.operand (leb-true _ _ (parts.1)) (parts.0)

sign_sound : (negative : Bool) (words : List Word) → are_sound words ≡ true → are_sound (sign_word negative ∷ words) ≡ true
sign_sound true words h = h
sign_sound false words h = h

sum_sound : (spec : Data) → AreNames spec → (items : List Item) → list_all (is_item_over spec) items ≡ true → are_sound (sum_words spec items) ≡ true
sum_sound spec names [] h = refl
sum_sound spec names (item ∷ items) h =
    let parts = and_parts (is_item_over spec item) (list_all (is_item_over spec) items) h in
    both_sound (first_words spec item) (flat_map (more_words spec) items)
    (both_sound (minus_words (is_negative item.factor)) (item_words spec item) (minus_sound (is_negative item.factor)) (item_sound spec names item (parts.0)))
    (flat_sound (more_words spec) items
    (all_imply (is_item_over spec) (λ i. are_sound (more_words spec i)) (λ i g. sign_sound (is_negative i.factor) (item_words spec i) (item_sound spec names i g)) items (parts.1)))

pub side_sound : (spec : Data) → AreNames spec → (e : Expr) → is_side_over spec e ≡ true → are_sound (side_words spec e) ≡ true
side_sound spec names e h = sum_sound spec names e.items ((and_parts (list_all (is_item_over spec) e.items) (nat_le (side_bound spec e) 2000000000) h).0)

-- ---- conditions

abbrev IsSoundCond : Data → Cond → Type 0
IsSoundCond spec d = is_cond_over spec d ≡ true → are_sound (phrase_of spec d).words ≡ true

members_sound : (spec : Data) (test : Top → Bool) {E : Type 0} (p : E → Cond) → ((e : E) → IsSoundCond spec (p e)) → (es : List E)
    → list_all (λ t. t) (map (is_cond_over spec) (map p es)) ≡ true → list_all are_sound (map (λ ph. in_parens (test ph.top) ph.words) (map (phrase_of spec) (map p es))) ≡ true
members_sound spec test p each [] h = refl
members_sound spec test p each (e ∷ es) h =
    let parts = and_parts (is_cond_over spec (p e)) (list_all (λ t. t) (map (is_cond_over spec) (map p es))) h in
    and_true _ _ (parens_sound (test (phrase_of spec (p e)).top) (phrase_of spec (p e)).words (each e (parts.0))) (members_sound spec test p each es (parts.1))

layer_sound : (spec : Data) → AreNames spec → {E : Type 0} (p : E → Cond) → ((e : E) → IsSoundCond spec (p e)) → (y : c.Cond-F E)
    → over_step spec (map-Cond Cond Bool (is_cond_over spec) (map-Cond E Cond p y)) ≡ true
    → are_sound (phrase_step spec (map-Cond Cond Phrase (phrase_of spec) (map-Cond E Cond p y))).words ≡ true
layer_sound spec names p each (c.Truth b) h = one_more (truth_word b) (truth_sound b)
layer_sound spec names p each (c.Holds v) h = one_more (w.Name (variable_name spec v)) (variable_named spec names v h)
layer_sound spec names p each (c.Compare l r m) h =
    let parts = and_parts (is_side_over spec l) (is_side_over spec m) h in
    both_sound (side_words spec l) (w.Sign (relation_sign r) ∷ side_words spec m) (side_sound spec names l (parts.0)) (side_sound spec names m (parts.1))
layer_sound spec names p each (c.Not e) h = parens_sound (is_apart_in_not (phrase_of spec (p e)).top) (phrase_of spec (p e)).words (each e h)
layer_sound spec names p each (c.And es) h = joined_sound (w.Reserved k.And) (map in_and (map (phrase_of spec) (map p es))) refl (members_sound spec is_apart_in_and p each es h)
layer_sound spec names p each (c.Or es) h = joined_sound (w.Reserved k.Or) (map in_or (map (phrase_of spec) (map p es))) refl (members_sound spec is_apart_in_or p each es h)

by_step : (a b : Bool) (p q : Phrase) → a ≡ b → p ≡ q → (b ≡ true → are_sound q.words ≡ true) → a ≡ true → are_sound p.words ≡ true
by_step a b p q e f g h = ap (λ (p : Phrase). are_sound p.words) f ∙ g (sym e ∙ h)

pub cond_sound : (spec : Data) → AreNames spec → (d : Cond) → is_cond_over spec d ≡ true → are_sound (cond_words spec d) ≡ true
cond_sound spec names d =
    ind-Cond (IsSoundCond spec)
    (λ x y same.
    by_step _ _ _ _ (fold-roll-Cond Bool (over_step spec) x) (fold-roll-Cond Phrase (phrase_step spec) x)
    (subst (λ z. over_step spec (map-Cond Cond Bool (is_cond_over spec) z) ≡ true → are_sound (phrase_step spec (map-Cond Cond Phrase (phrase_of spec) z)).words ≡ true) same
    (layer_sound spec names (λ d. d.0) (λ d. d.1) y)))
    d

-- ---- events and cells

change_sound : (spec : Data) → AreNames spec → (d : Change) → is_change_over spec d ≡ true → are_sound (change_words spec d) ≡ true
change_sound spec names (Becomes e) h = both_sound (cond_words spec e) (w.Sign s.CloseParen ∷ []) (cond_sound spec names e h) refl
change_sound spec names (Ceases e) h = both_sound (cond_words spec e) (w.Sign s.CloseParen ∷ []) (cond_sound spec names e h) refl
change_sound spec names (Changes v) h = and_true (is_sound (w.Name (variable_name spec v))) true (variable_named spec names v h) refl
change_sound spec names Never h = refl

guard_sound : (spec : Data) → AreNames spec → (d : Option Cond) → is_guard_over spec d ≡ true → are_sound (guard_words spec d) ≡ true
guard_sound spec names None h = refl
guard_sound spec names (Some e) h = parens_sound (is_apart_in_or (phrase_of spec e).top) (cond_words spec e) (cond_sound spec names e h)

prim_sound : (spec : Data) → AreNames spec → (d : Primitive) → is_prim_over spec d ≡ true → are_sound (prim_words spec d) ≡ true
prim_sound spec names d h =
    let parts = and_parts (is_change_over spec d.change) (is_guard_over spec d.guard) h in
    both_sound (change_words spec d.change) (guard_words spec d.guard) (change_sound spec names d.change (parts.0)) (guard_sound spec names d.guard (parts.1))

pub cell_sound : (spec : Data) → AreNames spec → (d : Cell) → is_cell_over spec d ≡ true → are_sound (cell_words spec d) ≡ true
cell_sound spec names (cell.Cond e) h = cond_sound spec names e h
cell_sound spec names (cell.Event e) h =
    joined_sound (w.Reserved k.Or) (map (prim_words spec) e.prims) refl
    (map_sound (prim_words spec) e.prims (all_imply (is_prim_over spec) (λ d. are_sound (prim_words spec d)) (prim_sound spec names) e.prims h))
