-- The parts of a line of small words are parts that words can say, and the words behind them are small, too.
use Rattle.std.proofs.Common.{◌≡◌, ℕ, ◌+◌, ◌-◌, ◌≤◌, cond, ℤ, pos, Bool, true, false, ◌&&◌, List, [], ◌∷◌, map, length, refl, sym, ap, ◌∙◌, arith}
use Rattle.std.specs.Prelude.{int_le, neg_ℤ, count_by, Some}
use Rattle.std.specs.List.{list_all}
use Rattle.std.proofs.lemmas.Bool.{and_parts}
use Rattle.std.proofs.lemmas.Bool.Decides.{nat_tests}
use Rattle.std.proofs.lemmas.Int.{ints}
use Rattle.std.proofs.lemmas.List.Sums.{sum_by-cons}
use Rattle.std.proofs.lemmas.List.Folds.{list_all-map}
use Rattle.base.specs.declared.relation.Relation.{Relation}
use Rattle.scr_tokens.specs.declared.word.Word.{Word}
use Rattle.scr_tokens.specs.declared.word.Word.TheVariants as w
use Rattle.scr_tokens.specs.declared.word.Sign.TheVariants as s
use Rattle.scr_spec.specs.declared.table.Heading.{Heading}
use Rattle.scr_spec.proofs.Passing.{and_true}
use Rattle.scr_spec.specs.NameSpace.{is_name}
use Rattle.scr_spec.specs.Types.{is_narrow}
use Rattle.scr_parse.specs.declared.draft.DraftOperand.{DraftOperand}
use Rattle.scr_parse.specs.declared.draft.DraftItem.{DraftItem}
use Rattle.scr_parse.specs.declared.draft.DraftSide.{DraftSide}
use Rattle.scr_parse.specs.declared.draft.DraftCond.{DraftCond, fold-roll-DraftCond}
use Rattle.scr_parse.specs.declared.draft.DraftCond.TheVariants as c
use Rattle.scr_parse.specs.declared.draft.DraftCond.TheOpen as layer
use Rattle.scr_parse.specs.declared.draft.DraftChange.{DraftChange}
use Rattle.scr_parse.specs.declared.draft.DraftPrim.{DraftPrim}
use Rattle.scr_parse.specs.declared.draft.DraftCell.{DraftCell}
use Rattle.scr_parse.specs.declared.draft.DraftKind.{DraftKind}
use Rattle.scr_parse.specs.declared.draft.DraftValue.{DraftValue}
use Rattle.scr_parse.specs.Words.{IsNatural}
use Rattle.scr_parse.specs.Limits.{is_bar}
use Rattle.scr_parse.proofs.SoundWords.{is_word_sound}
use Rattle.scr_parse.specs.Sides.{turned, Reference, plain_name, primed_name, Item, number, times, reference, true_item, false_item, More, no_more, plus, minus, Side, side, minus_side}
use Rattle.scr_parse.specs.Conds.{all_of, any_of, Lit, alone, compare, negated, nested, Conj, last_lit, lit_and, Cond, last_conj, conj_or}
use Rattle.scr_parse.specs.Events.{Change, becomes, ceases, changes, Prim, never, unguarded, guarded, Event, last_prim, prim_or, Cell, condition, event, Cells, last_cell, cell_bar, Sides, last_side, side_bar}
use Rattle.scr_parse.specs.Names.{Names, last_name, name_comma, Braced, braced, Int, plain_int, minus_int, KindOf, boolean, named_kind, Value, number_value, named_value, true_value, false_value}
use Rattle.scr_parse.specs.Readable.{are_some, are_joined, is_operand_spelt, is_item_spelt, is_side_spelt, spelt_step, is_cond_spelt, is_change_spelt, is_guard_spelt, is_prim_spelt, is_cell_spelt, is_cell_of, is_kind_spelt, is_value_spelt}

-- ---- words

-- the words are small, with at most so many bars
pub record AreSmall (bars : ℕ) (from : List Word) : Type 0 where
  pub small : list_all is_word_sound from ≡ true
  pub few : count_by is_bar from ≤ bars

-- the first is small, and so are those behind it
pub first : {n : ℕ} (word : Word) (from : List Word) → AreSmall n (word ∷ from) → is_word_sound word ≡ true
first word from k = (and_parts (is_word_sound word) (list_all is_word_sound from) k.small).0

pub behind : {n : ℕ} {word : Word} {from : List Word} → AreSmall n (word ∷ from) → AreSmall n from
behind {n} {word} {from} k =
    let counted = sum_by-cons (λ x. cond (is_bar x) 1 0) word from in
    record { small = (and_parts (is_word_sound word) (list_all is_word_sound from) k.small).1; few = omega (arith, counted, k.few) }

-- behind a bar there is one bar less
pub behind_bar : {n : ℕ} {from : List Word} → AreSmall n (w.Sign s.Bar ∷ from) → (1 ≤ n) × AreSmall (n - 1) from
behind_bar {n} {from} k =
    let counted = sum_by-cons (λ x. cond (is_bar x) 1 0) (w.Sign s.Bar) from in (
      omega (arith, counted, k.few),
      record { small = (and_parts (is_word_sound (w.Sign s.Bar)) (list_all is_word_sound from) k.small).1; few = omega (arith, counted, k.few) },
    )

-- ---- numbers

pub natural_narrow : (n : ℤ) → int_le n (pos 1000000) ≡ true → IsNatural n → is_narrow n ≡ true
natural_narrow n h k = grind (arith, ints, nat_tests)

pub turned_narrow : (n : ℤ) → is_narrow n ≡ true → is_narrow (neg_ℤ n) ≡ true
turned_narrow n h = grind (arith, ints, nat_tests)

-- ---- names

pub names_small : {n : ℕ} {from rest : List Word} {names : List (List ℕ)} → Names from names rest → AreSmall n from → (are_some is_name names ≡ true) × AreSmall n rest
names_small (last_name {name = name} {rest = rest} d) k = (and_true (is_name name) true (first (w.Name name) rest k) refl, behind k)
names_small (name_comma {name = name} {names = []} {from = from} d) k = let more = names_small d (behind (behind k)) in absurd (cc)
names_small (name_comma {name = name} {names = m ∷ ms} {from = from} d) k =
    let more = names_small d (behind (behind k)) in
    (and_true (is_name name) (list_all is_name (m ∷ ms)) (first (w.Name name) (w.Sign s.Comma ∷ from) k) more.0, more.1)

pub braced_small : {n : ℕ} {from rest : List Word} {names : List (List ℕ)} → Braced from names rest → AreSmall n from → (are_some is_name names ≡ true) × AreSmall n rest
braced_small (braced d) k = let more = names_small d (behind k) in (more.0, behind more.1)

-- ---- integers, types and values

pub int_small : {n : ℕ} {from rest : List Word} {v : ℤ} → Int from v rest → AreSmall n from → (is_narrow v ≡ true) × AreSmall n rest
int_small (plain_int {n = v} {rest = rest} i) k = (natural_narrow v (first (w.Number v) rest k) i, behind k)
int_small (minus_int {n = v} {rest = rest} i) k = (turned_narrow v (natural_narrow v (first (w.Number v) rest (behind k)) i), behind (behind k))

pub kind_small : {n : ℕ} {from rest : List Word} {kind : DraftKind} → KindOf from kind rest → AreSmall n from → (is_kind_spelt kind ≡ true) × AreSmall n rest
kind_small boolean k = (refl, behind k)
kind_small (named_kind {name = name} {rest = rest}) k = (first (w.Name name) rest k, behind k)

pub value_small : {n : ℕ} {from rest : List Word} {value : DraftValue} → Value from value rest → AreSmall n from → (is_value_spelt value ≡ true) × AreSmall n rest
value_small (number_value i) k = int_small i k
value_small (named_value {name = name} {rest = rest}) k = (first (w.Name name) rest k, behind k)
value_small true_value k = (refl, behind k)
value_small false_value k = (refl, behind k)

-- ---- sides

reference_small : {primes : Bool} {n : ℕ} {from rest : List Word} {operand : DraftOperand} → Reference primes from operand rest → AreSmall n from
    → (is_operand_spelt primes operand ≡ true) × AreSmall n rest
reference_small (plain_name {name = name} {rest = rest}) k = (first (w.Name name) rest k, behind k)
reference_small (primed_name {name = name} {rest = rest}) k = (first (w.Primed name) rest k, behind k)

item_small : {primes : Bool} {n : ℕ} {from rest : List Word} {item : DraftItem} → Item primes from item rest → AreSmall n from → (is_item_spelt primes item ≡ true) × AreSmall n rest
item_small (number {n = v} {rest = rest} i d) k = (and_true (is_narrow v) true (natural_narrow v (first (w.Number v) rest k) i) refl, behind k)
item_small {primes} (times {n = v} {from = from} {operand = operand} i p) k =
    let more = reference_small p (behind (behind k)) in
    (and_true (is_narrow v) (is_operand_spelt primes operand) (natural_narrow v (first (w.Number v) (w.Sign s.Times ∷ from) k) i) more.0, more.1)
item_small (reference p) k = reference_small p k
item_small true_item k = (refl, behind k)
item_small false_item k = (refl, behind k)

-- a minus before an item turns the sign of its factor alone
turned_small : (primes : Bool) (item : DraftItem) → is_item_spelt primes item ≡ true → is_item_spelt primes (turned item) ≡ true
turned_small primes item h =
    let parts = and_parts (is_narrow item.factor) (is_operand_spelt primes item.operand) h in
    and_true (is_narrow (neg_ℤ item.factor)) (is_operand_spelt primes item.operand) (turned_narrow item.factor parts.0) parts.1

more_small : {primes : Bool} {n : ℕ} {from rest : List Word} {items : List DraftItem} → More primes from items rest → AreSmall n from
    → (list_all (is_item_spelt primes) items ≡ true) × AreSmall n rest
more_small (no_more d e) k = (refl, k)
more_small {primes} (plus {item = item} {items = items} d ds) k =
    let one = item_small d (behind k) in
    let more = more_small ds one.1 in
    (and_true (is_item_spelt primes item) (list_all (is_item_spelt primes) items) one.0 more.0, more.1)
more_small {primes} (minus {item = item} {items = items} d ds) k =
    let one = item_small d (behind k) in
    let more = more_small ds one.1 in
    (and_true (is_item_spelt primes (turned item)) (list_all (is_item_spelt primes) items) (turned_small primes item one.0) more.0, more.1)

pub side_small : {primes : Bool} {n : ℕ} {from rest : List Word} {l : DraftSide} → Side primes from l rest → AreSmall n from → (is_side_spelt primes l ≡ true) × AreSmall n rest
side_small {primes} (side {item = item} {items = items} d ds) k =
    let one = item_small d k in
    let more = more_small ds one.1 in
    (and_true (is_item_spelt primes item) (list_all (is_item_spelt primes) items) one.0 more.0, more.1)
side_small {primes} (minus_side {item = item} {items = items} d ds) k =
    let one = item_small d (behind k) in
    let more = more_small ds one.1 in
    (and_true (is_item_spelt primes (turned item)) (list_all (is_item_spelt primes) items) (turned_small primes item one.0) more.0, more.1)

-- ---- conditions

spelt_Alone : (primes : Bool) (l : DraftSide) → is_cond_spelt primes (c.Alone l) ≡ is_side_spelt primes l
spelt_Alone primes l = ap (is_cond_spelt primes) (sym (c.rolls-Alone l)) ∙ fold-roll-DraftCond Bool (spelt_step primes) (layer.Alone l)

spelt_Compare : (primes : Bool) (l m : DraftSide) (relation : Relation) → is_cond_spelt primes (c.Compare l relation m) ≡ (is_side_spelt primes l && is_side_spelt primes m)
spelt_Compare primes l m relation = ap (is_cond_spelt primes) (sym (c.rolls-Compare l relation m)) ∙ fold-roll-DraftCond Bool (spelt_step primes) (layer.Compare l relation m)

spelt_Not : (primes : Bool) (d : DraftCond) → is_cond_spelt primes (c.Not d) ≡ is_cond_spelt primes d
spelt_Not primes d = ap (is_cond_spelt primes) (sym (c.rolls-Not d)) ∙ fold-roll-DraftCond Bool (spelt_step primes) (layer.Not d)

spelt_And : (primes : Bool) (ds : List DraftCond) → is_cond_spelt primes (c.And ds) ≡ are_joined (map (is_cond_spelt primes) ds)
spelt_And primes ds = ap (is_cond_spelt primes) (sym (c.rolls-And ds)) ∙ fold-roll-DraftCond Bool (spelt_step primes) (layer.And ds)

spelt_Or : (primes : Bool) (ds : List DraftCond) → is_cond_spelt primes (c.Or ds) ≡ are_joined (map (is_cond_spelt primes) ds)
spelt_Or primes ds = ap (is_cond_spelt primes) (sym (c.rolls-Or ds)) ∙ fold-roll-DraftCond Bool (spelt_step primes) (layer.Or ds)

two_joined : (primes : Bool) (d e : DraftCond) (ds : List DraftCond) → list_all (is_cond_spelt primes) (d ∷ e ∷ ds) ≡ true → are_joined (map (is_cond_spelt primes) (d ∷ e ∷ ds)) ≡ true
two_joined primes d e ds h = list_all-map (λ t. t) (is_cond_spelt primes) (d ∷ e ∷ ds) ∙ h

pub all_spelt : (primes : Bool) (ds : List DraftCond) → are_some (is_cond_spelt primes) ds ≡ true → is_cond_spelt primes (all_of ds) ≡ true
all_spelt primes [] h = absurd (cc)
all_spelt primes (d ∷ []) h = (and_parts (is_cond_spelt primes d) true h).0
all_spelt primes (d ∷ e ∷ ds) h = spelt_And primes (d ∷ e ∷ ds) ∙ two_joined primes d e ds h

pub any_spelt : (primes : Bool) (ds : List DraftCond) → are_some (is_cond_spelt primes) ds ≡ true → is_cond_spelt primes (any_of ds) ≡ true
any_spelt primes [] h = absurd (cc)
any_spelt primes (d ∷ []) h = (and_parts (is_cond_spelt primes d) true h).0
any_spelt primes (d ∷ e ∷ ds) h = spelt_Or primes (d ∷ e ∷ ds) ∙ two_joined primes d e ds h

-- one more in front
more_spelt : {X : Type 0} (test : X → Bool) (x : X) (xs : List X) → test x ≡ true → are_some test xs ≡ true → are_some test (x ∷ xs) ≡ true
more_spelt test x [] h k = absurd (cc)
more_spelt test x (y ∷ ys) h k = and_true (test x) (list_all test (y ∷ ys)) h k

one_spelt : {X : Type 0} (test : X → Bool) (x : X) → test x ≡ true → are_some test (x ∷ []) ≡ true
one_spelt test x h = and_true (test x) true h refl

mutual
  pub lit_small : {primes : Bool} {n : ℕ} {from rest : List Word} {d : DraftCond} → Lit primes from d rest → AreSmall n from → (is_cond_spelt primes d ≡ true) × AreSmall n rest
  lit_small {primes} (alone {l = l} d e) k = let one = side_small d k in (spelt_Alone primes l ∙ one.0, one.1)
  lit_small {primes} (compare {l = l} {m = m} {relation = relation} d e) k =
      let one = side_small d k in
      let other = side_small e (behind one.1) in
      (spelt_Compare primes l m relation ∙ and_true (is_side_spelt primes l) (is_side_spelt primes m) one.0 other.0, other.1)
  lit_small {primes} (negated {d = d} l) k = let one = lit_small l (behind k) in (spelt_Not primes d ∙ one.0, one.1)
  lit_small {primes} (nested {ds = ds} l) k = let one = cond_small l (behind k) in (any_spelt primes ds one.0, behind one.1)

  pub conj_small : {primes : Bool} {n : ℕ} {from rest : List Word} {ds : List DraftCond} → Conj primes from ds rest → AreSmall n from
      → (are_some (is_cond_spelt primes) ds ≡ true) × AreSmall n rest
  conj_small {primes} (last_lit {d = d} l e) k = let one = lit_small l k in (one_spelt (is_cond_spelt primes) d one.0, one.1)
  conj_small {primes} (lit_and {d = d} {ds = ds} l ls) k =
      let one = lit_small l k in
      let more = conj_small ls (behind one.1) in (more_spelt (is_cond_spelt primes) d ds one.0 more.0, more.1)

  pub cond_small : {primes : Bool} {n : ℕ} {from rest : List Word} {ds : List DraftCond} → Cond primes from ds rest → AreSmall n from
      → (are_some (is_cond_spelt primes) ds ≡ true) × AreSmall n rest
  cond_small {primes} (last_conj {ds = ds} l e) k = let one = conj_small l k in (one_spelt (is_cond_spelt primes) (all_of ds) (all_spelt primes ds one.0), one.1)
  cond_small {primes} (conj_or {ds = ds} {es = es} l ls) k =
      let one = conj_small l k in
      let more = cond_small ls (behind one.1) in (more_spelt (is_cond_spelt primes) (all_of ds) es (all_spelt primes ds one.0) more.0, more.1)

-- ---- events

change_small : {n : ℕ} {from rest : List Word} {d : DraftChange} → Change from d rest → AreSmall n from → (is_change_spelt d ≡ true) × AreSmall n rest
change_small (becomes {ds = ds} l) k = let one = cond_small l (behind (behind k)) in (any_spelt false ds one.0, behind one.1)
change_small (ceases {ds = ds} l) k = let one = cond_small l (behind (behind k)) in (any_spelt false ds one.0, behind one.1)
change_small (changes {name = name} {rest = rest}) k = (first (w.Name name) (w.Sign s.CloseParen ∷ rest) (behind (behind k)), behind (behind (behind (behind k))))

-- a change with a guard is not NEVER
guard_spelt : {from rest : List Word} {d : DraftChange} (guard : DraftCond) → Change from d rest → is_cond_spelt false guard ≡ true → is_guard_spelt d (Some guard) ≡ true
guard_spelt guard (becomes l) h = h
guard_spelt guard (ceases l) h = h
guard_spelt guard changes h = h

prim_small : {n : ℕ} {from rest : List Word} {p : DraftPrim} → Prim from p rest → AreSmall n from → (is_prim_spelt p ≡ true) × AreSmall n rest
prim_small never k = (refl, behind k)
prim_small (unguarded {d = d} l e) k = let one = change_small l k in (and_true (is_change_spelt d) true one.0 refl, one.1)
prim_small (guarded {d = d} {ds = ds} l ls) k =
    let one = change_small l k in
    let more = conj_small ls (behind one.1) in
    (and_true (is_change_spelt d) (is_guard_spelt d (Some (all_of ds))) one.0 (guard_spelt (all_of ds) l (all_spelt false ds more.0)), more.1)

pub event_small : {n : ℕ} {from rest : List Word} {ps : List DraftPrim} → Event from ps rest → AreSmall n from → (are_some is_prim_spelt ps ≡ true) × AreSmall n rest
event_small (last_prim {p = p} l e) k = let one = prim_small l k in (one_spelt is_prim_spelt p one.0, one.1)
event_small (prim_or {p = p} {ps = ps} l ls) k =
    let one = prim_small l k in
    let more = event_small ls (behind one.1) in (more_spelt is_prim_spelt p ps one.0 more.0, more.1)

-- ---- cells and values, to the end of the line

cell_small : {heading : Heading} {n : ℕ} {from rest : List Word} {d : DraftCell} → Cell heading from d rest → AreSmall n from → (is_cell_spelt d ≡ true) × AreSmall n rest
cell_small (condition {ds = ds} l) k = let one = cond_small l k in (any_spelt false ds one.0, one.1)
cell_small (event l) k = event_small l k

-- at most one more than there are bars
pub cells_small : {heading : Heading} {from : List Word} {ds : List DraftCell} → Cells heading from ds → (n : ℕ) → AreSmall n from
    → (are_some is_cell_spelt ds ≡ true) × (length ds ≤ n + 1)
cells_small (last_cell {d = d} l) n k = let one = cell_small l k in (one_spelt is_cell_spelt d one.0, omega arith)
cells_small (cell_bar {d = d} {ds = ds} l ls) n k =
    let one = cell_small l k in
    let bar = behind_bar one.1 in
    let more = cells_small ls (n - 1) bar.1 in (more_spelt is_cell_spelt d ds one.0 more.0, omega (arith, bar.0, more.1))

pub sides_small : {from : List Word} {ls : List DraftSide} → Sides from ls → (n : ℕ) → AreSmall n from → (are_some (is_side_spelt true) ls ≡ true) × (length ls ≤ n + 1)
sides_small (last_side {l = l} d) n k = let one = side_small d k in (one_spelt (is_side_spelt true) l one.0, omega arith)
sides_small (side_bar {l = l} {ls = ls} d ds) n k =
    let one = side_small d k in
    let bar = behind_bar one.1 in
    let more = sides_small ds (n - 1) bar.1 in (more_spelt (is_side_spelt true) l ls one.0 more.0, omega (arith, bar.0, more.1))

-- the cells are those of the heading
cell_heading : {heading : Heading} {from rest : List Word} {d : DraftCell} → Cell heading from d rest → is_cell_of heading d ≡ true
cell_heading (condition l) = refl
cell_heading (event l) = refl

pub cells_heading : {heading : Heading} {from : List Word} {ds : List DraftCell} → Cells heading from ds → list_all (is_cell_of heading) ds ≡ true
cells_heading {heading} (last_cell {d = d} l) = and_true (is_cell_of heading d) true (cell_heading l) refl
cells_heading {heading} (cell_bar {d = d} {ds = ds} l ls) = and_true (is_cell_of heading d) (list_all (is_cell_of heading) ds) (cell_heading l) (cells_heading ls)
