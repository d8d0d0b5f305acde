-- How deep the conditions of a line are: a line opens at most 64 parentheses at each place, and a part of it has at most
-- 64 NOT.
use Rattle.std.proofs.Common.{◌≡◌, ℕ, suc, ◌+◌, ◌-◌, ◌≤◌, max, Bool, true, false, ◌&&◌, List, [], ◌∷◌, map, refl, sym, ap, subst, ◌∙◌, arith}
use Rattle.std.specs.Prelude.{nat_le}
use Rattle.std.specs.List.{list_all}
use Rattle.std.proofs.lemmas.Bool.{and_parts, leb-true}
use Rattle.std.proofs.lemmas.Bool.Decides.{nat_tests}
use Rattle.base.specs.declared.relation.Relation.{Relation}
use Rattle.base.specs.declared.relation.Relation.TheVariants as r
use Rattle.scr_tokens.specs.declared.word.Word.{Word}
use Rattle.scr_tokens.specs.declared.word.Word.TheVariants as w
use Rattle.scr_tokens.specs.declared.word.Sign.TheVariants as s
use Rattle.scr_tokens.specs.declared.word.Keyword.TheVariants as word
use Rattle.scr_spec.specs.Depth.{greatest}
use Rattle.scr_spec.specs.declared.table.Heading.{Heading}
use Rattle.scr_parse.specs.declared.draft.DraftOperand.{DraftOperand}
use Rattle.scr_parse.specs.declared.draft.DraftItem.{DraftItem}
use Rattle.scr_parse.specs.declared.draft.DraftSide.{DraftSide}
use Rattle.scr_parse.specs.declared.draft.DraftCond.{DraftCond, fold-DraftCond, fold-roll-DraftCond}
use Rattle.scr_parse.specs.declared.draft.DraftCond.TheVariants as c
use Rattle.scr_parse.specs.declared.draft.DraftCond.TheOpen as layer
use Rattle.scr_parse.specs.declared.draft.DraftChange.{DraftChange}
use Rattle.scr_parse.specs.declared.draft.DraftPrim.{DraftPrim}
use Rattle.scr_parse.specs.declared.draft.DraftCell.{DraftCell}
use Rattle.scr_tokens.specs.Words.{relation_sign}
use Rattle.scr_parse.specs.Limits.{depth_after, is_nested_within, nots_after, is_negated_within}
use Rattle.scr_parse.specs.Nesting.{nots_step, nots_deep, ands_step, ands_deep, ors_step, ors_deep, is_shallow, is_change_shallow, is_prim_shallow, is_cell_shallow}
use Rattle.scr_spec.proofs.Passing.{and_true}
use Rattle.scr_parse.specs.Sides.{Reference, plain_name, primed_name, Item, number, times, reference, true_item, false_item, More, no_more, plus, minus, Side, side, minus_side}
use Rattle.scr_parse.specs.Conds.{all_of, any_of, Lit, alone, compare, negated, nested, Conj, last_lit, lit_and, Cond, last_conj, conj_or}
use Rattle.scr_parse.specs.Events.{Change, becomes, ceases, changes, Prim, never, unguarded, guarded, Event, last_prim, prim_or, Cell, condition, event, Cells, last_cell, cell_bar}
use Rattle.scr_parse.specs.Names.{Names, last_name, name_comma}

-- ---- words

-- from here on the limits are kept, where so many parentheses are open and so many NOT came in this part
pub record IsLimited (depth nots : ℕ) (from : List Word) : Type 0 where
  pub nested : is_nested_within depth from ≡ true
  pub negated : is_negated_within nots from ≡ true
  pub few_open : depth ≤ 64
  pub few_nots : nots ≤ 64

-- behind a word
pub step : {depth nots : ℕ} (word : Word) (from : List Word) → IsLimited depth nots (word ∷ from) → IsLimited (depth_after depth word) (nots_after nots word) from
step {depth} {nots} word from k =
    let open_parts = and_parts (nat_le (depth_after depth word) 64) (is_nested_within (depth_after depth word) from) k.nested in
    let nots_parts = and_parts (nat_le (nots_after nots word) 64) (is_negated_within (nots_after nots word) from) k.negated in
    record { nested = open_parts.1; negated = nots_parts.1; few_open = leb-true _ _ open_parts.0; few_nots = leb-true _ _ nots_parts.0 }

-- behind a relation
relation_step : {depth nots : ℕ} (relation : Relation) (from : List Word) → IsLimited depth nots (w.Sign (relation_sign relation) ∷ from) → IsLimited depth nots from
relation_step r.Equal from k = step (w.Sign s.Equal) from k
relation_step r.Differ from k = step (w.Sign s.Differ) from k
relation_step r.Less from k = step (w.Sign s.Less) from k
relation_step r.AtMost from k = step (w.Sign s.AtMost) from k
relation_step r.Greater from k = step (w.Sign s.Greater) from k
relation_step r.AtLeast from k = step (w.Sign s.AtLeast) from k

-- behind a parenthesis that closes
closed : {depth nots : ℕ} (from : List Word) → IsLimited (suc depth) nots (w.Sign s.CloseParen ∷ from) → IsLimited depth nots from
closed {depth} {nots} from k =
    let same : suc depth - 1 ≡ depth = omega arith in
    subst (λ d. IsLimited d nots from) same (step (w.Sign s.CloseParen) from k)

-- ---- sides open nothing

reference_limited : {primes : Bool} {depth nots : ℕ} {from rest : List Word} {operand : DraftOperand} → Reference primes from operand rest → IsLimited depth nots from
    → IsLimited depth nots rest
reference_limited (plain_name {name = name} {rest = rest}) k = step (w.Name name) rest k
reference_limited (primed_name {name = name} {rest = rest}) k = step (w.Primed name) rest k

item_limited : {primes : Bool} {depth nots : ℕ} {from rest : List Word} {item : DraftItem} → Item primes from item rest → IsLimited depth nots from → IsLimited depth nots rest
item_limited (number {n = v} {rest = rest} i d) k = step (w.Number v) rest k
item_limited (times {n = v} {from = from} i p) k = reference_limited p (step (w.Sign s.Times) from (step (w.Number v) (w.Sign s.Times ∷ from) k))
item_limited (reference p) k = reference_limited p k
item_limited (true_item {rest = rest}) k = step (w.Reserved word.True) rest k
item_limited (false_item {rest = rest}) k = step (w.Reserved word.False) rest k

more_limited : {primes : Bool} {depth nots : ℕ} {from rest : List Word} {items : List DraftItem} → More primes from items rest → IsLimited depth nots from → IsLimited depth nots rest
more_limited (no_more d e) k = k
more_limited (plus {from = from} d ds) k = more_limited ds (item_limited d (step (w.Sign s.Plus) from k))
more_limited (minus {from = from} d ds) k = more_limited ds (item_limited d (step (w.Sign s.Minus) from k))

side_limited : {primes : Bool} {depth nots : ℕ} {from rest : List Word} {l : DraftSide} → Side primes from l rest → IsLimited depth nots from → IsLimited depth nots rest
side_limited (side d ds) k = more_limited ds (item_limited d k)
side_limited (minus_side {from = from} d ds) k = more_limited ds (item_limited d (step (w.Sign s.Minus) from k))

-- ---- the depth of a condition, by that of its members

fold_Alone : (l : DraftSide) (f : layer.DraftCond-F ℕ → ℕ) → fold-DraftCond ℕ f (c.Alone l) ≡ f (layer.Alone l)
fold_Alone l f = ap (fold-DraftCond ℕ f) (sym (c.rolls-Alone l)) ∙ fold-roll-DraftCond ℕ f (layer.Alone l)

fold_Compare : (l m : DraftSide) (relation : Relation) (f : layer.DraftCond-F ℕ → ℕ) → fold-DraftCond ℕ f (c.Compare l relation m) ≡ f (layer.Compare l relation m)
fold_Compare l m relation f = ap (fold-DraftCond ℕ f) (sym (c.rolls-Compare l relation m)) ∙ fold-roll-DraftCond ℕ f (layer.Compare l relation m)

fold_Not : (d : DraftCond) (f : layer.DraftCond-F ℕ → ℕ) → fold-DraftCond ℕ f (c.Not d) ≡ f (layer.Not (fold-DraftCond ℕ f d))
fold_Not d f = ap (fold-DraftCond ℕ f) (sym (c.rolls-Not d)) ∙ fold-roll-DraftCond ℕ f (layer.Not d)

fold_And : (ds : List DraftCond) (f : layer.DraftCond-F ℕ → ℕ) → fold-DraftCond ℕ f (c.And ds) ≡ f (layer.And (map (fold-DraftCond ℕ f) ds))
fold_And ds f = ap (fold-DraftCond ℕ f) (sym (c.rolls-And ds)) ∙ fold-roll-DraftCond ℕ f (layer.And ds)

fold_Or : (ds : List DraftCond) (f : layer.DraftCond-F ℕ → ℕ) → fold-DraftCond ℕ f (c.Or ds) ≡ f (layer.Or (map (fold-DraftCond ℕ f) ds))
fold_Or ds f = ap (fold-DraftCond ℕ f) (sym (c.rolls-Or ds)) ∙ fold-roll-DraftCond ℕ f (layer.Or ds)

-- how deep the members of a list are
abbrev nots_in : List DraftCond → ℕ
nots_in ds = greatest (map nots_deep ds)

abbrev ands_in : List DraftCond → ℕ
ands_in ds = greatest (map ands_deep ds)

abbrev ors_in : List DraftCond → ℕ
ors_in ds = greatest (map ors_deep ds)

-- one member is no deeper by itself
alone_most : (n m : ℕ) → n ≤ m → n ≤ max n m
alone_most n m h = omega arith

all_nots : (ds : List DraftCond) → nots_deep (all_of ds) ≤ nots_in ds
all_nots [] = let e = fold_And [] nots_step in omega (arith, e)
all_nots (d ∷ []) = omega arith
all_nots (d ∷ e ∷ ds) = let g = fold_And (d ∷ e ∷ ds) nots_step in omega (arith, g)

all_ands : (ds : List DraftCond) → ands_deep (all_of ds) ≤ ands_in ds + 1
all_ands [] = let e = fold_And [] ands_step in omega (arith, e)
all_ands (d ∷ []) = omega arith
all_ands (d ∷ e ∷ ds) = let g = fold_And (d ∷ e ∷ ds) ands_step in omega (arith, g)

all_ors : (ds : List DraftCond) → ors_deep (all_of ds) ≤ ors_in ds
all_ors [] = let e = fold_And [] ors_step in omega (arith, e)
all_ors (d ∷ []) = omega arith
all_ors (d ∷ e ∷ ds) = let g = fold_And (d ∷ e ∷ ds) ors_step in omega (arith, g)

any_nots : (ds : List DraftCond) → nots_deep (any_of ds) ≤ nots_in ds
any_nots [] = let e = fold_Or [] nots_step in omega (arith, e)
any_nots (d ∷ []) = omega arith
any_nots (d ∷ e ∷ ds) = let g = fold_Or (d ∷ e ∷ ds) nots_step in omega (arith, g)

any_ands : (ds : List DraftCond) → ands_deep (any_of ds) ≤ ands_in ds
any_ands [] = let e = fold_Or [] ands_step in omega (arith, e)
any_ands (d ∷ []) = omega arith
any_ands (d ∷ e ∷ ds) = let g = fold_Or (d ∷ e ∷ ds) ands_step in omega (arith, g)

any_ors : (ds : List DraftCond) → ors_deep (any_of ds) ≤ ors_in ds + 1
any_ors [] = let e = fold_Or [] ors_step in omega (arith, e)
any_ors (d ∷ []) = omega arith
any_ors (d ∷ e ∷ ds) = let g = fold_Or (d ∷ e ∷ ds) ors_step in omega (arith, g)

-- ---- conditions

-- a condition that is read where so many parentheses are open, behind so many NOT, is at most so deep, and its NOT are
-- among those behind it
pub record IsDeep (depth nots ands ors used most : ℕ) (rest : List Word) : Type 0 where
  pub few_ands : ands + depth ≤ most
  pub few_ors : ors + depth ≤ 64
  pub now : ℕ
  pub counted : nots + used ≤ now
  pub left : IsLimited depth now rest

abbrev LitDeep : ℕ → ℕ → DraftCond → List Word → Type 0
LitDeep depth nots d rest = IsDeep depth nots (ands_deep d) (ors_deep d) (nots_deep d) 64 rest

abbrev AllDeep : ℕ → ℕ → ℕ → List DraftCond → List Word → Type 0
AllDeep most depth nots ds rest = IsDeep depth nots (ands_in ds) (ors_in ds) (nots_in ds) most rest

alone_deep : (depth nots : ℕ) (l : DraftSide) (rest : List Word) → IsLimited depth nots rest → LitDeep depth nots (c.Alone l) rest
alone_deep depth nots l rest k =
    let ands = fold_Alone l ands_step in
    let ors = fold_Alone l ors_step in
    let used = fold_Alone l nots_step in
    record { few_ands = omega (arith, ands, k.few_open); few_ors = omega (arith, ors, k.few_open); now = nots; counted = omega (arith, used); left = k }

compare_deep : (depth nots : ℕ) (l m : DraftSide) (relation : Relation) (rest : List Word) → IsLimited depth nots rest → LitDeep depth nots (c.Compare l relation m) rest
compare_deep depth nots l m relation rest k =
    let ands = fold_Compare l m relation ands_step in
    let ors = fold_Compare l m relation ors_step in
    let used = fold_Compare l m relation nots_step in
    record { few_ands = omega (arith, ands, k.few_open); few_ors = omega (arith, ors, k.few_open); now = nots; counted = omega (arith, used); left = k }

not_deep : (depth nots : ℕ) (d : DraftCond) (rest : List Word) → LitDeep depth (suc nots) d rest → LitDeep depth nots (c.Not d) rest
not_deep depth nots d rest k =
    let ands = fold_Not d ands_step in
    let ors = fold_Not d ors_step in
    let used = fold_Not d nots_step in
    record { few_ands = omega (arith, ands, k.few_ands); few_ors = omega (arith, ors, k.few_ors); now = k.now; counted = omega (arith, used, k.counted); left = k.left }

nested_deep : (depth nots : ℕ) (ds : List DraftCond) (rest : List Word) → AllDeep 65 (suc depth) nots ds (w.Sign s.CloseParen ∷ rest) → LitDeep depth nots (any_of ds) rest
nested_deep depth nots ds rest k =
    record {
      few_ands = omega (arith, any_ands ds, k.few_ands);
      few_ors = omega (arith, any_ors ds, k.few_ors);
      now = k.now;
      counted = omega (arith, any_nots ds, k.counted);
      left = closed rest k.left;
    }

one_deep : (depth nots : ℕ) (d : DraftCond) (rest : List Word) → LitDeep depth nots d rest → AllDeep 64 depth nots (d ∷ []) rest
one_deep depth nots d rest k =
    record { few_ands = omega (arith, k.few_ands); few_ors = omega (arith, k.few_ors); now = k.now; counted = omega (arith, k.counted); left = k.left }

and_deep : (depth nots : ℕ) (d : DraftCond) (ds : List DraftCond) (mid rest : List Word) (one : LitDeep depth nots d mid) → AllDeep 64 depth one.now ds rest
    → AllDeep 64 depth nots (d ∷ ds) rest
and_deep depth nots d ds mid rest one k =
    record {
      few_ands = omega (arith, one.few_ands, k.few_ands);
      few_ors = omega (arith, one.few_ors, k.few_ors);
      now = k.now;
      counted = omega (arith, one.counted, k.counted);
      left = k.left;
    }

conj_one_deep : (depth nots : ℕ) (ds : List DraftCond) (rest : List Word) → AllDeep 64 depth nots ds rest → AllDeep 65 depth nots (all_of ds ∷ []) rest
conj_one_deep depth nots ds rest k =
    record {
      few_ands = omega (arith, all_ands ds, k.few_ands);
      few_ors = omega (arith, all_ors ds, k.few_ors);
      now = k.now;
      counted = omega (arith, all_nots ds, k.counted);
      left = k.left;
    }

or_deep : (depth nots : ℕ) (ds es : List DraftCond) (mid rest : List Word) (one : AllDeep 64 depth nots ds mid) → AllDeep 65 depth one.now es rest
    → AllDeep 65 depth nots (all_of ds ∷ es) rest
or_deep depth nots ds es mid rest one k =
    record {
      few_ands = omega (arith, all_ands ds, one.few_ands, k.few_ands);
      few_ors = omega (arith, all_ors ds, one.few_ors, k.few_ors);
      now = k.now;
      counted = omega (arith, all_nots ds, one.counted, k.counted);
      left = k.left;
    }

mutual
  pub lit_deep : {from rest : List Word} {d : DraftCond} → Lit false from d rest → (depth nots : ℕ) → IsLimited depth nots from → LitDeep depth nots d rest
  lit_deep {rest = rest} (alone {l = l} d e) depth nots k = alone_deep depth nots l rest (side_limited d k)
  lit_deep {rest = rest} (compare {mid = mid} {l = l} {m = m} {relation = relation} d e) depth nots k =
      compare_deep depth nots l m relation rest (side_limited e (relation_step relation mid (side_limited d k)))
  lit_deep {rest = rest} (negated {from = from} {d = d} l) depth nots k = not_deep depth nots d rest (lit_deep l depth (suc nots) (step (w.Reserved word.Not) from k))
  lit_deep {rest = rest} (nested {from = from} {ds = ds} l) depth nots k = nested_deep depth nots ds rest (cond_deep l (suc depth) nots (step (w.Sign s.OpenParen) from k))

  pub conj_deep : {from rest : List Word} {ds : List DraftCond} → Conj false from ds rest → (depth nots : ℕ) → IsLimited depth nots from → AllDeep 64 depth nots ds rest
  conj_deep {rest = rest} (last_lit {d = d} l e) depth nots k = one_deep depth nots d rest (lit_deep l depth nots k)
  conj_deep {rest = rest} (lit_and {mid = mid} {d = d} {ds = ds} l ls) depth nots k =
      let one = lit_deep l depth nots k in
      and_deep depth nots d ds (w.Reserved word.And ∷ mid) rest one (conj_deep ls depth one.now (step (w.Reserved word.And) mid one.left))

  pub cond_deep : {from rest : List Word} {ds : List DraftCond} → Cond false from ds rest → (depth nots : ℕ) → IsLimited depth nots from → AllDeep 65 depth nots ds rest
  cond_deep {rest = rest} (last_conj {ds = ds} l e) depth nots k = conj_one_deep depth nots ds rest (conj_deep l depth nots k)
  cond_deep {rest = rest} (conj_or {mid = mid} {ds = ds} {es = es} l ls) depth nots k =
      let one = conj_deep l depth nots k in
      or_deep depth nots ds es (w.Reserved word.Or ∷ mid) rest one (cond_deep ls depth one.now (step (w.Reserved word.Or) mid one.left))

-- within the limits of a path
three : (a b d : ℕ) → a ≤ 64 → b ≤ 65 → d ≤ 65 → (nat_le a 64 && nat_le b 65 && nat_le d 65) ≡ true
three a b d h g i = grind (arith, nat_tests)

any_shallow : (depth nots : ℕ) (ds : List DraftCond) (rest : List Word) → AllDeep 65 depth nots ds rest → is_shallow (any_of ds) ≡ true
any_shallow depth nots ds rest k =
    three (nots_deep (any_of ds)) (ands_deep (any_of ds)) (ors_deep (any_of ds)) (omega (arith, any_nots ds, k.counted, k.left.few_nots)) (omega (arith, any_ands ds, k.few_ands)) (omega (arith, any_ors ds, k.few_ors))

all_shallow : (depth nots : ℕ) (ds : List DraftCond) (rest : List Word) → AllDeep 64 depth nots ds rest → is_shallow (all_of ds) ≡ true
all_shallow depth nots ds rest k =
    three (nots_deep (all_of ds)) (ands_deep (all_of ds)) (ors_deep (all_of ds)) (omega (arith, all_nots ds, k.counted, k.left.few_nots)) (omega (arith, all_ands ds, k.few_ands)) (omega (arith, all_ors ds, k.few_ors))

-- ---- events, behind no parenthesis

-- some number of NOT came in this part
pub record IsOutside (from : List Word) : Type 0 where
  pub nots : ℕ
  pub limited : IsLimited 0 nots from

outside : {nots : ℕ} (word : Word) (from : List Word) → depth_after 0 word ≡ 0 → IsLimited 0 nots (word ∷ from) → IsOutside from
outside {nots} word from e k = record { nots = nots_after nots word; limited = subst (λ d. IsLimited d (nots_after nots word) from) e (step word from k) }

-- behind a word that opens nothing
pub past : (word : Word) (from : List Word) → depth_after 0 word ≡ 0 → IsOutside (word ∷ from) → IsOutside from
past word from e k = outside word from e k.limited

change_deep : {from rest : List Word} {d : DraftChange} → Change from d rest → IsOutside from → (is_change_shallow d ≡ true) × IsOutside rest
change_deep {rest = rest} (becomes {from = from} {ds = ds} l) k =
    let opened = step (w.Sign s.OpenParen) from (step (w.Sign s.AtT) (w.Sign s.OpenParen ∷ from) k.limited) in
    let inside = cond_deep l 1 k.nots opened in
    (any_shallow 1 k.nots ds (w.Sign s.CloseParen ∷ rest) inside, record { nots = inside.now; limited = closed rest inside.left })
change_deep {rest = rest} (ceases {from = from} {ds = ds} l) k =
    let opened = step (w.Sign s.OpenParen) from (step (w.Sign s.AtF) (w.Sign s.OpenParen ∷ from) k.limited) in
    let inside = cond_deep l 1 k.nots opened in
    (any_shallow 1 k.nots ds (w.Sign s.CloseParen ∷ rest) inside, record { nots = inside.now; limited = closed rest inside.left })
change_deep {rest = rest} (changes {name = name}) k =
    let named = step (w.Sign s.OpenParen) (w.Name name ∷ w.Sign s.CloseParen ∷ rest)
    (step (w.Sign s.AtC) (w.Sign s.OpenParen ∷ w.Name name ∷ w.Sign s.CloseParen ∷ rest) k.limited) in
    (refl, record { nots = k.nots; limited = closed rest (step (w.Name name) (w.Sign s.CloseParen ∷ rest) named) })

prim_deep : {from rest : List Word} {p : DraftPrim} → Prim from p rest → IsOutside from → (is_prim_shallow p ≡ true) × IsOutside rest
prim_deep (never {rest = rest}) k = (refl, past (w.Reserved word.Never) rest refl k)
prim_deep (unguarded {d = d} l e) k = let one = change_deep l k in (and_true (is_change_shallow d) true one.0 refl, one.1)
prim_deep {rest = rest} (guarded {mid = mid} {d = d} {ds = ds} l ls) k =
    let one = change_deep l k in
    let from = past (w.Reserved word.When) mid refl one.1 in
    let guard = conj_deep ls 0 from.nots from.limited in
    (and_true (is_change_shallow d) (is_shallow (all_of ds)) one.0 (all_shallow 0 from.nots ds rest guard), record { nots = guard.now; limited = guard.left })

pub event_deep : {from rest : List Word} {ps : List DraftPrim} → Event from ps rest → IsOutside from → (list_all is_prim_shallow ps ≡ true) × IsOutside rest
event_deep (last_prim {p = p} l e) k = let one = prim_deep l k in (and_true (is_prim_shallow p) true one.0 refl, one.1)
event_deep (prim_or {mid = mid} {p = p} {ps = ps} l ls) k =
    let one = prim_deep l k in
    let more = event_deep ls (past (w.Reserved word.Or) mid refl one.1) in (and_true (is_prim_shallow p) (list_all is_prim_shallow ps) one.0 more.0, more.1)

-- ---- cells

cell_deep : {heading : Heading} {from rest : List Word} {d : DraftCell} → Cell heading from d rest → IsOutside from → (is_cell_shallow d ≡ true) × IsOutside rest
cell_deep {rest = rest} (condition {ds = ds} l) k =
    let inside = cond_deep l 0 k.nots k.limited in
    (any_shallow 0 k.nots ds rest inside, record { nots = inside.now; limited = inside.left })
cell_deep (event l) k = event_deep l k

pub cells_deep : {heading : Heading} {from : List Word} {ds : List DraftCell} → Cells heading from ds → IsOutside from → list_all is_cell_shallow ds ≡ true
cells_deep (last_cell {d = d} l) k = and_true (is_cell_shallow d) true (cell_deep l k).0 refl
cells_deep (cell_bar {mid = mid} {d = d} {ds = ds} l ls) k =
    let one = cell_deep l k in
    and_true (is_cell_shallow d) (list_all is_cell_shallow ds) one.0 (cells_deep ls (past (w.Sign s.Bar) mid refl one.1))

-- ---- names

pub names_outside : {from rest : List Word} {names : List (List ℕ)} → Names from names rest → IsOutside from → IsOutside rest
names_outside (last_name {name = name} {rest = rest} d) k = past (w.Name name) rest refl k
names_outside (name_comma {name = name} {from = from} d) k = names_outside d (past (w.Sign s.Comma) from refl (past (w.Name name) (w.Sign s.Comma ∷ from) refl k))
