-- A part in front of a line is one part: what it says and what is left behind it are settled by the words.
use Rattle.std.proofs.Common.{◌≡◌, ℤ, Bool, List, [], ◌∷◌, Some, None, refl, sym, ap, ap₂, ◌∙◌, subst}
use Rattle.base.specs.declared.relation.Relation.{Relation}
use Rattle.base.specs.declared.relation.Relation.TheVariants as r
use Rattle.scr_tokens.specs.declared.word.Sign.{Sign}
use Rattle.scr_tokens.specs.declared.word.Sign.TheVariants as s
use Rattle.scr_tokens.specs.declared.word.Keyword.TheVariants as k
use Rattle.scr_tokens.specs.declared.word.Word.{Word}
use Rattle.scr_tokens.specs.declared.word.Word.TheVariants as w
use Rattle.scr_spec.specs.declared.table.Heading.{Heading}
use Rattle.scr_parse.specs.declared.draft.DraftOperand.{DraftOperand}
use Rattle.scr_parse.specs.declared.draft.DraftItem.{DraftItem}
use Rattle.scr_parse.specs.declared.draft.DraftSide.{DraftSide}
use Rattle.scr_parse.specs.declared.draft.DraftCond.{DraftCond}
use Rattle.scr_parse.specs.declared.draft.DraftCond.TheVariants as c
use Rattle.scr_parse.specs.declared.draft.DraftChange.{DraftChange}
use Rattle.scr_parse.specs.declared.draft.DraftChange.TheVariants as change
use Rattle.scr_parse.specs.declared.draft.DraftPrim.{DraftPrim}
use Rattle.scr_parse.specs.declared.draft.DraftCell.{DraftCell}
use Rattle.scr_parse.specs.declared.draft.DraftCell.TheVariants as cell
use Rattle.scr_tokens.specs.Words.{relation_sign}
use Rattle.scr_parse.specs.Sides.{item_of, side_of, turned, Reference, plain_name, primed_name, Item, number, times, reference, true_item, false_item, More, no_more, plus, minus, Side, side, minus_side}
use Rattle.scr_parse.specs.Conds.{all_of, any_of, Lit, alone, compare, negated, nested, Conj, last_lit, lit_and, Cond, last_conj, conj_or}
use Rattle.scr_parse.specs.Events.{prim_of, event_of, Change, becomes, ceases, changes, Prim, never, unguarded, guarded, Event, last_prim, prim_or, Cell, condition, event, Cells, last_cell, cell_bar, Sides, last_side, side_bar}

-- ---- words

-- the relation of a sign
relation_of : Sign → Relation
relation_of s.Differ = r.Differ
relation_of s.Less = r.Less
relation_of s.AtMost = r.AtMost
relation_of s.Greater = r.Greater
relation_of s.AtLeast = r.AtLeast
relation_of sign = r.Equal

relation_of-relation_sign : (relation : Relation) → relation_of (relation_sign relation) ≡ relation
unfolding relation_of
relation_of-relation_sign r.Equal = refl
relation_of-relation_sign r.Differ = refl
relation_of-relation_sign r.Less = refl
relation_of-relation_sign r.AtMost = refl
relation_of-relation_sign r.Greater = refl
relation_of-relation_sign r.AtLeast = refl

-- a sign is of one relation
pub relation_once : (a b : Relation) → relation_sign a ≡ relation_sign b → a ≡ b
relation_once a b e = sym (relation_of-relation_sign a) ∙ ap relation_of e ∙ relation_of-relation_sign b

-- ---- items and sides

pub reference_once : {primes : Bool} {from rest other : List Word} {a b : DraftOperand} → Reference primes from a rest → Reference primes from b other → (a ≡ b) × (rest ≡ other)
reference_once plain_name plain_name = (refl, refl)
reference_once primed_name primed_name = (refl, refl)

item_same : {n : ℤ} {a b : DraftOperand} → a ≡ b → item_of n a ≡ item_of n b
item_same {n} e = ap (λ operand. item_of n operand) e

pub item_once : {primes : Bool} {from rest other : List Word} {a b : DraftItem} → Item primes from a rest → Item primes from b other → (a ≡ b) × (rest ≡ other)
item_once (number n h) (number m g) = (refl, refl)
item_once (number n h) (times m q) = absurd (h _ refl)
item_once (number n h) (reference q) = elim q [ ]
item_once (times n p) (number m g) = absurd (g _ refl)
item_once (times n p) (times m q) = let e = reference_once p q in (item_same e.0, e.1)
item_once (times n p) (reference q) = elim q [ ]
item_once (reference p) (number m g) = elim p [ ]
item_once (reference p) (times m q) = elim p [ ]
item_once (reference p) (reference q) = let e = reference_once p q in (item_same e.0, e.1)
item_once (reference p) true_item = elim p [ ]
item_once (reference p) false_item = elim p [ ]
item_once true_item (reference q) = elim q [ ]
item_once true_item true_item = (refl, refl)
item_once false_item (reference q) = elim q [ ]
item_once false_item false_item = (refl, refl)

-- no item begins with a sign
pub no_item : {primes : Bool} {sign : Sign} {from rest : List Word} {a : DraftItem} → Item primes (w.Sign sign ∷ from) a rest → ⊥
no_item (reference p) = elim p [ ]

pub more_from : {primes : Bool} {a b rest : List Word} {items : List DraftItem} → a ≡ b → More primes b items rest → More primes a items rest
more_from {primes} {rest = rest} {items = items} e l = subst (λ from. More primes from items rest) (sym e) l

pub more_once : {primes : Bool} {from rest other : List Word} {items more : List DraftItem} → More primes from items rest → More primes from more other
    → (items ≡ more) × (rest ≡ other)
more_once (no_more h g) (no_more i j) = (refl, refl)
more_once (no_more h g) (plus m ms) = absurd (h _ refl)
more_once (no_more h g) (minus m ms) = absurd (g _ refl)
more_once (plus l ls) (no_more h g) = absurd (h _ refl)
more_once (minus l ls) (no_more h g) = absurd (g _ refl)
more_once (plus l ls) (plus m ms) = let e = item_once l m in let f = more_once ls (more_from e.1 ms) in (ap₂ (λ item items. item ∷ items) e.0 f.0, f.1)
more_once (minus l ls) (minus m ms) = let e = item_once l m in let f = more_once ls (more_from e.1 ms) in (ap₂ (λ item items. turned item ∷ items) e.0 f.0, f.1)

pub side_once : {primes : Bool} {from rest other : List Word} {a b : DraftSide} → Side primes from a rest → Side primes from b other → (a ≡ b) × (rest ≡ other)
side_once (side l ls) (side m ms) = let e = item_once l m in let f = more_once ls (more_from e.1 ms) in (ap₂ (λ item items. side_of (item ∷ items)) e.0 f.0, f.1)
side_once (side l ls) (minus_side m ms) = absurd (no_item l)
side_once (minus_side l ls) (side m ms) = absurd (no_item m)
side_once (minus_side l ls) (minus_side m ms) = let e = item_once l m in let f = more_once ls (more_from e.1 ms) in (ap₂ (λ item items. side_of (turned item ∷ items)) e.0 f.0, f.1)

-- ---- conditions

-- no side begins with a reserved word but TRUE or FALSE, or with a parenthesis
pub no_side_not : {primes : Bool} {from rest : List Word} {l : DraftSide} → Side primes (w.Reserved k.Not ∷ from) l rest → ⊥
no_side_not (side (reference p) ls) = elim p [ ]

pub no_side_open : {primes : Bool} {from rest : List Word} {l : DraftSide} → Side primes (w.Sign s.OpenParen ∷ from) l rest → ⊥
no_side_open (side l ls) = no_item l

-- the words behind a first one
pub behind : {a b : List Word} {word other : Word} → word ∷ a ≡ other ∷ b → a ≡ b
behind e = cc

pub side_from : {primes : Bool} {a b rest : List Word} {l : DraftSide} → a ≡ b → Side primes b l rest → Side primes a l rest
side_from {primes} {rest = rest} {l = l} e m = subst (λ from. Side primes from l rest) (sym e) m

pub conj_from : {primes : Bool} {a b rest : List Word} {ds : List DraftCond} → a ≡ b → Conj primes b ds rest → Conj primes a ds rest
conj_from {primes} {rest = rest} {ds = ds} e m = subst (λ from. Conj primes from ds rest) (sym e) m

pub cond_from : {primes : Bool} {a b rest : List Word} {ds : List DraftCond} → a ≡ b → Cond primes b ds rest → Cond primes a ds rest
cond_from {primes} {rest = rest} {ds = ds} e m = subst (λ from. Cond primes from ds rest) (sym e) m

front_once : {a b : List Word} {relation other : Relation} → w.Sign (relation_sign relation) ∷ a ≡ w.Sign (relation_sign other) ∷ b → relation ≡ other
front_once {relation = relation} {other = other} e = let f : relation_sign relation ≡ relation_sign other = cc in relation_once relation other f

compare_same : {l m n o : DraftSide} {relation other : Relation} → l ≡ m → relation ≡ other → n ≡ o → c.Compare l relation n ≡ c.Compare m other o
compare_same e f g = cc

mutual
  pub lit_once : {primes : Bool} {from rest other : List Word} {d e : DraftCond} → Lit primes from d rest → Lit primes from e other → (d ≡ e) × (rest ≡ other)
  lit_once (alone l h) (alone m g) = let e = side_once l m in (ap c.Alone e.0, e.1)
  lit_once (alone l h) (compare m n) = let e = side_once l m in absurd (h _ _ e.1)
  lit_once (alone l h) (negated m) = absurd (no_side_not l)
  lit_once (alone l h) (nested m) = absurd (no_side_open l)
  lit_once (compare l n) (alone m g) = let e = side_once l m in absurd (g _ _ (sym e.1))
  lit_once (compare l n) (compare m o) = let e = side_once l m in let f = side_once n (side_from (behind e.1) o) in (compare_same e.0 (front_once e.1) f.0, f.1)
  lit_once (compare l n) (negated m) = absurd (no_side_not l)
  lit_once (compare l n) (nested m) = absurd (no_side_open l)
  lit_once (negated l) (alone m g) = absurd (no_side_not m)
  lit_once (negated l) (compare m o) = absurd (no_side_not m)
  lit_once (negated l) (negated m) = let e = lit_once l m in (ap c.Not e.0, e.1)
  lit_once (nested l) (alone m g) = absurd (no_side_open m)
  lit_once (nested l) (compare m o) = absurd (no_side_open m)
  lit_once (nested l) (nested m) = let e = cond_once l m in (ap any_of e.0, behind e.1)

  pub conj_once : {primes : Bool} {from rest other : List Word} {ds es : List DraftCond} → Conj primes from ds rest → Conj primes from es other → (ds ≡ es) × (rest ≡ other)
  conj_once (last_lit l h) (last_lit m g) = let e = lit_once l m in (ap (λ d. d ∷ []) e.0, e.1)
  conj_once (last_lit l h) (lit_and m ms) = let e = lit_once l m in absurd (h _ e.1)
  conj_once (lit_and l ls) (last_lit m g) = let e = lit_once l m in absurd (g _ (sym e.1))
  conj_once (lit_and l ls) (lit_and m ms) = let e = lit_once l m in let f = conj_once ls (conj_from (behind e.1) ms) in (ap₂ (λ d ds. d ∷ ds) e.0 f.0, f.1)

  pub cond_once : {primes : Bool} {from rest other : List Word} {ds es : List DraftCond} → Cond primes from ds rest → Cond primes from es other → (ds ≡ es) × (rest ≡ other)
  cond_once (last_conj l h) (last_conj m g) = let e = conj_once l m in (ap (λ ds. all_of ds ∷ []) e.0, e.1)
  cond_once (last_conj l h) (conj_or m ms) = let e = conj_once l m in absurd (h _ e.1)
  cond_once (conj_or l ls) (last_conj m g) = let e = conj_once l m in absurd (g _ (sym e.1))
  cond_once (conj_or l ls) (conj_or m ms) = let e = conj_once l m in let f = cond_once ls (cond_from (behind e.1) ms) in (ap₂ (λ ds es. all_of ds ∷ es) e.0 f.0, f.1)

-- ---- events

pub change_once : {from rest other : List Word} {a b : DraftChange} → Change from a rest → Change from b other → (a ≡ b) × (rest ≡ other)
change_once (becomes l) (becomes m) = let e = cond_once l m in (ap (λ ds. change.Becomes (any_of ds)) e.0, behind e.1)
change_once (ceases l) (ceases m) = let e = cond_once l m in (ap (λ ds. change.Ceases (any_of ds)) e.0, behind e.1)
change_once changes changes = (refl, refl)

pub prim_once : {from rest other : List Word} {a b : DraftPrim} → Prim from a rest → Prim from b other → (a ≡ b) × (rest ≡ other)
prim_once never never = (refl, refl)
prim_once never (unguarded m g) = elim m [ ]
prim_once never (guarded m ms) = elim m [ ]
prim_once (unguarded l h) never = elim l [ ]
prim_once (unguarded l h) (unguarded m g) = let e = change_once l m in (ap (λ d. prim_of d None) e.0, e.1)
prim_once (unguarded l h) (guarded m ms) = let e = change_once l m in absurd (h _ e.1)
prim_once (guarded l ls) never = elim l [ ]
prim_once (guarded l ls) (unguarded m g) = let e = change_once l m in absurd (g _ (sym e.1))
prim_once (guarded l ls) (guarded m ms) =
    let e = change_once l m in let f = conj_once ls (conj_from (behind e.1) ms) in (ap₂ (λ d ds. prim_of d (Some (all_of ds))) e.0 f.0, f.1)

pub event_from : {a b rest : List Word} {ps : List DraftPrim} → a ≡ b → Event b ps rest → Event a ps rest
event_from {rest = rest} {ps = ps} e m = subst (λ from. Event from ps rest) (sym e) m

pub event_once : {from rest other : List Word} {ps qs : List DraftPrim} → Event from ps rest → Event from qs other → (ps ≡ qs) × (rest ≡ other)
event_once (last_prim l h) (last_prim m g) = let e = prim_once l m in (ap (λ p. p ∷ []) e.0, e.1)
event_once (last_prim l h) (prim_or m ms) = let e = prim_once l m in absurd (h _ e.1)
event_once (prim_or l ls) (last_prim m g) = let e = prim_once l m in absurd (g _ (sym e.1))
event_once (prim_or l ls) (prim_or m ms) = let e = prim_once l m in let f = event_once ls (event_from (behind e.1) ms) in (ap₂ (λ p ps. p ∷ ps) e.0 f.0, f.1)

-- ---- cells and values, to the end of the line

pub cell_once : {heading : Heading} {from rest other : List Word} {a b : DraftCell} → Cell heading from a rest → Cell heading from b other → (a ≡ b) × (rest ≡ other)
cell_once (condition l) (condition m) = let e = cond_once l m in (ap (λ ds. cell.Cond (any_of ds)) e.0, e.1)
cell_once (event l) (event m) = let e = event_once l m in (ap (λ ps. cell.Event (event_of ps)) e.0, e.1)

pub cells_from : {heading : Heading} {a b : List Word} {ds : List DraftCell} → a ≡ b → Cells heading b ds → Cells heading a ds
cells_from {heading} {ds = ds} e m = subst (λ from. Cells heading from ds) (sym e) m

pub cells_once : {heading : Heading} {from : List Word} {cs ds : List DraftCell} → Cells heading from cs → Cells heading from ds → cs ≡ ds
cells_once (last_cell l) (last_cell m) = ap (λ d. d ∷ []) (cell_once l m).0
cells_once (last_cell l) (cell_bar m ms) = let e = cell_once l m in cc (e.1)
cells_once (cell_bar l ls) (last_cell m) = let e = cell_once l m in cc (e.1)
cells_once (cell_bar l ls) (cell_bar m ms) = let e = cell_once l m in ap₂ (λ d ds. d ∷ ds) e.0 (cells_once ls (cells_from (behind e.1) ms))

pub sides_from : {a b : List Word} {ls : List DraftSide} → a ≡ b → Sides b ls → Sides a ls
sides_from {ls = ls} e m = subst (λ from. Sides from ls) (sym e) m

pub sides_once : {from : List Word} {ls ms : List DraftSide} → Sides from ls → Sides from ms → ls ≡ ms
sides_once (last_side l) (last_side m) = ap (λ l. l ∷ []) (side_once l m).0
sides_once (last_side l) (side_bar m ms) = let e = side_once l m in cc (e.1)
sides_once (side_bar l ls) (last_side m) = let e = side_once l m in cc (e.1)
sides_once (side_bar l ls) (side_bar m ms) = let e = side_once l m in ap₂ (λ l ls. l ∷ ls) e.0 (sides_once ls (sides_from (behind e.1) ms))
