-- What the forms and the limits of a text give to a condition, it keeps where it is resolved.
use Rattle.std.proofs.Common.{◌≡◌, ℕ, suc, ◌≤◌, Bool, true, false, ◌&&◌, List, [], ◌∷◌, map, length, Option, Some, None, refl, sym, ap, ◌∙◌, arith}
use Rattle.std.specs.Prelude.{ℤ, nat_le, unsigned_abs}
use Rattle.std.specs.Option.{option_and_then}
use Rattle.std.specs.List.{list_all}
use Rattle.std.proofs.lemmas.Bool.{and_parts, leb-true, le-leb}
use Rattle.scr_spec.specs.declared.cond.Operand.{Operand}
use Rattle.scr_spec.specs.declared.cond.Operand.TheVariants as made
use Rattle.scr_spec.specs.declared.cond.Item.{Item}
use Rattle.scr_spec.specs.declared.cond.Expr.{Expr}
use Rattle.scr_spec.specs.declared.cond.Cond.{fold-roll-Cond}
use Rattle.scr_spec.specs.declared.cond.Cond.TheVariants as c
use Rattle.scr_spec.specs.declared.cond.Cond.TheOpen as layer
use Rattle.scr_spec.specs.Types.{is_narrow}
use Rattle.scr_spec.specs.Parts.{sides_step, sides_pass}
use Rattle.scr_spec.specs.Formed.{is_factor_formed, is_side_formed, is_unprimed, is_side_plain, joins_step, joins_several}
use Rattle.scr_spec.proofs.Passing.{and_true}
use Rattle.scr_parse.specs.declared.draft.DraftOperand.{DraftOperand}
use Rattle.scr_parse.specs.declared.draft.DraftOperand.TheVariants.{One, Truth, Plain, Primed}
use Rattle.scr_parse.specs.declared.draft.DraftItem.{DraftItem}
use Rattle.scr_parse.specs.declared.draft.DraftSide.{DraftSide}
use Rattle.scr_parse.specs.declared.draft.DraftCond.{DraftCond}
use Rattle.scr_parse.specs.Limits.{is_factor_within, is_item_within, is_side_within, within_step, is_cond_within}
use Rattle.scr_parse.specs.Readable.{are_some, are_joined, is_operand_spelt, is_item_spelt, is_side_spelt, spelt_step, is_cond_spelt}
use Rattle.scr_scope.specs.declared.meaning.Meaning.{Meaning}
use Rattle.scr_scope.specs.declared.meaning.Meaning.TheVariants as m
use Rattle.scr_scope.specs.declared.known.Known.{Known}
use Rattle.scr_scope.specs.Meanings.{meant, operand_meant}
use Rattle.scr_scope.specs.Sides.{or_one, operand_of, item_of, side_of}
use Rattle.scr_scope.specs.Conditions.{operand_cond, alone_of, cond_of}
use Rattle.scr_scope.proofs.Kept.{Follow, all_follow, length_follow, PartsKeep, cond_kept}

-- ---- a condition of one side has no sides that it keeps

truth_passes : (p : Expr → Bool) (b : Bool) → sides_pass p (c.Truth b) ≡ true
truth_passes p b = ap (sides_pass p) (sym (c.rolls-Truth b)) ∙ fold-roll-Cond Bool (sides_step p) (layer.Truth b)

operand_passes : (p : Expr → Bool) (o : Operand) → sides_pass p (operand_cond o) ≡ true
operand_passes p made.One = truth_passes p false
operand_passes p (made.Truth b) = truth_passes p b
operand_passes p (made.Constant k) = truth_passes p false
operand_passes p (made.Label owner code) = truth_passes p false
operand_passes p (made.Variable v) = ap (sides_pass p) (sym (c.rolls-Holds v)) ∙ fold-roll-Cond Bool (sides_step p) (layer.Holds v)
operand_passes p (made.Primed v) = truth_passes p false

alone_passes : (p : Expr → Bool) (known : Known) (items : List DraftItem) → sides_pass p (alone_of known items) ≡ true
alone_passes p known [] = truth_passes p false
alone_passes p known (i ∷ is) = operand_passes p (operand_of known i.operand)

-- ---- joined conditions

pub joined_all : (ts : List Bool) → are_joined ts ≡ true → list_all (λ t. t) ts ≡ true
joined_all [] h = absurd (cc)
joined_all (t ∷ []) h = absurd (cc)
joined_all (t ∷ u ∷ ts) h = h

joined_two : (ts : List Bool) → are_joined ts ≡ true → 2 ≤ length ts
joined_two [] h = absurd (cc)
joined_two (t ∷ []) h = absurd (cc)
joined_two (t ∷ u ∷ ts) h = omega arith

-- each side that is spelt and within the limits resolves to one that passes
abbrev pub SidesKeep : Known → (Expr → Bool) → Type 0
SidesKeep known p = (side : DraftSide) → is_side_spelt false side ≡ true → is_side_within side ≡ true → p (side_of known side) ≡ true

sides_keep : (known : Known) (p : Expr → Bool) → SidesKeep known p → PartsKeep known (spelt_step false) within_step (sides_step p)
sides_keep known p keep = record {
  alone = λ side h k. alone_passes p known side.items;
  compared = λ l n r h k.
      let a = and_parts (is_side_spelt false l) (is_side_spelt false n) h in
      let b = and_parts (is_side_within l) (is_side_within n) k in
      and_true _ _ (keep l (a.0) (b.0)) (keep n (a.1) (b.1));
  negated = λ r s t f h k. f h k;
  joined_by_and = λ rs ss ts f h k. all_follow f (joined_all rs h) k;
  joined_by_or = λ rs ss ts f h k. all_follow f (joined_all rs h) k;
}

pub sides_kept : (known : Known) (p : Expr → Bool) → SidesKeep known p → (d : DraftCond) → is_cond_spelt false d ≡ true → is_cond_within d ≡ true → sides_pass p (cond_of known d) ≡ true
sides_kept known p keep d h k = cond_kept known (spelt_step false) within_step (sides_step p) (sides_keep known p keep) d h k

-- ---- no name is primed

pub meaning_unprimed : (o : Option Meaning) → is_unprimed (or_one (option_and_then operand_meant o)) ≡ true
meaning_unprimed None = refl
meaning_unprimed (Some (m.Type k)) = refl
meaning_unprimed (Some (m.Constant k)) = refl
meaning_unprimed (Some (m.Label owner place)) = refl
meaning_unprimed (Some (m.Variable v)) = refl

operand_unprimed : (known : Known) (o : DraftOperand) → is_operand_spelt false o ≡ true → is_unprimed (operand_of known o) ≡ true
operand_unprimed known One h = refl
operand_unprimed known (Truth b) h = refl
operand_unprimed known (Plain n) h = meaning_unprimed (meant known n)
operand_unprimed known (Primed n) h = absurd (cc)

items_plain : (known : Known) (items : List DraftItem) → list_all (is_item_spelt false) items ≡ true → list_all (λ (item : Item). is_unprimed item.operand) (map (item_of known) items) ≡ true
items_plain known [] h = refl
items_plain known (i ∷ is) h =
    let a = and_parts (is_item_spelt false i) (list_all (is_item_spelt false) is) h in
    let b = and_parts (is_narrow i.factor) (is_operand_spelt false i.operand) (a.0) in
    and_true _ _ (operand_unprimed known i.operand (b.1)) (items_plain known is (a.1))

pub some_all : {X : Type 0} (p : X → Bool) (xs : List X) → are_some p xs ≡ true → list_all p xs ≡ true
some_all p [] h = absurd (cc)
some_all p (x ∷ xs) h = h

pub some_one : {X : Type 0} (p : X → Bool) (xs : List X) → are_some p xs ≡ true → 1 ≤ length xs
some_one p [] h = absurd (cc)
some_one p (x ∷ xs) h = omega arith

side_plain : (known : Known) (side : DraftSide) → is_side_spelt false side ≡ true → is_side_plain (side_of known side) ≡ true
side_plain known side h = items_plain known side.items (some_all (is_item_spelt false) side.items h)

-- no name of the condition is primed
pub cond_plain_kept : (known : Known) (d : DraftCond) → is_cond_spelt false d ≡ true → is_cond_within d ≡ true → sides_pass is_side_plain (cond_of known d) ≡ true
cond_plain_kept known d h k = sides_kept known is_side_plain (λ side a b. side_plain known side a) d h k

-- ---- sides and factors are within the limits

narrower : (n : ℕ) → n ≤ 1000 → n ≤ 1000000
narrower n h = omega arith

small_formed : (factor : ℤ) (o : Operand) → nat_le (unsigned_abs factor) 1000 ≡ true → is_factor_formed (record { factor = factor; operand = o }) ≡ true
small_formed factor made.One h = le-leb _ _ (narrower _ (leb-true _ _ h))
small_formed factor (made.Truth b) h = h
small_formed factor (made.Constant k) h = h
small_formed factor (made.Label owner code) h = h
small_formed factor (made.Variable v) h = h
small_formed factor (made.Primed v) h = h

factor_formed : (known : Known) (factor : ℤ) (o : DraftOperand) → is_narrow factor ≡ true → is_factor_within factor o ≡ true → is_factor_formed (record { factor = factor; operand = operand_of known o }) ≡ true
factor_formed known factor One h k = h
factor_formed known factor (Truth b) h k = small_formed factor (made.Truth b) k
factor_formed known factor (Plain n) h k = small_formed factor (operand_of known (Plain n)) k
factor_formed known factor (Primed n) h k = small_formed factor (operand_of known (Primed n)) k

items_formed : (known : Known) (primes : Bool) (items : List DraftItem) → list_all (is_item_spelt primes) items ≡ true → list_all is_item_within items ≡ true
    → list_all is_factor_formed (map (item_of known) items) ≡ true
items_formed known primes [] h k = refl
items_formed known primes (i ∷ is) h k =
    let a = and_parts (is_item_spelt primes i) (list_all (is_item_spelt primes) is) h in
    let b = and_parts (is_narrow i.factor) (is_operand_spelt primes i.operand) (a.0) in
    let l = and_parts (is_item_within i) (list_all is_item_within is) k in
    and_true _ _ (factor_formed known i.factor i.operand (b.0) (l.0)) (items_formed known primes is (a.1) (l.1))

length_resolved : (known : Known) (items : List DraftItem) → length (map (item_of known) items) ≡ length items
length_resolved known [] = refl
length_resolved known (i ∷ is) = ap suc (length_resolved known is)

-- a side has from 1 to 8 items, with factors within the limits
pub side_formed_kept : (known : Known) (primes : Bool) (side : DraftSide) → is_side_spelt primes side ≡ true → is_side_within side ≡ true → is_side_formed (side_of known side) ≡ true
side_formed_kept known primes side h k =
    let l = and_parts (nat_le (length side.items) 8) (list_all is_item_within side.items) k in
    let n = length_resolved known side.items in
    let one : nat_le 1 (length (map (item_of known) side.items)) ≡ true = ap (nat_le 1) n ∙ le-leb _ _ (some_one (is_item_spelt primes) side.items h) in
    let few : nat_le (length (map (item_of known) side.items)) 8 ≡ true = ap (λ x. nat_le x 8) n ∙ l.0 in
    and_true _ _ (and_true _ _ one few) (items_formed known primes side.items (some_all (is_item_spelt primes) side.items h) (l.1))

pub cond_formed_kept : (known : Known) (d : DraftCond) → is_cond_spelt false d ≡ true → is_cond_within d ≡ true → sides_pass is_side_formed (cond_of known d) ≡ true
cond_formed_kept known d h k = sides_kept known is_side_formed (side_formed_kept known false) d h k

-- ---- AND and OR join at least two

several : (rs ss ts : List Bool) → Follow rs ss ts → are_joined rs ≡ true → are_joined ss ≡ true → (nat_le 2 (length ts) && list_all (λ t. t) ts) ≡ true
several rs ss ts f h k =
    let two : nat_le 2 (length ts) ≡ true = ap (nat_le 2) (length_follow f) ∙ le-leb _ _ (joined_two rs h) in
    and_true _ _ two (all_follow f (joined_all rs h) (joined_all ss k))

truth_joins : (b : Bool) → joins_several (c.Truth b) ≡ true
truth_joins b = ap joins_several (sym (c.rolls-Truth b)) ∙ fold-roll-Cond Bool joins_step (layer.Truth b)

operand_joins : (o : Operand) → joins_several (operand_cond o) ≡ true
operand_joins made.One = truth_joins false
operand_joins (made.Truth b) = truth_joins b
operand_joins (made.Constant k) = truth_joins false
operand_joins (made.Label owner code) = truth_joins false
operand_joins (made.Variable v) = ap joins_several (sym (c.rolls-Holds v)) ∙ fold-roll-Cond Bool joins_step (layer.Holds v)
operand_joins (made.Primed v) = truth_joins false

alone_joins : (known : Known) (items : List DraftItem) → joins_several (alone_of known items) ≡ true
alone_joins known [] = truth_joins false
alone_joins known (i ∷ is) = operand_joins (operand_of known i.operand)

joins_keep : (known : Known) → PartsKeep known (spelt_step false) (spelt_step false) joins_step
joins_keep known = record {
  alone = λ side h k. alone_joins known side.items;
  compared = λ l n r h k. refl;
  negated = λ r s t f h k. f h k;
  joined_by_and = several;
  joined_by_or = several;
}

pub cond_joins_kept : (known : Known) (d : DraftCond) → is_cond_spelt false d ≡ true → joins_several (cond_of known d) ≡ true
cond_joins_kept known d h = cond_kept known (spelt_step false) (spelt_step false) joins_step (joins_keep known) d h h
