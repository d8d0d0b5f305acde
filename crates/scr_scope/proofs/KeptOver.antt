-- A resolved side or condition is one over the specification, where the declared names stand for what is there.
use Rattle.std.proofs.Common.{◌≡◌, Bool, true, false, List, [], ◌∷◌, map, Option, Some, None, refl, sym, ap, ◌∙◌}
use Rattle.std.specs.Option.{option_map, option_map_or, option_and_then}
use Rattle.std.specs.List.{list_all}
use Rattle.std.proofs.lemmas.Bool.{and_parts}
use Rattle.scr_spec.specs.Data.{Data}
use Rattle.scr_spec.specs.declared.cond.Operand.{Operand}
use Rattle.scr_spec.specs.declared.cond.Operand.TheVariants as made
use Rattle.scr_spec.specs.declared.cond.Cond.{fold-roll-Cond}
use Rattle.scr_spec.specs.declared.cond.Cond.TheVariants as c
use Rattle.scr_spec.specs.declared.cond.Cond.TheOpen as layer
use Rattle.scr_spec.specs.Types.{is_narrow}
use Rattle.scr_spec.specs.Over.{is_operand_over, is_item_over, is_side_over, over_step, is_cond_over}
use Rattle.scr_spec.proofs.Passing.{and_true}
use Rattle.scr_parse.specs.declared.draft.DraftOperand.{DraftOperand}
use Rattle.scr_parse.specs.declared.draft.DraftOperand.TheVariants.{One, Truth, Plain, Primed}
use Rattle.scr_parse.specs.declared.draft.DraftItem.{DraftItem}
use Rattle.scr_parse.specs.declared.draft.DraftSide.{DraftSide}
use Rattle.scr_parse.specs.declared.draft.DraftCond.{DraftCond}
use Rattle.scr_parse.specs.Readable.{is_operand_spelt, is_item_spelt, is_side_spelt, spelt_step, is_cond_spelt}
use Rattle.scr_scope.specs.declared.meaning.Meaning.{Meaning}
use Rattle.scr_scope.specs.declared.meaning.Meaning.TheVariants as m
use Rattle.scr_scope.specs.declared.known.Known.{Known}
use Rattle.scr_scope.specs.Meanings.{seen, meant, operand_meant, variable_meant}
use Rattle.scr_scope.specs.Sides.{or_one, operand_of, item_of, side_of, is_narrow_side}
use Rattle.scr_scope.specs.Conditions.{narrow_step, is_narrow_cond, operand_cond, alone_of, cond_of}
use Rattle.scr_scope.proofs.Kept.{all_follow, PartsKeep, cond_kept}
use Rattle.scr_scope.proofs.KeptForms.{joined_all, some_all}
use Rattle.scr_scope.proofs.There.{is_there, NamesThere, meant_there}

-- ---- operands

plain_over : (spec : Data) (o : Option Meaning) → option_map_or (is_there spec) o true ≡ true → is_operand_over spec (or_one (option_and_then operand_meant o)) ≡ true
plain_over spec None h = refl
plain_over spec (Some (m.Type k)) h = refl
plain_over spec (Some (m.Constant k)) h = h
plain_over spec (Some (m.Label owner place)) h = h
plain_over spec (Some (m.Variable v)) h = h

primed_over : (spec : Data) (o : Option Meaning) → option_map_or (is_there spec) o true ≡ true → is_operand_over spec (or_one (option_map made.Primed (option_and_then variable_meant o))) ≡ true
primed_over spec None h = refl
primed_over spec (Some (m.Type k)) h = refl
primed_over spec (Some (m.Constant k)) h = refl
primed_over spec (Some (m.Label owner place)) h = refl
primed_over spec (Some (m.Variable v)) h = h

operand_over : (known : Known) → NamesThere known → (o : DraftOperand) → is_operand_over (seen known) (operand_of known o) ≡ true
operand_over known there One = refl
operand_over known there (Truth b) = refl
operand_over known there (Plain n) = plain_over (seen known) (meant known n) (meant_there known there n)
operand_over known there (Primed n) = primed_over (seen known) (meant known n) (meant_there known there n)

-- ---- sides

items_over : (known : Known) → NamesThere known → (primes : Bool) (items : List DraftItem) → list_all (is_item_spelt primes) items ≡ true
    → list_all (is_item_over (seen known)) (map (item_of known) items) ≡ true
items_over known there primes [] h = refl
items_over known there primes (i ∷ is) h =
    let p = and_parts (is_item_spelt primes i) (list_all (is_item_spelt primes) is) h in
    let narrow = (and_parts (is_narrow i.factor) (is_operand_spelt primes i.operand) (p.0)).0 in
    and_true _ _ (and_true _ _ (operand_over known there i.operand) narrow) (items_over known there primes is (p.1))

-- a side that is spelt and within the bound
pub side_over_kept : (known : Known) → NamesThere known → (primes : Bool) (side : DraftSide) → is_side_spelt primes side ≡ true → is_narrow_side known side ≡ true
    → is_side_over (seen known) (side_of known side) ≡ true
side_over_kept known there primes side h k = and_true _ _ (items_over known there primes side.items (some_all (is_item_spelt primes) side.items h)) k

-- ---- conditions

truth_over : (spec : Data) (b : Bool) → is_cond_over spec (c.Truth b) ≡ true
truth_over spec b = ap (is_cond_over spec) (sym (c.rolls-Truth b)) ∙ fold-roll-Cond Bool (over_step spec) (layer.Truth b)

holds_over : (spec : Data) (o : Operand) → is_operand_over spec o ≡ true → is_cond_over spec (operand_cond o) ≡ true
holds_over spec made.One h = truth_over spec false
holds_over spec (made.Truth b) h = truth_over spec b
holds_over spec (made.Constant k) h = truth_over spec false
holds_over spec (made.Label owner code) h = truth_over spec false
holds_over spec (made.Variable v) h = ap (is_cond_over spec) (sym (c.rolls-Holds v)) ∙ fold-roll-Cond Bool (over_step spec) (layer.Holds v) ∙ h
holds_over spec (made.Primed v) h = truth_over spec false

alone_over : (known : Known) → NamesThere known → (items : List DraftItem) → is_cond_over (seen known) (alone_of known items) ≡ true
alone_over known there [] = truth_over (seen known) false
alone_over known there (i ∷ is) = holds_over (seen known) (operand_of known i.operand) (operand_over known there i.operand)

over_keep : (known : Known) → NamesThere known → (primes : Bool) → PartsKeep known (spelt_step primes) (narrow_step known) (over_step (seen known))
over_keep known there primes = record {
  alone = λ side h k. alone_over known there side.items;
  compared = λ l n r h k.
      let a = and_parts (is_side_spelt primes l) (is_side_spelt primes n) h in
      let b = and_parts (is_narrow_side known l) (is_narrow_side known n) k in
      and_true _ _ (side_over_kept known there primes l (a.0) (b.0)) (side_over_kept known there primes n (a.1) (b.1));
  negated = λ r s t f h k. f h k;
  joined_by_and = λ rs ss ts f h k. all_follow f (joined_all rs h) k;
  joined_by_or = λ rs ss ts f h k. all_follow f (joined_all rs h) k;
}

-- a condition that is spelt and within the bounds
pub cond_over_kept : (known : Known) → NamesThere known → (primes : Bool) (d : DraftCond) → is_cond_spelt primes d ≡ true → is_narrow_cond known d ≡ true
    → is_cond_over (seen known) (cond_of known d) ≡ true
cond_over_kept known there primes d h k = cond_kept known (spelt_step primes) (narrow_step known) (over_step (seen known)) (over_keep known there primes) d h k
