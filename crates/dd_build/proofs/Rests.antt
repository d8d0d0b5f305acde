-- What is left of a sum, at the positions of its first level.
use Rattle.std.proofs.Common.{◌≡◌, ℕ, suc, ◌+◌, ◌-◌, ◌<◌, ◌≤◌, ◌^◌, ℤ, pos, ◌+ℤ◌, ◌*ℤ◌, unsigned_abs, w64, to_z, of_z, Bool, false, List, [], ◌∷◌, ◌++◌, length, get_or, set, drop, refl, sym, ap, ap₂, subst, ◌∙◌, arith, get_or-set_other}
use Rattle.std.proofs.lemmas.Int.{ints, to_z-of_z}
use Rattle.std.proofs.lemmas.List.{length-map, drop_more, drop_all}
use Rattle.std.proofs.lemmas.List.FromFn.{fill_by_all}
use Rattle.dd_formula.specs.declared.domain.Domain.{Domain}
use Rattle.dd_formula.specs.declared.formula.Op.{Op}
use Rattle.dd_formula.specs.declared.formula.Term.{Term}
use Rattle.dd_formula.specs.Truth.{terms_value, meets_zero}
use Rattle.dd_tree.specs.Tree.{Tree, leaf}
use Rattle.dd_tree.specs.Function.{join, tree_of}
use Rattle.dd_tree.proofs.Function.{tree_of-is}
use Rattle.dd_tree.proofs.Free.{ReadsFrom, cofactors_of, length-cofactors_of, get_or-cofactors_of, IsOrderedFrom-cofactors_of, tree_of-join}
use Rattle.dd_store.specs.declared.node.Stretch.{Stretch}
use Rattle.dd_store.specs.Domains.{size_of, code_at}
use Rattle.dd_store.specs.Held.{Held, sizes, trees, Has}
use Rattle.dd_store.specs.Kept.{IsHeld}
use Rattle.dd_store.specs.Runs.{children_of}
use Rattle.dd_store.specs.Split.{IsSplit, split_of, HasNoRoom}
use Rattle.dd_tree.specs.Added.{add_tree}
use Rattle.dd_build.specs.declared.interval.Subtotal.{Subtotal}
use Rattle.dd_build.specs.declared.interval.Room.{Room}
use Rattle.dd_build.specs.Built.{Keeps, IsOver, IsBuilt, IsWithin}
use Rattle.dd_build.specs.Atoms.{codes_at}
use Rattle.dd_build.specs.Sums.{AreOrderedTerms, rest_of, rest_at, sum_at, term_of, IsNextSubtotal}
use Rattle.dd_build.specs.Intervals.{IsNear, IsSteady, IsRest, IsInRoom, IsWithinBoth}
use Rattle.dd_build.specs.declared.tail.Tail.{Tail}
use Rattle.dd_build.specs.declared.tail.Settled.{Settled}
use Rattle.dd_build.specs.Tails.{IsTail, AreTails, IsSettled, tail_of}
use Rattle.dd_build.proofs.Rooms.{near_itself, run_is, IsSteadyTo, IsSteadyTo-run}
use Rattle.dd_build.proofs.FactorLaws.{no_term, fits_small}
use Rattle.dd_build.proofs.TermLaws.{value-cons}
use Rattle.dd_build.proofs.Subtotals.{term_there}
use Rattle.dd_build.proofs.Stores.{Keeps-itself, IsBuilt-known}
use Rattle.dd_build.proofs.Cofactors.{AreCofactors, IsSpan, SoFar, step, next_within, too_many, now_within, is_split, is_over, Finished, finish}

-- terms of later levels do not read a level
value_free : (ds : List Domain) (k n : ℕ) (ts : List Term) (v : List ℕ) (j c d : ℕ) → j < k → AreOrderedTerms k n ts → terms_value (codes_at ds (set v j c)) ts ≡ terms_value (codes_at ds (set v j d)) ts
value_free ds k n [] v j c d lt h = refl
value_free ds k n (t ∷ ts) v j c d lt h =
    let same : get_or (set v j c) t.level 0 ≡ get_or (set v j d) t.level 0 =
    get_or-set_other v j t.level c 0 (λ e. absurd (omega (arith, e, h.0))) ∙ sym (get_or-set_other v j t.level d 0 (λ e. absurd (omega (arith, e, h.0)))) in
    value-cons (codes_at ds (set v j c)) t ts
    ∙ ap₂ (λ p r. t.factor *ℤ code_at ds t.level p +ℤ r) same (value_free ds (t.level + 1) n ts v j c d (omega (arith, h.0)) h.3)
    ∙ sym (value-cons (codes_at ds (set v j d)) t ts)

-- what is left, as a function, once the level of the term has a position
abbrev pub left_at : List Domain → Op → Term → List Term → ℤ → ℕ → List ℕ → Bool
left_at ds op t ts s c v = meets_zero op (sum_at ds t s c +ℤ terms_value (codes_at ds v) ts)

-- it reads no level up to that one
left_free : (ds : List Domain) (n : ℕ) (op : Op) (t : Term) (ts : List Term) (s : ℤ) (c : ℕ) → AreOrderedTerms (t.level + 1) n ts → ReadsFrom (suc t.level) (left_at ds op t ts s c)
left_free ds n op t ts s c h = record { same = λ v j x y lt. ap (λ r. meets_zero op (sum_at ds t s c +ℤ r)) (value_free ds (t.level + 1) n ts v j x y (omega arith) h) }

-- a sum may be reckoned from the left
regroup : (s p r : ℤ) → s +ℤ (p +ℤ r) ≡ (s +ℤ p) +ℤ r
regroup s p r = omega (arith, ints)

-- the trees of what is left at the positions of the level of the term at a place
abbrev pub rests_at : Held → Op → List Term → Subtotal → List Tree
rests_at held op ts from = cofactors_of (sizes held) (term_of ts from.place).level (left_at held.domains op (term_of ts from.place) (drop (from.place + 1) ts) from.sum)

module _ (held : Held) (h : IsHeld held) (op : Op) (ts : List Term) (from : Subtotal) (ordered : AreOrderedTerms 0 (length held.domains) ts) (left : from.place < length ts) where
  -- the term's level is one of the store
  in_range : (term_of ts from.place).level < length (sizes held)
  in_range = omega (arith, (term_there 0 (length held.domains) ts from.place ordered left).level, length-map held.domains size_of)

  -- those behind it are later
  free : (s : ℤ) (c : ℕ) → ReadsFrom (suc (term_of ts from.place).level) (left_at held.domains op (term_of ts from.place) (drop (from.place + 1) ts) s c)
  free s c = left_free held.domains (length held.domains) op (term_of ts from.place) (drop (from.place + 1) ts) s c (term_there 0 (length held.domains) ts from.place ordered left).later

  -- the tree of what is left after a sum is the split of those at the positions
  is_join_at : (s : ℤ) → rest_of held.domains op (drop from.place ts) s ≡ join (term_of ts from.place).level (rests_at held op ts (record { place = from.place; sum = s }))
  is_join_at s =
      ap (λ xs. rest_of held.domains op xs s) (drop_more ts from.place no_term left)
      ∙ tree_of-join (sizes held) h.codes (λ v. meets_zero op (s +ℤ terms_value (codes_at held.domains v) (term_of ts from.place ∷ drop (from.place + 1) ts)))
      (left_at held.domains op (term_of ts from.place) (drop (from.place + 1) ts) s) (term_of ts from.place).level in_range (free s)
      (λ v typed. ap (λ z. meets_zero op (s +ℤ z)) (value-cons (codes_at held.domains v) (term_of ts from.place) (drop (from.place + 1) ts))
      ∙ ap (meets_zero op) (regroup s ((term_of ts from.place).factor *ℤ code_at held.domains (term_of ts from.place).level (get_or v (term_of ts from.place).level 0)) (terms_value (codes_at held.domains v) (drop (from.place + 1) ts))))

  -- they are the cofactors of the tree of what is left
  pub AreCofactors-rests : AreCofactors held (term_of ts from.place).level (rests_at held op ts from) (rest_at held.domains op ts from)
  AreCofactors-rests = record {
    is_held = h;
    in_range = in_range;
    many = length-cofactors_of (sizes held) h.codes (term_of ts from.place).level (left_at held.domains op (term_of ts from.place) (drop (from.place + 1) ts) from.sum);
    ordered = IsOrderedFrom-cofactors_of (sizes held) h.codes (term_of ts from.place).level (left_at held.domains op (term_of ts from.place) (drop (from.place + 1) ts) from.sum) in_range (free from.sum);
    is_join = is_join_at from.sum;
  }

  -- over a run they are the one of the next subtotal
  pub IsSpan-run : (now : Held) → Keeps held now → (size position steps : ℕ) (next : Subtotal) (room : Room) → size ≡ get_or (sizes held) (term_of ts from.place).level 0 → position + steps < size → IsNextSubtotal now.domains ts from position next
      → IsSteady now.domains op ts next room → IsInRoom room (term_of ts from.place).factor steps → IsSpan (rests_at held op ts from) position (position + steps) (rest_at now.domains op ts next)
  IsSpan-run now k size position steps next room is_size within n steady inside = record {
    from = omega arith;
    within = omega (arith, within, is_size, AreCofactors-rests.many);
    same = λ p le ge.
        get_or-cofactors_of (sizes held) h.codes (term_of ts from.place).level (left_at held.domains op (term_of ts from.place) (drop (from.place + 1) ts) from.sum) p (omega (arith, within, is_size))
        ∙ ap (λ ds. rest_of ds op (drop (from.place + 1) ts) (sum_at ds (term_of ts from.place) from.sum p)) (sym k.domains)
        ∙ run_is now.domains op ts from next position steps p room n steady inside le ge;
  }

  -- at one position too
  pub IsSpan-one : (now : Held) → Keeps held now → (size position : ℕ) (next : Subtotal) → size ≡ get_or (sizes held) (term_of ts from.place).level 0 → position < size → IsNextSubtotal now.domains ts from position next
      → IsSpan (rests_at held op ts from) position position (rest_at now.domains op ts next)
  IsSpan-one now k size position next is_size within n = record {
    from = omega arith;
    within = omega (arith, within, is_size, AreCofactors-rests.many);
    same = λ p le ge.
        let e : p ≡ position = omega arith in
        get_or-cofactors_of (sizes held) h.codes (term_of ts from.place).level (left_at held.domains op (term_of ts from.place) (drop (from.place + 1) ts) from.sum) p (omega (arith, within, is_size))
        ∙ ap (λ ds. rest_of ds op (drop (from.place + 1) ts) (sum_at ds (term_of ts from.place) from.sum p)) (sym k.domains)
        ∙ ap₂ (λ i z. rest_of now.domains op (drop i ts) z) (sym n.place) (ap (sum_at now.domains (term_of ts from.place) from.sum) e ∙ sym n.sum);
  }

  -- what is left stays so far
  pub IsSteady-end : (room : Room) (position : ℕ) → get_or (sizes held) (term_of ts from.place).level 0 ≤ position → IsSteadyTo held.domains op ts from room position → IsSteady held.domains op ts from room
  IsSteady-end room position past w = record {
    same = λ s near.
        let level = (term_of ts from.place).level in
        let other : Subtotal = record { place = from.place; sum = s } in
        let own = left_at held.domains op (term_of ts from.place) (drop (from.place + 1) ts) from.sum in
        let left_then = left_at held.domains op (term_of ts from.place) (drop (from.place + 1) ts) s in
        let same : rests_at held op ts other ≡ rests_at held op ts from =
        fill_by_all (λ c. tree_of (sizes held) (own c)) (rests_at held op ts other) (get_or (sizes held) level 0) (leaf false) (length-cofactors_of (sizes held) h.codes level left_then)
        (λ p lt. get_or-cofactors_of (sizes held) h.codes level left_then p lt ∙ w.same p (omega arith) s near) in
        is_join_at s ∙ ap (join level) same ∙ sym (is_join_at from.sum);
  }

  -- one run more stays so far
  pub further_steady : (now : Held) → Keeps held now → (position steps : ℕ) (next : Subtotal) (room child both : Room) (factor : ℤ) → factor ≡ (term_of ts from.place).factor → IsSteadyTo held.domains op ts from room position → IsNextSubtotal now.domains ts from position next
      → IsSteady now.domains op ts next child → IsInRoom child factor steps → IsWithinBoth room child factor steps both → IsSteadyTo held.domains op ts from both (position + steps + 1)
  further_steady now k position steps next room child both factor e old n steady inside w =
      IsSteadyTo-run held.domains op ts from next position steps room child both old (subst (λ ds. IsNextSubtotal ds ts from position next) k.domains n) (subst (λ ds. IsSteady ds op ts next child) k.domains steady)
      (subst (λ f. IsInRoom child f steps) e inside) (subst (λ f. IsWithinBoth room child f steps both) e w)

  -- one turn of the walk
  module _ (now : Held) (runs : List Stretch) (position last : ℕ) (next : Subtotal) (sf : SoFar held now (rests_at held op ts from) runs position) (span : IsSpan (rests_at held op ts from) position last (rest_at now.domains op ts next)) where
    -- it is built
    pub further : (new : Held) (child : ℕ) → Keeps now new → IsBuilt now new (rest_at now.domains op ts next) child → SoFar held new (rests_at held op ts from) (runs ++ record { last = last; child = child } ∷ []) (last + 1)
    further new child k built = step held now new (rests_at held op ts from) runs position (rest_at now.domains op ts next) (record { last = last; child = child }) sf span k built

    -- or a part of it
    pub part_within : (new : Held) → IsWithin now new (rest_at now.domains op ts next) → IsWithin held new (rest_at held.domains op ts from)
    part_within new inside = next_within held (term_of ts from.place).level (rests_at held op ts from) (rest_at held.domains op ts from) AreCofactors-rests now new runs position last (rest_at now.domains op ts next) sf span inside

    -- or it is too much
    pub part_over : IsOver now (rest_at now.domains op ts next) → IsOver held (rest_at held.domains op ts from)
    part_over over = too_many held (term_of ts from.place).level (rests_at held op ts from) (rest_at held.domains op ts from) AreCofactors-rests now runs position last (rest_at now.domains op ts next) sf span over

  -- the end of the walk
  module _ (now : Held) (runs : List Stretch) (size position : ℕ) (is_size : size ≡ get_or (sizes held) (term_of ts from.place).level 0) (past : size ≤ position) (sf : SoFar held now (rests_at held op ts from) runs position) where
    -- all positions are done
    at_end : length (rests_at held op ts from) ≤ position
    at_end = omega (arith, AreCofactors-rests.many)

    -- the runs are those of a split
    pub ends_split : IsSplit now (term_of ts from.place).level (children_of runs)
    ends_split = is_split held (term_of ts from.place).level (rests_at held op ts from) (rest_at held.domains op ts from) AreCofactors-rests now runs position at_end sf

    -- where there is no room for it, the whole is too much
    pub ends_over : HasNoRoom now (split_of now (term_of ts from.place).level runs) → IsOver held (rest_at held.domains op ts from)
    ends_over none = is_over held (term_of ts from.place).level (rests_at held op ts from) (rest_at held.domains op ts from) AreCofactors-rests now runs position at_end sf none

    -- the store holds nothing else
    pub ends_within : IsWithin held now (rest_at held.domains op ts from)
    ends_within = now_within held (term_of ts from.place).level (rests_at held op ts from) (rest_at held.domains op ts from) AreCofactors-rests now runs position sf

    -- with the split the whole is built
    pub ends : (new : Held) (id : ℕ) → Has new id (split_of now (term_of ts from.place).level runs) → trees new ≡ add_tree (trees now) (split_of now (term_of ts from.place).level runs) → new.domains ≡ now.domains → new.limit ≡ now.limit → IsHeld new
        → Finished held new (rest_at held.domains op ts from) id
    ends new id has grown domains limit h' = finish held (term_of ts from.place).level (rests_at held op ts from) (rest_at held.domains op ts from) AreCofactors-rests now runs position at_end sf new id has grown domains limit h'

-- nothing is left
pub rest_none : (held : Held) → IsHeld held → (op : Op) (ts : List Term) (from : Subtotal) → drop from.place ts ≡ [] → rest_at held.domains op ts from ≡ leaf (meets_zero op from.sum)
rest_none held h op ts from e =
    ap (λ xs. rest_of held.domains op xs from.sum) e
    ∙ tree_of-is (sizes held) h.codes (λ v. meets_zero op (from.sum +ℤ pos 0)) (leaf (meets_zero op from.sum)) tt (λ v typed. ap (meets_zero op) (let z : from.sum ≡ from.sum +ℤ pos 0 = omega (arith, ints) in z))

-- a place that is not behind the last term
pub not_last : (place n : ℕ) → place ≤ n → (place ≡ n → ⊥) → place < n
not_last place n le ne = grind (arith, ne)

-- a sum compares with 0 as it is reckoned
pub meets_is : (op : Op) (from : Subtotal) (b : Bool) → unsigned_abs from.sum < 2 ^ 62 → b ≡ meets_zero op (to_z w64 (of_z w64 from.sum)) → b ≡ meets_zero op from.sum
meets_is op from b small e = e ∙ ap (meets_zero op) (to_z-of_z w64 from.sum (fits_small from.sum (unsigned_abs from.sum) (omega arith) small))

-- a leaf is built
pub IsBuilt-leaf : (held : Held) → IsHeld held → (op : Op) (ts : List Term) (from : Subtotal) (b : Bool) (id : ℕ) → length ts ≤ from.place → b ≡ meets_zero op from.sum → Has held id (leaf b) → IsBuilt held held (rest_at held.domains op ts from) id
IsBuilt-leaf held h op ts from b id past e has =
    IsBuilt-known held held (rest_at held.domains op ts from) id h (Keeps-itself held h) refl
    (record { known = has.known; tree = has.tree ∙ ap leaf e ∙ sym (rest_none held h op ts from (drop_all from.place ts past)) })

-- a leaf is left, whatever is added
rest_settled : (held : Held) → IsHeld held → (op : Op) (ts : List Term) (from : Subtotal) (tail : Tail) (settled : Settled) → IsTail held.domains (drop from.place ts) tail → IsSettled op tail from.sum settled → (s : ℤ) → IsNear from.sum settled.room s
    → rest_of held.domains op (drop from.place ts) s ≡ leaf settled.value
rest_settled held h op ts from tail settled t w s near =
    tree_of-is (sizes held) h.codes (λ v. meets_zero op (s +ℤ terms_value (codes_at held.domains v) (drop from.place ts))) (leaf settled.value) tt
    (λ v typed. sym (w.same s (terms_value (codes_at held.domains v) (drop from.place ts)) near (t.adds v typed)))

-- and stays so far
pub IsRest-settled : (held : Held) → IsHeld held → (op : Op) (ts : List Term) (from : Subtotal) (tail : Tail) (settled : Settled) (id : ℕ) → IsTail held.domains (drop from.place ts) tail → IsSettled op tail from.sum settled → Has held id (leaf settled.value)
    → IsRest held op ts from (record { id = id; room = settled.room })
IsRest-settled held h op ts from tail settled id t w has =
    let here = rest_settled held h op ts from tail settled t w from.sum (near_itself from.sum settled.room) in
    record {
      has = record { known = has.known; tree = has.tree ∙ sym here };
      steady = record { same = λ s near. rest_settled held h op ts from tail settled t w s near ∙ sym here };
    }

-- the entry of the terms from a place on
pub IsTail-from : (ds : List Domain) (ts : List Term) (tails : List Tail) (place : ℕ) → AreTails ds ts (length ts) tails → place ≤ length ts → IsTail ds (drop place ts) (tail_of tails (length ts - place))
IsTail-from ds ts tails place h le =
    let back : length ts - (length ts - place) ≡ place = omega arith in
    subst (λ i. IsTail ds (drop i ts) (tail_of tails (length ts - place))) back (h.each (length ts - place) (omega arith))
