-- A state on the way through its inputs.
use Rattle.std.proofs.Common.{◌≡◌, ℕ, zero, suc, ◌+◌, ◌<◌, ◌≤◌, Bool, true, false, List, [], ◌∷◌, ◌++◌, length, take, drop, get_or, sym, ap, subst, ◌∙◌, arith, inl, inr}
use Rattle.std.specs.List.{AllByRecursion}
use Rattle.std.proofs.Math.Seq.{take-suc}
use Rattle.std.proofs.lemmas.List.{take-append-drop, take_all}
use Rattle.scr_spec.specs.Data.{Data}
use Rattle.scr_spec.specs.declared.state.Input.{Input}
use Rattle.scr_spec.specs.Meaning.{Codes}
use Rattle.run_step.specs.Runs.{IsInput, IsStep}
use Rattle.run_reach.specs.Trees.{Tree, depth_at, child_of}
use Rattle.run_reach.specs.Inputs.{inputs_of}
use Rattle.run_reach.specs.Growth.{Keeps, Tried, Tries, none, more, IsTriedTo, LeavesOut, Hits, HasNoRoom, Extends}
use Rattle.run_reach.proofs.Listed.{may_come}
use Rattle.run_reach.proofs.Broad.{at_kept, extends_same, extends_on, extends_length}

all_at : {X : Type 0} (P : X → Type 0) (xs : List X) (i : ℕ) (d : X) → AllByRecursion P xs → i < length xs → P (get_or xs i d)
all_at P [] i d h below = absurd (omega (arith, below))
all_at P (x ∷ xs) zero d h below = h.0
all_at P (x ∷ xs) (suc i) d h below = all_at P xs i d h.1 (omega (arith, below))

next_taken : {X : Type 0} (xs : List X) (i : ℕ) (d : X) → i < length xs → take (i + 1) xs ≡ take i xs ++ get_or xs i d ∷ []
next_taken xs i d below = let one : i + 1 ≡ suc i = omega arith in ap (λ (n : ℕ). take n xs) one ∙ take-suc xs i d below

module _ (spec : Data) (hit : Codes → Codes → Bool) (n : ℕ) (old : Codes) where
  tries_extend : (inputs : List Input) (tree after : Tree) → Tries spec hit n old inputs tree after → Extends tree after
  tries_extend inputs tree after (none {tree = t}) = extends_same t
  tries_extend inputs tree after (more {inputs = is} {tree = t} {between = m} {after = a} input ts one) =
      extends_on t m a (tries_extend is t m ts) (elim one.kept [
        | inl h ↦ subst (Extends m) (sym h.1) (extends_same m)
        | inr h ↦ record { more = child_of m n input one.new ∷ []; is = h.1 }
      ])

  module _ (inputs : List Input) (tree after : Tree) (t : Tries spec hit n old inputs tree after) where
    pub tries_there : n < length tree → n < length after
    tries_there there = let l = extends_length tree after (tries_extend inputs tree after t) in omega (arith, l, there)

    pub tries_shallow : n < length tree → depth_at tree n ≤ n → depth_at after n ≤ n
    tries_shallow there h = subst (λ x. x.1.depth ≤ n) (sym (at_kept tree after n (tries_extend inputs tree after t) there)) h

  -- the first inputs of the list were tried
  module _ (listed : List Input) (all : listed ≡ inputs_of spec old) where
    pub listed_input : (i : ℕ) (d : Input) → i < length listed → IsInput spec old (get_or listed i d)
    listed_input i d below = all_at (IsInput spec old) listed i d (subst (AllByRecursion (IsInput spec old)) (sym all) (may_come spec old)) below

    pub tried_to : (i : ℕ) (d : Input) (tree after : Tree) → i < length listed → Tries spec hit n old (take i listed) tree after → IsTriedTo spec hit n old (get_or listed i d) tree after
    tried_to i d tree after below t = record {
      front = take i listed;
      rest = drop (i + 1) listed;
      whole = sym all ∙ sym (take-append-drop (i + 1) listed) ∙ ap (λ (is : List Input). is ++ drop (i + 1) listed) (next_taken listed i d below);
      tries = t;
    }

    pub one_hits : (i : ℕ) (d : Input) (tree after : Tree) (new : Codes) → i < length listed → Tries spec hit n old (take i listed) tree after → IsStep spec old (get_or listed i d) new
        → hit old new ≡ true → Hits spec hit n old (get_or listed i d) tree after
    one_hits i d tree after new below t s m = record { tried = tried_to i d tree after below t; new = new; step = s; met = m }

    pub one_left_out : (most i : ℕ) (d : Input) (tree between after : Tree) (new : Codes) → i < length listed → Tries spec hit n old (take i listed) tree between
        → IsStep spec old (get_or listed i d) new → hit old new ≡ false → HasNoRoom between most new after → LeavesOut spec hit most n old (get_or listed i d) tree after
    one_left_out most i d tree between after new below t s m h =
        subst (LeavesOut spec hit most n old (get_or listed i d) tree) (sym h.same) (record {
          tried = tried_to i d tree between below t;
          new = new;
          step = s;
          missed = m;
          absent = h.absent;
          full = h.full;
        })

    pub one_tried : (i : ℕ) (d : Input) (tree between after : Tree) (new : Codes) → i < length listed → Tries spec hit n old (take i listed) tree between → IsStep spec old (get_or listed i d) new
        → hit old new ≡ false → Keeps between n (get_or listed i d) new after → Tries spec hit n old (take (i + 1) listed) tree after
    one_tried i d tree between after new below t s m k =
        let one : Tried spec hit n old (get_or listed i d) between after = record { new = new; step = s; missed = m; kept = k } in
        subst (λ (is : List Input). Tries spec hit n old is tree after) (sym (next_taken listed i d below)) (more (get_or listed i d) t one)

    pub all_tried : (i : ℕ) (tree after : Tree) → length listed ≤ i → Tries spec hit n old (take i listed) tree after → Tries spec hit n old (inputs_of spec old) tree after
    all_tried i tree after whole t = subst (λ (is : List Input). Tries spec hit n old is tree after) (take_all i listed whole ∙ all) t
