-- The answers of a search.
use Rattle.std.proofs.Common.{◌≡◌, ℕ, zero, suc, ◌+◌, ◌<◌, ◌≤◌, Bool, true, false, List, [], ◌∷◌, ◌++◌, length, refl, sym, ap, subst, ◌∙◌, arith, inl, inr}
use Rattle.std.proofs.lemmas.Bool.{both_ways}
use Rattle.std.proofs.lemmas.List.{length-append}
use Rattle.scr_spec.specs.Data.{Data}
use Rattle.scr_spec.specs.declared.state.Input.{Input}
use Rattle.scr_spec.specs.Meaning.{Codes}
use Rattle.scr_depend.specs.declared.order.Order.{Order}
use Rattle.scr_depend.specs.Passes.{PassesChecks}
use Rattle.scr_spec.specs.Sound.{IsSound}
use Rattle.run_step.specs.Runs.{IsConsistent, IsInitial, IsStep, EndsIn}
use Rattle.run_step.proofs.Runs.{ends_next, ends_consistent, one_run}
use Rattle.run_step.proofs.Next.{one_next}
use Rattle.run_reach.specs.declared.answer.Answer.TheVariants.{Never, Open, Least}
use Rattle.run_reach.specs.Trees.{Tree, root, codes_at, depth_at, path_of}
use Rattle.run_reach.specs.Scripts.{ComesBefore, IsFirstWay, IsWayTo}
use Rattle.run_reach.specs.Answers.{Sought, Meets, IsAnswer}
use Rattle.run_reach.specs.Growth.{Grown, IsTriedTo, LeavesOut, Hits}
use Rattle.run_reach.proofs.Order.{none_before_nil}
use Rattle.run_reach.proofs.Ascending.{Ascends, ascends_front, lesser_before, inputs_ascend}
use Rattle.run_reach.proofs.Broad.{IsUnderWay, begin, under_way, grown_broad}
use Rattle.run_reach.proofs.Reach.{Covers, state_ends, before_numbers, ends_within, way_path, path_number, no_way, no_meeting, whole_covers, part_covers}

-- the last elements of equal lists are equal, and so are the rests
same_last : {X : Type 0} (a b : List X) (x y : X) → a ++ x ∷ [] ≡ b ++ y ∷ [] → (a ≡ b) × (x ≡ y)
same_last [] [] x y e = (refl, cc)
same_last [] (u ∷ b) x y e = let l = ap (λ s. length s) e in absurd (omega (arith, l, length-append b (y ∷ [])))
same_last (z ∷ a) [] x y e = let l = ap (λ s. length s) e in absurd (omega (arith, l, length-append a (x ∷ [])))
same_last (z ∷ a) (u ∷ b) x y e =
    let head : z ≡ u = cc in
    let tail : a ++ x ∷ [] ≡ b ++ y ∷ [] = cc in
    let r = same_last a b x y tail in
    (ap (λ w. w ∷ a) head ∙ ap (λ s. u ∷ s) r.0, r.1)

-- the run of a script ends in one state
ends_one : (spec : Data) (order : Order) → PassesChecks spec order → (script : List Input) (a b : Codes) → EndsIn spec script a → EndsIn spec script b → a ≡ b
ends_one spec order passes script a b e f = (same_last e.before f.before a b (one_run.one_run spec order script (e.before ++ a ∷ []) (f.before ++ b ∷ []) passes e.run f.run)).1

before_length : (l : ℕ) → 0 < l → (p : ℕ) × (suc p ≡ l)
before_length zero h = absurd (omega (arith, h))
before_length (suc p) h = (p, refl)

-- the initial state is sought
pub first_answer : (spec : Data) (sought : Sought) (most : ℕ) (first : Codes) → IsInitial spec first → sought.at_first first ≡ true → IsAnswer spec sought most (Least [])
first_answer spec sought most first initial met = (
  record { meets = inl (record { none = refl; first = first; initial = initial; met = met }); none_before = λ other m h. none_before_nil other h },
  λ way w h. none_before_nil way h,
)

module _ (spec : Data) (sought : Sought) (most : ℕ) (order : Order) (passes : PassesChecks spec order) (first : Codes) (initial : IsInitial spec first) (missed : sought.at_first first ≡ false) where
  -- all states are expanded
  pub never_answer : (n : ℕ) (tree : Tree) → Grown spec sought.at_step n tree → length tree ≤ n → length tree ≤ most → IsAnswer spec sought most Never
  never_answer n tree g all few =
      let b = grown_broad spec sought.at_step n tree g in
      let within = b.within in
      let c = whole_covers spec sought.at_step n tree b (omega (arith, all, within)) in (
        λ script m. no_meeting spec sought.at_step tree (λ script. Unit {0}) c order passes sought first refl initial missed script tt m,
        λ way w. no_way spec sought.at_step tree (λ script. Unit {0}) c order passes most few way w tt,
      )

  -- the next state is on the way
  module _ (n : ℕ) (tree : Tree) (g : Grown spec sought.at_step n tree) (there : n < length tree) where
    way_on : (input : Input) (after : Tree) (t : IsTriedTo spec sought.at_step n (codes_at tree n) input tree after) → IsUnderWay spec sought.at_step n (codes_at tree n) t.front after
    way_on input after t =
        let asc = subst Ascends t.whole (inputs_ascend spec (codes_at tree n)) in
        under_way spec sought.at_step n (codes_at tree n) t.front tree after (ascends_front t.front (input ∷ []) (ascends_front (t.front ++ input ∷ []) t.rest asc))
        (begin spec sought.at_step n tree (grown_broad spec sought.at_step n tree g) there) t.tries

    abbrev Before : Input → Tree → List Input → Type 0
    Before input after script = ComesBefore script (path_of after n ++ input ∷ [])

    covers_on : (input : Input) (after : Tree) (t : IsTriedTo spec sought.at_step n (codes_at tree n) input tree after) → Covers spec sought.at_step after (Before input after)
    covers_on input after t =
        part_covers spec sought.at_step n (codes_at tree n) t.front input t.rest after (way_on input after t) t.whole
        (lesser_before t.front input t.rest (subst Ascends t.whole (inputs_ascend spec (codes_at tree n))))

    end_ends : (input : Input) (after : Tree) (new : Codes) (t : IsTriedTo spec sought.at_step n (codes_at tree n) input tree after) → IsStep spec (codes_at tree n) input new
        → EndsIn spec (path_of after n ++ input ∷ []) new
    end_ends input after new t s =
        let w = way_on input after t in
        ends_next spec (path_of after n) (codes_at tree n) input new (subst (EndsIn spec (path_of after n)) w.at (state_ends spec sought.at_step after w.sorted n w.there)) s

    none_meets : (input : Input) (after : Tree) (t : IsTriedTo spec sought.at_step n (codes_at tree n) input tree after) (other : List Input) → Meets spec sought other → Before input after other → ⊥
    none_meets input after t other m h = no_meeting spec sought.at_step after (Before input after) (covers_on input after t) order passes sought first refl initial missed other h m

    -- a step of it is sought
    pub least_answer : (input : Input) (after : Tree) → Hits spec sought.at_step n (codes_at tree n) input tree after → length after ≤ most
        → IsAnswer spec sought most (Least (path_of after n ++ input ∷ []))
    least_answer input after h few =
        let w = way_on input after h.tried in (
          record {
            meets = inr (record {
              front = path_of after n;
              last = input;
              whole = refl;
              old = codes_at tree n;
              new = h.new;
              ends = subst (EndsIn spec (path_of after n)) w.at (state_ends spec sought.at_step after w.sorted n w.there);
              step = h.step;
              met = h.met;
            });
            none_before = none_meets input after h.tried;
          },
          λ way number before. no_way spec sought.at_step after (Before input after) (covers_on input after h.tried) order passes most few way number before,
        )

    -- there is no room for a state that it leads to
    module _ (input : Input) (after : Tree) (h : LeavesOut spec sought.at_step most n (codes_at tree n) input tree after) (few : length after ≤ most) where
      abbrev end : List Input
      end = path_of after n ++ input ∷ []

      w : IsUnderWay spec sought.at_step n (codes_at tree n) h.tried.front after
      w = way_on input after h.tried

      c : Covers spec sought.at_step after (Before input after)
      c = covers_on input after h.tried

      end_first : (other : List Input) → EndsIn spec other h.new → ComesBefore other end → ⊥
      end_first other e less =
          let v = ends_within spec sought.at_step after (Before input after) c order passes h.new other less e in
          h.absent (record { number = v.number; within = v.there; same = v.same })

      end_way : IsFirstWay spec end
      end_way = record { at = h.new; ends = end_ends input after h.new h.tried h.step; none_before = end_first }

      none_to_end : (p : ℕ) → suc p ≡ length after → (other : List Input) → IsFirstWay spec other → ComesBefore (path_of after p) other → ComesBefore other end → ⊥
      none_to_end p last other way later before =
          let o = way_path spec sought.at_step after (Before input after) c order passes other before way in
          let below : p < length after = omega (arith, last) in
          let behind = before_numbers spec sought.at_step after w.sorted p o.0 below (subst (ComesBefore (path_of after p)) (sym o.2) later) in
          let there = o.1 in
          omega (arith, behind, there, last)

      end_number : (p : ℕ) → suc p ≡ length after → IsWayTo spec (suc p) end
      end_number p last =
          let below : p < length after = omega (arith, last) in (
            path_of after p,
            path_number spec sought.at_step after (Before input after) c order passes p below,
            record { way = end_way; later = c.paths p below; none_between = none_to_end p last },
          )

      end_most : IsWayTo spec most end
      end_most =
          let p = before_length (length after) w.sorted.some in
          let full = h.full in
          let number : suc p.0 ≡ most = omega (arith, p.1, full, few) in
          subst (λ (m : ℕ). IsWayTo spec m end) number (end_number p.0 p.1)

      -- it does not meet what is sought itself
      end_missed : Meets spec sought end → ⊥
      end_missed (inl m) = let l = ap (λ (s : List Input). length s) m.none in omega (arith, l, length-append (path_of after n) (input ∷ []))
      end_missed (inr m) =
          let r = same_last (path_of after n) m.front input m.last m.whole in
          let mine = subst (EndsIn spec (path_of after n)) w.at (state_ends spec sought.at_step after w.sorted n w.there) in
          let one_old : m.old ≡ codes_at tree n = ends_one spec order passes (path_of after n) m.old (codes_at tree n) (subst (λ (s : List Input). EndsIn spec s m.old) (sym r.0) m.ends) mine in
          let step : IsStep spec (codes_at tree n) input m.new =
          subst (λ (x : Input). IsStep spec (codes_at tree n) x m.new) (sym r.1) (subst (λ (a : Codes). IsStep spec a m.last m.new) one_old m.step) in
          let consistent = ends_consistent spec (path_of after n) (codes_at tree n) passes.sound mine in
          let one_new : m.new ≡ h.new = one_next spec order (codes_at tree n) input m.new h.new passes consistent step h.step in
          let met : sought.at_step (codes_at tree n) h.new ≡ true =
          subst (λ (a : Codes). sought.at_step (codes_at tree n) a ≡ true) one_new (subst (λ (a : Codes). sought.at_step a m.new ≡ true) one_old m.met) in
          both_ways (sought.at_step (codes_at tree n) h.new) h.missed met

      pub open_answer : IsAnswer spec sought most (Open (path_of after n ++ input ∷ []))
      open_answer = record { way = end_most; itself = end_missed; none_before = none_meets input after h.tried }

-- ---- what a state that is expanded needs

module _ (spec : Data) (hit : Codes → Codes → Bool) (n : ℕ) (tree : Tree) (g : Grown spec hit n tree) (there : n < length tree) where
  pub next_shallow : depth_at tree n ≤ n
  next_shallow = (grown_broad spec hit n tree g).sorted.shallow n there

  pub next_consistent : IsSound spec → IsConsistent spec (codes_at tree n)
  next_consistent sound = ends_consistent spec (path_of tree n) (codes_at tree n) sound (state_ends spec hit tree (grown_broad spec hit n tree g).sorted n there)

-- the tree of the first state alone
pub root_grown : (spec : Data) (hit : Codes → Codes → Bool) (first : Codes) (tree : Tree) → IsInitial spec first → tree ≡ root first ∷ [] → Grown spec hit 0 tree
root_grown spec hit first tree initial e = subst (Grown spec hit 0) (sym e) (Rattle.run_reach.specs.Growth.first initial)
