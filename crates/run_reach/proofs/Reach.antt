-- What a tree tells of the scripts that it covers.
use Rattle.std.proofs.Common.{◌≡◌, ℕ, zero, suc, ◌<◌, ◌≤◌, Bool, true, false, List, [], ◌∷◌, ◌++◌, length, refl, sym, ap, subst, ◌∙◌, arith, inl, inr}
use Rattle.std.specs.List.{AllByRecursion}
use Rattle.std.proofs.lemmas.Bool.{cases_lt, cases_order, both_ways}
use Rattle.std.proofs.lemmas.List.{length-append, append_assoc, append-nil}
use Rattle.scr_spec.specs.Data.{Data}
use Rattle.scr_spec.specs.declared.state.Input.{Input}
use Rattle.scr_spec.specs.Meaning.{Codes}
use Rattle.scr_depend.specs.declared.order.Order.{Order}
use Rattle.scr_depend.specs.Passes.{PassesChecks}
use Rattle.run_step.specs.Runs.{IsInitial, IsInput, IsStep, Leads, IsRun, EndsIn}
use Rattle.run_step.proofs.Runs.{ends_first, ends_next, ends_consistent}
use Rattle.run_step.proofs.Next.{one_next}
use Rattle.run_step.proofs.Begin.{one_initial}
use Rattle.run_reach.specs.Trees.{Tree, codes_at, link_at, depth_at, path_from, path_of}
use Rattle.run_reach.specs.Inputs.{inputs_of}
use Rattle.run_reach.specs.Scripts.{IsLesser, ComesBefore, IsFirstWay, IsWayTo}
use Rattle.run_reach.specs.Answers.{Sought, Meets}
use Rattle.run_reach.proofs.Ranges.{all_both}
use Rattle.run_reach.proofs.Listed.{all_inputs}
use Rattle.run_reach.proofs.Order.{NotAfter, lesser_itself, lesser_last, lesser_on, before_itself, before_on, before_both, front_before, then_not_after, not_after_on, not_after_both, not_before}
use Rattle.run_reach.proofs.Ascending.{Ascends, all_map, greater_behind, inputs_ascend}
use Rattle.run_reach.proofs.Broad.{IsKept, IsOrdered, IsBroad, IsUnderWay, first_path}
use Rattle.run_reach.proofs.Ways.{way_number}

-- ---- paths

pub path_length : (d : ℕ) (tree : Tree) (n : ℕ) → length (path_from d tree n) ≡ d
path_length zero tree n = refl
path_length (suc d) tree n =
    let rest = path_length d tree (link_at tree n).parent in
    omega (arith, rest, length-append (path_from d tree (link_at tree n).parent) ((link_at tree n).input ∷ []))

-- the state is stored, and its path is not after the script
pub record IsWithin (tree : Tree) (at : Codes) (script : List Input) : Type 0 where
  pub number : ℕ
  pub there : number < length tree
  pub same : codes_at tree number ≡ at
  pub early : NotAfter (path_of tree number) script

module _ (spec : Data) (hit : Codes → Codes → Bool) where
  module _ (tree : Tree) (b : IsOrdered spec hit tree) where
    path_ends : (d i : ℕ) → i < length tree → depth_at tree i ≡ d → EndsIn spec (path_from d tree i) (codes_at tree i)
    path_ends zero i below deep =
        elim (cases_lt 0 i) [
          | inl later ↦ let l = b.linked i later below in absurd (omega (arith, l.deeper, deep))
          | inr zero_i ↦ let same : 0 ≡ i = omega (arith, zero_i) in subst (λ (j : ℕ). EndsIn spec [] (codes_at tree j)) same (ends_first spec (codes_at tree 0) b.initial)
        ]
    path_ends (suc d) i below deep =
        elim (cases_lt 0 i) [
          | inl later ↦
              let l = b.linked i later below in
              let p = (link_at tree i).parent in
              ends_next spec (path_from d tree p) (codes_at tree p) (link_at tree i).input (codes_at tree i)
              (path_ends d p (omega (arith, l.before, below)) (omega (arith, l.deeper, deep))) l.step
          | inr zero_i ↦
              let same : i ≡ 0 = omega (arith, zero_i) in
              let flat : depth_at tree i ≡ 0 = ap (λ (j : ℕ). depth_at tree j) same ∙ ap (λ l. l.depth) b.root_link in absurd (omega (arith, flat, deep))
        ]

    pub state_ends : (i : ℕ) → i < length tree → EndsIn spec (path_of tree i) (codes_at tree i)
    state_ends i below = path_ends (depth_at tree i) i below refl

    -- states stand as their paths do
    pub before_numbers : (i j : ℕ) → i < length tree → ComesBefore (path_of tree i) (path_of tree j) → i < j
    before_numbers i j below h =
        elim (cases_order i j) [
          | inl same ↦ absurd (before_itself (path_of tree i) (subst (λ (k : ℕ). ComesBefore (path_of tree i) (path_of tree k)) (sym same) h))
          | inr rest ↦
              elim rest [
                | inl less ↦ less
                | inr more ↦ absurd (before_itself (path_of tree i) (before_on (path_of tree i) (path_of tree j) (path_of tree i) h (b.ordered j i more below)))
              ]
        ]

  -- ---- scripts that are covered

  -- the covered scripts are the first ones; the paths of all states are; and every input that is the last one of a covered script was tried at
  -- each state whose path is not after the rest of the script
  pub record Covers (tree : Tree) (covered : List Input → Type 0) : Type 0 where
    pub sorted : IsOrdered spec hit tree
    pub down : (a b : List Input) → ComesBefore a b → covered b → covered a
    pub paths : (i : ℕ) → i < length tree → covered (path_of tree i)
    pub tried : (i : ℕ) (front : List Input) (input : Input) → i < length tree → NotAfter (path_of tree i) front → covered (front ++ input ∷ []) → IsInput spec (codes_at tree i) input
        → IsKept spec hit tree (codes_at tree i) (path_of tree i) input

  module _ (tree : Tree) (covered : List Input → Type 0) (c : Covers tree covered) (order : Order) (passes : PassesChecks spec order) where
    covered_front : (a b : List Input) → covered (a ++ b) → covered a
    covered_front a [] h = subst covered (append-nil a) h
    covered_front a (x ∷ b) h = c.down a (a ++ x ∷ b) (front_before a x b) h

    -- ---- following a run

    step_within : (old : Codes) (front : List Input) (input : Input) (new : Codes) → IsWithin tree old front → covered (front ++ input ∷ []) → IsStep spec old input new
        → IsWithin tree new (front ++ input ∷ [])
    step_within old front input new w h s =
        let i = w.number in
        let mine : IsStep spec (codes_at tree i) input new = subst (λ (a : Codes). IsStep spec a input new) (sym w.same) s in
        let kept : IsKept spec hit tree (codes_at tree i) (path_of tree i) input = c.tried i front input w.there w.early h mine.may_come in
        let consistent = ends_consistent spec (path_of tree i) (codes_at tree i) passes.sound (state_ends tree c.sorted i w.there) in
        let one : kept.new ≡ new = one_next spec order (codes_at tree i) input kept.new new passes consistent kept.step mine in
        record {
          number = kept.number;
          there = kept.within;
          same = kept.same ∙ one;
          early = not_after_on (path_of tree kept.number) (path_of tree i ++ input ∷ []) (front ++ input ∷ []) kept.early (not_after_both (path_of tree i) front input w.early);
        }

    run_within : (before : List Codes) (from at : Codes) (front inputs : List Input) → IsWithin tree from front → covered (front ++ inputs) → Leads (IsStep spec) from inputs (before ++ at ∷ [])
        → IsWithin tree at (front ++ inputs)
    run_within [] from at front [] w few h = absurd h
    run_within (t ∷ before) from at front [] w few h = absurd h
    run_within [] from at front (input ∷ []) w few h = step_within from front input at w few h.0
    run_within [] from at front (input ∷ other ∷ inputs) w few h = absurd h.1
    run_within (t ∷ before) from at front (input ∷ inputs) w few h =
        let e : (front ++ input ∷ []) ++ inputs ≡ front ++ input ∷ inputs = append_assoc front (input ∷ []) inputs in
        let on : covered ((front ++ input ∷ []) ++ inputs) = subst covered (sym e) few in
        let one = step_within from front input t w (covered_front (front ++ input ∷ []) inputs on) h.0 in
        subst (IsWithin tree at) e (run_within before t at (front ++ input ∷ []) inputs one on h.1)

    first_within : (at : Codes) → IsInitial spec at → IsWithin tree at []
    first_within at h = record {
      number = 0;
      there = c.sorted.some;
      same = one_initial spec order (codes_at tree 0) at passes c.sorted.initial h;
      early = inl (first_path spec hit tree c.sorted);
    }

    start_within : (at : Codes) (inputs : List Input) → IsInitial spec at → Leads (IsStep spec) at inputs [] → IsWithin tree at inputs
    start_within at [] initial h = first_within at initial
    start_within at (input ∷ inputs) initial h = absurd h

    states_within : (states : List Codes) (at : Codes) (inputs : List Input) → covered inputs → IsRun spec inputs (states ++ at ∷ []) → IsWithin tree at inputs
    states_within [] at inputs few h = start_within at inputs h.0 h.1
    states_within (s ∷ states) at inputs few h = run_within states s at [] inputs (first_within s h.0) few h.1

    pub ends_within : (at : Codes) (inputs : List Input) → covered inputs → EndsIn spec inputs at → IsWithin tree at inputs
    ends_within at inputs few e = states_within e.before at inputs few e.run

    -- ---- first ways

    -- no script before its path leads to a state
    path_first : (i : ℕ) → i < length tree → (other : List Input) → EndsIn spec other (codes_at tree i) → ComesBefore other (path_of tree i) → ⊥
    path_first i below other e h =
        let w = ends_within (codes_at tree i) other (c.down other (path_of tree i) h (c.paths i below)) e in
        let same : w.number ≡ i = c.sorted.once w.number i w.there below w.same in
        not_before (path_of tree i) other (subst (λ (j : ℕ). NotAfter (path_of tree j) other) same w.early) h

    path_way : (i : ℕ) → i < length tree → IsFirstWay spec (path_of tree i)
    path_way i below = record { at = codes_at tree i; ends = state_ends tree c.sorted i below; none_before = path_first i below }

    -- each covered first way is a path
    pub way_path : (script : List Input) → covered script → IsFirstWay spec script → (i : ℕ) × (i < length tree) × (path_of tree i ≡ script)
    way_path script few way =
        let w = ends_within way.at script few way.ends in
        elim w.early [
          | inl same ↦ (w.number, w.there, same)
          | inr less ↦ absurd (way.none_before (path_of tree w.number) (subst (EndsIn spec (path_of tree w.number)) w.same (state_ends tree c.sorted w.number w.there)) less)
        ]

    -- no first way is between neighbours
    none_between : (i : ℕ) → suc i < length tree → (other : List Input) → IsFirstWay spec other → ComesBefore (path_of tree i) other → ComesBefore other (path_of tree (suc i)) → ⊥
    none_between i below other way h g =
        let p = way_path other (c.down other (path_of tree (suc i)) g (c.paths (suc i) below)) way in
        let later = before_numbers tree c.sorted i p.0 (omega (arith, below)) (subst (ComesBefore (path_of tree i)) (sym p.2) h) in
        let before = before_numbers tree c.sorted p.0 (suc i) p.1 (subst (λ (s : List Input). ComesBefore s (path_of tree (suc i))) (sym p.2) g) in
        omega (arith, later, before)

    -- so the states are numbered as their first ways are
    pub path_number : (i : ℕ) → i < length tree → IsWayTo spec i (path_of tree i)
    path_number zero below = first_path spec hit tree c.sorted
    path_number (suc i) below =
        let less : i < suc i = omega arith in (
          path_of tree i,
          path_number i (omega (arith, below)),
          record { way = path_way (suc i) below; later = c.sorted.ordered i (suc i) less below; none_between = none_between i below },
        )

    number_first : (n : ℕ) (way : List Input) → IsWayTo spec n way → IsFirstWay spec way
    number_first zero way h = subst (IsFirstWay spec) (first_path spec hit tree c.sorted ∙ sym h) (path_way 0 c.sorted.some)
    number_first (suc n) way h = h.2.way

    -- no covered script is the first way to a state that is not stored
    pub no_way : (most : ℕ) → length tree ≤ most → (way : List Input) → IsWayTo spec most way → covered way → ⊥
    no_way most few way h mine =
        let p = way_path way mine (number_first most way h) in
        way_number spec p.0 most way (subst (IsWayTo spec p.0) p.2 (path_number p.0 p.1)) h (let below = p.1 in omega (arith, below, few))

    -- ---- what is sought

    -- no covered script meets what is sought
    pub no_meeting : (sought : Sought) (first : Codes) → sought.at_step ≡ hit → IsInitial spec first → sought.at_first first ≡ false
        → (script : List Input) → covered script → Meets spec sought script → ⊥
    no_meeting sought first same initial missed script few (inl m) =
        let one : m.first ≡ first = one_initial spec order m.first first passes m.initial initial in
        both_ways (sought.at_first first) missed (subst (λ (a : Codes). sought.at_first a ≡ true) one m.met)
    no_meeting sought first same initial missed script few (inr m) =
        let mine : covered (m.front ++ m.last ∷ []) = subst covered m.whole few in
        let w = ends_within m.old m.front (covered_front m.front (m.last ∷ []) mine) m.ends in
        let i = w.number in
        let step : IsStep spec (codes_at tree i) m.last m.new = subst (λ (a : Codes). IsStep spec a m.last m.new) (sym w.same) m.step in
        let kept : IsKept spec hit tree (codes_at tree i) (path_of tree i) m.last = c.tried i m.front m.last w.there w.early mine step.may_come in
        let consistent = ends_consistent spec (path_of tree i) (codes_at tree i) passes.sound (state_ends tree c.sorted i w.there) in
        let one : kept.new ≡ m.new = one_next spec order (codes_at tree i) m.last kept.new m.new passes consistent kept.step step in
        let met : hit m.old m.new ≡ true = subst (λ (f : Codes → Codes → Bool). f m.old m.new ≡ true) same m.met in
        let here : hit (codes_at tree i) kept.new ≡ true =
        subst (λ (a : Codes). hit a kept.new ≡ true) (sym w.same) (subst (λ (a : Codes). hit m.old a ≡ true) (sym one) met) in
        both_ways (hit (codes_at tree i) kept.new) kept.missed here

  -- ---- trees that cover

  -- a tree whose states are all expanded covers each script
  pub whole_covers : (n : ℕ) (tree : Tree) → IsBroad spec hit n tree → n ≡ length tree → Covers tree (λ script. Unit {0})
  whole_covers n tree b all = record {
    sorted = b.sorted;
    down = λ a d less h. tt;
    paths = λ i below. tt;
    tried = λ i front input below early h may.
        all_inputs (IsKept spec hit tree (codes_at tree i) (path_of tree i)) spec (codes_at tree i) input (b.closed i (omega (arith, below, all))) may;
  }

  -- a tree of which the next state is expanded up to this input covers each script that comes before the one of this input
  module _ (n : ℕ) (old : Codes) (front : List Input) (input : Input) (rest : List Input) (tree : Tree) (w : IsUnderWay spec hit n old front tree)
      (whole : inputs_of spec old ≡ (front ++ input ∷ []) ++ rest) where
    abbrev pub end : List Input
    end = path_of tree n ++ input ∷ []

    -- an input of the state that is lesser was tried
    tried_here : (x : Input) → IsInput spec (codes_at tree n) x → IsLesser x input → IsKept spec hit tree (codes_at tree n) (path_of tree n) x
    tried_here x may less =
        let asc = subst Ascends whole (inputs_ascend spec old) in
        let K = IsKept spec hit tree old (path_of tree n) in
        let before : AllByRecursion (λ y. IsLesser y input → K y) front = all_map K (λ y. IsLesser y input → K y) (λ y k l. k) front w.kept in
        let this : AllByRecursion (λ y. IsLesser y input → K y) (input ∷ []) = ((λ l. absurd (lesser_itself input l)), tt) in
        let behind : AllByRecursion (λ y. IsLesser y input → K y) rest =
        all_map (IsLesser input) (λ y. IsLesser y input → K y) (λ y more l. absurd (lesser_itself input (lesser_on input y input more l))) rest (greater_behind front input rest asc) in
        let all : AllByRecursion (λ y. IsLesser y input → K y) (inputs_of spec old) =
        subst (AllByRecursion (λ y. IsLesser y input → K y)) (sym whole)
        (all_both (λ y. IsLesser y input → K y) (front ++ input ∷ []) rest (all_both (λ y. IsLesser y input → K y) front (input ∷ []) before this) behind) in
        let mine : IsInput spec old x = subst (λ (a : Codes). IsInput spec a x) w.at may in
        subst (λ (a : Codes). IsKept spec hit tree a (path_of tree n) x) (sym w.at) (all_inputs (λ y. IsLesser y input → K y) spec old x all mine less)

    tried_before : (i : ℕ) (s : List Input) (x : Input) → i < length tree → NotAfter (path_of tree i) s → ComesBefore (s ++ x ∷ []) end → IsInput spec (codes_at tree i) x
        → IsKept spec hit tree (codes_at tree i) (path_of tree i) x
    tried_before i s x below early h may =
        elim (cases_order i n) [
          | inl same ↦
              let l = lesser_last s (path_of tree n) x input (subst (λ (j : ℕ). NotAfter (path_of tree j) s) same early) h in
              subst (λ (j : ℕ). IsKept spec hit tree (codes_at tree j) (path_of tree j) x) (sym same)
              (tried_here x (subst (λ (j : ℕ). IsInput spec (codes_at tree j) x) same may) l)
          | inr other ↦
              elim other [
                | inl less ↦ all_inputs (IsKept spec hit tree (codes_at tree i) (path_of tree i)) spec (codes_at tree i) x (w.closed i less) may
                | inr more ↦
                    let later : ComesBefore (path_of tree n) s = then_not_after (path_of tree n) (path_of tree i) s (w.sorted.ordered n i more below) early in
                    absurd (before_itself end (before_on end (s ++ x ∷ []) end (before_both (path_of tree n) s input x later) h))
              ]
        ]

    pub part_covers : AllByRecursion (λ y. IsLesser y input) front → Covers tree (λ script. ComesBefore script end)
    part_covers less = record {
      sorted = w.sorted;
      down = λ a d before h. before_on a d end before h;
      paths = λ i below. w.near i below input less;
      tried = tried_before;
    }
