-- Histories are replays.
use Rattle.std.proofs.Common.{◌≡◌, ℕ, ◌+◌, ◌-◌, ◌≤◌, List, [], ◌∷◌, ◌++◌, length, take, refl, sym, ap, subst, ◌∙◌, arith}
use Rattle.std.specs.Prelude.{Some, min}
use Rattle.std.proofs.lemmas.List.{append_assoc, append-nil, length-append}
use Rattle.scr_spec.specs.Data.{Data}
use Rattle.scr_spec.specs.declared.state.Input.{Input}
use Rattle.scr_spec.specs.Meaning.{Codes}
use Rattle.run_back.specs.StepBack.{count_back}
use Rattle.run_back.specs.declared.fault.Replayed.{Replayed}
use Rattle.run_back.specs.declared.fault.Replayed.TheVariants.{Blank, Forward, Back}
use Rattle.run_back.specs.Kept.{Kept, kept, states_of, Shows}
use Rattle.run_back.specs.Replays.{GoesOn, GoesBack, Replays}
use Rattle.run_back.specs.Holds.{Holds, none, passed, added, taken}
use Rattle.run_back.specs.Laws.{Took, begun, fed, IsReplay, Further, here, more, OneHistory}
use Rattle.run_back.proofs.Lists.{keep_split, length-keep, length-push, same_front, same_last}
use Rattle.run_back.proofs.Once.{holds_once}
use Rattle.run_back.proofs.Plain.{plain}
use Rattle.run_back.proofs.Cuts.{shows_ends, shows_first, shows_on, shows_back}

-- ---- line by line

made : (spec : Data) (lines : List (List ℕ)) (k : Kept) (inputs : List Input) (depth : ℕ) → Holds spec lines inputs depth → depth ≡ length k.earlier → Shows spec inputs k → IsReplay spec lines k
made spec lines k inputs depth holds e shows = record { inputs = inputs; holds = subst (λ (d : ℕ). Holds spec lines inputs d) e holds; shows = shows; ends = shows_ends spec inputs k shows }

pub on_depth : (spec : Data) (old : Kept) (input : Input) (new : Kept) → GoesOn spec old input new → min 256 (length old.earlier + 1) ≡ length new.earlier
on_depth spec old input new g =
    let many : length new.earlier ≡ length (states_of old) - (length (states_of old) - 256) = ap (λ (xs : List Codes). length xs) g.earlier ∙ length-keep 256 (states_of old) in
    omega (arith, many, length-push old.earlier old.at)

pub back_depth : (count : ℕ) (old new : Kept) → GoesBack count old new → length old.earlier ≡ length new.earlier + count
back_depth count old new g =
    let long : length (states_of old) ≡ length (states_of new ++ g.taken) = ap (λ (xs : List Codes). length xs) g.states in
    omega (arith, long, g.many, length-append (states_of new) g.taken, length-push old.earlier old.at, length-push new.earlier new.at)

after : (spec : Data) (lines : List (List ℕ)) (line : List ℕ) (old new : Kept) (done : Replayed) → IsReplay spec lines old → Replays spec line old new done → IsReplay spec (lines ++ line ∷ []) new
after spec lines line old new Blank r p =
    subst (IsReplay spec (lines ++ line ∷ [])) (sym p.same) (made spec (lines ++ line ∷ []) old r.inputs (length old.earlier) (passed line r.holds r.ends p.read) refl r.shows)
after spec lines line old new Forward r t =
    made spec (lines ++ line ∷ []) new (r.inputs ++ t.input ∷ []) (min 256 (length old.earlier + 1)) (added line t.input r.holds r.ends t.read) (on_depth spec old t.input new t.goes_on)
    (shows_on spec r.inputs old t.input new r.shows t.goes_on)
after spec lines line old new Back r t =
    let c = shows_back spec r.inputs t.count old new r.shows t.goes_back in
    let depth = back_depth t.count old new t.goes_back in
    let holds : Holds spec lines (c.front ++ c.last) (length old.earlier) = subst (λ (is : List Input). Holds spec lines is (length old.earlier)) c.is r.holds in
    let read : count_back line ≡ Some (length c.last) = t.read ∙ ap (λ (n : ℕ). Some n) (sym c.many) in
    let within : length c.last ≤ length old.earlier = omega (arith, depth, c.many) in
    made spec (lines ++ line ∷ []) new c.front (length old.earlier - length c.last) (taken line c.front c.last holds read within) (omega (arith, depth, c.many)) c.of_front

replay : (spec : Data) (lines : List (List ℕ)) (k : Kept) → Took spec lines k → IsReplay spec lines k
replay spec lines k (begun {first = first} h) = made spec [] (kept [] first 0) [] 0 none refl (shows_first spec first h)
replay spec lines k (fed {lines = ls} {old = o} {new = n} l d t r) = after spec ls l o n d (replay spec ls o t) r

-- ---- back to where it was

record Reaches (count : ℕ) (old now : Kept) : Type 0 where
  front : List Codes
  last : List Codes
  many : length last ≡ count
  states : front ++ states_of now ≡ states_of old ++ last
  number : now.number ≡ old.number + count

reached : (spec : Data) (count : ℕ) (old now : Kept) → Further spec count old now → Reaches count old now
reached spec count old now (here {k = k}) = record { front = []; last = []; many = refl; states = sym (append-nil (states_of k)); number = omega arith }
reached spec count old now (more {count = n} {old = o} {now = m} {new = new} input f g) =
    let r = reached spec n o m f in
    let dropped = take (length (states_of m) - 256) (states_of m) in
    let longer : dropped ++ states_of new ≡ states_of m ++ new.at ∷ [] =
    sym (append_assoc dropped new.earlier (new.at ∷ [])) ∙ ap (λ (xs : List Codes). (dropped ++ xs) ++ new.at ∷ []) g.earlier ∙ ap (λ (xs : List Codes). xs ++ new.at ∷ []) (keep_split 256 (states_of m)) in
    record {
      front = r.front ++ dropped;
      last = r.last ++ new.at ∷ [];
      many = length-push r.last new.at ∙ ap (λ (k : ℕ). k + 1) r.many ∙ omega arith;
      states = append_assoc r.front dropped (states_of new) ∙ ap (λ (xs : List Codes). r.front ++ xs) longer ∙ sym (append_assoc r.front (states_of m) (new.at ∷ []))
          ∙ ap (λ (xs : List Codes). xs ++ new.at ∷ []) r.states ∙ append_assoc (states_of o) r.last (new.at ∷ []);
      number = omega (arith, g.number, r.number);
    }

back : (spec : Data) (count : ℕ) (old now new : Kept) → Further spec count old now → GoesBack count now new → (new.at ≡ old.at) × (new.number ≡ old.number)
back spec count old now new f g =
    let r = reached spec count old now f in
    let whole : (r.front ++ states_of new) ++ g.taken ≡ states_of old ++ r.last = append_assoc r.front (states_of new) g.taken ∙ ap (λ (xs : List Codes). r.front ++ xs) (sym g.states) ∙ r.states in
    let front : r.front ++ states_of new ≡ states_of old = same_front (r.front ++ states_of new) (states_of old) g.taken r.last whole (g.many ∙ sym r.many) in
    (same_last (r.front ++ new.earlier) old.earlier new.at old.at (append_assoc r.front new.earlier (new.at ∷ []) ∙ front), omega (arith, g.number, r.number))

pub one_history : OneHistory
one_history = record {
  replay = replay;
  once = λ spec order lines a b d e k. holds_once spec order k lines lines refl a b d e;
  plain = plain;
  back = back;
}
