-- What the searches over a piece tell of the whole.
use Rattle.std.proofs.Common.{◌≡◌, ℕ, true, false, List, length, Option, Some, None, Result, Ok, Err, sym, ap, subst, ◌∙◌}
use Rattle.std.specs.Prelude.{IsTrue, IfOk}
use Rattle.base.specs.declared.memory.NoMemory.{NoMemory}
use Rattle.scr_spec.specs.declared.spec.Spec.{Spec}
use Rattle.scr_spec.specs.Shown.{data_of}
use Rattle.scr_spec.specs.declared.cond.Cond.{Cond}
use Rattle.scr_spec.specs.declared.state.Input.{Input}
use Rattle.scr_spec.specs.Over.{is_cond_over}
use Rattle.scr_depend.specs.declared.checked.Checked.{Checked}
use Rattle.scr_depend.specs.Passes.{PassesChecks}
use Rattle.run_reach.specs.declared.answer.Answer.{Answer}
use Rattle.run_reach.specs.Answers.{IsAnswer}
use Rattle.run_reach.specs.Targets.{broken_by}
use Rattle.run_broken.specs.declared.piece.Piece.{Piece}
use Rattle.scr_slice.specs.Slices.{AreKept}
use Rattle.run_broken.specs.Slices.{mentioned_below, mentioned}
use Rattle.run_broken.specs.Breaks.{broken_still, IsBreak}
use Rattle.run_broken.specs.Dropped.{IsFirstOutside}
use Rattle.run_broken.specs.Pieces.{IsPieceFor, IsOneState, IsJoined, IsTwoStates}
use Rattle.run_broken.proofs.Truths.{over_kept}
use Rattle.run_broken.proofs.Answers.{one_state, none_aside, aside}

passes : (k : Checked) → PassesChecks (data_of k.spec) k.order
passes k = record { sound = k.spec.sound; ordered = k.ordered; right = k.right }

module _ (whole : Checked) (c : Cond) (over : IsTrue (is_cond_over (data_of whole.spec) c)) (piece : Piece) (is : IsPieceFor (data_of whole.spec) c piece) (most : ℕ) where
  pub piece_over : IsTrue (is_cond_over (data_of piece.part.spec) piece.cond)
  piece_over = ap (is_cond_over (data_of piece.part.spec)) is.cond_is ∙ over_kept (data_of whole.spec) c piece.keep (data_of piece.part.spec) is.need over whole.spec.sound

  pub one_told : (a : Answer) → IsOneState piece most a → IsBreak (data_of whole.spec) false c most a
  one_told a t =
      let slice = data_of piece.part.spec in
      subst (IsBreak (data_of whole.spec) false c most) (sym t.whole)
      (one_state (data_of whole.spec) whole.order (passes whole) c over piece.keep slice is.need piece.part.order (passes piece.part) most t.own
      (subst (λ (d : Cond). IsAnswer slice (broken_by slice false d) most t.own) is.cond_is t.searched))

  join_told : (own : Answer) → IsAnswer (data_of piece.part.spec) (broken_by (data_of piece.part.spec) true piece.cond) most own → (o : Option Input) → IsFirstOutside (data_of whole.spec) piece.keep o → (a : Answer)
      → IsJoined piece most own o a → IsBreak (data_of whole.spec) true c most a
  join_told own searched None f a j =
      let slice = data_of piece.part.spec in
      subst (IsBreak (data_of whole.spec) true c most) (sym j)
      (none_aside (data_of whole.spec) whole.order (passes whole) c over piece.keep slice is.need piece.part.order (passes piece.part) most f own
      (subst (λ (d : Cond). IsAnswer slice (broken_by slice true d) most own) is.cond_is searched))
  join_told own searched (Some x) f a j =
      let slice = data_of piece.part.spec in
      subst (IsBreak (data_of whole.spec) true c most) (sym j.2)
      (aside (data_of whole.spec) whole.order (passes whole) c over piece.keep slice is.need piece.part.order (passes piece.part) most x f own
      (subst (λ (d : Cond). IsAnswer slice (broken_by slice true d) most own) is.cond_is searched) j.0
      (subst (λ (d : Cond). IsAnswer slice (broken_still slice d) most j.0) is.cond_is j.1))

  pub two_told : (a : Answer) → IsTwoStates (data_of whole.spec) piece most a → IsBreak (data_of whole.spec) true c most a
  two_told a t = join_told t.own t.searched t.outside t.first a t.joins

-- ---- results

pub if_ok : (P Q : Answer → Type 0) (r : Result Answer NoMemory) → ((a : Answer) → P a → Q a) → IfOk r P → IfOk r Q
if_ok P Q (Err e) f h = tt
if_ok P Q (Ok a) f h = f a h

-- the names are those that the condition mentions
pub names_are : (whole given : Spec) (c : Cond) (n : ℕ) (names list : List ℕ) → given ≡ whole → n ≡ length given.variables → names ≡ mentioned_below n c → list ≡ names → list ≡ mentioned (data_of whole) c
names_are whole given c n names list e f g h = h ∙ g ∙ ap (λ (k : ℕ). mentioned_below k c) f ∙ ap (λ (s : Spec). mentioned_below (length s.variables) c) e

pub kept_are : (whole given : Spec) (c : Cond) (names keep : List ℕ) → given ≡ whole → names ≡ mentioned (data_of whole) c → AreKept (data_of given) names keep → AreKept (data_of whole) (mentioned (data_of whole) c) keep
kept_are whole given c names keep e f k = subst (λ (ns : List ℕ). AreKept (data_of whole) ns keep) f (subst (λ (s : Spec). AreKept (data_of s) names keep) e k)
