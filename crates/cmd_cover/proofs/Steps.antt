-- What a line of a script does to a tally.
use Rattle.std.proofs.Common.{◌≡◌, ℕ, ◌+◌, ◌-◌, length, Bool, true, false, List, [], ◌∷◌, ◌++◌, map, None, Some, Ok, Err, refl, sym, ap, ap₂, subst, ◌∙◌}
use Rattle.std.specs.Prelude.{Result, IfOk, OnOk}
use Rattle.std.proofs.lemmas.Bool.{false≢true}
use Rattle.std.proofs.lemmas.List.{append-nil, append_assoc}
use Rattle.base_io.specs.declared.lines.Piece.{Piece}
use Rattle.base_io.specs.declared.lines.Piece.TheVariants.{Line}
use Rattle.base_io.specs.Line.{next_piece}
use Rattle.base.specs.declared.memory.NoMemory.{NoMemory}
use Rattle.base.specs.Ends.{line_with_end}
use Rattle.scr_spec.specs.Data.{Data}
use Rattle.scr_spec.specs.declared.state.Input.{Input}
use Rattle.scr_spec.specs.Meaning.{Codes}
use Rattle.run_step.specs.Runs.{IsStep}
use Rattle.base_script.specs.Faults.{script_fault}
use Rattle.run_script.specs.declared.fault.ScriptFault.{ScriptFault}
use Rattle.run_script.specs.Faults.{kind_of}
use Rattle.run_script.specs.Feeds.{Feeds, Refuses}
use Rattle.run_script.specs.Script.{read_line}
use Rattle.cmd_work.specs.declared.status.Status.{Status}
use Rattle.cmd_work.specs.declared.status.Status.TheVariants.{ScriptRefused}
use Rattle.cmd_work.specs.Session.{GoesOn, IsLast, IsClosed, IsAnswered, behind, first_line}
use Rattle.cmd_work.specs.Closing.{closing_text, closing_status}
use Rattle.cmd_work.proofs.ClosingLemmas.{closing}
use Rattle.run_cover.specs.declared.count.Count.{Count}
use Rattle.run_cover.specs.Counts.{raised}
use Rattle.run_cover.specs.Tallies.{IsTally}
use Rattle.run_cover.proofs.Tallied.{one_cover}
use Rattle.cmd_cover.specs.Text.{tally_text, coverage_text}
use Rattle.cmd_cover.specs.Covers.{closed, faulty, passed, taken, CoversTally}

-- the text of a tally is that of the run that it counts
tells : (spec : Data) (first : Codes) (states : List Codes) (counts : List Count) (at : Codes) (notes : ℕ) → IsTally spec first states counts at notes
    → tally_text spec counts notes ≡ coverage_text spec first states
tells spec first states counts at notes t = ap₂ (λ ns n. tally_text spec ns n) t.each t.many

module _ (spec : Data) (counts : List Count) (at : Codes) (notes number room : ℕ) (rest : List ℕ) where
  pub closes : (piece : Piece) (status : Status) → next_piece room rest ≡ piece → (piece ≡ Line → ⊥) → status ≡ closing_status piece
      → CoversTally spec counts at notes number room rest (tally_text spec counts notes ++ closing_text number piece) status
  closes piece status next other ends first states t = closed piece next other (ap (λ bytes. bytes ++ closing_text number piece) (tells spec first states counts at notes t)) ends

  pub refuses : (fault : ScriptFault) → next_piece room rest ≡ Line → read_line spec at (first_line rest) ≡ Err fault
      → CoversTally spec counts at notes number room rest (tally_text spec counts notes ++ script_fault number (kind_of fault)) ScriptRefused
  refuses fault piece read first states t = faulty fault piece read (ap (λ bytes. bytes ++ script_fault number (kind_of fault)) (tells spec first states counts at notes t)) refl

  pub passes : (bytes : List ℕ) (status : Status) → next_piece room rest ≡ Line → read_line spec at (first_line rest) ≡ Ok None
      → CoversTally spec counts at notes (number + 1) (room - length (line_with_end rest)) (behind rest) bytes status → CoversTally spec counts at notes number room rest bytes status
  passes bytes status piece read later first states t = passed piece read (later first states t)

  pub takes : (input : Input) (new : Codes) (bytes : List ℕ) (status : Status) → next_piece room rest ≡ Line → read_line spec at (first_line rest) ≡ Ok (Some input) → IsStep spec at input new
      → CoversTally spec (map (raised spec at new) counts) new (notes + 1) (number + 1) (room - length (line_with_end rest)) (behind rest) bytes status
      → CoversTally spec counts at notes number room rest bytes status
  takes input new bytes status piece read step later first states t =
      taken input new piece read step (later first (states ++ new ∷ []) (one_cover.noted spec first states counts at notes new t))

-- ---- the same for a session

pub taken_line : (spec other : Data) (counts after_counts : List Count) (at new after_at : Codes) (notes after_notes number : ℕ) (line before : List ℕ) (held : Bool) → Feeds spec line at new held → held ≡ true
    → other ≡ spec → after_counts ≡ map (raised spec at new) counts → after_at ≡ new → after_notes ≡ notes + 1 → IsAnswered (CoversTally other after_counts after_at after_notes)
    → GoesOn (CoversTally spec counts at notes) (CoversTally other after_counts after_at after_notes) number line before before
taken_line spec other counts after_counts at new after_at notes after_notes number line before false fed is same grown present more some = absurd (false≢true is)
taken_line spec other counts after_counts at new after_at notes after_notes number line before true fed is same grown present more some = record {
  text = [];
  appended = sym (append-nil before);
  leads = λ room rest bytes status piece first h.
      takes spec counts at notes number room rest fed.input new bytes status piece (ap (read_line spec at) first ∙ fed.read) fed.step
      (subst (λ s. CoversTally s (map (raised spec at new) counts) new (notes + 1) (number + 1) (room - length (line_with_end rest)) (behind rest) bytes status) same
      (subst (λ ns. CoversTally other ns new (notes + 1) (number + 1) (room - length (line_with_end rest)) (behind rest) bytes status) grown
      (subst (λ a. CoversTally other after_counts a (notes + 1) (number + 1) (room - length (line_with_end rest)) (behind rest) bytes status) present
      (subst (λ n. CoversTally other after_counts after_at n (number + 1) (room - length (line_with_end rest)) (behind rest) bytes status) more h))));
  some = some;
}

pub passed_line : (spec other : Data) (counts : List Count) (at new : Codes) (notes number : ℕ) (line before : List ℕ) (held : Bool) → Feeds spec line at new held → held ≡ false → other ≡ spec
    → IsAnswered (CoversTally other counts at notes) → GoesOn (CoversTally spec counts at notes) (CoversTally other counts at notes) number line before before
passed_line spec other counts at new notes number line before true fed is same some = absurd (false≢true (sym is))
passed_line spec other counts at new notes number line before false fed is same some = record {
  text = [];
  appended = sym (append-nil before);
  leads = λ room rest bytes status piece first h.
      passes spec counts at notes number room rest bytes status piece (ap (read_line spec at) first ∙ fed.read)
      (subst (λ s. CoversTally s counts at notes (number + 1) (room - length (line_with_end rest)) (behind rest) bytes status) same h);
  some = some;
}

pub faulty_line : (spec : Data) (counts : List Count) (at new : Codes) (notes number : ℕ) (line before mid after : List ℕ) (fault : ScriptFault) → Refuses spec line at new fault
    → mid ≡ before ++ tally_text spec counts notes → after ≡ mid ++ script_fault number (kind_of fault) → IsLast (CoversTally spec counts at notes) number line before after ScriptRefused
faulty_line spec counts at new notes number line before mid after fault refused told said = record {
  text = tally_text spec counts notes ++ script_fault number (kind_of fault);
  appended = said ∙ ap (λ bytes. bytes ++ script_fault number (kind_of fault)) told ∙ append_assoc before (tally_text spec counts notes) (script_fault number (kind_of fault));
  answers = λ room rest piece first. refuses spec counts at notes number room rest fault piece (ap (read_line spec at) first ∙ refused.read);
  own = refl;
}

-- at the end of a script the lines on the run come first
pub closed_text : (r : Result Status NoMemory) (spec : Data) (counts : List Count) (at : Codes) (notes number : ℕ) (piece : Piece) (before mid after : List ℕ) → (piece ≡ Line → ⊥)
    → mid ≡ before ++ tally_text spec counts notes → OnOk r (after ≡ mid ++ closing_text number piece) → IfOk r (λ status. status ≡ closing_status piece)
    → IfOk r (IsClosed (CoversTally spec counts at notes) number piece before after)
closed_text (Err e) spec counts at notes number piece before mid after other told said ends = tt
closed_text (Ok status) spec counts at notes number piece before mid after other told said ends = record {
  text = tally_text spec counts notes ++ closing_text number piece;
  appended = said ∙ ap (λ bytes. bytes ++ closing_text number piece) told ∙ append_assoc before (tally_text spec counts notes) (closing_text number piece);
  answers = λ room rest next. closes spec counts at notes number room rest piece status next other ends;
  own = (closing (Ok status) (λ n room rest bytes s. Unit {0}) number piece [] (closing_text number piece) (λ room rest s next is. tt) refl ends).own;
}
