-- What is asked of a command that checks its first file is right, by what it has of its own for a specification that passes.
use Rattle.std.proofs.Common.{◌≡◌, ◌⊎◌, ℕ, List, [], Option, None, Some, IsTrue, refl, subst, inl, inr}
use Rattle.std.specs.Prelude.{Bool, IsSome}
use Rattle.base_io.specs.declared.lines.Piece.{Piece}
use Rattle.base_io.specs.declared.lines.Piece.TheVariants.{Line, Long, Past, End}
use Rattle.scr_spec.specs.Data.{Data}
use Rattle.scr_depend.specs.declared.order.Order.{Order}
use Rattle.cmd_work.specs.declared.status.Status.{Status}
use Rattle.cmd_work.specs.declared.status.Status.TheVariants.{Done, ScriptRefused}
use Rattle.cmd_work.specs.Ends.{ByFile, IsFront}
use Rattle.cmd_work.specs.Closing.{closing_status}
use Rattle.cmd_work.specs.Stops.{StopsNowhere}
use Rattle.cmd_work.specs.Work.{IsRightly, asked_by}
use Rattle.cmd_checked.specs.Checking.{Passes, ChecksFirst, ScriptAnswers, ReachesScript}
use Rattle.cmd_checked.specs.Offered.{IsThereWith, PassesWith, GoThrough, done_or_refused, one_checked, two_checked}
use Rattle.cmd_checked.proofs.Checks.{one_checking}
use Rattle.cmd_checked.proofs.First.{Own, first_own}

-- ---- by one file

pub one_right : (answers : ℕ → Option (List ℕ) → List ℕ → Status → Type 0) (is_faultless : ℕ → Option (List ℕ) → Type 0) (may_end : Status → Bool)
    → ((limit : ℕ) (held : Option (List ℕ)) (x y : List ℕ) (i j : Status) → answers limit held x i → answers limit held y j → (x ≡ y) × (i ≡ j))
    → ((limit : ℕ) (held : Option (List ℕ)) → IsFront (answers limit held) [])
    → ((limit : ℕ) (held : Option (List ℕ)) (bytes : List ℕ) (is : Status) → ReachesScript limit held → answers limit held bytes is → IsTrue (may_end is))
    → ((limit : ℕ) (held : Option (List ℕ)) (bytes : List ℕ) (is : Status) → is_faultless limit held → answers limit held bytes is → is ≡ Done)
    → (named : Option (List ℕ × ℕ)) → IsRightly (asked_by (one_checked answers is_faultless may_end) named)
one_right answers is_faultless may_end once some ends done None = tt
one_right answers is_faultless may_end once some ends done (Some named) = record {
  once = λ files. once named.1 (files named.0);
  some = λ files. some named.1 (files named.0);
  ends = λ files. ends named.1 (files named.0);
  done = λ files. done named.1 (files named.0);
}

-- by what the command has of its own for each specification that passes
pub ends_first : (own : Own) (may : Status → Type 0) (limit : ℕ) (held : Option (List ℕ)) (bytes : List ℕ) (is : Status) → ((spec : Data) → own spec bytes is → may is)
    → ReachesScript limit held → ByFile (ChecksFirst own limit) held bytes is → may is
ends_first own may limit None bytes is ends reaches answer = absurd reaches
ends_first own may limit (Some text) bytes is ends p answer = ends p.0 (first_own own limit text p.0 p.1 bytes is p.2 answer)

-- a text that passes its checks is answered by what the command has of its own for it
pub done_first : (own : Own) (limit : ℕ) (so : Data → Order → Type 0) (held : Option (List ℕ)) (bytes : List ℕ) (is : Status)
    → ((text : List ℕ) (spec : Data) (order : Order) → Passes limit text spec order → so spec order → ChecksFirst own limit text bytes is → is ≡ Done)
    → IsThereWith (PassesWith limit so) held → ByFile (ChecksFirst own limit) held bytes is → is ≡ Done
done_first own limit so None bytes is done p answer = absurd p
done_first own limit so (Some text) bytes is done p answer = done text p.0 p.1 p.2 p.3 answer

-- ---- by two files

pub two_right : (reads : Bool) (answers : ℕ → Option (List ℕ) → Option (List ℕ) → List ℕ → Status → Type 0) (is_faultless : ℕ → Option (List ℕ) → Option (List ℕ) → Type 0)
    (may_end : Status → Bool)
    → ((limit : ℕ) (held second : Option (List ℕ)) (x y : List ℕ) (i j : Status) → answers limit held second x i → answers limit held second y j → (x ≡ y) × (i ≡ j))
    → ((limit : ℕ) (held second : Option (List ℕ)) → IsFront (answers limit held second) [])
    → ((limit : ℕ) (held second : Option (List ℕ)) (bytes : List ℕ) (is : Status) → ReachesScript limit held → IsSome second → answers limit held second bytes is → IsTrue (may_end is))
    → ((limit : ℕ) (held second : Option (List ℕ)) (bytes : List ℕ) (is : Status) → is_faultless limit held second → answers limit held second bytes is → is ≡ Done)
    → (named : Option (List ℕ × List ℕ × ℕ)) → IsRightly (asked_by (two_checked reads answers is_faultless may_end) named)
two_right reads answers is_faultless may_end once some ends done None = tt
two_right reads answers is_faultless may_end once some ends done (Some named) = record {
  once = λ files. once named.2 (files named.0) (files named.1);
  some = λ files. some named.2 (files named.0) (files named.1);
  ends = λ files bytes is accepted. ends named.2 (files named.0) (files named.1) bytes is accepted.0 accepted.1;
  done = λ files. done named.2 (files named.0) (files named.1);
}

-- a text that passes, and a second file that is there, are answered by what the command has of its own for them
pub done_both : (own : Data → Option (List ℕ) → List ℕ → Status → Type 0) (limit : ℕ) (so : Data → List ℕ → Type 0) (held second : Option (List ℕ)) (bytes : List ℕ) (is : Status)
    → ((text other : List ℕ) (spec : Data) (order : Order) → Passes limit text spec order → so spec other → ScriptAnswers own limit (Some text) (Some other) bytes is → is ≡ Done)
    → IsThereWith (PassesWith limit (λ spec order. IsThereWith (so spec) second)) held → ScriptAnswers own limit held second bytes is → is ≡ Done
done_both own limit so None second bytes is done p answer = absurd p
done_both own limit so (Some text) None bytes is done p answer = absurd p.3
done_both own limit so (Some text) (Some other) bytes is done p answer = done text other p.0 p.1 p.2 p.3 answer

-- ---- by a script

-- how a command with a script ends
abbrev pub IsScriptEnd : Status → Type 0
IsScriptEnd is = (is ≡ Done) ⊎ (is ≡ ScriptRefused)

script_may : (is : Status) → IsScriptEnd is → IsTrue (done_or_refused is)
script_may is (inl e) = rw e refl
script_may is (inr e) = rw e refl

script_done : (is : Status) → IsScriptEnd is → (is ≡ ScriptRefused → ⊥) → is ≡ Done
script_done is (inl e) other = e
script_done is (inr e) other = absurd (other e)

pub closing_end : (piece : Piece) → IsScriptEnd (closing_status piece)
closing_end End = inl refl
closing_end Past = inr refl
closing_end Long = inr refl
closing_end Line = inl refl

-- a specification stands in for another that the same text spells
for_spec : (limit : ℕ) (text : List ℕ) (spec other : Data) (order later : Order) (tells : Data → Type 0) → Passes limit text spec order → Passes limit text other later → tells other → tells spec
for_spec limit text spec other order later tells p q told = subst tells (one_checking.one_spec limit text other spec later order q p) told

-- where it is refused, what is told leads up to a place where the script stops
pub script_right : (reads : Bool) (own : Data → Option (List ℕ) → List ℕ → Status → Type 0) (tells : Data → List ℕ → List ℕ → Type 0)
    → ((limit : ℕ) (held script : Option (List ℕ)) (x y : List ℕ) (i j : Status) → ScriptAnswers own limit held script x i → ScriptAnswers own limit held script y j → (x ≡ y) × (i ≡ j))
    → ((limit : ℕ) (held script : Option (List ℕ)) → IsFront (ScriptAnswers own limit held script) [])
    → ((spec : Data) (script : Option (List ℕ)) (bytes : List ℕ) (is : Status) → IsSome script → own spec script bytes is → IsScriptEnd is)
    → ((limit : ℕ) (text script bytes : List ℕ) → ScriptAnswers own limit (Some text) (Some script) bytes ScriptRefused
    → (spec : Data) × (order : Order) × Passes limit text spec order × tells spec script bytes)
    → (named : Option (List ℕ × List ℕ × ℕ)) → IsRightly (asked_by (two_checked reads (ScriptAnswers own) (GoThrough tells) done_or_refused) named)
script_right reads own tells once some ending front named =
    two_right reads (ScriptAnswers own) (GoThrough tells) done_or_refused once some
    (λ limit held script bytes is reaches there answer.
    ends_first (λ spec. own spec script) (λ s. IsTrue (done_or_refused s)) limit held bytes is (λ spec mine. script_may is (ending spec script bytes is there mine)) reaches answer)
    (λ limit held script bytes is. done_both own limit (λ spec text. StopsNowhere (tells spec text)) held script bytes is (faultless limit bytes is)) named
  where
    faultless : (limit : ℕ) (bytes : List ℕ) (is : Status) (text script : List ℕ) (spec : Data) (order : Order) → Passes limit text spec order → StopsNowhere (tells spec script)
        → ScriptAnswers own limit (Some text) (Some script) bytes is → is ≡ Done
    faultless limit bytes is text script spec order p nowhere answer =
        script_done is (ending spec (Some script) bytes is refl (first_own (λ s. own s (Some script)) limit text spec order bytes is p answer))
        (λ e.
        let f = front limit text script bytes (subst (ScriptAnswers own limit (Some text) (Some script) bytes) e answer) in
        nowhere bytes (for_spec limit text spec f.0 order f.1 (λ s. tells s script bytes) p f.2 f.3))
