-- What words ask of `format` is right.
use Rattle.std.proofs.Common.{◌≡◌, ℕ, List, Option, None, Some, IsTrue, refl, sym, subst}
use Rattle.scr_spec.specs.Data.{Data}
use Rattle.scr_resolve.specs.Texts.{Spells}
use Rattle.scr_resolve.proofs.Readings.{one_reading}
use Rattle.cmd_work.specs.declared.status.Status.{Status}
use Rattle.cmd_work.specs.declared.status.Status.TheVariants.{Done}
use Rattle.cmd_work.specs.Work.{AreRight, IsRightly, asked_by, only_done}
use Rattle.cmd_format.specs.Formats.{FormatsText, formatted, refused, Formats}
use Rattle.cmd_format.specs.Offered.{IsSpelled, task_of, asked_of}
use Rattle.cmd_format.proofs.Formatting.{formats_once, some_formats}

text_done : (text bytes : List ℕ) (is : Status) (spec : Data) → Spells text spec → FormatsText text bytes is → is ≡ Done
text_done text bytes is spec spells (formatted made s) = refl
text_done text bytes is spec spells (refused r h) = absurd (one_reading.apart text spec r spells h)

done : (held : Option (List ℕ)) (bytes : List ℕ) (is : Status) → IsSpelled held → Formats held bytes is → is ≡ Done
done held bytes is p answer = text_done p.0 bytes is p.1 p.3 (subst (λ h. Formats h bytes is) p.2 answer)

right_task : (named : Option (List ℕ)) → IsRightly (asked_by task_of named)
right_task None = tt
right_task (Some name) = record {
  once = λ files. formats_once (files name);
  some = λ files. some_formats (files name);
  ends = λ files bytes is spelled answer. subst (λ s. IsTrue (only_done s)) (sym (done (files name) bytes is spelled answer)) refl;
  done = λ files. done (files name);
}

pub right : AreRight asked_of
right words = right_task _
