-- A text has one formatting, which spells what the text spells.
use Rattle.std.proofs.Common.{◌≡◌, ℕ, List, [], Option, Some, refl, sym, ap, subst}
use Rattle.scr_spec.specs.Data.{Data}
use Rattle.scr_resolve.specs.Texts.{Spells}
use Rattle.scr_resolve.proofs.Readings.{one_reading, spelled_is_sound}
use Rattle.scr_parse.specs.declared.text.TheConstants.{TEXT_LIMIT}
use Rattle.scr_printer.specs.Text.{canonical}
use Rattle.scr_roundtrip.specs.Laws.{PassesNoLimit, IsCanonical}
use Rattle.scr_roundtrip.proofs.Laws as canonical_law
use Rattle.cmd_report.specs.Faults.{refusal_text}
use Rattle.cmd_work.specs.declared.status.Status.{Status}
use Rattle.cmd_work.specs.declared.status.Status.TheVariants.{Done, SpecRefused}
use Rattle.cmd_work.specs.declared.whole.Loaded.{Loaded}
use Rattle.cmd_work.specs.Load.{IsLoaded}
use Rattle.cmd_work.specs.Ends.{IsFront}
use Rattle.cmd_work.proofs.TwoFilesLemmas.{loaded_file}
use Rattle.cmd_work.proofs.EndsLemmas.{by_file_once, by_file_some}
use Rattle.cmd_checked.specs.Spelling.{IsRefusedWith}
use Rattle.cmd_format.specs.Formats.{FormatsText, formatted, refused, Formats}
use Rattle.cmd_format.specs.Laws.{OneFormatting}

-- ---- of a file

pub formatted_file : (file : Loaded) (spec : Data) (out : List ℕ) → ((text : List ℕ) → IsLoaded TEXT_LIMIT (Some text) file → Spells text spec) → out ≡ canonical spec
    → (held : Option (List ℕ)) → IsLoaded TEXT_LIMIT held file → Formats held out Done
formatted_file file spec out spells same held loaded = loaded_file TEXT_LIMIT (λ h. Formats h out Done) held file loaded (λ text l. rw same (formatted {text = text} spec (spells text l)))

pub refused_file : (file : Loaded) (out : List ℕ) → ((text : List ℕ) → IsLoaded TEXT_LIMIT (Some text) file → IsRefusedWith text out)
    → (held : Option (List ℕ)) → IsLoaded TEXT_LIMIT held file → Formats held out SpecRefused
refused_file file out is held loaded = loaded_file TEXT_LIMIT (λ h. Formats h out SpecRefused) held file loaded (λ text l. let r = is text l in rw r.line_is (refused {text = text} r.refusal r.refused))

-- ---- one answer

text_once : (text x y : List ℕ) (i j : Status) → FormatsText text x i → FormatsText text y j → (x ≡ y) × (i ≡ j)
text_once text x y i j (formatted a s) (formatted b t) = (ap canonical (one_reading.once text a b s t), refl)
text_once text x y i j (formatted a s) (refused r h) = absurd (one_reading.apart text a r s h)
text_once text x y i j (refused r h) (formatted b t) = absurd (one_reading.apart text b r t h)
text_once text x y i j (refused r h) (refused q k) = (ap refusal_text (one_reading.one_refusal text r q h k), refl)

some_format : (text : List ℕ) → IsFront (FormatsText text) []
some_format text none = one_reading.some text (λ spec spells. none (canonical spec) Done (formatted spec spells)) (λ refusal is. none (refusal_text refusal) SpecRefused (refused refusal is))

pub formats_once : (held : Option (List ℕ)) (x y : List ℕ) (i j : Status) → Formats held x i → Formats held y j → (x ≡ y) × (i ≡ j)
formats_once held x y i j a b = by_file_once FormatsText held x y i j (λ text. text_once text x y i j) a b

pub some_formats : (held : Option (List ℕ)) → IsFront (Formats held) []
some_formats held = by_file_some FormatsText held some_format

-- ---- the same specification

other_end : (Q : Type 0) → Done ≡ SpecRefused → Q
other_end Q e = absurd (cc)

at_end : (text out : List ℕ) (status : Status) → FormatsText text out status → status ≡ Done → PassesNoLimit out → (spec : Data) → Spells text spec → IsCanonical out spec
at_end text out status (formatted a s) e passes spec spells =
    let same : a ≡ spec = one_reading.once text a spec s spells in
    subst (IsCanonical (canonical a)) same (canonical_law.canonical_spells a (spelled_is_sound.sound text a s) passes)
at_end text out status (refused r h) e passes spec spells = other_end (IsCanonical (refusal_text r) spec) (sym e)

pub one_formatting : OneFormatting
one_formatting = record { once = text_once; some = some_format; same = λ text out f passes spec spells. at_end text out Done f refl passes spec spells }
