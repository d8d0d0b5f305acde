-- The laws of the canonical text.
use Rattle.std.proofs.Common.{◌≡◌, ℕ, List, false, [], refl, sym, ap, subst, ◌∙◌, append-nil}
use Rattle.std.specs.Prelude.{Result, Ok, Err, IfOk}
use Rattle.scr_spec.specs.Data.{Data}
use Rattle.scr_spec.specs.declared.cond.Cond.{Cond}
use Rattle.scr_spec.specs.Sound.{IsSound}
use Rattle.scr_spec.proofs.Kept.{rules_kept}
use Rattle.scr_tokens.specs.declared.word.Word.TheVariants as w
use Rattle.scr_tokens.specs.declared.word.Keyword.TheVariants as k
use Rattle.scr_parse.specs.Words.{NotAt}
use Rattle.scr_parse.specs.Conds.{Cond as Reads}
use Rattle.scr_scope.specs.Conditions.{cond_of, is_typed_cond}
use Rattle.scr_printer.specs.Conds.{cond_words}
use Rattle.scr_roundtrip.specs.Laws.{PassesNoLimit, CanonicalReads, IsCondSound, CondComesBack, CondsComeBack, IsCanonical, CanonicalSpells}
use Rattle.scr_roundtrip.proofs.Drafts.{draft_cond, statements_of}
use Rattle.scr_roundtrip.proofs.CondsRead.{as_cond, cond_read}
use Rattle.scr_roundtrip.proofs.LinesRead.{lines_read}
use Rattle.scr_roundtrip.proofs.TextRead.{numbered_from, text_read}
use Rattle.scr_roundtrip.proofs.Good.{cond_good, spec_good}
use Rattle.scr_roundtrip.proofs.SoundLines.{lines_sound}
use Rattle.scr_roundtrip.proofs.Resolved.{state, cond_back}
use Rattle.scr_roundtrip.proofs.Named.{are_named}
use Rattle.scr_scope.specs.Entries.{entries_of}
use Rattle.scr_printer.specs.Text.{canonical}
use Rattle.scr_roundtrip.proofs.Whole.{statements_resolve}
use Rattle.scr_resolve.specs.Texts.{Spells}
use Rattle.scr_resolve.proofs.Readings.{one_reading}

pub canonical_reads : CanonicalReads
canonical_reads spec sound keeps = (numbered_from 1 (statements_of spec), text_read (lines_read spec (spec_good spec sound)) (lines_sound spec sound) keeps)

no_and : NotAt (w.Reserved k.And) []
no_and more e = cc

no_or : NotAt (w.Reserved k.Or) []
no_or more e = cc

cond_comes_back : (spec : Data) → IsSound spec → (c : Cond) → IsCondSound spec c → CondComesBack spec (entries_of spec) c
cond_comes_back spec sound c kept =
    let named = are_named spec (rules_kept spec sound).named.once in
    let read = as_cond _ (cond_words spec c) (draft_cond spec c) (cond_read spec c (cond_good spec c kept.typed kept.unprimed kept.sides kept.joined)) [] refl no_and no_or in
    record {
      drafts = read.0;
      reads = subst (λ words. Reads false words (read.0) []) (append-nil (cond_words spec c)) (read.1);
      resolves = λ ts cur. ap (cond_of (state spec (entries_of spec) ts cur)) (read.2) ∙ (cond_back spec (entries_of spec) sound named ts cur c kept.over).resolved;
      typed = λ ts cur. ap (is_typed_cond (state spec (entries_of spec) ts cur)) (read.2) ∙ (cond_back spec (entries_of spec) sound named ts cur c kept.over).typed ∙ kept.typed;
    }

pub conds_come_back : CondsComeBack
conds_come_back spec sound c kept = cond_comes_back spec sound c kept

canonical_is_spelt : (spec : Data) → IsSound spec → PassesNoLimit (canonical spec) → Spells (canonical spec) spec
canonical_is_spelt spec sound keeps = record {
  draft = numbered_from 1 (statements_of spec);
  reads = text_read (lines_read spec (spec_good spec sound)) (lines_sound spec sound) keeps;
  resolves = statements_resolve spec sound 1;
}

pub canonical_spells : CanonicalSpells
canonical_spells spec sound keeps =
    let spelt = canonical_is_spelt spec sound keeps in
    record {
      spells = spelt;
      only = λ other spells. one_reading.once (canonical spec) other spec spells spelt;
      stays = λ other spells. ap canonical (one_reading.once (canonical spec) other spec spells spelt);
    }

-- so what was printed
pub printed_spells : (spec : Data) → IsSound spec → {V E : Type 0} (bytes : V → List ℕ) (result : Result V E) → IfOk result (λ out. bytes out ≡ canonical spec)
    → IfOk result (λ out. PassesNoLimit (bytes out) → IsCanonical (bytes out) spec)
printed_spells spec sound bytes (Ok out) printed = λ keeps. subst (λ text. IsCanonical text spec) (sym printed) (canonical_spells spec sound (subst PassesNoLimit printed keeps))
printed_spells spec sound bytes (Err e) printed = tt
