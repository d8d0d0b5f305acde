-- Each text spells one specification or is refused for one thing.
use Rattle.std.proofs.Common.{◌≡◌, ℕ, List, [], ◌∷◌, Option, Some, None, refl, sym, ap, ap₂, subst, ◌∙◌}
use Rattle.scr_spec.specs.Data.{Data}
use Rattle.scr_spec.specs.Sound.{IsSound}
use Rattle.scr_parse.specs.declared.draft.Numbered.{Numbered}
use Rattle.scr_parse.specs.Text.{TextReads}
use Rattle.scr_parse.proofs.Outcome.{one_outcome}
use Rattle.scr_parse.proofs.ReadableTexts.{reads_readable}
use Rattle.scr_scope.specs.declared.known.Known.{Known}
use Rattle.scr_scope.specs.Names.{Name}
use Rattle.scr_scope.specs.Meanings.{nothing, seen}
use Rattle.scr_resolve.specs.declared.fault.TypeKind.{TypeKind}
use Rattle.scr_resolve.specs.declared.fault.TypeFault.TheVariants as type_fault
use Rattle.scr_resolve.specs.Lines.{Fault, fault_in, after}
use Rattle.scr_resolve.specs.Draft.{Resolves, no_more, one_more, Refused, here, later, DraftResolves, DraftRefuses}
use Rattle.scr_resolve.specs.Texts.{Spells, Refusal, unread, unresolved, IsRefused, OneReading, SpelledIsSound}
use Rattle.scr_resolve.proofs.Outcome.{one_resolution}
use Rattle.scr_resolve.proofs.Sound.{sound}

-- ---- lines spell something or are refused

by_fault : (known : Known) (line : Numbered) (more : List Numbered) (r : Option Fault) → fault_in known line.statement ≡ r
    → (((last : Known) → Resolves (after known line.statement) more last → ⊥) → ((n : ℕ) (which : TypeKind) (name : Name) → Refused (after known line.statement) more n which name → ⊥) → ⊥)
    → ((last : Known) → Resolves known (line ∷ more) last → ⊥) → ((n : ℕ) (which : TypeKind) (name : Name) → Refused known (line ∷ more) n which name → ⊥) → ⊥
by_fault known line more None e rest unspelled unrefused = rest (λ last d. unspelled last (one_more e d)) (λ n which name d. unrefused n which name (later e d))
by_fault known line more (Some fault) e rest unspelled unrefused = unrefused line.line fault.0 fault.1 (here e)

some_lines : (known : Known) (lines : List Numbered) → ((last : Known) → Resolves known lines last → ⊥)
    → ((n : ℕ) (which : TypeKind) (name : Name) → Refused known lines n which name → ⊥) → ⊥
some_lines known [] unspelled unrefused = unspelled known no_more
some_lines known (line ∷ more) unspelled unrefused =
    by_fault known line more (fault_in known line.statement) refl (some_lines (after known line.statement) more) unspelled unrefused

-- ---- texts

same_draft : (text : List ℕ) (a b : List Numbered) → TextReads text a → TextReads text b → a ≡ b
same_draft text a b r q = one_outcome.once text a b r q

spelled_once : (text : List ℕ) (a b : Data) → Spells text a → Spells text b → a ≡ b
spelled_once text a b s t =
    let same = same_draft text s.draft t.draft s.reads t.reads in
    let first : DraftResolves t.draft a = subst (λ d. DraftResolves d a) same s.resolves in
    one_resolution.once t.draft a b first t.resolves

refused_once : (text : List ℕ) (r s : Refusal) → IsRefused text r → IsRefused text s → r ≡ s
refused_once text (unread m j) (unread n which) h k = let same = one_outcome.one_fault text m n j which h k in ap₂ unread same.0 same.1
refused_once text (unread m j) (unresolved n which b) h (draft, reads, refused) = absurd (one_outcome.apart text draft m j reads h)
refused_once text (unresolved m j a) (unread n which) (draft, reads, refused) k = absurd (one_outcome.apart text draft n which reads k)
refused_once text (unresolved m j a) (unresolved n which b) (draft, reads, refused) (other, also, second) =
    let same = same_draft text draft other reads also in
    let first : DraftRefuses other (type_fault.Refused m j a) = subst (λ d. DraftRefuses d (type_fault.Refused m j a)) same refused in
    let one = one_resolution.one_fault other m n j which a b first second in
    ap₂ (λ m j. unresolved m j a) one.0 one.1 ∙ ap (unresolved n which) one.2

apart : (text : List ℕ) (spec : Data) (r : Refusal) → Spells text spec → IsRefused text r → ⊥
apart text spec (unread line which) s h = one_outcome.apart text s.draft line which s.reads h
apart text spec (unresolved line which name) s (draft, reads, refused) =
    let same = same_draft text s.draft draft s.reads reads in
    one_resolution.apart draft spec line which name (subst (λ d. DraftResolves d spec) same s.resolves) refused

some : (text : List ℕ) → ((spec : Data) → Spells text spec → ⊥) → ((r : Refusal) → IsRefused text r → ⊥) → ⊥
some text unspelled unrefused = one_outcome.some text
    (λ draft reads. some_lines nothing draft
    (λ last resolves. unspelled (seen last) (record { draft = draft; reads = reads; resolves = record { last = last; resolves = resolves; parts = refl } }))
    (λ n which name refused. unrefused (unresolved n which name) (draft, reads, refused)))
    (λ line which refused. unrefused (unread line which) refused)

pub one_reading : OneReading
one_reading = record {
  once = spelled_once;
  one_refusal = refused_once;
  apart = apart;
  some = some;
}

-- ---- what is spelled

spelled_sound : (text : List ℕ) (spec : Data) → Spells text spec → IsSound spec
spelled_sound text spec s = subst IsSound (sym s.resolves.parts) (sound s.draft s.resolves.last s.resolves.resolves (reads_readable text s.draft s.reads))

pub spelled_is_sound : SpelledIsSound
spelled_is_sound = record { sound = spelled_sound }
