-- Each text makes its assertions or is refused for one thing, and the assertions are over the specification.
use Rattle.std.proofs.Common.{◌≡◌, ℕ, true, ◌&&◌, List, [], ◌∷◌, ◌++◌, map, None, refl, sym, ap, ap₂, subst, ◌∙◌}
use Rattle.std.specs.Option.{option_map}
use Rattle.std.specs.List.{list_all}
use Rattle.std.proofs.lemmas.Bool.{and_parts}
use Rattle.scr_spec.specs.Data.{Data}
use Rattle.scr_spec.specs.NameSpace.{is_name}
use Rattle.scr_spec.specs.Over.{is_cond_over}
use Rattle.scr_spec.proofs.Passing.{and_true}
use Rattle.scr_parse.specs.declared.draft.DraftAssertion.{DraftAssertion}
use Rattle.scr_parse.specs.Limits.{is_cond_within}
use Rattle.scr_parse.specs.Readable.{is_cond_spelt}
use Rattle.scr_parse.specs.Assertions.{is_assertion_readable}
use Rattle.scr_parse.proofs.AssertionsOnce.{one_outcome}
use Rattle.scr_parse.proofs.AssertionsRead.{asserts_readable}
use Rattle.scr_scope.specs.declared.known.Known.{Known}
use Rattle.scr_scope.specs.Names.{Name}
use Rattle.scr_scope.specs.Entries.{known_of}
use Rattle.scr_scope.proofs.ThereIn.{cond_over}
use Rattle.scr_resolve.specs.declared.fault.TypeFault.TheVariants as type_fault
use Rattle.scr_resolve.specs.Texts.{Refusal, unread, unresolved}
use Rattle.scr_resolve_asserts.specs.declared.assertion.Assertion.{Assertion}
use Rattle.scr_resolve_asserts.specs.Primes.{has_primed_name}
use Rattle.scr_resolve_asserts.specs.Resolution.{fault_in, first_fault, assertion_of, AreResolved, AreRefused}
use Rattle.scr_resolve_asserts.specs.Texts.{AssertionsOf, IsAssertionRefusal, OneReading, ResolvedAreOver}
use Rattle.scr_resolve_asserts.proofs.Outcome.{one_resolution}
use Rattle.scr_resolve_asserts.proofs.Steps.{or_none, map_none, narrow_of}

-- ---- one outcome

made_once : (text : List ℕ) (spec : Data) (a b : List Assertion) → AssertionsOf text spec a → AssertionsOf text spec b → a ≡ b
made_once text spec a b s t =
    let same = one_outcome.once text s.drafts t.drafts s.reads t.reads in
    one_resolution.once spec t.drafts a b (subst (λ drafts. AreResolved spec drafts a) same s.resolves) t.resolves

refused_once : (text : List ℕ) (spec : Data) (r s : Refusal) → IsAssertionRefusal text spec r → IsAssertionRefusal text spec s → r ≡ s
refused_once text spec (unread m j) (unread n which) h k = let same = one_outcome.one_fault text m n j which h k in ap₂ unread same.0 same.1
refused_once text spec (unread m j) (unresolved n which b) h (drafts, reads, refused) = absurd (one_outcome.apart text drafts m j reads h)
refused_once text spec (unresolved m j a) (unread n which) (drafts, reads, refused) k = absurd (one_outcome.apart text drafts n which reads k)
refused_once text spec (unresolved m j a) (unresolved n which b) (drafts, reads, refused) (others, also, second) =
    let same = one_outcome.once text drafts others reads also in
    let first : AreRefused spec others (type_fault.Refused m j a) = subst (λ drafts. AreRefused spec drafts (type_fault.Refused m j a)) same refused in
    let one = one_resolution.one_fault spec others m n j which a b first second in
    ap₂ (λ m j. unresolved m j a) one.0 one.1 ∙ ap (unresolved n which) one.2

apart : (text : List ℕ) (spec : Data) (a : List Assertion) (r : Refusal) → AssertionsOf text spec a → IsAssertionRefusal text spec r → ⊥
apart text spec a (unread line which) s h = one_outcome.apart text s.drafts line which s.reads h
apart text spec a (unresolved line which name) s (drafts, reads, refused) =
    let same = one_outcome.once text s.drafts drafts s.reads reads in
    one_resolution.apart spec drafts a line which name (subst (λ drafts. AreResolved spec drafts a) same s.resolves) refused

some : (text : List ℕ) (spec : Data) → ((a : List Assertion) → AssertionsOf text spec a → ⊥) → ((r : Refusal) → IsAssertionRefusal text spec r → ⊥) → ⊥
some text spec unmade unrefused = one_outcome.some text
    (λ drafts reads. one_resolution.some spec drafts
    (λ a resolves. unmade a (record { drafts = drafts; reads = reads; resolves = resolves }))
    (λ n which name refused. unrefused (unresolved n which name) (drafts, reads, refused)))
    (λ line which refused. unrefused (unread line which) refused)

pub one_reading : OneReading
one_reading = record {
  once = made_once;
  one_refusal = refused_once;
  apart = apart;
  some = some;
}

-- ---- over the specification

over_each : (spec : Data) (earlier : List Name) (drafts : List DraftAssertion) → first_fault (known_of spec) earlier drafts ≡ None → list_all is_assertion_readable drafts ≡ true
    → list_all (λ a. is_cond_over spec a.cond) (map (assertion_of (known_of spec)) drafts) ≡ true
over_each spec earlier [] h r = refl
over_each spec earlier (a ∷ more) h r =
    let none = or_none (option_map (λ fault. (a.line, fault)) (fault_in (known_of spec) earlier a)) _ h in
    let parts = and_parts (is_assertion_readable a) (list_all is_assertion_readable more) r in
    let spelt = (and_parts (is_name a.name && is_cond_within a.cond) (is_cond_spelt true a.cond) (parts.0)).1 in
    let narrow = narrow_of (known_of spec) earlier a (map_none (λ fault. (a.line, fault)) (fault_in (known_of spec) earlier a) (none.0)) in
    and_true _ _ (cond_over spec true a.cond spelt narrow) (over_each spec (earlier ++ a.name ∷ []) more (none.1) (parts.1))

over_made : (text : List ℕ) (spec : Data) (assertions : List Assertion) → AssertionsOf text spec assertions → list_all (λ a. is_cond_over spec a.cond) assertions ≡ true
over_made text spec assertions s =
    ap (list_all (λ a. is_cond_over spec a.cond)) s.resolves.each
    ∙ over_each spec [] s.drafts s.resolves.faultless (asserts_readable.each text s.drafts s.reads)

two_each : (known : Known) (drafts : List DraftAssertion) → map (λ a. a.two) (map (assertion_of known) drafts) ≡ map (λ a. has_primed_name a.cond) (map (assertion_of known) drafts)
two_each known [] = refl
two_each known (a ∷ more) = ap (λ ts. (assertion_of known a).two ∷ ts) (two_each known more)

two_made : (text : List ℕ) (spec : Data) (assertions : List Assertion) → AssertionsOf text spec assertions
    → map (λ a. a.two) assertions ≡ map (λ a. has_primed_name a.cond) assertions
two_made text spec assertions s =
    ap (map (λ a. a.two)) s.resolves.each ∙ two_each (known_of spec) s.drafts ∙ ap (map (λ a. has_primed_name a.cond)) (sym s.resolves.each)

pub resolved_are_over : ResolvedAreOver
resolved_are_over = record { over = over_made; two = two_made }
