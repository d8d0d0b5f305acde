-- The assertions that a text makes of a specification, and why it is refused.
use Rattle.std.specs.Prelude.{◌≡◌, ℕ, IsTrue, List, map}
use Rattle.std.specs.List.{list_all}
use Rattle.scr_spec.specs.Data.{Data}
use Rattle.scr_spec.specs.Over.{is_cond_over}
use Rattle.scr_parse.specs.declared.draft.DraftAssertion.{DraftAssertion}
use Rattle.scr_parse.specs.declared.place.TextFault.TheVariants as text_fault
use Rattle.scr_parse.specs.Assertions.{TextAsserts, AssertionsRefuse}
use Rattle.scr_resolve.specs.declared.fault.TypeFault.TheVariants as type_fault
use Rattle.scr_resolve.specs.Texts.{Refusal, unread, unresolved}
use Rattle.scr_resolve_asserts.specs.declared.assertion.Assertion.{Assertion}
use Rattle.scr_resolve_asserts.specs.Primes.{has_primed_name}
use Rattle.scr_resolve_asserts.specs.Resolution.{AreResolved, AreRefused}

-- the text makes these assertions
pub record AssertionsOf (text : List ℕ) (spec : Data) (assertions : List Assertion) : Type 0 where
  pub drafts : List DraftAssertion
  pub reads : TextAsserts text drafts
  pub resolves : AreResolved spec drafts assertions

-- the text is refused for this; a line that is not read, anywhere in the text, comes before all rules of names and types
abbrev pub IsAssertionRefusal : List ℕ → Data → Refusal → Type 0
IsAssertionRefusal text spec (unread line kind) = AssertionsRefuse text (text_fault.Refused line kind)
IsAssertionRefusal text spec (unresolved line kind name) = (drafts : List DraftAssertion) × TextAsserts text drafts × AreRefused spec drafts (type_fault.Refused line kind name)

-- each text makes its assertions of a specification or is refused for one thing, never both and never neither
pub record OneReading : Type 0 where
  pub once : (text : List ℕ) (spec : Data) (a b : List Assertion) → AssertionsOf text spec a → AssertionsOf text spec b → a ≡ b
  pub one_refusal : (text : List ℕ) (spec : Data) (r s : Refusal) → IsAssertionRefusal text spec r → IsAssertionRefusal text spec s → r ≡ s
  pub apart : (text : List ℕ) (spec : Data) (a : List Assertion) (r : Refusal) → AssertionsOf text spec a → IsAssertionRefusal text spec r → ⊥
  pub some : (text : List ℕ) (spec : Data) → ((a : List Assertion) → AssertionsOf text spec a → ⊥) → ((r : Refusal) → IsAssertionRefusal text spec r → ⊥) → ⊥

-- each condition is one over the specification, and `two` tells whether a name in it is primed
pub record ResolvedAreOver : Type 0 where
  pub over : (text : List ℕ) (spec : Data) (assertions : List Assertion) → AssertionsOf text spec assertions → IsTrue (list_all (λ a. is_cond_over spec a.cond) assertions)
  pub two : (text : List ℕ) (spec : Data) (assertions : List Assertion) → AssertionsOf text spec assertions
      → map (λ a. a.two) assertions ≡ map (λ a. has_primed_name a.cond) assertions
