-- Assertions that are read have one outcome.
use Rattle.std.proofs.Common.{◌≡◌, ℕ, List, [], map, Option, Some, None, refl, sym, ap, ◌∙◌}
use Rattle.std.specs.Option.{unwrap_or}
use Rattle.scr_spec.specs.Data.{Data}
use Rattle.scr_parse.specs.declared.draft.DraftAssertion.{DraftAssertion}
use Rattle.scr_scope.specs.Names.{Name}
use Rattle.scr_scope.specs.Entries.{known_of}
use Rattle.scr_resolve.specs.declared.fault.TypeKind.{TypeKind}
use Rattle.scr_resolve.specs.declared.fault.TypeFault.TheVariants as f
use Rattle.scr_resolve.specs.Lines.{Fault}
use Rattle.scr_resolve_asserts.specs.declared.assertion.Assertion.{Assertion}
use Rattle.scr_resolve_asserts.specs.Resolution.{first_fault, assertion_of, AreResolved, AreRefused, OneResolution}

none_some : {X : Type 0} {o : Option X} {x : X} → o ≡ None → o ≡ Some x → ⊥
none_some e g = let h = sym e ∙ g in cc

same_fault : {o : Option (ℕ × Fault)} {m n : ℕ} {j kind : TypeKind} {a b : Name} → o ≡ Some (m, (j, a)) → o ≡ Some (n, (kind, b)) → (m ≡ n) × (j ≡ kind) × (a ≡ b)
same_fault {m = m} {n} {j} {kind} {a} {b} e g =
    let h : Some (m, (j, a)) ≡ Some (n, (kind, b)) = sym e ∙ g in (
      ap (λ (p : Option (ℕ × Fault)). (unwrap_or {T = ℕ × Fault} p (m, (j, a))).0) h,
      ap (λ (p : Option (ℕ × Fault)). (unwrap_or {T = ℕ × Fault} p (m, (j, a))).1.0) h,
      ap (λ (p : Option (ℕ × Fault)). (unwrap_or {T = ℕ × Fault} p (m, (j, a))).1.1) h,
    )

by_fault : (spec : Data) (drafts : List DraftAssertion) (o : Option (ℕ × Fault)) → first_fault (known_of spec) [] drafts ≡ o
    → ((a : List Assertion) → AreResolved spec drafts a → ⊥) → ((n : ℕ) (kind : TypeKind) (name : Name) → AreRefused spec drafts (f.Refused n kind name) → ⊥) → ⊥
by_fault spec drafts None e unresolved unrefused = unresolved (map (assertion_of (known_of spec)) drafts) (record { faultless = e; each = refl })
by_fault spec drafts (Some fault) e unresolved unrefused = unrefused fault.0 fault.1.0 fault.1.1 e

pub one_resolution : OneResolution
one_resolution = record {
  once = λ spec drafts a b r s. r.each ∙ sym s.each;
  apart = λ spec drafts a n kind name r h. none_some r.faultless h;
  one_fault = λ spec drafts m n j kind a b h g. same_fault h g;
  some = λ spec drafts. by_fault spec drafts (first_fault (known_of spec) [] drafts) refl;
}
