-- A draft has one outcome.
use Rattle.std.proofs.Common.{◌≡◌, ℕ, List, Option, Some, None, refl, sym, ap, ◌∙◌}
use Rattle.std.specs.Option.{unwrap_or}
use Rattle.scr_parse.specs.declared.draft.Numbered.{Numbered}
use Rattle.scr_scope.specs.declared.known.Known.{Known}
use Rattle.scr_scope.specs.Meanings.{seen}
use Rattle.scr_scope.specs.Names.{Name}
use Rattle.scr_resolve.specs.declared.fault.TypeKind.{TypeKind}
use Rattle.scr_resolve.specs.Draft.{Resolves, no_more, one_more, Refused, here, later, OneResolution}

one : {known a b : Known} {lines : List Numbered} → Resolves known lines a → Resolves known lines b → a ≡ b
one no_more no_more = refl
one (one_more e r) (one_more f s) = one r s

none_some : {X : Type 0} {o : Option X} {x : X} → o ≡ None → o ≡ Some x → ⊥
none_some e f = let g = sym e ∙ f in cc

same_fault : {j kind : TypeKind} {a b : Name} {o : Option (TypeKind × Name)} → o ≡ Some (j, a) → o ≡ Some (kind, b) → (j ≡ kind) × (a ≡ b)
same_fault {j} {kind} {a} {b} e f =
    let g : Some (j, a) ≡ Some (kind, b) = sym e ∙ f in
    (ap (λ (p : Option (TypeKind × Name)). (unwrap_or {T = TypeKind × Name} p (j, a)).0) g, ap (λ (p : Option (TypeKind × Name)). (unwrap_or {T = TypeKind × Name} p (j, a)).1) g)

apart : {known a : Known} {lines : List Numbered} {n : ℕ} {kind : TypeKind} {name : Name} → Resolves known lines a → Refused known lines n kind name → ⊥
apart no_more d = elim d [ ]
apart (one_more e r) (here f) = none_some e f
apart (one_more e r) (later f d) = apart r d

once : {known : Known} {lines : List Numbered} {m n : ℕ} {j kind : TypeKind} {a b : Name} → Refused known lines m j a → Refused known lines n kind b
    → (m ≡ n) × (j ≡ kind) × (a ≡ b)
once (here e) (here f) = let g = same_fault e f in (refl, g.0, g.1)
once (here e) (later f d) = absurd (none_some f e)
once (later e d) (here f) = absurd (none_some e f)
once (later e d) (later f g) = once d g

pub one_resolution : OneResolution
one_resolution = record {
  once = λ lines a b r s. r.parts ∙ ap seen (one r.resolves s.resolves) ∙ sym s.parts;
  apart = λ lines a n kind name r d. apart r.resolves d;
  one_fault = λ lines m n j kind a b d e. once d e;
}
