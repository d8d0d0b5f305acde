-- One more line.
use Rattle.std.proofs.Common.{◌≡◌, ℕ, Bool, true, List, ◌∷◌, None, sym, ap, subst, ◌∙◌}
use Rattle.std.specs.List.{list_all}
use Rattle.std.proofs.lemmas.Bool.{and_parts}
use Rattle.scr_parse.specs.declared.draft.Numbered.{Numbered}
use Rattle.scr_scope.specs.declared.known.Known.{Known}
use Rattle.scr_scope.specs.Meanings.{nothing}
use Rattle.scr_scope.specs.Names.{Name}
use Rattle.scr_resolve.specs.declared.fault.TypeKind.{TypeKind}
use Rattle.scr_resolve.specs.declared.fault.TypeFault.{TypeFault}
use Rattle.scr_resolve.specs.declared.fault.TypeFault.TheVariants as f
use Rattle.scr_resolve.specs.Lines.{fault_in, after}
use Rattle.scr_resolve.specs.Draft.{Resolves, one_more, Refused, here, later, DraftRefuses, LineRefuses}

-- a test of all lines holds of the first and of those behind it
pub tested_on : (p : Numbered → Bool) (line : Numbered) (lines more : List Numbered) → lines ≡ line ∷ more → list_all p lines ≡ true → (p line ≡ true) × (list_all p more ≡ true)
tested_on p line lines more e h = and_parts (p line) (list_all p more) (sym (ap (list_all p) e) ∙ h)

pub resolves_on : {known next last : Known} {line : Numbered} {lines more : List Numbered} → lines ≡ line ∷ more → fault_in known line.statement ≡ None
    → next ≡ after known line.statement → Resolves next more last → Resolves known lines last
resolves_on {known} {next} {last} {line} {lines} {more} e h g r = subst (λ ls. Resolves known ls last) (sym e) (one_more h (subst (λ k. Resolves k more last) g r))

pub refused_on : {known next : Known} {line : Numbered} {lines more : List Numbered} {n : ℕ} {kind : TypeKind} {name : Name} → lines ≡ line ∷ more
    → fault_in known line.statement ≡ None → next ≡ after known line.statement → Refused next more n kind name → Refused known lines n kind name
refused_on {known} {next} {line} {lines} {more} {n} {kind} {name} e h g r =
    subst (λ ls. Refused known ls n kind name) (sym e) (later h (subst (λ k. Refused k more n kind name) g r))

-- the fault of the line that comes now is the draft's
pub refused_here : (known : Known) (line : Numbered) (all lines more : List Numbered) (fault : TypeFault) → lines ≡ line ∷ more
    → ((n : ℕ) (kind : TypeKind) (name : Name) → Refused known lines n kind name → Refused nothing all n kind name) → LineRefuses known line fault → DraftRefuses all fault
refused_here known line all lines more (f.Refused n kind name) e on h =
    on n kind name (subst (λ ls. Refused known ls n kind name) (sym e) (subst (λ m. Refused known (line ∷ more) m kind name) (sym h.0) (here h.1)))
refused_here known line all lines more f.NoMemory e on h = tt
