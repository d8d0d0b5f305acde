-- What a draft spells, line by line, and where it is refused.
use Rattle.std.specs.Prelude.{◌≡◌, ℕ, List, [], ◌∷◌, Some, None}
use Rattle.scr_spec.specs.Data.{Data}
use Rattle.scr_parse.specs.declared.draft.Numbered.{Numbered}
use Rattle.scr_scope.specs.declared.known.Known.{Known}
use Rattle.scr_scope.specs.Names.{Name}
use Rattle.scr_scope.specs.Meanings.{nothing, seen}
use Rattle.scr_resolve.specs.declared.fault.TypeKind.{TypeKind}
use Rattle.scr_resolve.specs.declared.fault.TypeFault.{TypeFault}
use Rattle.scr_resolve.specs.declared.fault.TypeFault.TheVariants as f
use Rattle.scr_resolve.specs.Lines.{fault_in, after}

-- no line has a fault, and this is the state after the last
pub data Resolves : Known → List Numbered → Known → Type 0 where
  no_more : {known : Known} → Resolves known [] known
  one_more : {known last : Known} {line : Numbered} {more : List Numbered}
      → fault_in known line.statement ≡ None → Resolves (after known line.statement) more last → Resolves known (line ∷ more) last

-- the first line with a fault has this number, and the fault is of this kind and name
pub data Refused : Known → List Numbered → ℕ → TypeKind → Name → Type 0 where
  here : {known : Known} {line : Numbered} {more : List Numbered} {kind : TypeKind} {name : Name}
      → fault_in known line.statement ≡ Some (kind, name) → Refused known (line ∷ more) line.line kind name
  later : {known : Known} {line : Numbered} {more : List Numbered} {n : ℕ} {kind : TypeKind} {name : Name}
      → fault_in known line.statement ≡ None → Refused (after known line.statement) more n kind name → Refused known (line ∷ more) n kind name

-- the lines spell this specification
pub record DraftResolves (lines : List Numbered) (spec : Data) : Type 0 where
  pub last : Known
  pub resolves : Resolves nothing lines last
  pub parts : spec ≡ seen last

-- the lines are refused with this fault; memory may run out at any lines
abbrev pub DraftRefuses : List Numbered → TypeFault → Type 0
DraftRefuses lines (f.Refused n kind name) = Refused nothing lines n kind name
DraftRefuses lines f.NoMemory = Unit {0}

-- the fault that a line has; memory may run out at any line
abbrev pub LineRefuses : Known → Numbered → TypeFault → Type 0
LineRefuses known line (f.Refused n kind name) = (n ≡ line.line) × (fault_in known line.statement ≡ Some (kind, name))
LineRefuses known line f.NoMemory = Unit {0}

-- lines spell one specification, or are refused in one way
pub record OneResolution : Type 0 where
  pub once : (lines : List Numbered) (a b : Data) → DraftResolves lines a → DraftResolves lines b → a ≡ b
  pub apart : (lines : List Numbered) (a : Data) (n : ℕ) (kind : TypeKind) (name : Name) → DraftResolves lines a → DraftRefuses lines (f.Refused n kind name) → ⊥
  pub one_fault : (lines : List Numbered) (m n : ℕ) (j kind : TypeKind) (a b : Name) → DraftRefuses lines (f.Refused m j a) → DraftRefuses lines (f.Refused n kind b)
      → (m ≡ n) × (j ≡ kind) × (a ≡ b)
