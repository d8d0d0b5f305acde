-- What the assertions of a text are over a specification, and where they are refused.
use Rattle.std.specs.Prelude.{◌≡◌, ℕ, not, ◌&&◌, ◌||◌, List, [], ◌∷◌, ◌++◌, map, Option, Some, None}
use Rattle.std.specs.Option.{option_or, option_map}
use Rattle.std.specs.List.{list_any}
use Rattle.std.specs.Str.{bytes_eq}
use Rattle.scr_spec.specs.Data.{Data}
use Rattle.scr_parse.specs.declared.draft.DraftAssertion.{DraftAssertion}
use Rattle.scr_scope.specs.declared.known.Known.{Known}
use Rattle.scr_scope.specs.Names.{Name, is_known}
use Rattle.scr_scope.specs.First.{unless}
use Rattle.scr_scope.specs.Conditions.{unknown_cond, is_typed_cond, is_narrow_cond, cond_of}
use Rattle.scr_scope.specs.Entries.{known_of}
use Rattle.scr_resolve.specs.declared.fault.TypeKind.{TypeKind}
use Rattle.scr_resolve.specs.declared.fault.TypeKind.TheVariants as k
use Rattle.scr_resolve.specs.declared.fault.TypeFault.{TypeFault}
use Rattle.scr_resolve.specs.declared.fault.TypeFault.TheVariants as f
use Rattle.scr_resolve.specs.Lines.{Fault, as_kind}
use Rattle.scr_resolve_asserts.specs.declared.assertion.Assertion.{Assertion}
use Rattle.scr_resolve_asserts.specs.Primes.{are_primes_compared, has_primed_name}

-- ---- the rules of one line

-- the specification declares the name, or an earlier assertion has it
abbrev pub duplicate_in : Known → List Name → DraftAssertion → Option Name
duplicate_in known earlier a = unless (not (is_known known.names a.name || list_any (bytes_eq a.name) earlier)) a.name

-- a name in the condition is not declared
abbrev pub unknown_in : Known → DraftAssertion → Option Name
unknown_in known a = unknown_cond known a.cond

-- the condition is not well typed, or a primed name is no item of a comparison
abbrev pub ill_in : Known → DraftAssertion → Option Name
ill_in known a = unless (is_typed_cond known a.cond && are_primes_compared a.cond) a.name

-- the bound of a side is above its limit
abbrev pub wide_in : Known → DraftAssertion → Option Name
wide_in known a = unless (is_narrow_cond known a.cond) a.name

-- on one line the kinds are tried in this order
unfoldable pub fault_in : Known → List Name → DraftAssertion → Option Fault
fault_in known earlier a =
    option_or (as_kind k.Duplicate (duplicate_in known earlier a))
    (option_or (as_kind k.Unknown (unknown_in known a))
    (option_or (as_kind k.Kind (ill_in known a))
    (as_kind k.Wide (wide_in known a))))

-- ---- the lines

-- the first line with a fault, and its fault; behind it the names of these assertions stand
abbrev pub first_fault : Known → List Name → List DraftAssertion → Option (ℕ × Fault)
first_fault known earlier [] = None
first_fault known earlier (a ∷ more) = option_or (option_map (λ fault. (a.line, fault)) (fault_in known earlier a)) (first_fault known (earlier ++ a.name ∷ []) more)

-- it has the name and the condition that are written; it is of two states where a name is primed
abbrev pub assertion_of : Known → DraftAssertion → Assertion
assertion_of known a = record { name = a.name; cond = cond_of known a.cond; two = has_primed_name (cond_of known a.cond) }

-- over these names no line has a fault, and the assertions are these
pub record AreResolvedOver (known : Known) (drafts : List DraftAssertion) (assertions : List Assertion) : Type 0 where
  pub faultless : first_fault known [] drafts ≡ None
  pub each : assertions ≡ map (assertion_of known) drafts

-- over these names they are refused with this fault; memory may run out at any
abbrev pub AreRefusedOver : Known → List DraftAssertion → TypeFault → Type 0
AreRefusedOver known drafts (f.Refused n kind name) = first_fault known [] drafts ≡ Some (n, (kind, name))
AreRefusedOver known drafts f.NoMemory = Unit {0}

-- the same over the names of a specification
abbrev pub AreResolved : Data → List DraftAssertion → List Assertion → Type 0
AreResolved spec = AreResolvedOver (known_of spec)

abbrev pub AreRefused : Data → List DraftAssertion → TypeFault → Type 0
AreRefused spec = AreRefusedOver (known_of spec)

-- assertions are resolved in one way or refused in one way, and never neither
pub record OneResolution : Type 0 where
  pub once : (spec : Data) (drafts : List DraftAssertion) (a b : List Assertion) → AreResolved spec drafts a → AreResolved spec drafts b → a ≡ b
  pub apart : (spec : Data) (drafts : List DraftAssertion) (a : List Assertion) (n : ℕ) (kind : TypeKind) (name : Name) → AreResolved spec drafts a
      → AreRefused spec drafts (f.Refused n kind name) → ⊥
  pub one_fault : (spec : Data) (drafts : List DraftAssertion) (m n : ℕ) (j kind : TypeKind) (a b : Name) → AreRefused spec drafts (f.Refused m j a)
      → AreRefused spec drafts (f.Refused n kind b) → (m ≡ n) × (j ≡ kind) × (a ≡ b)
  pub some : (spec : Data) (drafts : List DraftAssertion) → ((a : List Assertion) → AreResolved spec drafts a → ⊥)
      → ((n : ℕ) (kind : TypeKind) (name : Name) → AreRefused spec drafts (f.Refused n kind name) → ⊥) → ⊥
