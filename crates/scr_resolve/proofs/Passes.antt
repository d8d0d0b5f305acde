-- A line without a fault breaks no rule of any kind.
use Rattle.std.proofs.Common.{◌≡◌, Bool, true, false, Option, Some, None, refl}
use Rattle.std.specs.Option.{option_or}
use Rattle.scr_parse.specs.declared.draft.Statement.{Statement}
use Rattle.scr_scope.specs.declared.known.Known.{Known}
use Rattle.scr_scope.specs.Names.{Name}
use Rattle.scr_scope.specs.First.{unless}
use Rattle.scr_resolve.specs.declared.fault.TypeKind.{TypeKind}
use Rattle.scr_resolve.specs.declared.fault.TypeKind.TheVariants as k
use Rattle.scr_resolve.specs.Lines.{as_kind, duplicate_in, unknown_in, ill_in, outside_in, wide_in, mode_in, table_in, fault_in}

pub first_none : {X : Type 0} (a b : Option X) → option_or a b ≡ None → a ≡ None
first_none None b e = refl
first_none (Some x) b e = e

pub second_none : {X : Type 0} (a b : Option X) → option_or a b ≡ None → b ≡ None
second_none None b e = e
second_none (Some x) b e = absurd (cc)

pub unless_none : {X : Type 0} (right : Bool) (x : X) → unless right x ≡ None → right ≡ true
unless_none true x e = refl
unless_none false x e = absurd (cc)

kind_none : (kind : TypeKind) (n : Option Name) → as_kind kind n ≡ None → n ≡ None
kind_none at None e = refl
kind_none at (Some n) e = absurd (cc)

pub record Passes (known : Known) (line : Statement) : Type 0 where
  pub duplicate : duplicate_in known line ≡ None
  pub unknown : unknown_in known line ≡ None
  pub ill : ill_in known line ≡ None
  pub outside : outside_in known line ≡ None
  pub wide : wide_in known line ≡ None
  pub mode : mode_in known line ≡ None
  pub table : table_in known line ≡ None

seven : (a b c d e f g : Option Name)
    → option_or (as_kind k.Duplicate a) (option_or (as_kind k.Unknown b) (option_or (as_kind k.Kind c) (option_or (as_kind k.Range d)
    (option_or (as_kind k.Wide e) (option_or (as_kind k.Mode f) (as_kind k.Table g)))))) ≡ None
    → (a ≡ None) × (b ≡ None) × (c ≡ None) × (d ≡ None) × (e ≡ None) × (f ≡ None) × (g ≡ None)
seven a b c d e f g h =
    let h1 = second_none _ _ h in let h2 = second_none _ _ h1 in let h3 = second_none _ _ h2 in
    let h4 = second_none _ _ h3 in let h5 = second_none _ _ h4 in let h6 = second_none _ _ h5 in (
      kind_none k.Duplicate a (first_none _ _ h),
      kind_none k.Unknown b (first_none _ _ h1),
      kind_none k.Kind c (first_none _ _ h2),
      kind_none k.Range d (first_none _ _ h3),
      kind_none k.Wide e (first_none _ _ h4),
      kind_none k.Mode f (first_none _ _ h5),
      kind_none k.Table g h6,
    )

pub passes : (known : Known) (line : Statement) → fault_in known line ≡ None → Passes known line
unfolding fault_in
passes known line h =
    let p = seven (duplicate_in known line) (unknown_in known line) (ill_in known line) (outside_in known line) (wide_in known line) (mode_in known line)
    (table_in known line) h in
    record { duplicate = p.0; unknown = p.1; ill = p.2; outside = p.3; wide = p.4; mode = p.5; table = p.6 }
