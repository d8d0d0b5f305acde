-- What the goals of a table have in common, by the variable that changed.
use Rattle.std.specs.Prelude.{ℕ, List}
use Rattle.std.specs.List.{AllByRecursion}
use Rattle.std.specs.declared.vec.Vec.{Vec}
use Rattle.std.specs.declared.alloc.Global.{Global}
use Rattle.scr_spec.specs.Data.{Data}
use Rattle.dd_store.specs.Held.{Held}
use Rattle.dd_build.specs.Stored.{AreStored}
use Rattle.prove_goals.specs.Formulas.{related_where}

-- each entry has the numbers of the formulas that say that the pair is related, where the variable changed
abbrev pub AreRelated : Held → Data → List ℕ → List ℕ → List (ℕ × Vec ℕ Global) → Type 0
AreRelated held spec order need entries = AllByRecursion (λ e. AreStored held (related_where spec order need e.0) e.1.items) entries
