-- What the text of a unit makes of `runc`.
use Rattle.std.specs.Prelude.{◌≡◌, ℕ}
use Rattle.c_subset.specs.declared.unit.CUnit.{CUnit}
use Rattle.cmd_work.specs.declared.status.Status.TheVariants.{CodeRefused}
use Rattle.cmd_work.specs.declared.two_files.First.{First}
use Rattle.cmd_work.specs.declared.two_files.First.TheVariants.{Answer, Base}
use Rattle.cmd_runc.specs.Texts.{refused_text}

-- the whole answer is that the text is refused at this line
abbrev pub IsRefusal : ℕ → First CUnit → Type 0
IsRefusal line (Answer text status) = (text.items ≡ refused_text line) × (status ≡ CodeRefused)
IsRefusal line (Base unit) = ⊥
