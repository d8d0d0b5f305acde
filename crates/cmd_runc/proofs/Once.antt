-- A rest of a file of calls has one answer.
use Rattle.std.proofs.Common.{◌≡◌, ℕ, ℤ, ◌+◌, ◌-◌, List, ◌++◌, length, Option, Some, None, Ok, Err, sym, ap, subst, ◌∙◌}
use Rattle.base.specs.Ends.{line_with_end}
use Rattle.c_subset.specs.declared.unit.CUnit.{CUnit}
use Rattle.c_subset.specs.Meaning.{Objects}
use Rattle.c_subset.specs.Runs.{call_effect}
use Rattle.base_script.specs.declared.fault.ScriptKind.{ScriptKind}
use Rattle.base_script.specs.Faults.{script_fault}
use Rattle.cmd_work.specs.declared.status.Status.{Status}
use Rattle.cmd_work.specs.Closing.{closing_text, closing_status}
use Rattle.cmd_work.specs.Session.{behind}
use Rattle.cmd_runc.specs.Lines.{Reading}
use Rattle.cmd_runc.specs.Texts.{objects_text}
use Rattle.cmd_runc.specs.Runs.{RunsCalls, closed, faulty, passed, taken, overflow}

abbrev Call : Type 0
Call = List ℕ × ℤ

err_ok : (r : Reading) (e : ScriptKind) (o : Option Call) → r ≡ Err e → r ≡ Ok o → ⊥
err_ok r e o h k = cc

none_some : (r : Reading) (i : Call) → r ≡ Ok None → r ≡ Ok (Some i) → ⊥
none_some r i h k = cc

one_fault : (r : Reading) (a b : ScriptKind) → r ≡ Err a → r ≡ Err b → a ≡ b
one_fault r a b h k = cc

one_call : (r : Reading) (a b : Call) → r ≡ Ok (Some a) → r ≡ Ok (Some b) → a ≡ b
one_call r a b h k = cc

one_row : (o : Option Objects) (a b : Objects) → o ≡ Some a → o ≡ Some b → a ≡ b
one_row o a b h k = cc

some_none : (o : Option Objects) (a : Objects) → o ≡ Some a → o ≡ None → ⊥
some_none o a h k = cc

same_row : (unit : CUnit) (row new other : Objects) (a b : Call) → a ≡ b → call_effect unit (a.0) (a.1) row ≡ Some new → call_effect unit (b.0) (b.1) row ≡ Some other → new ≡ other
same_row unit row new other a b e h k = one_row (call_effect unit (b.0) (b.1) row) new other (ap (λ (c : Call). call_effect unit (c.0) (c.1) row) (sym e) ∙ h) k

not_both : (unit : CUnit) (row new : Objects) (a b : Call) → a ≡ b → call_effect unit (a.0) (a.1) row ≡ Some new → call_effect unit (b.0) (b.1) row ≡ None → ⊥
not_both unit row new a b e h k = some_none (call_effect unit (b.0) (b.1) row) new (ap (λ (c : Call). call_effect unit (c.0) (c.1) row) (sym e) ∙ h) k

pub once : (unit : CUnit) (row : Objects) (count number room : ℕ) (rest x y : List ℕ) (i j : Status)
    → RunsCalls unit row count number room rest x i → RunsCalls unit row count number room rest y j → (x ≡ y) × (i ≡ j)
once unit row count number room rest x y i j (closed p h o e s) (closed q h2 o2 e2 s2) =
    (e ∙ ap (closing_text number) (sym h ∙ h2) ∙ sym e2, s ∙ ap closing_status (sym h ∙ h2) ∙ sym s2)
once unit row count number room rest x y i j (closed p h o e s) (faulty g h2 r2 e2 s2) = absurd (o (sym h ∙ h2))
once unit row count number room rest x y i j (closed p h o e s) (passed h2 r2 z2) = absurd (o (sym h ∙ h2))
once unit row count number room rest x y i j (closed p h o e s) (taken c2 n2 m2 h2 r2 k2 z2 e2) = absurd (o (sym h ∙ h2))
once unit row count number room rest x y i j (closed p h o e s) (overflow c2 h2 r2 k2 e2 s2) = absurd (o (sym h ∙ h2))
once unit row count number room rest x y i j (faulty f h r e s) (closed q h2 o2 e2 s2) = absurd (o2 (sym h2 ∙ h))
once unit row count number room rest x y i j (faulty f h r e s) (faulty g h2 r2 e2 s2) = (e ∙ ap (script_fault number) (one_fault _ f g r r2) ∙ sym e2, s ∙ sym s2)
once unit row count number room rest x y i j (faulty f h r e s) (passed h2 r2 z2) = absurd (err_ok _ f None r r2)
once unit row count number room rest x y i j (faulty f h r e s) (taken c2 n2 m2 h2 r2 k2 z2 e2) = absurd (err_ok _ f (Some c2) r r2)
once unit row count number room rest x y i j (faulty f h r e s) (overflow c2 h2 r2 k2 e2 s2) = absurd (err_ok _ f (Some c2) r r2)
once unit row count number room rest x y i j (passed h r z) (closed q h2 o2 e2 s2) = absurd (o2 (sym h2 ∙ h))
once unit row count number room rest x y i j (passed h r z) (faulty g h2 r2 e2 s2) = absurd (err_ok _ g None r2 r)
once unit row count number room rest x y i j (passed h r z) (passed h2 r2 z2) = once unit row count (number + 1) (room - length (line_with_end rest)) (behind rest) x y i j z z2
once unit row count number room rest x y i j (passed h r z) (taken c2 n2 m2 h2 r2 k2 z2 e2) = absurd (none_some _ c2 r r2)
once unit row count number room rest x y i j (passed h r z) (overflow c2 h2 r2 k2 e2 s2) = absurd (none_some _ c2 r r2)
once unit row count number room rest x y i j (taken c n m h r k z e) (closed q h2 o2 e2 s2) = absurd (o2 (sym h2 ∙ h))
once unit row count number room rest x y i j (taken c n m h r k z e) (faulty g h2 r2 e2 s2) = absurd (err_ok _ g (Some c) r2 r)
once unit row count number room rest x y i j (taken c n m h r k z e) (passed h2 r2 z2) = absurd (none_some _ c r2 r)
once unit row count number room rest x y i j (taken c n m h r k z e) (taken c2 n2 m2 h2 r2 k2 z2 e2) =
    let same : n ≡ n2 = same_row unit row n n2 c c2 (one_call _ c c2 r r2) k k2 in
    let later = once unit n2 (count + 1) (number + 1) (room - length (line_with_end rest)) (behind rest) m m2 i j
    (subst (λ (a : Objects). RunsCalls unit a (count + 1) (number + 1) (room - length (line_with_end rest)) (behind rest) m i) same z) z2 in
    (e ∙ ap (λ (a : Objects). objects_text unit (count + 1) a ++ m) same ∙ ap (λ (t : List ℕ). objects_text unit (count + 1) n2 ++ t) later.0 ∙ sym e2, later.1)
once unit row count number room rest x y i j (taken c n m h r k z e) (overflow c2 h2 r2 k2 e2 s2) = absurd (not_both unit row n c c2 (one_call _ c c2 r r2) k k2)
once unit row count number room rest x y i j (overflow c h r k e s) (closed q h2 o2 e2 s2) = absurd (o2 (sym h2 ∙ h))
once unit row count number room rest x y i j (overflow c h r k e s) (faulty g h2 r2 e2 s2) = absurd (err_ok _ g (Some c) r2 r)
once unit row count number room rest x y i j (overflow c h r k e s) (passed h2 r2 z2) = absurd (none_some _ c r2 r)
once unit row count number room rest x y i j (overflow c h r k e s) (taken c2 n2 m2 h2 r2 k2 z2 e2) = absurd (not_both unit row n2 c2 c (one_call _ c2 c r2 r) k2 k)
once unit row count number room rest x y i j (overflow c h r k e s) (overflow c2 h2 r2 k2 e2 s2) = (e ∙ sym e2, s ∙ sym s2)
