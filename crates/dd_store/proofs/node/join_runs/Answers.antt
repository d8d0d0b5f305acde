use Rattle.std.proofs.Common.{◌≡◌, ◌≢◌, ℕ, Bool, true, false, not, eqb, inl, inr, sym, ◌∙◌, ap, true≢false, refl}
use Rattle.std.proofs.lemmas.Bool.{eqb-true, eq-eqb, false≢true}
use Rattle.dd_store.proofs.RunLemmas.{next_run}
use Rattle.dd_store.proofs.node.join_runs.Goals as goal
use Rattle.dd_store.proofs.node.join_runs.Goals.{then-ne+in_ok-push, else-ne}

-- numbers that a test tells apart
differ : (a b : ℕ) → not (eqb a b) ≡ true → a ≢ b
differ a b h e = false≢true (sym (ap not (eq-eqb a b e)) ∙ h)

not_false : (b : Bool) → not b ≡ false → b ≡ true
not_false true h = refl
not_false false h = absurd (true≢false h)

pub loop-index-preserved : goal.loop-index-preserved
loop-index-preserved c =
    elim c.if-ne.branch [
      | then-ne+in_ok-push w ↦ next_run c.args.runs.now c.loop-index.out.items c.if-ne.out.items c.loop-index.tail c.index-runs-index.result c.loop-index.index c.loop-index.invariant c.loop-index-test.true c.index-runs-index.is
          (inr (ap (λ v. v.items) w.out-is ∙ w.in_ok-push.ensures.items, differ _ _ (sym c.ne.ensures ∙ w.if-ne.true)))
      | else-ne w ↦ next_run c.args.runs.now c.loop-index.out.items c.if-ne.out.items c.loop-index.tail c.index-runs-index.result c.loop-index.index c.loop-index.invariant c.loop-index-test.true c.index-runs-index.is
          (inl (ap (λ v. v.items) w.out-is, eqb-true _ _ (not_false _ (sym c.ne.ensures ∙ w.if-ne.false))))
    ]
