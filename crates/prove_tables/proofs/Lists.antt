-- The verdicts on tables, one after another.
use Rattle.std.proofs.Common.{◌≡◌, ℕ, ◌+◌, ◌<◌, ◌≤◌, List, [], ◌∷◌, ◌++◌, length, get_or, take, sym, ap, subst, ◌∙◌}
use Rattle.std.proofs.lemmas.List.{take_more, take_all}
use Rattle.scr_spec.specs.Data.{Data}
use Rattle.scr_spec.specs.declared.table.Table.{Table}
use Rattle.prove_tables.specs.declared.verdict.Verdict.{Verdict}
use Rattle.prove_tables.specs.Verdicts.{HasVerdict, HaveVerdicts}

module _ (spec : Data) (order : List ℕ) (limit : ℕ) where
  push : (ts : List Table) (vs : List Verdict) (t : Table) (v : Verdict) → HaveVerdicts spec order limit ts vs → HasVerdict spec order t.variable limit v → HaveVerdicts spec order limit (ts ++ t ∷ []) (vs ++ v ∷ [])
  push [] [] t v h k = (k, tt)
  push [] (w ∷ vs) t v h k = absurd h
  push (s ∷ ts) [] t v h k = absurd h
  push (s ∷ ts) (w ∷ vs) t v h k = (h.0, push ts vs t v h.1 k)

  pub one_more : (ts : List Table) (vs : List Verdict) (i : ℕ) (t : Table) (v : Verdict) → i < length ts → t ≡ get_or ts i t → HaveVerdicts spec order limit (take i ts) vs → HasVerdict spec order t.variable limit v
      → HaveVerdicts spec order limit (take (i + 1) ts) (vs ++ v ∷ [])
  one_more ts vs i t v lt is h k =
      subst (λ us. HaveVerdicts spec order limit us (vs ++ v ∷ [])) (ap (λ u. take i ts ++ u ∷ []) is ∙ sym (take_more ts i t lt)) (push (take i ts) vs t v h k)

  pub all_of_them : (ts : List Table) (vs : List Verdict) (i : ℕ) → length ts ≤ i → HaveVerdicts spec order limit (take i ts) vs → HaveVerdicts spec order limit ts vs
  all_of_them ts vs i le h = subst (λ us. HaveVerdicts spec order limit us vs) (take_all i ts le) h

pub ruleset list_laws = (one_more, all_of_them)
