-- What is derived for classes, one after another.
use Rattle.std.proofs.Common.{◌≡◌, ℕ, ◌+◌, ◌<◌, ◌≤◌, List, [], ◌∷◌, ◌++◌, length, get_or, take, refl, sym, ap, subst, ◌∙◌}
use Rattle.std.proofs.lemmas.List.{take_more, take_all}
use Rattle.scr_spec.specs.Data.{Data}
use Rattle.prove_invariants.specs.Derivations.{HasDerived}
use Rattle.cmd_invariants.specs.declared.derivation.Derivation.{Derivation}
use Rattle.cmd_invariants.specs.Derives.{HaveDerived}

module _ (spec : Data) (order : List ℕ) (limit : ℕ) where
  push : (cs : List ℕ) (ds : List Derivation) (c : ℕ) (d : Derivation) → HaveDerived spec order limit cs ds → d.class ≡ c → HasDerived spec order d.class limit d.derived
      → HaveDerived spec order limit (cs ++ c ∷ []) (ds ++ d ∷ [])
  push [] [] c d h e k = (e, k, tt)
  push [] (b ∷ ds) c d h e k = absurd h
  push (a ∷ cs) [] c d h e k = absurd h
  push (a ∷ cs) (b ∷ ds) c d h e k = (h.0, h.1, push cs ds c d h.2 e k)

  pub one_more : (cs : List ℕ) (ds : List Derivation) (i : ℕ) (d : Derivation) → i < length cs → d.class ≡ get_or cs i 0 → HaveDerived spec order limit (take i cs) ds
      → HasDerived spec order d.class limit d.derived → HaveDerived spec order limit (take (i + 1) cs) (ds ++ d ∷ [])
  one_more cs ds i d lt is h k =
      subst (λ us. HaveDerived spec order limit us (ds ++ d ∷ [])) (ap (λ u. take i cs ++ u ∷ []) is ∙ sym (take_more cs i 0 lt)) (push (take i cs) ds d.class d h refl k)

  pub all_of_them : (cs : List ℕ) (ds : List Derivation) (i : ℕ) → length cs ≤ i → HaveDerived spec order limit (take i cs) ds → HaveDerived spec order limit cs ds
  all_of_them cs ds i le h = subst (λ us. HaveDerived spec order limit us ds) (take_all i cs le) h

pub ruleset list_laws = (one_more, all_of_them)
