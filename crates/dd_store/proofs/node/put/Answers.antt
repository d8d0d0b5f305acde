use Rattle.std.proofs.Common.{◌≡◌, ◌⊎◌, ℕ, ◌<◌, List, [], ◌∷◌, ◌++◌, length, Contains, Bool, true, false, cond, Result, Ok, Err, IfOk, is_some, refl, sym, ap, ◌∙◌, inl, inr, arith}
use Rattle.std.proofs.lemmas.List.{map-append, length-map}
use Rattle.std.proofs.lemmas.Option.{slice_get-get_or}
use Rattle.std.proofs.lemmas.List.Quantifiers.{position-Some}
use Rattle.std.specs.List.{list_any, position, AllByRecursion}
use Rattle.std.specs.Result.{result_ok}
use Rattle.dd_store.specs.declared.node.NodeKey.{NodeKey}
use Rattle.dd_store.specs.declared.store.StoreFault.{StoreFault}
use Rattle.dd_store.specs.Keys.{node_of, nodes_of, IsJoinedKey, Puts}
use Rattle.dd_store.proofs.KeyLemmas.{node_key_eq, absent, here}
use Rattle.dd_store.proofs.node.put.Goals as goal

-- a set's insertion as nodes
kept : (old new : List NodeKey) (k : NodeKey) (limit : ℕ) → IsJoinedKey k → AllByRecursion IsJoinedKey old → length old < limit → new ≡ cond (list_any (node_key_eq k) old) old (old ++ k ∷ [])
    → (nodes_of new ≡ nodes_of old) ⊎ ((nodes_of new ≡ nodes_of old ++ node_of k ∷ []) × (length (nodes_of old) < limit) × (Contains (nodes_of old) (node_of k) → ⊥))
kept old new k limit hk all room e = by (list_any (node_key_eq k) old) refl
  where
    by : (b : Bool) → list_any (node_key_eq k) old ≡ b → (nodes_of new ≡ nodes_of old) ⊎ ((nodes_of new ≡ nodes_of old ++ node_of k ∷ []) × (length (nodes_of old) < limit) × (Contains (nodes_of old) (node_of k) → ⊥))
    by true q = inl (ap nodes_of (e ∙ ap (λ b. cond b old (old ++ k ∷ [])) q))
    by false q = inr (ap nodes_of (e ∙ ap (λ b. cond b old (old ++ k ∷ [])) q) ∙ map-append node_of old (k ∷ []), omega (arith, length-map old node_of), absent k old hk all q)

-- a place that a look-up finds
found : (ks : List NodeKey) (k : NodeKey) (limit : ℕ) (r : Result ℕ StoreFault) → position (node_key_eq k) ks ≡ result_ok r → IfOk r (Puts (nodes_of ks) (nodes_of ks) (node_of k) limit)
found ks k limit (Err fault) e = tt
found ks k limit (Ok i) e =
    let p = position-Some (node_key_eq k) ks i k e in
    record { here = here k _ ks i (slice_get-get_or ks i k p.0) p.1; kept = inl refl }

pub returns-then-len-limit-clause-placed : goal.returns-then-len-limit-clause-placed
returns-then-len-limit-clause-placed c = record {
  here = let s = c.in_ok-place.ensures.stored in here c.args.key s.0 c.insert_full.new.self.keys c.in_ok-place.place s.1 s.2;
  kept = kept c.args.nodes.now.keys c.insert_full.new.self.keys c.args.key c.args.limit c.requires.key c.requires.joined (omega arith) c.in_ok-place.ensures.keys;
}

pub returns-clause-placed : goal.returns-clause-placed
returns-clause-placed c = found c.args.nodes.now.keys c.args.key c.args.limit c.ok_or.result (sym c.get_index_of.ensures.index ∙ c.ok_or.ensures.ok_part)

pub returns-clause-absent : goal.returns-clause-absent
returns-clause-absent c e =
    absent c.args.key c.args.nodes.now.keys c.requires.key c.requires.joined (sym c.get_index_of.ensures.found ∙ ap is_some (c.ok_or.ensures.ok_part ∙ ap result_ok e))
