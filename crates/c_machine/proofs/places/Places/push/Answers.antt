use Rattle.std.proofs.Common.{◌≡◌, ◌∷◌, ◌++◌, [], length, ℕ, List, sym, subst, ap, ◌∙◌}
use Rattle.std.specs.Option.{unwrap_or}
use Rattle.c_subset.specs.Meaning.{place_of}
use Rattle.c_machine.specs.Places.{HasEnds}
use Rattle.c_machine.proofs.Numbering.{HasEnds-push}
use Rattle.c_machine.proofs.places.Places.push.Goals as goal

pub invariant_of-self-in-Ok : goal.invariant_of-self-in-Ok
invariant_of-self-in-Ok c =
    let first : c.unwrap_or-first.result ≡ unwrap_or (place_of c.self.inside.names c.args.name.now) (length c.self.inside.names) = cc in
    let added : c.push.new.self ≡ c.self.inside.names ++ c.args.name.now ∷ [] =
    c.in_ok-push.ensures.ok ∙ ap (λ n. c.self.inside.names ++ n ∷ []) c.in_ok-name.ensures
    in
    subst (λ (names : List (List ℕ)). HasEnds names c.insert.new.self.entries) (sym added)
    (HasEnds-push c.self.inside.names c.self.inside.ends.entries c.insert.new.self.entries c.in_ok-key.key
    (record { first = c.unwrap_or-first.result; last = c.len-last.result })
    c.args.name.now c.self.invariant (c.in_ok-key.ensures.items ∙ c.as_slice-2.ensures) first c.len-last.ensures c.in-Ok.ensures.entries)
