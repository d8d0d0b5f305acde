use Rattle.std.proofs.Common.{rules, ◌-◌, length, FitsSigned, w64, to_z, of_z, subst}
use Rattle.std.proofs.lemmas.Int.{to_z-of_z}
use Rattle.dd_build.specs.Tails.{IsSettled, tail_of}
use Rattle.dd_build.proofs.Rests.{IsRest-settled, IsTail-from}
use Rattle.dd_build.proofs.linear.leaf_at.Goals as goal

pub returns : goal.returns
returns c =
    let sum : FitsSigned w64 c.args.from.sum = search rules in
    let tail = tail_of c.args.tails.now (length c.args.terms.now - c.args.from.place) in
    IsRest-settled c.args.store.now c.requires.held c.args.op c.args.terms.now c.args.from tail c.in_ok-settled.settled c.leaf.result (IsTail-from c.args.store.now.domains c.args.terms.now c.args.tails.now c.args.from.place c.requires.tails c.requires.from.within)
    (subst (λ z. IsSettled c.args.op tail z c.in_ok-settled.settled) (to_z-of_z w64 c.args.from.sum sum) c.in_ok-settled.ensures) (c.leaf.ensures c.args.store.now)
