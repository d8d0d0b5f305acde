use Rattle.std.proofs.Common.{true, false, refl}
use Rattle.dd_store.specs.declared.memo.Join.TheVariants.{Not}
use Rattle.dd_build.proofs.Leaves.{with_leaf}
use Rattle.test_diagrams.proofs.small.noted_negation.Goals as goal

pub note-requires : goal.note-requires
note-requires c =
    let held = c.recall.new.self in
    let yes = c.leaf-yes.ensures held in
    record {
      left = yes.known;
      right = yes.known;
      same = λ e. refl;
      has = with_leaf held Not c.leaf-yes.result c.leaf-yes.result c.leaf-no.result true false c.recall.ensures.held (c.leaf-no.ensures held) yes.tree (λ x. refl);
    }
