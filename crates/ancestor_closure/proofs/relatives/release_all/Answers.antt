use Rattle.std.proofs.Common.{◌∙◌, refl}
use Rattle.ancestor_closure.proofs.relatives.release_all.Goals as goal

pub loop-uid-init : goal.loop-uid-init
loop-uid-init c = record { lists = λ q. refl; children = λ q. refl }

pub loop-uid-preserved : goal.loop-uid-preserved
loop-uid-preserved c = record {
  lists = λ q. c.release.ensures.lists q ∙ c.loop-uid.invariant.lists q;
  children = λ q. c.release.ensures.children q ∙ c.loop-uid.invariant.children q;
}
