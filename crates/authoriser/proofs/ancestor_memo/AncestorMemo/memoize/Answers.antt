use Rattle.std.specs.Prelude.{◌∷◌, ◌++◌, []}
use Rattle.std.proofs.lemmas.List.Elements.{All-same, All-push}
use Rattle.authoriser.specs.inner.Views.{HasAllAncestors}
use Rattle.authoriser.proofs.ancestor_memo.AncestorMemo.memoize.Goals as goal

pub returns : goal.returns
returns g c =
    let P = HasAllAncestors (g.S.Ancestry.parents c.args.store.now) in
    let before = c.args.self.now.kept.items in
    All-same P c.push.new.self.items (before ++ c.in_ok-other.other ∷ []) c.in_ok-push.ensures.items (All-push P before c.in_ok-other.other c.requires c.in_ok-other.ensures)
