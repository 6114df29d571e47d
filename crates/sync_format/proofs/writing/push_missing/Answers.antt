use Rattle.std.proofs.lemmas.Result.{on_ok_weaker}
use Rattle.stamped_store.specs.EntryOrder.{plain_entry}
use Rattle.sync_format.proofs.Entries.{no_news, one_news}
use Rattle.sync_format.proofs.writing.push_missing.Goals as goal

pub returns-then-not-is_unseen : goal.returns-then-not-is_unseen
returns-then-not-is_unseen g c = no_news c.args.known (g.N.Lent.named c.args.name.now, plain_entry c.args.entry.now) c.is_unseen.result c.args.out.now c.is_unseen.ensures c.if-not-is_unseen.true

pub returns : goal.returns
returns g c = on_ok_weaker c.write_entry.result (one_news c.args.known (g.N.Lent.named c.args.name.now, plain_entry c.args.entry.now) c.is_unseen.result c.is_unseen.ensures c.if-not-is_unseen.false) c.write_entry.ensures
