use Rattle.std.proofs.Common.{◌∷◌, [], map, arith, sym, subst}
use Rattle.std.proofs.lemmas.Grind.{common_steps}
use Rattle.std.proofs.lemmas.List.{map-append}
use Rattle.std.specs.Map.Iter.{deref_pair}
use Rattle.entity_uids.specs.Tokens.{AppendsAll}
use Rattle.sync_format.specs.inner.SummaryWriting.{stamps_json}
use Rattle.entity_uids.proofs.Appending.{none_written}
use Rattle.sync_format.proofs.Stamps.{one_more}
use Rattle.sync_format.proofs.summary_writing.write_each.Goals as goal

pub loop-name-init : goal.loop-name-init
loop-name-init g c = record { rest = c.into_iter-name-iterator.ensures.into_iter_gives; written = none_written c.args.out.now }

pub loop-name-preserved : goal.loop-name-preserved
loop-name-preserved g c =
    let written = one_more g.N.Lent.named (map deref_pair c.loop-name.yielded) (c.in-Some.name.now, c.in-Some.entry.now) c.loop-name.invariant.written c.in_ok-write_stamp.ensures in
    record {
      rest = grind (arith, common_steps);
      written = subst (λ es. AppendsAll c.args.out.now c.write_stamp.new.out (stamps_json g.N.Lent.named es)) (sym (map-append deref_pair c.loop-name.yielded ((c.in-Some.name, c.in-Some.entry) ∷ []))) written;
    }
