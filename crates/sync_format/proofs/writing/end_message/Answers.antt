use Rattle.entity_uids.proofs.Appending.{ends}
use Rattle.sync_format.proofs.writing.end_message.Goals as goal

pub returns : goal.returns
returns c = ends c.end_object.result _ c.end_object.ensures (λ e. record {
  kinded = c.write_text.new.out;
  labelled = c.write_text-2.new.out;
  versioned = c.write_number.new.out;
  kind_is = c.in_ok-write_text.ensures;
  label_is = c.in_ok-write_text-2.ensures;
  version_is = c.in_ok-write_number.ensures;
  closed = e;
})
