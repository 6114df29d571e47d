use Rattle.schema.proofs.SchemasRead.{declarations_are_read}
use Rattle.schema.proofs.laws.declarations_are_read_as_stated.Goals as goal

pub returns : goal.returns
returns c =
    declarations_are_read (record { idents = c.path_tests_are_exact.ensures.idents; paths = c.path_tests_are_exact.ensures.paths })
    (record {
      cycles = c.cycles_have_no_expansion.ensures;
      back = c.what_has_no_expansion_leads_back.ensures;
      own = c.files_name_their_own.ensures;
      once = c.files_are_in_order.ensures.once;
    })
