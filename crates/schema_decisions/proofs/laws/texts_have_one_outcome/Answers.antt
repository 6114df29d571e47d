use Rattle.schema_decisions.proofs.OutcomeLemmas.{one_line, not_both, one_refusal, line_or_refusal, lines_ascend, alike}
use Rattle.schema_decisions.proofs.laws.texts_have_one_outcome.Goals as goal

pub returns-clause-one_line : goal.returns-clause-one_line
returns-clause-one_line c =
    one_line (record {
      some_schema = c.bytes_have_one_outcome.ensures.some_outcome;
      one_schema = c.bytes_have_one_outcome.ensures.one_schema;
      no_schema = c.bytes_have_one_outcome.ensures.not_both;
      schema_refusals = c.bytes_have_one_outcome.ensures.one_refusal;
      text_laws = record {
        each = c.file_names_differ.ensures.each;
        differ = c.file_names_differ.ensures.differ;
        files = c.texts_have_one_reading.ensures.file;
        answers = c.answers_are_lawful.ensures.finite;
      };
      setting_laws = record {
        checked = c.policies_have_one_outcome.ensures.one;
        apart = c.policies_have_one_outcome.ensures.apart;
        request = c.requests_have_one_outcome.ensures.some;
        one_request = c.requests_have_one_outcome.ensures.one_request;
        no_request = c.requests_have_one_outcome.ensures.not_both;
        request_refusals = c.requests_have_one_outcome.ensures.one_refusal;
      };
    })

pub returns-clause-not_both : goal.returns-clause-not_both
returns-clause-not_both c =
    not_both (record {
      some_schema = c.bytes_have_one_outcome.ensures.some_outcome;
      one_schema = c.bytes_have_one_outcome.ensures.one_schema;
      no_schema = c.bytes_have_one_outcome.ensures.not_both;
      schema_refusals = c.bytes_have_one_outcome.ensures.one_refusal;
      text_laws = record {
        each = c.file_names_differ.ensures.each;
        differ = c.file_names_differ.ensures.differ;
        files = c.texts_have_one_reading.ensures.file;
        answers = c.answers_are_lawful.ensures.finite;
      };
      setting_laws = record {
        checked = c.policies_have_one_outcome.ensures.one;
        apart = c.policies_have_one_outcome.ensures.apart;
        request = c.requests_have_one_outcome.ensures.some;
        one_request = c.requests_have_one_outcome.ensures.one_request;
        no_request = c.requests_have_one_outcome.ensures.not_both;
        request_refusals = c.requests_have_one_outcome.ensures.one_refusal;
      };
    })

pub returns-clause-one_refusal : goal.returns-clause-one_refusal
returns-clause-one_refusal c =
    one_refusal (record {
      some_schema = c.bytes_have_one_outcome.ensures.some_outcome;
      one_schema = c.bytes_have_one_outcome.ensures.one_schema;
      no_schema = c.bytes_have_one_outcome.ensures.not_both;
      schema_refusals = c.bytes_have_one_outcome.ensures.one_refusal;
      text_laws = record {
        each = c.file_names_differ.ensures.each;
        differ = c.file_names_differ.ensures.differ;
        files = c.texts_have_one_reading.ensures.file;
        answers = c.answers_are_lawful.ensures.finite;
      };
      setting_laws = record {
        checked = c.policies_have_one_outcome.ensures.one;
        apart = c.policies_have_one_outcome.ensures.apart;
        request = c.requests_have_one_outcome.ensures.some;
        one_request = c.requests_have_one_outcome.ensures.one_request;
        no_request = c.requests_have_one_outcome.ensures.not_both;
        request_refusals = c.requests_have_one_outcome.ensures.one_refusal;
      };
    })

pub returns-clause-some : goal.returns-clause-some
returns-clause-some c =
    line_or_refusal (record {
      some_schema = c.bytes_have_one_outcome.ensures.some_outcome;
      one_schema = c.bytes_have_one_outcome.ensures.one_schema;
      no_schema = c.bytes_have_one_outcome.ensures.not_both;
      schema_refusals = c.bytes_have_one_outcome.ensures.one_refusal;
      text_laws = record {
        each = c.file_names_differ.ensures.each;
        differ = c.file_names_differ.ensures.differ;
        files = c.texts_have_one_reading.ensures.file;
        answers = c.answers_are_lawful.ensures.finite;
      };
      setting_laws = record {
        checked = c.policies_have_one_outcome.ensures.one;
        apart = c.policies_have_one_outcome.ensures.apart;
        request = c.requests_have_one_outcome.ensures.some;
        one_request = c.requests_have_one_outcome.ensures.one_request;
        no_request = c.requests_have_one_outcome.ensures.not_both;
        request_refusals = c.requests_have_one_outcome.ensures.one_refusal;
      };
    })

pub returns-clause-ascending : goal.returns-clause-ascending
returns-clause-ascending c =
    lines_ascend (record {
      some_schema = c.bytes_have_one_outcome.ensures.some_outcome;
      one_schema = c.bytes_have_one_outcome.ensures.one_schema;
      no_schema = c.bytes_have_one_outcome.ensures.not_both;
      schema_refusals = c.bytes_have_one_outcome.ensures.one_refusal;
      text_laws = record {
        each = c.file_names_differ.ensures.each;
        differ = c.file_names_differ.ensures.differ;
        files = c.texts_have_one_reading.ensures.file;
        answers = c.answers_are_lawful.ensures.finite;
      };
      setting_laws = record {
        checked = c.policies_have_one_outcome.ensures.one;
        apart = c.policies_have_one_outcome.ensures.apart;
        request = c.requests_have_one_outcome.ensures.some;
        one_request = c.requests_have_one_outcome.ensures.one_request;
        no_request = c.requests_have_one_outcome.ensures.not_both;
        request_refusals = c.requests_have_one_outcome.ensures.one_refusal;
      };
    }) c.answers_are_lawful.ensures.ascending

pub returns-clause-alike : goal.returns-clause-alike
returns-clause-alike c = alike c.actions_may_be_closed.ensures.kept
