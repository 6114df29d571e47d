use Rattle.explanations.specs.Codes.{codes_of_group}
use Rattle.explanations.specs.CodeText.{rows_of_group}
use Rattle.explanations.proofs.FoundCodes.{found_texts, rows_codes, rows_clean, is_known, found_clean}
use Rattle.explanations.proofs.table.words_of.Goals as goal

pub returns-clause-found : goal.returns-clause-found
returns-clause-found c =
    found_texts c.args.code c.rows_of.result.now (rows_of_group c.args.code) c.row_with_code.result c.row_with_code.ensures c.rows_of.ensures

pub returns-clause-known : goal.returns-clause-known
returns-clause-known c =
    let table = rows_of_group c.args.code in
    is_known c.args.code table c.row_with_code.result (codes_of_group c.args.code)
    (found_texts c.args.code c.rows_of.result.now table c.row_with_code.result c.row_with_code.ensures c.rows_of.ensures) (rows_codes c.args.code)

pub returns-clause-clean : goal.returns-clause-clean
returns-clause-clean c =
    let table = rows_of_group c.args.code in
    found_clean c.args.code table c.row_with_code.result
    (found_texts c.args.code c.rows_of.result.now table c.row_with_code.result c.row_with_code.ensures c.rows_of.ensures) (rows_clean c.args.code)
