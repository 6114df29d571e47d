use Rattle.evaluator.proofs.calls.unary_call.Goals as goal

pub returns-in_ok-text_of-in-Decimal : goal.returns-in_ok-text_of-in-Decimal
returns-in_ok-text_of-in-Decimal c = rw (c.in-Decimal.is, c.in_ok-text_of-in-Decimal.ensures, ← c.as_str.ensures) c.read_decimal.ensures

pub returns-in_ok-text_of-in-Ip : goal.returns-in_ok-text_of-in-Ip
returns-in_ok-text_of-in-Ip c = rw (c.in-Ip.is, c.in_ok-text_of-in-Ip.ensures, ← c.as_str-in-Ip.ensures) c.read_network.ensures
