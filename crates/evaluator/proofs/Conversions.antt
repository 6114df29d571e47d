-- The lists that sets and records were made of.
use Rattle.values.specs.Values.{list_of-values_of, pairs_of-fields_of}

pub ruleset conversions = (list_of-values_of, pairs_of-fields_of)
