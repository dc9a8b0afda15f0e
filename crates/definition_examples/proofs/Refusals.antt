-- The rows of specs/Refusals under one theorem: refusals 1 to 3, in their order.
use Rattle.definition_examples.specs.Refusals.{rows, rows_meet, AllMean, all_mean}

pub early_refusals : AllMean rows
early_refusals = all_mean rows rows_meet
