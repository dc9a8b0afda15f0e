-- Document 01's sample rows (specs/Rows), starred and others, each table under one theorem.
use Rattle.definition_examples.specs.Rows.{AllGive, starred_rows, other_rows, all_give, starred_hold, others_hold}

pub starred : AllGive starred_rows
starred = all_give starred_rows starred_hold

pub others : AllGive other_rows
others = all_give other_rows others_hold
