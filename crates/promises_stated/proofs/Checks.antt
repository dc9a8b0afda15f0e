-- The first of the refusals of a table, with any rules behind them. Assumes nothing.
use Rattle.std.specs.Prelude.{ℕ, List, ◌++◌}
use Rattle.std.proofs.Math.Path.{◌≡◌, refl}
use Rattle.std.proofs.Math.Logic.{inl}
use Rattle.definition.specs.Tables.{Checked, check_table}
use Rattle.definition.specs.Tables.Checked.{accepted, sized, wrong_at, text_at}
use Rattle.promises_stated.specs.Refusals.{Rule, First, table_rules}
use Rattle.promises_stated.specs.Checks.{checked_or, sized_why, wrong_first, text_first, accepted_first}

module _ (T X : List ℕ) where
  pub table_first : (rs : List Rule) (k : ℕ) (c : Checked) → check_table T X ≡ c → (c ≡ accepted → First rs k) → First (table_rules T X ++ rs) (checked_or k c)
  table_first rs k accepted h f = accepted_first T X rs k h (f refl)
  table_first rs k sized h f = inl (refl, sized_why T X h)
  table_first rs k (wrong_at i) h f = wrong_first T X rs i h
  table_first rs k (text_at i) h f = text_first T X rs i h
