-- `coded::by_code` meets its contract.
use Rattle.eval_rows.specs.Known.{ready_states}
use Rattle.eval_rows.proofs.coded.by_code.Goals as goal

pub with_states-requires : goal.with_states-requires
with_states-requires c = record { ask_pass = c.requires.ask_pass; call_at = c.requires.call_at; ready = ready_states c.requires.ready }
