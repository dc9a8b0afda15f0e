-- `eval_shortcuts::has_flats` meets its contract: what it reads is there.
use Rattle.eval_shortcuts.proofs.has_flats.Goals as goal

pub is_plain-requires : goal.is_plain-requires
is_plain-requires c = record { few = c.requires.given.few_p; L = _; ss = c.requires.descends.ss; q = c.requires.descends.q; k = c.requires.descends.k; at = c.requires.descends.at }

pub asks_member-requires : goal.asks_member-requires
asks_member-requires c = record { few = c.requires.given.few_p; L = _; few_l = c.requires.given.few_l; ss = c.requires.descends.ss; q = c.requires.descends.q; k = c.requires.descends.k; at = c.requires.descends.at }
