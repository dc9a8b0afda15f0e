-- `regex_states::learn` meets its contract.
use Rattle.regex_states.proofs.Tables.{moved_on, moved_long, placed, note_fits, other_fits, noted, beyond, stepped}
use Rattle.regex_states.proofs.learn.Goals as goal

pub note-requires : goal.note-requires
note-requires c = let f = moved_on c.requires.fact_1 c.requires.fact_2.0 c.requires.fact_2.1 c.load.ensures c.requires.fact_2.2 c.shift-p.ensures in let n = moved_long c.requires.fact_1 c.requires.fact_2.0 c.requires.fact_2.1 c.load.ensures c.requires.fact_2.2 c.shift-p.ensures in let g = placed c.requires.fact_1 n (λ x e. ((f x e).0, (f x e).1)) c.state_of-t.ensures in note_fits c.args.k c.requires.fact_2.0 c.requires.fact_2.1 g

pub note_other-requires : goal.note_other-requires
note_other-requires c = let f = moved_on c.requires.fact_1 c.requires.fact_2.0 c.requires.fact_2.1 c.load.ensures c.requires.fact_2.2 c.shift-p.ensures in let n = moved_long c.requires.fact_1 c.requires.fact_2.0 c.requires.fact_2.1 c.load.ensures c.requires.fact_2.2 c.shift-p.ensures in let g = placed c.requires.fact_1 n (λ x e. ((f x e).0, (f x e).1)) c.state_of-t.ensures in other_fits c.args.k c.requires.fact_2.0 c.requires.fact_2.1 g

pub returns : goal.returns
returns c = let f = moved_on c.requires.fact_1 c.requires.fact_2.0 c.requires.fact_2.1 c.load.ensures c.requires.fact_2.2 c.shift-p.ensures in let n = moved_long c.requires.fact_1 c.requires.fact_2.0 c.requires.fact_2.1 c.load.ensures c.requires.fact_2.2 c.shift-p.ensures in let g = placed c.requires.fact_1 n (λ x e. ((f x e).0, (f x e).1)) c.state_of-t.ensures in let h = noted c.requires.fact_2.0 c.requires.fact_2.1 g c.note.ensures (λ x e. (f x e).2) in stepped n (beyond c.requires.fact_2.0 c.requires.fact_2.1 h c.note_other.ensures (λ x e. (f x e).2)) f
