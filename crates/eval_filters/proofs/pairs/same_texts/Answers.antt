-- `same_texts` meets its contract.
use mathlib.Core.Path.{refl}
use mathlib.Core.Bool.{true}
use Rattle.eval_filters.specs.Pairs.{texts_inside, texts_same}
use Rattle.eval_filters.proofs.pairs.same_texts.Goals as goal

pub same_part-requires : goal.same_part-requires
same_part-requires c = texts_inside c.requires.ask_nodes 0 true c.requires.m_value.0 c.requires.m_value.1 _ _ _ _ c.text_start-a.ensures c.text_length-p.ensures c.text_start-b.ensures c.text_length-q.ensures

pub returns : goal.returns
returns c = texts_same c.requires.ask_nodes 0 _ c.requires.m_value.0 c.requires.m_value.1 _ _ _ _ c.text_start-a.ensures c.text_length-p.ensures c.text_start-b.ensures c.text_length-q.ensures refl c.same_part.ensures
