-- The key is compared as a part of the text; one of another length is not read.
use native.Mathlib.Omega.{arith}
use mathlib.Core.Path.{sym, ◌∙◌, ap}
use mathlib.Core.List.{List}
use Prim.Native.Nat.{ℕ, ◌+◌}
use Rattle.definition.specs.Bytes.{same_bytes}
use Rattle.table_laws.specs.Keys.{key_unlike, key_span}
use borrow.Author.Rules.{rules}
use Rattle.table.proofs.keys.same_key.Goals as goal

pub returns-then-size-key : goal.returns-then-size-key
returns-then-size-key c = sym (key_unlike c.args.table.now c.args.text.now c.args.node c.args.key.now (c.requires.keys c.args.node (omega arith) (omega arith)) (omega arith))

pub returns : goal.returns
returns c =
    c.same_bytes.ensures
    ∙ ap (λ (l : List ℕ). same_bytes l c.args.key.now) (key_span c.args.table.now c.args.text.now c.args.node c.key_start-start.result (c.key_start-start.result + c.key_length-size.result) (omega arith) (omega arith))
