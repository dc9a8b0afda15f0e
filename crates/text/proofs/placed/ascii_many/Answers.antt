-- `text::placed::ascii_many` meets its contract: twice 32 ASCII bytes.
use native.Mathlib.Omega.{arith}
use Prim.Native.Nat.{◌+◌}
use mathlib.Core.Bool.{and-eq-true_iff}
use borrow.Author.Tests.{ltb-true}
use Rattle.text.specs.Chars.{is_ascii}
use Rattle.text.proofs.Ascii.{every_join}
use Rattle.text.proofs.Along.{ascii_all, ascii_next, ascii_bytes}
use Rattle.text.proofs.placed.ascii_many.Goals as goal

pub returns : goal.returns
returns c =
    λ z.
    let t = (and-eq-true_iff _ c.ascii32-2.result).0 z in
    let u = (and-eq-true_iff _ c.ascii32.result).0 t.0 in
    let v = (and-eq-true_iff _ _).0 u.0 in
    let w = (and-eq-true_iff _ _).0 v.0 in
    let all = every_join is_ascii c.args.s.now (c.args.at + 3) 32 32 (c.ascii32.ensures u.1) (rw (ascii_next c.args.at) at (c.ascii32-2.ensures t.1)) in
    ascii_all c.args.s.now c.args.at 64 (ltb-true _ 0xF0 w.0) (ltb-true _ 0xE0 w.1) (ltb-true _ 0xC0 v.1) (ascii_bytes c.args.s.now (c.args.at + 3) 64 (omega arith) all)
