-- `regex_plain::begins` meets its contract.
use Rattle.regex_plain.proofs.Texts.{Passing}
use Prim.Native.Nat.{◌+◌, ◌-◌, ◌*◌}
use Rattle.regex_plain.proofs.begins.Given as goal

abbrev pub invariant-loop-k : goal.invariant-loop-k
invariant-loop-k l = Passing l.code l.at l.n l.text l.from l.to (l.at + 6 * l.k) (l.n - l.k) l.i
