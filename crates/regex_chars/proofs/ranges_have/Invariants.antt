-- `regex_chars::ranges_have` meets its contract.
use Prim.Native.Nat.{◌+◌, ◌-◌, ◌*◌}
use Rattle.regex_chars.specs.Classes.{Scanning}
use Rattle.regex_chars.proofs.ranges_have.Given as goal

abbrev pub invariant-loop-k : goal.invariant-loop-k
invariant-loop-k l = Scanning l.code l.at l.n l.c (l.at + 2 * l.k) (l.n - l.k)
