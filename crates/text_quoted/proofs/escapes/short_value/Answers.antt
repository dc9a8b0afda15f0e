-- `text_quoted::escapes::short_value` meets its contract. A letter at a time.
use native.Mathlib.Omega.{arith}
use Rattle.text_quoted.specs.Pieces.{short_code}
use Rattle.definition.specs.Literals.{short_value}
use Rattle.text_quoted.proofs.Letters.{short_none}
use Rattle.text_quoted.proofs.escapes.short_value.Goals as goal

pub returns-in-98 : goal.returns-in-98
unfolding short_code short_value
returns-in-98 c = rw c.in-98.is

pub returns-in-102 : goal.returns-in-102
unfolding short_code short_value
returns-in-102 c = rw c.in-102.is

pub returns-in-110 : goal.returns-in-110
unfolding short_code short_value
returns-in-110 c = rw c.in-110.is

pub returns-in-114 : goal.returns-in-114
unfolding short_code short_value
returns-in-114 c = rw c.in-114.is

pub returns-in-116 : goal.returns-in-116
unfolding short_code short_value
returns-in-116 c = rw c.in-116.is

pub returns-in-47 : goal.returns-in-47
unfolding short_code short_value
returns-in-47 c = rw c.in-47.is

pub returns-in-92 : goal.returns-in-92
unfolding short_code short_value
returns-in-92 c = rw c.in-92.is

pub returns-in_default : goal.returns-in_default
returns-in_default c = short_none c.args.b (λ e. omega arith) (λ e. omega arith) (λ e. omega arith) (λ e. omega arith) (λ e. omega arith) (λ e. omega arith) (λ e. omega arith)
