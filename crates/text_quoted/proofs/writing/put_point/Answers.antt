-- `text_quoted::writing::put_point` meets its contract. The size of the code point decides, and each byte has room.
use native.Mathlib.Omega.{arith}
use lib.ListN.{length-set}
use Rattle.text_quoted.proofs.Storing.{size_one, size_two, size_three, size_four, stored_one, stored_two, stored_three, stored_four}
use Rattle.text_quoted.proofs.writing.put_point.Goals as goal

pub bounds-out-len : goal.bounds-out-len
bounds-out-len c = omega (arith, size_one c.args.c c.if-c-lt128.true)

pub returns-then-c-lt128 : goal.returns-then-c-lt128
returns-then-c-lt128 c = stored_one c.args.out.now c.args.len c.args.c c.if-c-lt128.true

pub bounds-out-len-then-c-lt2048 : goal.bounds-out-len-then-c-lt2048
bounds-out-len-then-c-lt2048 c = omega (arith, size_two c.args.c c.if-c-lt128.false c.if-c-lt2048.true)

pub bounds-out-len-then-c-lt2048-2 : goal.bounds-out-len-then-c-lt2048-2
bounds-out-len-then-c-lt2048-2 c = simp length-set (omega (arith, size_two c.args.c c.if-c-lt128.false c.if-c-lt2048.true))

pub shape_of-out-then-c-lt2048 : goal.shape_of-out-then-c-lt2048
shape_of-out-then-c-lt2048 c = simp length-set

pub returns-then-c-lt2048 : goal.returns-then-c-lt2048
returns-then-c-lt2048 c = stored_two c.args.out.now c.args.len c.args.c c.if-c-lt128.false c.if-c-lt2048.true

pub bounds-out-len-then-c-lt65536 : goal.bounds-out-len-then-c-lt65536
bounds-out-len-then-c-lt65536 c = omega (arith, size_three c.args.c c.if-c-lt2048.false c.if-c-lt65536.true)

pub bounds-out-len-then-c-lt65536-2 : goal.bounds-out-len-then-c-lt65536-2
bounds-out-len-then-c-lt65536-2 c = simp length-set (omega (arith, size_three c.args.c c.if-c-lt2048.false c.if-c-lt65536.true))

pub bounds-out-len-then-c-lt65536-3 : goal.bounds-out-len-then-c-lt65536-3
bounds-out-len-then-c-lt65536-3 c = simp length-set (omega (arith, size_three c.args.c c.if-c-lt2048.false c.if-c-lt65536.true))

pub shape_of-out-then-c-lt65536 : goal.shape_of-out-then-c-lt65536
shape_of-out-then-c-lt65536 c = simp length-set

pub returns-then-c-lt65536 : goal.returns-then-c-lt65536
returns-then-c-lt65536 c = stored_three c.args.out.now c.args.len c.args.c c.if-c-lt2048.false c.if-c-lt65536.true

pub bounds-out-len-2 : goal.bounds-out-len-2
bounds-out-len-2 c = omega (arith, size_four c.args.c c.if-c-lt65536.false)

pub bounds-out-len-3 : goal.bounds-out-len-3
bounds-out-len-3 c = simp length-set (omega (arith, size_four c.args.c c.if-c-lt65536.false))

pub bounds-out-len-4 : goal.bounds-out-len-4
bounds-out-len-4 c = simp length-set (omega (arith, size_four c.args.c c.if-c-lt65536.false))

pub bounds-out-len-5 : goal.bounds-out-len-5
bounds-out-len-5 c = simp length-set (omega (arith, size_four c.args.c c.if-c-lt65536.false))

pub shape_of-out : goal.shape_of-out
shape_of-out c = simp length-set

pub returns : goal.returns
returns c = stored_four c.args.out.now c.args.len c.args.c c.if-c-lt65536.false
